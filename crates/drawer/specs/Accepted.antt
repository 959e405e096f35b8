-- A path that keeps every rule, as the path that it is.
use Rattle.path.specs.Path.{Path, path}
use Rattle.drawer.specs.declared.Accepted.{Accepted}

abbrev pub held : Accepted → Path
held a = path a.points.now a.shape a.limits
