-- The comparisons are those of `are_limits`.
use mathlib.Core.Path.{refl}
use Rattle.rules.specs.Rules.{are_limits}
use Rattle.rules.proofs.Limits.lawful.Goals as goal

pub returns : goal.returns
unfolding are_limits
returns c = refl
