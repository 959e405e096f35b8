-- The comparisons are those of `is_finest`.
use mathlib.Core.Path.{refl}
use Rattle.rules.specs.Rules.{is_finest}
use Rattle.rules.proofs.finest.Goals as goal

pub returns : goal.returns
unfolding is_finest
returns c = refl
