-- The comparison is that of `is_level`.
use mathlib.Core.Path.{refl}
use Rattle.rules.specs.Rules.{is_level}
use Rattle.rules.proofs.level.Goals as goal

pub returns : goal.returns
unfolding is_level
returns c = refl
