-- The comparisons are those of `is_segments`.
use mathlib.Core.Path.{refl}
use Rattle.rules.specs.Rules.{is_segments}
use Rattle.rules.proofs.segments.Goals as goal

pub returns : goal.returns
unfolding is_segments
returns c = refl
