-- The number, and then what follows it.
use mathlib.Core.Path.{ap}
use mir.Facts.{to_z-of_z}
use Rattle.text.specs.Decimal.{numeral}
use Rattle.text.proofs.Pieces.{gains_as, gains_both}
use Rattle.listing_text.specs.Lines.{followed}
use Rattle.printing.proofs.lines.put_followed.Goals as goal

pub returns : goal.returns
unfolding followed
returns c = gains_both (gains_as (ap numeral (to_z-of_z c.ranges.z)) c.put_number.ensures) c.put.ensures
