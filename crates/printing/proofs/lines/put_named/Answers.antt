-- The word, and then its number.
use mathlib.Core.Path.{ap}
use Rattle.text.specs.Decimal.{decimal}
use Rattle.text.proofs.Pieces.{gains_as, gains_both}
use Rattle.listing_text.specs.Lines.{named}
use Rattle.printing.proofs.lines.put_named.Goals as goal

pub returns : goal.returns
unfolding named
returns c = gains_both c.put.ensures (gains_as (ap decimal c.from.ensures) c.put_count.ensures)
