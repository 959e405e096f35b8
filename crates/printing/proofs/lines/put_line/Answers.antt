-- The word with its number, and the end of the line.
use Rattle.text.proofs.Pieces.{gains_both}
use Rattle.printing.proofs.lines.put_line.Goals as goal

pub returns : goal.returns
returns c = gains_both c.put_named.ensures c.put.ensures
