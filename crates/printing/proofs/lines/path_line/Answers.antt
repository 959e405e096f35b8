-- Three words with their numbers, and the end of the line.
use Rattle.text.proofs.Pieces.{gains_both}
use Rattle.listing_text.specs.Lines.{path_line}
use Rattle.printing.proofs.lines.path_line.Goals as goal

pub returns : goal.returns
unfolding path_line
returns c = gains_both (gains_both (gains_both c.put_named.ensures c.put_named-2.ensures) c.put_named-3.ensures) c.put.ensures
