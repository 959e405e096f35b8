-- What is put, with the lines that are still to come, is the text of all the lines.
use Rattle.text.proofs.Pieces.{Gathers}
use Rattle.listing_text.specs.Pieces.{lines_in}
use Rattle.printing.proofs.lines.put_entries.Given as goal

abbrev pub invariant-loop-i : goal.invariant-loop-i
invariant-loop-i l = Gathers l.text (lines_in l.list l.i l.count l.k) l.initial.text (lines_in l.list l.from l.count l.k)
