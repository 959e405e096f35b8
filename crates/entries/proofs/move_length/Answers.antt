-- `search` finds it without this line too: must-fail/paired_length_looks_at_the_width gives its own proof here, which `search` does not find.
use borrow.Author.Rules.{rules}
use Rattle.entries.specs.Length.{move_length}
use Rattle.entries.proofs.move_length.Goals as goal

pub returns-in-true-true : goal.returns-in-true-true
unfolding move_length
returns-in-true-true c = search rules
