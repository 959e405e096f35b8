-- Each arm is a case of `move`, whose name is a word of the language and cannot stand in an attribute.
use borrow.Author.Rules.{rules}
use Rattle.cleaned.specs.Moves.{move}
use Rattle.cleaner.proofs.move_of.Goals as goal

pub returns-in-true-true : goal.returns-in-true-true
unfolding move
returns-in-true-true c = search rules

pub returns-in-true-false : goal.returns-in-true-false
unfolding move
returns-in-true-false c = search rules

pub returns-in-false-true : goal.returns-in-false-true
unfolding move
returns-in-false-true c = search rules

pub returns-in-false-false : goal.returns-in-false-false
unfolding move
returns-in-false-false c = search rules
