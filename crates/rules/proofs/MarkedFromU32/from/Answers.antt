-- Below 256 a cubic, from 256 on a quadratic.
use mathlib.Core.Path.{sym}
use Rattle.rules.proofs.Marks.{marks_cubic, marks_quadratic}
use Rattle.rules.proofs.MarkedFromU32.from.Goals as goal

pub returns-then-mark-lt-QUADRATIC_MARK : goal.returns-then-mark-lt-QUADRATIC_MARK
returns-then-mark-lt-QUADRATIC_MARK c = sym (marks_cubic c.args.mark c.if-mark-lt-QUADRATIC_MARK.true)

pub returns : goal.returns
returns c = sym (marks_quadratic c.args.mark c.if-mark-lt-QUADRATIC_MARK.false)
