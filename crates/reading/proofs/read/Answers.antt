-- The count is of 32 bits: an accepted sheet has few bytes.
use mathlib.Core.Path.{sym}
use native.Mathlib.Omega.{arith}
use Rattle.sheet.proofs.Reading.{headed}
use Rattle.reading.proofs.Flat.{numbers_count}
use Rattle.reading.proofs.read.Goals as goal

pub overflow_cast-result : goal.overflow_cast-result
overflow_cast-result c =
    let kept = sym c.in_ok-check_sheet.ensures in
    omega (arith, c.number_count-count.ensures, numbers_count _ kept, (headed _ kept).most)
