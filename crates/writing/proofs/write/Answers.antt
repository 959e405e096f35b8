-- The count is of 32 bits: an accepted list makes few bytes.
use mathlib.Core.Path.{sym}
use native.Mathlib.Omega.{arith}
use Rattle.sheet.proofs.Writing.{listed}
use Rattle.writing.proofs.write.Goals as goal

pub byte_count-count-requires : goal.byte_count-count-requires
byte_count-count-requires c = (listed _ (sym c.in_ok-check_list.ensures)).parted

pub overflow_cast-result : goal.overflow_cast-result
overflow_cast-result c = omega (arith, c.byte_count-count.ensures, (listed _ (sym c.in_ok-check_list.ensures)).fits)
