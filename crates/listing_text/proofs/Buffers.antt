-- The program's buffers in bytes, each at or below 64 KiB: a sheet's numbers, a segment's list, and the text of a piece. The sheet's own, of 32,769 bytes,
-- is that of `sheet_buffer` in printing.
use mathlib.Core.Path.{◌≡◌, refl}
use Prim.Native.Nat.{◌*◌}
use Rattle.sheet.specs.Sheet.{most_numbers}
use Rattle.listing_text.specs.Pieces.{segment_numbers, text_size}

pub buffers : (4 * most_numbers ≡ 65536) × (4 * segment_numbers ≡ 32784) × (text_size ≡ 65536)
buffers = (refl, refl, refl)
