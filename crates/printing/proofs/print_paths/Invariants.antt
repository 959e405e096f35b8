-- What was counted, with the pieces that are still to come from the place on, is the whole text.
use mathlib.Core.Path.{◌≡◌}
use Prim.Native.Nat.{ℕ, ◌+◌, ◌*◌, ◌-◌, ◌≤◌}
use lib.ListN.{length}
use Rattle.sheet.specs.NumberList.{sheet_of}
use Rattle.listing_text.specs.declared.Place.{Place}
use Rattle.listing_text.specs.Listing.{sheet_text}
use Rattle.listing_text.specs.Pieces.{segment_numbers, text_size}
use Rattle.printing.proofs.Coming.{Coming}
use Rattle.printing.proofs.print_paths.Given as goal

-- falls with every turn
abbrev pub left : ℕ → Place → ℕ
left paths q = (paths - q.path) * 4294967296 + (4294967296 - q.segment)

abbrev pub invariant-loop-place : goal.invariant-loop-place
invariant-loop-place l =
    (l.place.at ≤ length l.numbers) × (length l.list ≡ segment_numbers) × (length l.text.bytes.now ≡ text_size)
    × Coming l.numbers l.paths (length (sheet_text (sheet_of l.numbers))) l.place l.count

abbrev pub decreases-loop-place : goal.decreases-loop-place
decreases-loop-place l = left l.paths l.place
