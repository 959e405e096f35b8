-- The heading, and after it the lines of the entries that the segment adds.
use mathlib.Core.Path.{◌≡◌}
use mathlib.Core.List.{List}
use Prim.Native.Nat.{ℕ, ◌*◌, ◌≤◌, min}
use lib.IntN.{ℤ}
use lib.ListN.{length}
use Rattle.entries.specs.Entries.{entry_size}
use Rattle.path.specs.Answer.{Drawn, drawn, written}
use Rattle.text.specs.declared.Text.{Text}
use Rattle.text.specs.Reached.{Gains}
use Rattle.text.proofs.Pieces.{gains_as, gains_both, gains_inside}
use Rattle.listing_text.specs.declared.Place.{Place}
use Rattle.listing_text.specs.Pieces.{path_in, segment_at, heading_at, lines_in, piece_text}
use Rattle.listing_text.proofs.Drawn.{segment_inside, piece_read}
use Rattle.printing.proofs.Counted.{points_counted}
use Rattle.printing.proofs.pieces.piece_at.Goals as goal

-- `d` and `after`: what drawing the segment answers and leaves in the list; n of its entries are listed
module _ (l : List ℤ) (q : Place) (list : List ℤ) {d : Drawn} {after : List ℤ} {n : ℕ}
    (e : d ≡ drawn (segment_at l q) (length list)) (f : after ≡ written (segment_at l q) list) (m : n ≡ d.points)
  where
    entries_inside : entry_size * n ≤ length after
    entries_inside = rw (m, e, f) (segment_inside (path_in l q.at) q.segment list)

    piece_gained : {first : ℕ} {t u v : Text} → first ≡ min q.segment 1
        → Gains t (heading_at l q) u → Gains u (lines_in after first n q.segment) v → Gains t (piece_text l q (length list)) v
    piece_gained s p r = gains_as (rw (m, e, f, s) (piece_read l q list)) (gains_both p r)

pub put_entries-requires : goal.put_entries-requires
put_entries-requires c =
    let a = c.args in
    let d = c.draw_segment.ensures in
    (entries_inside a.numbers.now a.place a.list.now d.answer d.list_after (points_counted c.draw_segment.result c.unwrap_or-drawn.ensures), gains_inside c.put_heading.ensures)

pub returns-clause-text_after : goal.returns-clause-text_after
returns-clause-text_after c =
    let a = c.args in
    let d = c.draw_segment.ensures in
    piece_gained a.numbers.now a.place a.list.now d.answer d.list_after (points_counted c.draw_segment.result c.unwrap_or-drawn.ensures) c.min-first.ensures
    c.put_heading.ensures c.put_entries.ensures
