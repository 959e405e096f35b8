-- A segment's list as it was drawn into a lent list, read back an entry at a time: whole, as what the segment adds to its path, and as the lines of
-- the piece at its place.
use mathlib.Core.Path.{◌≡◌, refl, ap, ◌∙◌}
use mathlib.Core.List.{List, [], ◌∷◌, ◌++◌, map, tail}
use Prim.Native.Nat.{ℕ, zero, suc, ◌-◌, ◌*◌, ◌^◌, ◌≤◌, min}
use native.Mathlib.Nat.{sub-zero}
use native.Mathlib.Numerals.{sub-one}
use native.Mathlib.Omega.{arith}
use lib.IntN.{ℤ}
use lib.ListN.{length, drop, length-append}
use Rattle.rules.specs.Refusals.{refusal_or, filled}
use Rattle.entries.specs.declared.Entry.{Entry}
use Rattle.entries.specs.Entries.{entry_size, flat, entries_in}
use Rattle.entries.proofs.Numbers.{length_flat, entries_back}
use Rattle.path.specs.Path.{Path}
use Rattle.path.specs.Entries.{entries}
use Rattle.path.specs.Joined.{alone, shifted}
use Rattle.path.specs.Answer.{Drawn, draw_refusal, refused_by, answer, drawn, written}
use Rattle.listing_text.specs.declared.Place.{Place}
use Rattle.listing_text.specs.Lines.{entry_lines}
use Rattle.listing_text.specs.Pieces.{path_in, segment_at, segment_entries, added, lines_in, heading_at, piece_text}

-- ---- entries read from a list

-- all but the first
entries_tail : (l : List ℤ) (n : ℕ) → entries_in l 1 (n - 1) ≡ tail (entries_in l 0 n)
unfolding entries_in
entries_tail l zero = refl
entries_tail l (suc n) = rw sub-one

-- ---- the same path in other words

pub drawn_same : {p p' : Path} {d : Drawn} {after : List ℤ} (list : List ℤ) → p ≡ p'
    → d ≡ drawn p (length list) → after ≡ written p list → (d ≡ drawn p' (length list)) × (after ≡ written p' list)
drawn_same list e a b = (a ∙ ap (λ p. drawn p (length list)) e, b ∙ ap (λ p. written p list) e)

-- ---- a segment that was drawn; one that is refused has no entries

pub segment_read : (p : Path) (k : ℕ) (list : List ℤ)
    → entries_in (written (alone p k) list) 0 (drawn (alone p k) (length list)).points ≡ segment_entries p k (length list)
unfolding written drawn segment_entries entries_in
segment_read p k list = by_number (draw_refusal (alone p k) (length list)) (entries (alone p k))
  where
    by_number : (r : ℕ) (es : List Entry) → entries_in (filled r (flat es) list) 0 (refusal_or r refused_by (answer es)).points ≡ refusal_or r (λ _. []) es
    by_number zero es = entries_back es (drop (length (flat es)) list)
    by_number (suc r) es = refl

pub segment_inside : (p : Path) (k : ℕ) (list : List ℤ)
    → entry_size * (drawn (alone p k) (length list)).points ≤ length (written (alone p k) list)
unfolding written drawn
segment_inside p k list = by_number (draw_refusal (alone p k) (length list)) (entries (alone p k))
  where
    by_number : (r : ℕ) (es : List Entry) → entry_size * (refusal_or r refused_by (answer es)).points ≤ length (filled r (flat es) list)
    by_number zero es = rw (length-append, length_flat) (omega arith)
    by_number (suc r) es = omega arith

-- ---- what a segment adds: its entries at their place, without the start but for segment 0

map_tail : {A B : Type 0} (f : A → B) (xs : List A) → map f (tail xs) ≡ tail (map f xs)
map_tail f [] = refl
map_tail f (x ∷ xs) = refl

pub added_read : (p : Path) (k : ℕ) (list : List ℤ)
    → map (shifted (2 ^ p.finest * k))
    (entries_in (written (alone p k) list) (min k 1) ((drawn (alone p k) (length list)).points - min k 1))
    ≡ added p k (length list)
unfolding added
added_read p zero list = rw (sub-zero, segment_read)
added_read p (suc k) list =
    let first : min (suc k) 1 ≡ 1 = omega arith in
    rw (first, entries_tail, segment_read p (suc k) list, map_tail)

-- ---- the piece at a place: its heading, and the lines of its segment's list, from entry 0 or from entry 1 on

pub piece_read : (l : List ℤ) (q : Place) (list : List ℤ) → let p = segment_at l q in
    heading_at l q ++ lines_in (written p list) (min q.segment 1) (drawn p (length list)).points q.segment
    ≡ piece_text l q (length list)
unfolding piece_text
piece_read l q list = ap (λ es. heading_at l q ++ entry_lines es) (added_read (path_in l q.at) q.segment list)
