-- Every piece of an accepted sheet's listing fits the program's text of 65,536 bytes, so that none is cut: a heading of at most 41 bytes,
-- and at most 2,049 lines of at most 29 bytes, as the numbers of a segment's entries are bounded.
use mathlib.Core.Path.{◌≡◌, ap}
use mathlib.Core.List.{List, [], ◌∷◌, ◌++◌, map}
use Prim.Native.Nat.{ℕ, zero, suc, ◌+◌, ◌*◌, ◌^◌, ◌≤◌, ◌<◌}
use native.Mathlib.Omega.{arith}
use lib.IntN.{ℤ}
use lib.ListN.{length, length-append}
use Rattle.numbers.specs.Tables.{All}
use Rattle.numbers.proofs.Size.{Size, size_of, size_sum, size_by}
use Rattle.numbers.proofs.Tables.{all_weaker}
use Rattle.coordinate.specs.Shown.{pixel}
use Rattle.operations.specs.Coordinates.{Coordinate, in_x, in_y, in_width}
use Rattle.engine.specs.Drawing.{of}
use Rattle.distance.specs.Calls.{after}
use Rattle.entries.specs.declared.Entry.{Entry}
use Rattle.text.proofs.Decimal.{decimal_few, numeral_few}
use Rattle.text.proofs.Pieces.{put_whole}
use Rattle.path.specs.Path.{Path, path_refusal}
use Rattle.path.specs.Entries.{entry, entries}
use Rattle.path.specs.Joined.{alone, shifted}
use Rattle.path.specs.Answer.{Drawn, measured}
use Rattle.path.specs.Listed.{begins, Placed}
use Rattle.path.proofs.Accepted.{accepted_lawful}
use Rattle.path.proofs.Joined.{alone_accepted}
use Rattle.path.proofs.Near.{placed_near}
use Rattle.path.proofs.Listed.{listed, at_most}
use Rattle.listing_text.specs.declared.Place.{Place}
use Rattle.listing_text.specs.Lines.{
  paths_word,
  path_word,
  points_word,
  length_word,
  refused_word,
  end,
  named,
  followed,
  paths_line,
  path_line,
  entry_line,
  entry_lines,
  refused_line,
}
use Rattle.listing_text.specs.Pieces.{segment_numbers, path_in, joining, added, text_size, heading, piece_text}
use Rattle.listing_text.specs.Printed.{Uncut}
use Rattle.listing_text.proofs.Joins.{segment_few, segment_whole}

-- a place is one of a segment of an accepted path
abbrev pub Inside : List ℤ → Place → Type 0
Inside l q =
    let p = path_in l q.at in
    (path_refusal p ≡ 0) × (q.segment < p.segments) × (q.path < 1024)

-- ---- the numbers of a segment's entries

record Bounded (most : ℕ) (e : Entry) : Type 0 where
  position : Size e.position most
  x : Size e.x 16385
  y : Size e.y 16385
  width : Size e.width 16385

-- an entry stands at its position, and is the point shown of a drawing of which demand 3 holds
placed_bounded : (p : Path) (e : Entry) → Placed p e → Bounded (2 ^ p.finest * p.segments) e
unfolding entry
placed_bounded p e l =
    let d = after l.calls (begins p l.k) in
    let near = placed_near p e l in
    let shown : (c : Coordinate) → Size (pixel (of c d)) 16385 = λ c. record { le = (l.demand.stands c).shown } in
    record {
      position = size_by near.position near.inside (size_of near.at);
      x = size_by (ap (λ (f : Entry). f.x) l.shown) (omega arith) (shown in_x);
      y = size_by (ap (λ (f : Entry). f.y) l.shown) (omega arith) (shown in_y);
      width = size_by (ap (λ (f : Entry). f.width) l.shown) (omega arith) (shown in_width);
    }

-- ---- a segment's lines

-- 7 bytes and a space, three times 6 bytes and what follows them
entry_short : (n : ℕ) (e : Entry) → n ≤ 131072 → Bounded 2048 e → length (entry_line (shifted n e)) ≤ 29
unfolding entry_line followed shifted
entry_short n e h b =
    let position = size_sum b.position (size_of n) in
    simp length-append
    (omega (
      arith,
      numeral_few (shifted n e).position 6 (omega arith) (omega (arith, position.le)),
      numeral_few e.x 5 (omega arith) (omega (arith, b.x.le)),
      numeral_few e.y 5 (omega arith) (omega (arith, b.y.le)),
      numeral_few e.width 5 (omega arith) (omega (arith, b.width.le)),
    ))

lines_short : (n : ℕ) (es : List Entry) → n ≤ 131072 → All (Bounded 2048) es → length (entry_lines (map (shifted n) es)) ≤ 29 * length es
unfolding entry_lines
lines_short n [] h a = omega arith
lines_short n (e ∷ es) h a = rw length-append (omega (arith, entry_short n e h a.0, lines_short n es h a.1))

-- without the start there is no more
lines_joined : (k : ℕ) (es : List Entry) → length (entry_lines (joining k es)) ≤ length (entry_lines es)
unfolding entry_lines
lines_joined zero es = omega arith
lines_joined (suc k) [] = omega arith
lines_joined (suc k) (e ∷ es) = rw (length-append (entry_line e)) (omega arith)

-- of a sheet's path, whose finest level is 11
module _ (l : List ℤ) (at k : ℕ) (e : path_refusal (path_in l at) ≡ 0) (h : k < (path_in l at).segments) where
  abbrev p : Path
  p = path_in l at

  segment_bounded : All (Bounded 2048) (entries (alone p k))
  unfolding alone
  segment_bounded =
      all_weaker (placed_bounded (alone p k)) (entries (alone p k)) (listed (alone p k) (alone_accepted p k e h)).placed

  added_short : length (entry_lines (added p k segment_numbers)) ≤ 29 * 2049
  unfolding added
  added_short =
      let es = entries (alone p k) in
      let n = 2048 * k in
      let far : n ≤ 131072 = omega (arith, (accepted_lawful p e).most) in
      rw (segment_whole p k segment_numbers e h (omega arith))
      (omega (arith, lines_joined k (map (shifted n) es), lines_short n es far segment_bounded, segment_few p k e h))

-- ---- the heading, and the piece

named_short : (word : List ℕ) (n k : ℕ) → 1 ≤ k → n < 10 ^ k → length (named word n) ≤ length word + k
unfolding named
named_short word n k h s = rw length-append (omega (arith, decimal_few n k h s))

path_line_short : (i : ℕ) (d : Drawn) → i < 10 ^ 4 → d.points < 10 ^ 6 → d.length < 10 ^ 9 → length (path_line i d) ≤ 41
unfolding path_line
path_line_short i d a b c =
    simp length-append
    (omega (
      arith,
      named_short path_word i 4 (omega arith) a,
      named_short points_word d.points 6 (omega arith) b,
      named_short length_word d.length 9 (omega arith) c,
    ))

heading_short : (k i : ℕ) (p : Path) → path_refusal p ≡ 0 → i < 1024 → length (heading k i p) ≤ 41
unfolding measured
heading_short zero i p e h =
    let most = at_most p e in
    rw e (path_line_short i _ (omega arith) (omega (arith, most.points)) (omega (arith, most.total)))
heading_short (suc k) i p e h = omega arith

-- the piece at q fits a text of 65,536 bytes
abbrev pub Short : List ℤ → Place → Type 0
Short l q = length (piece_text l q segment_numbers) ≤ text_size

piece_short : (l : List ℤ) (q : Place) → Inside l q → Short l q
unfolding piece_text
piece_short l q h =
    let p = path_in l q.at in
    rw length-append
    (omega (arith, heading_short q.segment q.path p h.0 h.2, added_short l q.at q.segment h.0 h.1))

pub pieces_short : (l : List ℤ) (qs : List Place) → All (Inside l) qs → All (Short l) qs
pieces_short l [] h = tt
pieces_short l (q ∷ qs) h = (piece_short l q h.0, pieces_short l qs h.1)

pub line_short : (word : List ℕ) (n : ℕ) → length word ≤ 8 → n < 10 ^ 4 → length (named word n ++ end) ≤ text_size
line_short word n h s = simp length-append (omega (arith, named_short word n 4 (omega arith) s))

pub paths_line_short : (N : ℕ) → N ≤ 1024 → length (paths_line N) ≤ text_size
unfolding paths_line
paths_line_short N h = line_short paths_word N (omega arith) (omega arith)

pub refused_line_short : (k : ℕ) → k ≤ 17 → length (refused_line k) ≤ text_size
unfolding refused_line
refused_line_short k h = line_short refused_word k (omega arith) (omega arith)

-- ---- what is short is not cut

pub uncut : (piece : List ℕ) → length piece ≤ text_size → Uncut piece
uncut piece h t e = put_whole t piece (omega (arith, e))

pub pieces_uncut : (l : List ℤ) (qs : List Place) → All (Short l) qs → All (λ q. Uncut (piece_text l q segment_numbers)) qs
pieces_uncut l [] h = tt
pieces_uncut l (q ∷ qs) h = (uncut _ h.0, pieces_uncut l qs h.1)
