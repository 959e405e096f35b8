-- How many bytes are printed: what was counted before a place, with the pieces that are still to come from there on, is the whole text.
use mathlib.Core.Path.{◌≡◌, sym, ap, ◌∙◌, subst}
use mathlib.Core.List.{List, [], ◌∷◌, ◌++◌}
use Prim.Native.Nat.{ℕ, ◌+◌, ◌*◌, ◌≤◌, ◌<◌}
use native.Mathlib.Omega.{arith}
use lib.IntN.{ℤ}
use lib.ListN.{length, length-append}
use Rattle.numbers.specs.Tables.{All}
use Rattle.sheet.specs.Sheet.{Sheet, list_head, sheet_numbers, Right}
use Rattle.sheet.specs.NumberList.{number_at, sheet_of}
use Rattle.sheet.specs.Writing.{list_refusal}
use Rattle.text.specs.Reached.{reached}
use Rattle.text.proofs.Pieces.{reached_fits}
use Rattle.sheet.proofs.NumberList.{count_paths}
use Rattle.sheet.proofs.Writing.{listed}
use Rattle.sheet.proofs.WritesOnly.{writes_only}
use Rattle.listing_text.specs.declared.Place.{Place}
use Rattle.listing_text.specs.Lines.{paths_word, end, named, paths_line}
use Rattle.listing_text.specs.Listing.{sheet_text}
use Rattle.listing_text.specs.Pieces.{segment_numbers, text_size, piece_text, next_place, first_place, Visits, pieces_text}
use Rattle.listing_text.proofs.Fits.{Short, paths_line_short}
use Rattle.listing_text.proofs.Whole.{sheet_pieces}

-- N paths of l, from place q on: `count` bytes stand before it, and `total` in all
pub record Coming (l : List ℤ) (N total : ℕ) (q : Place) (count : ℕ) : Type 0 where
  pub rest : List Place
  pub visits : Visits l N q rest
  pub short : All (Short l) rest
  pub sum : count + length (pieces_text l segment_numbers rest) ≡ total

module _ {l : List ℤ} {N total : ℕ} {q : Place} {count : ℕ} (c : Coming l N total q count) where
  pub piece_short : q.path < N → Short l q
  piece_short h = of c.rest c.visits c.short
    where
      of : (vs : List Place) → Visits l N q vs → All (Short l) vs → Short l q
      of [] v s = absurd (omega (arith, v, h))
      of (w ∷ vs) v s = subst (Short l) (sym v.0) s.0

  pub coming_next : q.path < N → Coming l N total (next_place l q) (count + length (piece_text l q segment_numbers))
  unfolding pieces_text
  coming_next h = of c.rest c.visits c.short c.sum
    where
      of : (vs : List Place) → Visits l N q vs → All (Short l) vs → count + length (pieces_text l segment_numbers vs) ≡ total
          → Coming l N total (next_place l q) (count + length (piece_text l q segment_numbers))
      of [] v s e = absurd (omega (arith, v, h))
      of (w ∷ vs) v s e =
          let here : length (piece_text l q segment_numbers) ≡ length (piece_text l w segment_numbers) = ap (λ p. length (piece_text l p segment_numbers)) v.0 in
          let both = length-append (piece_text l w segment_numbers) (pieces_text l segment_numbers vs) in
          record { rest = vs; visits = v.2; short = s.1; sum = omega (arith, e, here, both) }

  pub coming_end : N ≤ q.path → count ≡ total
  unfolding pieces_text
  coming_end h = of c.rest c.visits c.sum
    where
      of : (vs : List Place) → Visits l N q vs → count + length (pieces_text l segment_numbers vs) ≡ total → count ≡ total
      of [] v e = omega (arith, e)
      of (w ∷ vs) v e = absurd (omega (arith, v.1, h))

-- ---- from the first place on

sheet_coming : (s : Sheet) → Right s
    → Coming (sheet_numbers s) (length s.paths) (length (sheet_text s)) first_place (length (paths_line (length s.paths)))
sheet_coming s r =
    let p = sheet_pieces s r in
    let sum = sym (length-append (paths_line (length s.paths)) _) ∙ ap length p.text in
    record { rest = p.places; visits = p.visits; short = p.short; sum = sum }

-- ---- and there are no more than the machine can count

pieces_length : (l : List ℤ) (qs : List Place) → All (Short l) qs → length (pieces_text l segment_numbers qs) ≤ text_size * length qs
unfolding pieces_text
pieces_length l [] s = omega arith
pieces_length l (q ∷ qs) s = rw length-append (omega (arith, s.0, pieces_length l qs s.1))

sheet_small : (s : Sheet) → Right s → length (sheet_text s) ≤ 4295032832
sheet_small s r =
    let p = sheet_pieces s r in
    let sum = sym (length-append (paths_line (length s.paths)) _) ∙ ap length p.text in
    let line = paths_line_short (length s.paths) r.few in
    omega (arith, sum, line, pieces_length (sheet_numbers s) p.places p.short, p.few, r.few)

-- ---- over an accepted number list: the line of the sheet, and each piece after it, as the code counts them

-- the bytes that are written of a piece which fits
pub all_of : (t piece : List ℕ) → length t ≡ text_size → length piece ≤ text_size → reached t 0 piece ≡ length piece
all_of t piece e h = let r = reached_fits t 0 piece (omega (arith, e, h)) in omega (arith, r)

module _ (l : List ℤ) (e : list_refusal l ≡ 0) where
  pub starts_inside : list_head ≤ length l
  starts_inside = (listed l e).parted.0

  pub list_small : length (sheet_text (sheet_of l)) ≤ 4295032832
  list_small = sheet_small (sheet_of l) (writes_only l e).0

  list_coming : Coming l (number_at l 0) (length (sheet_text (sheet_of l))) first_place (length (paths_line (number_at l 0)))
  unfolding sheet_of
  list_coming =
      let only = writes_only l e in
      rw (only.1, count_paths) at (sheet_coming (sheet_of l) only.0)

  pub line_counted : (N count : ℕ) (t : List ℕ) → length t ≡ text_size → N ≡ number_at l 0 → count ≡ reached t 0 (named paths_word N ++ end)
      → Coming l N (length (sheet_text (sheet_of l))) first_place count
  unfolding paths_line
  line_counted N count t size n c =
      let fits = paths_line_short (number_at l 0) (listed l e).parted.1 in
      rw (c, n, all_of t (paths_line (number_at l 0)) size fits) list_coming

pub piece_counted : {l : List ℤ} {N total : ℕ} {q : Place} {count : ℕ} → Coming l N total q count → q.path < N
    → (list : List ℤ) (t : List ℕ) → length list ≡ segment_numbers → length t ≡ text_size
    → {next : Place} {k : ℕ} → k ≡ reached t 0 (piece_text l q (length list)) → next ≡ next_place l q
    → Coming l N total next (count + k) × (count + k ≤ total)
piece_counted {l} {N} {total} {q} {count} c h list t room size {next} {k} n e =
    let text = subst (λ m. k ≡ reached t 0 (piece_text l q m)) room n in
    let bytes = text ∙ all_of t (piece_text l q segment_numbers) size (piece_short c h) in
    let on : Coming l N total next (count + k) = rw (e, bytes) (coming_next c h) in
    (on, omega (arith, on.sum))
