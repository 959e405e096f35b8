-- The pieces of accepted paths: their places, one after another, and their text, which is that of the paths.
use mathlib.Core.Path.{◌≡◌, refl, sym, ap, ap₂, ◌∙◌}
use mathlib.Core.Bool.{true}
use mathlib.Core.List.{List, [], ◌∷◌, ◌++◌, append_assoc}
use Prim.Native.Nat.{ℕ, zero, suc, ◌+◌, ◌*◌, ◌≤◌, ◌<◌}
use native.Mathlib.Nat.{min-eq_left}
use native.Mathlib.Numerals.{add-one}
use native.Mathlib.Omega.{arith}
use lib.IntN.{ℤ}
use lib.ListN.{length, length-append}
use borrow.Author.Tests.{lt-ltb, le-ltb}
use Rattle.numbers.specs.Tables.{All}
use Rattle.numbers.proofs.Tables.{all_append}
use Rattle.rules.specs.Rules.{are_limits}
use Rattle.rules.proofs.Refusals.{first_kept}
use Rattle.path.specs.Path.{Path, path_refusal}
use Rattle.path.proofs.Accepted.{accepted_lawful}
use Rattle.sheet.specs.NumberList.{number_at, path_at, path_end, paths_at, sheet_of}
use Rattle.sheet.specs.Writing.{path_refusal as written_refusal, paths_refusal}
use Rattle.sheet.proofs.Writing.{path_fits, paths_numbers}
use Rattle.listing_text.specs.declared.Place.{Place}
use Rattle.listing_text.specs.Listing.{path_text, paths_text}
use Rattle.listing_text.specs.Pieces.{segment_numbers, path_in, heading, piece_text, next_place, Visits, pieces_text}
use Rattle.listing_text.proofs.Drawable.{path_drawable}
use Rattle.listing_text.proofs.Joins.{added_lines, path_lines}
use Rattle.listing_text.proofs.Fits.{Inside}

-- ---- n paths that are accepted and lie inside l, the first at `at`

abbrev pub Accepted : List ℤ → ℕ → ℕ → Type 0
Accepted l zero at = Unit
Accepted l (suc n) at = (path_refusal (path_in l at) ≡ 0) × (path_end l at ≤ length l) × Accepted l n (path_end l at)

pub paths_accepted : (l : List ℤ) (n at : ℕ) → are_limits (number_at l 1) (number_at l 2) ≡ true → at ≤ length l → paths_refusal l n at ≡ 0
    → Accepted l n at
unfolding paths_refusal paths_at sheet_of
paths_accepted l zero at limits h e = tt
paths_accepted l (suc n) at limits h e =
    let kept = first_kept (written_refusal l at) (paths_refusal l n (path_end l at)) e in
    let inside = path_fits l at kept.0 in (
      path_drawable (sheet_of l) (path_at l at) limits (paths_numbers l (suc n) at h e).0.0,
      inside,
      paths_accepted l n (path_end l at) limits inside kept.1,
    )

some_segments : (l : List ℤ) (at : ℕ) → path_refusal (path_in l at) ≡ 0 → 0 < number_at l at
unfolding path_at
some_segments l at e = (accepted_lawful (path_in l at) e).some

-- ---- their places

abbrev place : ℕ → ℕ → ℕ → Place
place i at k = record { path = i; at = at; segment = k }

-- m segments of path i, from the k-th on
segment_places : ℕ → ℕ → ℕ → ℕ → List Place
segment_places i at k zero = []
segment_places i at k (suc m) = place i at k ∷ segment_places i at (k + 1) m

-- n paths, the first of them path i
pub path_places : List ℤ → ℕ → ℕ → ℕ → List Place
path_places l i at zero = []
path_places l i at (suc n) = segment_places i at 0 (number_at l at) ++ path_places l (i + 1) (path_end l at) n

module _ (l : List ℤ) (i at k : ℕ) where
  next_segment : k + 1 < number_at l at → next_place l (place i at k) ≡ place i at (k + 1)
  unfolding next_place
  next_segment h = rw (lt-ltb (k + 1) (number_at l at) h)

  next_path : number_at l at ≡ k + 1 → path_end l at ≤ length l → next_place l (place i at k) ≡ place (i + 1) (path_end l at) 0
  unfolding next_place
  next_path e h = rw (le-ltb (k + 1) (number_at l at) (omega arith), min-eq_left h)

-- ---- they are visited one after another, and no others

pub visits_only : (l : List ℤ) (N : ℕ) (q : Place) (vs ws : List Place) → Visits l N q vs → Visits l N q ws → vs ≡ ws
visits_only l N q [] [] v w = refl
visits_only l N q [] (y ∷ ws) v w = absurd (omega (arith, v, w.1))
visits_only l N q (x ∷ vs) [] v w = absurd (omega (arith, v.1, w))
visits_only l N q (x ∷ vs) (y ∷ ws) v w = ap₂ (λ p ps. p ∷ ps) (sym v.0 ∙ w.0) (visits_only l N (next_place l q) vs ws v.2 w.2)

segments_visited : (l : List ℤ) (N i at m k : ℕ) (qs : List Place) → number_at l at ≡ k + suc m → path_end l at ≤ length l → i < N
    → Visits l N (place (i + 1) (path_end l at) 0) qs → Visits l N (place i at k) (segment_places i at k (suc m) ++ qs)
unfolding segment_places
segments_visited l N i at zero k qs e h b v = (refl, b, rw (next_path l i at k (omega arith) h) v)
segments_visited l N i at (suc m) k qs e h b v =
    (refl, b, rw (next_segment l i at k (omega arith)) (segments_visited l N i at m (k + 1) qs (omega arith) h b v))

pub paths_visited : (l : List ℤ) (N n i at : ℕ) → i + n ≡ N → Accepted l n at → Visits l N (place i at 0) (path_places l i at n)
unfolding path_places
paths_visited l N zero i at e a = omega arith
paths_visited l N (suc n) i at e a =
    by_segments (number_at l at) refl (paths_visited l N n (i + 1) (path_end l at) (omega arith) a.2)
  where
    others : List Place
    others = path_places l (i + 1) (path_end l at) n

    by_segments : (S : ℕ) → number_at l at ≡ S → Visits l N (place (i + 1) (path_end l at) 0) others
        → Visits l N (place i at 0) (segment_places i at 0 S ++ others)
    by_segments zero f v = absurd (omega (arith, some_segments l at a.0))
    by_segments (suc m) f v = segments_visited l N i at m 0 others (omega arith) a.1 (omega arith) v

-- ---- each stands inside an accepted path

segments_inside : (l : List ℤ) (i at : ℕ) → path_refusal (path_in l at) ≡ 0 → i < 1024
    → (m k : ℕ) → k + m ≤ number_at l at → All (Inside l) (segment_places i at k m)
unfolding segment_places path_at
segments_inside l i at e b zero k h = tt
segments_inside l i at e b (suc m) k h = ((e, omega arith, b), segments_inside l i at e b m (k + 1) (omega arith))

pub paths_inside : (l : List ℤ) (n i at : ℕ) → i + n ≤ 1024 → Accepted l n at → All (Inside l) (path_places l i at n)
unfolding path_places
paths_inside l zero i at b a = tt
paths_inside l (suc n) i at b a =
    all_append (Inside l) (segment_places i at 0 (number_at l at)) (path_places l (i + 1) (path_end l at) n)
    (segments_inside l i at a.0 (omega arith) (number_at l at) 0 (omega arith))
    (paths_inside l n (i + 1) (path_end l at) (omega arith) a.2)

-- ---- there are at most 64 a path

segments_few : (i at m k : ℕ) → length (segment_places i at k m) ≡ m
unfolding segment_places
segments_few i at zero k = refl
segments_few i at (suc m) k = ap suc (segments_few i at m (k + 1))

pub places_few : (l : List ℤ) (n i at : ℕ) → Accepted l n at → length (path_places l i at n) ≤ 64 * n
unfolding path_places path_at
places_few l zero i at a = omega arith
places_few l (suc n) i at a =
    let most = (accepted_lawful (path_in l at) a.0).most in
    rw (length-append, segments_few) (omega (arith, most, places_few l n (i + 1) (path_end l at) a.2))

-- ---- their text

pieces_append : (l : List ℤ) (room : ℕ) (ps qs : List Place) → pieces_text l room (ps ++ qs) ≡ pieces_text l room ps ++ pieces_text l room qs
unfolding pieces_text
pieces_append l room [] qs = refl
pieces_append l room (p ∷ ps) qs = rw (pieces_append l room ps qs, append_assoc)

-- only the first segment has the path's line before it
no_heading : (k i : ℕ) (p : Path) → heading (k + 1) i p ≡ []
no_heading k i p = rw add-one

segments_text : (l : List ℤ) (room i at m k : ℕ)
    → pieces_text l room (segment_places i at k (suc m)) ≡ heading k i (path_in l at) ++ added_lines (path_in l at) room k (suc m)
unfolding segment_places pieces_text piece_text added_lines
segments_text l room i at zero k = append_assoc (heading k i (path_in l at)) _ []
segments_text l room i at (suc m) k =
    rw (segments_text l room i at m (k + 1), no_heading k i (path_in l at)) (append_assoc (heading k i (path_in l at)) _ _)

path-text : (l : List ℤ) (room i at : ℕ) → path_refusal (path_in l at) ≡ 0 → segment_numbers ≤ room
    → pieces_text l room (segment_places i at 0 (number_at l at)) ≡ path_text i (path_in l at)
unfolding path_text path_at
path-text l room i at e r = rw (path_lines (path_in l at) room e r) (by_segments (number_at l at) (some_segments l at e))
  where
    by_segments : (S : ℕ) → 0 < S
        → pieces_text l room (segment_places i at 0 S) ≡ heading 0 i (path_in l at) ++ added_lines (path_in l at) room 0 S
    by_segments zero f = absurd (omega arith)
    by_segments (suc m) f = segments_text l room i at m 0

pub paths-text : (l : List ℤ) (room n i at : ℕ) → Accepted l n at → segment_numbers ≤ room
    → pieces_text l room (path_places l i at n) ≡ paths_text (sheet_of l) i (paths_at l n at)
unfolding path_places pieces_text paths_text paths_at
paths-text l room zero i at a r = refl
paths-text l room (suc n) i at a r =
    rw (pieces_append, path-text l room i at a.0 r, paths-text l room n (i + 1) (path_end l at) a.2 r)
