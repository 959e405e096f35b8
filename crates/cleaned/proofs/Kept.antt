-- What stays: the entries of the cleaned list are entries of the list in their order, its first pixel is the list's, its last entry is the list's, and
-- a list of one pixel keeps its last entry alone.
use mathlib.Core.Path.{◌≡◌, refl, ap, ◌∙◌}
use mathlib.Core.List.{List, [], ◌∷◌}
use Prim.Native.Nat.{◌≤◌}
use native.Mathlib.Omega.{arith}
use lib.ListN.{length}
use Rattle.numbers.specs.Tables.{All}
use Rattle.numbers.proofs.Tests.{by_test}
use Rattle.entries.specs.declared.Entry.{Entry}
use Rattle.entries.specs.Entries.{last_of}
use Rattle.cleaned.specs.Moves.{same_pixel, is_elbow, SamePixel}
use Rattle.cleaned.specs.Cleaned.{runs_from, runs, straight_after, straight, cleaned}
use Rattle.cleaned.specs.Along.{StartsAt, Within, done, skips, keeps}
use Rattle.cleaned.proofs.Moves.{same-pixel, tests_same, itself}

-- ---- one list within another

within_join : {xs ys zs : List Entry} → Within xs ys → Within ys zs → Within xs zs
within_join w done = w
within_join w (skips v) = skips (within_join w v)
within_join (skips w) (keeps v) = skips (within_join w v)
within_join (keeps w) (keeps v) = keeps (within_join w v)

-- one entry more after the first
within_second : {e f : Entry} {xs ys : List Entry} → Within xs (e ∷ ys) → Within xs (e ∷ f ∷ ys)
within_second (skips w) = skips (skips w)
within_second (keeps w) = keeps (skips w)

within_length : {xs ys : List Entry} → Within xs ys → length xs ≤ length ys
within_length done = omega arith
within_length (skips w) = omega (arith, within_length w)
within_length (keeps w) = omega (arith, within_length w)

-- what holds of every entry holds of those that stay
pub within_all : {xs ys : List Entry} (P : Entry → Type 0) → Within xs ys → All P ys → All P xs
within_all P done h = tt
within_all P (skips w) h = within_all P w h.1
within_all P (keeps w) h = (h.0, within_all P w h.1)

-- ---- the cleaned list within the list

mutual
  unfolding runs_from

  run_within : (f l : Entry) (es : List Entry) → Within (runs_from f l es) (f ∷ l ∷ es)
  run_within f l [] = skips (keeps done)
  run_within f l (e ∷ es) =
      by_test (same_pixel f e)
      (λ q. rw q (within_second (run_within f e es)))
      (λ q. rw q (keeps (skips (runs_within e es))))

  runs_within : (e : Entry) (es : List Entry) → Within (runs_from e e es) (e ∷ es)
  runs_within e [] = keeps done
  runs_within e (f ∷ es) =
      by_test (same_pixel e f)
      (λ q. rw q (run_within e f es))
      (λ q. rw q (keeps (runs_within f es)))

straight_within : (a : Entry) (es : List Entry) → Within (straight_after a es) es
unfolding straight_after
straight_within a [] = done
straight_within a (b ∷ []) = keeps done
straight_within a (b ∷ c ∷ es) =
    by_test (is_elbow a b c)
    (λ q. rw q (skips (keeps (straight_within c es))))
    (λ q. rw q (keeps (straight_within b (c ∷ es))))

pub cleaned_within : (es : List Entry) → Within (cleaned es) es
unfolding cleaned runs straight
cleaned_within [] = done
cleaned_within (e ∷ es) = within_join (of (runs_from e e es)) (runs_within e es)
  where
    of : (es : List Entry) → Within (straight es) es
    of [] = done
    of (a ∷ es) = keeps (straight_within a es)

pub cleaned_count : (es : List Entry) → length (cleaned es) ≤ length es
cleaned_count es = within_length (cleaned_within es)

-- ---- the first pixel

pub runs_start : (f l : Entry) (es : List Entry) → SamePixel f l → StartsAt f (runs_from f l es)
unfolding runs_from
runs_start f l [] s = record { first = l; later = []; split = refl; pixel = s }
runs_start f l (e ∷ es) s =
    by_test (same_pixel f e)
    (λ q. rw q (runs_start f e es (same-pixel f e q)))
    (λ q. rw q (record { first = f; later = runs_from e e es; split = refl; pixel = itself f }))

pub first_pixel_stays : (e : Entry) (es : List Entry) → StartsAt e (cleaned (e ∷ es))
unfolding cleaned runs straight
first_pixel_stays e es =
    let s = runs_start e e es (itself e) in
    record { first = s.first; later = straight_after s.first s.later; split = ap straight s.split; pixel = s.pixel }

-- ---- the last entry

runs_last : (p f l : Entry) (es : List Entry) → last_of p (runs_from f l es) ≡ last_of l es
unfolding runs_from
runs_last p f l [] = refl
runs_last p f l (e ∷ es) =
    by_test (same_pixel f e)
    (λ q. rw q (runs_last p f e es))
    (λ q. rw q (runs_last f e e es))

straight_last : (a : Entry) (es : List Entry) → last_of a (straight_after a es) ≡ last_of a es
unfolding straight_after
straight_last a [] = refl
straight_last a (b ∷ []) = refl
straight_last a (b ∷ c ∷ es) =
    by_test (is_elbow a b c)
    (λ q. rw q (straight_last c es))
    (λ q. rw q (straight_last b (c ∷ es)))

pub last_entry_stays : (p e : Entry) (es : List Entry) → last_of p (cleaned (e ∷ es)) ≡ last_of e es
unfolding cleaned runs straight
last_entry_stays p e es = of p (runs_from e e es) ∙ runs_last p e e es
  where
    of : (p : Entry) (es : List Entry) → last_of p (straight es) ≡ last_of p es
    of p [] = refl
    of p (a ∷ es) = straight_last a es

-- ---- one pixel

one_run : (f l : Entry) (es : List Entry) → All (SamePixel f) es → runs_from f l es ≡ last_of l es ∷ []
unfolding runs_from
one_run f l [] h = refl
one_run f l (e ∷ es) h = rw (tests_same f e h.0) (one_run f e es h.1)

pub one_pixel : (e : Entry) (es : List Entry) → All (SamePixel e) es → cleaned (e ∷ es) ≡ last_of e es ∷ []
unfolding cleaned runs straight straight_after
one_pixel e es h = ap straight (one_run e e es h)
