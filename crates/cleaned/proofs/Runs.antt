-- Every list is one of runs, and `runs` keeps of each run but the last its first entry, of the last its last.
use mathlib.Core.Path.{◌≡◌, refl, ap, ◌∙◌}
use mathlib.Core.List.{List, [], ◌∷◌, ◌++◌}
use Rattle.numbers.specs.Tables.{All}
use Rattle.numbers.proofs.Tests.{by_test}
use Rattle.entries.specs.declared.Entry.{Entry}
use Rattle.entries.specs.Entries.{Linked, last_of}
use Rattle.cleaned.specs.Moves.{same_pixel, SamePixel}
use Rattle.cleaned.specs.Cleaned.{runs_from, runs}
use Rattle.cleaned.specs.Runs.{Run, Apart, in_row, kept_of, InRuns}
use Rattle.cleaned.specs.Along.{Chained}
use Rattle.cleaned.proofs.Moves.{same-pixel, other_pixel, tests_same, tests_other, through, turned_round}

-- past the entries of a run
run_passed : (f l : Entry) (xs ys : List Entry) → All (SamePixel f) xs → runs_from f l (xs ++ ys) ≡ runs_from f (last_of l xs) ys
unfolding runs_from
run_passed f l [] ys h = refl
run_passed f l (x ∷ xs) ys h = rw (tests_same f x h.0) (run_passed f x xs ys h.1)

pub runs_kept : (rs : List Run) → Apart rs → runs (in_row rs) ≡ kept_of rs
unfolding runs runs_from
runs_kept [] a = refl
runs_kept (r ∷ []) a = run_passed r.first r.first r.later [] r.one_pixel
runs_kept (r ∷ s ∷ rs) a =
    run_passed r.first r.first r.later (in_row (s ∷ rs)) r.one_pixel
    ∙ rw (tests_other r.first s.first a.0) (ap (λ (es : List Entry). r.first ∷ es) (runs_kept (s ∷ rs) a.1))

-- ---- the runs of a list

-- one entry more before the first run
before : (e : Entry) (rs : List Run) → Apart rs → InRuns (e ∷ in_row rs)
before e [] a = record { runs = record { first = e; later = []; one_pixel = tt } ∷ []; apart = tt; whole = refl }
before e (r ∷ rs) a =
    by_test (same_pixel e r.first)
    (λ q. let s = same-pixel e r.first q in longer s)
    (λ q. record { runs = record { first = e; later = []; one_pixel = tt } ∷ r ∷ rs; apart = (other_pixel e r.first q, a); whole = refl })
  where
    all_through : (f : Entry) (es : List Entry) → SamePixel e f → All (SamePixel f) es → All (SamePixel e) es
    all_through f [] s h = tt
    all_through f (g ∷ es) s h = (through s h.0, all_through f es s h.1)

    still_apart : (s : SamePixel e r.first) (rs : List Run) → Apart (r ∷ rs)
        → Apart (record { first = e; later = r.first ∷ r.later; one_pixel = (s, all_through r.first r.later s r.one_pixel) } ∷ rs)
    still_apart s [] a = tt
    still_apart s (t ∷ rs) a = (λ u. a.0 (through (turned_round s) u), a.1)

    longer : SamePixel e r.first → InRuns (e ∷ in_row (r ∷ rs))
    longer s =
        record {
          runs = record { first = e; later = r.first ∷ r.later; one_pixel = (s, all_through r.first r.later s r.one_pixel) } ∷ rs;
          apart = still_apart s rs a;
          whole = refl;
        }

pub has_runs : (es : List Entry) → InRuns es
has_runs [] = record { runs = []; apart = tt; whole = refl }
has_runs (e ∷ es) = let i = has_runs es in rw i.whole (before e i.runs i.apart)

-- ---- the first entry of a run beside its later ones: what neighbours begin, and each next one goes on with, holds of it and each of them

module _ (R P : Entry → Entry → Type 0) (begins : (a b : Entry) → R a b → P a b) (goes_on : (a b c : Entry) → P a b → R b c → P a c) where
  further : (e f : Entry) (xs ys : List Entry) → P e f → Linked R f (xs ++ ys) → All (P e) xs
  further e f [] ys h l = tt
  further e f (x ∷ xs) ys h l = let next = goes_on e f x h l.0 in (next, further e x xs ys next l.1)

  in_run : (e : Entry) (xs ys : List Entry) → Linked R e (xs ++ ys) → All (P e) xs
  in_run e [] ys l = tt
  in_run e (x ∷ xs) ys l = let next = begins e x l.0 in (next, further e x xs ys next l.1)

  past_run : (e : Entry) (xs : List Entry) (rs : List Run) → Linked R e (xs ++ in_row rs) → Chained R (in_row rs)
  past_run e [] [] l = tt
  past_run e [] (r ∷ rs) l = l.1
  past_run e (x ∷ xs) rs l = past_run x xs rs l.1

  pub first_before_later : (rs : List Run) → Chained R (in_row rs) → All (λ r. All (P r.first) r.later) rs
  first_before_later [] l = tt
  first_before_later (r ∷ rs) l =
      (in_run r.first r.later (in_row rs) l, first_before_later rs (past_run r.first r.later rs l))
