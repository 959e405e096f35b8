-- A cleaned list has no neighbouring repeat and no elbow, whatever the list was; and a list with neither is its own cleaned one, so that cleaning
-- twice is cleaning once.
use mathlib.Core.Path.{◌≡◌, refl}
use mathlib.Core.List.{List, [], ◌∷◌}
use Rattle.numbers.proofs.Tests.{by_test}
use Rattle.entries.specs.declared.Entry.{Entry}
use Rattle.entries.specs.Entries.{Linked}
use Rattle.cleaned.specs.declared.Move.TheVariants.{Diagonal}
use Rattle.cleaned.specs.Moves.{same_pixel, is_elbow, Moves, SamePixel, Elbow}
use Rattle.cleaned.specs.Cleaned.{runs_from, runs, straight_after, straight, cleaned}
use Rattle.cleaned.specs.Along.{Chained, Differs, ElbowlessFrom, ElbowlessAfter, Elbowless}
use Rattle.cleaned.proofs.Moves.{same-pixel, other_pixel, tests_other, itself, turned_round, through, is-elbow, no_elbow, tests_no_elbow, elbow_diagonal, after_diagonal, before_diagonal}
use Rattle.cleaned.proofs.Neighbours.{straight_chained}

-- ---- no repeat

-- after p, in the run from f to l
runs_differ_after : (p f l : Entry) (es : List Entry) → SamePixel f l → Differs p f → Linked Differs p (runs_from f l es)
unfolding runs_from
runs_differ_after p f l [] s d = (λ t. d (through t (turned_round s)), tt)
runs_differ_after p f l (e ∷ es) s d =
    by_test (same_pixel f e)
    (λ q. rw q (runs_differ_after p f e es (same-pixel f e q) d))
    (λ q. rw q (d, runs_differ_after f e e es (itself e) (other_pixel f e q)))

runs_differ_from : (f l : Entry) (es : List Entry) → Chained Differs (runs_from f l es)
unfolding runs_from
runs_differ_from f l [] = tt
runs_differ_from f l (e ∷ es) =
    by_test (same_pixel f e)
    (λ q. rw q (runs_differ_from f e es))
    (λ q. rw q (runs_differ_after f e e es (itself e) (other_pixel f e q)))

runs_differ : (es : List Entry) → Chained Differs (runs es)
unfolding runs
runs_differ [] = tt
runs_differ (e ∷ es) = runs_differ_from e e es

pub no_repeat_left : (es : List Entry) → Chained Differs (cleaned es)
unfolding cleaned
no_repeat_left es = straight_chained Differs (λ a b c e h k s. (elbow_diagonal a b c e).x s.x) (runs es) (runs_differ es)

-- ---- no elbow

-- the next of es, where there is one, makes none with p and a
abbrev Begun : Entry → Entry → List Entry → Type 0
Begun p a [] = Unit
Begun p a (b ∷ es) = Elbow p a b → ⊥

begun_diagonal : (p a : Entry) (es : List Entry) → Moves Diagonal p a → Begun p a es
begun_diagonal p a [] d = tt
begun_diagonal p a (b ∷ es) d = after_diagonal p a b d

straight_elbowless_from : (p a : Entry) (es : List Entry) → Begun p a es → ElbowlessFrom p a (straight_after a es)
unfolding straight_after
straight_elbowless_from p a [] h = tt
straight_elbowless_from p a (b ∷ []) h = (h, tt)
straight_elbowless_from p a (b ∷ c ∷ es) h =
    by_test (is_elbow a b c)
    (λ q.
    let d = elbow_diagonal a b c (is-elbow a b c q) in
    rw q (before_diagonal p a c d, straight_elbowless_from a c es (begun_diagonal a c es d)))
    (λ q. rw q (h, straight_elbowless_from a b (c ∷ es) (no_elbow a b c q)))

straight_elbowless_after : (a : Entry) (es : List Entry) → ElbowlessAfter a (straight_after a es)
unfolding straight_after
straight_elbowless_after a [] = tt
straight_elbowless_after a (b ∷ []) = tt
straight_elbowless_after a (b ∷ c ∷ es) =
    by_test (is_elbow a b c)
    (λ q. rw q (straight_elbowless_from a c es (begun_diagonal a c es (elbow_diagonal a b c (is-elbow a b c q)))))
    (λ q. rw q (straight_elbowless_from a b (c ∷ es) (no_elbow a b c q)))

pub no_elbow_left : (es : List Entry) → Elbowless (cleaned es)
unfolding cleaned straight
no_elbow_left es = of (runs es)
  where
    of : (es : List Entry) → Elbowless (straight es)
    of [] = tt
    of (a ∷ es) = straight_elbowless_after a es

-- ---- cleaning twice

runs_same : (e : Entry) (es : List Entry) → Linked Differs e es → runs_from e e es ≡ e ∷ es
unfolding runs_from
runs_same e [] n = refl
runs_same e (f ∷ es) n = rw (tests_other e f n.0, runs_same f es n.1)

straight_same : (a : Entry) (es : List Entry) → ElbowlessAfter a es → straight_after a es ≡ es
unfolding straight_after
straight_same a [] n = refl
straight_same a (b ∷ []) n = refl
straight_same a (b ∷ c ∷ es) n = rw (tests_no_elbow a b c n.0, straight_same b (c ∷ es) n.1)

-- a list with neither is its own cleaned one
pub cleaned_same : (es : List Entry) → Chained Differs es → Elbowless es → cleaned es ≡ es
unfolding cleaned runs straight
cleaned_same [] n m = refl
cleaned_same (e ∷ es) n m = rw (runs_same e es n, straight_same e es m)

pub cleaned_twice : (es : List Entry) → cleaned (cleaned es) ≡ cleaned es
cleaned_twice es = cleaned_same (cleaned es) (no_repeat_left es) (no_elbow_left es)
