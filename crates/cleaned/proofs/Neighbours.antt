-- What holds of neighbours holds of those of the cleaned list, where it goes over a repeat and over an elbow.
use mathlib.Core.List.{List, [], ◌∷◌}
use Rattle.numbers.proofs.Tests.{by_test}
use Rattle.entries.specs.declared.Entry.{Entry}
use Rattle.entries.specs.Entries.{Linked}
use Rattle.cleaned.specs.Moves.{same_pixel, is_elbow, SamePixel, Elbow}
use Rattle.cleaned.specs.Cleaned.{runs_from, runs, straight_after, straight, cleaned}
use Rattle.cleaned.specs.Along.{Chained}
use Rattle.cleaned.proofs.Moves.{same-pixel, is-elbow}

-- ---- over elbows alone

abbrev pub OverElbows : (Entry → Entry → Type 0) → Type 0
OverElbows R = (a b c : Entry) → Elbow a b c → R a b → R b c → R a c

straight_linked : (R : Entry → Entry → Type 0) → OverElbows R → (a : Entry) (es : List Entry) → Linked R a es → Linked R a (straight_after a es)
unfolding straight_after
straight_linked R over a [] n = tt
straight_linked R over a (b ∷ []) n = n
straight_linked R over a (b ∷ c ∷ es) n =
    by_test (is_elbow a b c)
    (λ q. rw q (over a b c (is-elbow a b c q) n.0 n.1.0, straight_linked R over c es n.1.1))
    (λ q. rw q (n.0, straight_linked R over b (c ∷ es) n.1))

pub straight_chained : (R : Entry → Entry → Type 0) → OverElbows R → (es : List Entry) → Chained R es → Chained R (straight es)
unfolding straight
straight_chained R over [] n = tt
straight_chained R over (a ∷ es) n = straight_linked R over a es n

-- ---- over repeats too

pub record GoesOver (R : Entry → Entry → Type 0) : Type 0 where
  pub repeat_first : (a b c : Entry) → SamePixel a b → R a b → R b c → R a c
  pub repeat_last : (a b c : Entry) → SamePixel b c → R a b → R b c → R a c
  pub elbow : OverElbows R

module _ (R : Entry → Entry → Type 0) (over : GoesOver R) where
  -- after an entry p, in the run from f to l: what follows l, follows f
  runs_linked : (p f l : Entry) (es : List Entry) → R p f → R p l → ((g : Entry) → R l g → R f g) → Linked R l es
      → Linked R p (runs_from f l es)
  unfolding runs_from
  runs_linked p f l [] h k t n = (k, tt)
  runs_linked p f l (e ∷ es) h k t n =
      let fe = t e n.0 in
      by_test (same_pixel f e)
      (λ q.
      let s = same-pixel f e q in
      rw q (runs_linked p f e es h (over.repeat_last p f e s h fe) (λ g. over.repeat_first f e g s fe) n.1))
      (λ q. rw q (h, runs_linked f e e es fe fe (λ g r. r) n.1))

  runs_chained : (f l : Entry) (es : List Entry) → ((g : Entry) → R l g → R f g) → Linked R l es → Chained R (runs_from f l es)
  unfolding runs_from
  runs_chained f l [] t n = tt
  runs_chained f l (e ∷ es) t n =
      let fe = t e n.0 in
      by_test (same_pixel f e)
      (λ q. rw q (runs_chained f e es (λ g. over.repeat_first f e g (same-pixel f e q) fe) n.1))
      (λ q. rw q (runs_linked f e e es fe fe (λ g r. r) n.1))

  pub cleaned_chained : (es : List Entry) → Chained R es → Chained R (cleaned es)
  unfolding cleaned runs straight
  cleaned_chained [] n = tt
  cleaned_chained (e ∷ es) n = straight_chained R over.elbow (runs_from e e es) (runs_chained e e es (λ g r. r) n)
