-- Elbows are taken from the front: five equations, in the order's words, and only `straight` satisfies them.
use mathlib.Core.Path.{◌≡◌, refl, ap, ◌∙◌}
use mathlib.Core.List.{List, [], ◌∷◌}
use Rattle.numbers.proofs.Tests.{by_test}
use Rattle.entries.specs.declared.Entry.{Entry}
use Rattle.cleaned.specs.Moves.{is_elbow}
use Rattle.cleaned.specs.Cleaned.{straight_after, straight}
use Rattle.cleaned.specs.Along.{FromTheFront}
use Rattle.cleaned.proofs.Moves.{is-elbow, no_elbow, tests_elbow, tests_no_elbow}

pub from_the_front : FromTheFront straight
unfolding straight straight_after
from_the_front =
    record {
      none = refl;
      one = λ a. refl;
      two = λ a b. refl;
      elbow = λ a b c es h. rw (tests_elbow a b c h);
      next = λ a b c es h. rw (tests_no_elbow a b c h);
    }

module _ (f : List Entry → List Entry) (law : FromTheFront f) where
  only_after : (a : Entry) (es : List Entry) → f (a ∷ es) ≡ a ∷ straight_after a es
  unfolding straight_after
  only_after a [] = law.one a
  only_after a (b ∷ []) = law.two a b
  only_after a (b ∷ c ∷ es) =
      by_test (is_elbow a b c)
      (λ q. rw q (law.elbow a b c es (is-elbow a b c q) ∙ ap (λ (xs : List Entry). a ∷ xs) (only_after c es)))
      (λ q. rw q (law.next a b c es (no_elbow a b c q) ∙ ap (λ (xs : List Entry). a ∷ xs) (only_after b (c ∷ es))))

  pub front_only : (es : List Entry) → f es ≡ straight es
  unfolding straight
  front_only [] = law.none
  front_only (a ∷ es) = only_after a es
