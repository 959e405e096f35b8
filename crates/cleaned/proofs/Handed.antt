-- Over any list, what a cleaner hands out, with what its ending does, is the cleaned list.
use mathlib.Core.Path.{◌≡◌, refl, sym, ap, ◌∙◌}
use mathlib.Core.Bool.{true, false}
use mathlib.Core.List.{List, [], ◌∷◌}
use Rattle.numbers.proofs.Tests.{by_test}
use Rattle.entries.specs.declared.Entry.{Entry}
use Rattle.cleaned.specs.declared.Cleaner.TheVariants.{Empty, Kept, Undecided}
use Rattle.cleaned.specs.Moves.{move, elbow, same_pixel, is_elbow}
use Rattle.cleaned.specs.Cleaned.{runs_from, runs, straight_after, straight, cleaned}
use Rattle.cleaned.specs.Along.{StartsAt}
use Rattle.cleaned.specs.Cleaner.{fed, ending, handed}
use Rattle.cleaned.proofs.Moves.{itself, to_same}
use Rattle.cleaned.proofs.Kept.{runs_start}

-- whether a, b and the next are an elbow is a matter of the next's pixel
next_elbow : (a b e : Entry) (xs : List Entry) (s : StartsAt e xs) → is_elbow a b s.first ≡ is_elbow a b e
next_elbow a b e xs s = ap (elbow (move a b)) (sym (to_same b s.pixel))

over_elbow : (a b e : Entry) (xs : List Entry) → StartsAt e xs → is_elbow a b e ≡ true → straight_after a (b ∷ xs) ≡ straight xs
unfolding straight_after straight
over_elbow a b e xs s q = rw (s.split, next_elbow a b e xs s ∙ q)

past : (a b e : Entry) (xs : List Entry) → StartsAt e xs → is_elbow a b e ≡ false → straight_after a (b ∷ xs) ≡ b ∷ straight_after b xs
unfolding straight_after
past a b e xs s q = rw (s.split, next_elbow a b e xs s ∙ q)

mutual
  unfolding handed fed ending runs_from straight_after straight

  handed_kept : (a l : Entry) (es : List Entry) → handed (Kept a l) es ≡ straight (runs_from a l es)
  handed_kept a l [] = refl
  handed_kept a l (e ∷ es) =
      by_test (same_pixel a e)
      (λ q. rw q (handed_kept a e es))
      (λ q. rw q (ap (λ (xs : List Entry). a ∷ xs) (handed_undecided a e e es)))

  handed_undecided : (a b l : Entry) (es : List Entry) → handed (Undecided a b l) es ≡ straight_after a (runs_from b l es)
  handed_undecided a b l [] = refl
  handed_undecided a b l (e ∷ es) =
      let s = runs_start e e es (itself e) in
      by_test (same_pixel b e)
      (λ q. rw q (handed_undecided a b e es))
      (λ q. by_test (is_elbow a b e)
      (λ t. rw (q, t) (handed_kept e e es ∙ sym (over_elbow a b e (runs_from e e es) s t)))
      (λ t. rw (q, t) (ap (λ (xs : List Entry). b ∷ xs) (handed_undecided b e e es) ∙ sym (past a b e (runs_from e e es) s t))))

pub handed_cleaned : (es : List Entry) → handed Empty es ≡ cleaned es
unfolding handed fed ending cleaned runs straight
handed_cleaned [] = refl
handed_cleaned (e ∷ es) = handed_kept e e es
