-- Moves in numbers: what each test says of x and y, and that the two moves of an elbow are a diagonal together.
use mathlib.Core.Path.{◌≡◌, refl, sym, ap, ap₂, ◌∙◌, subst}
use mathlib.Core.Bool.{Bool, true, false, false≢true, true≢false}
use lib.Dec.{T}
use lib.IntN.{ℤ}
use Rattle.numbers.specs.Tests.{eqbℤ}
use Rattle.numbers.proofs.Tests.{by_test, eqbℤ→eq, eq→eqbℤ, ne→eqbℤ}
use Rattle.entries.specs.declared.Entry.{Entry}
use Rattle.cleaned.specs.declared.Move.{Move}
use Rattle.cleaned.specs.declared.Move.TheVariants.{Stays, AlongX, AlongY, Diagonal}
use Rattle.cleaned.specs.Moves.{made, move, stays, same_pixel, elbow, is_elbow, keeps_x, keeps_y, Alike, Moves, SamePixel, Elbow, x_then_y, y_then_x}

-- ---- a move is told by whether x and y stay

alike : (u v : ℤ) (t : Bool) → eqbℤ u v ≡ t → Alike t u v
alike u v true e = eqbℤ→eq u v (subst T (sym e) tt)
alike u v false e = λ same. true≢false (sym (eq→eqbℤ u v same) ∙ e)

tests_alike : (u v : ℤ) (t : Bool) → Alike t u v → eqbℤ u v ≡ t
tests_alike u v true h = eq→eqbℤ u v h
tests_alike u v false h = ne→eqbℤ u v h

pub moves : (a b : Entry) → Moves (move a b) a b
unfolding move
moves a b =
    let p = eqbℤ a.x b.x in
    let q = eqbℤ a.y b.y in
    record { x = alike a.x b.x _ (in_x p q); y = alike a.y b.y _ (in_y p q) }
  where
    in_x : (p q : Bool) → p ≡ keeps_x (made p q)
    in_x true true = refl
    in_x true false = refl
    in_x false true = refl
    in_x false false = refl

    in_y : (p q : Bool) → q ≡ keeps_y (made p q)
    in_y true true = refl
    in_y true false = refl
    in_y false true = refl
    in_y false false = refl

pub moves_only : (a b : Entry) (m : Move) → Moves m a b → move a b ≡ m
unfolding move
moves_only a b m h = ap₂ made (tests_alike a.x b.x (keeps_x m) h.x) (tests_alike a.y b.y (keeps_y m) h.y) ∙ told m
  where
    told : (m : Move) → made (keeps_x m) (keeps_y m) ≡ m
    told Stays = refl
    told AlongX = refl
    told AlongY = refl
    told Diagonal = refl

moves_as : (a b : Entry) {m : Move} → move a b ≡ m → Moves m a b
moves_as a b e = subst (λ (n : Move). Moves n a b) e (moves a b)

-- ---- the same pixel

pub same-pixel : (a b : Entry) → same_pixel a b ≡ true → SamePixel a b
same-pixel a b e = moves_as a b (stays_only (move a b) e)
  where
    stays_only : (m : Move) → stays m ≡ true → m ≡ Stays
    stays_only Stays e = refl
    stays_only AlongX e = absurd (false≢true e)
    stays_only AlongY e = absurd (false≢true e)
    stays_only Diagonal e = absurd (false≢true e)

pub tests_same : (a b : Entry) → SamePixel a b → same_pixel a b ≡ true
tests_same a b s = ap stays (moves_only a b Stays s)

pub other_pixel : (a b : Entry) → same_pixel a b ≡ false → SamePixel a b → ⊥
other_pixel a b e s = true≢false (sym (tests_same a b s) ∙ e)

pub tests_other : (a b : Entry) → (SamePixel a b → ⊥) → same_pixel a b ≡ false
tests_other a b h = by_test (same_pixel a b) (λ e. absurd (h (same-pixel a b e))) (λ e. e)

pub itself : (a : Entry) → SamePixel a a
itself a = record { x = refl; y = refl }

pub turned_round : {a b : Entry} → SamePixel a b → SamePixel b a
turned_round s = record { x = sym s.x; y = sym s.y }

pub through : {a b c : Entry} → SamePixel a b → SamePixel b c → SamePixel a c
through s t = record { x = s.x ∙ t.x; y = s.y ∙ t.y }

-- a move to a pixel, whichever entry shows it
pub to_same : (a : Entry) {b c : Entry} → SamePixel b c → move a b ≡ move a c
unfolding move
to_same a s i = made (eqbℤ a.x (s.x i)) (eqbℤ a.y (s.y i))

-- ---- elbows

pub is-elbow : (a b c : Entry) → is_elbow a b c ≡ true → Elbow a b c
unfolding elbow
is-elbow a b c = of (move a b) (move b c) refl refl
  where
    of : (m n : Move) → move a b ≡ m → move b c ≡ n → elbow m n ≡ true → Elbow a b c
    of Stays n p q e = absurd (false≢true e)
    of AlongX Stays p q e = absurd (false≢true e)
    of AlongX AlongX p q e = absurd (false≢true e)
    of AlongX AlongY p q e = x_then_y (moves_as a b p) (moves_as b c q)
    of AlongX Diagonal p q e = absurd (false≢true e)
    of AlongY Stays p q e = absurd (false≢true e)
    of AlongY AlongX p q e = y_then_x (moves_as a b p) (moves_as b c q)
    of AlongY AlongY p q e = absurd (false≢true e)
    of AlongY Diagonal p q e = absurd (false≢true e)
    of Diagonal n p q e = absurd (false≢true e)

pub tests_elbow : (a b c : Entry) → Elbow a b c → is_elbow a b c ≡ true
unfolding elbow
tests_elbow a b c (x_then_y h k) = ap₂ elbow (moves_only a b AlongX h) (moves_only b c AlongY k)
tests_elbow a b c (y_then_x h k) = ap₂ elbow (moves_only a b AlongY h) (moves_only b c AlongX k)

pub no_elbow : (a b c : Entry) → is_elbow a b c ≡ false → Elbow a b c → ⊥
no_elbow a b c e h = true≢false (sym (tests_elbow a b c h) ∙ e)

pub tests_no_elbow : (a b c : Entry) → (Elbow a b c → ⊥) → is_elbow a b c ≡ false
tests_no_elbow a b c h = by_test (is_elbow a b c) (λ e. absurd (h (is-elbow a b c e))) (λ e. e)

-- its two moves are a diagonal together
pub elbow_diagonal : (a b c : Entry) → Elbow a b c → Moves Diagonal a c
elbow_diagonal a b c (x_then_y h k) = record { x = λ e. h.x (e ∙ sym k.x); y = λ e. k.y (sym h.y ∙ e) }
elbow_diagonal a b c (y_then_x h k) = record { x = λ e. k.x (sym h.x ∙ e); y = λ e. h.y (e ∙ sym k.y) }

-- and a diagonal is no part of an elbow
pub after_diagonal : (a b c : Entry) → Moves Diagonal a b → Elbow a b c → ⊥
after_diagonal a b c d (x_then_y h k) = d.y h.y
after_diagonal a b c d (y_then_x h k) = d.x h.x

pub before_diagonal : (a b c : Entry) → Moves Diagonal b c → Elbow a b c → ⊥
before_diagonal a b c d (x_then_y h k) = d.x k.x
before_diagonal a b c d (y_then_x h k) = d.y k.y
