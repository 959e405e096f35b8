-- A lent buffer that a loop fills: what it holds now, with all that is still to be stored, is what it held where the loop began, with
-- all that was to be stored there. A run of stores is the kit's `sets`; a store past the end changes nothing.
use mathlib.Core.Path.{◌≡◌, refl, sym, ap, ◌∙◌}
use mathlib.Core.List.{List, [], ◌∷◌, ◌++◌}
use Prim.Native.Nat.{ℕ, suc, ◌+◌, ◌≤◌}
use native.Mathlib.Nat.{add-zero, zero-add, le_trans, le-suc}
use native.Mathlib.Omega.{arith}
use lib.ListN.{length, drop, set, length-append}
use lib.Seq.{sets, sets-eq, set_out}

module _ {A : Type 0} where
  pub sets_append : (l : List A) (i : ℕ) (u v : List A) → sets l i (u ++ v) ≡ sets (sets l i u) (i + length u) v
  sets_append l i [] v = rw (add-zero i)
  sets_append l i (x ∷ u) v =
      let e : suc i + length u ≡ i + suc (length u) = omega arith in
      sets_append (set l i x) (suc i) u v ∙ ap (λ (n : ℕ). sets (sets l i (x ∷ u)) n v) e

  -- past the end nothing changes
  pub sets_out : (l : List A) (i : ℕ) (u : List A) → length l ≤ i → sets l i u ≡ l
  sets_out l i [] h = refl
  sets_out l i (x ∷ u) h = ap (λ (k : List A). sets k (suc i) u) (set_out l i x h) ∙ sets_out l (suc i) u (le_trans h (le-suc i))

  -- a run that fits, stored from the front: the values, and then what stood after them
  pub sets_front : (l vs : List A) → length vs ≤ length l → sets l 0 vs ≡ vs ++ drop (length vs) l
  sets_front l vs h = sets-eq vs l 0 (rw (zero-add (length vs)) h) ∙ ap (λ (n : ℕ). vs ++ drop n l) (zero-add (length vs))

  -- l at place n with `rest` to come is k at place m with `all` to come
  pub record Ahead (l : List A) (n : ℕ) (rest : List A) (k : List A) (m : ℕ) (all : List A) : Type 0 where
    pub count : n + length rest ≡ m + length all
    pub list : sets l n rest ≡ sets k m all

  pub here : (l : List A) (n : ℕ) (rest : List A) → Ahead l n rest l n rest
  here l n rest = record { count = refl; list = refl }

  pub then : {l k j : List A} {n m i : ℕ} {rest all more : List A} → Ahead l n rest k m all → Ahead k m all j i more → Ahead l n rest j i more
  then a b = record { count = a.count ∙ b.count; list = a.list ∙ b.list }

  -- the values u are stored
  pub stored : (l : List A) (n : ℕ) (u rest : List A) → Ahead (sets l n u) (n + length u) rest l n (u ++ rest)
  stored l n u rest = record { count = rw (length-append u rest) (omega arith); list = sym (sets_append l n u rest) }

  -- nothing is to come
  pub stored_all : {l k : List A} {n m : ℕ} {rest all : List A} → rest ≡ [] → Ahead l n rest k m all → l ≡ sets k m all
  stored_all e a = (rw e at a).list
