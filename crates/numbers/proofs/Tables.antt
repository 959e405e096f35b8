-- A rule that holds at every entry of a table, shown by one test that antt computes over the whole table, or part by part.
use mathlib.Core.Bool.{Bool}
use mathlib.Core.List.{List, [], ◌∷◌, ◌++◌, map}
use Prim.Native.Nat.{ℕ, zero, suc, ◌<◌}
use native.Mathlib.Nat.{le_of_suc-le-suc, not-suc-le-zero}
use lib.Dec.{T}
use lib.ListN.{length, get_or}
use mir.Facts.{and_yes}
use Rattle.numbers.specs.Tables.{All, every}

pub tested : {A : Type 0} (P : A → Type 0) (f : A → Bool) → ((x : A) → T (f x) → P x) → (xs : List A) → T (every f xs) → All P xs
tested P f h [] t = tt
tested P f h (x ∷ xs) t = let ts = and_yes (f x) (every f xs) t in (h x ts.0, tested P f h xs ts.1)

-- every entry: the one at each place of the table
pub all_at : {A : Type 0} (P : A → Type 0) (xs : List A) (z : A) → All P xs → (i : ℕ) → i < length xs → P (get_or xs i z)
all_at P [] z h i k = absurd (not-suc-le-zero k)
all_at P (x ∷ xs) z h zero k = h.0
all_at P (x ∷ xs) z h (suc i) k = all_at P xs z h.1 i (le_of_suc-le-suc k)

pub all_append : {A : Type 0} (P : A → Type 0) (xs ys : List A) → All P xs → All P ys → All P (xs ++ ys)
all_append P [] ys h k = k
all_append P (x ∷ xs) ys h k = (h.0, all_append P xs ys h.1 k)

pub all_map : {A B : Type 0} (P : B → Type 0) (f : A → B) (xs : List A) → All (λ x. P (f x)) xs → All P (map f xs)
all_map P f [] h = tt
all_map P f (x ∷ xs) h = (h.0, all_map P f xs h.1)

pub all_weaker : {A : Type 0} {P Q : A → Type 0} → ((x : A) → P x → Q x) → (xs : List A) → All P xs → All Q xs
all_weaker f [] h = tt
all_weaker f (x ∷ xs) h = (f x h.0, all_weaker f xs h.1)
