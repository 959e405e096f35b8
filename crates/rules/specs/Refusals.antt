-- How a table of refusals is read, and what an entry answers by it. 0 is no refusal.
use Rattle.std.specs.Prelude.{Bool, false, cond, ◌||◌, List, [], ◌∷◌, ◌++◌, ℕ, zero, suc, T, eqb, length, drop}

-- one line of a table: the number where the rule is broken, and else what the lines after it say
abbrev pub unless : Bool → ℕ → ℕ → ℕ
unless rule number rest = cond rule rest number

-- one table and then another: the first of the two refusals
abbrev pub first_of : ℕ → ℕ → ℕ
first_of zero rest = rest
first_of (suc k) rest = suc k

-- what is answered: a refusal, or else the answer
abbrev pub refusal_or : {A : Type 0} → ℕ → (ℕ → A) → A → A
refusal_or zero refused answer = answer
refusal_or (suc k) refused answer = refused (suc k)

-- a lent buffer afterwards: the values from its front on, and then what stood after them; a refusal leaves it as found
abbrev pub filled : {A : Type 0} → ℕ → List A → List A → List A
filled k values buffer = refusal_or k (λ _. buffer) (values ++ drop (length values) buffer)

-- k is one of the numbers of a table
abbrev pub is_among : ℕ → List ℕ → Bool
is_among k [] = false
is_among k (x ∷ xs) = eqb k x || is_among k xs

pub record Among (k : ℕ) (table : List ℕ) : Type 0 where
  pub is : T (is_among k table)
