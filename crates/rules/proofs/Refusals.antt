-- How tables of refusals are read; the two ways of an answer, a refusal or else the answer; and what a lent buffer holds afterwards.
use mathlib.Core.Path.{◌≡◌, refl, sym, ap, subst, ◌∙◌}
use mathlib.Core.Bool.{Bool, true, false, not}
use mathlib.Core.List.{List, [], ◌∷◌, ◌++◌}
use Prim.Native.Nat.{ℕ, zero, suc}
use native.Mathlib.Omega.{arith}
use lib.Dec.{T, eqb}
use lib.ListN.{length, take, drop}
use lib.Seq.{take-append_seam, drop-append_seam}
use borrow.Author.Tests.{eqb-true}
use Rattle.numbers.specs.Tables.{All, every}
use Rattle.numbers.proofs.Tables.{tested}
use Rattle.rules.specs.Refusals.{unless, first_of, refusal_or, filled, is_among, Among}

-- ---- one line of a table

-- that does not refuse
pub rule_kept : (rule : Bool) (k rest : ℕ) → unless rule (suc k) rest ≡ 0 → (rule ≡ true) × (rest ≡ 0)
rule_kept true k rest e = (refl, e)
rule_kept false k rest e = let no : ⊥ = omega arith in absurd no

-- a rule that cannot hold is broken
pub broken : (rule : Bool) → (rule ≡ true → ⊥) → rule ≡ false
broken true h = absurd (h refl)
broken false h = refl

-- each line's number is in the table
pub line_among : (rule : Bool) {k rest : ℕ} {table : List ℕ} → Among k table → Among rest table → Among (unless rule k rest) table
line_among true h t = t
line_among false h t = h

-- a written number in a written table
pub among : {k : ℕ} {table : List ℕ} → T (is_among k table) → Among k table
among t = record { is = t }

-- what holds of all numbers of a table holds of one among them
pub among_all : (P : ℕ → Type 0) (k : ℕ) (table : List ℕ) → All P table → Among k table → P k
among_all P k [] a t = absurd t.is
among_all P k (n ∷ table) a t = by_first (eqb k n) refl (λ e. among_all P k table a.1 (record { is = rw e at t.is }))
  where
    by_first : (b : Bool) → eqb k n ≡ b → (eqb k n ≡ false → P k) → P k
    by_first true e rest = subst P (sym (eqb-true k n e)) a.0
    by_first false e rest = rest e

pub among_wider : {k : ℕ} (table wider : List ℕ) → Among k table → T (every (λ n. is_among n wider) table) → Among k wider
among_wider {k} table wider a t =
    among_all (λ n. Among n wider) k table (tested (λ n. Among n wider) (λ n. is_among n wider) (λ n t. record { is = t }) table t) a

-- and no number that is not in the table
pub untabled : {k : ℕ} (table others : List ℕ) → Among k table → T (every (λ n. not (is_among n table)) others) → All (λ n. k ≡ n → ⊥) others
untabled {k} table others a t = tested (λ n. k ≡ n → ⊥) (λ n. not (is_among n table)) none others t
  where
    both : (b : Bool) → T b → T (not b) → ⊥
    both true t n = n
    both false t n = t

    none : (n : ℕ) → T (not (is_among n table)) → k ≡ n → ⊥
    none n t e = both (is_among n table) (subst (λ (m : ℕ). Among m table) e a).is t

-- ---- one table and then another

pub first_kept : (k rest : ℕ) → first_of k rest ≡ 0 → (k ≡ 0) × (rest ≡ 0)
first_kept zero rest e = (refl, e)
first_kept (suc k) rest e = let no : ⊥ = omega arith in absurd no

pub first_on : (k rest : ℕ) → k ≡ 0 → first_of k rest ≡ rest
first_on zero rest e = refl
first_on (suc k) rest e = let no : ⊥ = omega arith in absurd no

pub first_stop : (k rest : ℕ) → (k ≡ 0 → ⊥) → first_of k rest ≡ k
first_stop zero rest h = absurd (h refl)
first_stop (suc k) rest h = refl

pub first_among : (k rest : ℕ) {table : List ℕ} → Among k table → Among rest table → Among (first_of k rest) table
first_among zero rest h t = t
first_among (suc k) rest h t = h

-- ---- a refusal, or else the answer

module _ {A : Type 0} (refused : ℕ → A) (answer : A) where
  pub answers : {k : ℕ} → k ≡ 0 → refusal_or k refused answer ≡ answer
  answers e = ap (λ (k : ℕ). refusal_or k refused answer) e

  -- where a table refused by k
  pub refuses : {k j : ℕ} → k ≡ j → (k ≡ 0 → ⊥) → refused k ≡ refusal_or j refused answer
  refuses {k} e h = stops k h ∙ ap (λ (i : ℕ). refusal_or i refused answer) e
    where
      stops : (k : ℕ) → (k ≡ 0 → ⊥) → refused k ≡ refusal_or k refused answer
      stops zero h = absurd (h refl)
      stops (suc k) h = refl

  -- the number that is answered
  module _ (number : A → ℕ) (says : (k : ℕ) → number (refused k) ≡ k) (none : number answer ≡ 0) where
    pub number_answered : (k : ℕ) → number (refusal_or k refused answer) ≡ k
    number_answered zero = none
    number_answered (suc k) = says (suc k)

    -- what is answered under a refusal
    pub refused_answers : (k : ℕ) → (number (refusal_or k refused answer) ≡ 0 → ⊥) → refusal_or k refused answer ≡ refused k
    refused_answers k h = sym (refuses refl (λ e. h (number_answered k ∙ e)))

    -- and where there is none
    pub accepted_answers : (k : ℕ) → number (refusal_or k refused answer) ≡ 0 → refusal_or k refused answer ≡ answer
    accepted_answers k e = answers (sym (number_answered k) ∙ e)

-- ---- a lent buffer afterwards

module _ {A : Type 0} (values buffer : List A) where
  pub filled_refused : (k : ℕ) → (k ≡ 0 → ⊥) → filled k values buffer ≡ buffer
  filled_refused k h = sym (refuses (λ _. buffer) (values ++ drop (length values) buffer) {k = k} refl h)

  -- without a refusal: the values, and what stood after them
  pub filled_front : take (length values) (filled 0 values buffer) ≡ values
  filled_front = take-append_seam values (drop (length values) buffer)

  pub filled_after : drop (length values) (filled 0 values buffer) ≡ drop (length values) buffer
  filled_after = drop-append_seam values (drop (length values) buffer)
