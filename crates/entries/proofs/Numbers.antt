-- Entries as numbers: in the document's order, and a list that was written is read back.
use mathlib.Core.Path.{◌≡◌, refl, sym, ap, ap₂, ◌∙◌}
use mathlib.Core.List.{List, [], ◌∷◌, ◌++◌}
use mathlib.Core.Option.{Option, none, some, some-ne-none}
use Prim.Native.Nat.{ℕ, zero, suc, ◌+◌, ◌*◌, ◌/◌, ◌≤◌, ◌<◌}
use native.Mathlib.Nat.{add-zero, zero-add, le_of_suc-le-suc, not-suc-le-zero}
use native.Mathlib.Omega.{arith}
use lib.IntN.{ℤ, pos}
use lib.ListN.{length, get_or, length-append}
use lib.Seq.{get_or-append-add}
use borrow.Author.Tests.{lt-ltb, le-ltb}
use Rattle.std.specs.Prelude.{Some, None, Option as Answer}
use Rattle.entries.specs.declared.Entry.{Entry}
use Rattle.entries.specs.Entries.{entry_size, numbers, flat, entry_of, entry_at, found, entries_in}

-- position, x, y, width, in this order
pub numbers_in_order : (position x y width : ℤ)
    → numbers (record { position = position; x = x; y = y; width = width }) ≡ position ∷ x ∷ y ∷ width ∷ []
numbers_in_order position x y width = refl

pub length_flat : (es : List Entry) → length (flat es) ≡ entry_size * length es
unfolding flat
length_flat [] = refl
length_flat (e ∷ es) = omega (arith, length_flat es)

pub flat_append : (xs ys : List Entry) → flat (xs ++ ys) ≡ flat xs ++ flat ys
unfolding flat
flat_append [] ys = refl
flat_append (e ∷ xs) ys = rw (flat_append xs ys)

-- ---- read back

-- past the first entry
number_further : (e : Entry) (l : List ℤ) (i j k : ℕ) → k ≡ entry_size * (i + 1) + j → get_or (numbers e ++ l) k (pos 0) ≡ get_or l (entry_size * i + j) (pos 0)
number_further e l i j k h =
    let further : k ≡ length (numbers e) + (entry_size * i + j) = omega arith in
    ap (λ (n : ℕ). get_or (numbers e ++ l) n (pos 0)) further ∙ get_or-append-add (numbers e) l (entry_size * i + j) (pos 0)

entry_further : (e : Entry) (l : List ℤ) (i : ℕ) → entry_of (numbers e ++ l) (i + 1) ≡ entry_of l i
entry_further e l i =
    let first = rw (add-zero (entry_size * i)) at (number_further e l i 0 (entry_size * (i + 1)) (sym (add-zero _))) in
    λ k. record {
      position = first k;
      x = number_further e l i 1 (entry_size * (i + 1) + 1) refl k;
      y = number_further e l i 2 (entry_size * (i + 1) + 2) refl k;
      width = number_further e l i 3 (entry_size * (i + 1) + 3) refl k;
    }

entries_further : (e : Entry) (l : List ℤ) (i n : ℕ) → entries_in (numbers e ++ l) (i + 1) n ≡ entries_in l i n
unfolding entries_in
entries_further e l i zero = refl
entries_further e l i (suc n) = ap₂ ◌∷◌ (entry_further e l i) (entries_further e l (i + 1) n)

-- a list that was written is read back
pub entries_back : (es : List Entry) (after : List ℤ) → entries_in (flat es ++ after) 0 (length es) ≡ es
unfolding entries_in flat
entries_back [] after = refl
entries_back (e ∷ es) after =
    ap (λ (fs : List Entry). e ∷ fs) (entries_further e (flat es ++ after) 0 (length es) ∙ entries_back es after)

-- and so is each entry of it
entry_in : (l : List ℤ) (k n i : ℕ) (e : Entry) → i < n → entry_of l (k + i) ≡ get_or (entries_in l k n) i e
unfolding entries_in
entry_in l k zero i e h = absurd (not-suc-le-zero h)
entry_in l k (suc n) zero e h = ap (entry_of l) (add-zero k)
entry_in l k (suc n) (suc i) e h =
    let next : k + suc i ≡ k + 1 + i = omega arith in
    ap (entry_of l) next ∙ entry_in l (k + 1) n i e (le_of_suc-le-suc h)

-- where the list reaches that far
pub entry_there : (l : List ℤ) (i : ℕ) → entry_size * i + entry_size ≤ length l → entry_at l i ≡ some (entry_of l i)
unfolding entry_at
entry_there l i h =
    let inside : i < length l / entry_size = omega arith in
    rw (lt-ltb i _ inside)

-- and where it does not
pub entry_outside : (l : List ℤ) (i : ℕ) → length l < entry_size * i + entry_size → entry_at l i ≡ none
unfolding entry_at
entry_outside l i h =
    let outside : length l / entry_size ≤ i = omega arith in
    rw (le-ltb i _ outside)

pub entry_of_flat : (es : List Entry) (after : List ℤ) (i : ℕ) (e : Entry) → i < length es → entry_at (flat es ++ after) i ≡ some (get_or es i e)
entry_of_flat es after i e h =
    let inside : entry_size * i + entry_size ≤ length (flat es ++ after) = simp (length-append, length_flat) (omega arith) in
    let back : entry_of (flat es ++ after) i ≡ get_or es i e =
    ap (entry_of (flat es ++ after)) (sym (zero-add i)) ∙ entry_in (flat es ++ after) 0 (length es) i e h
    ∙ ap (λ (fs : List Entry). get_or fs i e) (entries_back es after) in
    entry_there (flat es ++ after) i inside ∙ ap some back

-- ---- what `found` gives of an answer determines the answer

pub found_determines : (r r' : Answer Entry) → found r ≡ found r' → r ≡ r'
found_determines r r' e = sym (meant_found r) ∙ ap meant e ∙ meant_found r'
  where
    meant : Option Entry → Answer Entry
    meant (some e) = Some e
    meant none = None

    meant_found : (r : Answer Entry) → meant (found r) ≡ r
    meant_found (Some e) = refl
    meant_found None = refl

-- ---- an answer, where the list reaches that far

module _ (l : List ℤ) (i : ℕ) (h : entry_size * i + entry_size ≤ length l) {r : Answer Entry} (f : found r ≡ entry_at l i) where
  pub here_is : {e : Entry} → r ≡ Some e → e ≡ entry_of l i
  here_is {e} q = let same : some e ≡ some (entry_of l i) = sym (ap found q) ∙ f ∙ entry_there l i h in cc

  pub never_outside : r ≡ None → ⊥
  never_outside q = some-ne-none (entry_of l i) (sym (entry_there l i h) ∙ sym f ∙ ap found q)
