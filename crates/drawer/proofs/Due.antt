-- What the drawer's loops keep: the list and the tally, with all that is still due, are those of the loop's start with all that was due there.
use mathlib.Core.Path.{◌≡◌, refl, sym, ◌∙◌, subst}
use mathlib.Core.List.{List, ◌∷◌}
use Prim.Native.Nat.{ℕ, ◌+◌, ◌*◌, ◌≤◌, ◌<◌}
use native.Mathlib.Nat.{le_trans}
use native.Mathlib.Omega.{arith}
use lib.IntN.{ℤ}
use lib.Seq.{sets}
use Rattle.numbers.proofs.Buffers.{Ahead, here, then, stored}
use Rattle.entries.specs.declared.Entry.{Entry}
use Rattle.entries.specs.Entries.{entry_size, numbers, flat}
use Rattle.entries.proofs.Length.{move_most}
use Rattle.drawer.specs.declared.Tally.{Tally}
use Rattle.drawer.specs.Tally.{added, Small, added_all}

pub record Due (l : List ℤ) (t : Tally) (es : List Entry) (l₀ : List ℤ) (t₀ : Tally) (es₀ : List Entry) : Type 0 where
  pub tally : added_all t es ≡ added_all t₀ es₀
  pub list : Ahead l (entry_size * t.totals.points) (flat es) l₀ (entry_size * t₀.totals.points) (flat es₀)

pub due_here : (l : List ℤ) (t : Tally) (es : List Entry) → Due l t es l t es
due_here l t es = record { tally = refl; list = here l (entry_size * t.totals.points) (flat es) }

pub due_then : {l l₁ l₀ : List ℤ} {t t₁ t₀ : Tally} {es es₁ es₀ : List Entry}
    → Due l t es l₁ t₁ es₁ → Due l₁ t₁ es₁ l₀ t₀ es₀ → Due l t es l₀ t₀ es₀
due_then a b = record { tally = a.tally ∙ b.tally; list = then a.list b.list }

-- the same entries in another form
pub due_by : {l l₀ : List ℤ} {t t₀ : Tally} {es fs es₀ : List Entry} → fs ≡ es → Due l t es l₀ t₀ es₀ → Due l t fs l₀ t₀ es₀
due_by {l} {l₀} {t} {t₀} {es₀ = es₀} e a = subst (λ (x : List Entry). Due l t x l₀ t₀ es₀) (sym e) a

-- an entry is shown
pub due_shown : {l l₀ : List ℤ} {t t₀ : Tally} {e : Entry} {es es₀ : List Entry} → Due l t (e ∷ es) l₀ t₀ es₀
    → Due (sets l (entry_size * t.totals.points) (numbers e)) (added t e) es l₀ t₀ es₀
unfolding added_all added flat
due_shown {l} {t = t} {e = e} {es = es} a =
    let at = entry_size * t.totals.points in
    let one = subst (λ (n : ℕ). Ahead (sets l at (numbers e)) n (flat es) l at (flat (e ∷ es))) (one_more t.totals.points) (stored l at (numbers e) (flat es)) in
    record { tally = a.tally; list = then one a.list }
  where
    one_more : (n : ℕ) → entry_size * n + entry_size ≡ entry_size * (n + 1)
    one_more n = omega arith

-- a tally of at most n points
pub record Few (t : Tally) (n : ℕ) : Type 0 where
  pub points : t.totals.points ≤ n
  pub length : t.totals.length ≤ 1414 * t.totals.points

pub few_small : {t : Tally} {n : ℕ} → Few t n → n ≤ 1000000 → Small t
few_small f h = record { few = le_trans f.points h; short = f.length }

pub few_most : {t : Tally} {m n : ℕ} → Few t m → m ≤ n → Few t n
few_most f h = record { points = le_trans f.points h; length = f.length }

pub few_more : (t : Tally) (e : Entry) {m n : ℕ} → Few t m → m < n → Few (added t e) n
unfolding added
few_more t e f h = record { points = omega (arith, f.points); length = omega (arith, f.length, move_most t.last e) }
