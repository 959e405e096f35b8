-- A drawing that keeps the invariant in every coordinate: each operation that level and q allow keeps it, its new registers fit 32 bits,
-- and so every call is answered as level and q say. Its curves are any whose registers fit.
use mathlib.Core.Path.{◌≡◌, refl, sym, ap, ap₂, ◌∙◌, subst, subst₂}
use mathlib.Core.Bool.{Bool, true, false}
use Prim.Native.Nat.{ℕ, zero, suc, ◌+◌, ◌*◌, ◌-◌, ◌/◌, ◌%◌, ◌^◌, ◌<◌}
use native.Mathlib.Nat.{mul-mod_left, pow-succ'}
use native.Mathlib.Numerals.{add-one}
use native.Mathlib.Omega.{arith}
use lib.Dec.{ltb}
use borrow.Author.Tests.{ltb-true, eqb-true}
use Rattle.numbers.proofs.Multiples.{multiple}
use Rattle.rules.specs.Refusals.{unless, first_of}
use Rattle.rules.proofs.Laws.{Fine}
use Rattle.rules.proofs.Refusals.{rule_kept}
use Rattle.coordinate.specs.declared.Registers.{Registers}
use Rattle.coordinate.specs.Curve.{Curve}
use Rattle.coordinate.specs.Registers.{Operation, halve, double, step, turn, are_registers}
use Rattle.coordinate.proofs.Turns.{halve_on, double_on, step_on}
use Rattle.coordinate.proofs.Near.{At}
use Rattle.coordinate.proofs.Stands.{Bounded}
use Rattle.operations.specs.Coordinates.{Coordinate, in_x}
use Rattle.operations.specs.Position.{stride, is_drawing, is_aligned}
use Rattle.operations.specs.Refusals.{gate, own_refusal, call_refusal, registers_refusal}
use Rattle.operations.proofs.Every.{true_every}
use Rattle.operations.proofs.Gates.{is-drawing}
use Rattle.engine.specs.declared.Drawing.{Drawing}
use Rattle.engine.specs.Drawing.{of, turned, moved, called}
use Rattle.engine.proofs.Each.{turned_of}
use Rattle.distance.specs.Calls.{ruled}

-- at finest level F; `below` finer levels are left
pub record Kept (F : ℕ) (f : Coordinate → Curve) (d : Drawing) : Type 0 where
  pub fine : Fine F
  pub finest : d.finest ≡ F
  pub below : ℕ
  pub levels : d.level + below ≡ F
  pub on : (c : Coordinate) → At F (f c) d.level below d.q (of c d)

-- ---- level and q

pub stride_below : (F n j : ℕ) → n + j ≡ F → stride F n ≡ 2 ^ j
stride_below F n j e = ap (λ (k : ℕ). 2 ^ k) (left e)
  where
    left : n + j ≡ F → F - n ≡ j
    left e = omega arith

pub kept_inside : (F : ℕ) (f : Coordinate → Curve) (d : Drawing) → Kept F f d → is_drawing F d.level d.q ≡ true
kept_inside F f d k =
    let whole : d.q % stride F d.level ≡ 0 =
    ap₂ (λ (u v : ℕ). u % v) (k.on in_x).whole (stride_below F d.level k.below k.levels) ∙ mul-mod_left (k.on in_x).strides (2 ^ k.below) in
    is-drawing F d.level d.q
    (record {
      finest_least = k.fine.least;
      finest_most = k.fine.most;
      level = omega (arith, k.levels);
      position = (k.on in_x).within;
      whole = whole;
    })

-- the document's numbers are those of the operations' own refusals
pub ruled_own : (F : ℕ) (op : Operation) (n q : ℕ) → ruled F op n q ≡ unless (ltb q (2 ^ F)) 5 (own_refusal F op n q)
unfolding ruled is_aligned
ruled_own F halve n q = refl
ruled_own F double n q = refl
ruled_own F step n q = refl

pub kept_ruled : (F : ℕ) (f : Coordinate → Curve) (d : Drawing) (op : Operation) → Kept F f d
    → call_refusal d.finest op d.level d.q ≡ ruled F op d.level d.q
unfolding call_refusal gate
kept_ruled F f d op k =
    ap (λ (G : ℕ). call_refusal G op d.level d.q) k.finest
    ∙ ap (λ (b : Bool). first_of (unless b 10 (unless (ltb d.q (2 ^ F)) 5 0)) (own_refusal F op d.level d.q)) (kept_inside F f d k)
    ∙ by_test (ltb d.q (2 ^ F))
    ∙ sym (ruled_own F op d.level d.q)
  where
    by_test : (b : Bool) → first_of (unless b 5 0) (own_refusal F op d.level d.q) ≡ unless b 5 (own_refusal F op d.level d.q)
    by_test true = refl
    by_test false = refl

-- ---- the operations that level and q allow

-- before the end, and not refused by the operation itself
pub allowed : (F : ℕ) (op : Operation) (n q : ℕ) → ruled F op n q ≡ 0 → (q < 2 ^ F) × (own_refusal F op n q ≡ 0)
allowed F op n q e =
    let f = rule_kept (ltb q (2 ^ F)) 4 (own_refusal F op n q) (sym (ruled_own F op n q) ∙ e) in
    (ltb-true q (2 ^ F) f.0, f.1)

pub less_one : (n : ℕ) → suc n - 1 ≡ n
less_one n = omega arith

halve_at : (F : ℕ) (f : Curve) (n j q : ℕ) (r : Registers) → n + j ≡ F → n < F → At F f n j q r → At F f (n + 1) (j - 1) q (turn halve n r)
halve_at F f n zero q r e h o = let no : ⊥ = omega arith in absurd no
halve_at F f n (suc j) q r e h o =
    subst₂ (λ (m i : ℕ). At F f m i q (turn halve n r)) (sym (add-one n)) (sym (less_one j)) (halve_on (2 ^ (16 - F)) (2 ^ F) f n j q r o)

double_at : (F : ℕ) (f : Curve) (n j q m : ℕ) (r : Registers) → 0 < n → q ≡ m * (2 * 2 ^ j) → At F f n j q r → At F f (n - 1) (suc j) q (turn double n r)
double_at F f zero j q m r h e o = let no : ⊥ = omega arith in absurd no
double_at F f (suc n) j q m r h e o =
    subst (λ (l : ℕ). At F f l (suc j) q (turn double (suc n) r)) (sym (less_one n))
    (double_on (2 ^ (16 - F)) (2 ^ F) f n j q m r (e ∙ ap (λ (t : ℕ). m * t) (sym (pow-succ' 2 j))) o)

at_turned : (F : ℕ) (op : Operation) (d : Drawing) (g : Curve) (n j q : ℕ) (c : Coordinate) → At F g n j q (turn op d.level (of c d)) → At F g n j q (of c (turned op d))
at_turned F op d g n j q c = subst (At F g n j q) (sym (turned_of op d c))

pub kept_turned : (F : ℕ) (f : Coordinate → Curve) (d : Drawing) (op : Operation) → Kept F f d → ruled F op d.level d.q ≡ 0 → Kept F f (turned op d)
unfolding turned is_aligned
kept_turned F f d halve k e =
    let h = ltb-true d.level F (rule_kept (ltb d.level F) 5 0 (allowed F halve d.level d.q e).1).0 in
    record {
      fine = k.fine;
      finest = k.finest;
      below = k.below - 1;
      levels = omega (arith, k.levels);
      on = λ c. at_turned F halve d (f c) _ _ _ c (halve_at F (f c) d.level k.below d.q (of c d) k.levels h (k.on c));
    }
kept_turned F f d double k e =
    let two = 2 * stride F d.level in
    let r = rule_kept (ltb 0 d.level) 6 (unless (is_aligned F d.level d.q) 8 0) (allowed F double d.level d.q e).1 in
    let h = ltb-true 0 d.level r.0 in
    let s = stride_below F d.level k.below k.levels in
    let even = eqb-true (d.q % two) 0 (rule_kept (is_aligned F d.level d.q) 7 0 r.1).0 in
    let twice : d.q ≡ d.q / two * (2 * 2 ^ k.below) = multiple d.q two even ∙ ap (λ (t : ℕ). d.q / two * (2 * t)) s in
    record {
      fine = k.fine;
      finest = k.finest;
      below = suc k.below;
      levels = omega (arith, k.levels);
      on = λ c. at_turned F double d (f c) _ _ _ c (double_at F (f c) d.level k.below d.q (d.q / two) (of c d) h twice (k.on c));
    }
kept_turned F f d step k e =
    let h = (allowed F step d.level d.q e).0 in
    let s : stride d.finest d.level ≡ 2 ^ k.below =
    ap (λ (G : ℕ). stride G d.level) k.finest ∙ stride_below F d.level k.below k.levels in
    record {
      fine = k.fine;
      finest = k.finest;
      below = k.below;
      levels = k.levels;
      on = λ c. at_turned F step d (f c) _ _ _ c (rw s (step_on (2 ^ (16 - F)) (2 ^ F) (f c) d.level k.below d.q (of c d) (k.on c) h));
    }

-- ---- every call

module _ (F : ℕ) (f : Coordinate → Curve) (fits : (c : Coordinate) → Bounded F (f c)) where
  pub kept_fits : (d : Drawing) → Kept F f d → (c : Coordinate) → are_registers (of c d) ≡ true
  unfolding Bounded
  kept_fits d k c = fits c d.level k.below d.q (of c d) (k.on c)

  registers_kept : (d : Drawing) → Kept F f d → registers_refusal (λ c. of c d) ≡ 0
  unfolding registers_refusal
  registers_kept d k = ap (λ (b : Bool). unless b 10 0) (true_every (λ c. are_registers (of c d)) (kept_fits d k))

  -- registers are never what refuses
  call_ruled : (k : ℕ) (new : Drawing) → (k ≡ 0 → Kept F f new) → first_of k (registers_refusal (λ c. of c new)) ≡ k
  call_ruled zero new h = registers_kept new (h refl)
  call_ruled (suc k) new h = refl

  pub call_settled : (d : Drawing) (op : Operation) → Kept F f d → called op d ≡ moved (ruled F op d.level d.q) d (turned op d)
  unfolding called
  call_settled d op k =
      ap (λ (m : ℕ). moved m d (turned op d))
      (ap (λ (m : ℕ). first_of m (registers_refusal (λ c. of c (turned op d)))) (kept_ruled F f d op k)
      ∙ call_ruled (ruled F op d.level d.q) (turned op d) (kept_turned F f d op k))
