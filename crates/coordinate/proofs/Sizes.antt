-- How large the registers of one coordinate are, at any level and any q up to the end, by what is known of its exact curve.
use mathlib.Core.Path.{◌≡◌, refl, sym, ap, subst}
use Prim.Native.Nat.{ℕ, ◌+◌, ◌*◌, ◌-◌, ◌^◌, ◌≤◌, ◌<◌}
use native.Mathlib.Nat.{mul-le-mul, mul-le-mul_left, mul-le-mul_right, le_refl, le_of_eq, le_trans, mul-pos}
use native.Mathlib.Omega.{arith}
use lib.Pow.{pow_pos}
use lib.IntN.{ℤ, pos, ◌+ℤ◌, ◌-ℤ◌, ◌*ℤ◌}
use lib.Signed.{◌≤ℤ◌}
use Rattle.numbers.proofs.Ring.{#, ◌:+◌, ◌:-◌, ◌:*◌, ring}
use Rattle.numbers.proofs.Order.{nat, less, ◌⊕◌, ◌⊗◌, gap, certified}
use Rattle.numbers.proofs.Size.{Size, size_of, size_by, size_sum, size_product, size_between, size_factor}
use Rattle.coordinate.specs.declared.Registers.{Registers}
use Rattle.coordinate.specs.Curve.{Curve, exact}
use Rattle.coordinate.proofs.Exact.{lag_of}
use Rattle.coordinate.proofs.Refined.{bracket, refined}
use Rattle.coordinate.proofs.Turns.{On}
use Rattle.coordinate.specs.Course.{Course}
use Rattle.coordinate.proofs.Near.{At, alpha_at, beta_at, chord_at, scale, near}

-- What demand 3 and touching ask of one coordinate at finest level F: where its curve starts and ends, how far it is from 0, and how large
-- a, b and c are on it at any step s and position q: c · 2^(2F) is `chord_at`. 32,767 units fit 32 bits with c's error. `finest` is c at the
-- finest level before the end, at most 2^F − 2 units, so that the increment c >> F is at most one.
pub record Tame (F : ℕ) (p : Course) : Type 0 where
  pub starts : p.curve.D ≡ p.first
  pub ends : exact F p.curve (2 ^ F) ≡ p.last *ℤ pos (2 ^ (3 * F))
  pub extent : (q : ℕ) → q ≤ 2 ^ F → Size (exact F p.curve q) (16384 * 2 ^ (3 * F))
  pub alpha : (s : ℕ) → s ≤ 2 ^ F → Size (alpha_at F p.curve s) (65536 * 32767)
  pub beta : (s q : ℕ) → s ≤ 2 ^ F → q ≤ 2 ^ F → Size (beta_at F p.curve s q) (65536 * 32767)
  pub chord : (s q : ℕ) → s ≤ 2 ^ F → q ≤ 2 ^ F → Size (chord_at F p.curve s q) (65536 * 32767 * (2 ^ F * 2 ^ F))
  pub finest : (q : ℕ) → q < 2 ^ F → Size (chord_at F p.curve 1 q) (65536 * (2 ^ F - 2) * (2 ^ F * 2 ^ F))

-- 65,536 as κ·G, and a larger bound
pub in_units : {z : ℤ} {m k : ℕ} (F : ℕ) → F ≤ 16 → m ≤ k → Size z (2 ^ (16 - F) * 2 ^ F * m) → Size z (65536 * k)
in_units {k = k} F h l s = size_by refl (le_trans (mul-le-mul_left _ l) (le_of_eq (ap (λ (u : ℕ). u * k) (sym (scale F h))))) s

pub in_chords : {z : ℤ} {m k : ℕ} (F S : ℕ) → F ≤ 16 → m ≤ k → Size z (2 ^ (16 - F) * 2 ^ F * m * S) → Size z (65536 * k * S)
in_chords {k = k} F S h l s =
    size_by refl (mul-le-mul_right S (le_trans (mul-le-mul_left _ l) (le_of_eq (ap (λ (u : ℕ). u * k) (sym (scale F h)))))) s

-- ---- of c as it stands, by its distance from the chord

lag_high : (q G E e : ℤ) → pos 0 ≤ℤ G → pos 0 ≤ℤ (G -ℤ q) → E ≤ℤ ((q +ℤ G -ℤ pos 1) *ℤ G *ℤ G) → e ≤ℤ E → e ≤ℤ (pos 2 *ℤ G *ℤ (G *ℤ G))
lag_high q G E e hG hq h k =
    certified (ring 4 (λ q G E e. (# 2 :* G :* (G :* G) :- e, ((q :+ G :- # 1) :* G :* G :- E) :+ (E :- e) :+ (G :- q) :* G :* G :+ G :* G)) tt q G E e)
    (gap h ⊕ gap k ⊕ hq ⊗ hG ⊗ hG ⊕ hG ⊗ hG)

lag_low : (q s G E e : ℤ) → pos 0 ≤ℤ G → pos 0 ≤ℤ (G -ℤ q) → pos 0 ≤ℤ (G -ℤ s) → (pos 0 -ℤ (q +ℤ pos 1) *ℤ G *ℤ G) ≤ℤ E → E ≤ℤ (e +ℤ (s -ℤ pos 1) *ℤ G *ℤ G) → (pos 0 -ℤ e) ≤ℤ (pos 2 *ℤ G *ℤ (G *ℤ G))
lag_low q s G E e hG hq hs h k =
    certified (ring 5 (λ q s G E e. (# 2 :* G :* (G :* G) :- (# 0 :- e), (E :- (# 0 :- (q :+ # 1) :* G :* G)) :+ (e :+ (s :- # 1) :* G :* G :- E) :+ (G :- q) :* G :* G :+ (G :- s) :* G :* G)) tt q s G E e)
    (gap h ⊕ gap k ⊕ hq ⊗ hG ⊗ hG ⊕ hs ⊗ hG ⊗ hG)

step_most : (n j G : ℕ) → G ≡ 2 ^ n * 2 ^ j → 2 ^ j ≤ G
step_most n j G e = subst (λ (t : ℕ). 2 ^ j ≤ t) (sym e) (go (2 ^ n) (2 ^ j) (pow_pos n))
  where
    go : (x y : ℕ) → 0 < x → y ≤ x * y
    go x y h = omega (arith, mul-le-mul h (le_refl y))

lag_size : (κ G : ℕ) (f : Curve) (n j q : ℕ) (r : Registers) → On κ G f n j q r
    → Size (lag_of κ G f (2 ^ j) q r.c) (2 * G * (G * G))
lag_size κ G f n j q r o =
    let b = bracket κ G f q n j r o.levels o.exact in
    let e : ℤ = lag_of κ G f (2 ^ j) q r.c in
    let E : ℤ = lag_of κ G f 1 q (refined j n r).c in
    let left = less o.within in
    size_between (lag_high (pos q) (pos G) E e (nat G) left o.c_high b.low) (lag_low (pos q) (pos (2 ^ j)) (pos G) E e (nat G) left (less (step_most n j G o.levels)) o.c_low b.high)

pub c_by_chord : (F : ℕ) (f : Curve) → (n j q m : ℕ) (r : Registers) → At F f n j q r
    → Size (chord_at F f (2 ^ j) q) (65536 * m * (2 ^ F * 2 ^ F)) → Size r.c (65536 * m + 2 * 2 ^ F)
c_by_chord F f n j q m r o s =
    let x : ℤ = chord_at F f (2 ^ j) q in
    size_factor (2 ^ F * 2 ^ F) (mul-pos (pow_pos F) (pow_pos F))
    (size_by (ring 3 (λ c G x. (c :* (G :* G), (c :* G :* G :- x) :+ x)) tt r.c (pos (2 ^ F)) x) (total (2 ^ F * 2 ^ F) (2 * 2 ^ F))
    (size_sum (lag_size (2 ^ (16 - F)) (2 ^ F) f n j q r o) s))
  where
    total : (S L : ℕ) → L * S + 65536 * m * S ≤ (65536 * m + L) * S
    total S L = omega arith

-- ---- every register

pub record Sizes (G : ℕ) (r : Registers) : Type 0 where
  pub a : Size r.a (65536 * 32767)
  pub b : Size r.b (65536 * 32767)
  pub c : Size r.c (65536 * 32767 + 2 * G)
  pub d : Size r.d (65536 * 16384 + 2 * G)

module _ (F : ℕ) (p : Course) (h : F ≤ 16) (t : Tame F p) (n j q : ℕ) (r : Registers) (o : At F p.curve n j q r) where
  d_size : Size r.d (65536 * 16384 + 2 * 2 ^ F)
  d_size =
      let y : ℤ = pos 65536 *ℤ exact F p.curve q in
      size_factor (2 ^ (3 * F)) (pow_pos (3 * F))
      (size_by (ring 3 (λ d G x. (d :* G, (d :* G :- x) :+ x)) tt r.d (pos (2 ^ (3 * F))) y) (total (2 * 2 ^ F) (2 ^ (3 * F)))
      (size_sum (near F p.curve n j q r h o) (size_product (size_of 65536) (t.extent q o.within))))
    where
      total : (L S : ℕ) → L * S + 65536 * (16384 * S) ≤ (65536 * 16384 + L) * S
      total L S = omega arith

  pub sizes : Sizes (2 ^ F) r
  sizes =
      let s = step_most n j (2 ^ F) o.levels in
      record {
        a = size_by o.exact.a (le_refl _) (t.alpha (2 ^ j) s);
        b = size_by o.exact.b (le_refl _) (t.beta (2 ^ j) q s o.within);
        c = c_by_chord F p.curve n j q 32767 r o (t.chord (2 ^ j) q s o.within);
        d = d_size;
      }
