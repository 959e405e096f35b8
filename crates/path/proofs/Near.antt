-- Every entry of an accepted path is near the exact curve at its position: at most half a unit farther than the registers are.
use mathlib.Core.Path.{◌≡◌, sym, ap, ap₂, ◌∙◌, subst}
use mathlib.Core.List.{List}
use Prim.Native.Nat.{ℕ, zero, suc, ◌+◌, ◌*◌, ◌-◌, ◌^◌, ◌≤◌, ◌<◌}
use native.Mathlib.Nat.{mul-le-mul_left}
use native.Mathlib.Omega.{arith}
use lib.Dec.{leb}
use lib.IntN.{ℤ, pos, nat_abs, ◌-ℤ◌, ◌*ℤ◌}
use lib.Pow.{pow_pos}
use borrow.Author.Tests.{leb-true, leb-false}
use Rattle.rules.specs.declared.Degree.{Degree}
use Rattle.rules.specs.declared.Degree.TheVariants.{Cubic}
use Rattle.coordinate.specs.Control.{Control}
use Rattle.coordinate.specs.Curve.{curve, exact, off}
use Rattle.coordinate.specs.Shown.{pixel}
use Rattle.coordinate.proofs.Bernstein.{starts, ends}
use Rattle.coordinate.proofs.Half.{shown_near}
use Rattle.operations.specs.Coordinates.{Coordinate, in_x, in_y, in_width, pick}
use Rattle.operations.proofs.Gates.{inside}
use Rattle.engine.specs.Drawing.{of}
use Rattle.distance.specs.Calls.{after, travelled}
use Rattle.distance.proofs.Sixteenth.{sixteen_times}
use Rattle.entries.specs.declared.Entry.{Entry}
use Rattle.path.specs.Path.{Path, place, controls, courses}
use Rattle.path.specs.Entries.{entry}
use Rattle.path.specs.Listed.{begins, Placed, Near, NearInNumbers}
use Rattle.path.proofs.Points.{segment_uses, first_point, last_point}
use Rattle.path.proofs.Turns.{by_test}

-- ---- the exact curve at a position

module _ (D : Degree) (F : ℕ) (points : List ℤ) (c : Coordinate) where
  abbrev exact_at : ℕ → ℕ → ℤ
  exact_at k q = exact F (courses D points k c).curve q

  -- a segment ends where the next one starts
  exact_joined : (k : ℕ) → exact_at k (2 ^ F) ≡ exact_at (k + 1) 0
  exact_joined k =
      ends D F (controls D points k c)
      ∙ ap (λ (z : ℤ). z *ℤ pos (2 ^ (3 * F))) (last_point D points (place c) k ∙ sym (first_point D points (place c) (k + 1)))
      ∙ sym (starts D F (controls D points (k + 1) c))

  -- a position on segment k, and on segment k + j
  exact_further : (j k q q' : ℕ) → q ≤ 2 ^ F → q' ≤ 2 ^ F → 2 ^ F * k + q ≡ 2 ^ F * (k + j) + q' → exact_at k q ≡ exact_at (k + j) q'
  exact_further zero k q q' h h' e =
      let same : q ≡ q' = omega arith in
      let here : k ≡ k + 0 = omega arith in
      ap₂ exact_at here same
  exact_further (suc zero) k q q' h h' e =
      let last : q ≡ 2 ^ F = omega arith in
      let first : 0 ≡ q' = omega arith in
      ap (exact_at k) last ∙ exact_joined k ∙ ap (exact_at (k + 1)) first
  exact_further (suc (suc j)) k q q' h h' e = let no : ⊥ = omega (arith, pow_pos F) in absurd no

  exact_same : (k q k' q' : ℕ) → q ≤ 2 ^ F → q' ≤ 2 ^ F → 2 ^ F * k + q ≡ 2 ^ F * k' + q' → exact_at k q ≡ exact_at k' q'
  exact_same k q k' q' h h' e =
      by_test (leb k k')
      (λ t.
      let l = leb-true k k' t in
      let there : k + (k' - k) ≡ k' = omega arith in
      exact_further (k' - k) k q q' h h' (rw there e) ∙ ap (λ (i : ℕ). exact_at i q') there)
      (λ t.
      let l = leb-false k k' t in
      let there : k' + (k - k') ≡ k = omega arith in
      ap (λ (i : ℕ). exact_at i q) (sym there) ∙ sym (exact_further (k - k') k' q' q h' h (rw there (sym e))))

-- ---- an entry

further : (G k q S : ℕ) → q ≤ G → k < S → G * k + q ≤ G * S
further G k q S h l = omega (arith, mul-le-mul_left G l)

pub placed_near : (p : Path) (e : Entry) → Placed p e → Near p e
unfolding entry
placed_near p e l =
    let F = p.finest in
    let d = after l.calls (begins p l.k) in
    let within = (inside F d.level d.q l.demand.inside).position in
    record {
      at = 2 ^ F * l.k + d.q;
      position = ap (λ (f : Entry). f.position) l.shown;
      inside = further (2 ^ F) l.k d.q p.segments within l.segment;
      near = λ k q _ h same c.
          subst (λ (y : ℤ). 2 * nat_abs (pos 65536 *ℤ pick e.x e.y e.width c *ℤ pos (2 ^ (3 * F)) -ℤ pos 65536 *ℤ y) < (65536 + 3 * 2 ^ F) * 2 ^ (3 * F))
          (exact_same p.degree F p.points c l.k d.q k q within h same)
          (rw (number c) (shown_near F (courses p.degree p.points l.k c) d.q (of c d) (l.demand.stands c)));
    }
  where
    number : (c : Coordinate) → pick e.x e.y e.width c ≡ pixel (of c (after l.calls (begins p l.k)))
    number in_x = ap (λ (f : Entry). f.x) l.shown
    number in_y = ap (λ (f : Entry). f.y) l.shown
    number in_width = ap (λ (f : Entry). f.width) l.shown

pub near_in_numbers : (p : Path) (e : Entry) → p.finest ≡ 11 → Near p e → NearInNumbers p e
near_in_numbers p e f n =
    record {
      at = n.at;
      position = n.position;
      inside = subst (λ (F : ℕ). n.at ≤ 2 ^ F * p.segments) f n.inside;
      near = λ k q s h l c.
          subst (λ (g : Control p.degree). off 11 (curve p.degree g) q (pos 65536 *ℤ pick e.x e.y e.width c) < 35840 * 2 ^ 33) (segment_uses p.degree p.points k c)
          (halved
          (subst
          (λ (F : ℕ). q ≤ 2 ^ F → n.at ≡ 2 ^ F * k + q
          → 2 * off F (courses p.degree p.points k c).curve q (pos 65536 *ℤ pick e.x e.y e.width c) < (65536 + 3 * 2 ^ F) * 2 ^ (3 * F))
          f (λ h l. n.near k q s h l c) h l));
    }
  where
    halved : {m : ℕ} → 2 * m < 71680 * 2 ^ 33 → m < 35840 * 2 ^ 33
    halved h = omega arith

-- order 13 of every entry of a cubic path at F = 11: sixteen times the distance of its drawing is less than a unit, in each coordinate
pub placed_sixteenth : (p : Path) (e : Entry) (l : Placed p e) → p.finest ≡ 11 → p.degree ≡ Cubic → (c : Coordinate)
    → let d = begins p l.k in 16 * off 11 (courses p.degree p.points l.k c).curve (travelled l.calls d) (of c (after l.calls d)).d < 65536 * 2 ^ 33
placed_sixteenth p e l f cubic c = sixteen_times (λ c. (courses p.degree p.points l.k c).curve) _ _ (l.sixteenth f cubic) c
