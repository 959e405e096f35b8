-- Demand 3 for one coordinate: wherever the invariant holds of a tame course, its registers fit 32 bits and it stands where the course stands.
use mathlib.Core.Path.{◌≡◌, refl, ap, ◌∙◌, subst}
use mathlib.Core.Bool.{true, ◌&&◌}
use Prim.Native.Nat.{ℕ, ◌+◌, ◌*◌, ◌^◌, ◌≤◌, ◌<◌}
use native.Mathlib.Nat.{le_trans}
use native.Mathlib.Omega.{arith}
use lib.Dec.{lit≤}
use lib.Pow.{pow_mono}
use lib.IntN.{ℤ, pos, negsuc, ◌*ℤ◌}
use borrow.Author.Tests.{le-leb}
use Rattle.numbers.proofs.Size.{Size, size_of, size_by, size_sum, size_floor}
use Rattle.rules.specs.declared.Degree.{Degree}
use Rattle.coordinate.specs.declared.Registers.{Registers}
use Rattle.coordinate.specs.Control.{Control}
use Rattle.coordinate.specs.Curve.{Curve, exact, off}
use Rattle.coordinate.specs.Course.{Course, course}
use Rattle.coordinate.specs.Registers.{is_register, are_registers}
use Rattle.coordinate.specs.Shown.{pixel}
use Rattle.coordinate.specs.Stands.{Stands, InNumbers}
use Rattle.coordinate.proofs.Near.{At, close, below}
use Rattle.coordinate.proofs.Sizes.{Tame, sizes}
use Rattle.coordinate.proofs.Ends.{first_exact, first_shown, last_shown}

-- ---- 32 bits

-- a curve whose registers fit wherever the invariant holds
unfoldable pub Bounded : ℕ → Curve → Type 0
Bounded F f = (n j q : ℕ) (r : Registers) → At F f n j q r → are_registers r ≡ true

size_register : (z : ℤ) (m : ℕ) → m ≤ 2147483647 → Size z m → is_register z ≡ true
size_register (pos n) m h s = le-leb n 2147483647 (le_trans s.le h)
size_register (negsuc n) m h s = rw (le-leb n 2147483647 (omega (arith, s.le))) refl

pub bounded : (F : ℕ) (p : Course) → F ≤ 12 → Tame F p → Bounded F p.curve
unfolding Bounded are_registers
bounded F p h t n j q r o =
    let most : 2 ^ F ≤ 4096 = pow_mono {j = 12} h in
    let s = sizes F p (omega arith) t n j q r o in
    let a = size_register r.a (65536 * 32767) (lit≤ tt) s.a in
    let b = size_register r.b (65536 * 32767) (lit≤ tt) s.b in
    let c = size_register r.c (65536 * 32767 + 2 * 2 ^ F) (omega arith) s.c in
    let d = size_register r.d (65536 * 16384 + 2 * 2 ^ F) (omega arith) s.d in
    λ i. a i && b i && c i && d i

-- ---- where it stands

shown_size : (F : ℕ) (p : Course) (n j q : ℕ) (r : Registers) → F ≤ 12 → Tame F p → At F p.curve n j q r → Size (pixel r) 16385
unfolding pixel
shown_size F p n j q r h t o =
    let most : 2 ^ F ≤ 4096 = pow_mono {j = 12} h in
    let d = (sizes F p (omega arith) t n j q r o).d in
    size_floor 65536 (lit≤ tt) (size_by refl (omega arith) (size_sum d (size_of 32768)))

pub stands : (F : ℕ) (p : Course) (n j q : ℕ) (r : Registers) → F ≤ 12 → Tame F p → At F p.curve n j q r → Stands F p q r
unfolding Bounded
stands F p n j q r h t o =
    let by = close F p.curve n j q r (omega arith) o in
    let at_first : q ≡ 0 → r.d ≡ pos 65536 *ℤ p.first =
    λ e. first_exact F p.curve n j r (omega arith) (subst (λ (t : ℕ). At F p.curve n j t r) e o) ∙ ap (λ z. pos 65536 *ℤ z) t.starts in
    record {
      fits = bounded F p h t n j q r o;
      near = below F (3 * 2 ^ F) (omega arith) by;
      close = by;
      first = at_first;
      first_shown = λ e. first_shown r p.first (at_first e);
      last_shown = λ e. last_shown F p n j r h t (subst (λ (t : ℕ). At F p.curve n j t r) e o);
      shown = (shown_size F p n j q r h t o).le;
    }

pub in_numbers : (D : Degree) (p : Control D) (q : ℕ) (r : Registers) → Stands 11 (course D p) q r → InNumbers D p q r
unfolding exact
in_numbers D p q r s =
    record { fits = s.fits; near = s.near; close = s.close; start = s.first; first_shown = s.first_shown; last_shown = s.last_shown; shown = s.shown }

-- order 13: at F = 11 less than one sixteenth of a unit, 4,096
pub sixteenth : (p : Course) (q : ℕ) (r : Registers) → Stands 11 p q r → off 11 p.curve q r.d < 4096 * 2 ^ 33
sixteenth p q r s = below 11 4096 (lit≤ tt) s.close
