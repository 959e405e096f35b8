-- What demand 3 says of one coordinate at position q, at any finest level F: its registers fit 32 bits, d is near the exact curve, the start is
-- exactly the first point, and the last point is what is shown at the end.
use Rattle.std.specs.Prelude.{◌≡◌, true, ℕ, ◌*◌, ◌-◌, ◌^◌, ◌≤◌, ◌<◌, ℤ, pos, nat_abs, ◌+ℤ◌, ◌-ℤ◌, ◌*ℤ◌}
use Rattle.coordinate.specs.declared.Registers.{Registers}
use Rattle.rules.specs.declared.Degree.{Degree}
use Rattle.coordinate.specs.Control.{Control}
use Rattle.coordinate.specs.Curve.{curve, off}
use Rattle.coordinate.specs.Course.{Course, first, last}
use Rattle.coordinate.specs.Registers.{are_registers}
use Rattle.coordinate.specs.Shown.{pixel}

pub record Stands (F : ℕ) (p : Course) (q : ℕ) (r : Registers) : Type 0 where
  pub fits : are_registers r ≡ true
  -- less than 3·2^F of 65,536ths away, as order 9 has it
  pub near : off F p.curve q r.d < 3 * 2 ^ F * 2 ^ (3 * F)
  -- and at most (3·2^F − 1)/2, which is less than half of that
  pub close : 2 * off F p.curve q r.d ≤ (3 * 2 ^ F - 1) * 2 ^ (3 * F)
  pub first : q ≡ 0 → r.d ≡ pos 65536 *ℤ p.first
  pub first_shown : q ≡ 0 → pixel r ≡ p.first
  pub last_shown : q ≡ 2 ^ F → pixel r ≡ p.last
  -- the point shown is at most 1 outside the range of coordinates
  pub shown : nat_abs (pixel r) ≤ 16385

-- ---- at F = 11, in the demand's own numbers

-- f(q / 2,048), times 2^33
abbrev pub exactly : (D : Degree) → Control D → ℕ → ℤ
exactly D p q =
    let f = curve D p in
    f.A *ℤ pos (q * q * q) +ℤ f.B *ℤ pos (q * q * 2 ^ 11) +ℤ f.C *ℤ pos (q * 2 ^ 22) +ℤ f.D *ℤ pos (2 ^ 33)

pub record InNumbers (D : Degree) (p : Control D) (q : ℕ) (r : Registers) : Type 0 where
  pub fits : are_registers r ≡ true
  pub near : nat_abs (r.d *ℤ pos (2 ^ 33) -ℤ pos 65536 *ℤ exactly D p q) < 6144 * 2 ^ 33
  pub close : 2 * nat_abs (r.d *ℤ pos (2 ^ 33) -ℤ pos 65536 *ℤ exactly D p q) ≤ 6143 * 2 ^ 33
  pub start : q ≡ 0 → r.d ≡ pos 65536 *ℤ first D p
  pub first_shown : q ≡ 0 → pixel r ≡ first D p
  pub last_shown : q ≡ 2048 → pixel r ≡ last D p
  pub shown : nat_abs (pixel r) ≤ 16385
