-- The position is below 2^31, and the point is the one shown.
use mathlib.Core.Path.{◌≡◌, ap, ◌∙◌}
use Prim.Native.Nat.{ℕ, ◌+◌, ◌*◌, ◌%◌, ◌^◌, ◌≤◌, ◌<◌, zero-le}
use native.Mathlib.Nat.{mod-eq_of_lt, mul_comm}
use native.Mathlib.Omega.{arith}
use mir.Syntax.{w32}
use mir.Val.{to_z}
use mir.Facts.{to_z_pos, to_z-of_z}
use Rattle.engine.specs.declared.Shown.{Shown}
use Rattle.engine.specs.Shown.{point}
use Rattle.path.specs.Entries.{entry}
use Rattle.path.proofs.Points.{position_most}
use Rattle.drawer.proofs.segments.entry_of.Goals as goal

-- segment k starts at k shifted by the finest level
start : (F k : ℕ) → F ≤ 12 → k < 64 → k * 2 ^ F % 4294967296 ≡ 2 ^ F * k
start F k f h = mod-eq_of_lt (omega (arith, position_most F k 0 f h zero-le, mul_comm k (2 ^ F))) ∙ mul_comm k (2 ^ F)

pub returns : goal.returns
unfolding entry point
returns c =
    let q = c.args.d.q in
    let F = c.args.d.finest in
    let k = c.args.k in
    let h = c.requires in
    let most = position_most F k q h.finest h.few h.within in
    let position = to_z-of_z {w = w32} {z = c.cast_signed.result} (record { sfits = omega arith })
    ∙ c.cast_signed.ensures
    ∙ ap (λ (n : ℕ). to_z w32 (n + q)) (start F k h.finest h.few)
    ∙ to_z_pos w32 {n = 2 ^ F * k + q} (omega arith) in
    let at = c.shown-shown.result in
    let shown = c.shown-shown.ensures in
    let x = to_z-of_z {w = w32} {z = at.x} (record { sfits = omega arith }) ∙ ap (λ (p : Shown). p.x) shown in
    let y = to_z-of_z {w = w32} {z = at.y} (record { sfits = omega arith }) ∙ ap (λ (p : Shown). p.y) shown in
    let width = to_z-of_z {w = w32} {z = at.width} (record { sfits = omega arith }) ∙ ap (λ (p : Shown). p.width) shown in
    λ i. record { position = position i; x = x i; y = y i; width = width i }
