-- Every sum and product is below 2^31 since the coefficients are small; what comes out is the start by `reckoned_start`.
use mathlib.Core.Path.{◌∙◌}
use Prim.Native.Nat.{ℕ, ◌≤◌}
use lib.IntN.{ℤ, pos, nat_abs, ◌+ℤ◌, ◌*ℤ◌}
use mir.Syntax.{w32, w64}
use Rattle.numbers.proofs.Machine.{Num, known, literal, local, shift, plus, times, fits}
use Rattle.numbers.proofs.Size.{Size}
use Rattle.coordinate.specs.Curve.{Curve}
use Rattle.coordinate.specs.Registers.{◌>>◌, unit}
use Rattle.coordinate.proofs.Start.{reckoned_start}
use Rattle.engine.specs.Coefficients.{curve_of}
use Rattle.engine.proofs.starting.start_one.Goals as goal
use Rattle.engine.proofs.starting.start_one.Goals.{Start}

abbrev f : Start → Curve
f c = curve_of c.args.f

abbrev n : Start → ℕ
n c = c.args.at.level

small : (z : ℤ) {m : ℕ} → nat_abs z ≤ m → Size z m
small z h = record { le = h }

-- ---- the numbers of the code

abbrev cubic : (c : Start) → Num 178782208 (unit *ℤ (f c).A)
cubic c = times (literal 65536) (local w32 tt (known w64 tt (small (f c).A c.requires.A)))

abbrev square : (c : Start) → Num 268173312 (unit *ℤ (f c).B)
square c = times (literal 65536) (local w32 tt (known w64 tt (small (f c).B c.requires.B)))

abbrev linear : (c : Start) → Num 134086656 (unit *ℤ (f c).C)
linear c = times (literal 65536) (local w32 tt (known w64 tt (small (f c).C c.requires.C)))

abbrev six_cubic : (c : Start) → Num 1072693248 (pos 6 *ℤ (unit *ℤ (f c).A))
six_cubic c = times (literal 6) (local w32 tt (cubic c))

abbrev a : (c : Start) → Num 1072693248 ((pos 6 *ℤ (unit *ℤ (f c).A)) >> n c)
a c = local w32 tt (shift (n c) (local w32 tt (six_cubic c)))

abbrev twice_square : (c : Start) → Num 536346624 (pos 2 *ℤ (unit *ℤ (f c).B))
twice_square c = times (literal 2) (local w32 tt (square c))

abbrev b : (c : Start) → Num 1609039872 (((pos 6 *ℤ (unit *ℤ (f c).A)) >> n c) +ℤ pos 2 *ℤ (unit *ℤ (f c).B))
b c = plus (a c) (local w32 tt (twice_square c))

abbrev inner : (c : Start) → Num 446955520 (unit *ℤ (f c).B +ℤ ((unit *ℤ (f c).A) >> n c))
inner c = plus (local w32 tt (square c)) (local w32 tt (shift (n c) (local w32 tt (cubic c))))

abbrev outer : (c : Start) → Num 581042176 (unit *ℤ (f c).C +ℤ ((unit *ℤ (f c).B +ℤ ((unit *ℤ (f c).A) >> n c)) >> n c))
outer c = plus (local w32 tt (linear c)) (local w32 tt (shift (n c) (local w32 tt (inner c))))

abbrev d : (c : Start) → Num 1073741824 (unit *ℤ (f c).D)
d c = times (literal 65536) (local w32 tt (known w64 tt (small (f c).D c.requires.D)))

-- ---- what the code asks

pub overflow_add-b : goal.overflow_add-b
overflow_add-b c = fits tt (b (goal.at.overflow_add-b c).Start)

pub overflow_add-c : goal.overflow_add-c
overflow_add-c c = fits tt (inner (goal.at.overflow_add-c c).Start)

pub overflow_add-c-2 : goal.overflow_add-c-2
overflow_add-c-2 c = fits tt (outer (goal.at.overflow_add-c-2 c).Start)

pub returns : goal.returns
returns c =
    let s = (goal.at.returns c).Start in
    (λ i. record { a = (a s).is i; b = (local w32 tt (b s)).is i; c = (local w32 tt (outer s)).is i; d = (local w32 tt (d s)).is i })
    ∙ reckoned_start (n s) (f s)
