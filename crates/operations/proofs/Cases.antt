-- Registers, finest levels, levels and positions that a caller may make up, at the values where the rules draw their limits: what is chosen, and what is refused.
-- Two tables, a statement over each.
use mathlib.Core.Path.{◌≡◌}
use mathlib.Core.Bool.{Bool}
use mathlib.Core.List.{List, [], ◌∷◌}
use Prim.Native.Nat.{ℕ}
use lib.Dec.{eqb, eqb→eq}
use lib.IntN.{ℤ, pos, negsuc}
use Rattle.numbers.specs.Tables.{All}
use Rattle.numbers.proofs.Tables.{tested}
use Rattle.rules.specs.declared.Degree.TheVariants.{Quadratic, Cubic}
use Rattle.rules.specs.Refusals.{first_of}
use Rattle.rules.specs.Rules.{is_finest, reach, is_coordinate, are_neighbours, is_level, are_limits}
use Rattle.coordinate.specs.declared.Registers.{Registers}
use Rattle.coordinate.specs.Control.{Control}
use Rattle.coordinate.specs.Points.{are_coordinates, are_near}
use Rattle.coordinate.specs.Registers.{Operation, halve, double, step, turn, are_registers}
use Rattle.coordinate.specs.Increment.{increment, doubled_increment}
use Rattle.operations.specs.Coordinates.{pick, every}
use Rattle.operations.specs.Position.{is_drawing, is_aligned, new_level, new_position}
use Rattle.operations.specs.Refusals.{begin_refusal, start_refusal, gate, call_refusal, registers_refusal, choice_refusal}
use Rattle.operations.specs.Choice.{wants_halve, wants_double, choose}

abbrev registers : ℤ → ℤ → ℤ → ℤ → Registers
registers a b c d = record { a = a; b = b; c = c; d = d }

abbrev zeros : Registers
zeros = registers (pos 0) (pos 0) (pos 0) (pos 0)

-- ---- choosing

abbrev code : Operation → ℕ
code halve = 0
code double = 1
code step = 2

-- x has b and c, y has c, the width has b and c; the other registers are 0
pub record Choosing : Type 0 where
  pub finest : ℕ
  pub upper : ℕ
  pub lower : ℕ
  pub level : ℕ
  pub q : ℕ
  pub b : ℤ
  pub c : ℤ
  pub c_of_y : ℤ
  pub b_of_width : ℤ
  pub c_of_width : ℤ
  pub operation : Operation

abbrev row : ℕ → ℤ → ℤ → ℕ → ℕ → ℕ → ℕ → ℤ → ℤ → ℤ → Operation → Choosing
row F v w upper lower n q b c y op =
    record { finest = F; upper = upper; lower = lower; level = n; q = q; b = b; c = c; c_of_y = y; b_of_width = v; c_of_width = w; operation = op }

-- at F = 11
abbrev beside : ℤ → ℤ → ℕ → ℕ → ℕ → ℕ → ℤ → ℤ → ℤ → Operation → Choosing
beside = row 11

-- beside a width at rest
abbrev choosing : ℕ → ℕ → ℕ → ℕ → ℤ → ℤ → ℤ → Operation → Choosing
choosing = beside (pos 0) (pos 0)

-- at F, x alone moving, under 65,536 and 32,768
abbrev choosing_at : ℕ → ℕ → ℕ → ℤ → Operation → Choosing
choosing_at F n q c op = row F (pos 0) (pos 0) 65536 32768 n q (pos 0) c (pos 0) op

abbrev answered : Choosing → Operation
answered w =
    choose w.finest w.upper w.lower w.level w.q
    (pick
    (registers (pos 0) w.b w.c (pos 0))
    (registers (pos 0) (pos 0) w.c_of_y (pos 0))
    (registers (pos 0) w.b_of_width w.c_of_width (pos 0)))

unfoldable pub choices : List Choosing
choices =
    -- 1: larger than upper in x or in y, floor first and then magnitude; not where it is equal, and not at level 11
    choosing 65536 32768 1 0 (pos 0) (pos 131073) (pos 0) step
    ∷ choosing 65536 32768 1 0 (pos 0) (pos 131074) (pos 0) halve
    ∷ choosing 65536 32768 1 0 (pos 0) (negsuc 131071) (pos 0) step
    ∷ choosing 65536 32768 1 0 (pos 0) (negsuc 131072) (pos 0) halve
    ∷ choosing 65536 32768 1 0 (pos 0) (pos 0) (pos 131074) halve
    ∷ choosing 65536 32768 10 0 (pos 0) (pos 67109888) (pos 0) halve
    ∷ choosing 65536 32768 11 0 (pos 0) (pos 134219776) (pos 0) step
    -- 2: both smaller than lower; not where one is equal, and never under lower = 0
    ∷ choosing 65536 32768 1 0 (pos 0) (pos 65535) (pos 65535) double
    ∷ choosing 65536 32768 1 0 (pos 0) (pos 65536) (pos 0) step
    ∷ choosing 65536 32768 1 0 (pos 0) (pos 0) (pos 65536) step
    ∷ choosing 65536 0 1 0 (pos 0) (pos 0) (pos 0) step
    ∷ choosing 1 1 1 0 (pos 0) (pos 0) (pos 0) double
    -- level above 0
    ∷ choosing 65536 32768 0 0 (pos 0) (pos 0) (pos 0) step
    -- q a multiple of 2s
    ∷ choosing 65536 32768 2 1024 (pos 0) (pos 0) (pos 0) double
    ∷ choosing 65536 32768 2 512 (pos 0) (pos 0) (pos 0) step
    -- the doubled increment equal to upper, larger, and by its floors
    ∷ choosing 65536 32768 1 0 (pos 4) (pos 65535) (pos 0) double
    ∷ choosing 65536 32768 1 0 (pos 8) (pos 65535) (pos 0) step
    ∷ choosing 65536 65536 1 0 (negsuc 0) (pos 65537) (pos 0) double
    ∷ choosing 32768 32768 1 0 (pos 0) (pos 0) (pos 32768) double
    ∷ choosing 32768 32768 1 0 (pos 0) (pos 0) (pos 32769) step
    -- the width takes no part: it may be larger than upper, not smaller than lower, or larger than upper after doubling
    ∷ beside (pos 0) (pos 134219776) 65536 32768 1 0 (pos 0) (pos 65536) (pos 0) step
    ∷ beside (pos 0) (negsuc 134219775) 65536 32768 1 0 (pos 0) (pos 65536) (pos 0) step
    ∷ beside (pos 0) (pos 134219776) 65536 32768 1 0 (pos 0) (pos 131074) (pos 0) halve
    ∷ beside (pos 0) (pos 134219776) 65536 32768 1 0 (pos 0) (pos 0) (pos 0) double
    ∷ beside (pos 0) (pos 65536) 65536 32768 1 0 (pos 0) (pos 0) (pos 0) double
    ∷ beside (pos 2147483647) (pos 0) 65536 32768 1 0 (pos 0) (pos 0) (pos 0) double
    -- at F = 6 and F = 12: halve below F alone, and q a multiple of 2s by F
    ∷ choosing_at 6 5 0 (pos 8388608) halve
    ∷ choosing_at 6 6 0 (pos 8388608) step
    ∷ choosing_at 12 11 0 (pos 268435456) halve
    ∷ choosing_at 12 12 0 (pos 1073741824) step
    ∷ choosing_at 6 2 32 (pos 0) double
    ∷ choosing_at 6 2 16 (pos 0) step
    ∷ choosing_at 12 2 2048 (pos 0) double
    ∷ choosing_at 12 2 1024 (pos 0) step
    ∷ []

abbrev pub Chooses : Choosing → Type 0
Chooses w = code (answered w) ≡ code w.operation

abbrev chosen_so : Choosing → Bool
chosen_so w = eqb (code (answered w)) (code w.operation)

pub chosen_as_listed : All Chooses choices
unfolding choices choose wants_halve wants_double increment doubled_increment is_aligned turn
chosen_as_listed = tested Chooses chosen_so (λ w t. eqb→eq (code (answered w)) (code w.operation) t) choices tt

-- ---- levels, positions and refusals

-- the number answered, and the one that the document gives
pub record Answer : Type 0 where
  pub answered : ℕ
  pub number : ℕ

abbrev answer : ℕ → ℕ → Answer
answer answered number = record { answered = answered; number = number }

-- an operation at finest level F, level n and position q, on the registers of x, y and the width
abbrev at : ℕ → Operation → ℕ → ℕ → Registers → Registers → Registers → ℕ
at F op n q x y width = first_of (call_refusal F op n q) (registers_refusal (λ c. turn op n (pick x y width c)))

-- at F = 11
abbrev of : Operation → ℕ → ℕ → Registers → Registers → Registers → ℕ
of = at 11

-- all registers 0
abbrev still_at : ℕ → Operation → ℕ → ℕ → ℕ
still_at F op n q = at F op n q zeros zeros zeros

-- a start, its points of y and of the width given
abbrev line : ℤ → ℤ → ℤ → ℤ → Control Cubic
line p q r s = record { p0 = p; p1 = q; p2 = r; p3 = s }

abbrev still : Control Cubic
still = line (pos 0) (pos 0) (pos 0) (pos 0)

abbrev start_at : ℕ → Control Cubic → Control Cubic → ℕ → ℕ
start_at F y width n = start_refusal Cubic F (pick still y width) n

abbrev start : Control Cubic → Control Cubic → ℕ → ℕ
start = start_at 11

-- and of a quadratic
abbrev bend : ℤ → ℤ → ℤ → Control Quadratic
bend p q r = record { p0 = p; p1 = q; p2 = r }

abbrev rest : Control Quadratic
rest = bend (pos 0) (pos 0) (pos 0)

abbrev start_quadratic : ℕ → Control Quadratic → Control Quadratic → ℕ → ℕ
start_quadratic F y width n = start_refusal Quadratic F (pick rest y width) n

abbrev outside : Registers
outside = registers (pos 2147483647) (negsuc 2147483647) (pos 0) (pos 0)

unfoldable pub numbers : List Answer
numbers =
    -- halve leads to level n + 1, double to n − 1, and a step adds 2^(11−n) to q
    answer (new_level halve 5) 6
    ∷ answer (new_level double 5) 4
    ∷ answer (new_level step 5) 5
    ∷ answer (new_position 11 halve 5 64) 64
    ∷ answer (new_position 11 double 5 128) 128
    ∷ answer (new_position 11 step 5 64) 128
    -- 10 by level and q, before 5 and 6
    ∷ answer (of step 12 0 zeros zeros zeros) 10
    ∷ answer (of halve 12 0 zeros zeros zeros) 10
    ∷ answer (of step 12 2048 zeros zeros zeros) 10
    ∷ answer (of step 0 4096 zeros zeros zeros) 10
    ∷ answer (of step 11 2049 zeros zeros zeros) 10
    ∷ answer (of step 0 1 zeros zeros zeros) 10
    -- 5, before 6 and 7
    ∷ answer (of step 0 2048 zeros zeros zeros) 5
    ∷ answer (of halve 11 2048 zeros zeros zeros) 5
    ∷ answer (of double 0 2048 zeros zeros zeros) 5
    ∷ answer (of step 11 2047 zeros zeros zeros) 0
    -- 6, before 10 by registers; 7, 8
    ∷ answer (of halve 11 0 outside zeros zeros) 6
    ∷ answer (of halve 10 0 zeros zeros zeros) 0
    ∷ answer (of double 0 0 zeros zeros zeros) 7
    ∷ answer (of double 1 1024 zeros zeros zeros) 8
    -- 10 by a new register of x, of y or of the width; the least and the largest number of 32 bits fit
    ∷ answer (of halve 0 0 outside zeros zeros) 10
    ∷ answer (of step 0 0 (registers (pos 0) (pos 0) (negsuc 0) (negsuc 2147483646)) zeros zeros) 0
    ∷ answer (of step 0 0 (registers (pos 0) (pos 0) (negsuc 0) (negsuc 2147483647)) zeros zeros) 10
    ∷ answer (of step 0 0 zeros (registers (pos 0) (pos 0) (pos 1) (pos 2147483646)) zeros) 0
    ∷ answer (of step 0 0 zeros (registers (pos 0) (pos 0) (pos 1) (pos 2147483647)) zeros) 10
    ∷ answer (of halve 0 0 zeros zeros outside) 10
    ∷ answer (of halve 11 0 zeros zeros outside) 6
    ∷ answer (of step 0 0 zeros zeros (registers (pos 0) (pos 0) (negsuc 0) (negsuc 2147483646))) 0
    ∷ answer (of step 0 0 zeros zeros (registers (pos 0) (pos 0) (negsuc 0) (negsuc 2147483647))) 10
    ∷ answer (of step 0 0 zeros zeros (registers (pos 0) (pos 0) (pos 1) (pos 2147483646))) 0
    ∷ answer (of step 0 0 zeros zeros (registers (pos 0) (pos 0) (pos 1) (pos 2147483647))) 10
    ∷ answer (of double 1 0 zeros zeros (registers (pos 1073741823) (pos 0) (pos 0) (pos 0))) 0
    ∷ answer (of double 1 0 zeros zeros (registers (pos 1073741824) (pos 0) (pos 0) (pos 0))) 10
    -- a start: 1, then 2, then 3, by y and by the width
    ∷ answer (start (line (pos 16384) (pos 0) (pos 0) (pos 0)) still 12) 1
    ∷ answer (start (line (pos 683) (pos 0) (pos 0) (pos 0)) still 12) 2
    ∷ answer (start (line (pos 682) (pos 0) (pos 0) (pos 0)) still 12) 3
    ∷ answer (start (line (pos 682) (pos 0) (pos 0) (pos 0)) still 11) 0
    ∷ answer (start still (line (pos 16384) (pos 16384) (pos 16384) (pos 16384)) 0) 1
    ∷ answer (start still (line (negsuc 16384) (negsuc 16384) (negsuc 16384) (negsuc 16384)) 0) 1
    ∷ answer (start (line (pos 683) (pos 0) (pos 0) (pos 0)) (line (pos 0) (pos 0) (pos 0) (pos 16384)) 12) 1
    ∷ answer (start still (line (pos 683) (pos 0) (pos 0) (pos 0)) 12) 2
    ∷ answer (start still (line (pos 0) (pos 0) (pos 0) (negsuc 682)) 0) 2
    ∷ answer (start still (line (pos 682) (pos 0) (pos 0) (pos 0)) 12) 3
    ∷ answer (start (line (pos 16383) (pos 16383) (pos 16383) (pos 16383)) (line (negsuc 16383) (negsuc 16383) (negsuc 16383) (negsuc 16383)) 11) 0
    ∷ answer (start still (line (pos 682) (pos 0) (pos 682) (pos 0)) 11) 0
    -- choosing: 4, then 10, then 5
    ∷ answer (choice_refusal 11 0 0 12 2048) 4
    ∷ answer (choice_refusal 11 65537 0 0 2048) 4
    ∷ answer (choice_refusal 11 65536 32768 12 2048) 10
    ∷ answer (choice_refusal 11 65536 32768 0 2048) 5
    ∷ answer (choice_refusal 11 65536 32768 0 0) 0
    -- a step adds 2^(F−n) to q
    ∷ answer (new_position 6 step 2 16) 32
    ∷ answer (new_position 12 step 2 1024) 2048
    -- 10 by F, also where every number is 0
    ∷ answer (still_at 5 step 0 0) 10
    ∷ answer (still_at 13 step 0 0) 10
    ∷ answer (still_at 0 halve 0 0) 10
    ∷ answer (still_at 0 double 0 0) 10
    ∷ answer (still_at 0 step 0 0) 10
    -- F = 6: 64 positions, levels 0 to 6
    ∷ answer (still_at 6 step 0 64) 5
    ∷ answer (still_at 6 step 6 63) 0
    ∷ answer (still_at 6 step 6 65) 10
    ∷ answer (still_at 6 step 7 0) 10
    ∷ answer (still_at 6 halve 6 0) 6
    ∷ answer (still_at 6 halve 5 0) 0
    ∷ answer (still_at 6 double 1 32) 8
    ∷ answer (start_at 6 (line (pos 20) (pos 0) (pos 0) (pos 0)) still 6) 0
    ∷ answer (start_at 6 (line (pos 20) (pos 0) (pos 0) (pos 0)) still 7) 3
    ∷ answer (start_at 6 (line (pos 21) (pos 0) (pos 0) (pos 0)) still 7) 2
    ∷ answer (start_at 6 still (line (pos 0) (pos 0) (pos 0) (pos 21)) 0) 2
    ∷ answer (start_at 6 (line (pos 16384) (pos 0) (pos 0) (pos 0)) still 7) 1
    ∷ answer (choice_refusal 6 65536 32768 0 64) 5
    -- F = 12: 4,096 positions, levels 0 to 12
    ∷ answer (still_at 12 step 0 4096) 5
    ∷ answer (still_at 12 step 12 4095) 0
    ∷ answer (still_at 12 step 13 0) 10
    ∷ answer (still_at 12 halve 12 0) 6
    ∷ answer (still_at 12 halve 11 0) 0
    ∷ answer (still_at 12 double 1 2048) 8
    ∷ answer (start_at 12 (line (pos 682) (pos 0) (pos 0) (pos 0)) still 12) 0
    ∷ answer (start_at 12 (line (pos 682) (pos 0) (pos 0) (pos 0)) still 13) 3
    ∷ answer (start_at 12 (line (pos 683) (pos 0) (pos 0) (pos 0)) still 13) 2
    ∷ answer (choice_refusal 12 65536 32768 0 4096) 5
    -- a quadratic's start: 1, then 2, then 3, by y and by the width; by F = 6 and F = 12; 24 before 1
    ∷ answer (start_quadratic 11 (bend (pos 16384) (pos 0) (pos 0)) rest 12) 1
    ∷ answer (start_quadratic 11 (bend (pos 0) (negsuc 16384) (pos 0)) rest 12) 1
    ∷ answer (start_quadratic 11 (bend (pos 0) (pos 0) (negsuc 16384)) rest 0) 1
    ∷ answer (start_quadratic 11 (bend (pos 1024) (pos 0) (pos 0)) (bend (pos 0) (pos 0) (pos 16384)) 12) 1
    ∷ answer (start_quadratic 11 (bend (pos 1024) (pos 0) (pos 0)) rest 12) 2
    ∷ answer (start_quadratic 11 (bend (pos 0) (pos 0) (negsuc 1023)) rest 0) 2
    ∷ answer (start_quadratic 11 rest (bend (pos 0) (pos 1024) (pos 1024)) 0) 2
    ∷ answer (start_quadratic 11 (bend (pos 1023) (pos 0) (pos 0)) rest 12) 3
    ∷ answer (start_quadratic 11 (bend (pos 1023) (pos 0) (pos 1023)) (bend (pos 0) (negsuc 1022) (pos 0)) 11) 0
    ∷ answer (start_quadratic 6 (bend (pos 31) (pos 0) (pos 31)) rest 6) 0
    ∷ answer (start_quadratic 6 (bend (pos 32) (pos 0) (pos 0)) rest 7) 2
    ∷ answer (start_quadratic 6 (bend (pos 31) (pos 0) (pos 0)) rest 7) 3
    ∷ answer (start_quadratic 12 (bend (pos 1023) (pos 0) (pos 0)) rest 12) 0
    ∷ answer (start_quadratic 12 (bend (pos 1024) (pos 0) (pos 0)) rest 13) 2
    ∷ answer (start_quadratic 5 rest rest 0) 24
    ∷ answer (start_quadratic 13 (bend (pos 16384) (pos 0) (pos 0)) rest 0) 24
    -- 24 before 1; 4 before 10
    ∷ answer (start_at 5 (line (pos 16384) (pos 0) (pos 0) (pos 0)) still 0) 24
    ∷ answer (start_at 13 still still 0) 24
    ∷ answer (choice_refusal 5 0 0 0 0) 4
    ∷ answer (choice_refusal 5 65536 32768 0 0) 10
    ∷ []

abbrev pub Answers : Answer → Type 0
Answers w = w.answered ≡ w.number

abbrev answered_so : Answer → Bool
answered_so w = eqb w.answered w.number

pub answered_as_listed : All Answers numbers
unfolding numbers start_refusal begin_refusal is_finest reach every are_coordinates are_near is_coordinate are_neighbours is_level are_limits call_refusal gate is_drawing is_aligned
    registers_refusal turn are_registers choice_refusal
answered_as_listed = tested Answers answered_so (λ w t. eqb→eq w.answered w.number t) numbers tt
