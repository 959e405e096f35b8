-- The starred cases C to J of document 01, as one statement over a table of them. A row has the degree and the finest level, cubic and 11 in the
-- document's, the control points of x, the start level and the calls, each case from its own start; and the document's numbers. The other
-- coordinates are 0 throughout. The rows at finest levels 6 and 12 and those of quadratics are not the document's: their numbers are the model's.
use mathlib.Core.Path.{◌≡◌}
use mathlib.Core.Bool.{Bool, true, cond}
use mathlib.Core.List.{List, [], ◌∷◌}
use mathlib.Core.Option.{Option, none, some}
use Prim.Native.Nat.{ℕ}
use lib.Dec.{T, eqb, eqb→eq}
use lib.IntN.{ℤ, pos, negsuc}
use Rattle.numbers.specs.Tests.{eqbℤ}
use Rattle.numbers.proofs.Tests.{eqbℤ→eq}
use Rattle.numbers.specs.Tables.{All, every}
use Rattle.numbers.proofs.Tables.{tested}
use Rattle.rules.specs.declared.Degree.{Degree}
use Rattle.rules.specs.declared.Degree.TheVariants.{Quadratic, Cubic}
use Rattle.rules.specs.Rules.{is_finest, reach, is_coordinate, are_neighbours, is_level}
use Rattle.coordinate.specs.declared.Registers.{Registers}
use Rattle.coordinate.specs.Control.{Control}
use Rattle.coordinate.specs.Curve.{curve}
use Rattle.coordinate.specs.Points.{are_coordinates, are_near}
use Rattle.coordinate.specs.Registers.{Operation, halve, double, step, turn, start_registers, are_registers}
use Rattle.operations.specs.Coordinates.{pick, every as every_coordinate}
use Rattle.operations.specs.Position.{is_drawing, is_aligned}
use Rattle.operations.specs.Refusals.{gate, call_refusal, registers_refusal, begin_refusal, start_refusal}
use Rattle.engine.specs.Moved.{Moved}
use Rattle.engine.specs.Drawing.{turned, called}
use Rattle.engine.specs.Start.{zeros, started}

-- the numbers that the document gives, where it gives them; `own` is the finest level of the drawing reached, 0 after a refused start, and `to` its level
pub record Row : Type 0 where
  pub degree : Degree
  pub finest : ℕ
  pub points : Control degree
  pub level : ℕ
  pub calls : List Operation
  pub refusal : ℕ
  pub own : ℕ
  pub to : Option ℕ
  pub q : Option ℕ
  pub a : Option ℤ
  pub b : Option ℤ
  pub c : Option ℤ
  pub d : Option ℤ

-- the answer to the last call, or to the first one that is refused
abbrev pub run : Moved → List Operation → Moved
run m [] = m
run m (op ∷ ops) = cond (eqb m.refusal 0) (run (called op m.drawing) ops) m

-- all points the same
abbrev pub flat : (D : Degree) → ℤ → Control D
flat Quadratic z = record { p0 = z; p1 = z; p2 = z }
flat Cubic z = record { p0 = z; p1 = z; p2 = z; p3 = z }

abbrev pub reached : Row → Moved
reached w =
    let still = flat w.degree (pos 0) in
    run (started w.degree w.finest (pick w.points still still) w.level) w.calls

-- a number is what the document says, where it says something
abbrev pub Agrees : {A : Type 0} → Option A → A → Type 0
Agrees none x = Unit
Agrees (some y) x = x ≡ y

pub record Holds (w : Row) : Type 0 where
  pub refusal : (reached w).refusal ≡ w.refusal
  pub own : (reached w).drawing.finest ≡ w.own
  pub to : Agrees w.to (reached w).drawing.level
  pub q : Agrees w.q (reached w).drawing.q
  pub a : Agrees w.a (reached w).drawing.x.a
  pub b : Agrees w.b (reached w).drawing.x.b
  pub c : Agrees w.c (reached w).drawing.x.c
  pub d : Agrees w.d (reached w).drawing.x.d
  pub y : (reached w).drawing.y ≡ zeros
  pub width : (reached w).drawing.width ≡ zeros

-- ---- the table

abbrev pub line : ℤ → ℤ → ℤ → ℤ → Control Cubic
line p q r s = record { p0 = p; p1 = q; p2 = r; p3 = s }

abbrev pub bend : ℤ → ℤ → ℤ → Control Quadratic
bend p q r = record { p0 = p; p1 = q; p2 = r }

-- a row whose start is accepted, at finest level 11
abbrev row : Control Cubic → ℕ → List Operation → Option ℕ → Option ℤ → Option ℤ → Option ℤ → Option ℤ → Row
row p n ops q a b c d =
    record { degree = Cubic; finest = 11; points = p; level = n; calls = ops; refusal = 0; own = 11; to = none; q = q; a = a; b = b; c = c; d = d }

-- rows of which the refusal of the start alone is given: none, or the number k
abbrev begins : (D : Degree) → ℕ → Control D → ℕ → ℕ → ℕ → Row
begins D F p n k own =
    record { degree = D; finest = F; points = p; level = n; calls = []; refusal = k; own = own; to = none; q = none; a = none; b = none; c = none; d = none }

abbrev accepts : ℕ → Control Cubic → ℕ → Row
accepts F p n = begins Cubic F p n 0 F

abbrev refuses : ℕ → Control Cubic → ℕ → ℕ → Row
refuses F p n k = begins Cubic F p n k 0

-- a row at any finest level, of which the last call is refused by k, 0 for none
abbrev leads : (D : Degree) → ℕ → Control D → ℕ → List Operation → ℕ → ℕ → ℕ → ℤ → ℤ → ℤ → ℤ → Row
leads D F p n ops k m q a b c d =
    record {
      degree = D;
      finest = F;
      points = p;
      level = n;
      calls = ops;
      refusal = k;
      own = F;
      to = some m;
      q = some q;
      a = some a;
      b = some b;
      c = some c;
      d = some d;
    }

abbrev ends : ℕ → Control Cubic → ℕ → List Operation → ℕ → ℕ → ℕ → ℤ → ℤ → ℤ → ℤ → Row
ends = leads Cubic

abbrev eight : Control Cubic
eight = line (pos 0) (pos 0) (pos 0) (pos 8)

abbrev one : Control Cubic
one = line (pos 0) (pos 0) (pos 0) (pos 1)

abbrev minus_one : Control Cubic
minus_one = line (pos 0) (pos 0) (pos 0) (negsuc 0)

-- the last two points are as far apart as they may be at finest level 6, and at 12
abbrev twenty : Control Cubic
twenty = line (pos 0) (pos 0) (pos 0) (pos 20)

abbrev farthest : Control Cubic
farthest = line (pos 0) (pos 0) (pos 0) (pos 682)

abbrev thrice : Operation → List Operation
thrice op = op ∷ op ∷ op ∷ []

unfoldable pub table : List Row
table =
    -- C: 0,0,0,8, level 0: a = b = 3,145,728, c = 524,288, d = 0
    row eight 0 [] none (some (pos 3145728)) (some (pos 3145728)) (some (pos 524288)) (some (pos 0))
    -- D: C halved: a = b = 1,572,864, c = 131,072. Halved again: a = b = 786,432, c = 32,768
    ∷ row eight 0 (halve ∷ []) none (some (pos 1572864)) (some (pos 1572864)) (some (pos 131072)) none
    ∷ row eight 0 (halve ∷ halve ∷ []) none (some (pos 786432)) (some (pos 786432)) (some (pos 32768)) none
    -- E: D's last state doubled once: the registers of C halved once
    ∷ row eight 0 (halve ∷ halve ∷ double ∷ []) none (some (pos 1572864)) (some (pos 1572864)) (some (pos 131072)) (some (pos 0))
    -- F: D's last state stepped: d = 8,192, c = 229,376, b = 1,572,864, q = 512
    ∷ row eight 0 (halve ∷ halve ∷ step ∷ []) (some 512) none (some (pos 1572864)) (some (pos 229376)) (some (pos 8192))
    -- G: 0,0,0,1, level 9: a = b = 768, c = 0. Stepped: d = 0, c = 1, b = 1,536
    ∷ row one 9 [] none (some (pos 768)) (some (pos 768)) (some (pos 0)) none
    ∷ row one 9 (step ∷ []) none none (some (pos 1536)) (some (pos 1)) (some (pos 0))
    -- H: 0,0,0,−1, level 9: c = −1. Stepped: d = −1, c = −3, b = −1,536
    ∷ row minus_one 9 [] none none none (some (negsuc 0)) none
    ∷ row minus_one 9 (step ∷ []) none none (some (negsuc 1535)) (some (negsuc 2)) (some (negsuc 0))
    -- I: 0,682,682,682 accepted; 0,683,683,683 refused 2
    ∷ accepts 11 (line (pos 0) (pos 682) (pos 682) (pos 682)) 0
    ∷ refuses 11 (line (pos 0) (pos 683) (pos 683) (pos 683)) 0 2
    -- J: level 11 accepted, 12 refused 3; with all four points equal, coordinate 16,383 accepted, 16,384 refused 1
    ∷ accepts 11 (flat Cubic (pos 0)) 11
    ∷ refuses 11 (flat Cubic (pos 0)) 12 3
    ∷ accepts 11 (flat Cubic (pos 16383)) 0
    ∷ refuses 11 (flat Cubic (pos 16384)) 0 1
    -- not document 01's: at finest level 6 a start, halves down to level 6 with 6 refused there, steps to q = 64 with 5 there
    ∷ ends 6 twenty 0 [] 0 0 0 (pos 7864320) (pos 7864320) (pos 1310720) (pos 0)
    ∷ ends 6 twenty 4 (thrice halve) 6 6 0 (pos 122880) (pos 122880) (pos 320) (pos 0)
    ∷ ends 6 twenty 2 (step ∷ step ∷ thrice step) 5 2 64 (pos 1966080) (pos 9830400) (pos 4997120) (pos 1310720)
    -- neighbours 20 and 21 apart, levels 6 and 7
    ∷ refuses 6 (line (pos 0) (pos 0) (pos 0) (pos 21)) 0 2
    ∷ accepts 6 twenty 6
    ∷ refuses 6 twenty 7 3
    -- the same at finest level 12: 6 at level 12, 5 at q = 4,096, neighbours 682 and 683 apart, levels 12 and 13
    ∷ ends 12 farthest 0 [] 0 0 0 (pos 268173312) (pos 268173312) (pos 44695552) (pos 0)
    ∷ ends 12 farthest 10 (thrice halve) 6 12 0 (pos 65472) (pos 65472) (pos 4) (pos 0)
    ∷ ends 12 farthest 2 (step ∷ step ∷ thrice step) 5 2 4096 (pos 67043328) (pos 335216640) (pos 170401792) (pos 44695552)
    ∷ refuses 12 (line (pos 0) (pos 0) (pos 0) (pos 683)) 0 2
    ∷ accepts 12 farthest 12
    ∷ refuses 12 farthest 13 3
    -- finest levels 5 and 13 are refused 24
    ∷ refuses 5 (flat Cubic (pos 0)) 0 24
    ∷ refuses 13 (flat Cubic (pos 0)) 0 24
    -- nor these, of quadratics: 0,0,8 started, halved twice, doubled back and stepped; 8,0,0, which starts at 8; a floor below 0
    ∷ leads Quadratic 11 (bend (pos 0) (pos 0) (pos 8)) 0 [] 0 0 0 (pos 0) (pos 1048576) (pos 524288) (pos 0)
    ∷ leads Quadratic 11 (bend (pos 0) (pos 0) (pos 8)) 0 (halve ∷ halve ∷ []) 0 2 0 (pos 0) (pos 1048576) (pos 131072) (pos 0)
    ∷ leads Quadratic 11 (bend (pos 0) (pos 0) (pos 8)) 0 (halve ∷ halve ∷ double ∷ []) 0 1 0 (pos 0) (pos 1048576) (pos 262144) (pos 0)
    ∷ leads Quadratic 11 (bend (pos 0) (pos 0) (pos 8)) 0 (halve ∷ halve ∷ step ∷ []) 0 2 512 (pos 0) (pos 1048576) (pos 393216) (pos 32768)
    ∷ leads Quadratic 11 (bend (pos 8) (pos 0) (pos 0)) 0 [] 0 0 0 (pos 0) (pos 1048576) (negsuc 524287) (pos 524288)
    ∷ leads Quadratic 11 (bend (pos 0) (pos 0) (negsuc 0)) 11 (step ∷ []) 0 11 1 (pos 0) (negsuc 131071) (negsuc 95) (negsuc 0)
    -- there and back, with 5 at the end; 6 at finest level 6, 5 at q = 4,096
    ∷ leads Quadratic 11 (bend (pos 0) (pos 4) (pos 0)) 0 (halve ∷ step ∷ []) 0 1 1024 (pos 0) (negsuc 1048575) (negsuc 262143) (pos 131072)
    ∷ leads Quadratic 11 (bend (pos 0) (pos 4) (pos 0)) 1 (step ∷ step ∷ step ∷ []) 5 1 2048 (pos 0) (negsuc 1048575) (negsuc 786431) (pos 0)
    ∷ leads Quadratic 6 (bend (pos 0) (pos 31) (pos 0)) 4 (halve ∷ halve ∷ halve ∷ []) 6 6 0 (pos 0) (negsuc 8126463) (pos 3999744) (pos 0)
    ∷ leads Quadratic 12 (bend (negsuc 1022) (pos 0) (negsuc 1022)) 2 (step ∷ step ∷ step ∷ step ∷ step ∷ []) 5 2 4096 (pos 0) (negsuc 268173311) (negsuc 167608319) (negsuc 67043327)
    -- neighbours 1,023 and 1,024 apart, at finest level 6 31 and 32
    ∷ begins Quadratic 11 (bend (pos 0) (pos 1023) (pos 1023)) 0 0 11
    ∷ begins Quadratic 11 (bend (pos 0) (pos 1024) (pos 1024)) 0 2 0
    ∷ begins Quadratic 6 (bend (pos 0) (pos 0) (pos 31)) 6 0 6
    ∷ begins Quadratic 6 (bend (pos 0) (pos 0) (pos 32)) 6 2 0
    ∷ begins Quadratic 11 (flat Quadratic (pos 16383)) 12 3 0
    ∷ begins Quadratic 11 (flat Quadratic (pos 16384)) 0 1 0
    ∷ begins Quadratic 5 (flat Quadratic (pos 0)) 0 24 0
    ∷ []

-- ---- one test for all

abbrev pub agrees : {A : Type 0} → (A → A → Bool) → Option A → A → Bool
agrees eq none x = true
agrees eq (some y) x = eq x y

pub agreed : {A : Type 0} (eq : A → A → Bool) → ((x y : A) → T (eq x y) → x ≡ y) → (o : Option A) (x : A) → T (agrees eq o x) → Agrees o x
agreed eq h none x t = tt
agreed eq h (some y) x t = h x y t

-- all of some tests
abbrev pub all : List Bool → Bool
all = every (λ (b : Bool). b)

pub each : (ts : List Bool) → T (all ts) → All T ts
each ts t = tested T (λ (b : Bool). b) (λ (b : Bool) t. t) ts t

-- the registers of a coordinate that stays 0
abbrev still : Registers → List Bool
still r = eqbℤ r.a (pos 0) ∷ eqbℤ r.b (pos 0) ∷ eqbℤ r.c (pos 0) ∷ eqbℤ r.d (pos 0) ∷ []

still_zeros : (r : Registers) → T (all (still r)) → r ≡ zeros
still_zeros r t =
    let ts = each (still r) t in
    λ i. record {
      a = eqbℤ→eq r.a (pos 0) ts.0 i;
      b = eqbℤ→eq r.b (pos 0) ts.1.0 i;
      c = eqbℤ→eq r.c (pos 0) ts.1.1.0 i;
      d = eqbℤ→eq r.d (pos 0) ts.1.1.1.0 i;
    }

abbrev tests : Row → List Bool
tests w =
    eqb (reached w).refusal w.refusal
    ∷ eqb (reached w).drawing.finest w.own
    ∷ agrees eqb w.to (reached w).drawing.level
    ∷ agrees eqb w.q (reached w).drawing.q
    ∷ agrees eqbℤ w.a (reached w).drawing.x.a
    ∷ agrees eqbℤ w.b (reached w).drawing.x.b
    ∷ agrees eqbℤ w.c (reached w).drawing.x.c
    ∷ agrees eqbℤ w.d (reached w).drawing.x.d
    ∷ all (still (reached w).drawing.y)
    ∷ all (still (reached w).drawing.width)
    ∷ []

abbrev right : Row → Bool
right w = all (tests w)

right_holds : (w : Row) → T (right w) → Holds w
right_holds w t =
    let m = reached w in
    let r = m.drawing.x in
    let ts = each (tests w) t in
    let us = ts.1.1 in
    record {
      refusal = eqb→eq m.refusal w.refusal ts.0;
      own = eqb→eq m.drawing.finest w.own ts.1.0;
      to = agreed eqb eqb→eq w.to m.drawing.level us.0;
      q = agreed eqb eqb→eq w.q m.drawing.q us.1.0;
      a = agreed eqbℤ eqbℤ→eq w.a r.a us.1.1.0;
      b = agreed eqbℤ eqbℤ→eq w.b r.b us.1.1.1.0;
      c = agreed eqbℤ eqbℤ→eq w.c r.c us.1.1.1.1.0;
      d = agreed eqbℤ eqbℤ→eq w.d r.d us.1.1.1.1.1.0;
      y = still_zeros m.drawing.y us.1.1.1.1.1.1.0;
      width = still_zeros m.drawing.width us.1.1.1.1.1.1.1.0;
    }

pub starred : All Holds table
unfolding table started start_refusal begin_refusal is_finest reach every_coordinate are_coordinates are_near is_coordinate are_neighbours is_level curve start_registers called call_refusal gate is_drawing is_aligned registers_refusal turned turn are_registers
starred = tested Holds right right_holds table tt
