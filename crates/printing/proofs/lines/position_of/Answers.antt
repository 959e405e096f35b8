-- The sum of a signed number of 32 bits and 2,048 times an unsigned one, in 64 bits.
use native.Mathlib.Omega.{arith}
use lib.IntN.{pos}
use mir.Syntax.{w32, w64}
use mir.Val.{to_z, SFits}
use mir.Facts.{to_z_pos}
use Prim.Native.Nat.{◌*◌}
use Rattle.numbers.proofs.Machine.{Num, field, literal, local, plus, times}
use Rattle.path.specs.Joined.{shifted}
use Rattle.printing.proofs.lines.position_of.Goals as goal
use Rattle.printing.proofs.lines.position_of.Goals.{Start}

abbrev k : (c : Start) → Num 4294967295 (pos c.args.k)
k c =
    record {
      machine = to_z w64 c.args.k;
      is = to_z_pos w64 (omega (arith, c.ranges.k));
      small = record { le = omega (arith, c.ranges.k) };
    }

-- how far on segment k is
abbrev further : (c : Start) → Num 8796093020160 (pos (2048 * c.args.k))
further c = times (literal 2048) (k c)

pub returns : goal.returns
unfolding shifted
returns c =
    let position : SFits w32 c.args.e.position = record { sfits = omega arith } in
    (local w64 tt (plus (local w64 tt (field position)) (local w64 tt (further (goal.at.returns c).Start)))).is
