-- 32,768 bytes are reached: 46 paths with 1,784 segments together are a right sheet of exactly so many.
use mathlib.Core.Path.{◌≡◌, refl, ◌∙◌}
use mathlib.Core.List.{◌++◌}
use Prim.Native.Nat.{ℕ, zero, suc}
use native.Mathlib.Omega.{arith}
use lib.IntN.{pos}
use lib.ListN.{length, replicate}
use Rattle.numbers.specs.Tables.{All}
use Rattle.numbers.proofs.Tables.{all_append}
use Rattle.rules.specs.declared.Degree.TheVariants.{Cubic}
use Rattle.rules.specs.Rules.{reach, is_coordinate, are_neighbours, is_level, are_limits, is_segments, is_size, point_numbers, are_points, are_beside, are_chained}
use Rattle.sheet.specs.Sheet.{Target, Sheet, sheet_bytes, path_numbers, RightPath, Right}
use Rattle.sheet.specs.Reading.{sheet_refusal}
use Rattle.sheet.proofs.Sheets.{length_bytes}
use Rattle.sheet.proofs.ReadsBack.{reads_back}

-- a path that stays where it is
abbrev still : ℕ → Target
still S = record { degree = Cubic; segments = S; level = 0; points = replicate (point_numbers Cubic S) (pos 0) }

abbrev pub longest : Sheet
longest = record { upper = 65536; lower = 32768; paths = replicate 36 (still 39) ++ replicate 10 (still 38) }

all_still : (n S : ℕ) → RightPath (still S) → All RightPath (replicate n (still S))
all_still zero S r = tt
all_still (suc n) S r = (r, all_still n S r)

still_right : RightPath (still 39) × RightPath (still 38)
unfolding is_size is_segments is_level reach are_points is_coordinate are_chained are_beside are_neighbours
still_right = (record { size = refl; level = refl; points = refl; chained = refl }, record { size = refl; level = refl; points = refl; chained = refl })

longest_size : length (sheet_bytes longest) ≡ 32768
unfolding path_numbers
longest_size = length_bytes longest ∙ refl

pub longest_sheet : Right longest × (length (sheet_bytes longest) ≡ 32768) × (sheet_refusal (sheet_bytes longest) ≡ 0)
unfolding are_limits
longest_sheet =
    let more = replicate 36 (still 39) in
    let fewer = replicate 10 (still 38) in
    let paths = all_append RightPath more fewer (all_still 36 39 still_right.0) (all_still 10 38 still_right.1) in
    let right : Right longest = record { few = omega arith; limits = refl; paths = paths; fits = omega (arith, longest_size) } in
    (right, longest_size, (reads_back longest right).1)
