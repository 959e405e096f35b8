-- The three numbers of the header are small, and after them the records' values are stored in their order.
use mathlib.Core.Path.{◌≡◌, sym, ap, ◌∙◌}
use mathlib.Core.List.{List}
use Prim.Native.Nat.{ℕ, ◌+◌, ◌-◌, ◌/◌, ◌≤◌}
use native.Mathlib.Omega.{arith}
use lib.IntN.{ℤ, pos}
use lib.ListN.{length, set, length-set}
use lib.Seq.{sets}
use mir.Syntax.{w32}
use mir.Val.{to_z}
use mir.ValLaws.{to_z_pos}
use Rattle.rules.proofs.Laws.{limits_hold}
use Rattle.sheet.specs.Bytes.{value_size, u32_at, values_at}
use Rattle.sheet.specs.Sheet.{list_head, head_size, sheet_numbers}
use Rattle.sheet.specs.Records.{sheet_at}
use Rattle.sheet.specs.Reading.{sheet_refusal}
use Rattle.sheet.proofs.Reading.{headed}
use Rattle.reading.proofs.Flat.{numbers_flat, numbers_count}
use Rattle.reading.proofs.fill_numbers.Goals as goal
use Rattle.reading.proofs.fill_numbers.Goals.{After-head_size-start}

room : (b : List ℕ) (l : List ℤ) → sheet_refusal b ≡ 0 → length (sheet_numbers (sheet_at b)) ≤ length l
    → list_head + (length b - head_size (u32_at b 0)) / value_size ≤ length l
room b l e h = rw (numbers_count b e) at h

-- where the records begin
start : (c : After-head_size-start) → c.head_size-start.result ≡ head_size (u32_at c.args.sheet.now 0)
start c = c.head_size-start.ensures ∙ ap head_size c.u32_at-paths.ensures

-- ---- the three numbers of the header

count_small : (b : List ℕ) {n : ℕ} → sheet_refusal b ≡ 0 → n ≡ u32_at b 0 → n ≤ 65536
count_small b r e = omega (arith, (headed b r).few)

upper_small : (b : List ℕ) {n : ℕ} → sheet_refusal b ≡ 0 → n ≡ u32_at b 4 → n ≤ 65536
upper_small b r e = omega (arith, (limits_hold _ _ (headed b r).limits).most)

lower_small : (b : List ℕ) {n : ℕ} → sheet_refusal b ≡ 0 → n ≡ u32_at b 8 → n ≤ 65536
lower_small b r e =
    let limits = limits_hold _ _ (headed b r).limits in
    omega (arith, limits.order, limits.most)

pub bounds-numbers-1 : goal.bounds-numbers-1
bounds-numbers-1 c = simp length-set (omega (arith, room _ _ c.requires.accepted c.requires.room))

pub bounds-numbers-2 : goal.bounds-numbers-2
bounds-numbers-2 c = simp length-set (omega (arith, room _ _ c.requires.accepted c.requires.room))

-- ---- the values

pub take_values-requires : goal.take_values-requires
take_values-requires c =
    let begins = start (goal.at.take_values-requires c).After-head_size-start in
    simp length-set
    (omega (arith, begins, (headed _ c.requires.accepted).table), omega (arith, begins, room _ _ c.requires.accepted c.requires.room))

number : (n m : ℕ) → n ≤ 65536 → n ≡ m → to_z w32 n ≡ pos m
number n m h e = to_z_pos w32 n (omega (arith, h)) ∙ ap pos e

-- three stores, and then the values, are the list of the sheet
stored : (l k : List ℤ) (b : List ℕ) {x y z : ℤ} {p : ℕ} → sheet_refusal b ≡ 0 → p ≡ head_size (u32_at b 0)
    → x ≡ pos (u32_at b 0) → y ≡ pos (u32_at b 4) → z ≡ pos (u32_at b 8)
    → k ≡ sets (set (set (set l 0 x) 1 y) 2 z) list_head (values_at b p ((length b - p) / value_size)) → k ≡ sets l 0 (sheet_numbers (sheet_at b))
stored l k b r ep ex ey ez e = rw (numbers_flat b r, sym ex, sym ey, sym ez, sym ep) e

pub returns : goal.returns
returns c =
    let count = c.u32_at-paths.ensures in
    let upper = c.u32_at.ensures in
    let lower = c.u32_at-2.ensures in
    let accepted = c.requires.accepted in
    stored _ _ _ accepted
    (start (goal.at.returns c).After-head_size-start)
    (number _ _ (count_small _ accepted count) count)
    (number _ _ (upper_small _ accepted upper) upper)
    (number _ _ (lower_small _ accepted lower) lower)
    c.take_values.ensures
