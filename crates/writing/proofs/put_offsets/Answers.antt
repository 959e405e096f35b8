-- Each turn stores the place of one path's record: the sheet with all that is to come is that of the loop's start.
use mathlib.Core.Path.{◌≡◌, ap, ◌∙◌}
use mathlib.Core.List.{List, [], ◌++◌}
use Prim.Native.Nat.{ℕ, zero, suc, ◌+◌, ◌-◌, ◌*◌, ◌<◌}
use native.Mathlib.Omega.{arith}
use lib.IntN.{ℤ}
use lib.Seq.{sets}
use Rattle.numbers.proofs.Buffers.{Ahead, then, stored, stored_all}
use Rattle.sheet.specs.Bytes.{value_size, le32}
use Rattle.sheet.specs.Sheet.{offset_size, head_size, record_head, offsets}
use Rattle.sheet.specs.NumberList.{path_point_numbers, path_at, path_end, paths_at}
use Rattle.sheet.specs.Writing.{path_refusal, paths_refusal}
use Rattle.sheet.proofs.Sheets.{length_record}
use Rattle.sheet.proofs.Writing.{paths_kept, path_fits, path-points}
use Rattle.writing.proofs.put_offsets.Goals as goal
use Rattle.writing.proofs.put_offsets.Goals.{In-loop-k}

-- in a turn the path at `at` has no refusal, so that all its numbers are there

kept : (c : In-loop-k)
    → let l = c.args.numbers.now in
    (path_refusal l c.loop-k.at ≡ 0) × (paths_refusal l (c.args.paths - c.loop-k.k - 1) (path_end l c.loop-k.at) ≡ 0)
kept c = paths_kept c.args.numbers.now (c.args.paths - c.loop-k.k) c.loop-k.at (omega arith) c.loop-k.invariant.1

pub overflow_cast-place : goal.overflow_cast-place
overflow_cast-place c = omega (arith, path_fits c.args.numbers.now _ (kept (goal.at.overflow_cast-place c).In-loop-k).0)

pub invariant_of-path : goal.invariant_of-path
invariant_of-path c = omega (arith, path_fits c.args.numbers.now _ (kept (goal.at.invariant_of-path c).In-loop-k).0)

-- the next path's offset, and those after it
offsets_more : (l : List ℤ) (place n i : ℕ) → 0 < n → path_refusal l i ≡ 0
    → offsets place (paths_at l n i)
    ≡ le32 place ++ offsets (place + (record_head + value_size * path_point_numbers l i)) (paths_at l (n - 1) (path_end l i))
unfolding paths_at offsets
offsets_more l place zero i h e = absurd (omega arith)
offsets_more l place (suc n) i h e =
    let left : suc n - 1 ≡ n = omega arith in
    rw (left, length_record (path_at l i), path-points l i e)

offsets_end : (l : List ℤ) (place n i : ℕ) → n ≡ 0 → offsets place (paths_at l n i) ≡ []
unfolding paths_at offsets
offsets_end l place n i z = rw z

-- the bytes stored are the next to come
turn : {sheet₀ sheet after : List ℕ} {to₀ : ℕ} {all : List ℕ} (numbers : List ℤ) (place paths k at : ℕ) {n end : ℕ} → k < paths
    → path_refusal numbers at ≡ 0 → n ≡ path_point_numbers numbers at → end ≡ path_end numbers at → after ≡ sets sheet (head_size k) (le32 place)
    → Ahead sheet (head_size k) (offsets place (paths_at numbers (paths - k) at)) sheet₀ to₀ all
    → Ahead after (head_size (k + 1)) (offsets (place + (record_head + value_size * n)) (paths_at numbers (paths - (k + 1)) end)) sheet₀ to₀ all
turn {sheet = sheet} numbers place paths k at some right points end bytes ahead =
    let less : paths - (k + 1) ≡ paths - k - 1 = omega arith in
    let to : head_size (k + 1) ≡ head_size k + offset_size = omega arith in
    let more = offsets_more numbers place (paths - k) at (omega arith) right in
    rw (bytes, end, points, less, to) (then (stored sheet (head_size k) (le32 place) _) (rw more at ahead))

pub loop-k-preserved : goal.loop-k-preserved
loop-k-preserved c =
    let path = kept (goal.at.loop-k-preserved c).In-loop-k in
    let points = c.point_numbers.ensures.value in
    let end = c.end-at.ensures in
    let less : c.args.paths - (c.loop-k.k + 1) ≡ c.args.paths - c.loop-k.k - 1 = omega arith in
    let bytes = c.put_u32.ensures ∙ ap (λ (to : ℕ). sets c.loop-k.sheet to (le32 c.loop-k.place)) c.head_size.ensures in
    let ahead = turn c.args.numbers.now _ _ _ _ c.loop-k-test.true path.0 points end bytes c.loop-k.invariant.2 in
    (omega (arith, points, end), rw (less, end) path.1, ahead)

pub returns : goal.returns
returns c =
    let none : c.args.paths - c.loop-k.k ≡ 0 = omega arith in
    rw (← c.head_size-place.ensures) (stored_all (offsets_end _ c.loop-k.place _ c.loop-k.at none) c.loop-k.invariant.2)
