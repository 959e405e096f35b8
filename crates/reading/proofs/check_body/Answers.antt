-- The points that are taken fit their buffer, and are the record's.
use mathlib.Core.Path.{◌≡◌, sym, ap, ap₂, ◌∙◌}
use mathlib.Core.Bool.{true}
use mathlib.Core.List.{List}
use Prim.Native.Nat.{ℕ, ◌+◌, ◌≤◌}
use native.Mathlib.Omega.{arith}
use borrow.Author.Tests.{le-leb}
use lib.Dec.{leb}
use lib.IntN.{ℤ}
use lib.ListN.{length, take}
use lib.Seq.{sets, take_at, length-take-le}
use Rattle.numbers.proofs.Buffers.{sets_front}
use Rattle.rules.specs.declared.Marked.{Marked}
use Rattle.rules.specs.Rules.{sheet_finest, head_refusal, points_refusal}
use Rattle.rules.proofs.Laws.{few_numbers}
use Rattle.rules.proofs.Order.{head_kept}
use Rattle.sheet.specs.Bytes.{u16_at, values_at}
use Rattle.sheet.specs.Sheet.{record_head, sheet_reach}
use Rattle.sheet.specs.Records.{record_mark, record_point_numbers, record_at}
use Rattle.sheet.specs.Reading.{body_refusal}
use Rattle.sheet.proofs.Bytes.{values_length}
use Rattle.sheet.proofs.PathRules.{refuses_by_points}
use Rattle.reading.proofs.check_body.Goals as goal
use Rattle.reading.proofs.check_body.Goals.{Else-sheet-at, After-point_numbers-n, After-take_values}

begins : (c : Else-sheet-at) → leb (c.args.at + record_head) (length c.args.sheet.now) ≡ true
begins c = le-leb _ _ c.if-sheet-at.false

-- ---- the segments and the mark: with them the points have few numbers

head : (c : After-point_numbers-n)
    → head_refusal sheet_finest (u16_at c.args.sheet.now c.args.at) (record_mark c.args.sheet.now c.args.at).level ≡ 0
head c = rw (← c.segments.ensures.value, ← c.mark-marked.ensures) (sym c.in_ok-check_head.ensures)

few : (c : After-point_numbers-n) → c.point_numbers-n.result ≤ 579
few c =
    let D = (record_mark c.args.sheet.now c.args.at).degree in
    rw c.point_numbers-n.ensures.value (few_numbers D _ (head_kept sheet_finest _ _ (head c)).0)

-- ---- the points

pub take_values-requires : goal.take_values-requires
take_values-requires c =
    let n = c.point_numbers-n.ensures.value in
    (omega (arith, c.if-sheet-end.false, c.end.ensures, n), omega (arith, few (goal.at.take_values-requires c).After-point_numbers-n))

pub slice_bounds-points-end : goal.slice_bounds-points-end
slice_bounds-points-end c = omega (arith, few (goal.at.slice_bounds-points-end c).After-point_numbers-n)

pub slice_bounds-check_points-end : goal.slice_bounds-check_points-end
slice_bounds-check_points-end c =
    sym (length-take-le _ _ (omega (arith, few (goal.at.slice_bounds-check_points-end c).After-point_numbers-n)))

-- the front of a buffer is what was stored there
front : (l k vs : List ℤ) (n : ℕ) → length vs ≡ n → n ≤ length l → k ≡ sets l 0 vs → take n k ≡ vs
front l k vs n e h s = rw (s, sets_front l vs (rw e h)) (take_at vs _ n e)

-- the points that were taken are the record's
points : (c : After-take_values) → c.point_numbers-n.result ≤ 579
    → take c.point_numbers-n.result c.take_values.new.list
    ≡ values_at c.args.sheet.now (c.args.at + record_head) (record_point_numbers c.args.sheet.now c.args.at)
points c h =
    let n = c.point_numbers-n.result in
    rw (sym c.point_numbers-n.ensures.value) (front _ _ _ n (values_length _ _ n) h c.take_values.ensures)

pub returns : goal.returns
unfolding body_refusal record_at
returns c =
    let at = goal.at.returns c in
    let numbered = at.After-point_numbers-n in
    let ends = le-leb _ _ (rw c.end.ensures at c.if-sheet-end.false) in
    let mark = c.mark-marked.ensures in
    c.check_points.ensures
    ∙ ap₂ points_refusal (c.reach.ensures ∙ ap (λ (m : Marked). sheet_reach m.degree) mark) (points at.After-take_values (few numbered))
    ∙ sym (refuses_by_points 15 _ _ _ (begins at.Else-sheet-at) (head numbered) ends)
