-- The rules of one path: a path without a refusal is one that keeps each of them, and the order in which they are asked.
use mathlib.Core.Path.{◌≡◌, ap₂, ◌∙◌}
use mathlib.Core.Bool.{Bool, true, false, ◌&&◌}
use Prim.Native.Nat.{ℕ, suc, ◌≤◌, ◌<◌}
use native.Mathlib.Omega.{arith}
use borrow.Author.Tests.{le-leb, lt-leb, eq-eqb}
use lib.Dec.{leb, eqb}
use lib.ListN.{length}
use Rattle.numbers.proofs.Tests.{and_true}
use Rattle.rules.specs.Rules.{sheet_finest, is_level, is_segments, point_numbers, is_size, head_refusal, are_points, are_chained, points_refusal}
use Rattle.rules.proofs.Refusals.{rule_kept, first_kept, first_stop}
use Rattle.rules.proofs.Order.{head_refuses_14, head_refuses_3, head_accepted, head_kept, points_accepted, points_kept}
use Rattle.sheet.specs.Sheet.{Target, sheet_reach, RightPath}
use Rattle.sheet.specs.PathRules.{path_rules}
use Rattle.sheet.proofs.InNumbers.{apart, reach_in_numbers}

pub record Kept (there whole : Bool) (p : Target) : Type 0 where
  pub begins : there ≡ true
  pub segments : is_segments p.segments ≡ true
  pub level : is_level sheet_finest p.level ≡ true
  pub ends : whole ≡ true
  pub points : are_points p.points ≡ true
  pub chained : are_chained (sheet_reach p.degree) p.points ≡ true

pub rules_kept : (short : ℕ) (begins ends : Bool) (p : Target) → path_rules (suc short) begins ends p ≡ 0 → Kept begins ends p
unfolding path_rules
rules_kept short begins ends p e =
    let there = rule_kept begins short _ e in
    let rest = first_kept (head_refusal _ p.segments p.level) _ there.1 in
    let whole = rule_kept ends short _ rest.1 in
    let head = head_kept _ p.segments p.level rest.0 in
    let points = points_kept _ p.points whole.1 in
    record { begins = there.0; segments = head.0; level = head.1; ends = whole.0; points = points.0; chained = points.1 }

pub kept_rules : (short : ℕ) {begins ends : Bool} {p : Target} → Kept begins ends p → path_rules (suc short) begins ends p ≡ 0
unfolding path_rules
kept_rules short {p = p} k =
    rw (k.begins, head_accepted _ p.segments p.level k.segments k.level, k.ends)
    (points_accepted _ p.points k.points k.chained)

-- ---- a right path keeps them, and one with all its points that keeps them is right

pub right_kept : {there whole : Bool} {p : Target} → there ≡ true → whole ≡ true → RightPath p → Kept there whole p
unfolding is_size
right_kept {p = p} begins ends r =
    let size = and_true (is_segments p.segments) (eqb (length p.points) (point_numbers p.degree p.segments)) r.size in
    record { begins = begins; segments = size.0; level = r.level; ends = ends; points = r.points; chained = r.chained }

pub kept_right : {there whole : Bool} {p : Target} → length p.points ≡ point_numbers p.degree p.segments → Kept there whole p → RightPath p
unfolding is_size
kept_right e k = record { size = ap₂ ◌&&◌ k.segments (eq-eqb _ _ e); level = k.level; points = k.points; chained = k.chained }

-- ---- the order of the rules: each where all before it are kept

module _ (short : ℕ) (begins ends : Bool) (p : Target) where
  pub refuses_no_head : begins ≡ false → path_rules short begins ends p ≡ short
  unfolding path_rules
  refuses_no_head e = rw e

  module _ (there : begins ≡ true) where
    pub refuses_by_head : (head_refusal sheet_finest p.segments p.level ≡ 0 → ⊥)
        → path_rules short begins ends p ≡ head_refusal sheet_finest p.segments p.level
    unfolding path_rules
    refuses_by_head h = rw there (first_stop (head_refusal _ p.segments p.level) _ h)

    refuses_by_number : {k : ℕ} → head_refusal sheet_finest p.segments p.level ≡ suc k → path_rules short begins ends p ≡ suc k
    refuses_by_number e = refuses_by_head (λ z. omega (arith, e)) ∙ e

    module _ (head : head_refusal sheet_finest p.segments p.level ≡ 0) where
      pub refuses_cut : ends ≡ false → path_rules short begins ends p ≡ short
      unfolding path_rules
      refuses_cut e = rw (there, head, e)

      pub refuses_by_points : ends ≡ true → path_rules short begins ends p ≡ points_refusal (sheet_reach p.degree) p.points
      unfolding path_rules
      refuses_by_points e = rw (there, head, e)

-- The same in numbers. It takes `head` places to begin and `end` places to end, of `size` that there are; one that ends early has the number
-- `short`. That 1 comes before 2 is in rules/proofs/Order.
pub record PathOrder (refusal short head end size : ℕ) (p : Target) : Type 0 where
  pub no_head : size < head → refusal ≡ short
  pub no_segments : head ≤ size → is_segments p.segments ≡ false → refusal ≡ 14
  pub no_level : head ≤ size → is_segments p.segments ≡ true → 11 < p.level → refusal ≡ 3
  pub cut : head ≤ size → is_segments p.segments ≡ true → p.level ≤ 11 → size < end → refusal ≡ short
  pub by_points : head ≤ size → is_segments p.segments ≡ true → p.level ≤ 11 → end ≤ size → refusal ≡ points_refusal (apart p.degree) p.points

pub rules_in_order : (short head end size : ℕ) (p : Target) → PathOrder (path_rules short (leb head size) (leb end size) p) short head end size p
unfolding is_level
rules_in_order short head end size p =
    let S = p.segments in
    let n = p.level in
    record {
      no_head = λ h. refuses_no_head short _ _ p (lt-leb head size h);
      no_segments = λ h s. refuses_by_number short _ _ p (le-leb head size h) (head_refuses_14 _ S n s);
      no_level = λ h s l. refuses_by_number short _ _ p (le-leb head size h) (head_refuses_3 _ S n s (lt-leb n 11 l));
      cut = λ h s l e. refuses_cut short _ _ p (le-leb head size h) (head_accepted _ S n s (le-leb n 11 l)) (lt-leb end size e);
      by_points = λ h s l e.
          rw (← reach_in_numbers) (refuses_by_points short _ _ p (le-leb head size h) (head_accepted _ S n s (le-leb n 11 l)) (le-leb end size e));
    }
