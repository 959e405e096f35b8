-- Reading, a record at a time, and what the rules say of bytes without a refusal.
use mathlib.Core.Path.{◌≡◌, refl, ap}
use mathlib.Core.Bool.{true}
use mathlib.Core.List.{List}
use Prim.Native.Nat.{ℕ, zero, suc, ◌+◌, ◌-◌, ◌≤◌, ◌<◌}
use native.Mathlib.Omega.{arith}
use borrow.Author.Tests.{leb-true, le-leb, eqb-true, eq-eqb, ne_eqb}
use lib.Dec.{leb, eqb}
use lib.ListN.{length}
use Rattle.rules.specs.Rules.{are_limits}
use Rattle.rules.proofs.Refusals.{rule_kept, first_on, first_stop}
use Rattle.sheet.specs.Bytes.{u32_at}
use Rattle.sheet.specs.Sheet.{least_bytes, most_bytes, most_paths, head_size, record_head}
use Rattle.sheet.specs.Records.{record_at, record_end, records_at}
use Rattle.sheet.specs.Reading.{is_offset, body_refusal, record_refusal, records_refusal, sheet_refusal}
use Rattle.sheet.proofs.PathRules.{Kept, rules_kept}

-- ---- a record at a time

pub records_more : (b : List ℕ) (n k p : ℕ) → 0 < n → record_refusal b k p ≡ 0
    → records_refusal b n k p ≡ records_refusal b (n - 1) (k + 1) (record_end b p)
unfolding records_refusal
records_more b zero k p h e = absurd (omega arith)
records_more b (suc n) k p h e = let s : suc n - 1 ≡ n = omega arith in rw s (first_on (record_refusal b k p) _ e)

pub records_stop : (b : List ℕ) (n k p : ℕ) → 0 < n → (record_refusal b k p ≡ 0 → ⊥) → records_refusal b n k p ≡ record_refusal b k p
unfolding records_refusal
records_stop b zero k p h e = absurd (omega arith)
records_stop b (suc n) k p h e = first_stop (record_refusal b k p) _ e

pub records_end : (b : List ℕ) (n k p : ℕ) → n ≡ 0 → p ≡ length b → records_refusal b n k p ≡ 0
unfolding records_refusal
records_end b n k p z e = rw (z, eq-eqb _ _ e)

pub records_left : (b : List ℕ) (n k p : ℕ) → n ≡ 0 → (p ≡ length b → ⊥) → records_refusal b n k p ≡ 16
unfolding records_refusal
records_left b n k p z e = rw (z, ne_eqb _ _ e)

pub records_done : (b : List ℕ) (k p : ℕ) → records_refusal b 0 k p ≡ 0 → p ≡ length b
unfolding records_refusal
records_done b k p e = eqb-true p (length b) (rule_kept (eqb p (length b)) 15 0 e).0

-- ---- a record without a refusal

pub record Held (b : List ℕ) (k p : ℕ) : Type 0 where
  pub offset : u32_at b (head_size k) ≡ p
  pub ends : record_end b p ≤ length b
  pub kept : Kept (leb (p + record_head) (length b)) (leb (record_end b p) (length b)) (record_at b p)

pub record_held : (b : List ℕ) (k p : ℕ) → record_refusal b k p ≡ 0 → Held b k p
unfolding record_refusal body_refusal is_offset
record_held b k p e =
    let offset = rule_kept (is_offset b k p) 12 (body_refusal b p) e in
    let kept = rules_kept 14 _ _ (record_at b p) offset.1 in
    record { offset = eqb-true _ _ offset.0; ends = leb-true _ _ kept.ends; kept = kept }

pub record_fits : (b : List ℕ) (k p : ℕ) → record_refusal b k p ≡ 0 → record_end b p ≤ length b
record_fits b k p e = (record_held b k p e).ends

-- ---- a sheet without a refusal

pub record Headed (b : List ℕ) : Type 0 where
  pub least : least_bytes ≤ length b
  pub most : length b ≤ most_bytes
  pub few : u32_at b 0 ≤ most_paths
  pub table : head_size (u32_at b 0) ≤ length b
  pub limits : are_limits (u32_at b 4) (u32_at b 8) ≡ true
  pub records : records_refusal b (u32_at b 0) 0 (head_size (u32_at b 0)) ≡ 0

pub headed : (b : List ℕ) → sheet_refusal b ≡ 0 → Headed b
unfolding sheet_refusal
headed b e =
    let least = rule_kept (leb least_bytes (length b)) 10 _ e in
    let most = rule_kept (leb (length b) most_bytes) 10 _ least.1 in
    let few = rule_kept (leb (u32_at b 0) most_paths) 11 _ most.1 in
    let table = rule_kept (leb (head_size (u32_at b 0)) (length b)) 11 _ few.1 in
    let limits = rule_kept (are_limits (u32_at b 4) (u32_at b 8)) 3 _ table.1 in
    record {
      least = leb-true _ _ least.0;
      most = leb-true _ _ most.0;
      few = leb-true _ _ few.0;
      table = leb-true _ _ table.0;
      limits = limits.0;
      records = limits.1;
    }

pub headed_accepted : (b : List ℕ) → Headed b → sheet_refusal b ≡ 0
unfolding sheet_refusal
headed_accepted b h =
    rw (le-leb _ _ h.least, le-leb _ _ h.most, le-leb _ _ h.few, le-leb _ _ h.table, h.limits, h.records)

-- ---- as many records as are asked for

pub records_count : (b : List ℕ) (n p : ℕ) → length (records_at b n p) ≡ n
unfolding records_at
records_count b zero p = refl
records_count b (suc n) p = ap suc (records_count b n (record_end b p))
