-- What is left of the records refuses exactly as all of them do.
use mathlib.Core.Path.{◌≡◌, sym, ◌∙◌}
use mathlib.Core.List.{List}
use Prim.Native.Nat.{ℕ, ◌+◌, ◌-◌, ◌≤◌, ◌<◌}
use native.Mathlib.Omega.{arith}
use lib.ListN.{length}
use Rattle.std.proofs.lemmas.Result.{err_from_is_err_and}
use Rattle.rules.proofs.Numbered.{number_positive}
use Rattle.sheet.specs.Records.{record_end}
use Rattle.sheet.specs.Reading.{record_refusal, records_refusal}
use Rattle.sheet.proofs.Reading.{records_more, records_stop, records_end, records_left, record_fits}
use Rattle.reading.proofs.check_records.Goals as goal
use Rattle.reading.proofs.check_records.Goals.{In_ok-check_record}

-- a record that is not refused, and where it ends
kept : (c : In_ok-check_record) → record_refusal c.args.sheet.now c.loop-k.k c.loop-k.at ≡ 0
kept c = sym c.in_ok-check_record.ensures

fits : (c : In_ok-check_record) → record_end c.args.sheet.now c.loop-k.at ≤ length c.args.sheet.now
fits c = record_fits _ c.loop-k.k _ (kept c)

-- a record more
turn : (b : List ℕ) (n k p q : ℕ) → k < n → record_refusal b k p ≡ 0 → q ≡ record_end b p
    → records_refusal b (n - (k + 1)) (k + 1) q ≡ records_refusal b (n - k) k p
turn b n k p q h e f =
    let less : n - (k + 1) ≡ n - k - 1 = omega arith in
    let some : 0 < n - k = omega arith in
    rw (less, f) (sym (records_more b (n - k) k p some e))

pub returns-in_err-check_record : goal.returns-in_err-check_record
returns-in_err-check_record c =
    let asked = c.in_err-check_record.ensures in
    let p = err_from_is_err_and c.from_residual.result c.from_residual.ensures.1 in
    let stop = records_stop _ _ _ _ (omega arith) (λ z. number_positive _ (asked ∙ z)) in
    rw (p.1, p.2) (asked ∙ sym stop ∙ c.loop-k.invariant.1)

pub invariant_of-record : goal.invariant_of-record
invariant_of-record c = omega (arith, fits c)

pub loop-k-preserved : goal.loop-k-preserved
loop-k-preserved c =
    let passed = (goal.at.loop-k-preserved c).In_ok-check_record in
    let again = turn _ _ _ _ _ c.loop-k-test.true (kept passed) c.end-at.ensures in
    (omega (arith, c.end-at.ensures, fits passed), again ∙ c.loop-k.invariant.1)

pub returns-then-at-sheet : goal.returns-then-at-sheet
returns-then-at-sheet c = sym (sym c.loop-k.invariant.1 ∙ records_left _ _ _ _ (omega arith) c.if-at-sheet.true)

pub returns : goal.returns
returns c = sym (sym c.loop-k.invariant.1 ∙ records_end _ _ _ _ (omega arith) c.if-at-sheet.false)
