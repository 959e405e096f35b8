-- The sheet is read into 16,384 numbers; those that the answer counts are printed, or its refusal.
use mathlib.Core.Path.{◌≡◌, refl, sym, ap, ◌∙◌}
use mathlib.Core.List.{List, ◌++◌}
use Prim.Native.Nat.{ℕ}
use lib.IntN.{ℤ, pos}
use lib.ListN.{length, replicate, length-replicate}
use lib.Seq.{length-take-le}
use borrow.Author.Rules.{rules}
use Rattle.rules.proofs.Numbered.{number_positive}
use Rattle.sheet.specs.Bytes.{Bytes}
use Rattle.sheet.specs.Sheet.{most_numbers}
use Rattle.listing_text.specs.Lines.{refused_word, end, named}
use Rattle.text.specs.Reached.{reached}
use Rattle.printing.proofs.Answered.{count_inside, numbers_accepted, accepted_output, refused_output}
use Rattle.printing.proofs.print.Goals as goal
use Rattle.printing.proofs.print.Goals.{After-read}

bytes : (r : After-read) → Bytes r.args.sheet.now
bytes r = record { byte = λ i. search rules }

-- the 16,384 numbers that are lent
abbrev lent : List ℤ
lent = replicate most_numbers (pos 0)

room : length lent ≡ most_numbers
room = length-replicate most_numbers (pos 0)

-- ---- an accepted sheet

pub slice_bounds-numbers-end : goal.slice_bounds-numbers-end
slice_bounds-numbers-end c =
    let r = (goal.at.slice_bounds-numbers-end c).After-read in
    count_inside c.args.sheet.now (bytes r) lent room c.in-Ok.ensures.answer refl c.in-Ok.ensures.list_after

pub slice_bounds-print_paths-end : goal.slice_bounds-print_paths-end
slice_bounds-print_paths-end c =
    let r = (goal.at.slice_bounds-print_paths-end c).After-read in
    sym (length-take-le _ _ (count_inside c.args.sheet.now (bytes r) lent room c.in-Ok.ensures.answer refl c.in-Ok.ensures.list_after))

pub print_paths-requires-clause-accepted : goal.print_paths-requires-clause-accepted
print_paths-requires-clause-accepted c =
    let r = (goal.at.print_paths-requires-clause-accepted c).After-read in
    (numbers_accepted c.args.sheet.now (bytes r) lent room c.in-Ok.ensures.answer refl c.in-Ok.ensures.list_after).0

pub returns-in-Ok-clause-verdict : goal.returns-in-Ok-clause-verdict
returns-in-Ok-clause-verdict c =
    let r = (goal.at.returns-in-Ok-clause-verdict c).After-read in
    (accepted_output c.args.sheet.now (bytes r) lent room c.in-Ok.ensures.answer refl c.in-Ok.ensures.list_after c.print_paths.ensures).0

pub returns-in-Ok-clause-count : goal.returns-in-Ok-clause-count
returns-in-Ok-clause-count c =
    let r = (goal.at.returns-in-Ok-clause-count c).After-read in
    (accepted_output c.args.sheet.now (bytes r) lent room c.in-Ok.ensures.answer refl c.in-Ok.ensures.list_after c.print_paths.ensures).1

-- ---- a refused one

pub returns-in-Err-clause-verdict : goal.returns-in-Err-clause-verdict
returns-in-Err-clause-verdict c =
    let r = (goal.at.returns-in-Err-clause-verdict c).After-read in
    let line = c.put_line.ensures.put.0 ∙ ap (λ (n : ℕ). reached c.large_buffer-buffer.result 0 (named refused_word n ++ end)) c.number.ensures in
    (refused_output c.args.sheet.now (bytes r) lent room c.in-Err.ensures.answer (number_positive c.in-Err.refusal)
    c.large_buffer-buffer.result (sym c.large_buffer-buffer.ensures) line).0

pub returns-in-Err-clause-count : goal.returns-in-Err-clause-count
returns-in-Err-clause-count c =
    let r = (goal.at.returns-in-Err-clause-count c).After-read in
    let line = c.put_line.ensures.put.0 ∙ ap (λ (n : ℕ). reached c.large_buffer-buffer.result 0 (named refused_word n ++ end)) c.number.ensures in
    (refused_output c.args.sheet.now (bytes r) lent room c.in-Err.ensures.answer (number_positive c.in-Err.refusal)
    c.large_buffer-buffer.result (sym c.large_buffer-buffer.ensures) line).1
