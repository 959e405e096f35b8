-- A refused sheet is listed by one line, "refused R", which is not cut: reading into room for every sheet refuses by the sheet alone.
use mathlib.Core.Path.{◌≡◌, refl, sym, ap, ◌∙◌}
use mathlib.Core.Bool.{true, false}
use mathlib.Core.List.{List, [], ◌∷◌, ◌++◌, map}
use Prim.Native.Nat.{ℕ, suc, ◌≤◌}
use native.Mathlib.Omega.{arith}
use lib.Dec.{leb, eqb, leb→le}
use lib.IntN.{pos}
use lib.ListN.{length, replicate, length-replicate}
use borrow.Author.Tests.{eqb-true, eqb-false}
use Rattle.numbers.proofs.Tables.{tested}
use Rattle.rules.proofs.Refusals.{among_all}
use Rattle.path.proofs.Turns.{by_test}
use Rattle.sheet.specs.Bytes.{Bytes}
use Rattle.sheet.specs.Sheet.{most_numbers, sheet_numbers}
use Rattle.sheet.specs.Records.{sheet_at}
use Rattle.sheet.specs.Reading.{sheet_refusal, read_refusal}
use Rattle.sheet.specs.Answer.{Written, read_table, read_answer}
use Rattle.sheet.proofs.Room.{room_refused}
use Rattle.sheet.proofs.RoundTrips.{room_for_every_sheet}
use Rattle.sheet.proofs.Demand1.{read_refuses_as_tabled}
use Rattle.text.specs.Decimal.{decimal_in, decimal}
use Rattle.listing_text.specs.Lines.{named, refused_line}
use Rattle.listing_text.specs.Listing.{listing}
use Rattle.listing_text.specs.Pieces.{text_size}
use Rattle.listing_text.specs.Printed.{Uncut}
use Rattle.listing_text.proofs.Fits.{refused_line_short, uncut}

-- reading into them refuses by the sheet alone
pub refused_by_the_sheet : (b : List ℕ) → Bytes b → (read_answer b most_numbers).refusal ≡ sheet_refusal b
unfolding read_answer read_refusal
refused_by_the_sheet b bs = by_test (eqb (sheet_refusal b) 0) accepted refused
  where
    accepted : eqb (sheet_refusal b) 0 ≡ true → (read_answer b most_numbers).refusal ≡ sheet_refusal b
    accepted e =
        let none = eqb-true (sheet_refusal b) 0 e in
        let room = replicate most_numbers (pos 0) in
        let enough : most_numbers ≤ length room = rw (length-replicate most_numbers (pos 0)) (omega arith) in
        let read = rw (length-replicate most_numbers (pos 0)) at (room_for_every_sheet b room bs none enough) in
        ap (λ (w : Written). w.refusal) read ∙ sym none

    refused : eqb (sheet_refusal b) 0 ≡ false → (read_answer b most_numbers).refusal ≡ sheet_refusal b
    refused e =
        let n = length (sheet_numbers (sheet_at b)) in
        ap (λ (w : Written). w.refusal) (room_refused (sheet_refusal b) n most_numbers (eqb-false (sheet_refusal b) 0 e))

pub refused_short : (b : List ℕ) (k : ℕ) → Bytes b → sheet_refusal b ≡ suc k → length (refused_line (suc k)) ≤ text_size
refused_short b k bs e =
    let tabled = rw (refused_by_the_sheet b bs, e) at (read_refuses_as_tabled b most_numbers) in
    let small = tested (λ n. n ≤ 17) (λ n. leb n 17) (λ n t. leb→le n 17 t) read_table tt in
    refused_line_short (suc k) (among_all (λ n. n ≤ 17) (suc k) read_table small tabled)

-- its listing is the one line
pub refused_listed : (b : List ℕ) (k : ℕ) → sheet_refusal b ≡ suc k → listing b ≡ refused_line (suc k)
unfolding listing
refused_listed b k e = rw e

pub printed_refused : (b : List ℕ) (k : ℕ) → Bytes b → sheet_refusal b ≡ suc k
    → (listing b ≡ refused_line (suc k)) × Uncut (refused_line (suc k))
printed_refused b k bs e = (refused_listed b k e, uncut _ (refused_short b k bs e))

-- ---- its words

-- "refused ", the digits, and the end of the line
abbrev refused_text : List ℕ → List ℕ
refused_text digits = 114 ∷ 101 ∷ 102 ∷ 117 ∷ 115 ∷ 101 ∷ 100 ∷ 32 ∷ (digits ++ (10 ∷ []))

-- of each number by which a sheet may be refused: `read_table` of sheet without 9, which is of the room
pub refused_texts : map refused_line (1 ∷ 2 ∷ 3 ∷ 4 ∷ 11 ∷ 12 ∷ 13 ∷ 14 ∷ 15 ∷ 16 ∷ [])
    ≡ map refused_text (
    (49 ∷ []) ∷ (50 ∷ []) ∷ (51 ∷ []) ∷ (52 ∷ [])
    ∷ (49 ∷ 49 ∷ []) ∷ (49 ∷ 50 ∷ []) ∷ (49 ∷ 51 ∷ []) ∷ (49 ∷ 52 ∷ []) ∷ (49 ∷ 53 ∷ []) ∷ (49 ∷ 54 ∷ []) ∷ []
    )
unfolding refused_line named decimal decimal_in
refused_texts = refl
