-- What reading a sheet into room for every sheet leaves to be printed, and what printing then answers.
use mathlib.Core.Path.{◌≡◌, refl, sym, ap, ◌∙◌}
use mathlib.Core.List.{List, ◌++◌}
use Prim.Native.Nat.{ℕ, zero, suc, ◌≤◌}
use native.Mathlib.Omega.{arith}
use lib.IntN.{ℤ}
use lib.ListN.{length, take, drop, length-append}
use Rattle.sheet.specs.Bytes.{Bytes}
use Rattle.sheet.specs.Sheet.{most_numbers, sheet_bytes, sheet_numbers, Right}
use Rattle.sheet.specs.Records.{sheet_at}
use Rattle.sheet.specs.Reading.{sheet_refusal}
use Rattle.sheet.specs.NumberList.{sheet_of}
use Rattle.sheet.specs.Writing.{list_refusal}
use Rattle.sheet.specs.Answer.{Written, read_answer, numbers_read}
use Rattle.sheet.proofs.Room.{front_answered}
use Rattle.sheet.proofs.WritesBack.{writes_back}
use Rattle.sheet.proofs.RoundTrips.{read_accepted, right_read}
use Rattle.text.specs.Reached.{reached}
use Rattle.listing_text.specs.Lines.{refused_word, end, named, refused_line}
use Rattle.listing_text.specs.Pieces.{text_size}
use Rattle.listing_text.specs.Listing.{sheet_text, listing}
use Rattle.listing_text.proofs.Refused.{refused_by_the_sheet, refused_short, refused_listed}
use Rattle.printing.proofs.Coming.{all_of}

module _
    (b : List ℕ) (bs : Bytes b) (numbers : List ℤ) (room : length numbers ≡ most_numbers) {w : Written} (e : w ≡ read_answer b (length numbers))
  where
    refusal_is : w.refusal ≡ sheet_refusal b
    refusal_is = ap (λ (v : Written). v.refusal) e ∙ ap (λ (n : ℕ). (read_answer b n).refusal) room ∙ refused_by_the_sheet b bs

    -- ---- an accepted sheet: the numbers that the answer counts are the sheet's

    module _ (z : w.refusal ≡ 0) {after : List ℤ} (f : after ≡ numbers_read b numbers) where
      accepted : (read_answer b (length numbers)).refusal ≡ 0
      accepted = ap (λ (v : Written). v.refusal) (sym e) ∙ z

      right : Right (sheet_at b) × (sheet_bytes (sheet_at b) ≡ b) × (length (sheet_numbers (sheet_at b)) ≤ length numbers)
      right = read_accepted b (length numbers) bs accepted

      numbers_are : (w ≡ record { refusal = 0; count = length (sheet_numbers (sheet_at b)) })
          × (after ≡ sheet_numbers (sheet_at b) ++ drop (length (sheet_numbers (sheet_at b))) numbers)
      numbers_are =
          let r = rw right.1 at (right_read (sheet_at b) numbers right.0 right.2) in
          (e ∙ r.0, f ∙ r.1)

      pub numbers_taken : take w.count after ≡ sheet_numbers (sheet_at b)
      numbers_taken = front_answered _ numbers numbers_are

      pub count_inside : w.count ≤ length after
      count_inside = rw (numbers_are.0, numbers_are.1, length-append) (omega arith)

      pub numbers_accepted : (list_refusal (take w.count after) ≡ 0) × (length (take w.count after) ≤ most_numbers)
      numbers_accepted = rw numbers_taken ((writes_back (sheet_at b) right.0).1, omega (arith, right.2, room))

      -- the answer of printing them
      pub accepted_output : {refusal count : ℕ} → (refusal ≡ 0) × (count ≡ length (sheet_text (sheet_of (take w.count after))))
          → (refusal ≡ sheet_refusal b) × (count ≡ length (listing b))
      unfolding listing
      accepted_output n =
          let none = sym refusal_is ∙ z in
          (n.0 ∙ sym none, n.1 ∙ rw (numbers_taken, (writes_back (sheet_at b) right.0).0, none))

    -- ---- a refused one: its line

    pub refused_output : (w.refusal ≡ 0 → ⊥) → {count : ℕ} (t : List ℕ) → length t ≡ text_size
        → count ≡ reached t 0 (named refused_word w.refusal ++ end) → (w.refusal ≡ sheet_refusal b) × (count ≡ length (listing b))
    unfolding refused_line
    refused_output h t size n =
        (refusal_is, n ∙ rw refusal_is (of (sheet_refusal b) refl (λ z. h (refusal_is ∙ z))))
      where
        of : (k : ℕ) → sheet_refusal b ≡ k → (k ≡ 0 → ⊥) → reached t 0 (named refused_word k ++ end) ≡ length (listing b)
        of zero q h = absurd (h refl)
        of (suc k) q h = rw (refused_listed b k q) (all_of t (refused_line (suc k)) size (refused_short b k bs q))
