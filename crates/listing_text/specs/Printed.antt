-- What is printed of an accepted sheet: its listing, piece after piece, and nothing is cut. A piece is put into a text of 65,536 bytes by way
-- of a list of 8,196 numbers, which has room for any segment, and what the text holds up to the count that is answered is written out.
use Rattle.std.specs.Prelude.{◌≡◌, List, ◌++◌, ℕ, length, take}
use Rattle.std.proofs.lemmas.List.Edits.{sets}
use Rattle.numbers.specs.Tables.{All}
use Rattle.sheet.specs.Sheet.{sheet_numbers}
use Rattle.sheet.specs.Records.{sheet_at}
use Rattle.text.specs.Reached.{reached}
use Rattle.listing_text.specs.declared.Place.{Place}
use Rattle.listing_text.specs.Lines.{paths_line}
use Rattle.listing_text.specs.Listing.{listing}
use Rattle.listing_text.specs.Pieces.{piece_text, first_place, Visits, pieces_text}

-- `piece`, put into any such text, is what is written out
abbrev pub Uncut : List ℕ → Type 0
Uncut piece = (t : List ℕ) → length t ≡ 65536 → take (reached t 0 piece) (sets t 0 piece) ≡ piece

pub record Printed (b : List ℕ) : Type 0 where
  -- the places of the pieces: from the first path and its first segment on, each where the one before leads, until no path is left
  pub places : List Place
  pub visits : Visits (sheet_numbers (sheet_at b)) (length (sheet_at b).paths) first_place places
  -- the line before them, and each of them, is written whole; together they are the listing
  pub first : Uncut (paths_line (length (sheet_at b).paths))
  pub each : All (λ q. Uncut (piece_text (sheet_numbers (sheet_at b)) q 8196)) places
  pub text : paths_line (length (sheet_at b).paths) ++ pieces_text (sheet_numbers (sheet_at b)) 8196 places ≡ listing b
