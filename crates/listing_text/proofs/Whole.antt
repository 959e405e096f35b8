-- The pieces of an accepted sheet, one after another from its first place on, are its listing, and none is cut.
use mathlib.Core.Path.{◌≡◌, ap, ◌∙◌}
use mathlib.Core.List.{List, ◌++◌}
use Prim.Native.Nat.{ℕ, ◌*◌, ◌≤◌}
use native.Mathlib.Omega.{arith}
use lib.ListN.{length}
use Rattle.numbers.specs.Tables.{All}
use Rattle.sheet.specs.Bytes.{Bytes}
use Rattle.sheet.specs.Sheet.{Sheet, list_head, sheet_numbers, Right}
use Rattle.sheet.specs.Records.{sheet_at}
use Rattle.sheet.specs.NumberList.{sheet_of}
use Rattle.sheet.specs.Reading.{sheet_refusal}
use Rattle.sheet.proofs.Writing.{listed}
use Rattle.sheet.proofs.ReadsOnly.{reads_only}
use Rattle.sheet.proofs.WritesBack.{writes_back}
use Rattle.listing_text.specs.declared.Place.{Place}
use Rattle.listing_text.specs.Lines.{paths_line}
use Rattle.listing_text.specs.Listing.{paths_text, sheet_text, listing}
use Rattle.listing_text.specs.Pieces.{segment_numbers, first_place, Visits, pieces_text}
use Rattle.listing_text.specs.Printed.{Printed}
use Rattle.listing_text.proofs.Fits.{Short, pieces_short, paths_line_short, uncut, pieces_uncut}
use Rattle.listing_text.proofs.Places.{Accepted, paths_accepted, path_places, paths_visited, paths_inside, places_few, paths-text}

-- the number list of a right sheet
sheet_accepted : (s : Sheet) → Right s → Accepted (sheet_numbers s) (length s.paths) list_head
unfolding sheet_numbers
sheet_accepted s r =
    let kept = listed (sheet_numbers s) (writes_back s r).1 in
    paths_accepted (sheet_numbers s) (length s.paths) list_head kept.limits kept.parted.0 kept.parted.2

sheet-text : (s : Sheet) → Right s
    → pieces_text (sheet_numbers s) segment_numbers (path_places (sheet_numbers s) 0 list_head (length s.paths)) ≡ paths_text s 0 s.paths
unfolding sheet_numbers sheet_of
sheet-text s r =
    paths-text (sheet_numbers s) segment_numbers (length s.paths) 0 list_head (sheet_accepted s r) (omega arith)
    ∙ ap (λ (t : Sheet). paths_text t 0 t.paths) (writes_back s r).0

-- the pieces of a right sheet, from its first place on
pub record Pieces (s : Sheet) : Type 0 where
  pub places : List Place
  pub visits : Visits (sheet_numbers s) (length s.paths) first_place places
  pub short : All (Short (sheet_numbers s)) places
  pub text : paths_line (length s.paths) ++ pieces_text (sheet_numbers s) segment_numbers places ≡ sheet_text s
  -- at most 64 segments a path
  pub few : length places ≤ 64 * length s.paths

pub sheet_pieces : (s : Sheet) → Right s → Pieces s
unfolding sheet_text
sheet_pieces s r =
    let l = sheet_numbers s in
    let N = length s.paths in
    let accepted = sheet_accepted s r in
    let places = path_places l 0 list_head N in
    record {
      places = places;
      visits = paths_visited l N N 0 list_head (omega arith) accepted;
      short = pieces_short l places (paths_inside l N 0 list_head (omega (arith, r.few)) accepted);
      text = rw (sheet-text s r);
      few = places_few l N 0 list_head accepted;
    }

pub printed : (b : List ℕ) → Bytes b → sheet_refusal b ≡ 0 → Printed b
unfolding listing
printed b bs e =
    let s = sheet_at b in
    let right = (reads_only b bs e).0 in
    let p = sheet_pieces s right in
    record {
      places = p.places;
      visits = p.visits;
      first = uncut _ (paths_line_short (length s.paths) right.few);
      each = pieces_uncut (sheet_numbers s) p.places p.short;
      text = rw e p.text;
    }
