-- Three sheets and their texts. Document 01's path A, with widths 0, fixes the words of the lines, the order of the numbers, and the places of the
-- entries; the second what it leaves open: the limits, start levels and numbers of several paths, widths, a join, and numbers below 0; the third
-- that a quadratic path is listed as one. The line of a refused sheet is in proofs/Refused.
use mathlib.Core.Path.{◌≡◌, refl}
use mathlib.Core.List.{List, [], ◌∷◌}
use Prim.Native.Nat.{ℕ}
use Rattle.rules.specs.Rules.{is_finest, reach, is_coordinate, are_neighbours, is_level, are_limits, is_segments, is_size, are_points, are_beside, are_chained, head_refusal, points_refusal, marked}
use Rattle.coordinate.specs.Curve.{curve}
use Rattle.coordinate.specs.Registers.{start_registers, turn}
use Rattle.coordinate.specs.Increment.{increment, doubled_increment}
use Rattle.coordinate.specs.Shown.{pixel}
use Rattle.operations.specs.Position.{is_aligned}
use Rattle.operations.specs.Choice.{wants_halve, wants_double, choose}
use Rattle.engine.specs.Drawing.{turned}
use Rattle.entries.specs.Length.{move_length, length_from, length_of}
use Rattle.path.specs.Path.{path_refusal, point_at, control, first}
use Rattle.path.specs.Segment.{turns_in, turns}
use Rattle.path.specs.Entries.{entry, shown_by, rest, following, entries}
use Rattle.path.specs.Answer.{measured}
use Rattle.sheet.specs.Bytes.{values_at}
use Rattle.sheet.specs.Records.{record_at, records_at, sheet_at}
use Rattle.sheet.specs.PathRules.{path_rules}
use Rattle.sheet.specs.Reading.{is_offset, body_refusal, record_refusal, records_refusal, sheet_refusal}
use Rattle.sheet.proofs.Example.{document_bytes}
use Rattle.text.specs.Decimal.{decimal_in, decimal, numeral}
use Rattle.listing_text.specs.Lines.{named, followed, paths_line, path_line, entry_line, entry_lines}
use Rattle.listing_text.specs.Listing.{path_text, paths_text, sheet_text, listing}

-- paths 1
-- path 0 points 5 length 3000
-- 0 0 0 0
-- 512 1 0 0
-- 1024 2 0 0
-- 1536 2 0 0
-- 2048 3 0 0
abbrev pub document_text : List ℕ
document_text =
    112 ∷ 97 ∷ 116 ∷ 104 ∷ 115 ∷ 32 ∷ 49 ∷ 10
    ∷ 112 ∷ 97 ∷ 116 ∷ 104 ∷ 32 ∷ 48
    ∷ 32 ∷ 112 ∷ 111 ∷ 105 ∷ 110 ∷ 116 ∷ 115 ∷ 32 ∷ 53
    ∷ 32 ∷ 108 ∷ 101 ∷ 110 ∷ 103 ∷ 116 ∷ 104 ∷ 32 ∷ 51 ∷ 48 ∷ 48 ∷ 48 ∷ 10
    ∷ 48 ∷ 32 ∷ 48 ∷ 32 ∷ 48 ∷ 32 ∷ 48 ∷ 10
    ∷ 53 ∷ 49 ∷ 50 ∷ 32 ∷ 49 ∷ 32 ∷ 48 ∷ 32 ∷ 48 ∷ 10
    ∷ 49 ∷ 48 ∷ 50 ∷ 52 ∷ 32 ∷ 50 ∷ 32 ∷ 48 ∷ 32 ∷ 48 ∷ 10
    ∷ 49 ∷ 53 ∷ 51 ∷ 54 ∷ 32 ∷ 50 ∷ 32 ∷ 48 ∷ 32 ∷ 48 ∷ 10
    ∷ 50 ∷ 48 ∷ 52 ∷ 56 ∷ 32 ∷ 51 ∷ 32 ∷ 48 ∷ 32 ∷ 48 ∷ 10
    ∷ []

-- Two paths under the limits 60,000 and 26,000: one of two segments from level 4, and one of one segment from level 2. Its bytes and its text are those
-- of the model in model/, which was written from the documents alone. In hex: 02000000 60ea0000 90650000, the count and the limits; 14000000 42000000, the
-- offsets; 02000400 and the points 0000ffff0900 feff01000c00 0000ffff0700 feff0000fdff feffffff0400 feff00000000 fefffffffbff; 01000200 and the points
-- 010001002800 000002001f00 020001001400 000002000a00.
abbrev pub second_bytes : List ℕ
second_bytes =
    2 ∷ 0 ∷ 0 ∷ 0 ∷ 96 ∷ 234 ∷ 0 ∷ 0 ∷ 144 ∷ 101 ∷ 0 ∷ 0
    ∷ 20 ∷ 0 ∷ 0 ∷ 0 ∷ 66 ∷ 0 ∷ 0 ∷ 0
    ∷ 2 ∷ 0 ∷ 4 ∷ 0
    ∷ 0 ∷ 0 ∷ 255 ∷ 255 ∷ 9 ∷ 0 ∷ 254 ∷ 255 ∷ 1 ∷ 0 ∷ 12 ∷ 0 ∷ 0 ∷ 0 ∷ 255 ∷ 255 ∷ 7 ∷ 0 ∷ 254 ∷ 255 ∷ 0 ∷ 0 ∷ 253 ∷ 255
    ∷ 254 ∷ 255 ∷ 255 ∷ 255 ∷ 4 ∷ 0 ∷ 254 ∷ 255 ∷ 0 ∷ 0 ∷ 0 ∷ 0 ∷ 254 ∷ 255 ∷ 255 ∷ 255 ∷ 251 ∷ 255
    ∷ 1 ∷ 0 ∷ 2 ∷ 0
    ∷ 1 ∷ 0 ∷ 1 ∷ 0 ∷ 40 ∷ 0 ∷ 0 ∷ 0 ∷ 2 ∷ 0 ∷ 31 ∷ 0 ∷ 2 ∷ 0 ∷ 1 ∷ 0 ∷ 20 ∷ 0 ∷ 0 ∷ 0 ∷ 2 ∷ 0 ∷ 10 ∷ 0
    ∷ []

-- paths 2
-- path 0 points 9 length 3414
-- 0 0 -1 9
-- 256 -1 0 10
-- 512 -1 0 10
-- 1024 -1 0 8
-- 1536 -1 0 4
-- 2048 -2 0 -3
-- 2560 -2 0 0
-- 3072 -2 0 1
-- 4096 -2 -1 -5
-- path 1 points 4 length 2000
-- 0 1 1 40
-- 512 1 1 33
-- 1024 1 2 25
-- 2048 0 2 10
abbrev pub second_text : List ℕ
second_text =
    112 ∷ 97 ∷ 116 ∷ 104 ∷ 115 ∷ 32 ∷ 50 ∷ 10
    ∷ 112 ∷ 97 ∷ 116 ∷ 104 ∷ 32 ∷ 48 ∷ 32 ∷ 112 ∷ 111 ∷ 105 ∷ 110 ∷ 116 ∷ 115 ∷ 32 ∷ 57 ∷ 32 ∷ 108 ∷ 101 ∷ 110 ∷ 103 ∷ 116 ∷ 104 ∷ 32 ∷ 51 ∷ 52 ∷ 49 ∷ 52 ∷ 10
    ∷ 48 ∷ 32 ∷ 48 ∷ 32 ∷ 45 ∷ 49 ∷ 32 ∷ 57 ∷ 10
    ∷ 50 ∷ 53 ∷ 54 ∷ 32 ∷ 45 ∷ 49 ∷ 32 ∷ 48 ∷ 32 ∷ 49 ∷ 48 ∷ 10
    ∷ 53 ∷ 49 ∷ 50 ∷ 32 ∷ 45 ∷ 49 ∷ 32 ∷ 48 ∷ 32 ∷ 49 ∷ 48 ∷ 10
    ∷ 49 ∷ 48 ∷ 50 ∷ 52 ∷ 32 ∷ 45 ∷ 49 ∷ 32 ∷ 48 ∷ 32 ∷ 56 ∷ 10
    ∷ 49 ∷ 53 ∷ 51 ∷ 54 ∷ 32 ∷ 45 ∷ 49 ∷ 32 ∷ 48 ∷ 32 ∷ 52 ∷ 10
    ∷ 50 ∷ 48 ∷ 52 ∷ 56 ∷ 32 ∷ 45 ∷ 50 ∷ 32 ∷ 48 ∷ 32 ∷ 45 ∷ 51 ∷ 10
    ∷ 50 ∷ 53 ∷ 54 ∷ 48 ∷ 32 ∷ 45 ∷ 50 ∷ 32 ∷ 48 ∷ 32 ∷ 48 ∷ 10
    ∷ 51 ∷ 48 ∷ 55 ∷ 50 ∷ 32 ∷ 45 ∷ 50 ∷ 32 ∷ 48 ∷ 32 ∷ 49 ∷ 10
    ∷ 52 ∷ 48 ∷ 57 ∷ 54 ∷ 32 ∷ 45 ∷ 50 ∷ 32 ∷ 45 ∷ 49 ∷ 32 ∷ 45 ∷ 53 ∷ 10
    ∷ 112 ∷ 97 ∷ 116 ∷ 104 ∷ 32 ∷ 49 ∷ 32 ∷ 112 ∷ 111 ∷ 105 ∷ 110 ∷ 116 ∷ 115 ∷ 32 ∷ 52 ∷ 32 ∷ 108 ∷ 101 ∷ 110 ∷ 103 ∷ 116 ∷ 104 ∷ 32 ∷ 50 ∷ 48 ∷ 48 ∷ 48 ∷ 10
    ∷ 48 ∷ 32 ∷ 49 ∷ 32 ∷ 49 ∷ 32 ∷ 52 ∷ 48 ∷ 10
    ∷ 53 ∷ 49 ∷ 50 ∷ 32 ∷ 49 ∷ 32 ∷ 49 ∷ 32 ∷ 51 ∷ 51 ∷ 10
    ∷ 49 ∷ 48 ∷ 50 ∷ 52 ∷ 32 ∷ 49 ∷ 32 ∷ 50 ∷ 32 ∷ 50 ∷ 53 ∷ 10
    ∷ 50 ∷ 48 ∷ 52 ∷ 56 ∷ 32 ∷ 48 ∷ 32 ∷ 50 ∷ 32 ∷ 49 ∷ 48 ∷ 10
    ∷ []

-- A quadratic path of two segments from level 0, x at 0, 1, 2 and then at 2, 4, 6, y and width 0 throughout: its text is reckoned by hand. In hex: 01000000
-- 00000100 00800000, the count and the limits; 10000000, the offset; 02000001, two segments and the mark 256; then the five points.
abbrev pub outline_bytes : List ℕ
outline_bytes =
    1 ∷ 0 ∷ 0 ∷ 0 ∷ 0 ∷ 0 ∷ 1 ∷ 0 ∷ 0 ∷ 128 ∷ 0 ∷ 0
    ∷ 16 ∷ 0 ∷ 0 ∷ 0
    ∷ 2 ∷ 0 ∷ 0 ∷ 1
    ∷ 0 ∷ 0 ∷ 0 ∷ 0 ∷ 0 ∷ 0 ∷ 1 ∷ 0 ∷ 0 ∷ 0 ∷ 0 ∷ 0 ∷ 2 ∷ 0 ∷ 0 ∷ 0 ∷ 0 ∷ 0 ∷ 4 ∷ 0 ∷ 0 ∷ 0 ∷ 0 ∷ 0 ∷ 6 ∷ 0 ∷ 0 ∷ 0 ∷ 0 ∷ 0
    ∷ []

-- paths 1
-- path 0 points 7 length 6000
-- 0 0 0 0
-- 1024 1 0 0
-- 2048 2 0 0
-- 2560 3 0 0
-- 3072 4 0 0
-- 3584 5 0 0
-- 4096 6 0 0
abbrev pub outline_text : List ℕ
outline_text =
    112 ∷ 97 ∷ 116 ∷ 104 ∷ 115 ∷ 32 ∷ 49 ∷ 10
    ∷ 112 ∷ 97 ∷ 116 ∷ 104 ∷ 32 ∷ 48 ∷ 32 ∷ 112 ∷ 111 ∷ 105 ∷ 110 ∷ 116 ∷ 115 ∷ 32 ∷ 55 ∷ 32 ∷ 108 ∷ 101 ∷ 110 ∷ 103 ∷ 116 ∷ 104 ∷ 32 ∷ 54 ∷ 48 ∷ 48 ∷ 48 ∷ 10
    ∷ 48 ∷ 32 ∷ 48 ∷ 32 ∷ 48 ∷ 32 ∷ 48 ∷ 10
    ∷ 49 ∷ 48 ∷ 50 ∷ 52 ∷ 32 ∷ 49 ∷ 32 ∷ 48 ∷ 32 ∷ 48 ∷ 10
    ∷ 50 ∷ 48 ∷ 52 ∷ 56 ∷ 32 ∷ 50 ∷ 32 ∷ 48 ∷ 32 ∷ 48 ∷ 10
    ∷ 50 ∷ 53 ∷ 54 ∷ 48 ∷ 32 ∷ 51 ∷ 32 ∷ 48 ∷ 32 ∷ 48 ∷ 10
    ∷ 51 ∷ 48 ∷ 55 ∷ 50 ∷ 32 ∷ 52 ∷ 32 ∷ 48 ∷ 32 ∷ 48 ∷ 10
    ∷ 51 ∷ 53 ∷ 56 ∷ 52 ∷ 32 ∷ 53 ∷ 32 ∷ 48 ∷ 32 ∷ 48 ∷ 10
    ∷ 52 ∷ 48 ∷ 57 ∷ 54 ∷ 32 ∷ 54 ∷ 32 ∷ 48 ∷ 32 ∷ 48 ∷ 10
    ∷ []

pub listings : (listing document_bytes ≡ document_text) × (listing second_bytes ≡ second_text) × (listing outline_bytes ≡ outline_text)
unfolding listing sheet_text paths_text path_text paths_line path_line entry_line entry_lines named followed decimal decimal_in numeral sheet_at records_at
    record_at values_at sheet_refusal records_refusal record_refusal body_refusal is_offset path_rules head_refusal points_refusal measured
    path_refusal is_segments is_size is_finest reach are_points are_chained are_beside is_coordinate are_neighbours is_level are_limits entries following rest shown_by
    entry turns turns_in choose wants_halve wants_double increment doubled_increment is_aligned turned turn pixel first control point_at
    start_registers curve move_length length_from length_of marked
listings = (refl, refl, refl)

pub document_listing : listing document_bytes ≡ document_text
document_listing = listings.0

pub second_listing : listing second_bytes ≡ second_text
second_listing = listings.1

pub outline_listing : listing outline_bytes ≡ outline_text
outline_listing = listings.2
