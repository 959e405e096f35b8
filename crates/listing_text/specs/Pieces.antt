-- A listing piece by piece: a piece is one segment of a path, after the path's line where it is the first. Each segment is drawn as a path of
-- its own, shifted to its place, and joined without the start that stands already.
use Rattle.std.specs.Prelude.{cond, ℕ, zero, suc, ◌+◌, ◌-◌, ◌*◌, ◌^◌, ◌≤◌, ◌<◌, min, ◌≡◌, ltb, ℤ, length}
use mathlib.Core.List.{List, [], ◌∷◌, ◌++◌, map, tail}
use Rattle.rules.specs.Refusals.{refusal_or}
use Rattle.rules.specs.Rules.{sheet_finest}
use Rattle.entries.specs.declared.Entry.{Entry}
use Rattle.entries.specs.Entries.{entry_size, entries_in}
use Rattle.path.specs.Path.{Path}
use Rattle.path.specs.Entries.{entries}
use Rattle.path.specs.Joined.{alone, shifted}
use Rattle.path.specs.Answer.{measured, draw_refusal}
use Rattle.sheet.specs.Sheet.{list_head}
use Rattle.sheet.specs.NumberList.{number_at, path_at, path_end, sheet_of}
use Rattle.listing_text.specs.declared.Place.{Place}
use Rattle.listing_text.specs.Lines.{path_line, entry_lines}
use Rattle.listing_text.specs.Listing.{path_of}

-- the path whose numbers start at number `at` of l
abbrev pub path_in : List ℤ → ℕ → Path
path_in l at = path_of (sheet_of l) (path_at l at)

-- the segment at a place, as a path of its own
abbrev pub segment_at : List ℤ → Place → Path
segment_at l q = alone (path_in l q.at) q.segment

-- ---- the entries of a segment

-- numbers enough for a segment's list, which has at most 2^F + 1 entries; and for that of a sheet's path
abbrev pub segment_room : ℕ → ℕ
segment_room F = entry_size * (2 ^ F + 1)

abbrev pub segment_numbers : ℕ
segment_numbers = segment_room sheet_finest

-- a segment's list by itself, as far as it can be drawn into a list of `room` numbers
unfoldable pub segment_entries : Path → ℕ → ℕ → List Entry
segment_entries p k room = refusal_or (draw_refusal (alone p k) room) (λ _. []) (entries (alone p k))

-- without its start, but for the first segment
abbrev pub joining : ℕ → List Entry → List Entry
joining zero es = es
joining (suc k) es = tail es

-- what segment k adds to the path's list
unfoldable pub added : Path → ℕ → ℕ → List Entry
added p k room = joining k (map (shifted (2 ^ p.finest * k)) (segment_entries p k room))

-- ---- the text

-- entries `from` to `count` of a list of numbers, as those of segment k of a sheet's path
abbrev pub lines_in : List ℤ → ℕ → ℕ → ℕ → List ℕ
lines_in list from count k = entry_lines (map (shifted (2 ^ sheet_finest * k)) (entries_in list from (count - from)))

-- no piece is longer
abbrev pub text_size : ℕ
text_size = 65536

-- the path's line before its first segment
abbrev pub heading : ℕ → ℕ → Path → List ℕ
heading zero i p = path_line i (measured p)
heading (suc k) i p = []

abbrev pub heading_at : List ℤ → Place → List ℕ
heading_at l q = heading q.segment q.path (path_in l q.at)

unfoldable pub piece_text : List ℤ → Place → ℕ → List ℕ
piece_text l q room = heading_at l q ++ entry_lines (added (path_in l q.at) q.segment room)

-- the next segment of the path, or the next path
unfoldable pub next_place : List ℤ → Place → Place
next_place l q =
    cond (ltb (q.segment + 1) (number_at l q.at))
    (record { path = q.path; at = q.at; segment = q.segment + 1 })
    (record { path = q.path + 1; at = min (path_end l q.at) (length l); segment = 0 })

-- the first path's first segment
abbrev pub first_place : Place
first_place = record { path = 0; at = list_head; segment = 0 }

-- ---- the pieces of N paths, from a place on: the places that are reached one after another, until the last path has been listed

abbrev pub Visits : List ℤ → ℕ → Place → List Place → Type 0
Visits l N q [] = N ≤ q.path
Visits l N q (v ∷ vs) = (q ≡ v) × (q.path < N) × Visits l N (next_place l q) vs

unfoldable pub pieces_text : List ℤ → ℕ → List Place → List ℕ
pieces_text l room [] = []
pieces_text l room (q ∷ qs) = piece_text l q room ++ pieces_text l room qs
