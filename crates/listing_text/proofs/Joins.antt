-- A path's entries, segment by segment: where there is room for a segment's list each segment of an accepted path is drawn whole, and what the
-- segments add, one after another, is the path's list.
use mathlib.Core.Path.{◌≡◌, refl}
use mathlib.Core.List.{List, [], ◌∷◌, ◌++◌, tail, append_assoc}
use Prim.Native.Nat.{ℕ, zero, suc, ◌+◌, ◌^◌, ◌≤◌, ◌<◌}
use native.Mathlib.Omega.{arith}
use lib.ListN.{length}
use Rattle.entries.specs.declared.Entry.{Entry}
use Rattle.path.specs.Path.{Path, path_refusal}
use Rattle.path.specs.Entries.{entries}
use Rattle.path.specs.Joined.{alone, placed, joins}
use Rattle.path.proofs.Refusals.{room_drawn}
use Rattle.path.proofs.Accepted.{accepted_lawful}
use Rattle.path.proofs.Joined.{joined, alone_accepted}
use Rattle.path.proofs.Listed.{listed}
use Rattle.listing_text.specs.Lines.{entry_lines}
use Rattle.listing_text.specs.Pieces.{segment_room, segment_entries, added}

-- ---- one segment

pub segment_few : (p : Path) (k : ℕ) → path_refusal p ≡ 0 → k < p.segments → length (entries (alone p k)) ≤ 2 ^ p.finest + 1
unfolding alone
segment_few p k e h = omega (arith, (listed (alone p k) (alone_accepted p k e h)).count)

pub segment_whole : (p : Path) (k room : ℕ) → path_refusal p ≡ 0 → k < p.segments → segment_room p.finest ≤ room
    → segment_entries p k room ≡ entries (alone p k)
unfolding segment_entries
segment_whole p k room e h r =
    rw (room_drawn (alone p k) room (alone_accepted p k e h) (omega (arith, segment_few p k e h)))

pub added_first : (p : Path) (room : ℕ) → path_refusal p ≡ 0 → 0 < p.segments → segment_room p.finest ≤ room → added p 0 room ≡ placed p 0
unfolding added placed
added_first p room e h r = rw (segment_whole p 0 room e h r)

pub added_later : (p : Path) (k room : ℕ) → path_refusal p ≡ 0 → suc k < p.segments → segment_room p.finest ≤ room
    → added p (suc k) room ≡ tail (placed p (suc k))
unfolding added placed
added_later p k room e h r = rw (segment_whole p (suc k) room e h r)

-- ---- the lines of the segments

lines_append : (es fs : List Entry) → entry_lines (es ++ fs) ≡ entry_lines es ++ entry_lines fs
unfolding entry_lines
lines_append [] fs = refl
lines_append (e ∷ es) fs = rw (lines_append es fs, append_assoc)

-- what m segments add, from the k-th on
unfoldable pub added_lines : Path → ℕ → ℕ → ℕ → List ℕ
added_lines p room k zero = []
added_lines p room k (suc m) = entry_lines (added p k room) ++ added_lines p room (k + 1) m

module _ (p : Path) (room : ℕ) (e : path_refusal p ≡ 0) (r : segment_room p.finest ≤ room) where
  joins_lines : (m k : ℕ) → 0 < k → k + m ≤ p.segments → entry_lines (joins p k m) ≡ added_lines p room k m
  unfolding entry_lines joins added_lines
  joins_lines zero k h l = refl
  joins_lines (suc m) zero h l = absurd (omega arith)
  joins_lines (suc m) (suc k) h l =
      rw (lines_append, added_later p k room e (omega arith) r, joins_lines m (suc k + 1) (omega arith) (omega arith))

  -- the lines of a path are those that its segments add
  pub path_lines : entry_lines (entries p) ≡ added_lines p room 0 p.segments
  unfolding added_lines
  path_lines = by_segments p.segments refl
    where
      by_segments : (S : ℕ) → p.segments ≡ S → entry_lines (entries p) ≡ added_lines p room 0 S
      by_segments zero f = absurd (omega (arith, (accepted_lawful p e).some))
      by_segments (suc m) f =
          rw (joined p m f, lines_append, added_first p room e (omega arith) r, joins_lines m 1 (omega arith) (omega arith))
