-- Five runs of stores, each where the one before ends: the parts of the sheet's bytes.
use mathlib.Core.Path.{◌≡◌}
use mathlib.Core.List.{List}
use Prim.Native.Nat.{ℕ, ◌+◌, ◌-◌}
use native.Mathlib.Omega.{arith}
use lib.IntN.{ℤ}
use lib.ListN.{length, take, drop}
use lib.Seq.{sets}
use Rattle.std.proofs.lemmas.Slice.{between_to_end}
use Rattle.numbers.proofs.Buffers.{sets_append}
use Rattle.sheet.specs.Bytes.{le32, value_bytes}
use Rattle.sheet.specs.Sheet.{least_bytes, list_head, head_size, offsets, sheet_bytes}
use Rattle.sheet.specs.NumberList.{number_at, paths_at, sheet_of}
use Rattle.sheet.specs.Writing.{Parted}
use Rattle.sheet.proofs.Sheets.{length_offsets}
use Rattle.sheet.proofs.NumberList.{count_paths}
use Rattle.sheet.proofs.Writing.{listed, paths_short}
use Rattle.writing.proofs.Flat.{bytes_flat}
use Rattle.writing.proofs.fill_sheet.Goals as goal

-- ---- the five runs

runs : (l : List ℤ) (sheet : List ℕ) → Parted l
    → let N = number_at l 0 in
    let head = sets (sets (sets sheet 0 (le32 N)) 4 (le32 (number_at l 1))) 8 (le32 (number_at l 2)) in
    sets (sets head least_bytes (offsets (head_size N) (paths_at l N list_head))) (head_size N) (value_bytes (drop list_head l)) ≡ sets sheet 0 (sheet_bytes (sheet_of l))
runs l sheet parted =
    let N = number_at l 0 in
    let places = offsets (head_size N) (paths_at l N list_head) in
    let end : least_bytes + length places ≡ head_size N =
    omega (arith, length_offsets (head_size N) (paths_at l N list_head), count_paths l N list_head) in
    rw (bytes_flat l parted, sets_append _ least_bytes places (value_bytes (drop list_head l)), end)

-- with the numbers that were read, and the sheet after each run
filled : (l : List ℤ) (sheet : List ℕ) → Parted l → {n upper lower p : ℕ} {s₁ s₂ s₃ s₄ s₅ : List ℕ}
    → n ≡ number_at l 0 → upper ≡ number_at l 1 → lower ≡ number_at l 2 → p ≡ head_size n
    → s₁ ≡ sets sheet 0 (le32 n) → s₂ ≡ sets s₁ 4 (le32 upper) → s₃ ≡ sets s₂ 8 (le32 lower)
    → s₄ ≡ sets s₃ least_bytes (offsets (head_size n) (paths_at l n list_head)) → s₅ ≡ sets s₄ p (value_bytes (drop list_head l))
    → s₅ ≡ sets sheet 0 (sheet_bytes (sheet_of l))
filled l sheet parted n upper lower p e₁ e₂ e₃ e₄ e₅ = rw (e₅, e₄, e₃, e₂, e₁, p, n, upper, lower) (runs l sheet parted)

-- the numbers after the first three
after_head : (l : List ℤ) → take (length l - list_head) (drop list_head l) ≡ drop list_head l
after_head l = between_to_end l list_head (length l) (omega arith)

-- ---- an accepted list

pub put_offsets-requires-clause-accepted : goal.put_offsets-requires-clause-accepted
put_offsets-requires-clause-accepted c = rw c.number_at-paths.ensures (listed _ c.requires.accepted).parted.2

pub put_values-requires-clause-short : goal.put_values-requires-clause-short
put_values-requires-clause-short c =
    let l = c.args.numbers.now in
    let parted = (listed _ c.requires.accepted).parted in
    rw (after_head l) (paths_short l _ list_head parted.0 parted.2)

pub returns : goal.returns
returns c =
    filled c.args.numbers.now _ (listed _ c.requires.accepted).parted
    c.number_at-paths.ensures c.number_at.ensures c.number_at-2.ensures c.head_size.ensures
    c.put_u32.ensures c.put_u32-2.ensures c.put_u32-3.ensures c.put_offsets.ensures (rw (after_head c.args.numbers.now) at c.put_values.ensures)
