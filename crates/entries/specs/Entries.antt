-- A point list: its entries, and the entries as the numbers of a lent list.
use Rattle.std.specs.Prelude.{◌≡◌, cond, List, [], ◌∷◌, ◌++◌, ℕ, zero, suc, ◌+◌, ◌*◌, ◌/◌, ltb, ℤ, pos, length, get_or}
use Rattle.std.specs.Prelude.{Some, None, Option as Answer}
use Rattle.std.proofs.Math.Option.{Option, none, some}
use Rattle.entries.specs.declared.Entry.{Entry}

-- an entry is four numbers: position, x, y, width
abbrev pub entry_size : ℕ
entry_size = 4

abbrev pub numbers : Entry → List ℤ
numbers e = e.position ∷ e.x ∷ e.y ∷ e.width ∷ []

-- the numbers of all entries, one entry after another
unfoldable pub flat : List Entry → List ℤ
flat [] = []
flat (e ∷ es) = numbers e ++ flat es

-- ---- read back

-- entry i of a list of numbers
abbrev pub entry_of : List ℤ → ℕ → Entry
entry_of l i =
    record {
      position = get_or l (entry_size * i) (pos 0);
      x = get_or l (entry_size * i + 1) (pos 0);
      y = get_or l (entry_size * i + 2) (pos 0);
      width = get_or l (entry_size * i + 3) (pos 0);
    }

-- where the list reaches that far
unfoldable pub entry_at : List ℤ → ℕ → Option Entry
entry_at l i = cond (ltb i (length l / entry_size)) (some (entry_of l i)) none

-- an answer of the code as one of a definition
abbrev pub found : Answer Entry → Option Entry
found (Some e) = some e
found None = none

-- n entries, from entry i on
unfoldable pub entries_in : List ℤ → ℕ → ℕ → List Entry
entries_in l i zero = []
entries_in l i (suc n) = entry_of l i ∷ entries_in l (i + 1) n

-- ---- what holds all along a list

-- e is one of them
pub record Among (e : Entry) (es : List Entry) : Type 0 where
  pub before : List Entry
  pub after : List Entry
  pub split : es ≡ before ++ e ∷ after

-- of neighbouring entries, from e on
abbrev pub Linked : (Entry → Entry → Type 0) → Entry → List Entry → Type 0
Linked R e [] = Unit
Linked R e (f ∷ es) = R e f × Linked R f es

-- the last entry, e where nothing follows it
abbrev pub last_of : Entry → List Entry → Entry
last_of e [] = e
last_of e (f ∷ es) = last_of f es
