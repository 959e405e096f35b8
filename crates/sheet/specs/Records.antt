-- The sheet that stands in some bytes. Its records stand one after another; no offset is followed.
use Rattle.std.specs.Prelude.{List, [], ◌∷◌, ℕ, zero, suc, ◌+◌, ◌*◌}
use Rattle.rules.specs.declared.Marked.{Marked}
use Rattle.rules.specs.Rules.{point_numbers, marked}
use Rattle.sheet.specs.Bytes.{value_size, u16_at, u32_at, values_at}
use Rattle.sheet.specs.Sheet.{Target, Sheet, head_size, record_head}

-- what the mark of the record at p says: its degree and its start level
abbrev pub record_mark : List ℕ → ℕ → Marked
record_mark b p = marked (u16_at b (p + value_size))

-- so many numbers its points have
abbrev pub record_point_numbers : List ℕ → ℕ → ℕ
record_point_numbers b p = point_numbers (record_mark b p).degree (u16_at b p)

-- the record at p
unfoldable pub record_at : List ℕ → ℕ → Target
record_at b p =
    record {
      degree = (record_mark b p).degree;
      segments = u16_at b p;
      level = (record_mark b p).level;
      points = values_at b (p + record_head) (record_point_numbers b p);
    }

-- where it ends
abbrev pub record_end : List ℕ → ℕ → ℕ
record_end b p = p + record_head + value_size * record_point_numbers b p

-- n records, the first at p
unfoldable pub records_at : List ℕ → ℕ → ℕ → List Target
records_at b zero p = []
records_at b (suc n) p = record_at b p ∷ records_at b n (record_end b p)

unfoldable pub sheet_at : List ℕ → Sheet
sheet_at b =
    record {
      upper = u32_at b 4;
      lower = u32_at b 8;
      paths = records_at b (u32_at b 0) (head_size (u32_at b 0));
    }
