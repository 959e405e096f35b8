-- The sheet that a number list makes: count, upper, lower, and the paths one after another.
use Rattle.std.specs.Prelude.{List, [], ◌∷◌, ℕ, zero, suc, ◌+◌, ℤ, pos, get_or, take, drop}
use Rattle.rules.specs.declared.Marked.{Marked}
use Rattle.rules.specs.Rules.{point_numbers, natural, marked}
use Rattle.sheet.specs.Sheet.{Target, Sheet, list_head, path_head}

abbrev pub number_at : List ℤ → ℕ → ℕ
number_at l i = natural (get_or l i (pos 0))

-- what the mark of the path at i says: its degree and its start level
abbrev pub path_mark : List ℤ → ℕ → Marked
path_mark l i = marked (number_at l (i + 1))

-- so many numbers its points have
abbrev pub path_point_numbers : List ℤ → ℕ → ℕ
path_point_numbers l i = point_numbers (path_mark l i).degree (number_at l i)

-- the path at i
unfoldable pub path_at : List ℤ → ℕ → Target
path_at l i =
    record {
      degree = (path_mark l i).degree;
      segments = number_at l i;
      level = (path_mark l i).level;
      points = take (path_point_numbers l i) (drop (i + path_head) l);
    }

-- where it ends
abbrev pub path_end : List ℤ → ℕ → ℕ
path_end l i = i + path_head + path_point_numbers l i

-- n paths, the first at i
unfoldable pub paths_at : List ℤ → ℕ → ℕ → List Target
paths_at l zero i = []
paths_at l (suc n) i = path_at l i ∷ paths_at l n (path_end l i)

unfoldable pub sheet_of : List ℤ → Sheet
sheet_of l = record { upper = number_at l 1; lower = number_at l 2; paths = paths_at l (number_at l 0) list_head }
