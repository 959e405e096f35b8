-- The lines of a listing, in ASCII, each with its end.
use Rattle.std.specs.Prelude.{List, [], ◌∷◌, ◌++◌, ℕ, ℤ}
use Rattle.text.specs.Decimal.{decimal, numeral}
use Rattle.entries.specs.declared.Entry.{Entry}
use Rattle.path.specs.Answer.{Drawn}

-- "paths ", "path ", " points ", " length ", "refused "
abbrev pub paths_word : List ℕ
paths_word = 112 ∷ 97 ∷ 116 ∷ 104 ∷ 115 ∷ 32 ∷ []

abbrev pub path_word : List ℕ
path_word = 112 ∷ 97 ∷ 116 ∷ 104 ∷ 32 ∷ []

abbrev pub points_word : List ℕ
points_word = 32 ∷ 112 ∷ 111 ∷ 105 ∷ 110 ∷ 116 ∷ 115 ∷ 32 ∷ []

abbrev pub length_word : List ℕ
length_word = 32 ∷ 108 ∷ 101 ∷ 110 ∷ 103 ∷ 116 ∷ 104 ∷ 32 ∷ []

abbrev pub refused_word : List ℕ
refused_word = 114 ∷ 101 ∷ 102 ∷ 117 ∷ 115 ∷ 101 ∷ 100 ∷ 32 ∷ []

abbrev pub space : List ℕ
space = 32 ∷ []

abbrev pub end : List ℕ
end = 10 ∷ []

-- a number after its word, and a number before what divides it from the next
unfoldable pub named : List ℕ → ℕ → List ℕ
named word n = word ++ decimal n

unfoldable pub followed : ℤ → List ℕ → List ℕ
followed z mark = numeral z ++ mark

-- paths N
unfoldable pub paths_line : ℕ → List ℕ
paths_line N = named paths_word N ++ end

-- path I points P length G
unfoldable pub path_line : ℕ → Drawn → List ℕ
path_line i d = named path_word i ++ named points_word d.points ++ named length_word d.length ++ end

-- position, x, y, width
unfoldable pub entry_line : Entry → List ℕ
entry_line e = followed e.position space ++ followed e.x space ++ followed e.y space ++ followed e.width end

unfoldable pub entry_lines : List Entry → List ℕ
entry_lines [] = []
entry_lines (e ∷ es) = entry_line e ++ entry_lines es

-- refused R
unfoldable pub refused_line : ℕ → List ℕ
refused_line k = named refused_word k ++ end
