-- The tests of whole numbers: the same number, and the same numbers one after another.
use Rattle.std.specs.Prelude.{Bool, true, false, ◌&&◌, List, [], ◌∷◌, eqb, ℤ, pos, negsuc}

abbrev pub eqbℤ : ℤ → ℤ → Bool
eqbℤ (pos a) (pos b) = eqb a b
eqbℤ (pos a) (negsuc b) = false
eqbℤ (negsuc a) (pos b) = false
eqbℤ (negsuc a) (negsuc b) = eqb a b

abbrev pub eqbℤs : List ℤ → List ℤ → Bool
eqbℤs [] [] = true
eqbℤs [] (y ∷ ys) = false
eqbℤs (x ∷ xs) [] = false
eqbℤs (x ∷ xs) (y ∷ ys) = eqbℤ x y && eqbℤs xs ys
