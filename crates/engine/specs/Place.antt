-- What is answered of a place: where no table refuses it, that of these three numbers, and otherwise by the number of the refusal.
use Rattle.std.specs.Prelude.{◌≡◌, ℕ, Result, Ok, Err}
use Rattle.rules.specs.declared.refused.Refusal.{Refusal}
use Rattle.rules.specs.Numbered.{number}
use Rattle.engine.specs.declared.place.Place.{Place}

-- by the number k, 0 for none, at finest level F, level n and position q
abbrev pub Stands : ℕ → ℕ → ℕ → ℕ → Result Place Refusal → Type 0
Stands k F n q (Ok at) = (k ≡ 0) × (at.finest ≡ F) × (at.level ≡ n) × (at.q ≡ q)
Stands k F n q (Err r) = number r ≡ k
