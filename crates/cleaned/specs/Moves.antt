-- Moves from one entry to the next. A pixel is x and y: neither the position nor the width is part of it.
use Rattle.std.specs.Prelude.{◌≡◌, Bool, true, false, ℤ}
use Rattle.numbers.specs.Tests.{eqbℤ}
use Rattle.entries.specs.declared.Entry.{Entry}
use Rattle.cleaned.specs.declared.Move.{Move}
use Rattle.cleaned.specs.declared.Move.TheVariants.{Stays, AlongX, AlongY, Diagonal}

-- by whether x is the same, and whether y is
abbrev pub made : Bool → Bool → Move
made true true = Stays
made true false = AlongY
made false true = AlongX
made false false = Diagonal

unfoldable pub move : Entry → Entry → Move
move a b = made (eqbℤ a.x b.x) (eqbℤ a.y b.y)

abbrev pub stays : Move → Bool
stays Stays = true
stays AlongX = false
stays AlongY = false
stays Diagonal = false

abbrev pub is_along_x : Move → Bool
is_along_x Stays = false
is_along_x AlongX = true
is_along_x AlongY = false
is_along_x Diagonal = false

abbrev pub is_along_y : Move → Bool
is_along_y Stays = false
is_along_y AlongX = false
is_along_y AlongY = true
is_along_y Diagonal = false

abbrev pub same_pixel : Entry → Entry → Bool
same_pixel a b = stays (move a b)

-- one move along one axis, and one along the other, whichever way they go
unfoldable pub elbow : Move → Move → Bool
elbow Stays n = false
elbow AlongX n = is_along_y n
elbow AlongY n = is_along_x n
elbow Diagonal n = false

abbrev pub is_elbow : Entry → Entry → Entry → Bool
is_elbow a b c = elbow (move a b) (move b c)

-- ---- the same in numbers

abbrev pub keeps_x : Move → Bool
keeps_x Stays = true
keeps_x AlongX = false
keeps_x AlongY = true
keeps_x Diagonal = false

abbrev pub keeps_y : Move → Bool
keeps_y Stays = true
keeps_y AlongX = true
keeps_y AlongY = false
keeps_y Diagonal = false

abbrev pub Alike : Bool → ℤ → ℤ → Type 0
Alike true u v = u ≡ v
Alike false u v = u ≡ v → ⊥

pub record Moves (m : Move) (a b : Entry) : Type 0 where
  pub x : Alike (keeps_x m) a.x b.x
  pub y : Alike (keeps_y m) a.y b.y

abbrev pub SamePixel : Entry → Entry → Type 0
SamePixel = Moves Stays

pub data Elbow (a b c : Entry) : Type 0 where
  x_then_y : Moves AlongX a b → Moves AlongY b c → Elbow a b c
  y_then_x : Moves AlongY a b → Moves AlongX b c → Elbow a b c
