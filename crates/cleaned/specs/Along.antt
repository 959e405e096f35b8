-- What is said of a list and its cleaned one: of neighbours and of three in a row, of one list within another, of the search from the front, and of
-- what becomes of an entry.
use Rattle.std.specs.Prelude.{◌≡◌, List, [], ◌∷◌, ◌++◌}
use Rattle.entries.specs.declared.Entry.{Entry}
use Rattle.entries.specs.Entries.{Among, Linked}
use Rattle.cleaned.specs.Moves.{SamePixel, Elbow}
use Rattle.cleaned.specs.Cleaned.{runs, cleaned}

-- of neighbouring entries of a list
abbrev pub Chained : (Entry → Entry → Type 0) → List Entry → Type 0
Chained R [] = Unit
Chained R (e ∷ es) = Linked R e es

abbrev pub Differs : Entry → Entry → Type 0
Differs e f = SamePixel e f → ⊥

-- no three neighbours are an elbow, from a and b on
abbrev pub ElbowlessFrom : Entry → Entry → List Entry → Type 0
ElbowlessFrom a b [] = Unit
ElbowlessFrom a b (c ∷ es) = (Elbow a b c → ⊥) × ElbowlessFrom b c es

abbrev pub ElbowlessAfter : Entry → List Entry → Type 0
ElbowlessAfter a [] = Unit
ElbowlessAfter a (b ∷ es) = ElbowlessFrom a b es

abbrev pub Elbowless : List Entry → Type 0
Elbowless [] = Unit
Elbowless (a ∷ es) = ElbowlessAfter a es

-- the first entry shows the pixel of e
pub record StartsAt (e : Entry) (es : List Entry) : Type 0 where
  pub first : Entry
  pub later : List Entry
  pub split : es ≡ first ∷ later
  pub pixel : SamePixel e first

-- some of the entries, in their order
pub data Within : List Entry → List Entry → Type 0 where
  done : Within [] []
  skips : {e : Entry} {xs ys : List Entry} → Within xs ys → Within xs (e ∷ ys)
  keeps : {e : Entry} {xs ys : List Entry} → Within xs ys → Within (e ∷ xs) (e ∷ ys)

-- The search for elbows, in the order's words, of what it makes of a list. The first entry is kept; where it, the next and the one after are an
-- elbow, the middle goes and the one after is kept next; else the next is.
pub record FromTheFront (f : List Entry → List Entry) : Type 0 where
  pub none : f [] ≡ []
  pub one : (a : Entry) → f (a ∷ []) ≡ a ∷ []
  pub two : (a b : Entry) → f (a ∷ b ∷ []) ≡ a ∷ b ∷ []
  pub elbow : (a b c : Entry) (es : List Entry) → Elbow a b c → f (a ∷ b ∷ c ∷ es) ≡ a ∷ f (c ∷ es)
  pub next : (a b c : Entry) (es : List Entry) → (Elbow a b c → ⊥) → f (a ∷ b ∷ c ∷ es) ≡ a ∷ f (b ∷ c ∷ es)

-- xs stand in es, side by side
pub record Piece (xs es : List Entry) : Type 0 where
  pub before : List Entry
  pub after : List Entry
  pub split : es ≡ before ++ (xs ++ after)

-- What becomes of an entry of es: it stays; or the entry before it or after it shows its pixel; or it is the middle of an elbow of the list without
-- repeats, and the elbow's ends stay, as neighbours.
pub data Fate (es : List Entry) (e : Entry) : Type 0 where
  kept : Among e (cleaned es) → Fate es e
  repeats : (f : Entry) → Piece (f ∷ e ∷ []) es → SamePixel f e → Fate es e
  repeated : (f : Entry) → Piece (e ∷ f ∷ []) es → SamePixel e f → Fate es e
  middle : (a c : Entry) → Piece (a ∷ e ∷ c ∷ []) (runs es) → Elbow a e c → Piece (a ∷ c ∷ []) (cleaned es) → Fate es e
