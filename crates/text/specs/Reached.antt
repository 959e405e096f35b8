-- What putting a piece does to a text: how far it is filled, and what its buffer holds.
use Rattle.std.specs.Prelude.{◌≡◌, List, ℕ, ◌+◌, min, length}
use Rattle.std.proofs.lemmas.List.Edits.{sets}
use Rattle.text.specs.declared.Text.{Text}

-- after `piece` from place `at` on: its end, or the end of the buffer where it is cut there
unfoldable pub reached : List ℕ → ℕ → List ℕ → ℕ
reached text at piece = min (at + length piece) (length text)

-- `piece` is put into buffer t from place `at` on: buffer u, up to place i
abbrev pub Put : List ℕ → ℕ → List ℕ → ℕ → List ℕ → Type 0
Put t at piece i u = (i ≡ reached t at piece) × (u ≡ sets t at piece)

-- it is put where a text stands, in the buffer that was lent to it
pub record Gains (before : Text) (piece : List ℕ) (after : Text) : Type 0 where
  pub put : Put before.bytes.now before.at piece after.at after.bytes.now
  pub lent : after.bytes.ghost_name ≡ before.bytes.ghost_name
