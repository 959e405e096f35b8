-- What a call answers, as numbers: the refusal, 0 for none, and the drawing, which a refusal has too.
use Rattle.std.specs.Prelude.{ℕ, Result, Ok, Err}
use Rattle.rules.specs.Numbered.{number}
use Rattle.engine.specs.declared.Drawing.{Drawing}
use Rattle.engine.specs.declared.Refused.{Refused}

pub record Moved : Type 0 where
  pub refusal : ℕ
  pub drawing : Drawing

abbrev pub answered : Result Drawing Refused → Moved
answered (Ok d) = record { refusal = 0; drawing = d }
answered (Err r) = record { refusal = number r.refusal; drawing = r.drawing }
