-- What `io::decimal` spells is `decimal`.
use mathlib.Core.Path.{◌∙◌}
use Rattle.text.proofs.Decimal.{decimal_digits}
use Rattle.text.proofs.Pieces.{gains_as}
use Rattle.text.proofs.Text.put_count.Goals as goal

pub returns : goal.returns
returns c =
    let d = c.decimal-k in
    gains_as (d.ensures.digits ∙ decimal_digits _ d.result d.ensures.len) c.put.ensures
