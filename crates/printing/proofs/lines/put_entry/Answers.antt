-- Four numbers, each with what follows it.
use mathlib.Core.Path.{ap, ◌∙◌}
use native.Mathlib.Omega.{arith}
use mir.Syntax.{w32, w64}
use mir.Val.{SFits}
use mir.Facts.{to_z-of_z}
use Rattle.numbers.proofs.Machine.{reads_back, widens}
use Rattle.path.specs.Joined.{shifted}
use Rattle.text.proofs.Pieces.{gains_as, gains_both}
use Rattle.listing_text.specs.Lines.{space, end, followed, entry_line}
use Rattle.printing.proofs.lines.put_entry.Goals as goal

pub returns : goal.returns
unfolding entry_line shifted
returns c =
    let e = c.args.e in
    let x : SFits w32 e.x = record { sfits = omega arith } in
    let y : SFits w32 e.y = record { sfits = omega arith } in
    let width : SFits w32 e.width = record { sfits = omega arith } in
    let p = c.position_of in
    let at = ap (λ z. followed z space) (to_z-of_z {w = w64} (record { sfits = p.type_inv }) ∙ p.ensures) in
    let along = ap (λ z. followed z space) (reads_back (to_z-of_z x) (widens x)) in
    let down = ap (λ z. followed z space) (reads_back (to_z-of_z y) (widens y)) in
    let across = ap (λ z. followed z end) (reads_back (to_z-of_z width) (widens width)) in
    let two = gains_both (gains_as at c.put_followed.ensures) (gains_as along c.put_followed-2.ensures) in
    gains_both (gains_both two (gains_as down c.put_followed-3.ensures)) (gains_as across c.put_followed-4.ensures)
