-- The two ways of a call and of choosing: a refusal, and what comes where there is none.
use mathlib.Core.Path.{◌≡◌, sym, ap, ◌∙◌}
use Prim.Native.Nat.{ℕ}
use Rattle.std.specs.Prelude.{Ok}
use Rattle.rules.proofs.Refusals.{first_on, first_stop, refuses}
use Rattle.coordinate.specs.declared.Registers.{Registers}
use Rattle.coordinate.specs.Registers.{Operation, turn}
use Rattle.operations.specs.Position.{new_level, new_position}
use Rattle.operations.specs.Refusals.{call_refusal, registers_refusal}
use Rattle.engine.specs.declared.Drawing.{Drawing}
use Rattle.engine.specs.declared.place.Place.{Place}
use Rattle.engine.specs.Moved.{Moved}
use Rattle.engine.specs.Place.{Stands}
use Rattle.engine.specs.Drawing.{of, turned, refused, moved, landed, called}

pub call_refused : (op : Operation) (d : Drawing) {k : ℕ} → k ≡ call_refusal d.finest op d.level d.q → (k ≡ 0 → ⊥) → refused d k ≡ called op d
unfolding called
call_refused op d e h = refuses (refused d) _ (e ∙ sym (first_stop _ (registers_refusal (λ c. of c (turned op d))) (λ z. h (e ∙ z)))) h

call_landed : (op : Operation) (d : Drawing) → call_refusal d.finest op d.level d.q ≡ 0 → called op d ≡ landed d (turned op d)
unfolding called landed
call_landed op d e = ap (λ (k : ℕ). moved k d (turned op d)) (first_on _ (registers_refusal (λ c. of c (turned op d))) e)

-- where F, level and q let through, the coordinates that are turned there land
pub call_lands : (op : Operation) (d : Drawing) (at : Place) (x y width : Registers) (q : ℕ) (m : Moved)
    → Stands (call_refusal d.finest op d.level d.q) d.finest d.level d.q (Ok at)
    → x ≡ turn op at.level d.x → y ≡ turn op at.level d.y → width ≡ turn op at.level d.width
    → q ≡ new_position at.finest op at.level at.q
    → m ≡ landed d (record { finest = d.finest; level = new_level op at.level; q = q; x = x; y = y; width = width }) → m ≡ called op d
unfolding turned
call_lands op d at x y width q m s x-turned y-turned width-turned on l =
    let here : (r : Registers) → turn op at.level r ≡ turn op d.level r = λ r. ap (λ (n : ℕ). turn op n r) s.2 in
    let x-is = x-turned ∙ here _ in
    let y-is = y-turned ∙ here _ in
    let width-is = width-turned ∙ here _ in
    let q-is = on ∙ (λ i. new_position (s.1 i) op (s.2 i) (s.3 i)) in
    l
    ∙ (λ i. landed d (record { finest = d.finest; level = new_level op (s.2 i); q = q-is i; x = x-is i; y = y-is i; width = width-is i }))
    ∙ sym (call_landed op d s.0)
