-- Registers of 64 bits, read as registers: what the operations hand over before it is known that they fit 32 bits.
use Rattle.std.specs.Prelude.{◌≡◌, true, false, Result, Ok, Err}
use Rattle.coordinate.specs.declared.Registers.{Registers}
use Rattle.coordinate.specs.Registers.{are_registers}
use Rattle.engine.specs.declared.turning.Wide.{Wide}

abbrev pub narrowed : Wide → Registers
narrowed w = record { a = w.a; b = w.b; c = w.c; d = w.d }

-- the same registers where they fit
abbrev pub Narrows : {E : Type 0} → Wide → Result Registers E → Type 0
Narrows w (Ok r) = (are_registers (narrowed w) ≡ true) × (r ≡ narrowed w)
Narrows w (Err e) = are_registers (narrowed w) ≡ false
