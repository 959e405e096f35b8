-- The point shown is the whole number nearest to d / 65,536, halves upward.
use mathlib.Core.Path.{◌≡◌}
use lib.Dec.{lit<}
use lib.IntN.{ℤ, pos, ◌+ℤ◌, ◌-ℤ◌, ◌*ℤ◌}
use lib.Signed.{◌≤ℤ◌}
use Rattle.numbers.proofs.Ring.{#, ◌:+◌, ◌:-◌, ◌:*◌, ring}
use Rattle.numbers.proofs.Order.{nat, ◌⊕◌, gap, certified}
use Rattle.numbers.proofs.Floor.{floor_is}
use Rattle.numbers.proofs.Size.{Size, size_bounds}
use Rattle.coordinate.specs.declared.Registers.{Registers}
use Rattle.coordinate.specs.Shown.{pixel}

-- p, from half a unit below it up to what is left of a unit above
pub nearest : (r : Registers) (p : ℤ) → (pos 65536 *ℤ p -ℤ pos 32768) ≤ℤ r.d → r.d ≤ℤ (pos 65536 *ℤ p +ℤ pos 32767) → pixel r ≡ p
unfolding pixel
nearest r p low high =
    floor_is (r.d +ℤ pos 32768) p 65536 (lit< tt)
    (certified (ring 2 (λ d p. (d :+ # 32768 :- # 65536 :* p, d :- (# 65536 :* p :- # 32768))) tt r.d p) (gap low))
    (certified (ring 2 (λ d p. (# 65536 :* p :+ # 65536 :- # 1 :- (d :+ # 32768), # 65536 :* p :+ # 32767 :- d)) tt r.d p) (gap high))

-- wherever d is less than half a unit from it
pub shows : (r : Registers) (p : ℤ) → Size (r.d -ℤ pos 65536 *ℤ p) 32767 → pixel r ≡ p
shows r p s =
    let b = size_bounds s in
    nearest r p
    (certified (ring 2 (λ d p. (d :- (# 65536 :* p :- # 32768), (d :- # 65536 :* p :- (# 0 :- # 32767)) :+ # 1)) tt r.d p) (gap b.0 ⊕ nat 1))
    (certified (ring 2 (λ d p. (# 65536 :* p :+ # 32767 :- d, # 32767 :- (d :- # 65536 :* p))) tt r.d p) (gap b.1))
