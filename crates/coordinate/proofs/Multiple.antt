-- m times a curve: its exact registers are m times as large.
use mathlib.Core.Path.{◌≡◌}
use Prim.Native.Nat.{ℕ, ◌*◌, ◌^◌}
use lib.IntN.{pos, ◌*ℤ◌}
use Rattle.numbers.proofs.Ring.{◌:+◌, ◌:*◌, ring}
use Rattle.coordinate.specs.Curve.{Curve, exact}
use Rattle.coordinate.proofs.Exact.{alpha_of, beta_of, chord_of, alpha_e, beta_e, chord_e}

abbrev pub times : ℕ → Curve → Curve
times m f = record { A = f.A *ℤ pos m; B = f.B *ℤ pos m; C = f.C *ℤ pos m; D = f.D *ℤ pos m }

module _ (m : ℕ) (f : Curve) where
  pub exact_times : (F q : ℕ) → exact F f q *ℤ pos m ≡ exact F (times m f) q
  unfolding exact
  exact_times F q =
      ring 9 (λ m A B C D Q R S U. (
        (A :* Q :+ B :* R :+ C :* S :+ D :* U) :* m,
        A :* m :* Q :+ B :* m :* R :+ C :* m :* S :+ D :* m :* U,
      )) tt (pos m) f.A f.B f.C f.D (pos (q * q * q)) (pos (q * q * 2 ^ F)) (pos (q * 2 ^ (2 * F))) (pos (2 ^ (3 * F)))

  pub alpha_times : (κ s : ℕ) → alpha_of κ f s *ℤ pos m ≡ alpha_of κ (times m f) s
  alpha_times κ s = ring 4 (λ m A κ s. (alpha_e κ A s :* m, alpha_e κ (A :* m) s)) tt (pos m) f.A (pos κ) (pos s)

  pub beta_times : (κ G s q : ℕ) → beta_of κ G f s q *ℤ pos m ≡ beta_of κ G (times m f) s q
  beta_times κ G s q =
      ring 7 (λ m A B κ G s q. (beta_e κ G A B s q :* m, beta_e κ G (A :* m) (B :* m) s q)) tt (pos m) f.A f.B (pos κ) (pos G) (pos s) (pos q)

  pub chord_times : (κ G s q : ℕ) → chord_of κ G f s q *ℤ pos m ≡ chord_of κ G (times m f) s q
  chord_times κ G s q =
      ring 8 (λ m A B C κ G s q. (chord_e κ G A B C s q :* m, chord_e κ G (A :* m) (B :* m) (C :* m) s q)) tt
      (pos m) f.A f.B f.C (pos κ) (pos G) (pos s) (pos q)
