-- Along the entries of a segment: what holds at the end, is kept by halve and double, which show nothing, and by each step with its entry,
-- holds of the whole segment.
use mathlib.Core.Path.{◌≡◌, refl, sym, subst}
use mathlib.Core.List.{List, [], ◌∷◌, ◌++◌}
use Prim.Native.Nat.{ℕ, ◌^◌, ◌<◌}
use Rattle.operations.specs.ThreeRules.{Rule1}
use Rattle.operations.proofs.Choice.{by_rules}
use Rattle.engine.specs.declared.Drawing.{Drawing}
use Rattle.coordinate.specs.Registers.{Operation, halve, double, step, turn}
use Rattle.engine.specs.Drawing.{of, turned}
use Rattle.engine.specs.Choice.{chosen}
use Rattle.coordinate.specs.Shown.{pixel}
use Rattle.entries.specs.declared.Entry.{Entry}
use Rattle.path.specs.Path.{Path}
use Rattle.path.specs.Segment.{Turn, next}
use Rattle.path.specs.Entries.{entry, shown, shown_by, rest}
use Rattle.path.proofs.Turns.{along}
use Rattle.path.proofs.Segments.{Sound, of_inside, Held, held_next}

-- halve and double keep q and the point shown
halve_quiet : (F k : ℕ) (d : Drawing) → ((turned halve d).q ≡ d.q) × (entry F k (turned halve d) ≡ entry F k d)
unfolding turned turn entry pixel
halve_quiet F k d = (refl, refl)

double_quiet : (F k : ℕ) (d : Drawing) → ((turned double d).q ≡ d.q) × (entry F k (turned double d) ≡ entry F k d)
unfolding turned turn entry pixel
double_quiet F k d = (refl, refl)

module _ (p : Path) (k : ℕ) (sound : Sound p k) (P : Drawing → List Entry → Type 0)
    (end : (d : Drawing) → Held p k d → d.q ≡ 2 ^ p.finest → P d [])
    (quiet : (d d' : Drawing) → d'.q ≡ d.q → entry p.finest k d' ≡ entry p.finest k d → (es : List Entry) → P d' es → P d es)
    (stepped : (d : Drawing) → Held p k d → Held p k (turned step d) → d.q < 2 ^ p.finest → (Rule1 p.finest p.upper d.level (λ c. of c d) → ⊥) → (es : List Entry)
    → P (turned step d) es → P d (entry p.finest k (turned step d) ∷ es)) where
  abbrev F : ℕ
  F = p.finest

  turn_shown : (d : Drawing) → Held p k d → d.q < 2 ^ p.finest → (ts : List Turn) → P (next p.upper p.lower d) (shown_by F k ts)
      → P d (shown F k (chosen p.upper p.lower d) d ++ shown_by F k ts)
  turn_shown d held h ts =
      by_rules d.finest p.upper p.lower d.level d.q (λ c. of c d)
      (λ (op : Operation). Held p k (turned op d) → P (turned op d) (shown_by F k ts) → P d (shown F k op d ++ shown_by F k ts))
      (λ e held'. quiet d (turned halve d) (halve_quiet F k d).0 (halve_quiet F k d).1 (shown_by F k ts))
      (λ e f held'. quiet d (turned double d) (double_quiet F k d).0 (double_quiet F k d).1 (shown_by F k ts))
      (λ e f held'. stepped d held held' h (λ w. e (subst (λ (G : ℕ). Rule1 G p.upper d.level (λ c. of c d)) (sym held.on.finest) w)) (shown_by F k ts))
      (held_next p k sound d held h)

  pub walk : (d : Drawing) → Held p k d → P d (rest p k d)
  unfolding rest shown_by
  walk =
      along F p.upper p.lower (Held p k) (λ d held. held.on.finest) (λ d held. of_inside p k d held.on) (held_next p k sound)
      (λ d ts. P d (shown_by F k ts)) end turn_shown
