-- After its start the list of an accepted path has the point after each step that choosing names, in order, and nothing else.
use mathlib.Core.Path.{◌≡◌, refl, sym, ap, ap₂, ◌∙◌, subst}
use mathlib.Core.List.{List, ◌∷◌, ◌++◌, map, append-nil, append_assoc}
use Prim.Native.Nat.{ℕ, zero, suc, ◌+◌, ◌^◌, ◌<◌}
use native.Mathlib.Nat.{add-zero, zero-add, le_refl}
use native.Mathlib.Omega.{arith}
use Rattle.coordinate.specs.Registers.{Operation, halve, double, step}
use Rattle.engine.specs.declared.Drawing.{Drawing}
use Rattle.engine.specs.Moved.{Moved}
use Rattle.engine.specs.Drawing.{turned, called}
use Rattle.engine.specs.Choice.{chosen}
use Rattle.engine.specs.Shown.{point}
use Rattle.distance.proofs.Choice.{choice_answers, chosen_accepted}
use Rattle.entries.specs.declared.Entry.{Entry}
use Rattle.path.specs.Path.{Path, path_refusal, first}
use Rattle.path.specs.Segment.{Turn, turns}
use Rattle.path.specs.Entries.{entry, shown, shown_by, rest, following}
use Rattle.path.specs.Steps.{Goes, after_steps, shown_at, in_order}
use Rattle.path.specs.Listed.{begins}
use Rattle.path.proofs.Segments.{Of, Sound, fits, begun_first, of_inside, of_next}
use Rattle.path.proofs.Turns.{along}

-- ---- one segment

abbrev operations : List Turn → List Operation
operations ts = map (λ (t : Turn). t.operation) ts

-- the operations from d on, and their points
record Walked (p : Path) (k : ℕ) (d : Drawing) (ts : List Turn) : Type 0 where
  goes : Goes p.upper p.lower d (operations ts)
  points : shown_by p.finest k ts ≡ map (shown_at p.finest k) (after_steps (operations ts) d)

module _ (p : Path) (k : ℕ) where
  abbrev F : ℕ
  F = p.finest

  -- position 2^F·k + q, x of x, y of y and the width of the width
  entry_shown : (d : Drawing) → entry F k d ≡ shown_at F k d
  unfolding entry point
  entry_shown d = refl

  -- a step adds its point, halve and double none
  one_more : (op : Operation) (d : Drawing) (ops : List Operation) (es : List Entry) → (called op d).drawing ≡ turned op d
      → es ≡ map (shown_at F k) (after_steps ops (turned op d)) → shown F k op d ++ es ≡ map (shown_at F k) (after_steps (op ∷ ops) d)
  one_more halve d ops es e h = rw e h
  one_more double d ops es e h = rw e h
  one_more step d ops es e h = rw e (ap₂ ◌∷◌ (entry_shown (turned step d)) h)

  walked : Sound p k → (d : Drawing) → Of p k d → Walked p k d (turns p.upper p.lower d)
  unfolding shown_by
  walked s =
      along F p.upper p.lower (Of p k) (λ d on. on.finest) (of_inside p k) (of_next p k) (Walked p k)
      (λ d on e. record { goes = e ∙ ap (λ (G : ℕ). 2 ^ G) (sym on.finest); points = refl })
      (λ d on b ts w.
      let op = chosen p.upper p.lower d in
      let accepted = chosen_accepted F _ d on p.upper p.lower (fits p k s) b in
      let reached = ap (λ (m : Moved). m.drawing) accepted in
      record {
        goes = (
          choice_answers F _ d on p.upper p.lower s.limits b,
          ap (λ (m : Moved). m.refusal) accepted,
          subst (λ (d' : Drawing). Goes p.upper p.lower d' (operations ts)) (sym reached) w.goes,
        );
        points = one_more op d (operations ts) (shown_by F k ts) reached w.points;
      })

-- ---- all segments

in_order_same : (m : ℕ) (f g : ℕ → List Entry) → ((k : ℕ) → k < m → f k ≡ g k) → in_order m f ≡ in_order m g
in_order_same zero f g h = refl
in_order_same (suc m) f g h = ap₂ ◌++◌ (in_order_same m f g (λ k l. h k (omega arith))) (h m (le_refl (suc m)))

module _ (p : Path) where
  abbrev start : ℕ → Drawing
  start k = first p.degree p.finest p.points p.level k

  abbrev part : ℕ → List Entry
  part k = rest p k (start k)

  following_more : (m k : ℕ) → following p k (suc m) ≡ following p k m ++ part (k + m)
  unfolding following
  following_more zero k = append-nil (part k) ∙ ap part (sym (add-zero k))
  following_more (suc m) k =
      let n : k + 1 + m ≡ k + suc m = omega arith in
      ap (λ (es : List Entry). part k ++ es) (following_more m (k + 1) ∙ ap (λ (j : ℕ). following p (k + 1) m ++ part j) n)
      ∙ sym (append_assoc (part k) (following p (k + 1) m) (part (k + suc m)))

  following_parts : (m : ℕ) → following p 0 m ≡ in_order m part
  unfolding following
  following_parts zero = refl
  following_parts (suc m) = following_more m 0 ∙ ap₂ ◌++◌ (following_parts m) (ap part (zero-add m))

  -- the operations of segment k
  pub calls : ℕ → List Operation
  calls k = operations (turns p.upper p.lower (begins p k))

  module _ (good : (k : ℕ) → k < p.segments → Sound p k) (e : path_refusal p ≡ 0) where
    begun : (k : ℕ) → k < p.segments → begins p k ≡ start k
    begun k l = ap (λ (m : Moved). m.drawing) (begun_first p e k l)

    begun_walked : (k : ℕ) → k < p.segments → Walked p k (begins p k) (turns p.upper p.lower (begins p k))
    begun_walked k l = walked p k (good k l) (begins p k) (subst (Of p k) (sym (begun k l)) (good k l).first)

    pub calls_go : (k : ℕ) → k < p.segments → Goes p.upper p.lower (begins p k) (calls k)
    unfolding calls
    calls_go k l = (begun_walked k l).goes

    pub following_steps : following p 0 p.segments ≡ in_order p.segments (λ k. map (shown_at p.finest k) (after_steps (calls k) (begins p k)))
    unfolding rest calls
    following_steps =
        following_parts p.segments
        ∙ in_order_same p.segments part (λ k. map (shown_at p.finest k) (after_steps (calls k) (begins p k)))
        (λ k l. ap (rest p k) (sym (begun k l)) ∙ (begun_walked k l).points)
