-- The drawer's loops, over plain values: one turn of the inner loop, and what each loop keeps.
use mathlib.Core.Path.{◌≡◌, refl, sym, ap, ◌∙◌, subst}
use mathlib.Core.List.{List, [], ◌∷◌, ◌++◌}
use mathlib.Core.Option.{Option, none, some, some-ne-none}
use Prim.Native.Nat.{ℕ, zero, suc, ◌+◌, ◌-◌, ◌*◌, ◌^◌, ◌≤◌, ◌<◌, zero-le}
use native.Mathlib.Nat.{le_refl, sub-zero}
use native.Mathlib.Omega.{arith}
use lib.Dec.{ltb}
use lib.IntN.{ℤ}
use lib.Pow.{pow_pos}
use lib.Seq.{sets}
use borrow.Author.Tests.{ltb-true, ltb-false}
use Rattle.std.specs.Prelude.{Result, IsOk}
use Rattle.numbers.proofs.Buffers.{stored_all}
use Rattle.rules.specs.Refusals.{refusal_or}
use Rattle.operations.specs.Coordinates.{in_x}
use Rattle.operations.specs.Position.{new_position}
use Rattle.operations.specs.Refusals.{choice_refusal}
use Rattle.operations.proofs.Gates.{choice_opens}
use Rattle.engine.specs.declared.Drawing.{Drawing}
use Rattle.engine.specs.declared.Refused.{Refused}
use Rattle.engine.specs.Moved.{Moved, answered}
use Rattle.coordinate.specs.Registers.{Operation, halve, double, step}
use Rattle.engine.specs.Drawing.{turned, called}
use Rattle.engine.specs.Choice.{chosen, Said, says, refused_by, choice, left}
use Rattle.distance.proofs.Choice.{choice_answers, chosen_accepted}
use Rattle.entries.specs.declared.Entry.{Entry}
use Rattle.entries.specs.Entries.{entry_size, numbers, flat}
use Rattle.drawer.specs.declared.Tally.{Tally}
use Rattle.rules.specs.declared.Limits.{Limits}
use Rattle.path.specs.declared.Shape.{Shape}
use Rattle.path.specs.Path.{Path, path, path_refusal}
use Rattle.path.specs.Segment.{next, turns}
use Rattle.path.specs.Entries.{entry, shown, shown_by, rest, following, entries}
use Rattle.drawer.specs.Tally.{first_at, Placed, Small, start, begun, added, added_all, tally}
use Rattle.path.proofs.Points.{position_most}
use Rattle.path.proofs.Segments.{Of, Sound, sound, fits, of_lies, of_next}
use Rattle.path.proofs.Turns.{by_test, next_falls, turns_end, turns_more}
use Rattle.drawer.proofs.Starts.{is_given, some_segment}
use Rattle.drawer.proofs.Due.{Due, due_here, due_then, due_by, due_shown, Few, few_small, few_most, few_more}

-- ---- what choosing answered

-- op was chosen, before the end
pub record Took (upper lower : ℕ) (op : Operation) (d : Drawing) : Type 0 where
  pub chosen : chosen upper lower d ≡ op
  pub before_end : d.q < 2 ^ d.finest

pub took : (upper lower : ℕ) (op : Operation) (d : Drawing) → choice upper lower d ≡ says op → Took upper lower op d
unfolding choice
took upper lower op d e = by_number (choice_refusal d.finest upper lower d.level d.q) refl e
  where
    meant : Option ℕ → Operation
    meant none = step
    meant (some zero) = halve
    meant (some (suc zero)) = double
    meant (some (suc (suc n))) = step

    means : (op : Operation) → meant (says op).operation ≡ op
    means halve = refl
    means double = refl
    means step = refl

    by_number : (k : ℕ) → choice_refusal d.finest upper lower d.level d.q ≡ k → refusal_or k refused_by (says (chosen upper lower d)) ≡ says op → Took upper lower op d
    by_number zero c e =
        record {
          chosen = sym (means (chosen upper lower d)) ∙ ap (λ (s : Said). meant s.operation) e ∙ means op;
          before_end = (choice_opens d.finest upper lower d.level d.q c).1.before_end;
        }
    by_number (suc k) c e = let f : suc k ≡ 0 = ap (λ (s : Said). s.refusal) e in let no : ⊥ = omega arith in absurd no

-- a refusal can only be 5: the segment has ended
pub refused_ends : (p : Path) (k : ℕ) → Sound p k → (d : Drawing) → Of p k d
    → (number : ℕ) → choice p.upper p.lower d ≡ record { refusal = number; operation = none } → 2 ^ p.finest ≤ d.q
refused_ends p k sound d kept number e =
    by_test (ltb d.q (2 ^ p.finest))
    (λ t.
    let f = ap (λ (s : Said). s.operation) (sym (choice_answers p.finest _ d kept p.upper p.lower sound.limits (ltb-true d.q (2 ^ p.finest) t)) ∙ e) in
    absurd (some-ne-none _ f))
    (λ t. ltb-false d.q (2 ^ p.finest) t)

-- ---- one turn: op was chosen at d, and the call answered m

module _ (p : Path) (k : ℕ) (sound : Sound p k) (op : Operation) (d : Drawing) (kept : Of p k d)
    (w : Took p.upper p.lower op d) (m : Moved) (c : m ≡ called op d) where
  abbrev F : ℕ
  F = p.finest

  before_end : d.q < 2 ^ F
  before_end = subst (λ (G : ℕ). d.q < 2 ^ G) kept.finest w.before_end

  turn_accepted : m ≡ record { refusal = 0; drawing = next p.upper p.lower d }
  turn_accepted = c ∙ ap (λ (o : Operation). called o d) (sym w.chosen) ∙ chosen_accepted F _ d kept p.upper p.lower (fits p k sound) before_end

  turn_next : m.drawing ≡ next p.upper p.lower d
  turn_next = ap (λ (r : Moved). r.drawing) turn_accepted

  turn_turned : m.drawing ≡ turned op d
  turn_turned = turn_next ∙ ap (λ (o : Operation). turned o d) w.chosen

  pub turn_kept : Of p k m.drawing
  turn_kept = subst (Of p k) (sym turn_next) (of_next p k d kept before_end)

  turn_falls : left p.upper m.drawing < left p.upper d
  turn_falls =
      subst (λ (e : Drawing). left p.upper e < left p.upper d) (sym turn_next)
      (next_falls p.upper p.lower d (of_lies p k d kept) w.before_end)

  turn_position : m.drawing.q ≡ new_position d.finest op d.level d.q
  unfolding turned
  turn_position = ap (λ (e : Drawing). e.q) turn_turned

  -- what op showed, and then the rest
  turn_rest : rest p k d ≡ shown F k op d ++ rest p k m.drawing
  unfolding rest shown_by
  turn_rest =
      ap (shown_by F k) (turns_more p.upper p.lower d (of_lies p k d kept) w.before_end)
      ∙ ap (λ (o : Operation). shown F k o d ++ shown_by F k (turns p.upper p.lower (next p.upper p.lower d))) w.chosen
      ∙ ap (λ (e : Drawing). shown F k op d ++ shown_by F k (turns p.upper p.lower e)) (sym turn_next)

-- ---- the inner loop

no_back : (F : ℕ) (op : Operation) (n q : ℕ) → q ≤ new_position F op n q
no_back F halve n q = le_refl q
no_back F double n q = le_refl q
no_back F step n q = omega arith

pub record Inner (p : Path) (k : ℕ) (after : List Entry) (l : List ℤ) (t : Tally) (d : Drawing)
    (l₀ : List ℤ) (t₀ : Tally) (d₀ : Drawing) : Type 0 where
  pub kept : Of p k d
  pub few : Few t (2 ^ p.finest * k + d.q + 1)
  pub due : Due l t (rest p k d ++ after) l₀ t₀ (rest p k d₀ ++ after)

module _ {p : Path} {k : ℕ} {after : List Entry} {l l₀ : List ℤ} {t t₀ : Tally} {d d₀ : Drawing}
    (i : Inner p k after l t d l₀ t₀ d₀) (sound : Sound p k) where
  pub inner_given : (op : Operation) → Took p.upper p.lower op d → (r : Result Drawing Refused) → answered r ≡ called op d → IsOk r
  inner_given op w r c = is_given r (ap (λ (m : Moved). m.refusal) (turn_accepted p k sound op d i.kept w _ c))

  pub inner_falls : (op : Operation) → Took p.upper p.lower op d → (m : Moved) → m ≡ called op d
      → left p.upper m.drawing < left p.upper d
  inner_falls op w m c = turn_falls p k sound op d i.kept w m c

  -- halve and double show nothing
  pub inner_quiet : (op : Operation) → shown p.finest k op d ≡ [] → Took p.upper p.lower op d → (m : Moved) → m ≡ called op d
      → Inner p k after l t m.drawing l₀ t₀ d₀
  inner_quiet op quiet w m c =
      let same : rest p k d ≡ rest p k m.drawing =
      turn_rest p k sound op d i.kept w m c ∙ ap (λ (es : List Entry). es ++ rest p k m.drawing) quiet in
      record {
        kept = turn_kept p k sound op d i.kept w m c;
        few = few_most i.few (omega (arith, turn_position p k sound op d i.kept w m c, no_back d.finest op d.level d.q));
        due = due_by (sym (ap (λ (es : List Entry). es ++ after) same)) i.due;
      }

  pub inner_step : Took p.upper p.lower step d → (m : Moved) → m ≡ called step d
      → let e = entry m.drawing.finest k m.drawing in Inner p k after (sets l (entry_size * t.totals.points) (numbers e)) (added t e) m.drawing l₀ t₀ d₀
  inner_step w m c =
      let e = entry m.drawing.finest k m.drawing in
      let one : rest p k d ≡ e ∷ rest p k m.drawing =
      turn_rest p k sound step d i.kept w m c
      ∙ ap (λ (n : Drawing). entry p.finest k n ∷ rest p k m.drawing) (sym (turn_turned p k sound step d i.kept w m c))
      ∙ ap (λ (G : ℕ). entry G k m.drawing ∷ rest p k m.drawing) (sym (turn_kept p k sound step d i.kept w m c).finest) in
      record {
        kept = turn_kept p k sound step d i.kept w m c;
        few = few_more t e i.few (omega (arith, turn_position p k sound step d i.kept w m c, pow_pos (d.finest - d.level)));
        due = due_shown (due_by (sym (ap (λ (es : List Entry). es ++ after) one)) i.due);
      }

-- a drawing of segment k has its place on the path, and so few points before it that one more fits
pub placed : (p : Path) (k : ℕ) (d : Drawing) → Of p k d → k < 64 → Placed d k
placed p k d on h =
    record {
      few = h;
      finest = subst (λ (G : ℕ). G ≤ 12) (sym on.finest) on.fine.most;
      within = subst (λ (G : ℕ). d.q ≤ 2 ^ G) (sym on.finest) (on.on in_x).within;
    }

-- and so has the drawing that a path starts from
pub start_placed : (points : List ℤ) (shape : Shape) (limits : Limits) → path_refusal (path points shape limits) ≡ 0
    → Placed (first_at (path points shape limits) 0) 0
start_placed points shape limits e =
    let p = path points shape limits in
    placed p 0 _ (sound p e 0 (some_segment points shape limits e)).first (omega arith)

pub room_left : (p : Path) (k : ℕ) (d : Drawing) {t : Tally} → Of p k d → k < 64 → Few t (2 ^ p.finest * k + d.q + 1) → Small t
room_left p k d on h f = few_small f (omega (arith, position_most p.finest k d.q on.fine.most h (on.on in_x).within))

-- after the last operation nothing is left
rest_end : (p : Path) (k : ℕ) (d : Drawing) → Of p k d → 2 ^ p.finest ≤ d.q → rest p k d ≡ []
unfolding rest shown_by
rest_end p k d kept h =
    ap (shown_by p.finest k) (turns_end p.upper p.lower d (subst (λ (G : ℕ). 2 ^ G ≤ d.q) (sym kept.finest) h))

-- ---- the outer loop

-- the segments from the k-th on
abbrev pub onward : Path → ℕ → List Entry
onward p k = following p k (p.segments - k)

onward_more : (p : Path) (k : ℕ) → k < p.segments → onward p k ≡ rest p k (first_at p k) ++ onward p (k + 1)
unfolding following
onward_more p k h = let e : p.segments - k ≡ suc (p.segments - (k + 1)) = omega arith in rw e

pub record Outer (p : Path) (l : List ℤ) (t : Tally) (k : ℕ) (l₀ : List ℤ) (t₀ : Tally) (k₀ : ℕ) : Type 0 where
  pub most : k ≤ p.segments
  pub few : Few t (2 ^ p.finest * k + 1)
  pub due : Due l t (onward p k) l₀ t₀ (onward p k₀)

pub outer_starts : (p : Path) (l : List ℤ) (e : Entry) (t : Tally) → t ≡ begun e → Outer p l t 0 l t 0
unfolding begun
outer_starts p l e t b =
    record {
      most = zero-le;
      few = subst (λ (u : Tally). Few u (2 ^ p.finest * 0 + 1)) (sym b) (record { points = omega arith; length = zero-le });
      due = due_here l t (onward p 0);
    }

pub inner_starts : {p : Path} {l l₀ : List ℤ} {t t₀ : Tally} {k k₀ : ℕ} → Outer p l t k l₀ t₀ k₀ → Sound p k
    → (d : Drawing) → d ≡ first_at p k → Inner p k (onward p (k + 1)) l t d l t d
inner_starts {p} {l} {t = t} {k = k} o sound d e =
    record {
      kept = subst (Of p k) (sym e) sound.first;
      few = few_most o.few (omega arith);
      due = due_here l t (rest p k d ++ onward p (k + 1));
    }

-- a segment has ended
pub outer_goes : {p : Path} {l l₁ l₀ : List ℤ} {t t₁ t₀ : Tally} {k k₀ : ℕ} {d d₁ : Drawing}
    → Outer p l₁ t₁ k l₀ t₀ k₀ → k < p.segments
    → d₁ ≡ first_at p k → Inner p k (onward p (k + 1)) l t d l₁ t₁ d₁ → 2 ^ p.finest ≤ d.q → Outer p l t (k + 1) l₀ t₀ k₀
outer_goes {p} {k = k} {d = d} o h e i end =
    record {
      most = omega arith;
      few = few_most i.few (omega (arith, (i.kept.on in_x).within));
      due =
          due_then (due_by (sym (ap (λ (es : List Entry). es ++ onward p (k + 1)) (rest_end p k d i.kept end))) i.due)
          (due_by (ap (λ (f : Drawing). rest p k f ++ onward p (k + 1)) e ∙ sym (onward_more p k h)) o.due);
    }

-- after the last segment nothing is due: the tally and the list are the whole path's
pub all_shown : (p : Path) (l₀ : List ℤ) {l l₁ : List ℤ} {t t₁ : Tally} {k : ℕ} → Outer p l t k l₁ t₁ 0 → p.segments ≤ k
    → t₁ ≡ begun (start p) → l₁ ≡ sets l₀ 0 (numbers (start p)) → (t ≡ tally p) × (l ≡ sets l₀ 0 (flat (entries p)))
unfolding following tally entries added_all begun flat
all_shown p l₀ {l} {l₁} {t} {t₁} {k} o h b s =
    let none : p.segments - k ≡ 0 = omega arith in
    let all : onward p 0 ≡ following p 0 p.segments = ap (following p 0) (sub-zero p.segments) in
    let z : Due l t [] l₁ t₁ (onward p 0) = rw none at o.due in
    (z.tally ∙ rw (b, all), stored_all refl z.list ∙ rw (b, s, all))
