-- Both loops keep what is still due (proofs/Loops). The drawing stays one of its segment, so that each chosen operation is accepted and
-- brings the end nearer, and choosing refuses at the end alone.
use mathlib.Core.Path.{◌≡◌, refl, sym, ap, ◌∙◌}
use Prim.Native.Nat.{◌<◌}
use native.Mathlib.Omega.{arith}
use Rattle.std.specs.Prelude.{Ok}
use Rattle.rules.specs.Rules.{most_segments}
use Rattle.coordinate.specs.Registers.{halve, double, step}
use Rattle.engine.specs.declared.Operation.{Operation}
use Rattle.engine.specs.Choice.{said}
use Rattle.path.specs.Answer.{totals}
use Rattle.path.proofs.Accepted.{accepted_lawful}
use Rattle.path.proofs.Segments.{Sound, sound}
use Rattle.drawer.specs.declared.Tally.{Tally}
use Rattle.drawer.specs.Accepted.{held}
use Rattle.drawer.proofs.Starts.{given}
use Rattle.drawer.proofs.Answers.{tally_answers}
use Rattle.drawer.proofs.Loops.{Took, took, refused_ends, turn_kept, inner_given, inner_falls, inner_quiet, inner_step, placed, room_left, outer_starts, inner_starts, outer_goes, all_shown}
use Rattle.drawer.proofs.Accepted.draw_into.Goals as goal
use Rattle.drawer.proofs.Accepted.draw_into.Goals.{In-Ok-Double, In-Ok-Halve, In-Ok-Step, In-segments}

-- ---- the path and its segment, at the head of each loop

sound_at : (c : In-segments) → Sound (held c.args.self) c.segments.k
sound_at c = sound _ c.args.self.accepted c.segments.k c.segments-test.true

pub segments-init : goal.segments-init
segments-init c = outer_starts _ _ _ _ c.begin-t.ensures.value

pub operations-init : goal.operations-init
operations-init c = inner_starts c.segments.invariant (sound_at (goal.at.operations-init c).In-segments) _ c.first-first.ensures

-- ---- what an arm took: c stands in that arm

named : {o p : Operation} → o ≡ p → said (Ok o) ≡ said (Ok p)
named = ap (λ o. said (Ok o))

halved : (c : In-Ok-Halve) → Took c.args.self.limits.upper c.args.self.limits.lower halve c.operations.d
halved c = took _ _ halve _ (sym c.in-Ok-Halve.ensures ∙ named c.in-Ok-Halve.field-0-is)

pub unwrap-d-requires : goal.unwrap-d-requires
unwrap-d-requires c =
    let s = goal.at.unwrap-d-requires c in
    inner_given c.operations.invariant (sound_at s.In-segments) halve (halved s.In-Ok-Halve) _ c.halve.ensures

pub operations-smaller-in-Ok-Halve : goal.operations-smaller-in-Ok-Halve
operations-smaller-in-Ok-Halve c =
    let s = goal.at.operations-smaller-in-Ok-Halve c in
    inner_falls c.operations.invariant (sound_at s.In-segments) halve (halved s.In-Ok-Halve) _ (given c.unwrap-d.ensures c.halve.ensures)

pub operations-preserved-in-Ok-Halve : goal.operations-preserved-in-Ok-Halve
operations-preserved-in-Ok-Halve c =
    let s = goal.at.operations-preserved-in-Ok-Halve c in
    inner_quiet c.operations.invariant (sound_at s.In-segments) halve refl (halved s.In-Ok-Halve) _ (given c.unwrap-d.ensures c.halve.ensures)

doubled : (c : In-Ok-Double) → Took c.args.self.limits.upper c.args.self.limits.lower double c.operations.d
doubled c = took _ _ double _ (sym c.in-Ok-Double.ensures ∙ named c.in-Ok-Double.field-0-is)

pub unwrap-d-requires-in-Ok-Double : goal.unwrap-d-requires-in-Ok-Double
unwrap-d-requires-in-Ok-Double c =
    let s = goal.at.unwrap-d-requires-in-Ok-Double c in
    inner_given c.operations.invariant (sound_at s.In-segments) double (doubled s.In-Ok-Double) _ c.double.ensures

pub operations-smaller-in-Ok-Double : goal.operations-smaller-in-Ok-Double
operations-smaller-in-Ok-Double c =
    let s = goal.at.operations-smaller-in-Ok-Double c in
    inner_falls c.operations.invariant (sound_at s.In-segments) double (doubled s.In-Ok-Double) _ (given c.unwrap-d-in-Ok-Double.ensures c.double.ensures)

pub operations-preserved-in-Ok-Double : goal.operations-preserved-in-Ok-Double
operations-preserved-in-Ok-Double c =
    let s = goal.at.operations-preserved-in-Ok-Double c in
    inner_quiet c.operations.invariant (sound_at s.In-segments) double refl (doubled s.In-Ok-Double) _ (given c.unwrap-d-in-Ok-Double.ensures c.double.ensures)

stepped : (c : In-Ok-Step) → Took c.args.self.limits.upper c.args.self.limits.lower step c.operations.d
stepped c = took _ _ step _ (sym c.in-Ok-Step.ensures ∙ named c.in-Ok-Step.field-0-is)

pub unwrap-d-requires-in-Ok-Step : goal.unwrap-d-requires-in-Ok-Step
unwrap-d-requires-in-Ok-Step c =
    let s = goal.at.unwrap-d-requires-in-Ok-Step c in
    inner_given c.operations.invariant (sound_at s.In-segments) step (stepped s.In-Ok-Step) _ c.step.ensures

pub show-t-requires : goal.show-t-requires
show-t-requires c =
    let s = goal.at.show-t-requires c in
    let p = held c.args.self in
    let i = c.operations.invariant in
    let on = turn_kept p _ (sound_at s.In-segments) step _ i.kept (stepped s.In-Ok-Step) _ (given c.unwrap-d-in-Ok-Step.ensures c.step.ensures) in
    let k : c.segments.k < most_segments = omega (arith, c.segments-test.true, (accepted_lawful p c.args.self.accepted).most) in
    (room_left p _ _ i.kept k i.few, placed p _ _ on k)

pub operations-smaller : goal.operations-smaller
operations-smaller c =
    let s = goal.at.operations-smaller c in
    inner_falls c.operations.invariant (sound_at s.In-segments) step (stepped s.In-Ok-Step) _ (given c.unwrap-d-in-Ok-Step.ensures c.step.ensures)

pub operations-preserved : goal.operations-preserved
operations-preserved c =
    let s = goal.at.operations-preserved c in
    let e = c.show-t.ensures in
    rw (e.value, e.list_after) (inner_step c.operations.invariant (sound_at s.In-segments) (stepped s.In-Ok-Step) _ (given c.unwrap-d-in-Ok-Step.ensures c.step.ensures))

pub segments-preserved : goal.segments-preserved
segments-preserved c =
    let s = goal.at.segments-preserved c in
    let p = held c.args.self in
    let i = c.operations.invariant in
    let end = refused_ends p _ (sound_at s.In-segments) _ i.kept _ (sym c.in-Err.ensures) in
    outer_goes c.segments.invariant c.segments-test.true c.first-first.ensures i end

-- ---- after the last segment

pub returns : goal.returns
returns c =
    let b = c.begin-t.ensures in
    let p = held c.args.self in
    let both = all_shown p _ c.segments.invariant c.segments-test.false b.value b.list_after in
    record { value = ap (λ (t : Tally). totals t.totals) both.0 ∙ tally_answers p; list_after = both.1 }
