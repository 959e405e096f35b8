-- A refusal names no operation. Otherwise the tests are those of `choose`: a doubled increment is reckoned only where all else asks to double.
use mathlib.Core.Path.{◌≡◌, sym, ap, ◌∙◌}
use mathlib.Core.Bool.{Bool, true, false, cond, ◌&&◌, ◌||◌}
use Prim.Native.Nat.{ℕ}
use lib.Dec.{leb, ltb}
use mir.Facts.{to_z-of_z}
use Rattle.std.proofs.Common.{rules}
use Rattle.std.specs.Prelude.{Err}
use Rattle.rules.proofs.Refusals.{refuses}
use Rattle.rules.proofs.Numbered.{number_positive}
use Rattle.coordinate.specs.Registers.{halve, double, step}
use Rattle.coordinate.specs.Increment.{increment, doubled_increment}
use Rattle.coordinate.proofs.Bits.{Fits32}
use Rattle.operations.specs.Position.{is_aligned}
use Rattle.operations.specs.Refusals.{choice_refusal}
use Rattle.operations.specs.Choice.{wants_halve, wants_double, choose}
use Rattle.engine.specs.declared.Drawing.{Drawing}
use Rattle.engine.specs.Drawing.{of}
use Rattle.engine.specs.Choice.{said, says, refused_by, choice}
use Rattle.engine.proofs.Fitting.{told}
use Rattle.engine.proofs.Drawing.next.Goals as goal
use Rattle.engine.proofs.Drawing.next.Goals.{After-increment_of-y}

-- ---- a drawing d that is not refused, with the increments x and y

record Asked (d : Drawing) (upper lower x y : ℕ) : Type 0 where
  passes : choice_refusal d.finest upper lower d.level d.q ≡ 0
  by_x : increment d.level d.x ≡ x
  by_y : increment d.level d.y ≡ y
  fits_x : Fits32 d.x
  fits_y : Fits32 d.y

module _ (d : Drawing) (upper lower : ℕ) {x y : ℕ} (asked : Asked d upper lower x y) where
  -- the tests: to halve, and all but the doubled increments to double
  abbrev halves : Bool
  halves = (ltb upper x || ltb upper y) && ltb d.level d.finest

  abbrev aligned : Bool
  aligned = is_aligned d.finest d.level d.q

  abbrev asks : Bool → Bool
  asks test = ltb 0 d.level && (ltb x lower && ltb y lower) && test

  rule_1 : halves ≡ true → choice upper lower d ≡ says halve
  unfolding choice choose wants_halve
  rule_1 t = simp (asked.passes, asked.by_x, asked.by_y, t)

  rule_2 : halves ≡ false → choice upper lower d ≡ says (cond (wants_double d.finest upper lower d.level d.q (λ k. of k d)) double step)
  unfolding choice choose wants_halve
  rule_2 t = simp (asked.passes, asked.by_x, asked.by_y, t)

  doubles : {test : Bool} → test ≡ aligned → halves ≡ false
      → choice upper lower d
      ≡ says (cond (asks test && (leb (doubled_increment d.level d.x) upper && leb (doubled_increment d.level d.y) upper)) double step)
  unfolding wants_double
  doubles a t = rule_2 t ∙ simp (asked.by_x, asked.by_y, sym a)

  -- with the doubled increments as they are reckoned
  tried : {test : Bool} {u v : ℕ} → test ≡ aligned → halves ≡ false → asks test ≡ true
      → u ≡ doubled_increment d.level d.x → v ≡ doubled_increment d.level d.y
      → choice upper lower d ≡ says (cond (leb u upper && leb v upper) double step)
  tried a t s by_u by_v = doubles a t ∙ simp (s, sym by_u, sym by_v)

-- ---- refused

pub returns-in_err-at : goal.returns-in_err-at
unfolding choice
returns-in_err-at c =
    let e : c.from_residual.result ≡ Err c.in_err-at.field-0.0 = search rules in
    ap said e ∙ refuses refused_by _ c.in_err-at.ensures (number_positive c.in_err-at.field-0.0)

-- ---- where it is not refused

-- the drawing, its place as it was answered
abbrev there : After-increment_of-y → Drawing
there c =
    let at = c.in_ok-at.at in
    let d = c.args.self in record { finest = at.finest; level = at.level; q = at.q; x = d.x; y = d.y; width = d.width }

asked : (c : After-increment_of-y) → Asked (there c) c.args.limits.upper c.args.limits.lower c.increment_of-x.result c.increment_of-y.result
asked c =
    -- as the borrow checker tells it of a drawing
    let x : Fits32 c.args.self.x = told c.well_formed.0.1.1.1.1.1.0.1.1 in
    let y : Fits32 c.args.self.y = told c.well_formed.0.1.1.1.1.1.1.0.1.1 in
    let s = c.in_ok-at.ensures in
    record {
      passes = rw s.1 (rw s.2 (rw s.3 s.0));
      by_x = sym (c.increment_of-x.ensures c.args.self.x (sym (to_z-of_z x.c)));
      by_y = sym (c.increment_of-y.ensures c.args.self.y (sym (to_z-of_z y.c)));
      fits_x = x;
      fits_y = y;
    }

is-there : (c : After-increment_of-y) → let l = c.args.limits in choice l.upper l.lower (there c) ≡ choice l.upper l.lower c.args.self
is-there c =
    let d = c.args.self in
    let s = c.in_ok-at.ensures in
    λ i. choice c.args.limits.upper c.args.limits.lower (record { finest = s.1 i; level = s.2 i; q = s.3 i; x = d.x; y = d.y; width = d.width })

pub returns-then-upper-x : goal.returns-then-upper-x
returns-then-upper-x c =
    let w = (goal.at.returns-then-upper-x c).After-increment_of-y in
    sym (rule_1 _ _ _ (asked w) c.if-upper-x.true) ∙ is-there w

pub returns-then-not-at-smaller : goal.returns-then-not-at-smaller
returns-then-not-at-smaller c =
    let w = (goal.at.returns-then-not-at-smaller c).After-increment_of-y in
    sym (doubles _ _ _ (asked w) c.is_aligned.ensures c.if-upper-x.false ∙ simp c.if-not-at-smaller.true) ∙ is-there w

pub returns-then-doubled_x-most : goal.returns-then-doubled_x-most
returns-then-doubled_x-most c =
    let w = (goal.at.returns-then-doubled_x-most c).After-increment_of-y in
    let a = asked w in
    let u = c.doubled_increment_of-doubled_x.ensures c.args.self.x (sym (to_z-of_z a.fits_x.b)) (sym (to_z-of_z a.fits_x.c)) in
    let v = c.doubled_increment_of-doubled_y.ensures c.args.self.y (sym (to_z-of_z a.fits_y.b)) (sym (to_z-of_z a.fits_y.c)) in
    sym (tried _ _ _ a c.is_aligned.ensures c.if-upper-x.false c.if-not-at-smaller.false u v ∙ simp (sym c.from-most.ensures, c.if-doubled_x-most.true))
    ∙ is-there w

pub returns : goal.returns
returns c =
    let w = (goal.at.returns c).After-increment_of-y in
    let a = asked w in
    let u = c.doubled_increment_of-doubled_x.ensures c.args.self.x (sym (to_z-of_z a.fits_x.b)) (sym (to_z-of_z a.fits_x.c)) in
    let v = c.doubled_increment_of-doubled_y.ensures c.args.self.y (sym (to_z-of_z a.fits_y.b)) (sym (to_z-of_z a.fits_y.c)) in
    sym (tried _ _ _ a c.is_aligned.ensures c.if-upper-x.false c.if-not-at-smaller.false u v ∙ simp (sym c.from-most.ensures, c.if-doubled_x-most.false))
    ∙ is-there w
