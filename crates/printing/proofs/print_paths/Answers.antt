-- Each turn counts one piece more and goes on to a later segment or path, inside the number list.
use mathlib.Core.Path.{refl, sym, ap, ◌∙◌, subst}
use mathlib.Core.List.{List, ◌++◌}
use Prim.Native.Nat.{ℕ, ◌+◌, ◌≤◌, ◌<◌}
use native.Mathlib.Omega.{arith}
use borrow.Author.Rules.{rules}
use lib.Dec.{ltb}
use lib.IntN.{ℤ}
use lib.ListN.{length}
use Rattle.sheet.specs.NumberList.{number_at, sheet_of}
use Rattle.path.proofs.Turns.{by_test}
use Rattle.text.specs.Reached.{reached}
use Rattle.text.proofs.Pieces.{gains_size}
use Rattle.listing_text.specs.declared.Place.{Place}
use Rattle.listing_text.specs.Lines.{paths_word, end, named}
use Rattle.listing_text.specs.Listing.{sheet_text}
use Rattle.listing_text.specs.Pieces.{next_place}
use Rattle.printing.proofs.Coming.{Coming, coming_end, starts_inside, list_small, line_counted, piece_counted}
use Rattle.printing.proofs.print_paths.Goals as goal
use Rattle.printing.proofs.print_paths.Invariants.{left}
use Rattle.printing.proofs.print_paths.Goals.{After-piece_at-place}

next_falls : (l : List ℤ) (paths : ℕ) (q : Place) → q.path < paths → q.segment < 4294967296 → left paths (next_place l q) < left paths q
unfolding next_place
next_falls l paths q h k = by_test (ltb (q.segment + 1) (number_at l q.at)) (λ e. rw e (omega arith)) (λ e. rw e (omega arith))

next_inside : (l : List ℤ) (q : Place) → q.at ≤ length l → (next_place l q).at ≤ length l
unfolding next_place
next_inside l q h = by_test (ltb (q.segment + 1) (number_at l q.at)) (λ e. rw e h) (λ e. rw e (omega arith))

pub loop-place-init : goal.loop-place-init
loop-place-init c =
    let l = c.args.numbers.now in
    let accepted = c.requires.accepted in
    let room = c.requires.room in
    let line = c.put_line.ensures in
    let from = line.put.0 ∙ ap (λ (at : ℕ). reached c.args.text.now.bytes.now at (named paths_word c.number_at-paths.result ++ end)) room.2 in (
      starts_inside l accepted,
      room.0,
      gains_size line ∙ room.1,
      line_counted l accepted _ _ c.args.text.now.bytes.now room.1 c.number_at-paths.ensures from,
    )

-- the piece at the place, with those before it
counted : (c : After-piece_at-place) → let l = c.args.numbers.now in
    let total = length (sheet_text (sheet_of l)) in
    let count = c.loop-place.count + c.piece_at-place.new.text.at in
    Coming l c.number_at-paths.result total c.piece_at-place.result count × (count ≤ total)
counted c =
    let now = c.loop-place in
    let piece = c.piece_at-place.ensures in
    piece_counted now.invariant.3 c.loop-place-test.true now.list now.text.bytes.now now.invariant.1 now.invariant.2 piece.text_after.put.0 piece.next

pub overflow_add-count : goal.overflow_add-count
overflow_add-count c =
    record { fits = omega (arith, (counted (goal.at.overflow_add-count c).After-piece_at-place).1, list_small c.args.numbers.now c.requires.accepted) }

pub loop-place-smaller : goal.loop-place-smaller
loop-place-smaller c =
    let N = c.number_at-paths.result in
    let q = c.loop-place.place in
    let small : q.segment < 4294967296 = omega arith in
    let falls = next_falls c.args.numbers.now N q c.loop-place-test.true small in
    subst (λ (next : Place). left N next < left N q) (sym c.piece_at-place.ensures.next) falls

pub loop-place-preserved : goal.loop-place-preserved
loop-place-preserved c =
    let l = c.args.numbers.now in
    let inside = next_inside l c.loop-place.place c.loop-place.invariant.0 in (
      subst (λ (next : Place). next.at ≤ length l) (sym c.piece_at-place.ensures.next) inside,
      search rules,
      gains_size c.piece_at-place.ensures.text_after ∙ c.loop-place.invariant.2,
      (counted (goal.at.loop-place-preserved c).After-piece_at-place).0,
    )

pub returns : goal.returns
returns c = (refl, coming_end c.loop-place.invariant.3 c.loop-place-test.false)
