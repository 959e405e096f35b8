-- The answers by the tests that lead to them: the rules of a path, then the room, and the tally as the answer's two numbers.
use mathlib.Core.Path.{◌≡◌, sym, ap, ◌∙◌}
use mathlib.Core.Bool.{Bool, true, false}
use mathlib.Core.List.{List, [], ◌∷◌}
use Prim.Native.Nat.{ℕ, suc, ◌+◌, ◌*◌, ◌≤◌, ◌<◌}
use native.Mathlib.Nat.{add-zero, zero-add}
use native.Mathlib.Omega.{arith}
use lib.Dec.{leb}
use lib.IntN.{ℤ}
use lib.ListN.{length}
use lib.Seq.{sets}
use borrow.Author.Tests.{lt-leb, le-leb}
use Rattle.numbers.proofs.Buffers.{sets_front}
use Rattle.rules.specs.declared.refused.Refusal.{Refusal}
use Rattle.rules.specs.Numbered.{number}
use Rattle.rules.specs.Refusals.{unless, refusal_or, filled}
use Rattle.rules.proofs.Numbered.{number_positive}
use Rattle.rules.proofs.Refusals.{first_on, first_stop, answers, refuses}
use Rattle.entries.specs.declared.Entry.{Entry}
use Rattle.entries.specs.Entries.{entry_size, flat}
use Rattle.entries.specs.Length.{length_from, length_of}
use Rattle.entries.proofs.Numbers.{length_flat}
use Rattle.path.specs.Path.{Path, path_refusal}
use Rattle.path.specs.Entries.{following, entries}
use Rattle.path.specs.Answer.{draw_refusal, refused_by, answer, totals, measured, drawn, written}
use Rattle.drawer.specs.declared.Accepted.{Accepted}
use Rattle.drawer.specs.declared.Tally.{Tally}
use Rattle.drawer.specs.Accepted.{held}
use Rattle.drawer.specs.Tally.{start, begun, added, added_all, tally}

-- ---- the tally is the answer

added_points : (t : Tally) (es : List Entry) → (added_all t es).totals.points ≡ t.totals.points + length es
unfolding added_all added
added_points t [] = sym (add-zero t.totals.points)
added_points t (e ∷ es) = omega (arith, added_points (added t e) es)

added_length : (t : Tally) (es : List Entry) → (added_all t es).totals.length ≡ t.totals.length + length_from t.last es
unfolding added_all added length_from
added_length t [] = sym (add-zero t.totals.length)
added_length t (e ∷ es) = omega (arith, added_length (added t e) es)

pub tally_answers : (p : Path) → totals (tally p).totals ≡ answer (entries p)
unfolding tally entries begun length_of
tally_answers p =
    let es = following p 0 p.segments in
    let n : (tally p).totals.points ≡ suc (length es) = added_points (begun (start p)) es ∙ omega arith in
    λ i. record { refusal = 0; points = n i; length = (added_length (begun (start p)) es ∙ zero-add (length_from (start p) es)) i }

-- ---- measuring

pub measured_refused : (p : Path) (r : Refusal) → number r ≡ path_refusal p → refused_by (number r) ≡ measured p
unfolding measured
measured_refused p r e = refuses refused_by _ e (number_positive r)

pub measured_answer : (p : Path) (a : Accepted) → held a ≡ p → answer (entries (held a)) ≡ measured p
unfolding measured
measured_answer p a same =
    let z : path_refusal p ≡ 0 = ap path_refusal (sym same) ∙ a.accepted in
    ap (λ (q : Path). answer (entries q)) same ∙ sym (answers refused_by (answer (entries p)) z)

-- ---- drawing

module _ (p : Path) (list : List ℤ) where
  -- by the number that drawing refuses by
  by_number : (k : ℕ) → draw_refusal p (length list) ≡ k
      → (refusal_or k refused_by (answer (entries p)) ≡ drawn p (length list)) × (filled k (flat (entries p)) list ≡ written p list)
  unfolding drawn written
  by_number k f =
      (ap (λ (n : ℕ). refusal_or n refused_by (answer (entries p))) (sym f), ap (λ (n : ℕ). filled n (flat (entries p)) list) (sym f))

  pub drawn_refused : (r : Refusal) → number r ≡ path_refusal p → (refused_by (number r) ≡ drawn p (length list)) × (list ≡ written p list)
  unfolding draw_refusal drawn written
  drawn_refused r e =
      let stop : number r ≡ draw_refusal p (length list) = e ∙ sym (first_stop _ _ (λ z. number_positive r (e ∙ z))) in
      (refuses refused_by _ stop (number_positive r), refuses (λ _. list) _ stop (number_positive r))

  -- an accepted path, of n points: the room decides
  module _ (a : Accepted) (same : held a ≡ p) (n : ℕ) (count : n ≡ length (entries (held a))) where
    by_room : (fits : Bool) → leb (entry_size * n) (length list) ≡ fits → draw_refusal p (length list) ≡ unless fits 9 0
    unfolding draw_refusal
    by_room fits f =
        let whole : n ≡ length (entries p) = count ∙ ap (λ (q : Path). length (entries q)) same in
        first_on _ _ (ap path_refusal (sym same) ∙ a.accepted) ∙ ap (λ (b : Bool). unless b 9 0) (rw whole at f)

    pub drawn_nine : length list < entry_size * n → (refused_by 9 ≡ drawn p (length list)) × (list ≡ written p list)
    drawn_nine h = by_number 9 (by_room false (lt-leb _ (length list) h))

    pub drawn_filled : entry_size * n ≤ length list
        → (answer (entries (held a)) ≡ drawn p (length list)) × (sets list 0 (flat (entries (held a))) ≡ written p list)
    drawn_filled h =
        let f = by_number 0 (by_room true (le-leb _ (length list) h)) in
        let room : length (flat (entries (held a))) ≤ length list = rw length_flat (rw count at h) in (
          ap (λ (q : Path). answer (entries q)) same ∙ f.0,
          sets_front list (flat (entries (held a))) room ∙ ap (λ (q : Path). filled 0 (flat (entries q)) list) same ∙ f.1,
        )
