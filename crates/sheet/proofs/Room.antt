-- The answer and the lent buffer, by the refusal and by the room: what reading and writing have in common.
use mathlib.Core.Path.{◌≡◌, refl, sym, ap, ◌∙◌}
use mathlib.Core.List.{List, ◌++◌}
use Prim.Native.Nat.{ℕ, ◌≤◌, ◌<◌}
use borrow.Author.Tests.{leb-true, le-leb, lt-leb}
use lib.Dec.{leb}
use lib.ListN.{length, take, drop}
use lib.Seq.{take-append_seam}
use Rattle.std.specs.Prelude.{Result, Ok, Err}
use Rattle.rules.specs.declared.refused.Refusal.{Refusal}
use Rattle.rules.specs.Numbered.{number}
use Rattle.rules.specs.Refusals.{unless, first_of, refusal_or, filled}
use Rattle.rules.proofs.Numbered.{number_positive, number_determines}
use Rattle.rules.proofs.Refusals.{rule_kept, first_kept, first_stop, refuses, number_answered}
use Rattle.sheet.specs.Answer.{Written, refused_by, wrote, answered}

-- ---- what is returned

-- equal readings are equal answers
pub answered_determines : (a b : Result ℕ Refusal) → answered a ≡ answered b → a ≡ b
answered_determines (Ok m) (Ok n) e = ap (λ (w : Written). Ok w.count) e
answered_determines (Ok _) (Err s) e = absurd (number_positive s (sym (ap (λ (w : Written). w.refusal) e)))
answered_determines (Err r) (Ok _) e = absurd (number_positive r (ap (λ (w : Written). w.refusal) e))
answered_determines (Err r) (Err s) e = ap Err (number_determines r s (ap (λ (w : Written). w.refusal) e))

-- the count is the count, and a refusal says its number, with count 0
pub count_says : (n : ℕ) → ((answered (Ok n)).refusal ≡ 0) × ((answered (Ok n)).count ≡ n)
count_says n = (refl, refl)

pub refusal_says : (r : Refusal) → ((answered (Err r)).refusal ≡ number r) × ((answered (Err r)).count ≡ 0)
refusal_says r = (refl, refl)

-- ---- by the refusal

abbrev pub refused_or_wrote : ℕ → ℕ → Written
refused_or_wrote k count = refusal_or k refused_by (wrote count)

pub answered_refusal : (k count : ℕ) → (refused_or_wrote k count).refusal ≡ k
answered_refusal k count = number_answered refused_by (wrote count) (λ w. w.refusal) (λ k. refl) refl k

pub refused_answer : (k count : ℕ) → (k ≡ 0 → ⊥) → refused_or_wrote k count ≡ refused_by k
refused_answer k count h = sym (refuses refused_by (wrote count) refl h)

-- ---- by the room

-- after the refusals k: 9 where `count` is more than `room`
abbrev pub room_refusal : ℕ → ℕ → ℕ → ℕ
room_refusal k count room = first_of k (unless (leb count room) 9 0)

module _ (k count room : ℕ) where
  pub room_accepted : (refused_or_wrote (room_refusal k count room) count).refusal ≡ 0 → (k ≡ 0) × (count ≤ room)
  room_accepted e =
      let kept = first_kept k _ (sym (answered_refusal (room_refusal k count room) count) ∙ e) in
      (kept.0, leb-true count room (rule_kept (leb count room) 8 0 kept.1).0)

  pub room_short : k ≡ 0 → room < count → refused_or_wrote (room_refusal k count room) count ≡ refused_by 9
  room_short e h = rw (e, lt-leb count room h)

  pub room_refused : (k ≡ 0 → ⊥) → refused_or_wrote (room_refusal k count room) count ≡ refused_by k
  room_refused h = rw (first_stop k (unless (leb count room) 9 0) h) (refused_answer k count h)

module _ {A : Type 0} where
  pub room_enough : {k : ℕ} {found values : List A} (buffer : List A) → k ≡ 0 → found ≡ values → length values ≤ length buffer
      → (refused_or_wrote (room_refusal k (length found) (length buffer)) (length found) ≡ wrote (length values))
      × (filled (room_refusal k (length found) (length buffer)) found buffer ≡ values ++ drop (length values) buffer)
  room_enough {values = values} buffer e f h =
      let room = le-leb (length values) (length buffer) h in
      (rw (e, f, room), rw (e, f, room))

  -- the values that the answer counts are those in front
  pub front_answered : {answer : Written} {list : List A} (values buffer : List A)
      → (answer ≡ wrote (length values)) × (list ≡ values ++ drop (length values) buffer)
      → take answer.count list ≡ values
  front_answered values buffer e = rw (e.0, e.1) (take-append_seam values (drop (length values) buffer))
