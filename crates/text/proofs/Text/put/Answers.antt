-- Past the end nothing is put. Otherwise the copy is as long as the piece and the text allow.
use mathlib.Core.Path.{◌≡◌, refl, sym, ap, ◌∙◌}
use mathlib.Core.List.{List, []}
use mathlib.Core.Logic.{⊎_elim}
use Prim.Native.Nat.{ℕ, ◌+◌, ◌-◌, ◌≤◌, min}
use native.Mathlib.Omega.{arith}
use lib.ListN.{length, take, drop, take-append-drop, drop_of_length-le}
use lib.Seq.{sets, sets-eq, paste, length-sets, length-take-le}
use Rattle.std.proofs.Common.{rules}
use Rattle.std.proofs.lemmas.Bool.{cases_lt}
use Rattle.std.proofs.lemmas.Slice.{overwrites}
use Rattle.numbers.proofs.Buffers.{sets_append, sets_out}
use Rattle.text.specs.Reached.{reached}
use Rattle.text.proofs.Text.put.Goals as goal

-- a piece is stored as far as the text reaches
sets_cut : (t : List ℕ) (at : ℕ) (a : List ℕ) (n : ℕ) → at ≤ length t → n ≡ min (length a) (length t - at) → sets t at a ≡ paste t at a n
sets_cut t at a n h e =
    let size = length-take-le n a (omega (arith, e)) in
    let part : sets t at (take n a) ≡ paste t at a n = rw size at (sets-eq (take n a) t at (omega (arith, size))) in
    ap (λ piece. sets t at piece) (sym (take-append-drop n a)) ∙ sets_append t at (take n a) (drop n a) ∙ rest size ∙ part
  where
    rest : length (take n a) ≡ n → sets (sets t at (take n a)) (at + length (take n a)) (drop n a) ≡ sets t at (take n a)
    rest size =
        ⊎_elim
        (λ short. sets_out _ _ (drop n a) (omega (arith, short, size, e, length-sets t at (take n a))))
        (λ whole. let none : drop n a ≡ [] = drop_of_length-le a whole in rw none refl)
        (cases_lt n (length a))

pub returns-then-len-at : goal.returns-then-len-at
unfolding reached
returns-then-len-at c =
    let text = c.args.self.now in
    record { put = (omega (arith, c.if-len-at.true), sym (sets_out text.bytes.now text.at c.args.piece.now c.if-len-at.true)); lent = refl }

pub returns : goal.returns
unfolding reached
returns c =
    let text = c.args.self.now in
    let cut = sets_cut text.bytes.now text.at c.args.piece.now c.min-n.result (omega (arith, c.if-len-at.false)) c.min-n.ensures in
    record {
      put = (omega (arith, c.min-n.ensures, c.if-len-at.false), search (rules, overwrites, c.copy_from_slice.ensures.after, sym cut));
      lent = refl;
    }
