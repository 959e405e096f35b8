-- Pieces put one after another: each starts at the place that the one before it answered, and together they are one piece.
use mathlib.Core.Path.{◌≡◌, refl, sym, ap, ap₂, ◌∙◌, subst}
use mathlib.Core.List.{List, [], ◌++◌}
use mathlib.Core.Logic.{⊎_elim}
use Prim.Native.Nat.{ℕ, ◌+◌, ◌≤◌}
use native.Mathlib.Omega.{arith}
use lib.ListN.{length, take, drop, length-append}
use lib.Seq.{sets, length-sets, take_at}
use Rattle.std.proofs.lemmas.Bool.{cases_lt}
use Rattle.numbers.proofs.Buffers.{sets_append, sets_out, sets_front}
use Rattle.text.specs.declared.Text.{Text}
use Rattle.text.specs.Reached.{reached, Put, Gains}

pub reached_fits : (t : List ℕ) (at : ℕ) (a : List ℕ) → at + length a ≤ length t → reached t at a ≡ at + length a
unfolding reached
reached_fits t at a h = omega arith

reached_cut : (t : List ℕ) (at : ℕ) (a : List ℕ) → length t ≤ at + length a → reached t at a ≡ length t
unfolding reached
reached_cut t at a h = omega arith

pub put_after : (t : List ℕ) (at : ℕ) (a b : List ℕ) → sets (sets t at a) (reached t at a) b ≡ sets t at (a ++ b)
put_after t at a b =
    ⊎_elim
    (λ past.
    let size = length-sets t at a in
    let cut = reached_cut t at a (omega (arith, past)) in
    sets_out (sets t at a) (reached t at a) b (omega arith) ∙ sym (sets_out (sets t at a) (at + length a) b (omega (arith, past))))
    (λ fits. rw (reached_fits t at a fits))
    (cases_lt (length t) (at + length a))
    ∙ sym (sets_append t at a b)

pub reached_after : (t : List ℕ) (at : ℕ) (a b : List ℕ) → reached (sets t at a) (reached t at a) b ≡ reached t at (a ++ b)
unfolding reached
reached_after t at a b = rw (length-sets t at a, length-append a b) (omega arith)

-- a text that one piece fits is that piece, up to the place answered
pub put_whole : (t a : List ℕ) → length a ≤ length t → take (reached t 0 a) (sets t 0 a) ≡ a
put_whole t a h =
    rw (reached_fits t 0 a (omega arith), sets_front t a h) (take_at a (drop (length a) t) (0 + length a) (omega arith))

-- a piece, and how it is put

module _ (t : List ℕ) (at : ℕ) {u : List ℕ} {i : ℕ} where
  pub put_as : {a b : List ℕ} → a ≡ b → Put t at a i u → Put t at b i u
  put_as e p = subst (λ piece. Put t at piece i u) e p

  pub put_both : (a b : List ℕ) {v : List ℕ} {j : ℕ} → Put t at a i u → Put u i b j v → Put t at (a ++ b) j v
  put_both a b p q = (
    q.0 ∙ ap₂ (λ u i. reached u i b) p.1 p.0 ∙ reached_after t at a b,
    q.1 ∙ ap₂ (λ u i. sets u i b) p.1 p.0 ∙ put_after t at a b,
  )

-- the place answered is inside the text
pub put_inside : (t : List ℕ) (at : ℕ) (a : List ℕ) {u : List ℕ} {i : ℕ} → Put t at a i u → i ≤ length u
unfolding reached
put_inside t at a p = omega (arith, p.0, ap length p.1, length-sets t at a)

-- ---- a text that gains piece after piece

pub gains_none : (t : Text) → t.at ≤ length t.bytes.now → Gains t [] t
unfolding reached
gains_none t h = record { put = (omega arith, refl); lent = refl }

pub gains_as : {t u : Text} {a b : List ℕ} → a ≡ b → Gains t a u → Gains t b u
gains_as e g = record { put = put_as _ _ e g.put; lent = g.lent }

pub gains_both : {t u v : Text} {a b : List ℕ} → Gains t a u → Gains u b v → Gains t (a ++ b) v
gains_both g h = record { put = put_both _ _ _ _ g.put h.put; lent = h.lent ∙ g.lent }

-- it stands inside its buffer then, whose length stays
pub gains_inside : {t u : Text} {a : List ℕ} → Gains t a u → u.at ≤ length u.bytes.now
gains_inside {t} {a = a} g = put_inside t.bytes.now t.at a g.put

pub gains_size : {t u : Text} {a : List ℕ} → Gains t a u → length u.bytes.now ≡ length t.bytes.now
gains_size {t} {a = a} g = ap length g.put.1 ∙ length-sets t.bytes.now t.at a

-- a text, with `rest` to come, is text `start` with `all` to come
pub record Gathers (now : Text) (rest : List ℕ) (start : Text) (all : List ℕ) : Type 0 where
  pub size : length now.bytes.now ≡ length start.bytes.now
  pub inside : now.at ≤ length now.bytes.now
  pub place : reached now.bytes.now now.at rest ≡ reached start.bytes.now start.at all
  pub bytes : sets now.bytes.now now.at rest ≡ sets start.bytes.now start.at all
  pub lent : now.bytes.ghost_name ≡ start.bytes.ghost_name

pub gathers_none : (t : Text) (all : List ℕ) → t.at ≤ length t.bytes.now → Gathers t all t all
gathers_none t all h = record { size = refl; inside = h; place = refl; bytes = refl; lent = refl }

pub gathers_more : {t u start : Text} {all : List ℕ} (a rest : List ℕ) → Gathers t (a ++ rest) start all → Gains t a u → Gathers u rest start all
gathers_more {t} {u} a rest g p =
    record {
      size = gains_size p ∙ g.size;
      inside = gains_inside p;
      place = rw (p.put.0, p.put.1) (reached_after t.bytes.now t.at a rest ∙ g.place);
      bytes = rw (p.put.0, p.put.1) (put_after t.bytes.now t.at a rest ∙ g.bytes);
      lent = p.lent ∙ g.lent;
    }

pub gathers_all : {t start : Text} {all : List ℕ} → Gathers t [] start all → Gains start all t
unfolding reached
gathers_all g = record { put = (omega (arith, g.inside) ∙ g.place, g.bytes); lent = g.lent }
