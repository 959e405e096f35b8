-- Each turn puts the line of one entry more.
use mathlib.Core.Path.{◌≡◌, ap, subst}
use mathlib.Core.List.{List, [], ◌++◌, map}
use Prim.Native.Nat.{ℕ, suc, ◌+◌, ◌-◌, ◌*◌, ◌^◌, ◌≤◌, ◌<◌}
use lib.ListN.{length}
use native.Mathlib.Omega.{arith}
use lib.IntN.{ℤ}
use Rattle.rules.specs.Rules.{sheet_finest}
use Rattle.entries.specs.declared.Entry.{Entry}
use Rattle.entries.specs.Entries.{entry_size, entry_of, entries_in}
use Rattle.entries.proofs.Numbers.{here_is, never_outside}
use Rattle.path.specs.Joined.{shifted}
use Rattle.text.specs.declared.Text.{Text}
use Rattle.text.specs.Reached.{Gains}
use Rattle.text.proofs.Pieces.{Gathers, gathers_none, gathers_more, gathers_all, gains_as}
use Rattle.listing_text.specs.Lines.{entry_line, entry_lines}
use Rattle.listing_text.specs.Pieces.{lines_in}
use Rattle.printing.proofs.lines.put_entries.Goals as goal
use Rattle.printing.proofs.lines.put_entries.Goals.{in-Some, in_default}

lines_more : (l : List ℤ) (i count k : ℕ) → i < count
    → lines_in l i count k ≡ entry_line (shifted (2 ^ sheet_finest * k) (entry_of l i)) ++ lines_in l (i + 1) count k
unfolding entry_lines entries_in
lines_more l i count k h =
    let n : count - i ≡ suc (count - (i + 1)) = omega arith in
    ap (λ (m : ℕ). entry_lines (map (shifted (2 ^ sheet_finest * k)) (entries_in l i m))) n

lines_end : (l : List ℤ) (i count k : ℕ) → count ≤ i → lines_in l i count k ≡ []
unfolding entry_lines entries_in
lines_end l i count k h =
    let n : count - i ≡ 0 = omega arith in
    ap (λ (m : ℕ). entry_lines (map (shifted (2 ^ sheet_finest * k)) (entries_in l i m))) n

module _ (l : List ℤ) (k : ℕ) {n count : ℕ} {t start : Text} {all : List ℕ} (g : Gathers t (lines_in l n count k) start all) where
  one_more : {e : Entry} {u : Text} → n < count → e ≡ entry_of l n → Gains t (entry_line (shifted (2 ^ sheet_finest * k) e)) u
      → Gathers u (lines_in l (n + 1) count k) start all
  one_more h e p =
      let line = gains_as (ap (λ f. entry_line (shifted (2 ^ sheet_finest * k) f)) e) p in
      gathers_more _ _ (subst (λ rest. Gathers t rest start all) (lines_more l n count k h) g) line

  all_put : count ≤ n → Gains start all t
  all_put h = gathers_all (subst (λ rest. Gathers t rest start all) (lines_end l n count k h) g)

pub loop-i-init : goal.loop-i-init
loop-i-init c = gathers_none _ _ c.requires.1

pub loop-i-preserved : goal.loop-i-preserved
loop-i-preserved c =
    let a = c.args in
    let i = c.loop-i.i in
    let inside : entry_size * i + entry_size ≤ length a.list.now = omega (arith, c.loop-i-test.true, c.requires.0) in
    elim c.match-entry_at.branch [
      | in-Some w ↦
          let e = here_is a.list.now i inside c.entry_at.ensures w.in-Some.is in
          rw w.text-is (one_more a.list.now a.k c.loop-i.invariant c.loop-i-test.true e w.put_entry.ensures)
      | in_default w ↦ absurd (never_outside a.list.now i inside c.entry_at.ensures w.in_default.is)
    ]

pub returns : goal.returns
returns c = all_put c.args.list.now c.args.k c.loop-i.invariant c.loop-i-test.false
