-- The list of an accepted path is as document 01 describes it: one theorem, `listed`, from its segments one after another.
use mathlib.Core.Path.{◌≡◌, refl, sym, ap, ◌∙◌, subst}
use mathlib.Core.List.{◌∷◌}
use Prim.Native.Nat.{ℕ, zero, suc, ◌+◌, ◌*◌, ◌^◌, ◌≤◌, ◌<◌}
use native.Mathlib.Nat.{add-zero, zero-add, le_trans, mul-le-mul, mul-le-mul_left, not-suc-le-zero, le_of_suc-le-suc}
use native.Mathlib.Omega.{arith}
use lib.IntN.{ℤ, pos}
use lib.ListN.{length, length-append}
use lib.Pow.{pow_mono}
use lib.Signed.{◌≤ℤ◌}
use Rattle.numbers.proofs.Order.{pos_le}
use Rattle.numbers.specs.Tables.{All}
use Rattle.numbers.proofs.Tables.{all_append, all_weaker}
use Rattle.engine.specs.declared.Drawing.{Drawing}
use Rattle.entries.specs.declared.Entry.{Entry}
use Rattle.entries.specs.Entries.{Among, Linked, last_of}
use Rattle.entries.specs.Length.{length_of}
use Rattle.entries.proofs.Length.{length_most}
use Rattle.entries.proofs.Numbers.{length_flat}
use Rattle.entries.proofs.Along.{last_append, linked_append, among_head, among_joined}
use Rattle.path.specs.Path.{Path, path_refusal, point_at, first}
use Rattle.path.specs.Entries.{entry, rest, following, entries}
use Rattle.path.specs.Listed.{corner, Follows, Placed, Listed, Most, InNumbers}
use Rattle.path.proofs.Accepted.{accepted_lawful}
use Rattle.path.proofs.Points.{corner-of}
use Rattle.path.proofs.Segments.{Sound, sound, held_first}
use Rattle.path.proofs.Spans.{entry_first, span_last, span_linked, span_count, placed_at, span_placed}
use Rattle.path.proofs.Steps.{calls, calls_go, following_steps}
use Rattle.path.proofs.Near.{placed_near, near_in_numbers}

-- ---- the segments from the k-th on

module _ (p : Path) (good : (k : ℕ) → k < p.segments → Sound p k) where
  abbrev start : ℕ → Drawing
  start k = first p.degree p.finest p.points p.level k

  abbrev at : ℕ → Entry
  at k = corner p.degree p.finest p.points k

  start_shown : (k : ℕ) → k < p.segments → entry p.finest k (start k) ≡ at k
  unfolding first
  start_shown k l = entry_first p k (good k l) (start k) (good k l).first refl

  -- segment k goes from control point Dk to control point Dk + D
  segment_last : (k : ℕ) → k < p.segments → last_of (at k) (rest p k (start k)) ≡ at (k + 1)
  segment_last k l =
      ap (λ (e : Entry). last_of e (rest p k (start k))) (sym (start_shown k l))
      ∙ span_last p k (good k l) (start k) (held_first p k (good k l))

  following_last : (m k : ℕ) → k + m ≤ p.segments → last_of (at k) (following p k m) ≡ at (k + m)
  unfolding following
  following_last zero k l = ap at (sym (add-zero k))
  following_last (suc m) k l =
      let n : k + 1 + m ≡ k + suc m = omega arith in
      last_append (at k) (rest p k (start k)) (following p (k + 1) m)
      ∙ ap (λ (e : Entry). last_of e (following p (k + 1) m)) (segment_last k (omega arith))
      ∙ following_last m (k + 1) (omega arith)
      ∙ ap at n

  following_linked : (m k : ℕ) → k + m ≤ p.segments → Linked Follows (at k) (following p k m)
  unfolding following
  following_linked zero k l = tt
  following_linked (suc m) k l =
      let s = good k (omega arith) in
      linked_append Follows (at k) (rest p k (start k)) (following p (k + 1) m)
      (subst (λ (e : Entry). Linked Follows e (rest p k (start k))) (start_shown k (omega arith)) (span_linked p k s (start k) (held_first p k s)))
      (subst (λ (e : Entry). Linked Follows e (following p (k + 1) m)) (sym (segment_last k (omega arith))) (following_linked m (k + 1) (omega arith)))

  following_corners : (m k i : ℕ) → k + m ≤ p.segments → i ≤ m → Among (at (k + i)) (at k ∷ following p k m)
  unfolding following
  following_corners m k zero l a = subst (λ (n : ℕ). Among (at n) (at k ∷ following p k m)) (sym (add-zero k)) (among_head (at k) (following p k m))
  following_corners zero k (suc i) l a = absurd (not-suc-le-zero a)
  following_corners (suc m) k (suc i) l a =
      let n : k + 1 + i ≡ k + suc i = omega arith in
      let es = following p (k + 1) m in
      let further = following_corners m (k + 1) i (omega arith) (le_of_suc-le-suc a) in
      among_joined (at k) (at (k + suc i)) (rest p k (start k)) es
      (rw (segment_last k (omega arith)) (subst (λ (j : ℕ). Among (at j) (at (k + 1) ∷ es)) n further))

  following_count : (m k : ℕ) → k + m ≤ p.segments → length (following p k m) ≤ 2 ^ p.finest * m
  unfolding following
  following_count zero k l = omega arith
  following_count (suc m) k l =
      let d = start k in
      let s = good k (omega arith) in
      omega (arith, length-append (rest p k d) (following p (k + 1) m), span_count p k s d (held_first p k s), following_count m (k + 1) (omega arith))

  following_placed : path_refusal p ≡ 0 → (m k : ℕ) → k + m ≤ p.segments → All (Placed p) (following p k m)
  unfolding following
  following_placed e zero k l = tt
  following_placed e (suc m) k l =
      let s = good k (omega arith) in
      all_append (Placed p) (rest p k (start k)) (following p (k + 1) m)
      (span_placed p k s e (omega arith) (start k) (held_first p k s))
      (following_placed e m (k + 1) (omega arith))

  entries_placed : path_refusal p ≡ 0 → 0 < p.segments → All (Placed p) (entries p)
  unfolding entries
  entries_placed e l =
      let s = good 0 l in
      (placed_at p 0 s e l (start 0) (held_first p 0 s), following_placed e p.segments 0 (omega arith))

pub listed : (p : Path) → path_refusal p ≡ 0 → Listed p
unfolding entries length_of
listed p e =
    let S = p.segments in
    let some = (accepted_lawful p e).some in
    let good = sound p e in
    let es = following p 0 S in
    let whole : entries p ≡ corner p.degree p.finest p.points 0 ∷ es = ap (λ (f : Entry). f ∷ es) (start_shown p good 0 some) in
    let count = following_count p good S 0 (omega arith) in
    let placed = entries_placed p good e some in
    record {
      after = es;
      starts = whole;
      ends = following_last p good S 0 (omega arith) ∙ ap (corner p.degree p.finest p.points) (zero-add S);
      corners = λ k l. rw whole (rw (zero-add k) at (following_corners p good S 0 k (omega arith) l));
      linked = following_linked p good S 0 (omega arith);
      placed = placed;
      near = all_weaker (placed_near p) (entries p) placed;
      calls = calls p;
      goes = calls_go p good e;
      steps = following_steps p good e;
      count = omega arith;
      total = le_trans (length_most _ es) (mul-le-mul_left 1414 count);
    }

-- 64 segments of 4,096 positions are the most
pub at_most : (p : Path) → path_refusal p ≡ 0 → Most p
at_most p e =
    let l = listed p e in
    let w = accepted_lawful p e in
    let end : 2 ^ p.finest ≤ 4096 = pow_mono {j = 12} w.finest_most in
    let whole : 2 ^ p.finest * p.segments ≤ 262144 = mul-le-mul end w.most in
    record {
      positions = all_weaker (λ e n. subst (λ (z : ℤ). z ≤ℤ pos 262144) (sym n.position) (pos_le (le_trans n.inside whole))) (entries p) l.near;
      points = omega (arith, l.count);
      numbers = rw length_flat (omega (arith, l.count));
      total = omega (arith, l.total);
    }

pub in_numbers : (p : Path) → p.finest ≡ 11 → path_refusal p ≡ 0 → InNumbers p
unfolding corner
in_numbers p f e =
    let l = listed p e in
    record {
      corners = λ k h.
          subst (λ (i : ℕ). Among (record { position = pos (2048 * k); x = point_at p.points 0 i; y = point_at p.points 1 i; width = point_at p.points 2 i }) (entries p))
          (corner-of p.degree k)
          (subst (λ (F : ℕ). Among (corner p.degree F p.points k) (entries p)) f (l.corners k h));
      near = all_weaker (λ e. near_in_numbers p e f) (entries p) l.near;
      count = subst (λ (F : ℕ). length (entries p) ≤ 2 ^ F * p.segments + 1) f l.count;
      total = subst (λ (F : ℕ). length_of (entries p) ≤ 1414 * (2 ^ F * p.segments)) f l.total;
    }
