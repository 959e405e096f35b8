-- The courses of both degrees are tame: m times their curve is a cubic, of which the sizes are known; m is 1 for a cubic and 3 for a quadratic.
use mathlib.Core.Path.{◌≡◌, refl, ap, ◌∙◌}
use Prim.Native.Nat.{ℕ, ◌+◌, ◌*◌, ◌-◌, ◌^◌, ◌≤◌, ◌<◌}
use native.Mathlib.Omega.{arith}
use lib.Dec.{lit<}
use lib.IntN.{ℤ, pos, ◌*ℤ◌}
use Rattle.numbers.proofs.Ring.{#, ◌:*◌, ring}
use Rattle.numbers.proofs.Size.{Size, size_by, size_factor}
use Rattle.rules.specs.declared.Degree.{Degree}
use Rattle.rules.specs.declared.Degree.TheVariants.{Quadratic, Cubic}
use Rattle.rules.specs.Rules.{degree, most_reach}
use Rattle.coordinate.specs.Control.{Control}
use Rattle.coordinate.specs.Curve.{Curve, curve, exact}
use Rattle.coordinate.specs.Course.{first, course}
use Rattle.coordinate.proofs.Points.{Extent, Reach}
use Rattle.coordinate.proofs.Bernstein.{ends}
use Rattle.coordinate.proofs.Exact.{alpha_of, beta_of, chord_of}
use Rattle.coordinate.proofs.Multiple.{times, exact_times, alpha_times, beta_times, chord_times}
use Rattle.coordinate.proofs.CubicSizes.{alpha_size, beta_size, chord_size, finest_size, exact_size}
use Rattle.coordinate.proofs.Raised.{raised, thrice, raised_extent, raised_reach}
use Rattle.coordinate.proofs.Sizes.{Tame, in_units, in_chords}

-- the curve of each degree, m times, as a cubic within W
record Raised (F : ℕ) (f : Curve) : Type 0 where
  m : ℕ
  some : 0 < m
  points : Control Cubic
  is : times m f ≡ curve Cubic points
  W : ℕ
  extent : Extent Cubic (m * 16384) points
  reach : Reach Cubic W points
  fits : 36 * W ≤ m * 32767
  room : 3 * W ≤ m * (2 ^ F - 2)

module _ (F : ℕ) (f : Curve) (h : F ≤ 16) (r : Raised F f) where
  abbrev κ : ℕ
  κ = 2 ^ (16 - F)

  abbrev G : ℕ
  G = 2 ^ F

  abbrev g : Curve
  g = curve Cubic r.points

  -- a number of which m times is known
  part : {z y : ℤ} {b k : ℕ} → z *ℤ pos r.m ≡ y → b ≤ k * r.m → Size y b → Size z k
  part e l s = size_factor r.m r.some (size_by e l s)

  extent_part : (q : ℕ) → q ≤ G → Size (exact F f q) (16384 * 2 ^ (3 * F))
  extent_part q l =
      part (exact_times r.m f F q ∙ ap (λ (c : Curve). exact F c q) r.is) (omega arith) (exact_size F (r.m * 16384) r.points r.extent q l)

  alpha_part : (s : ℕ) → s ≤ G → Size (alpha_of κ f s) (65536 * 32767)
  alpha_part s l =
      part {k = 65536 * 32767} (alpha_times r.m f κ s ∙ ap (λ (c : Curve). alpha_of κ c s) r.is) (omega arith)
      (in_units {k = r.m * 32767} F h (omega (arith, r.fits)) (alpha_size κ G r.W r.points r.reach s l))

  beta_part : (s q : ℕ) → s ≤ G → q ≤ G → Size (beta_of κ G f s q) (65536 * 32767)
  beta_part s q l k =
      part {k = 65536 * 32767} (beta_times r.m f κ G s q ∙ ap (λ (c : Curve). beta_of κ G c s q) r.is) (omega arith)
      (in_units {k = r.m * 32767} F h r.fits (beta_size κ G r.W r.points r.reach s q l k))

  chord_part : (s q w k : ℕ) → w ≤ r.m * k → Size (chord_of κ G g s q) (κ * G * w * (G * G)) → Size (chord_of κ G f s q) (65536 * k * (G * G))
  chord_part s q w k l z =
      part (chord_times r.m f κ G s q ∙ ap (λ (c : Curve). chord_of κ G c s q) r.is) (total (G * G)) (in_chords {k = r.m * k} F (G * G) h l z)
    where
      total : (S : ℕ) → 65536 * (r.m * k) * S ≤ 65536 * k * S * r.m
      total S = omega arith

-- ---- of each degree

lifted : (D : Degree) (F W : ℕ) (p : Control D) → W ≤ most_reach D → degree D * W + 2 ≤ 2 ^ F → Extent D 16384 p → Reach D W p → Raised F (curve D p)
lifted Quadratic F W p w l e v =
    record {
      m = 3;
      some = lit< tt;
      points = raised p;
      is = thrice p;
      W = 2 * W;
      extent = raised_extent 16384 p e;
      reach = raised_reach W p v;
      fits = omega arith;
      room = omega arith;
    }
lifted Cubic F W p w l e v =
    record { m = 1; some = lit< tt; points = p; is = once; W = W; extent = e; reach = v; fits = omega arith; room = omega arith }
  where
    same : (z : ℤ) → z *ℤ pos 1 ≡ z
    same = ring 1 (λ z. (z :* # 1, z)) tt

    once : times 1 (curve Cubic p) ≡ curve Cubic p
    once = let f = curve Cubic p in λ i. record { A = same f.A i; B = same f.B i; C = same f.C i; D = same f.D i }

begins : (D : Degree) (p : Control D) → (curve D p).D ≡ first D p
unfolding curve
begins Quadratic p = refl
begins Cubic p = refl

pub tame : (D : Degree) (F W : ℕ) (p : Control D) → F ≤ 16 → W ≤ most_reach D → degree D * W + 2 ≤ 2 ^ F → Extent D 16384 p → Reach D W p
    → Tame F (course D p)
tame D F W p h w l e v =
    let r = lifted D F W p w l e v in
    let f = curve D p in
    let G = 2 ^ F in
    record {
      starts = begins D p;
      ends = ends D F p;
      extent = extent_part F f h r;
      alpha = alpha_part F f h r;
      beta = beta_part F f h r;
      chord = λ s q a b. chord_part F f h r s q (31 * r.W) 32767 (omega (arith, r.fits)) (chord_size (2 ^ (16 - F)) G r.W r.points r.reach s q a b);
      finest = λ q b. chord_part F f h r 1 q (3 * r.W) (G - 2) r.room (finest_size (2 ^ (16 - F)) G r.W q r.points b r.reach);
    }
