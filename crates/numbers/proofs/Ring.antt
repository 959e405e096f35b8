-- Ring identities over ℤ by computation: `ring 3 (λ x y z. (left, right)) tt` proves `left ≡ right` of every x, y and z.
-- Both sides are written as expressions; their difference is brought to a polynomial, and each coefficient of it must be 0.
-- A polynomial in n + 1 variables is the list of the coefficients of the powers of the first, polynomials in the other n.
use mathlib.Core.Path.{◌≡◌, refl, sym, ap, ap₂, ◌∙◌, subst}
use mathlib.Core.List.{List, [], ◌∷◌}
use mathlib.Core.Bool.{Bool, true, false, ◌&&◌}
use Prim.Native.Nat.{ℕ, zero, suc}
use lib.Dec.{T}
use lib.IntN.{ℤ, pos, negsuc, neg_ℤ, ◌+ℤ◌, ◌-ℤ◌, ◌*ℤ◌, +ℤ_idr, +ℤ_idl, *ℤ_comm, zero-*ℤ, *ℤ-zero}
use mir.Facts.{and_yes}
use Rattle.numbers.proofs.Parts.{*ℤ-assoc, *ℤ-+ℤ, +ℤ-*ℤ, minus-one-*ℤ, swap_middle, one-*ℤ, no_difference}

-- ---- expressions and their values

infixl 60 ◌:+◌ ◌:-◌
infixl 70 ◌:*◌
pub data Ex : Type 0 where
  var : ℕ → Ex
  con : ℤ → Ex
  ◌:+◌ : Ex → Ex → Ex
  ◌:-◌ : Ex → Ex → Ex
  ◌:*◌ : Ex → Ex → Ex

-- a numeral
abbrev pub # : ℕ → Ex
# n = con (pos n)

abbrev hd : List ℤ → ℤ
hd [] = pos 0
hd (x ∷ ρ) = x

abbrev tl : List ℤ → List ℤ
tl [] = []
tl (x ∷ ρ) = ρ

abbrev at : List ℤ → ℕ → ℤ
at ρ zero = hd ρ
at ρ (suc i) = at (tl ρ) i

abbrev pub value : Ex → List ℤ → ℤ
value (var i) ρ = at ρ i
value (con c) ρ = c
value (a :+ b) ρ = value a ρ +ℤ value b ρ
value (a :- b) ρ = value a ρ -ℤ value b ρ
value (a :* b) ρ = value a ρ *ℤ value b ρ

-- ---- polynomials in one variable over coefficients A

abbrev sums : {A : Type 0} → (A → A → A) → List A → List A → List A
sums f [] q = q
sums f (a ∷ p) [] = a ∷ p
sums f (a ∷ p) (b ∷ q) = f a b ∷ sums f p q

abbrev maps : {A : Type 0} → (A → A) → List A → List A
maps f [] = []
maps f (a ∷ p) = f a ∷ maps f p

abbrev products : {A : Type 0} → (A → A → A) → (A → A → A) → A → List A → List A → List A
products add mul z [] q = []
products add mul z (a ∷ p) q = sums add (maps (mul a) q) (z ∷ products add mul z p q)

abbrev every : {A : Type 0} → (A → Bool) → List A → Bool
every f [] = true
every f (a ∷ p) = f a && every f p

-- the value at x, where ev gives the coefficients' values
abbrev horner : {A : Type 0} → (A → ℤ) → ℤ → List A → ℤ
horner ev x [] = pos 0
horner ev x (a ∷ p) = ev a +ℤ x *ℤ horner ev x p

module _ {A : Type 0} (ev : A → ℤ) (x : ℤ) where
  sums_value : (f : A → A → A) → ((a b : A) → ev (f a b) ≡ ev a +ℤ ev b)
      → (p q : List A) → horner ev x (sums f p q) ≡ horner ev x p +ℤ horner ev x q
  sums_value f h [] q = sym (+ℤ_idl (horner ev x q))
  sums_value f h (a ∷ p) [] = sym (+ℤ_idr (horner ev x (a ∷ p)))
  sums_value f h (a ∷ p) (b ∷ q) =
      ap₂ ◌+ℤ◌ (h a b) (ap (λ (t : ℤ). x *ℤ t) (sums_value f h p q) ∙ *ℤ-+ℤ x (horner ev x p) (horner ev x q))
      ∙ swap_middle (ev a) (ev b) (x *ℤ horner ev x p) (x *ℤ horner ev x q)

  left_comm : (c t : ℤ) → x *ℤ (c *ℤ t) ≡ c *ℤ (x *ℤ t)
  left_comm c t = sym (*ℤ-assoc x c t) ∙ ap (λ (u : ℤ). u *ℤ t) (*ℤ_comm x c) ∙ *ℤ-assoc c x t

  maps_value : (f : A → A) (c : ℤ) → ((a : A) → ev (f a) ≡ c *ℤ ev a)
      → (p : List A) → horner ev x (maps f p) ≡ c *ℤ horner ev x p
  maps_value f c h [] = sym (*ℤ-zero c)
  maps_value f c h (a ∷ p) =
      ap₂ ◌+ℤ◌ (h a) (ap (λ (t : ℤ). x *ℤ t) (maps_value f c h p) ∙ left_comm c (horner ev x p))
      ∙ sym (*ℤ-+ℤ c (ev a) (x *ℤ horner ev x p))

  products_value : (add mul : A → A → A) (z : A)
      → ((a b : A) → ev (add a b) ≡ ev a +ℤ ev b)
      → ((a b : A) → ev (mul a b) ≡ ev a *ℤ ev b)
      → ev z ≡ pos 0
      → (p q : List A) → horner ev x (products add mul z p q) ≡ horner ev x p *ℤ horner ev x q
  products_value add mul z ha hm hz [] q = sym (zero-*ℤ (horner ev x q))
  products_value add mul z ha hm hz (a ∷ p) q =
      let rest : ℤ = horner ev x (products add mul z p q) in
      sums_value add ha (maps (mul a) q) (z ∷ products add mul z p q)
      ∙ ap₂ ◌+ℤ◌ (maps_value (mul a) (ev a) (hm a) q)
      (ap (λ (t : ℤ). t +ℤ x *ℤ rest) hz
      ∙ +ℤ_idl (x *ℤ rest)
      ∙ ap (λ (t : ℤ). x *ℤ t) (products_value add mul z ha hm hz p q)
      ∙ sym (*ℤ-assoc x (horner ev x p) (horner ev x q)))
      ∙ sym (+ℤ-*ℤ (ev a) (x *ℤ horner ev x p) (horner ev x q))

  every_zero : (f : A → Bool) → ((a : A) → T (f a) → ev a ≡ pos 0) → (p : List A) → T (every f p) → horner ev x p ≡ pos 0
  every_zero f h [] t = refl
  every_zero f h (a ∷ p) t =
      let ts = and_yes (f a) (every f p) t in
      ap₂ ◌+ℤ◌ (h a ts.0) (ap (λ (u : ℤ). x *ℤ u) (every_zero f h p ts.1) ∙ *ℤ-zero x)

-- ---- polynomials in n variables

abbrev Pol : ℕ → Type 0
Pol zero = ℤ
Pol (suc n) = List (Pol n)

abbrev pzero : (n : ℕ) → Pol n
pzero zero = pos 0
pzero (suc n) = []

abbrev pcon : (n : ℕ) → ℤ → Pol n
pcon zero c = c
pcon (suc n) c = pcon n c ∷ []

abbrev pvar : (n : ℕ) → ℕ → Pol n
pvar zero i = pos 0
pvar (suc n) zero = pzero n ∷ pcon n (pos 1) ∷ []
pvar (suc n) (suc i) = pvar n i ∷ []

abbrev padd : (n : ℕ) → Pol n → Pol n → Pol n
padd zero a b = a +ℤ b
padd (suc n) p q = sums (padd n) p q

abbrev pneg : (n : ℕ) → Pol n → Pol n
pneg zero a = neg_ℤ a
pneg (suc n) p = maps (pneg n) p

abbrev pmul : (n : ℕ) → Pol n → Pol n → Pol n
pmul zero a b = a *ℤ b
pmul (suc n) p q = products (padd n) (pmul n) (pzero n) p q

abbrev is_zero : ℤ → Bool
is_zero (pos zero) = true
is_zero (pos (suc n)) = false
is_zero (negsuc n) = false

abbrev pis_zero : (n : ℕ) → Pol n → Bool
pis_zero zero a = is_zero a
pis_zero (suc n) p = every (pis_zero n) p

abbrev normal : (n : ℕ) → Ex → Pol n
normal n (var i) = pvar n i
normal n (con c) = pcon n c
normal n (a :+ b) = padd n (normal n a) (normal n b)
normal n (a :- b) = padd n (normal n a) (pneg n (normal n b))
normal n (a :* b) = pmul n (normal n a) (normal n b)

abbrev pvalue : (n : ℕ) → List ℤ → Pol n → ℤ
pvalue zero ρ a = a
pvalue (suc n) ρ p = horner (pvalue n (tl ρ)) (hd ρ) p

pzero_value : (n : ℕ) (ρ : List ℤ) → pvalue n ρ (pzero n) ≡ pos 0
pzero_value zero ρ = refl
pzero_value (suc n) ρ = refl

pcon_value : (n : ℕ) (ρ : List ℤ) (c : ℤ) → pvalue n ρ (pcon n c) ≡ c
pcon_value zero ρ c = refl
pcon_value (suc n) ρ c = ap₂ ◌+ℤ◌ (pcon_value n (tl ρ) c) (*ℤ-zero (hd ρ)) ∙ +ℤ_idr c

padd_value : (n : ℕ) (ρ : List ℤ) (p q : Pol n) → pvalue n ρ (padd n p q) ≡ pvalue n ρ p +ℤ pvalue n ρ q
padd_value zero ρ p q = refl
padd_value (suc n) ρ p q = sums_value (pvalue n (tl ρ)) (hd ρ) (padd n) (padd_value n (tl ρ)) p q

pneg_value : (n : ℕ) (ρ : List ℤ) (p : Pol n) → pvalue n ρ (pneg n p) ≡ negsuc 0 *ℤ pvalue n ρ p
pneg_value zero ρ p = sym (minus-one-*ℤ p)
pneg_value (suc n) ρ p = maps_value (pvalue n (tl ρ)) (hd ρ) (pneg n) (negsuc 0) (pneg_value n (tl ρ)) p

pmul_value : (n : ℕ) (ρ : List ℤ) (p q : Pol n) → pvalue n ρ (pmul n p q) ≡ pvalue n ρ p *ℤ pvalue n ρ q
pmul_value zero ρ p q = refl
pmul_value (suc n) ρ p q =
    products_value (pvalue n (tl ρ)) (hd ρ) (padd n) (pmul n) (pzero n) (padd_value n (tl ρ)) (pmul_value n (tl ρ)) (pzero_value n (tl ρ)) p q

is_zero_value : (a : ℤ) → T (is_zero a) → a ≡ pos 0
is_zero_value (pos zero) t = refl
is_zero_value (pos (suc n)) t = absurd t
is_zero_value (negsuc n) t = absurd t

pis_zero_value : (n : ℕ) (ρ : List ℤ) (p : Pol n) → T (pis_zero n p) → pvalue n ρ p ≡ pos 0
pis_zero_value zero ρ p t = is_zero_value p t
pis_zero_value (suc n) ρ p t = every_zero (pvalue n (tl ρ)) (hd ρ) (pis_zero n) (pis_zero_value n (tl ρ)) p t

abbrev count : List ℤ → ℕ
count [] = zero
count (x ∷ ρ) = suc (count ρ)

at_none : (i : ℕ) → at [] i ≡ pos 0
at_none zero = refl
at_none (suc i) = at_none i

pvar_value : (ρ : List ℤ) (i : ℕ) → pvalue (count ρ) ρ (pvar (count ρ) i) ≡ at ρ i
pvar_value [] i = sym (at_none i)
pvar_value (x ∷ ρ) zero =
    ap₂ ◌+ℤ◌ (pzero_value (count ρ) ρ)
    (ap (λ (t : ℤ). x *ℤ t) (ap₂ ◌+ℤ◌ (pcon_value (count ρ) ρ (pos 1)) (*ℤ-zero x)) ∙ *ℤ_comm x (pos 1) ∙ one-*ℤ x)
    ∙ +ℤ_idl x
pvar_value (x ∷ ρ) (suc i) = ap₂ ◌+ℤ◌ (pvar_value ρ i) (*ℤ-zero x) ∙ +ℤ_idr (at ρ i)

normal_value : (e : Ex) (ρ : List ℤ) → pvalue (count ρ) ρ (normal (count ρ) e) ≡ value e ρ
normal_value (var i) ρ = pvar_value ρ i
normal_value (con c) ρ = pcon_value (count ρ) ρ c
normal_value (a :+ b) ρ =
    padd_value (count ρ) ρ (normal (count ρ) a) (normal (count ρ) b) ∙ ap₂ ◌+ℤ◌ (normal_value a ρ) (normal_value b ρ)
normal_value (a :- b) ρ =
    let b' : Pol (count ρ) = normal (count ρ) b in
    padd_value (count ρ) ρ (normal (count ρ) a) (pneg (count ρ) b')
    ∙ ap₂ ◌+ℤ◌ (normal_value a ρ)
    (pneg_value (count ρ) ρ b' ∙ minus-one-*ℤ (pvalue (count ρ) ρ b') ∙ ap neg_ℤ (normal_value b ρ))
normal_value (a :* b) ρ =
    pmul_value (count ρ) ρ (normal (count ρ) a) (normal (count ρ) b) ∙ ap₂ ◌*ℤ◌ (normal_value a ρ) (normal_value b ρ)

equal_at : (l r : Ex) (ρ : List ℤ) → T (pis_zero (count ρ) (normal (count ρ) (l :- r))) → value l ρ ≡ value r ρ
equal_at l r ρ t =
    no_difference (value l ρ) (value r ρ)
    (sym (normal_value (l :- r) ρ) ∙ pis_zero_value (count ρ) ρ (normal (count ρ) (l :- r)) t)

-- ---- the identity, as a function of its variables

-- functions of n arguments
abbrev pub Sides : ℕ → Type 0
Sides zero = Ex × Ex
Sides (suc n) = Ex → Sides n

-- at the variables i, i + 1, ..
abbrev pub sides : (n : ℕ) → Sides n → ℕ → Ex × Ex
sides zero s i = s
sides (suc n) f i = sides n (f (var i)) (suc i)

-- the two sides are equal at every value of n variables; k adds those that went before
abbrev pub Equal : ℕ → Ex × Ex → (List ℤ → List ℤ) → Type 0
Equal zero s k = value s.0 (k []) ≡ value s.1 (k [])
Equal (suc n) s k = (x : ℤ) → Equal n s (λ ρ. k (x ∷ ρ))

-- the test has no value in sight, so that it computes
abbrev pub Same : ℕ → Ex × Ex → Type 0
Same n s = T (pis_zero n (normal n (s.0 :- s.1)))

equal_all : (n : ℕ) (s : Ex × Ex) (k : List ℤ → List ℤ) → ((ρ : List ℤ) → count ρ ≡ n → Same (count (k ρ)) s) → Equal n s k
equal_all zero s k h = equal_at s.0 s.1 (k []) (h [] refl)
equal_all (suc n) s k h = λ x. equal_all n s (λ ρ. k (x ∷ ρ)) (λ ρ e. h (x ∷ ρ) (ap suc e))

pub ring : (n : ℕ) (f : Sides n) → Same n (sides n f 0) → Equal n (sides n f 0) (λ ρ. ρ)
ring n f t = equal_all n (sides n f 0) (λ ρ. ρ) (λ ρ e. subst (λ (m : ℕ). Same m (sides n f 0)) (sym e) t)
