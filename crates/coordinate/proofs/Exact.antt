-- What the registers stand for on the exact curve, and what each floor loses, over whole numbers. G = 2^F, M = 2^n and s = 2^(F-n),
-- so that G = M·s; κ·G = 65,536. At step s and position q the registers a and b are `alpha` and `beta` exactly; c and d lose by their
-- floors, c against `chord` / G² and d against `place` / G³.
use mathlib.Core.Path.{◌≡◌}
use Prim.Native.Nat.{ℕ}
use lib.IntN.{ℤ, pos, ◌+ℤ◌, ◌-ℤ◌, ◌*ℤ◌}
use lib.Signed.{◌≤ℤ◌}
use Rattle.numbers.proofs.Ring.{Ex, #, ◌:+◌, ◌:-◌, ◌:*◌, ring}
use Rattle.coordinate.specs.Curve.{Curve}
use Rattle.numbers.proofs.Order.{◌⊕◌, ◌⊗◌, gap, certified}

abbrev pub alpha : ℤ → ℤ → ℤ → ℤ
alpha κ A s = κ *ℤ (pos 6 *ℤ A *ℤ s)

abbrev pub beta : ℤ → ℤ → ℤ → ℤ → ℤ → ℤ → ℤ
beta κ G A B s q = κ *ℤ (pos 6 *ℤ A *ℤ (q +ℤ s) +ℤ pos 2 *ℤ B *ℤ G)

-- G² times the exact c
abbrev pub chord : ℤ → ℤ → ℤ → ℤ → ℤ → ℤ → ℤ → ℤ
chord κ G A B C s q =
    κ *ℤ G *ℤ (C *ℤ G *ℤ G +ℤ B *ℤ G *ℤ (pos 2 *ℤ q +ℤ s) +ℤ A *ℤ (pos 3 *ℤ q *ℤ q +ℤ pos 3 *ℤ q *ℤ s +ℤ s *ℤ s))

-- G³ times the exact d
abbrev pub place : ℤ → ℤ → ℤ → ℤ → ℤ → ℤ → ℤ → ℤ
place κ G A B C D q =
    κ *ℤ G *ℤ (A *ℤ q *ℤ q *ℤ q +ℤ B *ℤ q *ℤ q *ℤ G +ℤ C *ℤ q *ℤ G *ℤ G +ℤ D *ℤ G *ℤ G *ℤ G)

-- the errors of c and of d
abbrev pub lag : ℤ → ℤ → ℤ → ℤ
lag G c x = c *ℤ G *ℤ G -ℤ x

abbrev pub miss : ℤ → ℤ → ℤ → ℤ
miss G d y = d *ℤ G *ℤ G *ℤ G -ℤ y

-- the bound of twice d's error at q
abbrev pub drift : ℤ → ℤ → ℤ
drift G q = (q *ℤ q +ℤ pos 2 *ℤ q *ℤ G -ℤ q) *ℤ G *ℤ G

-- ---- the same of a curve, in the registers' own numbers

abbrev pub alpha_of : ℕ → Curve → ℕ → ℤ
alpha_of κ f s = alpha (pos κ) f.A (pos s)

abbrev pub beta_of : ℕ → ℕ → Curve → ℕ → ℕ → ℤ
beta_of κ G f s q = beta (pos κ) (pos G) f.A f.B (pos s) (pos q)

abbrev pub chord_of : ℕ → ℕ → Curve → ℕ → ℕ → ℤ
chord_of κ G f s q = chord (pos κ) (pos G) f.A f.B f.C (pos s) (pos q)

abbrev pub place_of : ℕ → ℕ → Curve → ℕ → ℤ
place_of κ G f q = place (pos κ) (pos G) f.A f.B f.C f.D (pos q)

abbrev pub lag_of : ℕ → ℕ → Curve → ℕ → ℕ → ℤ → ℤ
lag_of κ G f s q c = lag (pos G) c (chord_of κ G f s q)

abbrev pub miss_of : ℕ → ℕ → Curve → ℕ → ℤ → ℤ
miss_of κ G f q d = miss (pos G) d (place_of κ G f q)

-- ---- the same as expressions

abbrev pub alpha_e : Ex → Ex → Ex → Ex
alpha_e κ A s = κ :* (# 6 :* A :* s)

abbrev pub beta_e : Ex → Ex → Ex → Ex → Ex → Ex → Ex
beta_e κ G A B s q = κ :* (# 6 :* A :* (q :+ s) :+ # 2 :* B :* G)

abbrev pub chord_e : Ex → Ex → Ex → Ex → Ex → Ex → Ex → Ex
chord_e κ G A B C s q =
    κ :* G :* (C :* G :* G :+ B :* G :* (# 2 :* q :+ s) :+ A :* (# 3 :* q :* q :+ # 3 :* q :* s :+ s :* s))

abbrev pub place_e : Ex → Ex → Ex → Ex → Ex → Ex → Ex → Ex
place_e κ G A B C D q = κ :* G :* (A :* q :* q :* q :+ B :* q :* q :* G :+ C :* q :* G :* G :+ D :* G :* G :* G)

abbrev pub lag_e : Ex → Ex → Ex → Ex
lag_e G c x = c :* G :* G :- x

abbrev pub miss_e : Ex → Ex → Ex → Ex
miss_e G d y = d :* G :* G :* G :- y

abbrev pub drift_e : Ex → Ex → Ex
drift_e G q = (q :* q :+ # 2 :* q :* G :- q) :* G :* G

-- ---- one halving, from step 2s to step s at level n: c gives up η, the floor of beta / 4M, and its error grows by 0 to G²

pub halve_lag_low : (κ M s A B C q c η G t : ℤ) → G ≡ pos 2 *ℤ M *ℤ s → t ≡ pos 2 *ℤ s → pos 0 ≤ℤ s → pos 0 ≤ℤ M
    → (pos 4 *ℤ M *ℤ η) ≤ℤ beta κ G A B s q
    → lag G c (chord κ G A B C t q) ≤ℤ lag G (c -ℤ η) (chord κ G A B C s q)
halve_lag_low κ M s A B C q c η G t eG et hs hM h =
    rw (eG, et)
    (certified (ring 9 (λ κ M s A B C q c η. let G : Ex = # 2 :* M :* s in (
      lag_e G (c :- η) (chord_e κ G A B C s q) :- lag_e G c (chord_e κ G A B C (# 2 :* s) q),
      s :* s :* M :* (beta_e κ G A B s q :- # 4 :* M :* η),
    )) tt κ M s A B C q c η)
    (hs ⊗ hs ⊗ hM ⊗ gap (rw eG at h)))

pub halve_lag_high : (κ M s A B C q c η G t : ℤ) → G ≡ pos 2 *ℤ M *ℤ s → t ≡ pos 2 *ℤ s → pos 0 ≤ℤ s → pos 0 ≤ℤ M
    → beta κ G A B s q ≤ℤ (pos 4 *ℤ M *ℤ η +ℤ pos 4 *ℤ M -ℤ pos 1)
    → lag G (c -ℤ η) (chord κ G A B C s q) ≤ℤ (lag G c (chord κ G A B C t q) +ℤ G *ℤ G)
halve_lag_high κ M s A B C q c η G t eG et hs hM h =
    rw (eG, et)
    (certified (ring 9 (λ κ M s A B C q c η. let G : Ex = # 2 :* M :* s in (
      lag_e G c (chord_e κ G A B C (# 2 :* s) q) :+ G :* G :- lag_e G (c :- η) (chord_e κ G A B C s q),
      s :* s :* M :* (# 4 :* M :* η :+ # 4 :* M :- # 1 :- beta_e κ G A B s q) :+ s :* s :* M,
    )) tt κ M s A B C q c η)
    (hs ⊗ hs ⊗ hM ⊗ gap (rw eG at h) ⊕ hs ⊗ hs ⊗ hM))

-- ---- a step at level n: c gains γ, the floor of beta / M, and its error falls by 0 to G²

pub step_lag_low : (κ M s A B C q c γ G : ℤ) → G ≡ M *ℤ s → pos 0 ≤ℤ s → pos 0 ≤ℤ G
    → beta κ G A B s q ≤ℤ (M *ℤ γ +ℤ M -ℤ pos 1)
    → (lag G c (chord κ G A B C s q) -ℤ G *ℤ G) ≤ℤ lag G (c +ℤ γ) (chord κ G A B C s (q +ℤ s))
step_lag_low κ M s A B C q c γ G eG hs hG h =
    rw eG
    (certified (ring 9 (λ κ M s A B C q c γ. let G : Ex = M :* s in (
      lag_e G (c :+ γ) (chord_e κ G A B C s (q :+ s)) :- (lag_e G c (chord_e κ G A B C s q) :- G :* G),
      s :* G :* (M :* γ :+ M :- # 1 :- beta_e κ G A B s q) :+ s :* G,
    )) tt κ M s A B C q c γ)
    (hs ⊗ (rw eG at hG) ⊗ gap (rw eG at h) ⊕ hs ⊗ (rw eG at hG)))

pub step_lag_high : (κ M s A B C q c γ G : ℤ) → G ≡ M *ℤ s → pos 0 ≤ℤ s → pos 0 ≤ℤ G
    → (M *ℤ γ) ≤ℤ beta κ G A B s q
    → lag G (c +ℤ γ) (chord κ G A B C s (q +ℤ s)) ≤ℤ lag G c (chord κ G A B C s q)
step_lag_high κ M s A B C q c γ G eG hs hG h =
    rw eG
    (certified (ring 9 (λ κ M s A B C q c γ. let G : Ex = M :* s in (
      lag_e G c (chord_e κ G A B C s q) :- lag_e G (c :+ γ) (chord_e κ G A B C s (q :+ s)),
      s :* G :* (beta_e κ G A B s q :- M :* γ),
    )) tt κ M s A B C q c γ)
    (hs ⊗ (rw eG at hG) ⊗ gap (rw eG at h)))

-- d gains δ, the floor of c / M: place grows by s·chord, so that d's error takes up s times c's, less what the floor drops
pub step_miss : (κ M s A B C D q c d δ G : ℤ) → G ≡ M *ℤ s
    → miss G (d +ℤ δ) (place κ G A B C D (q +ℤ s))
    ≡ miss G d (place κ G A B C D q) +ℤ s *ℤ lag G c (chord κ G A B C s q) -ℤ s *ℤ G *ℤ G *ℤ (c -ℤ M *ℤ δ)
step_miss κ M s A B C D q c d δ G eG =
    rw eG (ring 11 (λ κ M s A B C D q c d δ. let G : Ex = M :* s in (
      miss_e G (d :+ δ) (place_e κ G A B C D (q :+ s)),
      miss_e G d (place_e κ G A B C D q) :+ s :* lag_e G c (chord_e κ G A B C s q) :- s :* G :* G :* (c :- M :* δ),
    )) tt κ M s A B C D q c d δ)

-- ---- what the bounds become. E is c's error as it would be at the finest level, e as it stands, Z is d's

pub step_low : (q s G E E' e e' : ℤ)
    → e' ≤ℤ E' → (e -ℤ G *ℤ G) ≤ℤ e' → E ≤ℤ (e +ℤ (s -ℤ pos 1) *ℤ G *ℤ G) → (pos 0 -ℤ (q +ℤ pos 1) *ℤ G *ℤ G) ≤ℤ E
    → (pos 0 -ℤ (q +ℤ s +ℤ pos 1) *ℤ G *ℤ G) ≤ℤ E'
step_low q s G E E' e e' h1 h2 h3 h4 =
    certified (ring 7 (λ q s G E E' e e'. (
      E' :- (# 0 :- (q :+ s :+ # 1) :* G :* G),
      (E' :- e') :+ (e' :- (e :- G :* G)) :+ (e :+ (s :- # 1) :* G :* G :- E) :+ (E :- (# 0 :- (q :+ # 1) :* G :* G)),
    )) tt q s G E E' e e')
    (gap h1 ⊕ gap h2 ⊕ gap h3 ⊕ gap h4)

pub step_high : (q s G E E' e e' : ℤ) → pos 0 ≤ℤ G
    → E' ≤ℤ (e' +ℤ (s -ℤ pos 1) *ℤ G *ℤ G) → e' ≤ℤ e → e ≤ℤ E → E ≤ℤ ((q +ℤ G -ℤ pos 1) *ℤ G *ℤ G)
    → E' ≤ℤ ((q +ℤ s +ℤ G -ℤ pos 1) *ℤ G *ℤ G)
step_high q s G E E' e e' hG h1 h2 h3 h4 =
    certified (ring 7 (λ q s G E E' e e'. (
      (q :+ s :+ G :- # 1) :* G :* G :- E',
      (e' :+ (s :- # 1) :* G :* G :- E') :+ (e :- e') :+ (E :- e) :+ ((q :+ G :- # 1) :* G :* G :- E) :+ G :* G,
    )) tt q s G E E' e e')
    (gap h1 ⊕ gap h2 ⊕ gap h3 ⊕ gap h4 ⊕ hG ⊗ hG)

-- twice d's error grows by at most 2s·(q + G − 1)·G²
pub drift_high : (M s q c δ G E e Z : ℤ) → pos 0 ≤ℤ s → pos 0 ≤ℤ G
    → (pos 2 *ℤ Z) ≤ℤ drift G q → E ≤ℤ ((q +ℤ G -ℤ pos 1) *ℤ G *ℤ G) → e ≤ℤ E → (M *ℤ δ) ≤ℤ c
    → (pos 2 *ℤ (Z +ℤ s *ℤ e -ℤ s *ℤ G *ℤ G *ℤ (c -ℤ M *ℤ δ))) ≤ℤ drift G (q +ℤ s)
drift_high M s q c δ G E e Z hs hG h1 h2 h3 h4 =
    let two = hs ⊕ hs in
    certified (ring 9 (λ M s q c δ G E e Z. (
      drift_e G (q :+ s) :- # 2 :* (Z :+ s :* e :- s :* G :* G :* (c :- M :* δ)),
      (drift_e G q :- # 2 :* Z)
          :+ (s :+ s) :* ((q :+ G :- # 1) :* G :* G :- E)
          :+ (s :+ s) :* (E :- e)
          :+ (s :+ s) :* G :* G :* (c :- M :* δ)
          :+ (s :* s :+ s) :* G :* G,
    )) tt M s q c δ G E e Z)
    (gap h1 ⊕ two ⊗ gap h2 ⊕ two ⊗ gap h3 ⊕ two ⊗ hG ⊗ hG ⊗ gap h4 ⊕ (hs ⊗ hs ⊕ hs) ⊗ hG ⊗ hG)

-- and falls by at most 2·(s·(q + s) + G − s)·G²: that is all of the bound where s is 1, and (s − 1)·(2·G − s)·G² are left else
pub drift_low : (M s q c δ G E e Z : ℤ) → G ≡ M *ℤ s → pos 0 ≤ℤ (M -ℤ pos 1) → pos 0 ≤ℤ s → pos 0 ≤ℤ (s -ℤ pos 1) → pos 0 ≤ℤ G
    → (pos 0 -ℤ drift G q) ≤ℤ (pos 2 *ℤ Z) → (pos 0 -ℤ (q +ℤ pos 1) *ℤ G *ℤ G) ≤ℤ E → E ≤ℤ (e +ℤ (s -ℤ pos 1) *ℤ G *ℤ G) → c ≤ℤ (M *ℤ δ +ℤ M -ℤ pos 1)
    → (pos 0 -ℤ drift G (q +ℤ s)) ≤ℤ (pos 2 *ℤ (Z +ℤ s *ℤ e -ℤ s *ℤ G *ℤ G *ℤ (c -ℤ M *ℤ δ)))
drift_low M s q c δ G E e Z eG hM hs hu hG h1 h2 h3 h4 =
    let G0 = rw eG at hG in
    let two = hs ⊕ hs in
    rw eG
    (certified (ring 8 (λ M s q c δ E e Z. let G : Ex = M :* s in (
      # 2 :* (Z :+ s :* e :- s :* G :* G :* (c :- M :* δ)) :- (# 0 :- drift_e G (q :+ s)),
      (# 2 :* Z :- (# 0 :- drift_e G q))
          :+ (s :+ s) :* (E :- (# 0 :- (q :+ # 1) :* G :* G))
          :+ (s :+ s) :* (e :+ (s :- # 1) :* G :* G :- E)
          :+ (s :+ s) :* G :* G :* (M :* δ :+ M :- # 1 :- c)
          :+ (s :- # 1) :* (G :+ (M :- # 1) :* s) :* G :* G,
    )) tt M s q c δ E e Z)
    (gap (rw eG at h1) ⊕ two ⊗ gap (rw eG at h2) ⊕ two ⊗ gap (rw eG at h3) ⊕ two ⊗ G0 ⊗ G0 ⊗ gap h4 ⊕ hu ⊗ (G0 ⊕ hM ⊗ hs) ⊗ G0 ⊗ G0))

-- ---- the start: c is the floor of 65,536·(C·M² + B·M + A) by M²

pub start_low : (κ M s A B C c E G : ℤ) → G ≡ M *ℤ s → pos 0 ≤ℤ s
    → (κ *ℤ G *ℤ (C *ℤ (M *ℤ M) +ℤ B *ℤ M +ℤ A)) ≤ℤ (M *ℤ M *ℤ c +ℤ M *ℤ M -ℤ pos 1)
    → lag G c (chord κ G A B C s (pos 0)) ≤ℤ E
    → (pos 0 -ℤ (pos 0 +ℤ pos 1) *ℤ G *ℤ G) ≤ℤ E
start_low κ M s A B C c E G eG hs h k =
    rw eG
    (certified (ring 8 (λ κ M s A B C c E. let G : Ex = M :* s in (
      E :- (# 0 :- (# 0 :+ # 1) :* G :* G),
      (E :- lag_e G c (chord_e κ G A B C s (# 0))) :+ s :* s :* (M :* M :* c :+ M :* M :- # 1 :- κ :* G :* (C :* (M :* M) :+ B :* M :+ A)) :+ s :* s,
    )) tt κ M s A B C c E)
    (gap (rw eG at k) ⊕ hs ⊗ hs ⊗ gap (rw eG at h) ⊕ hs ⊗ hs))

pub start_high : (κ M s A B C c E G : ℤ) → G ≡ M *ℤ s → pos 0 ≤ℤ s → pos 0 ≤ℤ (M -ℤ pos 1) → pos 0 ≤ℤ G
    → (M *ℤ M *ℤ c) ≤ℤ (κ *ℤ G *ℤ (C *ℤ (M *ℤ M) +ℤ B *ℤ M +ℤ A))
    → E ≤ℤ (lag G c (chord κ G A B C s (pos 0)) +ℤ (s -ℤ pos 1) *ℤ G *ℤ G)
    → E ≤ℤ ((pos 0 +ℤ G -ℤ pos 1) *ℤ G *ℤ G)
start_high κ M s A B C c E G eG hs hM hG h k =
    let G0 = rw eG at hG in
    rw eG
    (certified (ring 8 (λ κ M s A B C c E. let G : Ex = M :* s in (
      (# 0 :+ G :- # 1) :* G :* G :- E,
      (lag_e G c (chord_e κ G A B C s (# 0)) :+ (s :- # 1) :* G :* G :- E)
          :+ s :* s :* (κ :* G :* (C :* (M :* M) :+ B :* M :+ A) :- M :* M :* c)
          :+ (M :- # 1) :* s :* G :* G,
    )) tt κ M s A B C c E)
    (gap (rw eG at k) ⊕ hs ⊗ hs ⊗ gap (rw eG at h) ⊕ hM ⊗ hs ⊗ G0 ⊗ G0))
