-- What becomes of each entry: it stays, or it is a repeat, or it is the middle of an elbow whose ends stay.
use mathlib.Core.Path.{◌≡◌, refl, sym, ap, subst}
use mathlib.Core.List.{List, [], ◌∷◌, ◌++◌}
use Rattle.numbers.specs.Tables.{All}
use Rattle.numbers.proofs.Tests.{by_test}
use Rattle.numbers.proofs.Tables.{all_weaker}
use Rattle.entries.specs.declared.Entry.{Entry}
use Rattle.entries.specs.Entries.{Among}
use Rattle.entries.proofs.Along.{among_head, among_after}
use Rattle.cleaned.specs.Moves.{same_pixel, is_elbow, SamePixel, Elbow}
use Rattle.cleaned.specs.Cleaned.{runs_from, runs, straight_after, straight, cleaned}
use Rattle.cleaned.specs.Along.{Piece, Fate, kept, repeats, repeated, middle}
use Rattle.cleaned.proofs.Moves.{same-pixel, itself, turned_round, through, is-elbow}

piece_head : (xs after : List Entry) → Piece xs (xs ++ after)
piece_head xs after = record { before = []; after = after; split = refl }

piece_after : (e : Entry) {xs es : List Entry} → Piece xs es → Piece xs (e ∷ es)
piece_after e p = record { before = e ∷ p.before; after = p.after; split = ap (λ (es : List Entry). e ∷ es) p.split }

among_further : (k : Entry) {e : Entry} {ks : List Entry} → Among e ks → Among e (k ∷ ks)
among_further k {e} {ks} i = among_after e (k ∷ []) ks i

-- ---- repeats: of es the entries bs are kept

data Single (es bs : List Entry) (e : Entry) : Type 0 where
  single : Among e bs → Single es bs e
  follows : (f : Entry) → Piece (f ∷ e ∷ []) es → SamePixel f e → Single es bs e
  precedes : (f : Entry) → Piece (e ∷ f ∷ []) es → SamePixel e f → Single es bs e

-- with an entry more before them
single_after : (x : Entry) {es bs : List Entry} (e : Entry) → Single es bs e → Single (x ∷ es) bs e
single_after x e (single i) = single i
single_after x e (follows f p s) = follows f (piece_after x p) s
single_after x e (precedes f p s) = precedes f (piece_after x p) s

single_kept : (k : Entry) {es bs : List Entry} (e : Entry) → Single es bs e → Single es (k ∷ bs) e
single_kept k e (single i) = single (among_further k i)
single_kept k e (follows f p s) = follows f p s
single_kept k e (precedes f p s) = precedes f p s

-- the first entry of a run, and those after l in the run from f to l
run_first : (e : Entry) (es : List Entry) → Single (e ∷ es) (runs_from e e es) e
unfolding runs_from
run_first e [] = single (among_head e [])
run_first e (f ∷ es) =
    by_test (same_pixel e f)
    (λ q. precedes f (piece_head (e ∷ f ∷ []) es) (same-pixel e f q))
    (λ q. rw q (single (among_head e (runs_from f f es))))

run_later : (f l : Entry) (es : List Entry) → SamePixel f l → All (Single (l ∷ es) (runs_from f l es)) es
unfolding runs_from
run_later f l [] s = tt
run_later f l (e ∷ es) s =
    by_test (same_pixel f e)
    (λ q.
    let t = same-pixel f e q in
    let on : runs_from f l (e ∷ es) ≡ runs_from f e es = rw q in
    subst (λ (bs : List Entry). All (Single (l ∷ e ∷ es) bs) (e ∷ es)) (sym on)
    (follows l (piece_head (l ∷ e ∷ []) es) (through (turned_round s) t), all_weaker (single_after l) es (run_later f e es t)))
    (λ q.
    let on : runs_from f l (e ∷ es) ≡ f ∷ runs_from e e es = rw q in
    subst (λ (bs : List Entry). All (Single (l ∷ e ∷ es) bs) (e ∷ es)) (sym on)
    (all_weaker (λ x i. single_after l x (single_kept f x i)) (e ∷ es) (run_first e es, run_later e e es (itself e))))

singles : (es : List Entry) → All (Single es (runs es)) es
unfolding runs
singles [] = tt
singles (e ∷ es) = (run_first e es, run_later e e es (itself e))

-- ---- elbows: of bs the entries ks are kept

data Straight (bs ks : List Entry) (e : Entry) : Type 0 where
  stays : Among e ks → Straight bs ks e
  bends : (a c : Entry) → Piece (a ∷ e ∷ c ∷ []) bs → Elbow a e c → Piece (a ∷ c ∷ []) ks → Straight bs ks e

straight-after : (b : Entry) {bs ks : List Entry} (e : Entry) → Straight bs ks e → Straight (b ∷ bs) ks e
straight-after b e (stays i) = stays i
straight-after b e (bends a c p h ends) = bends a c (piece_after b p) h ends

straight_kept : (k : Entry) {bs ks : List Entry} (e : Entry) → Straight bs ks e → Straight bs (k ∷ ks) e
straight_kept k e (stays i) = stays (among_further k i)
straight_kept k e (bends a c p h ends) = bends a c p h (piece_after k ends)

straight_from : (a : Entry) (es : List Entry) → All (Straight (a ∷ es) (a ∷ straight_after a es)) (a ∷ es)
unfolding straight_after
straight_from a [] = (stays (among_head a []), tt)
straight_from a (b ∷ []) = (stays (among_head a (b ∷ [])), (stays (among_further a (among_head b [])), tt))
straight_from a (b ∷ c ∷ es) =
    by_test (is_elbow a b c)
    (λ q.
    let rest = straight_after c es in
    let on : straight_after a (b ∷ c ∷ es) ≡ c ∷ rest = rw q in
    let bent = bends a c (piece_head (a ∷ b ∷ c ∷ []) es) (is-elbow a b c q) (piece_head (a ∷ c ∷ []) rest) in
    subst (λ (ks : List Entry). All (Straight (a ∷ b ∷ c ∷ es) (a ∷ ks)) (a ∷ b ∷ c ∷ es)) (sym on)
    (stays (among_head a (c ∷ rest)), (bent, all_weaker (λ e s. straight-after a e (straight-after b e (straight_kept a e s))) (c ∷ es) (straight_from c es))))
    (λ q.
    let rest = straight_after b (c ∷ es) in
    let on : straight_after a (b ∷ c ∷ es) ≡ b ∷ rest = rw q in
    subst (λ (ks : List Entry). All (Straight (a ∷ b ∷ c ∷ es) (a ∷ ks)) (a ∷ b ∷ c ∷ es)) (sym on)
    (stays (among_head a (b ∷ rest)), all_weaker (λ e s. straight-after a e (straight_kept a e s)) (b ∷ c ∷ es) (straight_from b (c ∷ es))))

straights : (bs : List Entry) → All (Straight bs (straight bs)) bs
unfolding straight
straights [] = tt
straights (a ∷ es) = straight_from a es

-- ---- both

all_among : (P : Entry → Type 0) (e : Entry) (es : List Entry) → All P es → Among e es → P e
all_among P e es h i = of i.before (subst (All P) i.split h)
  where
    of : (before : List Entry) → All P (before ++ e ∷ i.after) → P e
    of [] h = h.0
    of (x ∷ before) h = of before h.1

pub fates : (es : List Entry) → All (Fate es) es
unfolding cleaned
fates es = all_weaker by_run es (singles es)
  where
    by_elbow : (e : Entry) → Straight (runs es) (straight (runs es)) e → Fate es e
    by_elbow e (stays i) = kept i
    by_elbow e (bends a c p h ends) = middle a c p h ends

    by_run : (e : Entry) → Single es (runs es) e → Fate es e
    by_run e (single i) = by_elbow e (all_among (Straight (runs es) (straight (runs es))) e (runs es) (straights (runs es)) i)
    by_run e (follows f p s) = repeats f p s
    by_run e (precedes f p s) = repeated f p s
