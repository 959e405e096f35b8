-- The last entry of a list, its neighbours and its entries, and all three in lists that are joined.
use mathlib.Core.Path.{◌≡◌, refl, sym, ap, ◌∙◌, subst}
use mathlib.Core.List.{List, [], ◌∷◌, ◌++◌, append_assoc, nil≢cons, head-eq_of_cons-eq, tail-eq_of_cons-eq}
use Rattle.entries.specs.declared.Entry.{Entry}
use Rattle.entries.specs.Entries.{Among, Linked, last_of}

-- ---- the last entry, and neighbours

pub last_is_last : (e : Entry) (es : List Entry) (f : Entry) → last_of e (es ++ f ∷ []) ≡ f
last_is_last e [] f = refl
last_is_last e (g ∷ es) f = last_is_last g es f

-- f and g stand beside each other somewhere in e ∷ es
pub linked_neighbours : (R : Entry → Entry → Type 0) (e : Entry) (es before after : List Entry) (f g : Entry)
    → e ∷ es ≡ before ++ f ∷ g ∷ after → Linked R e es → R f g
linked_neighbours R e [] before after f g h l = absurd (nothing before h)
  where
    nothing : (before : List Entry) → e ∷ [] ≡ before ++ f ∷ g ∷ after → ⊥
    nothing [] h = nil≢cons (tail-eq_of_cons-eq h)
    nothing (x ∷ []) h = nil≢cons (tail-eq_of_cons-eq h)
    nothing (x ∷ y ∷ before) h = nil≢cons (tail-eq_of_cons-eq h)
linked_neighbours R e (x ∷ es) [] after f g h l =
    subst (λ (y : Entry). R y g) (head-eq_of_cons-eq h) (subst (R e) (head-eq_of_cons-eq (tail-eq_of_cons-eq h)) l.0)
linked_neighbours R e (x ∷ es) (y ∷ before) after f g h l = linked_neighbours R x es before after f g (tail-eq_of_cons-eq h) l.1

pub last_append : (e : Entry) (xs ys : List Entry) → last_of e (xs ++ ys) ≡ last_of (last_of e xs) ys
last_append e [] ys = refl
last_append e (f ∷ xs) ys = last_append f xs ys

pub linked_append : (R : Entry → Entry → Type 0) (e : Entry) (xs ys : List Entry)
    → Linked R e xs → Linked R (last_of e xs) ys → Linked R e (xs ++ ys)
linked_append R e [] ys h k = k
linked_append R e (f ∷ xs) ys h k = (h.0, linked_append R f xs ys h.1 k)

-- ---- one of the entries

pub among_head : (e : Entry) (es : List Entry) → Among e (e ∷ es)
among_head e es = record { before = []; after = es; split = refl }

pub among_after : (e : Entry) (xs ys : List Entry) → Among e ys → Among e (xs ++ ys)
among_after e xs ys a =
    record {
      before = xs ++ a.before;
      after = a.after;
      split = ap (λ (l : List Entry). xs ++ l) a.split ∙ sym (append_assoc xs a.before (e ∷ a.after));
    }

-- entries that stand before the last one
abbrev up_to : Entry → List Entry → List Entry
up_to e [] = []
up_to e (f ∷ es) = e ∷ up_to f es

-- where one list ends and another goes on, an entry of the second from the last of the first on is one of both
pub among_joined : (e f : Entry) (xs ys : List Entry) → Among f (last_of e xs ∷ ys) → Among f (e ∷ xs ++ ys)
among_joined e f xs ys a = subst (Among f) (joins e xs) (among_after f (up_to e xs) (last_of e xs ∷ ys) a)
  where
    joins : (e : Entry) (xs : List Entry) → up_to e xs ++ last_of e xs ∷ ys ≡ e ∷ xs ++ ys
    joins e [] = refl
    joins e (g ∷ xs) = ap (λ (l : List Entry). e ∷ l) (joins g xs)
