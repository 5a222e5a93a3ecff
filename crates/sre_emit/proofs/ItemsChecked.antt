-- What the check of items and parts says, and which widths it returns, by the checks of what is inside.
use Rattle.sre_emit.proofs.Terms.{ℕ, ◌+◌, ◌≡◌, ◌<◌, ◌≤◌, min, true, false, nat_eq, List, [], ◌∷◌, map, drop, length}
use Rattle.sre_emit.proofs.Terms.{slice_index_or, refl, ap, subst, arith, and_parts, nat_tests, Tree, Empty, Then}
use Rattle.sre_emit.proofs.Terms.{LawfulTree, width, Part, Item, Memory, TooDeep, BadPart, tree_of, item_of, in_order}
use Rattle.sre_emit.proofs.Terms.{has_alternatives, all, HasTree, HaveTrees, HaveAlternatives}
use Rattle.sre_emit.proofs.Written.{at_place}
use Rattle.sre_emit.specs.Emitting.{LawfulTrees, least_width, EmitError, TooLong, alternatives, HasItemTree, Causes}

-- a cause of something inside
pub cause_up : (d n : ℕ) (L M : Type 0) → d ≤ n → (M → L) → (e : EmitError) → Causes d L e → Causes n M e
cause_up d n L M le back Memory h = h
cause_up d n L M le back TooLong h = h
cause_up d n L M le back TooDeep h = omega (arith, h, le)
cause_up d n L M le back BadPart h = λ m. h (back m)

-- what is left of a list at a place decides on all of it: on its depth m, and on what L says of it
pub record Left {X : Type 0} (m : List X → ℕ) (L : List X → Type 0) (d : ℕ) (xs : List X) (k : ℕ) : Type 0 where
  pub least : m (drop k xs) ≤ m xs
  pub deep : d + m (drop k xs) ≤ 1000 → d + m xs ≤ 1000
  pub to : L (drop k xs) → L xs
  pub back : L xs → L (drop k xs)

-- a cause of the element there
pub left_cause : {X : Type 0} (f : X → ℕ) (P : X → Type 0) (m : List X → ℕ) (L : List X → Type 0)
    → ((x : X) (xs : List X) → f x ≤ m (x ∷ xs)) → ((x : X) (xs : List X) → L (x ∷ xs) → P x)
    → (d : ℕ) (xs : List X) (x : X) (k : ℕ) → k < length xs → x ≡ slice_index_or xs k x → Left m L d xs k
    → (e : EmitError) → Causes (d + f x) (P x) e → Causes (d + m xs) (L xs) e
left_cause f P m L deep back d xs x k l same h e c =
    let here = at_place xs x k (k + 1) refl l same in
    cause_up _ _ (P x) (L xs) (omega (arith, deep x (drop (k + 1) xs), ap m here, h.least))
    (λ a. back x (drop (k + 1) xs) (subst L here (h.back a))) e c

pub first_item : (x : Item) (xs : List Item) → HaveTrees (x ∷ xs) → HasItemTree x
first_item x xs h = record { alternatives = (and_parts _ _ h.0).0; lawful = h.1.0 }

-- alternatives, perhaps none
abbrev pub LawfulAll : List Part → Type 0
LawfulAll [] = Unit {0}
LawfulAll (p ∷ ps) = LawfulTree (tree_of p) × LawfulAll ps

abbrev pub HaveAll : List Part → Type 0
HaveAll ps = (all (map has_alternatives ps) ≡ true) × LawfulAll ps

pub first_part : (p : Part) (ps : List Part) → HaveAll (p ∷ ps) → HasTree p
first_part p ps h = record { alternatives = (and_parts _ _ h.0).0; lawful = h.1.0 }

lawful_some : (p : Part) (ps : List Part) → LawfulAll (p ∷ ps) → LawfulTrees (alternatives (map tree_of (p ∷ ps)))
lawful_some p [] h = h.0
lawful_some p (q ∷ ps) h = (h.0, lawful_some q ps h.1)

lawful_all : (p : Part) (ps : List Part) → LawfulTrees (alternatives (map tree_of (p ∷ ps))) → LawfulAll (p ∷ ps)
lawful_all p [] h = (h, tt)
lawful_all p (q ∷ ps) h = (h.0, lawful_all q ps h.1)

pub some_checked : (ps : List Part) → nat_eq (length ps) 0 ≡ false → HaveAll ps → HaveAlternatives ps
some_checked [] e h = absurd (cc)
some_checked (p ∷ ps) e h = (h.0, lawful_some p ps h.1)

pub all_checked : (ps : List Part) → HaveAlternatives ps → HaveAll ps
all_checked [] h = (refl, tt)
all_checked (p ∷ ps) h = (h.0, lawful_all p ps h.1)

-- widths
pub wide : (t : Tree) → width t ≤ 4294967295
wide Empty = omega arith
wide (Then item rest) = omega arith

-- the width of the items from a place on
abbrev pub width_from : ℕ → List Item → ℕ
width_from k xs = width (in_order (map item_of (drop k xs)))

-- the smallest width, where there are parts
abbrev pub narrowest : List Part → ℕ
narrowest [] = 4294967295
narrowest (p ∷ ps) = min (width (tree_of p)) (narrowest ps)

pub narrow : (ps : List Part) → narrowest ps ≤ 4294967295
narrow [] = omega arith
narrow (p ∷ ps) = omega (arith, narrow ps)

pub narrowest_is : (ps : List Part) → nat_eq (length ps) 0 ≡ false
    → narrowest ps ≡ least_width (alternatives (map tree_of ps))
narrowest_is [] e = absurd (cc)
narrowest_is (p ∷ []) e = omega (arith, wide (tree_of p))
narrowest_is (p ∷ q ∷ ps) e = ap (min (width (tree_of p))) (narrowest_is (q ∷ ps) (grind (arith, nat_tests)))
