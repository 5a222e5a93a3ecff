-- What is written of items and parts, by what is written of what is inside.
use Rattle.sre_emit.proofs.Terms.{ℕ, suc, zero, ◌-◌, ◌≡◌, ◌<◌, ◌≤◌, Bool, true, List, [], ◌∷◌, map, drop, length}
use Rattle.sre_emit.proofs.Terms.{slice_index_or, refl, sym, ◌∙◌, ap, arith, All, and_parts, Part, Item, tree_of}
use Rattle.sre_emit.proofs.Terms.{item_of, in_order, has_alternatives, all, Wrote}
use Rattle.sre_emit.specs.declared.part.Item.{roll-Item}
use Rattle.sre_emit.specs.declared.part.Item.TheFolds.{map-Item, fold-roll-Item}
use Rattle.sre_emit.specs.Emitting.{item_step, part_step, alternatives, some_parts, tree_words, item_words}
use Rattle.sre_emit.specs.Emitting.{branch_words, alternative, Held, guarded}
use Rattle.sre_emit.proofs.Written.{wrote_equal, wrote_before, at_place, written_all}
use Rattle.sre_model.specs.Tree as tree
use Rattle.sre_emit.specs.declared.part.Item.TheOpen as layer

-- branches inside have parts
pub each_true : {X : Type 0} (f : X → Bool) (xs : List X) → all (map f xs) ≡ true → All (λ x. f x ≡ true) xs
each_true f [] e k d l = absurd (omega (arith, l))
each_true f (x ∷ xs) e zero d l = (and_parts _ _ e).0
each_true f (x ∷ xs) e (suc k) d l = each_true f xs (and_parts _ _ e).1 k d (omega (arith, l))

pub all_parts : (ps : List Part) → some_parts (map has_alternatives ps) ≡ true
    → All (λ p. has_alternatives p ≡ true) ps
all_parts [] e = absurd (cc)
all_parts (p ∷ ps) e = each_true has_alternatives (p ∷ ps) e

-- an item, by one layer of it
pub item_written : {M : Type 0} {a b : Held} {x : Item} (l : layer.Item-F Item Part) → x ≡ roll-Item l
    → Wrote M a b (item_words (item_step (map-Item Item Part tree.Item tree.Tree item_of tree_of l)))
    → Wrote M a b (item_words (item_of x))
item_written l e w =
    let is = ap item_of e ∙ fold-roll-Item tree.Item tree.Tree item_step part_step l in
    wrote_equal (sym (ap item_words is)) w

-- items, from the last to the first
abbrev pub items_words : List Item → List ℕ
items_words xs = tree_words (in_order (map item_of xs))

-- alternatives, perhaps none, and the 0 behind them
abbrev pub parts_words : List Part → List ℕ
parts_words [] = 0 ∷ []
parts_words (p ∷ ps) = alternative (tree_words (tree_of p)) (parts_words ps)

parts_behind : (p : Part) (ps : List Part) → parts_words (p ∷ ps) ≡ branch_words (alternatives (map tree_of (p ∷ ps)))
parts_behind p [] = refl
parts_behind p (q ∷ ps) = ap (alternative (tree_words (tree_of p))) (parts_behind q ps)

-- from the last to the first
pub parts_more : {M : Type 0} {a b c : Held} (ps : List Part) (p : Part) (start n : ℕ) → 0 < n → n ≤ length ps
    → p ≡ slice_index_or ps (n - 1) p → start ≡ length a.words → Wrote M a b (parts_words (drop n ps))
    → Wrote M b c (guarded 3 (tree_words (tree_of p)) (length b.words - start))
    → Wrote M a c (parts_words (drop (n - 1) ps))
parts_more ps p start n some l same far u v =
    rw (at_place ps p (n - 1) n (omega (arith, some)) (omega (arith, some, l)) same)
    (wrote_before start 3 (tree_words (tree_of p)) far u v)

pub parts_all : {M : Type 0} {a b : Held} (ps : List Part) (k : ℕ) → some_parts (map has_alternatives ps) ≡ true → k ≤ 0
    → Wrote M a b (parts_words (drop k ps)) → Wrote M a b (branch_words (alternatives (map tree_of ps)))
parts_all [] k some e w = absurd (cc)
parts_all (p ∷ ps) k some e w =
    wrote_equal (parts_behind p ps) (written_all parts_words (p ∷ ps) k e w)
