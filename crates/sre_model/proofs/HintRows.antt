-- Worked rows of what is confirmed of blocks, by computation.
use Rattle.sre_model.proofs.Terms.{refl, ◌≡◌, List, ℕ, Option, Some, None, Bool, true, false, [], ◌∷◌, ascii_table}
use Rattle.sre_model.proofs.Terms.{unlimited, behind_block, HasFirstSet, Single, confirmed_width, confirmed_prefix}
use Rattle.sre_model.proofs.Terms.{is_literal, border_length}
use Rattle.sre_model.proofs.TreeOf.{set_same, tree_of, items_at, trees_at, set_at}

-- the width, the prefix, and whether it is a literal
abbrev hints : List ℕ → Option ℕ × Option (ℕ × ℕ) × Bool
hints words =
    let tree = tree_of (behind_block words) in
    (confirmed_width words tree, confirmed_prefix words tree, is_literal words tree)

-- ab(cd): two literals in front of the mark
two_letters_and_a_group : hints
    (14 ∷ 14 ∷ 1 ∷ 4 ∷ 4 ∷ 4 ∷ 2 ∷ 97 ∷ 98 ∷ 99 ∷ 100 ∷ 0 ∷ 0 ∷ 0 ∷ 0 ∷ 16 ∷ 97 ∷ 16 ∷ 98 ∷ 17 ∷ 0 ∷ 16 ∷ 99 ∷ 16
    ∷ 100 ∷ 17 ∷ 1 ∷ 1 ∷ [])
    ≡ (Some 4, Some (4, 2), false)
unfolding tree_of items_at trees_at set_at
two_letters_and_a_group = refl

-- aab
all_literals : hints
    (14 ∷ 12 ∷ 3 ∷ 3 ∷ 3 ∷ 3 ∷ 3 ∷ 97 ∷ 97 ∷ 98 ∷ 0 ∷ 1 ∷ 0 ∷ 16 ∷ 97 ∷ 16 ∷ 97 ∷ 16 ∷ 98 ∷ 1 ∷ [])
    ≡ (Some 3, Some (3, 3), true)
unfolding tree_of items_at trees_at set_at
all_literals = refl

-- aab with an overlap word that is too small
overlap_that_is_no_border : hints
    (14 ∷ 12 ∷ 3 ∷ 3 ∷ 3 ∷ 3 ∷ 3 ∷ 97 ∷ 97 ∷ 98 ∷ 0 ∷ 0 ∷ 0 ∷ 16 ∷ 97 ∷ 16 ∷ 97 ∷ 16 ∷ 98 ∷ 1 ∷ [])
    ≡ (Some 3, None, false)
unfolding tree_of items_at trees_at set_at
overlap_that_is_no_border = refl

-- a
one_literal : hints
    (14 ∷ 8 ∷ 3 ∷ 1 ∷ 1 ∷ 1 ∷ 1 ∷ 97 ∷ 0 ∷ 16 ∷ 97 ∷ 1 ∷ [])
    ≡ (Some 1, Some (1, 1), true)
unfolding tree_of items_at trees_at set_at
one_literal = refl

-- a, of which a width of 9 is claimed
width_past_the_least : hints
    (14 ∷ 4 ∷ 0 ∷ 9 ∷ 9 ∷ 16 ∷ 97 ∷ 1 ∷ [])
    ≡ (None, None, false)
unfolding tree_of items_at trees_at set_at
width_past_the_least = refl

-- [ab]c
set_and_letter : hints
    (14 ∷ 9 ∷ 4 ∷ 2 ∷ 2 ∷ 16 ∷ 97 ∷ 16 ∷ 98 ∷ 0 ∷ 13 ∷ 6 ∷ 16 ∷ 97 ∷ 16 ∷ 98 ∷ 0 ∷ 16 ∷ 99 ∷ 1 ∷ [])
    ≡ (Some 2, None, false)
unfolding tree_of items_at trees_at set_at
set_and_letter = refl

-- [ab]c with a set that lacks b
set_without_a_letter : hints
    (14 ∷ 7 ∷ 4 ∷ 2 ∷ 2 ∷ 16 ∷ 97 ∷ 0 ∷ 13 ∷ 6 ∷ 16 ∷ 97 ∷ 16 ∷ 98 ∷ 0 ∷ 16 ∷ 99 ∷ 1 ∷ [])
    ≡ (Some 2, None, false)
unfolding tree_of items_at trees_at set_at
set_without_a_letter = refl

-- ab
letters_without_a_prefix : hints
    (14 ∷ 4 ∷ 0 ∷ 2 ∷ 2 ∷ 16 ∷ 97 ∷ 16 ∷ 98 ∷ 1 ∷ [])
    ≡ (Some 2, None, false)
unfolding tree_of items_at trees_at set_at
letters_without_a_prefix = refl

-- ab|cd
branch_of_letters : hints
    (14 ∷ 9 ∷ 4 ∷ 2 ∷ 2 ∷ 16 ∷ 97 ∷ 16 ∷ 99 ∷ 0 ∷ 7 ∷ 7 ∷ 16 ∷ 97 ∷ 16 ∷ 98 ∷ 15 ∷ 9 ∷ 7 ∷ 16 ∷ 99 ∷ 16 ∷ 100 ∷ 15 ∷ 2
    ∷ 0 ∷ 1 ∷ [])
    ≡ (Some 2, None, false)
unfolding tree_of items_at trees_at set_at
branch_of_letters = refl

-- (a)
letter_behind_a_mark : hints
    (14 ∷ 7 ∷ 4 ∷ 1 ∷ 1 ∷ 16 ∷ 97 ∷ 0 ∷ 17 ∷ 0 ∷ 16 ∷ 97 ∷ 17 ∷ 1 ∷ 1 ∷ [])
    ≡ (Some 1, None, false)
unfolding tree_of items_at trees_at set_at
letter_behind_a_mark = refl

-- the empty pattern
no_items : hints
    (14 ∷ 4 ∷ 0 ∷ 0 ∷ 0 ∷ 1 ∷ [])
    ≡ (Some 0, None, false)
unfolding tree_of items_at trees_at set_at
no_items = refl

-- (ab)c
mark_before_the_prefix : hints
    (14 ∷ 12 ∷ 1 ∷ 3 ∷ 3 ∷ 3 ∷ 0 ∷ 97 ∷ 98 ∷ 99 ∷ 0 ∷ 0 ∷ 0 ∷ 17 ∷ 0 ∷ 16 ∷ 97 ∷ 16 ∷ 98 ∷ 17 ∷ 1 ∷ 16 ∷ 99 ∷ 1 ∷ [])
    ≡ (Some 3, Some (3, 0), false)
unfolding tree_of items_at trees_at set_at
mark_before_the_prefix = refl

-- aa(?=b)
look_behind_the_prefix : hints
    (14 ∷ 10 ∷ 1 ∷ 2 ∷ 2 ∷ 2 ∷ 2 ∷ 97 ∷ 97 ∷ 0 ∷ 1 ∷ 16 ∷ 97 ∷ 16 ∷ 97 ∷ 4 ∷ 5 ∷ 0 ∷ 16 ∷ 98 ∷ 1 ∷ 1 ∷ [])
    ≡ (Some 2, Some (2, 2), false)
unfolding tree_of items_at trees_at set_at
look_behind_the_prefix = refl

-- a block up to the SUCCESS
block_hides_the_literal : hints
    (14 ∷ 6 ∷ 0 ∷ 9 ∷ 9 ∷ 16 ∷ 97 ∷ 1 ∷ [])
    ≡ (None, None, false)
unfolding tree_of items_at trees_at set_at
block_hides_the_literal = refl

-- a()
mark_behind_the_prefix : hints
    (14 ∷ 8 ∷ 1 ∷ 1 ∷ unlimited ∷ 1 ∷ 1 ∷ 97 ∷ 0 ∷ 16 ∷ 97 ∷ 17 ∷ 0 ∷ 1 ∷ [])
    ≡ (Some 1, Some (1, 1), false)
unfolding tree_of items_at trees_at set_at
mark_behind_the_prefix = refl

-- aab
no_block : hints
    (16 ∷ 97 ∷ 16 ∷ 97 ∷ 16 ∷ 98 ∷ 1 ∷ [])
    ≡ (None, None, false)
unfolding tree_of items_at trees_at set_at
no_block = refl

-- Borders

abcab : border_length (97 ∷ 98 ∷ 99 ∷ 97 ∷ 98 ∷ []) ≡ 2
abcab = refl

border_may_overlap_itself : border_length (97 ∷ 97 ∷ 97 ∷ []) ≡ 2
border_may_overlap_itself = refl

one_word_has_none : border_length (97 ∷ []) ≡ 0
one_word_has_none = refl

-- First sets

abbrev FirstSetOf : List ℕ → Type 0
FirstSetOf words = HasFirstSet words ascii_table (tree_of (behind_block words))

-- [ab]c with the set of a and b
set_is_the_set : FirstSetOf
    (14 ∷ 9 ∷ 4 ∷ 2 ∷ 2 ∷ 16 ∷ 97 ∷ 16 ∷ 98 ∷ 0 ∷ 13 ∷ 6 ∷ 16 ∷ 97 ∷ 16 ∷ 98 ∷ 0 ∷ 16 ∷ 99 ∷ 1 ∷ [])
unfolding tree_of items_at trees_at set_at
set_is_the_set = record {
  flag = refl;
  no_prefix = refl;
  set = Single 97 ∷ Single 98 ∷ [];
  items = (refl, refl, (refl, refl, refl));
  ends = refl;
  first = refl;
}

-- ab|cd with the set of a and c
set_has_the_letters : FirstSetOf
    (14 ∷ 9 ∷ 4 ∷ 2 ∷ 2 ∷ 16 ∷ 97 ∷ 16 ∷ 99 ∷ 0 ∷ 7 ∷ 7 ∷ 16 ∷ 97 ∷ 16 ∷ 98 ∷ 15 ∷ 9 ∷ 7 ∷ 16 ∷ 99 ∷ 16 ∷ 100 ∷ 15 ∷ 2
    ∷ 0 ∷ 1 ∷ [])
unfolding tree_of items_at trees_at set_at
set_has_the_letters = record {
  flag = refl;
  no_prefix = refl;
  set = Single 97 ∷ Single 99 ∷ [];
  items = (refl, refl, (refl, refl, refl));
  ends = refl;
  first = (refl, refl);
}

-- (a) with the set of a
set_has_the_letter_behind_a_mark : FirstSetOf
    (14 ∷ 7 ∷ 4 ∷ 1 ∷ 1 ∷ 16 ∷ 97 ∷ 0 ∷ 17 ∷ 0 ∷ 16 ∷ 97 ∷ 17 ∷ 1 ∷ 1 ∷ [])
unfolding tree_of items_at trees_at set_at
set_has_the_letter_behind_a_mark = record {
  flag = refl;
  no_prefix = refl;
  set = Single 97 ∷ [];
  items = (refl, refl, refl);
  ends = refl;
  first = refl;
}

-- [ab]c with the set of a
abbrev lacks_b : List ℕ
lacks_b =
    14 ∷ 7 ∷ 4 ∷ 2 ∷ 2 ∷ 16 ∷ 97 ∷ 0 ∷ 13 ∷ 6 ∷ 16 ∷ 97 ∷ 16 ∷ 98 ∷ 0 ∷ 16 ∷ 99 ∷ 1 ∷ []

set_lacks_a_letter : FirstSetOf lacks_b → ⊥
unfolding tree_of items_at trees_at set_at
set_lacks_a_letter h =
    let one : h.set ≡ Single 97 ∷ [] = set_same h.set (Single 97 ∷ []) lacks_b 5 7 h.items (refl, refl, refl) in
    let both : Single 97 ∷ Single 98 ∷ [] ≡ h.set = h.first in
    cc
