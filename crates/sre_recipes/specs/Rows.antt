-- Worked rows, by computation: texts of matches, pieces, replacements and tokens.
use Rattle.std.specs.Prelude.{refl, codes, pos, ◌≡◌, ℕ, List, [], ◌∷◌, map, Some, None}
use Rattle.sre_model.specs.Tree.{Tree, Empty, Mark, Branch, Run, Only, Or, GreedyRun}
use Rattle.sre_model.specs.Ways.{unlimited}
use Rattle.sre_model.specs.Found.{walk}
use Rattle.sre_model.specs.Shown.{items, is_a, a, b, whole, window, span, marked}
use Rattle.sre_recipes.specs.declared.replace.PieceOf.TheVariants.{Match, Group}
use Rattle.sre_recipes.specs.Slices.{slice_of, group_of, captured}
use Rattle.sre_recipes.specs.Pieces.{pieces_between}
use Rattle.sre_recipes.specs.Templates.{written, replaced}
use Rattle.sre_recipes.specs.Lexed.{token_matches, reached}

-- a*
abbrev letters : Tree
letters = items (Run GreedyRun 0 unlimited is_a ∷ [])

-- (a)|(b)
abbrev either_letter : Tree
either_letter = items (Branch (Or (items (Mark 0 ∷ a ∷ Mark 1 ∷ [])) (Only (items (Mark 2 ∷ b ∷ Mark 3 ∷ [])))) ∷ [])

texts_of_matches : map (slice_of (codes "baa")) (walk (whole (codes "baa")) letters)
    ≡ [] ∷ codes "aa" ∷ [] ∷ []
texts_of_matches = refl

-- empty matches split, too
pieces_of_empty_matches : pieces_between (codes "bab") 0 3 (walk (whole (codes "bab")) letters)
    ≡ [] ∷ codes "b" ∷ [] ∷ codes "b" ∷ [] ∷ []
pieces_of_empty_matches = refl

pieces_of_a_window : pieces_between (codes "cabac") 1 4 (walk (window (codes "cabac") 1 4) (items (b ∷ [])))
    ≡ codes "a" ∷ codes "a" ∷ []
pieces_of_a_window = refl

replaced_by_a_dash : replaced (codes "bab") (λ m. codes "-") 0 3 (walk (whole (codes "bab")) letters)
    ≡ codes "-b--b-"
replaced_by_a_dash = refl

-- a group that took no part gives nothing
replaced_by_groups : replaced (codes "abc")
    (written (λ (text : List ℕ). text) (codes "abc") (Group 1 ∷ Match ∷ Group 2 ∷ Group 0 ∷ [])) 0 3
    (walk (whole (codes "abc")) either_letter) ≡ codes "aaabbbc"
replaced_by_groups = refl

-- the match stands in front, and a group that the marks do not reach is left out
captured_groups : map (captured (codes "abc")) (walk (whole (codes "abc")) either_letter)
    ≡ (Some (codes "a") ∷ Some (codes "a") ∷ [])
    ∷ (Some (codes "b") ∷ None ∷ Some (codes "b") ∷ [])
    ∷ []
captured_groups = refl

group_past_the_text : group_of (codes "ab") (marked 0 1 (Some 1 ∷ Some 3 ∷ []) (pos 1)).marks 0 ≡ None
group_past_the_text = refl

-- a token is not empty
tokens_are_not_empty : token_matches (whole (codes "aab")) (items (Branch (Or Empty (Only (items (a ∷ [])))) ∷ []))
    ≡ span 0 1 ∷ span 1 2 ∷ []
tokens_are_not_empty = refl

tokens_by_kind : token_matches (whole (codes "abcab")) either_letter
    ≡ marked 0 1 (Some 0 ∷ Some 1 ∷ []) (pos 1) ∷ marked 1 2 (None ∷ None ∷ Some 1 ∷ Some 2 ∷ []) (pos 2) ∷ []
tokens_by_kind = refl

tokens_reach : reached 0 (token_matches (whole (codes "abcab")) either_letter) ≡ 2
tokens_reach = refl
