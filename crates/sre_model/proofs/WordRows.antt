-- Worked rows of reading and of writing bytecode, by computation.
use Rattle.sre_model.proofs.Terms.{refl, ◌≡◌, [], ◌∷◌, ◌++◌, replicate, false, END, WORD, UNI_NOT_LINEBREAK, Empty}
use Rattle.sre_model.proofs.Terms.{Only, Or, Single, Range, RangeUniIgnore, Category, Charset, BigCharset, Negate}
use Rattle.sre_model.proofs.Terms.{Plain, Ascii, Locale, Unicode, Greedy, Lazy, GreedyRun, LazyRun, PossessiveRun}
use Rattle.sre_model.proofs.Terms.{Positive, Negative, unlimited, behind_block, fits_block, items, is_a, a, b, c, d}
use Rattle.sre_model.proofs.Terms.{code_words}
use Rattle.sre_model.specs.Tree.{Fail, One, At, Mark, Branch, Loop, Run, PossessiveLoop, Atomic, Look, Reference}
use Rattle.sre_model.specs.Tree.{Exists, ExistsElse, Any, AnyAll, InCategory, Literal, NotLiteral, In}
use Rattle.sre_model.proofs.TreeOf.{tree_of, items_at, trees_at, set_at}

-- (a)b
marks_and_letters : tree_of (17 ∷ 0 ∷ 16 ∷ 97 ∷ 17 ∷ 1 ∷ 16 ∷ 98 ∷ 1 ∷ []) ≡ items (Mark 0 ∷ a ∷ Mark 1 ∷ b ∷ [])
unfolding tree_of items_at trees_at set_at
marks_and_letters = refl

-- (?:(a)(?!b)|a)b
branch_and_look : tree_of (7 ∷ 15 ∷ 17 ∷ 0 ∷ 16 ∷ 97 ∷ 17 ∷ 1 ∷ 5 ∷ 5 ∷ 0 ∷ 16 ∷ 98 ∷ 1 ∷ 15 ∷ 7 ∷ 5 ∷ 16 ∷ 97
    ∷ 15 ∷ 2 ∷ 0 ∷ 16 ∷ 98 ∷ 1 ∷ [])
    ≡ items
    (Branch (Or (items (Mark 0 ∷ a ∷ Mark 1 ∷ Look Negative 0 (items (b ∷ [])) ∷ [])) (Only (items (a ∷ [])))) ∷ b ∷ [])
unfolding tree_of items_at trees_at set_at
branch_and_look = refl

-- (a)?(?(1)b|c)
loop_and_both_parts : tree_of
    (23 ∷ 9 ∷ 0 ∷ 1 ∷ 17 ∷ 0 ∷ 16 ∷ 97 ∷ 17 ∷ 1 ∷ 18 ∷ 12 ∷ 0 ∷ 6 ∷ 16 ∷ 98 ∷ 15 ∷ 3 ∷ 16 ∷ 99 ∷ 1 ∷ [])
    ≡ items (Loop Greedy 0 1 (items (Mark 0 ∷ a ∷ Mark 1 ∷ [])) ∷ ExistsElse 0 (items (b ∷ [])) (items (c ∷ [])) ∷ [])
unfolding tree_of items_at trees_at set_at
loop_and_both_parts = refl

-- the number of JUMP two words before the tail, as an operand
jump_as_an_operand : tree_of (12 ∷ 0 ∷ 5 ∷ 16 ∷ 15 ∷ 2 ∷ 1 ∷ [])
    ≡ items (Exists 0 (items (One (Literal Plain 15) ∷ One Any ∷ [])) ∷ [])
unfolding tree_of items_at trees_at set_at
jump_as_an_operand = refl

-- the no part is there, and empty
empty_part : tree_of (12 ∷ 0 ∷ 6 ∷ 16 ∷ 98 ∷ 15 ∷ 1 ∷ 1 ∷ []) ≡ items (ExistsElse 0 (items (b ∷ [])) Empty ∷ [])
unfolding tree_of items_at trees_at set_at
empty_part = refl

-- (?(1)(?(2)a|b)|c)
both_parts_in_a_part : tree_of (12 ∷ 0 ∷ 13 ∷ 12 ∷ 1 ∷ 6 ∷ 16 ∷ 97 ∷ 15 ∷ 3 ∷ 16 ∷ 98 ∷ 15 ∷ 3 ∷ 16 ∷ 99 ∷ 1 ∷ [])
    ≡ items (ExistsElse 0 (items (ExistsElse 1 (items (a ∷ [])) (items (b ∷ [])) ∷ [])) (items (c ∷ [])) ∷ [])
unfolding tree_of items_at trees_at set_at
both_parts_in_a_part = refl

-- ab(cd)
two_letters_and_a_group : tree_of (16 ∷ 97 ∷ 16 ∷ 98 ∷ 17 ∷ 0 ∷ 16 ∷ 99 ∷ 16 ∷ 100 ∷ 17 ∷ 1 ∷ 1 ∷ [])
    ≡ items (a ∷ b ∷ Mark 0 ∷ c ∷ d ∷ Mark 1 ∷ [])
unfolding tree_of items_at trees_at set_at
two_letters_and_a_group = refl

set_that_flips : tree_of (13 ∷ 8 ∷ 16 ∷ 97 ∷ 21 ∷ 22 ∷ 97 ∷ 98 ∷ 0 ∷ 1 ∷ [])
    ≡ items (One (In Plain (Single 97 ∷ Negate ∷ Range 97 98 ∷ [])) ∷ [])
unfolding tree_of items_at trees_at set_at
set_that_flips = refl

-- [ab]c
set_and_letter : tree_of (13 ∷ 6 ∷ 16 ∷ 97 ∷ 16 ∷ 98 ∷ 0 ∷ 16 ∷ 99 ∷ 1 ∷ [])
    ≡ items (One (In Plain (Single 97 ∷ Single 98 ∷ [])) ∷ c ∷ [])
unfolding tree_of items_at trees_at set_at
set_and_letter = refl

-- (?:a*)*
run_in_a_loop : tree_of (23 ∷ 10 ∷ 0 ∷ unlimited ∷ 24 ∷ 6 ∷ 0 ∷ unlimited ∷ 16 ∷ 97 ∷ 1 ∷ 18 ∷ 1 ∷ [])
    ≡ items (Loop Greedy 0 unlimited (items (Run GreedyRun 0 unlimited is_a ∷ [])) ∷ [])
unfolding tree_of items_at trees_at set_at
run_in_a_loop = refl

-- (?>a)b
group_and_letter : tree_of (27 ∷ 4 ∷ 16 ∷ 97 ∷ 1 ∷ 16 ∷ 98 ∷ 1 ∷ []) ≡ items (Atomic (items (a ∷ [])) ∷ b ∷ [])
unfolding tree_of items_at trees_at set_at
group_and_letter = refl

codes_of_one_operand : tree_of (6 ∷ 5 ∷ 8 ∷ 4 ∷ 3 ∷ 2 ∷ 17 ∷ 9 ∷ 0 ∷ 1 ∷ [])
    ≡ items (At END ∷ One (InCategory WORD) ∷ One AnyAll ∷ One Any ∷ Mark 9 ∷ Fail ∷ [])
unfolding tree_of items_at trees_at set_at
codes_of_one_operand = refl

literals_that_fold : tree_of (32 ∷ 97 ∷ 37 ∷ 98 ∷ 40 ∷ 99 ∷ 20 ∷ 100 ∷ 1 ∷ []) ≡ items (One (Literal Ascii 97)
    ∷ One (NotLiteral Locale 98) ∷ One (Literal Unicode 99) ∷ One (NotLiteral Plain 100) ∷ [])
unfolding tree_of items_at trees_at set_at
literals_that_fold = refl

references_that_fold : tree_of (11 ∷ 0 ∷ 30 ∷ 1 ∷ 34 ∷ 2 ∷ 38 ∷ 3 ∷ 1 ∷ [])
    ≡ items (Reference Plain 0 ∷ Reference Ascii 1 ∷ Reference Locale 2 ∷ Reference Unicode 3 ∷ [])
unfolding tree_of items_at trees_at set_at
references_that_fold = refl

-- (?:(?:ab)+c)+?d
loop_in_a_loop : tree_of
    (23 ∷ 14 ∷ 1 ∷ unlimited ∷ 23 ∷ 7 ∷ 1 ∷ unlimited ∷ 16 ∷ 97 ∷ 16 ∷ 98 ∷ 18 ∷ 16 ∷ 99 ∷ 19 ∷ 16 ∷ 100 ∷ 1 ∷ [])
    ≡ items (Loop Lazy 1 unlimited (items (Loop Greedy 1 unlimited (items (a ∷ b ∷ [])) ∷ c ∷ [])) ∷ d ∷ [])
unfolding tree_of items_at trees_at set_at
loop_in_a_loop = refl

-- (?:ab){2}+
possessive_loop : tree_of (28 ∷ 7 ∷ 2 ∷ 2 ∷ 16 ∷ 97 ∷ 16 ∷ 98 ∷ 1 ∷ 1 ∷ [])
    ≡ items (PossessiveLoop 2 2 (items (a ∷ b ∷ [])) ∷ [])
unfolding tree_of items_at trees_at set_at
possessive_loop = refl

-- a{1,2}?.*+
lazy_and_possessive_runs : tree_of (26 ∷ 6 ∷ 1 ∷ 2 ∷ 16 ∷ 97 ∷ 1 ∷ 29 ∷ 5 ∷ 0 ∷ unlimited ∷ 2 ∷ 1 ∷ 1 ∷ [])
    ≡ items (Run LazyRun 1 2 is_a ∷ Run PossessiveRun 0 unlimited Any ∷ [])
unfolding tree_of items_at trees_at set_at
lazy_and_possessive_runs = refl

-- (?<=a)b
look_behind : tree_of (4 ∷ 5 ∷ 1 ∷ 16 ∷ 97 ∷ 1 ∷ 16 ∷ 98 ∷ 1 ∷ []) ≡ items (Look Positive 1 (items (a ∷ [])) ∷ b ∷ [])
unfolding tree_of items_at trees_at set_at
look_behind = refl

set_of_categories : tree_of (39 ∷ 7 ∷ 42 ∷ 97 ∷ 98 ∷ 8 ∷ 17 ∷ 0 ∷ 1 ∷ [])
    ≡ items (One (In Unicode (RangeUniIgnore 97 98 ∷ Category UNI_NOT_LINEBREAK ∷ [])) ∷ [])
unfolding tree_of items_at trees_at set_at
set_of_categories = refl

charsets : tree_of (13 ∷ 85 ∷ 9 ∷ replicate 8 3 ++ (10 ∷ 1 ∷ replicate 64 0 ++ (replicate 8 5 ++ (0 ∷ 1 ∷ []))))
    ≡ items (One (In Plain (Charset (replicate 8 3) ∷ BigCharset (replicate 256 0) (replicate 8 5) ∷ [])) ∷ [])
unfolding tree_of items_at trees_at set_at
charsets = refl

-- a block hides what stands in it
literal_in_a_block : behind_block (14 ∷ 6 ∷ 0 ∷ 9 ∷ 9 ∷ 16 ∷ 97 ∷ 1 ∷ []) ≡ 1 ∷ []
literal_in_a_block = refl

block_and_letter : tree_of (behind_block (14 ∷ 4 ∷ 0 ∷ 1 ∷ 1 ∷ 16 ∷ 97 ∷ 1 ∷ [])) ≡ items (a ∷ [])
unfolding tree_of items_at trees_at set_at
block_and_letter = refl

block_without_its_widths : fits_block (14 ∷ 3 ∷ 0 ∷ 0 ∷ 1 ∷ []) ≡ false
block_without_its_widths = refl

block_past_the_end : behind_block (14 ∷ 4 ∷ 0 ∷ 0 ∷ 0 ∷ []) ≡ []
block_past_the_end = refl

-- Writing

letter_written : code_words (items (a ∷ [])) ≡ 16 ∷ 97 ∷ 1 ∷ []
letter_written = refl

-- (?:|a)
empty_or_letter_written : code_words (items (Branch (Or Empty (Only (items (a ∷ [])))) ∷ []))
    ≡ 7 ∷ 3 ∷ 15 ∷ 7 ∷ 5 ∷ 16 ∷ 97 ∷ 15 ∷ 2 ∷ 0 ∷ 1 ∷ []
empty_or_letter_written = refl

-- (?:(a)(?!b)|a)b
branch_and_look_written : code_words
    (items
    (Branch (Or (items (Mark 0 ∷ a ∷ Mark 1 ∷ Look Negative 0 (items (b ∷ [])) ∷ [])) (Only (items (a ∷ [])))) ∷ b ∷
    []))
    ≡ 7 ∷ 15 ∷ 17 ∷ 0 ∷ 16 ∷ 97 ∷ 17 ∷ 1 ∷ 5 ∷ 5 ∷ 0 ∷ 16 ∷ 98 ∷ 1 ∷ 15 ∷ 7 ∷ 5 ∷ 16 ∷ 97 ∷ 15 ∷ 2 ∷ 0 ∷ 16 ∷ 98 ∷ 1
    ∷ []
branch_and_look_written = refl

-- (a)?(?(1)b|c)
loop_and_both_parts_written : code_words
    (items (Loop Greedy 0 1 (items (Mark 0 ∷ a ∷ Mark 1 ∷ [])) ∷ ExistsElse 0 (items (b ∷ [])) (items (c ∷ [])) ∷ []))
    ≡ 23 ∷ 9 ∷ 0 ∷ 1 ∷ 17 ∷ 0 ∷ 16 ∷ 97 ∷ 17 ∷ 1 ∷ 18 ∷ 12 ∷ 0 ∷ 6 ∷ 16 ∷ 98 ∷ 15 ∷ 3 ∷ 16 ∷ 99 ∷ 1 ∷ []
loop_and_both_parts_written = refl

jump_as_an_operand_written : code_words (items (Exists 0 (items (One (Literal Plain 15) ∷ One Any ∷ [])) ∷ []))
    ≡ 12 ∷ 0 ∷ 5 ∷ 16 ∷ 15 ∷ 2 ∷ 1 ∷ []
jump_as_an_operand_written = refl

empty_part_written : code_words (items (ExistsElse 0 (items (b ∷ [])) Empty ∷ []))
    ≡ 12 ∷ 0 ∷ 6 ∷ 16 ∷ 98 ∷ 15 ∷ 1 ∷ 1 ∷ []
empty_part_written = refl

set_that_flips_written : code_words (items (One (In Plain (Single 97 ∷ Negate ∷ Range 97 98 ∷ [])) ∷ []))
    ≡ 13 ∷ 8 ∷ 16 ∷ 97 ∷ 21 ∷ 22 ∷ 97 ∷ 98 ∷ 0 ∷ 1 ∷ []
set_that_flips_written = refl

-- (?:a*)*
run_in_a_loop_written : code_words (items (Loop Greedy 0 unlimited (items (Run GreedyRun 0 unlimited is_a ∷ [])) ∷ []))
    ≡ 23 ∷ 10 ∷ 0 ∷ unlimited ∷ 24 ∷ 6 ∷ 0 ∷ unlimited ∷ 16 ∷ 97 ∷ 1 ∷ 18 ∷ 1 ∷ []
run_in_a_loop_written = refl

-- (?>a)b
group_and_letter_written : code_words (items (Atomic (items (a ∷ [])) ∷ b ∷ []))
    ≡ 27 ∷ 4 ∷ 16 ∷ 97 ∷ 1 ∷ 16 ∷ 98 ∷ 1 ∷ []
group_and_letter_written = refl

-- (?:ab){2}+
possessive_loop_written : code_words (items (PossessiveLoop 2 2 (items (a ∷ b ∷ [])) ∷ []))
    ≡ 28 ∷ 7 ∷ 2 ∷ 2 ∷ 16 ∷ 97 ∷ 16 ∷ 98 ∷ 1 ∷ 1 ∷ []
possessive_loop_written = refl

charsets_written : code_words (items
    (One (In Plain (Charset (replicate 8 3) ∷ BigCharset (replicate 256 0) (replicate 8 5) ∷ [])) ∷ []))
    ≡ 13 ∷ 85 ∷ 9 ∷ replicate 8 3 ++ (10 ∷ 1 ∷ replicate 64 0 ++ (replicate 8 5 ++ (0 ∷ 1 ∷ [])))
charsets_written = refl
