-- Worked rows, by computation: matches and searches.
use Rattle.std.specs.Prelude.{ℕ, ◌-◌, refl, ◌≡◌, true, List, [], ◌∷◌, ◌++◌, codes, map, replicate, Option, Some, None}
use Rattle.std.specs.Prelude.{pos, negsuc}
use Rattle.sre_chars.specs.declared.constants.SreAtCode.TheVariants.{BEGINNING, BEGINNING_LINE, BOUNDARY, NON_BOUNDARY}
use Rattle.sre_chars.specs.declared.constants.SreAtCode.TheVariants.{END, END_LINE, END_STRING, UNI_NON_BOUNDARY}
use Rattle.sre_chars.specs.declared.constants.EmptyRule.TheVariants.{NonBoundary}
use Rattle.sre_chars.specs.declared.constants.SreCatCode.TheVariants.{DIGIT, UNI_DIGIT, UNI_NOT_DIGIT, UNI_WORD}
use Rattle.sre_chars.specs.Tables.{ascii_table, table_of}
use Rattle.sre_model.specs.Tree.{Tree, Test, Empty, One, At, Mark, Branch, Loop, Run, PossessiveLoop, Atomic, Look}
use Rattle.sre_model.specs.Tree.{Reference, Exists, ExistsElse, Only, Or, Any, AnyAll, InCategory, Literal, NotLiteral}
use Rattle.sre_model.specs.Tree.{In, Single, Category, Range, RangeUniIgnore, Charset, BigCharset, Negate, Plain, Ascii}
use Rattle.sre_model.specs.Tree.{Locale, Unicode, Greedy, Lazy, GreedyRun, LazyRun, PossessiveRun, Positive, Negative}
use Rattle.sre_model.specs.Subject.{Subject}
use Rattle.sre_model.specs.Ways.{unlimited, run_length, longest_run, may_repeat}
use Rattle.sre_model.specs.Found.{Match, matched, found}
use Rattle.sre_model.specs.Shown.{items, is_a, a, b, c, d, window, whole, span, marked, grouped}

-- Literals and marks

-- the empty tree on ""
empty_tree : matched (whole []) Empty ≡ Some (span 0 0)
empty_tree = refl

-- (a)b
group_and_letter : matched (whole (codes "ab")) (items (Mark 0 ∷ a ∷ Mark 1 ∷ b ∷ [])) ≡ Some (grouped 0 2 0 1)
group_and_letter = refl

-- mark 0 alone: no group ends
mark_alone : matched (whole (codes "a")) (items (Mark 0 ∷ [])) ≡ Some (marked 0 0 (Some 0 ∷ []) (negsuc 0))
mark_alone = refl

-- mark 3 alone: the marks before it are absent, and group 1 is the last
marks_in_between_are_absent : matched (whole (codes "a")) (items (Mark 3 ∷ []))
    ≡ Some (marked 0 0 (None ∷ None ∷ None ∷ Some 0 ∷ []) (pos 2))
marks_in_between_are_absent = refl

-- b from the window's start
match_in_window : matched (window (codes "ab") 1 2) (items (b ∷ [])) ≡ Some (span 1 2)
match_in_window = refl

-- ab in the window of a
nothing_past_the_window : matched (window (codes "ab") 0 1) (items (a ∷ b ∷ [])) ≡ None
nothing_past_the_window = refl

characters_are_numbers : matched (whole (233 ∷ [])) (items (One (Literal Plain 233) ∷ [])) ≡ Some (span 0 1)
characters_are_numbers = refl

bytes_are_no_characters : matched (whole (195 ∷ 169 ∷ [])) (items (One (Literal Plain 233) ∷ [])) ≡ None
bytes_are_no_characters = refl

-- Flags

must_advance_refuses_the_empty_match : matched (record (whole (codes "a")) { must_advance = true }) Empty ≡ None
must_advance_refuses_the_empty_match = refl

match_all_refuses_a_short_match : matched (record (whole (codes "ab")) { match_all = true }) (items (a ∷ [])) ≡ None
match_all_refuses_a_short_match = refl

-- a|ab under match_all: the first accepted way is not the first way
match_all_goes_on : matched (record (whole (codes "ab")) { match_all = true })
    (items (Branch (Or (items (a ∷ [])) (Only (items (a ∷ b ∷ [])))) ∷ [])) ≡ Some (span 0 2)
match_all_goes_on = refl

-- (?>a)b under match_all, which says nothing of the group's end
match_all_of_the_whole : matched (record (whole (codes "ab")) { match_all = true })
    (items (Atomic (items (a ∷ [])) ∷ b ∷ [])) ≡ Some (span 0 2)
match_all_of_the_whole = refl

-- Branches

-- a|ab
first_alternative_wins : matched (whole (codes "ab"))
    (items (Branch (Or (items (a ∷ [])) (Only (items (a ∷ b ∷ [])))) ∷ [])) ≡ Some (span 0 1)
first_alternative_wins = refl

-- (?:(a)(?!b)|a)b
marks_of_a_failed_alternative_are_gone : matched (whole (codes "ab"))
    (items (Branch (Or (items (Mark 0 ∷ a ∷ Mark 1 ∷ Look Negative 0 (items (b ∷ [])) ∷ [])) (Only (items (a ∷ []))))
    ∷ b ∷ [])) ≡ Some (span 0 2)
marks_of_a_failed_alternative_are_gone = refl

-- Runs

-- a*
greedy_run : matched (whole (codes "aab")) (items (Run GreedyRun 0 unlimited is_a ∷ [])) ≡ Some (span 0 2)
greedy_run = refl

-- .*?b
lazy_run : matched (whole (codes "abab")) (items (Run LazyRun 0 unlimited Any ∷ b ∷ [])) ≡ Some (span 0 2)
lazy_run = refl

-- a{1,2}?b
lazy_run_within_counts : matched (whole (codes "aab")) (items (Run LazyRun 1 2 is_a ∷ b ∷ [])) ≡ Some (span 0 3)
lazy_run_within_counts = refl

lazy_run_past_the_greatest_count : matched (whole (codes "aaab")) (items (Run LazyRun 1 2 is_a ∷ b ∷ [])) ≡ None
lazy_run_past_the_greatest_count = refl

-- a*+a
possessive_run_gives_nothing_back : matched (whole (codes "aaa")) (items (Run PossessiveRun 0 unlimited is_a ∷ a ∷ []))
    ≡ None
possessive_run_gives_nothing_back = refl

-- the count that means no limit is none
no_limit_on_runs : (s : Subject) (t : Test) (p : ℕ) → longest_run s t unlimited p ≡ run_length s t (s.end - p) p
no_limit_on_runs s t p = refl

-- Loops

no_limit_on_bodies : (count p : ℕ) → may_repeat unlimited count None p ≡ true
no_limit_on_bodies count p = refl

-- (?:a|aab){2}c
count_falls_back_with_the_body : matched (whole (codes "aabc"))
    (items (Loop Greedy 2 2 (items (Branch (Or (items (a ∷ [])) (Only (items (a ∷ a ∷ b ∷ [])))) ∷ [])) ∷ c ∷ []))
    ≡ None
count_falls_back_with_the_body = refl

-- (?:(?:ab)+c)+?d
lazy_over_greedy : matched (whole (codes "abcabcd"))
    (items (Loop Lazy 1 unlimited (items (Loop Greedy 1 unlimited (items (a ∷ b ∷ [])) ∷ c ∷ [])) ∷ d ∷ []))
    ≡ Some (span 0 7)
lazy_over_greedy = refl

-- (?:a*)* on "b" and on "aab"
body_that_stays_ends_the_loop : matched (whole (codes "b"))
    (items (Loop Greedy 0 unlimited (items (Run GreedyRun 0 unlimited is_a ∷ [])) ∷ [])) ≡ Some (span 0 0)
body_that_stays_ends_the_loop = refl

body_that_moves_and_stays : matched (whole (codes "aab"))
    (items (Loop Greedy 0 unlimited (items (Run GreedyRun 0 unlimited is_a ∷ [])) ∷ [])) ≡ Some (span 0 2)
body_that_moves_and_stays = refl

-- (?:ab){0,2}
greatest_count_of_bodies : matched (whole (codes "ababab")) (items (Loop Greedy 0 2 (items (a ∷ b ∷ [])) ∷ []))
    ≡ Some (span 0 4)
greatest_count_of_bodies = refl

-- (?:ab)*?
lazy_loop_ends_first : matched (whole (codes "abab")) (items (Loop Lazy 0 unlimited (items (a ∷ b ∷ [])) ∷ []))
    ≡ Some (span 0 0)
lazy_loop_ends_first = refl

-- (?:a*)*?b on "aab" and on "aac"
lazy_loop_goes_on : matched (whole (codes "aab"))
    (items (Loop Lazy 0 unlimited (items (Run GreedyRun 0 unlimited is_a ∷ [])) ∷ b ∷ [])) ≡ Some (span 0 3)
lazy_loop_goes_on = refl

lazy_loop_fails : matched (whole (codes "aac"))
    (items (Loop Lazy 0 unlimited (items (Run GreedyRun 0 unlimited is_a ∷ [])) ∷ b ∷ [])) ≡ None
lazy_loop_fails = refl

-- an empty body, three times
empty_body_below_the_least_count : matched (whole []) (items (Loop Greedy 3 3 Empty ∷ [])) ≡ Some (span 0 0)
empty_body_below_the_least_count = refl

-- (?:ab){0,2}+
greatest_count_of_possessive_bodies : matched (whole (codes "ababab"))
    (items (PossessiveLoop 0 2 (items (a ∷ b ∷ [])) ∷ [])) ≡ Some (span 0 4)
greatest_count_of_possessive_bodies = refl

-- (?:ab){2}+ on "ab" and on "abab"
possessive_loop_below_the_least_count : matched (whole (codes "ab"))
    (items (PossessiveLoop 2 2 (items (a ∷ b ∷ [])) ∷ [])) ≡ None
possessive_loop_below_the_least_count = refl

possessive_loop_goes_on_from_the_last_body : matched (whole (codes "abab"))
    (items (PossessiveLoop 2 2 (items (a ∷ b ∷ [])) ∷ [])) ≡ Some (span 0 4)
possessive_loop_goes_on_from_the_last_body = refl

possessive_loop_of_empty_bodies : matched (whole (codes "a")) (items (PossessiveLoop 0 unlimited Empty ∷ []))
    ≡ Some (span 0 0)
possessive_loop_of_empty_bodies = refl

-- Atomic groups and looks

-- (?>a*)a
atomic_group_gives_nothing_back : matched (whole (codes "aaa"))
    (items (Atomic (items (Run GreedyRun 0 unlimited is_a ∷ [])) ∷ a ∷ [])) ≡ None
atomic_group_gives_nothing_back = refl

-- (?=(a))
positive_look_keeps_marks : matched (whole (codes "a"))
    (items (Look Positive 0 (items (Mark 0 ∷ a ∷ Mark 1 ∷ [])) ∷ [])) ≡ Some (grouped 0 0 0 1)
positive_look_keeps_marks = refl

-- (?!(a))
negative_look_leaves_marks : matched (whole (codes "b"))
    (items (Look Negative 0 (items (Mark 0 ∷ a ∷ Mark 1 ∷ [])) ∷ [])) ≡ Some (span 0 0)
negative_look_leaves_marks = refl

-- (?<=a)b
look_back_before_the_window : matched (window (codes "ab") 1 2) (items (Look Positive 1 (items (a ∷ [])) ∷ b ∷ []))
    ≡ Some (span 1 2)
look_back_before_the_window = refl

-- (?<=a)b and (?<!a)b at the text's start
positive_look_past_the_start : matched (whole (codes "b")) (items (Look Positive 1 (items (a ∷ [])) ∷ b ∷ [])) ≡ None
positive_look_past_the_start = refl

negative_look_past_the_start : matched (whole (codes "b")) (items (Look Negative 1 (items (a ∷ [])) ∷ b ∷ []))
    ≡ Some (span 0 1)
negative_look_past_the_start = refl

-- References and conditions

-- (a+)\1
reference : matched (whole (codes "aaa"))
    (items (Mark 0 ∷ Run GreedyRun 1 unlimited is_a ∷ Mark 1 ∷ Reference Plain 0 ∷ [])) ≡ Some (grouped 0 2 0 1)
reference = refl

-- (ab)\1
reference_to_different_characters : matched (whole (codes "abab"))
    (items (Mark 0 ∷ a ∷ b ∷ Mark 1 ∷ Reference Plain 0 ∷ [])) ≡ Some (grouped 0 4 0 2)
reference_to_different_characters = refl

-- (a)\1 in the window of the first a
reference_past_the_window : matched (window (codes "aa") 0 1) (items (Mark 0 ∷ a ∷ Mark 1 ∷ Reference Plain 0 ∷ []))
    ≡ None
reference_past_the_window = refl

folded_reference : matched (whole (codes "aA")) (items (Mark 0 ∷ a ∷ Mark 1 ∷ Reference Ascii 0 ∷ []))
    ≡ Some (grouped 0 2 0 1)
folded_reference = refl

plain_reference : matched (whole (codes "aA")) (items (Mark 0 ∷ a ∷ Mark 1 ∷ Reference Plain 0 ∷ [])) ≡ None
plain_reference = refl

-- a group that ends before it begins is missing
reference_to_a_missing_group : matched (whole (codes "aa")) (items (Mark 1 ∷ a ∷ Mark 0 ∷ Reference Plain 0 ∷ []))
    ≡ None
reference_to_a_missing_group = refl

-- (a)?(?(1)b|c)
abbrev if_the_group_is_there : Tree
if_the_group_is_there =
    items (Loop Greedy 0 1 (items (Mark 0 ∷ a ∷ Mark 1 ∷ [])) ∷ ExistsElse 0 (items (b ∷ [])) (items (c ∷ [])) ∷ [])

condition_holds : matched (whole (codes "ab")) if_the_group_is_there ≡ Some (grouped 0 2 0 1)
condition_holds = refl

condition_fails : matched (whole (codes "c")) if_the_group_is_there ≡ Some (span 0 1)
condition_fails = refl

condition_without_a_way : matched (whole (codes "ac")) if_the_group_is_there ≡ None
condition_without_a_way = refl

absent_part_matches_emptily : matched (whole (codes "b")) (items (Exists 0 (items (b ∷ [])) ∷ [])) ≡ Some (span 0 0)
absent_part_matches_emptily = refl

empty_part_matches_emptily : matched (whole (codes "b")) (items (ExistsElse 0 (items (b ∷ [])) Empty ∷ []))
    ≡ Some (span 0 0)
empty_part_matches_emptily = refl

-- Positions

no_boundary_on_nothing : matched (whole []) (items (At BOUNDARY ∷ [])) ≡ None
no_boundary_on_nothing = refl

no_boundary_inside_a_word : matched (window (codes "ab") 1 2) (items (At BOUNDARY ∷ [])) ≡ None
no_boundary_inside_a_word = refl

non_boundary_inside_a_word : matched (window (codes "ab") 1 2) (items (At NON_BOUNDARY ∷ [])) ≡ Some (span 1 1)
non_boundary_inside_a_word = refl

no_non_boundary_on_nothing : matched (whole []) (items (At NON_BOUNDARY ∷ [])) ≡ None
no_non_boundary_on_nothing = refl

-- the same where the rule is that a non-boundary is there, and no boundary
non_boundary_on_nothing : matched (record (whole []) { empty_rule = NonBoundary }) (items (At NON_BOUNDARY ∷ []))
    ≡ Some (span 0 0)
non_boundary_on_nothing = refl

no_boundary_on_nothing_by_the_rule : matched (record (whole []) { empty_rule = NonBoundary }) (items (At BOUNDARY ∷ []))
    ≡ None
no_boundary_on_nothing_by_the_rule = refl

non_boundary_at_the_start_of_an_empty_window : matched (record (window (codes "a") 0 0) { empty_rule = NonBoundary })
    (items (At NON_BOUNDARY ∷ []))
    ≡ Some (span 0 0)
non_boundary_at_the_start_of_an_empty_window = refl

no_non_boundary_before_a_word : matched (record (whole (codes "a")) { empty_rule = NonBoundary })
    (items (At NON_BOUNDARY ∷ []))
    ≡ None
no_non_boundary_before_a_word = refl

unicode_non_boundary_on_nothing : found (record (whole []) { match_all = true; empty_rule = NonBoundary })
    (items (At UNI_NON_BOUNDARY ∷ []))
    ≡ Some (span 0 0)
unicode_non_boundary_on_nothing = refl

-- a$ on a, a line feed and b, of which the window has the first two
end_before_the_last_line_feed : matched (window (97 ∷ 10 ∷ 98 ∷ []) 0 2) (items (a ∷ At END ∷ [])) ≡ Some (span 0 1)
end_before_the_last_line_feed = refl

-- ^a from the second character on
window_start_is_no_beginning : found (window (codes "ba") 1 2) (items (At BEGINNING ∷ a ∷ [])) ≡ None
window_start_is_no_beginning = refl

-- (?m)^b and (?m)a$ at a line feed in the middle, where a$ alone has no match
line_begins_after_a_line_feed : found (whole (97 ∷ 10 ∷ 98 ∷ [])) (items (At BEGINNING_LINE ∷ b ∷ [])) ≡ Some (span 2 3)
line_begins_after_a_line_feed = refl

line_ends_before_a_line_feed : matched (whole (97 ∷ 10 ∷ 98 ∷ [])) (items (a ∷ At END_LINE ∷ [])) ≡ Some (span 0 1)
line_ends_before_a_line_feed = refl

no_end_before_a_line_feed_in_the_middle : matched (whole (97 ∷ 10 ∷ 98 ∷ [])) (items (a ∷ At END ∷ [])) ≡ None
no_end_before_a_line_feed_in_the_middle = refl

-- a\Z
string_ends_after_the_last_line_feed : matched (whole (97 ∷ 10 ∷ [])) (items (a ∷ At END_STRING ∷ [])) ≡ None
string_ends_after_the_last_line_feed = refl

-- Sets and folded literals

any_but_a_line_feed : matched (whole (10 ∷ [])) (items (One Any ∷ [])) ≡ None
any_but_a_line_feed = refl

any_at_all : matched (whole (10 ∷ [])) (items (One AnyAll ∷ [])) ≡ Some (span 0 1)
any_at_all = refl

digit : matched (whole (codes "7")) (items (One (InCategory DIGIT) ∷ [])) ≡ Some (span 0 1)
digit = refl

-- a is in, then a to b are out, and all others are in
abbrev negate_in_the_middle : Tree
negate_in_the_middle = items (One (In Plain (Single 97 ∷ Negate ∷ Range 97 98 ∷ [])) ∷ [])

before_the_negate : matched (whole (codes "a")) negate_in_the_middle ≡ Some (span 0 1)
before_the_negate = refl

after_the_negate : matched (whole (codes "b")) negate_in_the_middle ≡ None
after_the_negate = refl

in_no_item : matched (whole (codes "c")) negate_in_the_middle ≡ Some (span 0 1)
in_no_item = refl

first_item_decides : matched (whole (codes "a")) (items (One (In Plain (Single 97 ∷ Range 97 98 ∷ [])) ∷ []))
    ≡ Some (span 0 1)
first_item_decides = refl

-- the set of a, by its bit
abbrev charset_of_a : Tree
charset_of_a = items (One (In Plain (Charset (0 ∷ 0 ∷ 0 ∷ 2 ∷ 0 ∷ 0 ∷ 0 ∷ 0 ∷ []) ∷ [])) ∷ [])

in_charset : matched (whole (codes "a")) charset_of_a ≡ Some (span 0 1)
in_charset = refl

not_in_charset : matched (whole (codes "b")) charset_of_a ≡ None
not_in_charset = refl

-- the characters 256 to 511: block 1, and all other blocks are empty
abbrev big_charset : Tree
big_charset =
    items (One (In Plain (BigCharset (0 ∷ 1 ∷ replicate 254 0) (replicate 8 0 ++ replicate 8 4294967295) ∷ [])) ∷ [])

in_big_charset : matched (whole (257 ∷ [])) big_charset ≡ Some (span 0 1)
in_big_charset = refl

in_an_empty_block : matched (whole (codes "a")) big_charset ≡ None
in_an_empty_block = refl

-- the characters below 65536: one block, and all blocks are that one
abbrev full_big_charset : Tree
full_big_charset = items (One (In Plain (BigCharset (replicate 256 0) (replicate 8 4294967295) ∷ [])) ∷ [])

last_of_big_charset : matched (whole (65535 ∷ [])) full_big_charset ≡ Some (span 0 1)
last_of_big_charset = refl

past_big_charset : matched (whole (65536 ∷ [])) full_big_charset ≡ None
past_big_charset = refl

-- the text is folded, and the literal is not
folded_literal : matched (whole (codes "A")) (items (One (Literal Ascii 97) ∷ [])) ≡ Some (span 0 1)
folded_literal = refl

literal_is_not_folded : matched (whole (codes "A")) (items (One (Literal Ascii 65) ∷ [])) ≡ None
literal_is_not_folded = refl

folded_not_literal : matched (whole (codes "A")) (items (One (NotLiteral Ascii 97) ∷ [])) ≡ None
folded_not_literal = refl

-- under the locale's folding either case will do
either_case : matched (whole (codes "a")) (items (One (Literal Locale 65) ∷ [])) ≡ Some (span 0 1)
either_case = refl

either_case_in_set : matched (whole (codes "A")) (items (One (In Locale (Single 97 ∷ [])) ∷ [])) ≡ Some (span 0 1)
either_case_in_set = refl

-- [A-Z], whose ends are upper case, ignoring case by the table
either_case_in_range : matched (whole (codes "a")) (items (One (In Unicode (RangeUniIgnore 65 90 ∷ [])) ∷ []))
    ≡ Some (span 0 1)
either_case_in_range = refl

-- with a table that has the two cases of an accented e
by_the_table : matched
    (record (whole (201 ∷ [])) {
      table = table_of ((201, 233) ∷ []) ((233, 201) ∷ []) ((201, 201) ∷ (233, 233) ∷ []);
    }) (items (One (Literal Unicode 233) ∷ [])) ≡ Some (span 0 1)
by_the_table = refl

-- with a table that has Arabic-Indic digits, and no other entry
abbrev arabic_digit : List Test → Option Match
arabic_digit tests = matched
    (record (whole (1635 ∷ [])) { table = record ascii_table { digits = (1632, 1641) ∷ [] } }) (items (map One tests))

digit_by_the_table : arabic_digit (InCategory UNI_DIGIT ∷ []) ≡ Some (span 0 1)
digit_by_the_table = refl

digit_in_a_set : arabic_digit (In Plain (Category UNI_DIGIT ∷ []) ∷ []) ≡ Some (span 0 1)
digit_in_a_set = refl

digit_is_not_denied : arabic_digit (InCategory UNI_NOT_DIGIT ∷ []) ≡ None
digit_is_not_denied = refl

digit_past_ascii_is_no_ascii_digit : arabic_digit (InCategory DIGIT ∷ []) ≡ None
digit_past_ascii_is_no_ascii_digit = refl

digit_is_no_word_character : arabic_digit (InCategory UNI_WORD ∷ []) ≡ None
digit_is_no_word_character = refl

no_digit_without_the_table : matched (whole (1635 ∷ [])) (items (One (InCategory UNI_DIGIT) ∷ [])) ≡ None
no_digit_without_the_table = refl

not_in_the_table : matched (whole (201 ∷ [])) (items (One (Literal Unicode 233) ∷ [])) ≡ None
not_in_the_table = refl

-- Searches

-- ab(cd)
search_past_the_first_start : found (whole (codes "xabcd")) (items (a ∷ b ∷ Mark 0 ∷ c ∷ d ∷ Mark 1 ∷ []))
    ≡ Some (grouped 1 5 3 5)
search_past_the_first_start = refl

-- aab
search_an_overlap : found (whole (codes "aaaab")) (items (a ∷ a ∷ b ∷ [])) ≡ Some (span 2 5)
search_an_overlap = refl

-- a under match_all
search_up_to_the_end : found (record (whole (codes "aba")) { match_all = true }) (items (a ∷ [])) ≡ Some (span 2 3)
search_up_to_the_end = refl

-- a* under must_advance: a later start may match emptily
search_advances : found (record (whole (codes "b")) { must_advance = true })
    (items (Run GreedyRun 0 unlimited is_a ∷ [])) ≡ Some (span 1 1)
search_advances = refl

-- [ab]c
search_a_set : found (whole (codes "xbcac")) (items (One (In Plain (Single 97 ∷ Single 98 ∷ [])) ∷ c ∷ []))
    ≡ Some (span 1 3)
search_a_set = refl

search_a_set_from_the_first_start : found (whole (codes "bc"))
    (items (One (In Plain (Single 97 ∷ Single 98 ∷ [])) ∷ c ∷ [])) ≡ Some (span 0 2)
search_a_set_from_the_first_start = refl

search_without_a_match : found (whole (codes "xxxx")) (items (One (In Plain (Single 97 ∷ Single 98 ∷ [])) ∷ c ∷ []))
    ≡ None
search_without_a_match = refl
