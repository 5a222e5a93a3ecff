-- Worked rows, by computation: how many steps suffice, which groups a tree reads, and iterations.
use Rattle.std.specs.Prelude.{ℕ, ◌-◌, ◌*◌, refl, ◌≡◌, [], ◌∷◌, replicate, true, false, codes}
use Rattle.sre_chars.specs.declared.constants.SreAtCode.TheVariants.{END, BOUNDARY}
use Rattle.sre_model.specs.Tree.{Tree, Item, Empty, At, Branch, Loop, Run, PossessiveLoop, Atomic, Look, Only, Or}
use Rattle.sre_model.specs.Tree.{Greedy, GreedyRun, PossessiveRun, Positive, Negative, Mark, Reference, Exists, Plain}
use Rattle.sre_model.specs.Ways.{unlimited}
use Rattle.sre_model.specs.Found.{Asked, walk}
use Rattle.sre_model.specs.Regions.{has_forked_region}
use Rattle.sre_model.specs.LooksBehind.{backs}
use Rattle.sre_model.specs.Remembered.{words_at_place, sides, step_bound}
use Rattle.sre_model.specs.Shown.{items, is_a, a, b, c, window, whole, span, grouped}
use Rattle.sre_model.specs.References.{asked_from, asked_to}

-- so many letters
abbrev letters : ℕ → Asked
letters n = whole (replicate n 97)

-- (?:a+a+)+b
abbrev two_runs : Tree
two_runs =
    items (Loop Greedy 1 unlimited (items (Run GreedyRun 1 unlimited is_a ∷ Run GreedyRun 1 unlimited is_a ∷ [])) ∷ b
    ∷ [])

steps_of_two_runs : step_bound two_runs (letters 100) ≡ 8686
steps_of_two_runs = refl

-- with ten times the letters ten times the steps, but for the position at the range's end
steps_of_more_letters : step_bound two_runs (letters 1000) ≡ 86086
steps_of_more_letters = refl

-- and there has to be room for two bits for each of four slots and 1,001 positions, at each place
room_of_two_runs : words_at_place two_runs (letters 1000) ≡ 126
room_of_two_runs = refl

-- (?:a|aa)+$, which is compiled with two alternatives behind the first letter
steps_of_alternatives : step_bound (items (Loop Greedy 1 unlimited
    (items (a ∷ Branch (Or Empty (Only (items (a ∷ [])))) ∷ [])) ∷ At END ∷ [])) (letters 100) ≡ 10807
steps_of_alternatives = refl

-- a{0,20}b: the repeat tries as many ends, and its scan may cost two more
steps_of_a_counted_run : step_bound (items (Run GreedyRun 0 20 is_a ∷ b ∷ [])) (letters 100) ≡ 14443
steps_of_a_counted_run = refl

-- or one, where the range has ten characters
steps_of_a_short_window : step_bound (items (Run GreedyRun 0 20 is_a ∷ b ∷ [])) (letters 10) ≡ 1012
steps_of_a_short_window = refl

-- (?:a*+b|a)*c: a possessive repeat without a greatest count goes on step by step, so its number is a multiple of the
-- positions
abbrev possessive_run : Tree
possessive_run =
    items (Loop Greedy 0 unlimited (items (Branch (Or (items (Run PossessiveRun 0 unlimited is_a ∷ b ∷ []))
    (Only (items (a ∷ [])))) ∷ [])) ∷ c ∷ [])

steps_of_a_possessive_run : step_bound possessive_run (letters 100) ≡ 101 * 80
steps_of_a_possessive_run = refl

steps_of_a_longer_run : step_bound possessive_run (letters 1000) ≡ 1001 * 80
steps_of_a_longer_run = refl

-- (?:(?=a)a)+b: the lookahead does not branch
abbrev looks : Tree
looks =
    items (Loop Greedy 1 unlimited (items (Look Positive 0 (items (a ∷ [])) ∷ a ∷ [])) ∷ b ∷ [])

look_is_straight : has_forked_region looks ≡ false
look_is_straight = refl

steps_of_looks : step_bound looks (letters 100) ≡ 9292
steps_of_looks = refl

-- (?!(?>a)b) has one inside the other; (?=a*) has a run in its body, (?>(?>a|b)) a branch, and a{0,}+ of a loop is one
nested_are_straight : has_forked_region (items (Look Negative 0 (items (Atomic (items (a ∷ [])) ∷ b ∷ [])) ∷ []))
    ≡ false
nested_are_straight = refl

run_forks : has_forked_region (items (Look Positive 0 (items (Run GreedyRun 0 unlimited is_a ∷ [])) ∷ [])) ≡ true
run_forks = refl

branch_forks : has_forked_region (items
    (Atomic (items (Atomic (items (Branch (Or (items (a ∷ [])) (Only (items (b ∷ [])))) ∷ [])) ∷ [])) ∷ [])) ≡ true
branch_forks = refl

possessive_loop_forks : has_forked_region (items (PossessiveLoop 0 unlimited (items (a ∷ [])) ∷ [])) ≡ true
possessive_loop_forks = refl

-- (?:(?=a+)a+a+)+b: the lookahead branches, so there are configurations inside of scopes and outside
abbrev forked_look : Tree
forked_look =
    items (Loop Greedy 1 unlimited (items (Look Positive 0 (items (Run GreedyRun 1 unlimited is_a ∷ [])) ∷
    Run GreedyRun 1 unlimited is_a ∷ Run GreedyRun 1 unlimited is_a ∷ [])) ∷ b ∷ [])

sides_of_forked_look : sides forked_look ≡ 2
sides_of_forked_look = refl

steps_of_forked_look : step_bound forked_look (letters 100) ≡ 17574
steps_of_forked_look = refl

-- without the lookahead those outside alone
sides_of_two_runs : sides two_runs ≡ 1
sides_of_two_runs = refl

-- (?>a|bc)*c
steps_of_a_forked_group : step_bound (items (Loop Greedy 0 unlimited
    (items (Atomic (items (Branch (Or (items (a ∷ [])) (Only (items (b ∷ c ∷ [])))) ∷ [])) ∷ [])) ∷ c ∷ []))
    (letters 100) ≡ 11514
steps_of_a_forked_group = refl

-- (?<=ab|bc)c: failures are memoized from two characters before the range on
abbrev look_behind : Item
look_behind = Look Positive 2 (items (Branch (Or (items (a ∷ b ∷ [])) (Only (items (b ∷ c ∷ [])))) ∷ []))

abbrev forked_look_behind : Tree
forked_look_behind = items (look_behind ∷ c ∷ [])

-- the last 100 of so many letters
abbrev last_letters : ℕ → Asked
last_letters n = window (replicate n 97) (n - 100) n

steps_of_look_behind : step_bound forked_look_behind (letters 100) ≡ 6969
steps_of_look_behind = refl

-- as many as of a longer range without such lookbehinds
steps_from_two_before : step_bound forked_look_behind (last_letters 200)
    ≡ step_bound forked_look_behind (letters 102)
steps_from_two_before = refl

-- before the range there may be fewer
steps_from_one_before : step_bound forked_look_behind (last_letters 101)
    ≡ step_bound forked_look_behind (letters 101)
steps_from_one_before = refl

-- looks go back one after the other, and one inside the other: (?<=ab|bc)(?<!b(?<=ab|bc))
looks_go_back : backs (items (look_behind ∷ Look Negative 1 (items (b ∷ look_behind ∷ [])) ∷ [])) ≡ 5
looks_go_back = refl

-- (?:ab)*+c: two states of the loop make a difference, inside of scopes and outside
abbrev possessive_loop : Tree
possessive_loop = items (PossessiveLoop 0 unlimited (items (a ∷ b ∷ [])) ∷ c ∷ [])

steps_of_a_possessive_loop : step_bound possessive_loop (letters 100) ≡ 7070
steps_of_a_possessive_loop = refl

-- with ten times the letters ten times the steps, but for the position at the range's end
steps_of_a_longer_window : step_bound possessive_loop (letters 1000) ≡ 70070
steps_of_a_longer_window = refl

-- How many steps suffice for patterns in use, over 100 letters: what a test asks of a character makes no difference, so
-- one letter is every class and every literal

-- one or more, any number, and one or none
abbrev some : Item
some = Run GreedyRun 1 unlimited is_a

abbrev any : Item
any = Run GreedyRun 0 unlimited is_a

abbrev maybe : Item
maybe = Run GreedyRun 0 1 is_a

-- e-mail: [\w.+-]+@[\w-]+\.[\w.-]+
abbrev email : Tree
email = items (some ∷ a ∷ some ∷ a ∷ some ∷ [])

steps_of_email : step_bound email (letters 100) ≡ 4747
steps_of_email = refl

-- date: (\d{4})-(\d\d)-(\d\d)
abbrev date : Tree
date = items (Mark 0 ∷ Run GreedyRun 4 4 is_a ∷ Mark 1 ∷ a ∷ Mark 2 ∷ a ∷ a ∷ Mark 3 ∷ a ∷ Mark 4 ∷ a ∷ a ∷ Mark
    5 ∷ [])

steps_of_date : step_bound date (letters 100) ≡ 6161
steps_of_date = refl

-- IPv4 address: \b(?:\d{1,3}\.){3}\d{1,3}\b
abbrev ipv4_address : Tree
ipv4_address = items (At END ∷ Loop Greedy 3 3 (items (Run GreedyRun 1 3 is_a ∷ a ∷ [])) ∷ Run GreedyRun 1 3
    is_a ∷ At END ∷ [])

steps_of_ipv4_address : step_bound ipv4_address (letters 100) ≡ 17675
steps_of_ipv4_address = refl

-- number: [-+]?(?:\d+\.?\d*|\.\d+)(?:[eE][-+]?\d+)?
abbrev number : Tree
number = items (maybe ∷ Branch (Or (items (some ∷ maybe ∷ any ∷ [])) (Only (items (a ∷ some ∷ [])))) ∷ Loop
    Greedy 0 1 (items (a ∷ maybe ∷ some ∷ [])) ∷ [])

steps_of_number : step_bound number (letters 100) ≡ 12928
steps_of_number = refl

-- SQL keywords: (?:union\s+(?:all\s+)?select|insert\s+into|drop\s+table)
abbrev sql_keywords : Tree
sql_keywords = items (Branch (Or (items (a ∷ a ∷ a ∷ a ∷ a ∷ some ∷ Loop Greedy 0 1 (items (a ∷ a ∷ a ∷ some ∷
    [])) ∷ a ∷ a ∷ a ∷ a ∷ a ∷ a ∷ [])) (Or (items (a ∷ a ∷ a ∷ a ∷ a ∷ a ∷ some ∷ a ∷ a ∷ a ∷ a ∷ [])) (Only
    (items (a ∷ a ∷ a ∷ a ∷ some ∷ a ∷ a ∷ a ∷ a ∷ a ∷ []))))) ∷ [])

steps_of_sql_keywords : step_bound sql_keywords (letters 100) ≡ 16665
steps_of_sql_keywords = refl

-- UUID: [0-9a-f]{8}(?:-[0-9a-f]{4}){3}-[0-9a-f]{12}
abbrev uuid : Tree
uuid = items (Run GreedyRun 8 8 is_a ∷ Loop Greedy 3 3 (items (a ∷ Run GreedyRun 4 4 is_a ∷ [])) ∷ a ∷ Run
    GreedyRun 12 12 is_a ∷ [])

steps_of_uuid : step_bound uuid (letters 100) ≡ 11514
steps_of_uuid = refl

-- log line: (\d+(?:\.\d+){3}) (\S+) (\S+) \[([^]]+)\] "([A-Z]+) (\S+)[^"]*" (\d{3}) (\d+|-)
abbrev log_line : Tree
log_line = items (Mark 0 ∷ some ∷ Loop Greedy 3 3 (items (a ∷ some ∷ [])) ∷ Mark 1 ∷ a ∷ Mark 2 ∷ some ∷ Mark 3
    ∷ a ∷ Mark 4 ∷ some ∷ Mark 5 ∷ a ∷ a ∷ Mark 6 ∷ some ∷ Mark 7 ∷ a ∷ a ∷ a ∷ Mark 8 ∷ some ∷ Mark 9 ∷ a ∷
    Mark 10 ∷ some ∷ Mark 11 ∷ any ∷ a ∷ a ∷ Mark 12 ∷ Run GreedyRun 3 3 is_a ∷ Mark 13 ∷ a ∷ Mark 14 ∷ Branch
    (Or (items (some ∷ [])) (Only (items (a ∷ [])))) ∷ Mark 15 ∷ [])

steps_of_log_line : step_bound log_line (letters 100) ≡ 19190
steps_of_log_line = refl

-- date with time: (\d{4})-(\d\d)-(\d\d)T(\d\d):(\d\d)(?::(\d\d)(?:\.\d+)?)?(Z|[+-]\d\d:\d\d)?
abbrev date_with_time : Tree
date_with_time = items (Mark 0 ∷ Run GreedyRun 4 4 is_a ∷ Mark 1 ∷ a ∷ Mark 2 ∷ a ∷ a ∷ Mark 3 ∷ a ∷ Mark 4 ∷ a
    ∷ a ∷ Mark 5 ∷ a ∷ Mark 6 ∷ a ∷ a ∷ Mark 7 ∷ a ∷ Mark 8 ∷ a ∷ a ∷ Mark 9 ∷ Loop Greedy 0 1 (items (a ∷ Mark
    10 ∷ a ∷ a ∷ Mark 11 ∷ Loop Greedy 0 1 (items (a ∷ some ∷ [])) ∷ [])) ∷ Loop Greedy 0 1 (items (Mark 12 ∷
    Branch (Or (items (a ∷ [])) (Only (items (a ∷ a ∷ a ∷ a ∷ a ∷ a ∷ [])))) ∷ Mark 13 ∷ [])) ∷ [])

steps_of_date_with_time : step_bound date_with_time (letters 100) ≡ 35350
steps_of_date_with_time = refl

-- password rule: (?=.*[a-z])(?=.*\d)(?=.*[A-Z]).{8,64}
abbrev password_rule : Tree
password_rule = items (Look Positive 0 (items (any ∷ a ∷ [])) ∷ Look Positive 0 (items (any ∷ a ∷ [])) ∷ Look
    Positive 0 (items (any ∷ a ∷ [])) ∷ Run GreedyRun 8 64 is_a ∷ [])

steps_of_password_rule : step_bound password_rule (letters 100) ≡ 55045
steps_of_password_rule = refl

-- Which groups a tree reads

-- (a)(b)\1
abbrev first_of_two : Tree
first_of_two =
    items (Mark 0 ∷ a ∷ Mark 1 ∷ Mark 2 ∷ b ∷ Mark 3 ∷ Reference Plain 0 ∷ [])

first_asked : asked_from first_of_two ≡ 0
first_asked = refl

last_asked : asked_to first_of_two ≡ 0
last_asked = refl

-- references to the groups 3 and 1, one of them in a loop
abbrev two_asked : Tree
two_asked = items (Loop Greedy 0 unlimited (items (Reference Plain 3 ∷ [])) ∷ Reference Plain 1 ∷ [])

first_of_both : asked_from two_asked ≡ 1
first_of_both = refl

last_of_both : asked_to two_asked ≡ 3
last_of_both = refl

-- nothing asks, and a condition asks for all
none_asked : asked_to (items (Mark 0 ∷ a ∷ Mark 1 ∷ [])) ≡ 0
none_asked = refl

all_asked : asked_to (items (Exists 0 (items (a ∷ [])) ∷ [])) ≡ 4294967295
all_asked = refl

-- Iterations

-- a*
empty_matches_between : walk (whole (codes "baa")) (items (Run GreedyRun 0 unlimited is_a ∷ []))
    ≡ span 0 0 ∷ span 1 3 ∷ span 3 3 ∷ []
empty_matches_between = refl

-- (?:|a): as many matches as a walk can have
most_matches_of_one_character : walk (whole (codes "a")) (items (Branch (Or Empty (Only (items (a ∷ [])))) ∷ []))
    ≡ span 0 0 ∷ span 0 1 ∷ span 1 1 ∷ []
most_matches_of_one_character = refl

-- \b
boundaries_of_a_word : walk (whole (codes "a ")) (items (At BOUNDARY ∷ [])) ≡ span 0 0 ∷ span 1 1 ∷ []
boundaries_of_a_word = refl

walk_without_a_match : walk (whole (codes "a")) (items (b ∷ [])) ≡ []
walk_without_a_match = refl

-- the empty tree on "", which must advance
walk_that_must_advance : walk (record (whole []) { must_advance = true }) Empty ≡ []
walk_that_must_advance = refl

-- a* under match_all
walk_up_to_the_end : walk (record (whole (codes "aa")) { match_all = true })
    (items (Run GreedyRun 0 unlimited is_a ∷ [])) ≡ span 0 2 ∷ span 2 2 ∷ []
walk_up_to_the_end = refl

-- (a)b: each match begins with no marks
walk_with_marks : walk (whole (codes "abab")) (items (Mark 0 ∷ a ∷ Mark 1 ∷ b ∷ []))
    ≡ grouped 0 2 0 1 ∷ grouped 2 4 2 3 ∷ []
walk_with_marks = refl
