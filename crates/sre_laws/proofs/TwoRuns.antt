-- How many steps suffice for (?:a+a+)+b, over any text of up to 1,000 characters.
use Rattle.sre_laws.proofs.Terms.{Whole, ReadsItem, Asked, IsRemembered, kept_positions, step_bound, words_of_two_runs}
use Rattle.std.proofs.Common.{◌≡◌, ℕ, ◌+◌, ◌*◌, ◌/◌, ◌<◌, ◌≤◌, min, refl, arith}
use Rattle.sre_engine.specs.Tree.{Tree, Empty, Then, Item, One, Loop, Run, Literal, Plain, Greedy, GreedyRun}
use Rattle.sre_engine.specs.Ways.{unlimited}

abbrev letters : Item
letters = Run GreedyRun 1 unlimited (Literal Plain 97)

abbrev pub two_runs : Tree
two_runs =
    Then (Loop Greedy 1 unlimited (Then letters (Then letters Empty))) (Then (One (Literal Plain 98)) Empty)

pub its_words : Whole words_of_two_runs two_runs
its_words =
    let some : 1 ≤ unlimited = omega arith in
    let first : ReadsItem words_of_two_runs 4 11 letters =
    (refl, (refl, refl, refl, some, refl, (refl, refl), refl)) in
    let second : ReadsItem words_of_two_runs 11 18 letters =
    (refl, (refl, refl, refl, some, refl, (refl, refl), refl)) in
    let loop : ReadsItem words_of_two_runs 0 19 (Loop Greedy 1 unlimited (Then letters (Then letters Empty))) =
    (refl, (refl, refl, some, (11, first, (18, second, refl)), refl, refl)) in
    (refl, ((19, loop, (21, (refl, (refl, refl)), refl)), refl))

-- the number over n positions, where a scan and a lookbehind cost nothing
few : (n e scan back : ℕ) → n ≤ e + 1 → e ≤ 1000 → scan ≡ 0 → back ≡ 0
    → n * (32 + (4 + (26 + (4 * (3 + scan) + (4 * (3 + scan) + 0)) + 0) * 1) * (1 + back)) < 86087
few n e scan back m short none far = rw (none, far) (omega (arith, m, short))

pub steps_suffice : (a : Asked) → a.start ≤ a.end → a.end ≤ 1000 → step_bound two_runs a < 86087
steps_suffice a order short =
    few (kept_positions two_runs a) a.end (min 1 a.end / 8) (min 0 a.end / 8) (omega arith) short (omega arith)
    (omega arith)

pub two_runs_remembered : (a : Asked) → a.start ≤ a.end → a.end ≤ 1000 → IsRemembered 22 two_runs a
two_runs_remembered a order short = record {
  unmarked = λ forked. refl;
  no_reference = refl;
  slots = omega arith;
  whole = λ many. absurd (omega (arith, many));
  room = omega (arith, short);
  order = order;
}
