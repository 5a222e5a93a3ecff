-- What a search says of its answer, and a step of an iteration of its match and of the next request.
-- Public clauses rest on it.
use Rattle.std.specs.Prelude.{◌+◌, ◌≡◌, ◌<◌, ◌≤◌, Bool, true, false, Option, None, Some, Result, Ok, Err, IfOk, OnErr}
use Rattle.sre_engine.specs.Terms.{Ghosts, Tree, Whole, no_marks, found, walk, most_matches, is_anchored, words_of}
use Rattle.sre_engine.specs.Terms.{Request, start_of, end_of, code_of, asked_of, stands_in}
use Rattle.sre_engine.specs.Answers.{Shown, Spans, answer_of}
use Rattle.sre_engine.specs.Counts.{CountsUpTo}
use Rattle.sre_engine.specs.Walks.{StepsTo, GoesOn}

-- the answer is the first match of the least start in the window that has one
abbrev pub FindsFirst : {S : Type 0} {text : Ghosts S} → Request S text → Bool → Shown → Type 0
FindsFirst r b s = (t : Tree) → Whole (words_of (code_of r)) t → answer_of b s ≡ found (asked_of r) t

-- the cursor stands at the end of a match that is found
abbrev pub StandsAtEnd : {S : Type 0} {text : Ghosts S} → Request S text → Bool → Shown → Type 0
StandsAtEnd r b s = b ≡ true → stands_in r s.cursor s.cursor.position

-- a match that is found lies in the window
abbrev pub LiesInside : {S : Type 0} {text : Ghosts S} → Request S text → Bool → Shown → Type 0
LiesInside r b s = b ≡ true → (start_of r ≤ s.start) × Spans s.start (end_of r) s

-- what is counted over the whole window
abbrev pub CountsInside : {S : Type 0} {text : Ghosts S} → Request S text → Shown → Type 0
CountsInside r s = CountsUpTo (asked_of r) (code_of r) (end_of r + 1) (end_of r) s

-- what is counted up to a match that is found
abbrev pub CountsToMatch : {S : Type 0} {text : Ghosts S} → Request S text → Bool → Shown → Type 0
CountsToMatch r b s = b ≡ true → CountsUpTo (asked_of r) (code_of r) (s.start + 1) s.cursor.position s

-- what a search answers and counts, whichever way it finds the starts that it tries
pub record Answered {S E : Type 0} {text : Ghosts S} (r : Request S text) (told : Result Bool E) (s : Shown) : Type 0
  where
    pub answer : IfOk told (λ b. FindsFirst r b s)
    pub cursor : IfOk told (λ b. StandsAtEnd r b s)
    pub span : IfOk told (λ b. LiesInside r b s)
    pub no : IfOk told (λ b. b ≡ false → s.marks ≡ no_marks)
    pub err : OnErr told (s.marks ≡ no_marks)
    pub counts : CountsInside r s
    pub up_to_match : IfOk told (λ b. CountsToMatch r b s)

-- the same where it has no run of the machine, which alone may be given up
abbrev pub AnsweredAtOnce : {S : Type 0} {text : Ghosts S} → Request S text → Bool → Shown → Type 0
AnsweredAtOnce r b s = Answered {E = Unit {0}} r (Ok b) s

-- a code that is anchored at the text's start is run once at most
abbrev pub RunsOnceAnchored : {S : Type 0} {text : Ghosts S} → Request S text → Shown → Type 0
RunsOnceAnchored r s = (t : Tree) → Whole (words_of (code_of r)) t → is_anchored t ≡ true → s.started ≤ 1

-- the matches left to a walk are the one that is shown and those left to what is asked next, where there is one
abbrev pub WalksOn : {S : Type 0} {text : Ghosts S} → Request S text → Bool → Shown → Request S text → Type 0
WalksOn r b s next =
    (t : Tree) → Whole (words_of (code_of r)) t → StepsTo (walk (asked_of r) t) b s (walk (asked_of next) t)

-- what a step within a step limit tells, as one that is given up where the limit is exceeded
abbrev pub given_up : {E : Type 0} → Result (Option Bool) E → Result Bool (Option E)
given_up (Ok (Some b)) = Ok b
given_up (Ok None) = Err None
given_up (Err e) = Err (Some e)

-- whether a match was found within a step limit
abbrev pub has_found : {E : Type 0} → Result (Option Bool) E → Bool
has_found (Ok (Some b)) = b
has_found (Ok None) = false
has_found (Err e) = false

-- all that a search counts: over the window, up to a match, and where a code is anchored at the text's start
pub record CountsAll {S : Type 0} {text : Ghosts S} (r : Request S text) (b : Bool) (s : Shown) : Type 0 where
  pub inside : CountsInside r s
  pub up_to_match : CountsToMatch r b s
  pub anchored : RunsOnceAnchored r s

-- a step of a walk: what it tells of the matches left, what is asked next, and what was counted
pub record Stepped {S E : Type 0} {text : Ghosts S} (r : Request S text) (told : Result Bool E) (s : Shown)
    (next : Request S text) : Type 0 where
  pub ok : IfOk told (λ b. WalksOn r b s next)
  pub yes : IfOk told (λ b. b ≡ true → GoesOn r s next)
  pub falls : IfOk told (λ b. b ≡ true → most_matches (asked_of next) < most_matches (asked_of r))
  pub no : IfOk told (λ b. b ≡ false → (next ≡ r) × (s.marks ≡ no_marks))
  pub err : OnErr told ((next ≡ r) × (s.marks ≡ no_marks))
  pub counts : CountsInside r s
  pub up_to_match : IfOk told (λ b. CountsToMatch r b s)
