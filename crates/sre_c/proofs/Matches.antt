-- What the engine answers is what a caller's code and text have by the specification.
use Rattle.sre_c.proofs.Terms.{◌≡◌, ◌+◌, ◌≤◌, ℕ, List, Bool, true, cond, Option, None, Result, Ok, Err, IfOk, refl}
use Rattle.sre_c.proofs.Terms.{arith, Global, Refused, Tree, Whole, Asked, matched, found, words_of, Code, SreError}
use Rattle.sre_c.proofs.Terms.{Shown, answer_of, KeepsToSteps, runs_of, once, KeepsBudget, Finds, OnErr, ◌≢◌, told_of}
use Rattle.sre_c.proofs.Terms.{Some, sym, Table, IsCode, Match, match_shown, Status, No, Yes, StepLimit, Memory, NoCode}
use Rattle.sre_c.proofs.Terms.{NoRoom, NotUtf8, FaultyTable, SreCode, SreAsked, table_in, asked_in, SreFound, model_of}
use Rattle.sre_c.proofs.Terms.{OfTree, HasMatch, IsFound, IsTold, LeavesSteps, Answers, Replies}
use Rattle.sre_engine.specs.Counts.{CountsUpTo}
use Rattle.sre_c.proofs.Codes.{enough_of}

-- no step is taken
keeps_all : (a : Asked) (code : Code) (told : Result (Option Bool) SreError) (n : ℕ) → IfOk told (λ b. b ≢ None)
    → KeepsToSteps Global a code told 0 n n
keeps_all a code told n known = grind arith

told_known : (said : Result Bool SreError) → IfOk (told_of said) (λ b. b ≢ None)
told_known said = grind arith

pub unspent : (code : Code) (a : Asked) (last : ℕ) (said : Result Bool SreError) (n : ℕ)
    → KeepsBudget (words_of code) a last (told_of said) n n
unspent code a last said n =
    let kept = keeps_all a code (told_of said) n (told_known said) in
    record { code = code; own = refl; runs = 0; few = omega arith; kept = kept }

-- a search of starts up to the last
pub search_kept : {a : Asked} {code : Code} {last seen given left : ℕ} {s : Shown}
    {told : Result (Option Bool) SreError} → CountsUpTo a code (last + 1) seen s → s.restarted ≤ s.started
    → KeepsToSteps Global a code told (runs_of s) given left → KeepsBudget (words_of code) a last told given left
search_kept {a} {code} {last} {seen} {s = s} counts again kept =
    let few = once a code (last + 1) seen s counts in
    record { code = code; own = refl; runs = runs_of s; few = omega (arith, few, again); kept = kept }

-- the same of words that are these
pub own_kept : {ws own : List ℕ} {a : Asked} {last given left : ℕ} {told : Result (Option Bool) SreError} → ws ≡ own
    → KeepsBudget ws a last told given left → KeepsBudget own a last told given left
own_kept same kept = rw same at kept

-- what was searched is searched
pub searched : (words : List ℕ) (a : Asked) (search : Bool) (told : Result (Option Bool) SreError) (s : Shown)
    (given left : ℕ) → search ≡ true → Finds words a true told s given left → Finds words a search told s given left
searched words a search told s given left is finds = rw is finds

-- without a limit
pub finds_any : (code : Code) {a : Asked} {search : Bool} {s : Shown} {n : ℕ} (said : Result Bool SreError)
    → ((t : Tree) → Whole (words_of code) t
    → IfOk said (λ b. answer_of b s ≡ cond search (found a t) (matched a t)))
    → OnErr said (Refused Global) → Finds (words_of code) a search (told_of said) s n n
finds_any code {a} {n = n} (Ok b) answer refused =
    record { answer = answer; steps = unspent code a _ (Ok b) n; unlimited = λ none. refl; memory = refused }
finds_any code {a} {n = n} (Err e) answer refused =
    record { answer = answer; steps = unspent code a _ (Err e) n; unlimited = λ none. refl; memory = refused }

module _ (c : SreCode) (text : List ℕ) (given : SreAsked) (room : ℕ) (f : SreFound) (marks : List ℕ)
    (code : IsCode c.words.now) where
  -- what the engine replies
  abbrev pub Replied : Status → Type 0
  Replied status =
      Replies c.words.now (asked_in given (table_in c.table.now) text) given.search status given.steps room f marks

  -- whether there is a match
  answer_in : {status : Status} (x : Replied status) {b : Bool} → x.told ≡ Ok (Some b)
      → OfTree c given text (λ asked t. answer_of b x.shown ≡ model_of given asked t)
  answer_in x is t whole = rw is at (x.finds.answer t whole)

  -- a match, of which something holds
  match_in : {status : Status} (x : Replied status) → x.told ≡ Ok (Some true) → (says : Match → Type 0)
      → says (match_shown x.shown) → OfTree c given text (λ asked t. HasMatch (model_of given asked t) says)
  match_in x is says holds t whole =
      record { match = match_shown x.shown; there = sym (answer_in x is t whole); said = holds }

  -- the steps that are left
  left_in : {status : Status} (x : Replied status) {told : Option Bool} → x.told ≡ Ok told
      → LeavesSteps c text given told f.steps
  left_in x is = rw is at x.finds.steps

  -- what the status says
  answers_of : (status : Status) → Replied status → Answers status c text given room f marks
  answers_of No x = (code, λ t whole. sym (answer_in x x.reply t whole), left_in x x.reply)
  answers_of Yes x = (code, match_in x x.reply.0 (λ m. IsTold m f marks) x.reply.1, left_in x x.reply.0)
  answers_of NoRoom x = (code, match_in x x.reply.0 (λ m. IsFound m f) x.reply.1, x.reply.2, left_in x x.reply.0)
  answers_of StepLimit x =
      let left = left_in x x.reply in (
        code,
        left.kept.used refl,
        λ enough. left.kept.enough (enough_of (rw left.own enough)) refl,
        left,
      )
  answers_of Memory x = x.reply
  answers_of NoCode x = absurd x.reply
  answers_of FaultyTable x = absurd x.reply
  answers_of NotUtf8 x = x.reply

  -- of a request of the code
  pub answers_in : {words : List ℕ} {table : Table} {a : Asked} (status : Status) → words ≡ c.words.now
      → table ≡ table_in c.table.now → a ≡ asked_in given table text
      → Replies words a given.search status given.steps room f marks → Answers status c text given room f marks
  answers_in status own same asked x = answers_of status (rw (own, asked, same) at x)
