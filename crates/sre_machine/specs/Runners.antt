-- What a runner has, and what an attempt of it preserves, counts and costs.
-- Definitions for the contracts inside these crates; what sre_engine makes public does not rest on it.
use Rattle.std.specs.Prelude.{⊤, ℕ, ◌+◌, ◌-◌, ◌*◌, ◌^◌, ◌≡◌, ◌<◌, ◌≤◌, Bool, true, false, Option, None, Some, Result}
use Rattle.std.specs.Prelude.{Ok, Err, IfOk}
use Rattle.sre_machine.specs.Terms.{Ghosts, StringCursor, Tree, WholeItems, no_marks, behind_items, ReadsBehind}
use Rattle.sre_machine.specs.Terms.{turns_of, most_each, BoardValue, bare, Decides, outcomes, Request, asked_of, end_of}
use Rattle.sre_machine.specs.Terms.{run_of, Standing}
use Rattle.std.specs.declared.alloc.Allocator.{Ghosts as Memory}
use Rattle.sre_machine.specs.Spending.{is_limited, left_of}
use Rattle.sre_machine.specs.Memos.{MemoValue, Recalls}
use Rattle.sre_machine.specs.Paying.{RunStops, RunSettles}
use Rattle.sre_machine.specs.declared.allowance.Allowance.{Allowance}
use Rattle.sre_machine.specs.declared.turns.Halt.{Halt}

-- the board on which it runs, what it remembers of failures, and how many runs were begun: those at a start, and those
-- that began again there
pub record RunnerValue : Type 0 where
  pub board : BoardValue
  pub memo : MemoValue
  pub started : ℕ
  pub restarted : ℕ

-- a run may begin: the board is empty, what is remembered is hopeless, and one more run can be counted
pub record IsReady {S : Type 0} {text : Ghosts S} (r : Request S text) (n : RunnerValue) : Type 0 where
  pub fresh : n.board ≡ bare no_marks
  pub remembers : Recalls (run_of r) n.memo
  pub room : n.started + 1 < 2 ^ 64
  pub again : n.restarted ≤ n.started

-- a run may begin from a cursor, which stands in the window behind some literals that the words begin with
pub record MayRun {S : Type 0} {text : Ghosts S} (r : Request S text) (literals : ℕ) (start : StringCursor) :
    Type 0 where
  pub stands : Standing r start
  pub inside : start.position ≤ end_of r
  pub behind : (t : Tree) → WholeItems (run_of r).words t → ReadsBehind (run_of r).words literals t
  pub few : 2 * literals < 2 ^ 64

-- one run was begun at a start, and at most once again there; without a limit none begins again
pub record Began (limited : Bool) (n n' : RunnerValue) : Type 0 where
  pub started : n'.started ≡ n.started + 1
  pub restarted : n.restarted ≤ n'.restarted
  pub again : n'.restarted ≤ n'.started
  pub never : limited ≡ false → n'.restarted ≡ n.restarted

-- of what follows some literals the first accepted way is told, with its end and its marks
pub record AttemptDecides {E S : Type 0} {text : Ghosts S} (r : Request S text) (literals start : ℕ)
    (told : Result (Option StringCursor) E) (b : BoardValue) : Type 0 where
  pub each : (t : Tree) → WholeItems (run_of r).words t
      → IfOk told (λ found. Decides (run_of r) (outcomes (run_of r) (behind_items literals t) start) found b.marks)

-- where no way was found the board is empty
abbrev pub ClearsUnfound : {E : Type 0} → Result (Option StringCursor) E → BoardValue → Type 0
ClearsUnfound (Ok (Some end)) b = ⊤
ClearsUnfound (Ok None) b = b ≡ bare no_marks
ClearsUnfound (Err why) b = b ≡ bare no_marks

-- what the turns of an attempt take off those that are left, by its runs and by what failed in them
pub record AttemptCosts {M S : Type 0} {memory : Memory M} {text : Ghosts S} (r : Request S text) (literals : ℕ)
    (start : StringCursor) (told : Result (Option StringCursor) (Halt M memory)) (n n' : RunnerValue)
    (a a' : Allowance) : Type 0 where
  pub limited : is_limited a' ≡ is_limited a
  pub fewer : left_of a' ≤ left_of a
  pub spent : (t : Tree) → WholeItems (run_of r).words t → left_of a ≤ left_of a'
      + (1 + n'.restarted - n.restarted)
      * (turns_of (run_of r).subject (behind_items literals t) start.position * most_each (asked_of r))
  pub stops : is_limited a ≡ true → RunStops M r start n.memo (left_of a) (left_of a')
  pub settles : is_limited a ≡ true
      → IfOk told (λ found. found ≡ None → RunSettles M r start n.memo n'.memo (left_of a) (left_of a'))
