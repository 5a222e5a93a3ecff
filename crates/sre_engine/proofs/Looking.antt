-- How a start becomes a candidate, and how a search goes from candidate to candidate.
use Rattle.sre_engine.proofs.Terms.{◌≡◌, ◌≤◌, ◌<◌, ℕ, List, length, Bool, refl, arith, inr, Asked, Code, IsPrefix}
use Rattle.sre_engine.proofs.Terms.{NoPlace, NoMatch, MovesOn, ◌+◌, cond, false, true, Some, Ghosts, StringCursor, Tree}
use Rattle.sre_engine.proofs.Terms.{Whole, words_of, Request, end_of, code_of, asked_of, run_of, items_whole, MayBegin}
use Rattle.sre_engine.proofs.Terms.{IsCandidate, Failed, NoneUntil, Candidate, IsBare, bare_candidate, PassesTo, ◌-◌}
use Rattle.sre_engine.proofs.Terms.{Option, None, Result, Ok, Err, IfErr, IsErrAnd, sym, ◌∙◌, subst, mul-le-mul_right}
use Rattle.sre_engine.proofs.Terms.{no_marks, found, bare, Decides, outcomes, hints_of, start_of, stands_in, is_limited}
use Rattle.sre_engine.proofs.Terms.{left_of, Halted, Allowance, Halt, code_tree, Shown, SpentUpTo, Charged, IsLast}
use Rattle.sre_engine.proofs.Terms.{FitsAt, Answered, CountsInside, Recalls, Begins, RunnerValue, IsReady, Began}
use Rattle.sre_engine.proofs.Terms.{AttemptDecides, AttemptCosts, ComparesFew}
use Rattle.std.specs.declared.alloc.Allocator.{Ghosts as Memory}
use Rattle.sre_engine.proofs.LeadingStarts.{none_joined, none_here, NoneBefore, none_at, some_at, span_at, found_first}
use Rattle.sre_engine.proofs.LeadingStarts.{found_none_behind}
use Rattle.sre_engine.proofs.PrefixWays.{unplaced_between}
use Rattle.sre_engine.proofs.Spending.{CostsSince, since_begin, since_run, since_stopped, since_ended, once_spent}
use Rattle.sre_engine.proofs.Spending.{run_spent}
use Rattle.sre_engine.proofs.CountLaws.{RanBefore, ran_none, ran_later, ran_on, few_ran, counts_ran}

-- How a start becomes a candidate, and what is skipped after one that failed.

-- Where a scan for a prefix continues, by what is known of starts without a match.

-- the scan stays as it is
pub stays : (q i : ℕ) → MovesOn q i q i
stays q i = record { from = omega arith; fewer = inr (refl, refl) }

pub none_passed : (a : Asked) (code : Code) (p : ℕ) → NoMatch a code p p
none_passed a code p = record { forward = omega arith; none = λ t whole s from to. absurd (omega (arith, from, to)) }

-- behind starts that have no match none has one up to the next place
pub no_match_unplaced : (a : Asked) (code : Code) (vs : List ℕ) (k : ℕ) (whole : Bool) → IsPrefix code vs k whole
    → 0 < length vs → (p q r : ℕ) → NoMatch a code p q → NoPlace a.text vs a.end q r → NoMatch a code p r
no_match_unplaced a code vs k whole is some p q r before x = record {
  forward = omega (arith, before.forward, x.forward);
  none = λ t w. none_joined a t p q r (before.none t w) (unplaced_between a code vs k whole is some t w q r x);
}

module _ {S : Type 0} {text : Ghosts S} (r : Request S text) where
  -- a cursor from a front on, before which no start has a match
  pub at_cursor : (front : ℕ) (cursor : StringCursor) (c : Candidate) (compared : ℕ) → c ≡ bare_candidate cursor
      → (run_of r).stands cursor cursor.position → front ≤ cursor.position → cursor.position ≤ end_of r
      → ((t : Tree) → Whole (words_of (code_of r)) t → NoneUntil (asked_of r) t front (Some cursor))
      → MayBegin (asked_of r) (code_of r) cursor.position → compared ≡ 0
      → IsCandidate (run_of r) (asked_of r) (code_of r) front c compared
  at_cursor front cursor c compared same stands from inside none may nothing = rw same (record {
    stands = stands;
    behind = omega arith;
    inside = inside;
    few = omega arith;
    none = record { forward = from; none = none };
    may = may;
    reads = λ t whole. whole.0;
    decides = λ t whole end m decided. decided;
    far = λ t whole m e. omega (arith, nothing);
  })

  -- from a candidate that failed on none has a match up to where it is passed to
  pub passed_to : (c : Candidate) (further : Bool) (cursor : StringCursor) → IsBare c
      → Failed (asked_of r) (code_of r) c.start → c.cursor.position ≤ end_of r
      → PassesTo (run_of r) (asked_of r) c.cursor.position further cursor
      → NoMatch (asked_of r) (code_of r) c.start (cond further cursor.position (end_of r + 1))
  passed_to c further cursor is failed inside passes = record {
    forward = by_end further passes.next;
    none = λ t whole.
        let here = rw is.start at passes.none t (items_whole (code_of r) t whole) in
        here (failed.none t whole);
  }
    where
      by_end : (b : Bool) → (b ≡ true → (c.cursor.position < cursor.position) × (cursor.position ≤ end_of r))
          → c.start ≤ cond b cursor.position (end_of r + 1)
      by_end true on = omega (arith, is.start, (on refl).0)
      by_end false on = omega (arith, is.start, inside)

-- behind a start that failed the words of a prefix stand nowhere up to a position
pub unplaced_passed : (a : Asked) (code : Code) (vs : List ℕ) (k : ℕ) (whole : Bool) → IsPrefix code vs k whole
    → 0 < length vs → (p q : ℕ) → Failed a code p → NoPlace a.text vs a.end (p + 1) q → NoMatch a code p q
unplaced_passed a code vs k whole is some p q failed passed =
    let alone : NoMatch a code p (p + 1) = record {
      forward = omega arith;
      none = λ t w. none_here a t p (failed.none t w);
    } in
    no_match_unplaced a code vs k whole is some p (p + 1) q alone passed

-- How a search goes from candidate to candidate.

-- what a search knows from a front on: no start before it has a match, and what was run up to there
pub record Searching (M : Type 0) {S : Type 0} {text : Ghosts S} (r : Request S text) (n : RunnerValue)
    (given now : Allowance) (front : ℕ) : Type 0 where
  pub fresh : n.board ≡ bare no_marks
  pub remembers : Recalls (run_of r) n.memo
  pub from : start_of r ≤ front
  pub inside : front ≤ end_of r
  pub none : (t : Tree) → Whole (words_of (code_of r)) t → NoneBefore (asked_of r) t front
  pub ran : RanBefore (asked_of r) (code_of r) n.started front
  pub again : n.restarted ≤ n.started
  pub never : is_limited given ≡ false → n.restarted ≡ 0
  pub limited : is_limited now ≡ is_limited given
  pub fewer : left_of now ≤ left_of given
  pub spent : SpentUpTo (asked_of r) (code_of r) (left_of given) (left_of now) (n.started + n.restarted)
  pub costs : is_limited given ≡ true → CostsSince M r n.memo (left_of given) (left_of now) n.started

module _ {S : Type 0} {text : Ghosts S} (r : Request S text) where
  -- at the begin of a search
  pub begins : {M : Type 0} (n : RunnerValue) (a : Allowance) (front : ℕ) → IsReady r n → Begins (start_of r)
      (end_of r) n.memo
      → n.started ≡ 0 → n.restarted ≡ 0 → front ≡ start_of r → Searching M r n a a front
  begins n a front ready memo started restarted at = record {
    fresh = ready.fresh;
    remembers = ready.remembers;
    from = omega (arith, at);
    inside = omega (arith, at, r.in_window.0);
    none = λ t whole s from less. absurd (omega (arith, at, from, less));
    ran = ran_none (asked_of r) (code_of r) n.started front started;
    again = ready.again;
    never = λ e. restarted;
    limited = refl;
    fewer = omega arith;
    spent = record { each = λ t whole most within. omega arith };
    costs = λ limited. rw started (since_begin r n.memo (left_of a) memo.waits memo.closed);
  }

  -- another run may begin
  pub ready : {M : Type 0} (n : RunnerValue) (given a : Allowance) (front : ℕ) → Searching M r n given a front
      → IsReady r n
  ready n given a front old = record {
    fresh = old.fresh;
    remembers = old.remembers;
    room = omega (arith, few_ran (asked_of r) (code_of r) _ _ old.ran, old.inside, r.in_window.1);
    again = old.again;
  }

  -- what is charged where no further run is needed
  pub charged_then : {M : Type 0} {memory : Memory M} (n : RunnerValue) (given a : Allowance) (front : ℕ)
      → Searching M r n given a front → (b : Bool)
      → Charged {M = M} {memory = memory} r (Ok b) n.started (n.started + n.restarted) given a
  charged_then n given a front old b = record {
    limited = old.limited;
    fewer = old.fewer;
    spent = old.spent;
    halted = tt;
    cost = λ limited. since_ended r n.memo _ _ n.started (old.costs limited);
  }

  -- where no start has a match the answer is no
  pub answered_no : {E : Type 0} (s : Shown) (p : ℕ) →
      ((t : Tree) → Whole (words_of (code_of r)) t → found (asked_of r) t ≡ None)
      → s.marks ≡ no_marks → RanBefore (asked_of r) (code_of r) s.started p → p ≤ end_of r + 1
      → ComparesFew (asked_of r) (code_of r) s.compared → Answered {E = E} r (Ok false) s
  answered_no s p none marks ran l few = record {
    answer = λ t whole. sym (none t whole);
    cursor = λ never. absurd (cc never);
    span = λ never. absurd (cc never);
    no = λ e. marks;
    err = tt;
    counts = counts_ran (asked_of r) (code_of r) s p _ _ ran l few.few few.none;
    up_to_match = λ never. absurd (cc never);
  }

-- A run at a candidate

module _ {M S : Type 0} {memory : Memory M} {text : Ghosts S} (r : Request S text) (n n' : RunnerValue)
    (given a a' : Allowance) (front compared : ℕ) (c : Candidate) (last : Option ℕ)
    (told : Result (Option StringCursor) (Halt M memory))
    (old : Searching M r n given a front)
    (is : IsCandidate (run_of r) (asked_of r) (code_of r) front c compared)
    (few : ComparesFew (asked_of r) (code_of r) compared)
    (is_last : IsLast (asked_of r) (code_of r) last) (fits : FitsAt last c.start)
    (began : Began (is_limited a) n n') (costs : AttemptCosts r c.literals c.cursor told n n' a a') where
  ran : RanBefore (asked_of r) (code_of r) n'.started (c.start + 1)
  ran = ran_on _ _ last _ _ front c.start is_last fits old.from is.none.forward old.ran began.started is.may

  -- its start is in the window
  inside : c.start ≤ end_of r
  inside = omega (arith, is.behind, is.inside)

  from : start_of r ≤ c.cursor.position
  from = omega (arith, old.from, is.none.forward, is.behind)

  spent : SpentUpTo (asked_of r) (code_of r) (left_of given) (left_of a') (n'.started + n'.restarted)
  spent = run_spent (asked_of r) (code_of r) _ _ _ _ _ _ _ old.spent
      (once_spent (asked_of r) (code_of r) c.literals c.cursor.position _ _ _ is.inside
      (λ t whole. costs.spent t (items_whole (code_of r) t whole))) began.started began.restarted

  -- what is charged, also where it is given up
  pub charged : (result : Result Bool (Halt M memory)) → IfErr result (Halted a')
      → Charged r result n'.started (n'.started + n'.restarted) given a'
  charged result halts = record {
    limited = costs.limited ∙ old.limited;
    fewer = omega (arith, costs.fewer, old.fewer);
    spent = spent;
    halted = halts;
    cost = λ limited.
        since_stopped r n.memo c.cursor _ _ _ n.started n'.started (old.costs limited)
        (costs.stops (old.limited ∙ limited)) from began.started;
  }

  -- a state that shows no match
  answered_without : (s : Shown) → s.started ≡ n'.started → s.compared ≡ compared → CountsInside r s
  answered_without s started compares =
      counts_ran (asked_of r) (code_of r) s (c.start + 1) _ _
      (subst (λ m. RanBefore (asked_of r) (code_of r) m (c.start + 1)) (sym started) ran) (omega (arith, inside))
      (omega (arith, compares, few.few)) (λ plain. compares ∙ few.none plain)

  -- a run that is given up
  pub answered_given_up : (why : Halt M memory) (result : Result Bool (Halt M memory)) → IsErrAnd result (λ y. y ≡ why)
      → (s : Shown)
      → s.marks ≡ no_marks → s.started ≡ n'.started → s.compared ≡ compared → Answered r result s
  answered_given_up why (Ok b) passed s marks started compares = absurd passed
  answered_given_up why (Err y) passed s marks started compares = record {
    answer = tt;
    cursor = tt;
    span = tt;
    no = tt;
    err = marks;
    counts = answered_without s started compares;
    up_to_match = tt;
  }

  module _ (outcome : Option StringCursor)
      (decides : AttemptDecides {E = Halt M memory} r c.literals c.cursor.position (Ok outcome) n'.board)
    where
      decided : (t : Tree) → Whole (words_of (code_of r)) t
          → Decides (run_of r) (outcomes (run_of r) t c.start) outcome n'.board.marks
      decided t whole =
          is.decides t whole outcome n'.board.marks (decides.each t (items_whole (code_of r) t whole))

      -- no way from the start is accepted
      pub failed : outcome ≡ None → Failed (asked_of r) (code_of r) c.start
      failed e = record {
        none = λ t whole. none_at (stands_in r) (asked_of r) t c.start outcome n'.board.marks (decided t whole) e;
      }

      -- the first that is accepted is the match
      pub answered_yes : (end : StringCursor) → outcome ≡ Some end → Answered {E = Halt M memory} r (Ok true) (record {
        marks = n'.board.marks;
        start = c.start;
        cursor = end;
        compared = compared;
        started = n'.started;
        restarted = n'.restarted;
      })
      answered_yes end e =
          let tree = code_tree (words_of (code_of r)) (hints_of (code_of r)) (code_of r).checked in
          let span = span_at (stands_in r) (asked_of r) tree.0 c.start outcome n'.board.marks
          (decided tree.0 tree.1) inside end e in
          let own = some_at (stands_in r) (asked_of r) tree.0 c.start outcome n'.board.marks (decided tree.0 tree.1)
          end e in
          record {
            answer = λ t whole.
                let some = some_at (stands_in r) (asked_of r) t c.start outcome n'.board.marks (decided t whole) end e
                in
                sym (found_first (asked_of r) t c.start _
                (none_joined (asked_of r) t _ _ _ (old.none t whole) (is.none.none t whole)) some.1
                (omega (arith, old.from, is.none.forward)) inside refl);
            cursor = λ _. own.0;
            span = λ _. (
              omega (arith, old.from, is.none.forward),
              record { starts = refl; forward = span.0; inside = span.1 },
            );
            no = λ never. absurd (cc never);
            err = tt;
            counts = answered_without _ refl refl;
            up_to_match = λ _. counts_ran (asked_of r) (code_of r) _ (c.start + 1) _ _ ran (omega arith)
                (is.far tree.0 tree.1 _ own.1) few.none;
          }

  -- no match from the start on
  pub answered_over : NoMatch (asked_of r) (code_of r) c.start (end_of r + 1) → (s : Shown) → s.marks ≡ no_marks
      → s.started ≡ n'.started → s.compared ≡ compared → Answered {E = Halt M memory} r (Ok false) s
  answered_over over s marks started compares =
      answered_no r s (c.start + 1)
      (λ t whole. found_none_behind (asked_of r) t c.start
      (none_joined (asked_of r) t _ _ _ (old.none t whole) (is.none.none t whole)) (over.none t whole)) marks
      (subst (λ m. RanBefore (asked_of r) (code_of r) m (c.start + 1)) (sym started) ran) (omega (arith, inside))
      (subst (ComparesFew (asked_of r) (code_of r)) (sym compares) few)

  -- the search goes on from a further start
  pub searching_on : (further : ℕ) → NoMatch (asked_of r) (code_of r) c.start further → c.start < further
      → further ≤ end_of r → n'.board ≡ bare no_marks → Recalls (run_of r) n'.memo → told ≡ Ok None
      → Searching M r n' given a' further
  searching_on further passed on within fresh remembers e = record {
    fresh = fresh;
    remembers = remembers;
    from = omega (arith, old.from, is.none.forward, on);
    inside = within;
    none = λ t whole.
        none_joined (asked_of r) t _ _ _
        (none_joined (asked_of r) t _ _ _ (old.none t whole) (is.none.none t whole)) (passed.none t whole);
    ran = ran_later (asked_of r) (code_of r) _ _ _ ran (omega (arith, on));
    again = began.again;
    never = λ unlimited. began.never (old.limited ∙ unlimited) ∙ old.never unlimited;
    limited = costs.limited ∙ old.limited;
    fewer = omega (arith, costs.fewer, old.fewer);
    spent = spent;
    costs = λ limited.
        let run = rw e at costs.settles (old.limited ∙ limited) in
        since_run r n.memo n'.memo c.cursor _ _ _ n.started n'.started (old.costs limited) (run refl) from
        began.started;
  }

-- A match, of one run at one start

module _ {M S : Type 0} {memory : Memory M} {text : Ghosts S} (r : Request S text) (n n' : RunnerValue)
    (a a' : Allowance) (literals : ℕ) (start : StringCursor) (told : Result (Option StringCursor) (Halt M memory))
    (started : n.started ≡ 0) (restarted : n.restarted ≡ 0)
    (at : start.position ≡ start_of r) (memo : Begins (start_of r) (end_of r) n.memo)
    (began : Began (is_limited a) n n') (costs : AttemptCosts r literals start told n n' a a') where
  -- what is charged, also where it is given up
  pub once_charged : (result : Result Bool (Halt M memory)) → IfErr result (Halted a') → Charged r result 1 2 a a'
  once_charged result halts = record {
    limited = costs.limited;
    fewer = costs.fewer;
    spent = record {
      each = λ t whole most within.
          let once = once_spent (asked_of r) (code_of r) literals start.position _ _ _
          (omega (arith, at, r.in_window.0)) (λ t whole. costs.spent t (items_whole (code_of r) t whole)) in
          let few : 1 + n'.restarted - n.restarted ≤ 2 = omega (arith, began.started, began.again, started) in
          omega (arith, once.each t whole most within, mul-le-mul_right most few);
    };
    halted = halts;
    cost = λ limited.
        since_stopped r n.memo start _ _ _ 0 1 (since_begin r n.memo (left_of a) memo.waits memo.closed)
        (costs.stops limited) (omega (arith, at)) refl;
  }
