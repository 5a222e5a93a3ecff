use Rattle.sre_machine.proofs.Terms.{◌∙◌, inl, inr, refl, arith, ap, raised, run_of, accepted_first, refused_over}
use Rattle.sre_machine.proofs.Terms.{MemoValue, KeepsBodyEnd, last_spent, rules}
use Rattle.sre_turns.specs.declared.Next.TheVariants as next
use Rattle.sre_machine.proofs.Recalling.{recalls_waited}
use Rattle.sre_machine.proofs.Paying.{pays_nothing}
use Rattle.sre_machine.proofs.Following.{turns_on, turns_stop, turns_settle, unscanned, stands_there}
use Rattle.sre_machine.proofs.Following.{same_memo, kept_memo}
use Rattle.sre_machine.proofs.Ending.{kept_then, ended_then}
use Rattle.sre_machine.proofs.turns.remembering_turns.Goals as goal

pub keep_ends-requires-clause-ends : goal.keep_ends-requires-clause-ends
keep_ends-requires-clause-ends g c =
    let s = c.turn.invariant.stands in record {
      all = g.K.Plan.all;
      limit = s.limit;
      ends = stands_there (run_of c.args.req.now) _ s.limit _ (next.Done c.in-Done.cursor) c.turn.board
          c.turns_due-turns.new.board c.in-Done.is c.turns_due-turns.ensures.board s.stands;
    }

pub keep_ends-requires-clause-remembers : goal.keep_ends-requires-clause-remembers
keep_ends-requires-clause-remembers g c =
    recalls_waited (run_of c.args.req.now) c.turn.memo c.waits_on.new.memo c.waits_on.ensures.same
    c.turn.invariant.remembers

pub returns-then-is_accepted-clause-decides : goal.returns-then-is_accepted-clause-decides
returns-then-is_accepted-clause-decides g c =
    let s = c.turn.invariant.stands in
    record {
      found = accepted_first (run_of c.args.req.now) _ s.limit c.position.result _ c.in-Done.cursor
          c.turns_due-turns.new.board c.end.new.board _ refl c.position.ensures c.is_accepted.ensures
          c.in-None-end.ensures (stands_there (run_of c.args.req.now) _ s.limit _ (next.Done c.in-Done.cursor)
          c.turn.board c.turns_due-turns.new.board c.in-Done.is c.turns_due-turns.ensures.board s.stands)
          c.if-is_accepted.true;
      opened = λ o. absurd (cc o);
    }

pub turn-init : goal.turn-init
turn-init g c =
    let r = c.args.req.now in
    let m = c.args.memo.now in record {
      stands = c.requires.stands;
      scans = 0;
      each = λ limit x. (
        limit,
        x,
        refl,
        refl,
        refl,
        pays_nothing r m m limit (raised 0 limit) refl (refl, refl, refl) (λ h. h) refl (omega arith),
      );
      within = c.requires.within;
      limited = refl;
      fewer = omega arith;
      spent = omega arith;
      counts = λ h. inr (h, λ pl. omega arith);
      waited = λ w. record { closed = c.may_wait-waits.ensures.closed w; turns = omega arith };
      remembers = c.requires.remembers;
    }

pub turn-preserved : goal.turn-preserved
turn-preserved g c =
    let keeps : KeepsBodyEnd g.row.A.Denot c.args.req.now c.in-Done.cursor c.turns_due-turns.new.board
    c.waits_on.new.memo c.keep_ends.new.memo = record {
      same = c.keep_ends.ensures.same;
      kept = c.keep_ends.ensures.kept;
      held = c.keep_ends.ensures.held;
      refused = c.keep_ends.ensures.refused;
    } in
    turns_on c.turn.invariant c.waits_on.new.memo c.takes_turns.new.allowed c.turns_due-turns.ensures.each
    c.takes_turns.ensures.spent (c.waits_on.ensures.waited c.if-not-waits_on.false) c.waits_on.ensures.same
    c.turns_due-turns.ensures.board c.in-Done.is
    (λ h. same_memo c.waits_on.new.memo c.keep_ends.new.memo (c.keep_ends.ensures.closed h))
    c.turns_due-turns.ensures.most c.takes_turns.ensures.limited c.takes_turns.ensures.fewer c.tick.ensures
    (λ l x. unscanned c.args.req.now g.K.Plan.all next.Back c.end.new.board c.waits_on.new.memo c.keep_ends.new.memo l
    (kept_then c.args.req.now c.in-Done.cursor c.turns_due-turns.new.board c.waits_on.new.memo c.keep_ends.new.memo
    keeps g.K.Plan.all l next.Back c.end.new.board
    (refused_over (run_of c.args.req.now) _ l c.position.result _ c.in-Done.cursor c.turns_due-turns.new.board
    c.end.new.board _ refl c.position.ensures c.is_accepted.ensures c.in-None-end.ensures x
    c.if-is_accepted.false)))
    c.keep_ends.ensures.still c.keep_ends.ensures.remembers

pub turn-preserved-in-At : goal.turn-preserved-in-At
turn-preserved-in-At g c =
    turns_on c.turn.invariant c.waits_on.new.memo c.takes_turns.new.allowed c.turns_due-turns.ensures.each
    c.takes_turns.ensures.spent (c.waits_on.ensures.waited c.if-not-waits_on.false) c.waits_on.ensures.same
    c.turns_due-turns.ensures.board c.in-At.is
    (λ h. same_memo _ _ (c.in_ok-next-in-At.ensures.closed h))
    c.turns_due-turns.ensures.most c.takes_turns.ensures.limited c.takes_turns.ensures.fewer c.tick.ensures
    (c.in_ok-next-in-At.ensures.turn g.K.Plan.all)
    c.in_ok-next-in-At.ensures.still c.instruction_or_back.ensures.remembers

pub turn-preserved-in-Again : goal.turn-preserved-in-Again
turn-preserved-in-Again g c =
    turns_on c.turn.invariant c.waits_on.new.memo c.takes_turns.new.allowed c.turns_due-turns.ensures.each
    c.takes_turns.ensures.spent (c.waits_on.ensures.waited c.if-not-waits_on.false) c.waits_on.ensures.same
    c.turns_due-turns.ensures.board c.in-Again.is
    (λ h. same_memo _ _ (c.in_ok-next-in-Again.ensures.closed h))
    c.turns_due-turns.ensures.most c.takes_turns.ensures.limited c.takes_turns.ensures.fewer c.tick.ensures
    (c.in_ok-next-in-Again.ensures.turn g.K.Plan.all)
    c.in_ok-next-in-Again.ensures.still c.again_or_back.ensures.remembers

pub turn-preserved-in-Some-end : goal.turn-preserved-in-Some-end
turn-preserved-in-Some-end g c =
    let keeps : KeepsBodyEnd g.row.A.Denot c.args.req.now c.in-Done.cursor c.turns_due-turns.new.board
    c.waits_on.new.memo c.keep_ends.new.memo = record {
      same = c.keep_ends.ensures.same;
      kept = c.keep_ends.ensures.kept;
      held = c.keep_ends.ensures.held;
      refused = c.keep_ends.ensures.refused;
    } in
    turns_on c.turn.invariant c.waits_on.new.memo c.takes_turns.new.allowed c.turns_due-turns.ensures.each
    c.takes_turns.ensures.spent (c.waits_on.ensures.waited c.if-not-waits_on.false) c.waits_on.ensures.same
    c.turns_due-turns.ensures.board c.in-Done.is
    (λ h. same_memo c.waits_on.new.memo c.keep_ends.new.memo (c.keep_ends.ensures.closed h))
    c.turns_due-turns.ensures.most c.takes_turns.ensures.limited c.takes_turns.ensures.fewer c.tick.ensures
    (λ l x. unscanned c.args.req.now g.K.Plan.all c.in-Some-end.after c.end.new.board c.waits_on.new.memo
    c.keep_ends.new.memo l (ended_then c.args.req.now c.in-Done.cursor c.turns_due-turns.new.board
    c.waits_on.new.memo c.keep_ends.new.memo keeps c.in-Some-end.ensures.0 g.K.Plan.all l x c.in-Some-end.after
    c.end.new.board (c.in-Some-end.ensures.1 g.K.Plan.all l x)))
    c.keep_ends.ensures.still c.keep_ends.ensures.remembers

pub turn-preserved-in-Some : goal.turn-preserved-in-Some
turn-preserved-in-Some g c =
    let retreats = rw c.in-Some.is at c.in_ok-after-in-Back.ensures.next in
    turns_on c.turn.invariant c.waits_on.new.memo c.takes_turns.new.allowed c.turns_due-turns.ensures.each
    c.takes_turns.ensures.spent (c.waits_on.ensures.waited c.if-not-waits_on.false) c.waits_on.ensures.same
    c.turns_due-turns.ensures.board c.in-Back.is
    (λ h. kept_memo c.waits_on.new.memo c.back.new.memo c.in_ok-after-in-Back.ensures.same)
    c.turns_due-turns.ensures.most c.takes_turns.ensures.limited c.takes_turns.ensures.fewer c.tick.ensures
    (λ l x.
    let y = retreats g.K.Plan.all l x in
    unscanned c.args.req.now g.K.Plan.all c.in-Some.after c.back.new.board c.waits_on.new.memo c.back.new.memo l
    (y.0, y.1, y.2, y.3 refl))
    (λ h. inl (ap (λ (k : MemoValue). k.is_open) c.in_ok-after-in-Back.ensures.same ∙ h))
    c.in_ok-after-in-Back.ensures.remembers

pub returns-in-None-clause-costs : goal.returns-in-None-clause-costs
returns-in-None-clause-costs g c = record {
  spent = last_spent _ _ _ _ _ _ c.turn.invariant.spent
      (omega (arith, c.takes_turns.ensures.spent, c.turns_due-turns.ensures.most)) c.turn.invariant.within;
  settles = λ limited _.
      let finishes = rw c.in-None.is at c.in_ok-after-in-Back.ensures.next in
      turns_settle c.turn.invariant c.waits_on.new.memo c.takes_turns.new.allowed c.turns_due-turns.ensures.each
      c.takes_turns.ensures.spent
      (c.waits_on.ensures.waited c.if-not-waits_on.false) c.waits_on.ensures.same c.turns_due-turns.ensures.board
      c.in-Back.is (λ h. kept_memo c.waits_on.new.memo c.back.new.memo c.in_ok-after-in-Back.ensures.same)
      (λ l x.
      let y = (finishes g.K.Plan.all l x).1 in
      (y.0, y.1, y.2 refl, y.3))
      (c.may_wait-waits.ensures.waits (c.requires.limits ∙ limited));
}

pub returns-then-not-waits_on-clause-stops : goal.returns-then-not-waits_on-clause-stops
returns-then-not-waits_on-clause-stops g c = λ limited.
    turns_stop {due = 0} c.turn.invariant c.turn.memo c.turn.allowed (λ _ _. omega arith) (omega arith) (λ _. omega
    arith)
    (c.may_wait-waits.ensures.waits (c.requires.limits ∙ limited))

pub returns-then-not-takes_turns-clause-stops : goal.returns-then-not-takes_turns-clause-stops
returns-then-not-takes_turns-clause-stops g c = λ limited.
    turns_stop c.turn.invariant c.waits_on.new.memo c.takes_turns.new.allowed c.turns_due-turns.ensures.each
    c.takes_turns.ensures.spent (c.waits_on.ensures.waited c.if-not-waits_on.false)
    (c.may_wait-waits.ensures.waits (c.requires.limits ∙ limited))

pub returns-in-None-clause-stops : goal.returns-in-None-clause-stops
returns-in-None-clause-stops g c = λ limited.
    turns_stop c.turn.invariant c.waits_on.new.memo c.takes_turns.new.allowed c.turns_due-turns.ensures.each
    c.takes_turns.ensures.spent (c.waits_on.ensures.waited c.if-not-waits_on.false)
    (c.may_wait-waits.ensures.waits (c.requires.limits ∙ limited))

pub returns-then-is_accepted-clause-stops : goal.returns-then-is_accepted-clause-stops
returns-then-is_accepted-clause-stops g c = λ limited.
    turns_stop c.turn.invariant c.waits_on.new.memo c.takes_turns.new.allowed c.turns_due-turns.ensures.each
    c.takes_turns.ensures.spent (c.waits_on.ensures.waited c.if-not-waits_on.false)
    (c.may_wait-waits.ensures.waits (c.requires.limits ∙ limited))

pub returns-in_err-next-in-At-clause-stops : goal.returns-in_err-next-in-At-clause-stops
returns-in_err-next-in-At-clause-stops g c = λ limited.
    turns_stop c.turn.invariant c.waits_on.new.memo c.takes_turns.new.allowed c.turns_due-turns.ensures.each
    c.takes_turns.ensures.spent (c.waits_on.ensures.waited c.if-not-waits_on.false)
    (c.may_wait-waits.ensures.waits (c.requires.limits ∙ limited))

pub returns-in_err-next-in-At-clause-costs : goal.returns-in_err-next-in-At-clause-costs
returns-in_err-next-in-At-clause-costs g c = record {
  spent = last_spent _ _ _ _ _ _ c.turn.invariant.spent
      (omega (arith, c.takes_turns.ensures.spent, c.turns_due-turns.ensures.most)) c.turn.invariant.within;
  settles = search rules;
}

pub returns-in_err-next-in-Again-clause-stops : goal.returns-in_err-next-in-Again-clause-stops
returns-in_err-next-in-Again-clause-stops g c = λ limited.
    turns_stop c.turn.invariant c.waits_on.new.memo c.takes_turns.new.allowed c.turns_due-turns.ensures.each
    c.takes_turns.ensures.spent (c.waits_on.ensures.waited c.if-not-waits_on.false)
    (c.may_wait-waits.ensures.waits (c.requires.limits ∙ limited))

pub returns-in_err-next-in-Again-clause-costs : goal.returns-in_err-next-in-Again-clause-costs
returns-in_err-next-in-Again-clause-costs g c = record {
  spent = last_spent _ _ _ _ _ _ c.turn.invariant.spent
      (omega (arith, c.takes_turns.ensures.spent, c.turns_due-turns.ensures.most)) c.turn.invariant.within;
  settles = search rules;
}

pub returns-in_err-after-in-Back-clause-stops : goal.returns-in_err-after-in-Back-clause-stops
returns-in_err-after-in-Back-clause-stops g c = λ limited.
    turns_stop c.turn.invariant c.waits_on.new.memo c.takes_turns.new.allowed c.turns_due-turns.ensures.each
    c.takes_turns.ensures.spent (c.waits_on.ensures.waited c.if-not-waits_on.false)
    (c.may_wait-waits.ensures.waits (c.requires.limits ∙ limited))

pub returns-in_err-after-in-Back-clause-costs : goal.returns-in_err-after-in-Back-clause-costs
returns-in_err-after-in-Back-clause-costs g c = record {
  spent = last_spent _ _ _ _ _ _ c.turn.invariant.spent
      (omega (arith, c.takes_turns.ensures.spent, c.turns_due-turns.ensures.most)) c.turn.invariant.within;
  settles = search rules;
}

pub returns-then-not-takes_turns-clause-costs : goal.returns-then-not-takes_turns-clause-costs
returns-then-not-takes_turns-clause-costs g c = record {
  spent = last_spent _ _ _ _ _ _ c.turn.invariant.spent
      (omega (arith, c.takes_turns.ensures.spent, c.turns_due-turns.ensures.most)) c.turn.invariant.within;
  settles = λ _. tt;
}

pub returns-then-is_accepted-clause-costs : goal.returns-then-is_accepted-clause-costs
returns-then-is_accepted-clause-costs g c = record {
  spent = last_spent _ _ _ _ _ _ c.turn.invariant.spent
      (omega (arith, c.takes_turns.ensures.spent, c.turns_due-turns.ensures.most)) c.turn.invariant.within;
  settles = λ _ e. absurd (cc e);
}

pub returns-then-not-waits_on-clause-costs : goal.returns-then-not-waits_on-clause-costs
returns-then-not-waits_on-clause-costs g c = record {
  spent = last_spent _ _ _ _ _ _ c.turn.invariant.spent (omega arith) c.turn.invariant.within;
  settles = λ _ e. absurd (cc e);
}
