use Rattle.sre_turns.specs.declared.Next.TheVariants as next
use Rattle.sre_machine.proofs.Terms.{Instruction, Again, run_of, accepted_first, refused_over}
use Rattle.sre_machine.proofs.Following.{point_taken, later_taken}
use Rattle.sre_machine.proofs.turns.turns.Goals as goal

pub returns-then-is_accepted-clause-decides : goal.returns-then-is_accepted-clause-decides
returns-then-is_accepted-clause-decides g c =
    let stands = c.turn.invariant.stands in
    accepted_first (run_of c.args.req.now) _ stands.limit c.position.result c.turn.next c.in-Done.cursor c.turn.board
    c.end.new.board _ c.in-Done.is c.position.ensures c.is_accepted.ensures c.in-None-end.ensures
    stands.stands c.if-is_accepted.true

pub turn-preserved : goal.turn-preserved
turn-preserved g c =
    let r = run_of c.args.req.now in
    let t = later_taken r g.K.Plan.all g.K.Plan.limit c.turn.turned c.tick-in-Done.new.self c.turn.board
    c.end.new.board next.Back c.tick-in-Done.ensures c.turn.next
    (λ l x. refused_over r _ l c.position.result c.turn.next c.in-Done.cursor c.turn.board c.end.new.board _
    c.in-Done.is c.position.ensures c.is_accepted.ensures c.in-None-end.ensures x c.if-is_accepted.false)
    c.turn.invariant.stands in
    record { stands = t.1; within = t.0; remembers = c.turn.invariant.remembers }

pub turn-preserved-in-At : goal.turn-preserved-in-At
turn-preserved-in-At g c =
    let t = point_taken (run_of c.args.req.now) g.K.Plan.all g.K.Plan.limit c.turn.turned c.tick.new.self c.turn.board
    c.instruction.new.board c.in_ok-next-in-At.next c.tick.ensures (Instruction c.in-At.place) c.in-At.cursor _ _
    c.in-At.is (λ l x. x) c.in_ok-next-in-At.ensures c.turn.invariant.stands in
    record { stands = t.1; within = t.0; remembers = c.turn.invariant.remembers }

pub turn-preserved-in-Again : goal.turn-preserved-in-Again
turn-preserved-in-Again g c =
    let t = point_taken (run_of c.args.req.now) g.K.Plan.all g.K.Plan.limit c.turn.turned c.tick-in-Again.new.self
    c.turn.board c.again.new.board c.in_ok-next-in-Again.next c.tick-in-Again.ensures Again c.in-Again.cursor _ _
    c.in-Again.is (λ l x. x) c.in_ok-next-in-Again.ensures c.turn.invariant.stands in
    record { stands = t.1; within = t.0; remembers = c.turn.invariant.remembers }
