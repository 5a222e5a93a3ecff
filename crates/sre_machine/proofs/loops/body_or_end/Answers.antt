use Rattle.std.proofs.Common.{arith}
use Rattle.std.proofs.lemmas.Grind.{elements}
use Rattle.sre_machine.proofs.Terms.{ap, refl, ◌∙◌, Some, Greedy, next_frame, with_loop, run_of, until_refused}
use Rattle.sre_machine.proofs.Terms.{until_alone, entered_on, body_reached, until_greedy, saved_on, in_loop}
use Rattle.sre_machine.proofs.loops.body_or_end.Goals as goal

pub refuses-requires : goal.refuses-requires
refuses-requires g c =
    (body_reached (run_of c.args.req.now) c.args.place c.args.cursor c.args.frame c.requires.opcode c.requires.more
    (record { board = c.args.board.now; at = c.requires.stands })).0

pub returns-then-refuses : goal.returns-then-refuses
returns-then-refuses g c =
    until_refused (run_of c.args.req.now) Greedy c.args.place c.requires.more.low c.requires.more.high c.args.cursor
    (with_loop c.args.frame c.args.board.now) c.args.board.now c.args.frame (in_loop (run_of c.args.req.now)
    c.args.place c.args.cursor c.args.frame c.args.board.now c.requires.opcode c.requires.more) c.requires.more.enough
    c.requires.more.more (c.refuses.ensures c.if-refuses.true) refl

pub ends_in_vain-requires : goal.ends_in_vain-requires
ends_in_vain-requires g c =
    (body_reached (run_of c.args.req.now) c.args.place c.args.cursor c.args.frame c.requires.opcode c.requires.more
    (record { board = c.args.board.now; at = c.requires.stands })).1

pub returns-then-ends_in_vain : goal.returns-then-ends_in_vain
returns-then-ends_in_vain g c =
    until_alone (run_of c.args.req.now) Greedy c.args.place c.requires.more.low c.requires.more.high c.args.cursor
    (with_loop c.args.frame c.args.board.now) c.enter.new.self c.args.frame (in_loop (run_of c.args.req.now)
    c.args.place c.args.cursor c.args.frame c.args.board.now c.requires.opcode c.requires.more) c.requires.more.enough
    c.requires.more.more (c.ends_in_vain.ensures c.if-ends_in_vain.true) (entered_on c.args.board.now c.enter.new.self _
    _ c.in_ok-enter.ensures (c.next_frame-next.ensures ∙ ap (λ p. next_frame c.args.frame (Some p)) c.position.ensures))

pub returns : goal.returns
returns g c =
    until_greedy (run_of c.args.req.now) c.args.place c.requires.more.low c.requires.more.high c.args.cursor (with_loop
    c.args.frame c.args.board.now) c.enter-2.new.self c.args.frame (in_loop (run_of c.args.req.now) c.args.place
    c.args.cursor c.args.frame c.args.board.now c.requires.opcode c.requires.more) c.requires.more.enough
    c.requires.more.more (saved_on c.args.board.now c.save.new.self c.enter-2.new.self _ _ _ _ c.in_ok-save.ensures
    c.in_ok-enter-2.ensures (c.next_frame-next.ensures ∙ ap (λ p. next_frame c.args.frame (Some p)) c.position.ensures))

pub operand-opcode-requires : goal.operand-opcode-requires
operand-opcode-requires g c = grind (arith, elements)

pub operand-greatest-requires : goal.operand-greatest-requires
operand-greatest-requires g c = grind (arith, elements)
