use Rattle.sre_machine.proofs.Terms.{run_of, shorter_last}
use Rattle.sre_machine.proofs.character_repeats.shorter.Goals as goal

pub returns-then-found-eq0 : goal.returns-then-found-eq0
returns-then-found-eq0 g c = λ all limit x.
    shorter_last (run_of c.args.req.now) c.args.tail c.args.tail c.in-Some.found.left c.in-Some.found.end
    c.args.board.now
    c.if-found-eq0.true all limit (c.in-Some.ensures.skips c.args.board.now all limit x)

pub returns : goal.returns
returns g c = λ all limit x. c.in_ok-choose.ensures all limit (c.in-Some.ensures.skips c.args.board.now all limit x)

pub returns-in_default : goal.returns-in_default
returns-in_default g c = rw c.note_vain.ensures (c.in_default.ensures c.args.board.now)
