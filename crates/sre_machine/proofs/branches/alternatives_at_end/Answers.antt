use Rattle.sre_machine.proofs.Terms.{run_of, alternatives_there, alternatives_both, positive, alternatives_none}
use Rattle.sre_machine.proofs.branches.alternatives_at_end.Goals as goal

pub word-length-requires : goal.word-length-requires
word-length-requires g c = alternatives_there (run_of c.args.req.now) _ _ c.requires

pub returns-then-length-eq0 : goal.returns-then-length-eq0
returns-then-length-eq0 g c =
    alternatives_none (run_of c.args.req.now) c.args.place c.args.cursor _ c.word-length.ensures.word
    c.if-length-eq0.true

pub returns : goal.returns
returns g c = λ all limit x.
    c.in_ok-choose.ensures all limit (alternatives_both (run_of c.args.req.now) c.args.place c.word-length.result
    c.args.cursor c.args.board.now c.word-length.ensures.word (positive _ c.if-length-eq0.false) all limit x)
