use Rattle.sre_machine.proofs.Terms.{run_of, strides_at, strides_goes}
use Rattle.sre_machine.proofs.strides.strided.Goals as goal

pub body_or_end-requires-clause-stands : goal.body_or_end-requires-clause-stands
body_or_end-requires-clause-stands g c =
    rw c.stride_on-end.ensures.board (strides_at (run_of c.args.req.now) c.args.place c.args.cursor
    c.stride_on-end.result.cursor c.args.frame c.stride_on-end.result.frame c.stride_on-end.ensures.strides
    c.args.board.now c.requires.stands)

pub returns : goal.returns
returns g c = λ all limit st.
    c.in_ok-body_or_end.ensures all limit
    (rw c.stride_on-end.ensures.board (strides_goes (run_of c.args.req.now) c.args.place c.args.cursor
    c.stride_on-end.result.cursor c.args.frame c.stride_on-end.result.frame c.stride_on-end.ensures.strides
    c.args.board.now all limit st))
