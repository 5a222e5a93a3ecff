use Rattle.sre_machine.proofs.Terms.{sym, subst, BoardValue, Instruction, IsAt, Goes, run_of, taken_off}
use Rattle.sre_machine.proofs.loops.max_until.Goals as goal

pub further-requires-clause-stands : goal.further-requires-clause-stands
further-requires-clause-stands g c =
    subst (λ (b : BoardValue). IsAt (run_of c.args.req.now) (Instruction c.args.place) c.args.cursor b)
    (sym (taken_off c.args.board.now c.leave.new.self c.top-frame.result c.leave.ensures c.top-frame.ensures))
    c.requires.stands

pub returns : goal.returns
returns g c = λ all limit st.
    c.in_ok-further.ensures all limit
    (subst (λ (b : BoardValue). Goes (run_of c.args.req.now) all limit (Instruction c.args.place) c.args.cursor b)
    (sym (taken_off c.args.board.now c.leave.new.self c.top-frame.result c.leave.ensures c.top-frame.ensures)) st)
