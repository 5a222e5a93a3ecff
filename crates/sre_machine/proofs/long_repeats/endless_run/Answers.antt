use Rattle.sre_machine.proofs.EndlessRuns.{run_short, run_only, possessive_goes, tail_has, run_refused}
use Rattle.sre_machine.proofs.EndlessRuns.{greedy_saves, lazy_saves}
use Rattle.sre_machine.proofs.long_repeats.endless_run.Goals as goal

pub returns-in_default : goal.returns-in_default
returns-in_default g c = λ all limit x.
    rw c.first_end.ensures.board (run_short c.args.req.now c.requires.on c.run_operands-operands.ensures c.args.cursor
    c.args.board.now c.in_default.ensures.ends all limit x)

pub returns-in_default-later : goal.returns-in_default-later
returns-in_default-later g c = λ all limit x.
    rw c.first_end.ensures.board (run_only c.args.req.now c.requires.on c.run_operands-operands.ensures c.args.cursor
    c.args.board.now c.in_default-later.is c.in-Some.ensures.ends all limit x)

pub returns-then-gives_nothing_back : goal.returns-then-gives_nothing_back
returns-then-gives_nothing_back g c = λ all limit x.
    rw c.first_end.ensures.board (possessive_goes c.args.req.now c.requires.on c.run_operands-operands.ensures
    c.args.cursor c.in-Some-later.is c.in-Some.ensures.ends c.args.board.now (c.gives_nothing_back.ensures.possessive
    c.if-gives_nothing_back.true) all limit x)

pub refuses-requires : goal.refuses-requires
refuses-requires g c =
    tail_has c.args.req.now c.requires.on c.run_operands-operands.ensures c.args.cursor c.in-Some-later.is
    c.in-Some.ensures.ends (c.gives_nothing_back.ensures.others c.if-gives_nothing_back.false) c.requires.stands

pub returns-then-refuses : goal.returns-then-refuses
returns-then-refuses g c = λ all limit x.
    rw c.first_end.ensures.board (run_refused c.args.req.now c.requires.on c.run_operands-operands.ensures c.args.cursor
    c.in-Some-later.is c.in-Some.ensures.ends c.args.board.now (c.gives_nothing_back.ensures.others
    c.if-gives_nothing_back.false) (c.refuses.ensures c.if-refuses.true) all limit x)

pub returns-then-is_lazy : goal.returns-then-is_lazy
returns-then-is_lazy g c = λ all limit x.
    lazy_saves c.args.req.now c.requires.on c.run_operands-operands.ensures c.args.cursor c.in-Some-later.is
    c.in-Some.ensures.ends c.first_end.new.board _ (c.is_lazy.ensures.lazy c.if-is_lazy.true) c.in_ok-save.ensures all
    limit (rw c.first_end.ensures.board x)

pub returns : goal.returns
returns g c = λ all limit x.
    greedy_saves c.args.req.now c.requires.on c.run_operands-operands.ensures c.args.cursor c.in-Some-later.is
    c.in-Some.ensures.ends c.first_end.new.board _ (c.is_lazy.ensures.greedy c.if-is_lazy.false) c.in_ok-save-2.ensures
    all limit (rw c.first_end.ensures.board x)
