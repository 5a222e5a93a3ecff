use Rattle.sre_machine.proofs.Terms.{◌+◌, sym, word_of, run_of}
use Rattle.sre_machine.proofs.character_repeats.run_price.Goals as goal

pub returns : goal.returns
returns g c =
    let ws = (run_of c.args.req.now).words in
    let o = c.run_operands-operands.ensures.operands in
    rw (word_of ws (c.args.place + 2) _ o.lowest, word_of ws (c.args.place + 3) _ o.highest)
    (rw (sym c.end.ensures.value) c.counted_price.ensures)
