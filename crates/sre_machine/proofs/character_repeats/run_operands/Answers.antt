use Rattle.sre_machine.proofs.Terms.{◌+◌, ap, sym, word_of, run_of}
use Rattle.sre_machine.proofs.character_repeats.run_operands.Goals as goal

pub returns : goal.returns
returns g c = record {
  operands = record {
    leads =
        ap (λ v. c.args.place + 1 + v) (sym (word_of (run_of c.args.req.now).words _ _ c.operand-skip.ensures.word));
    lowest = c.operand.ensures.word;
    highest = c.operand-2.ensures.word;
    test = c.requires;
  };
  room = c.operand-skip.ensures.room;
}
