use Rattle.sre_machine.proofs.Terms.{◌+◌, run_of, reached_within, body_reached}
use Rattle.sre_machine.proofs.strides.stride_on.Goals as goal

pub word-requires : goal.word-requires
word-requires g c =
    reached_within (run_of c.args.req.now) (c.args.frame.repeat + 4) c.args.cursor
    (body_reached (run_of c.args.req.now) c.args.place c.args.cursor c.args.frame c.requires.opcode c.requires.more
    c.requires.ends).0

pub first_literal-requires : goal.first_literal-requires
first_literal-requires g c =
    (body_reached (run_of c.args.req.now) c.args.place c.args.cursor c.args.frame c.requires.opcode c.requires.more
    c.requires.ends).1
