use Rattle.sre_code.proofs.Terms.{arith, single_room, single_says}
use Rattle.sre_code.proofs.members.literal.Goals as goal

pub operand-value-requires : goal.operand-value-requires
operand-value-requires c = omega (arith, single_room c.args.words.now c.args.place c.requires.opcode c.requires.stands)

pub returns : goal.returns
returns c =
    single_says c.args.words.now c.args.uni.now c.args.place c.args.character _ c.requires.opcode
    c.operand-value.ensures.word
