use Rattle.sre_code.proofs.Terms.{arith, range_room, range_says}
use Rattle.sre_code.proofs.members.range.Goals as goal

pub operand-low-requires : goal.operand-low-requires
operand-low-requires c = omega (arith, range_room c.args.words.now c.args.place c.requires.opcode c.requires.stands)

pub operand-high-requires : goal.operand-high-requires
operand-high-requires c = omega (arith, range_room c.args.words.now c.args.place c.requires.opcode c.requires.stands)

pub returns : goal.returns
returns c =
    range_says c.args.words.now c.args.uni.now c.args.place c.args.character _ _ _ c.requires.opcode
    c.operand-low.ensures.word c.operand-high.ensures.word c.is_between.ensures
