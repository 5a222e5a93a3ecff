use Rattle.sre_code.proofs.Terms.{arith, folded_range_room, folded_range_says}
use Rattle.sre_code.proofs.members.range_ignoring_case.Goals as goal

pub operand-low-requires : goal.operand-low-requires
operand-low-requires c =
    omega (arith, folded_range_room c.args.words.now c.args.place c.requires.opcode c.requires.stands)

pub operand-high-requires : goal.operand-high-requires
operand-high-requires c =
    omega (arith, folded_range_room c.args.words.now c.args.place c.requires.opcode c.requires.stands)

pub returns : goal.returns
returns c =
    folded_range_says c.args.words.now c.args.uni.now c.args.place c.args.character _ _ _ c.requires.opcode
    c.operand-low.ensures.word c.operand-high.ensures.word c.is_between_ignoring_case.ensures
