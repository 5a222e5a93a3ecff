use Rattle.sre_code.proofs.Terms.{arith, charset_room, charset_says}
use Rattle.sre_code.proofs.members.charset.Goals as goal

pub has_bit-requires : goal.has_bit-requires
has_bit-requires c = omega (arith, charset_room c.args.words.now c.args.place c.requires.opcode c.requires.stands)

pub overflow_add-result : goal.overflow_add-result
overflow_add-result c = omega (arith, charset_room c.args.words.now c.args.place c.requires.opcode c.requires.stands)

pub returns : goal.returns
returns c =
    charset_says c.args.words.now c.args.uni.now c.args.place c.args.character _ c.requires.opcode
    (c.has_bit.ensures c.args.uni.now)
