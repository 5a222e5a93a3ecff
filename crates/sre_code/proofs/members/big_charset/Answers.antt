use Rattle.sre_code.proofs.Terms.{◌+◌, arith, word_of, big_charset_there, big_charset_says}
use Rattle.sre_code.proofs.members.big_charset.Goals as goal

pub operand-count-requires : goal.operand-count-requires
operand-count-requires c =
    omega (arith, big_charset_there c.args.words.now c.args.place c.requires.opcode c.requires.stands)

pub has_bit_in_block-requires-clause-room : goal.has_bit_in_block-requires-clause-room
has_bit_in_block-requires-clause-room c =
    omega (arith, big_charset_there c.args.words.now c.args.place c.requires.opcode c.requires.stands)

pub has_bit_in_block-requires-clause-blocks : goal.has_bit_in_block-requires-clause-blocks
has_bit_in_block-requires-clause-blocks c =
    (big_charset_there c.args.words.now c.args.place c.requires.opcode c.requires.stands).1

pub returns : goal.returns
returns c =
    big_charset_says c.args.words.now c.args.uni.now c.args.place c.args.character _ _ c.requires.opcode
    (word_of c.args.words.now (c.args.place + 1) _ c.operand-count.ensures.word)
    (c.has_bit_in_block.ensures c.args.uni.now)
