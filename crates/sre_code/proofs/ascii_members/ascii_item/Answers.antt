use Rattle.sre_code.proofs.Terms.{arith, single_room, range_room, category_there, charset_room}
use Rattle.sre_code.proofs.AsciiMembers.{literal_holds, range_holds, category_holds, charset_holds}
use Rattle.sre_code.proofs.ascii_members.ascii_item.Goals as goal

pub operand-requires : goal.operand-requires
operand-requires c =
    let there = rw c.in-LITERAL.is at c.requires.opcode in
    omega (arith, single_room c.args.words.now c.args.place there c.requires.stands)

pub returns-in-LITERAL : goal.returns-in-LITERAL
returns-in-LITERAL c =
    literal_holds c.args.words.now c.args.place _ _ (rw c.in-LITERAL.is at c.requires.opcode) c.operand.ensures.word
    c.of_character.ensures

pub operand-requires-in-RANGE : goal.operand-requires-in-RANGE
operand-requires-in-RANGE c =
    let there = rw c.in-RANGE.is at c.requires.opcode in
    omega (arith, range_room c.args.words.now c.args.place there c.requires.stands)

pub operand-requires-in-RANGE-2 : goal.operand-requires-in-RANGE-2
operand-requires-in-RANGE-2 c =
    let there = rw c.in-RANGE.is at c.requires.opcode in
    omega (arith, range_room c.args.words.now c.args.place there c.requires.stands)

pub returns-in-RANGE : goal.returns-in-RANGE
returns-in-RANGE c =
    range_holds c.args.words.now c.args.place _ _ _ (rw c.in-RANGE.is at c.requires.opcode)
    c.operand-in-RANGE.ensures.word c.operand-in-RANGE-2.ensures.word c.of_range.ensures

pub category_code-requires : goal.category_code-requires
category_code-requires c =
    (category_there c.args.words.now c.args.place (rw c.in-CATEGORY.is at c.requires.opcode) c.requires.stands).0

pub overflow_add-result-in-CATEGORY : goal.overflow_add-result-in-CATEGORY
overflow_add-result-in-CATEGORY c =
    let there = rw c.in-CATEGORY.is at c.requires.opcode in
    omega (arith, category_there c.args.words.now c.args.place there c.requires.stands)

pub returns-in-CATEGORY : goal.returns-in-CATEGORY
returns-in-CATEGORY c =
    category_holds c.args.words.now c.args.place _ _ (rw c.in-CATEGORY.is at c.requires.opcode) c.category_code.ensures
    c.of_category.ensures

pub returns-in-CHARSET : goal.returns-in-CHARSET
returns-in-CHARSET c =
    charset_holds c.args.words.now c.args.place _ (rw c.in-CHARSET.is at c.requires.opcode) c.ascii_bits.ensures

pub ascii_bits-requires : goal.ascii_bits-requires
ascii_bits-requires c =
    let there = rw c.in-CHARSET.is at c.requires.opcode in
    omega (arith, charset_room c.args.words.now c.args.place there c.requires.stands)

pub overflow_add-result-in-CHARSET : goal.overflow_add-result-in-CHARSET
overflow_add-result-in-CHARSET c =
    let there = rw c.in-CHARSET.is at c.requires.opcode in
    omega (arith, charset_room c.args.words.now c.args.place there c.requires.stands)
