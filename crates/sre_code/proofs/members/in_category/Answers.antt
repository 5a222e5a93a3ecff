use Rattle.sre_code.proofs.Terms.{arith, category_there, category_says}
use Rattle.sre_code.proofs.members.in_category.Goals as goal

pub category_code-code-requires : goal.category_code-code-requires
category_code-code-requires c = (category_there c.args.words.now c.args.place c.requires.opcode c.requires.stands).0

pub overflow_add-result : goal.overflow_add-result
overflow_add-result c = omega (arith, category_there c.args.words.now c.args.place c.requires.opcode c.requires.stands)

pub returns : goal.returns
returns c =
    category_says c.args.words.now c.args.uni.now c.args.place c.args.character _ c.category_code-code.result
    c.requires.opcode c.category_code-code.ensures c.is_in_category.ensures
