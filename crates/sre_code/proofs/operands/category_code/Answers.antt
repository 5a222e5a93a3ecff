use Rattle.sre_code.proofs.Terms.{word_known, category_within, category_unlike}
use Rattle.sre_code.proofs.operands.category_code.Goals as goal

pub word-requires : goal.word-requires
word-requires c = category_within c.args.words.now c.args.place c.requires

pub unreachable-requires : goal.unreachable-requires
unreachable-requires c =
    category_unlike c.args.words.now c.args.place c.word.result c.requires c.word.ensures.word c.in-Err.ensures.1

pub returns : goal.returns
returns c = word_known c.args.words.now c.args.place _ _ c.word.ensures.word c.in-Ok.ensures
