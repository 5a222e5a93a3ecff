use Rattle.sre_patterns.proofs.Terms.{subst, Opcode}
use Rattle.sre_patterns.proofs.Tests.{category-settles}
use Rattle.sre_patterns.proofs.settled.settled_item.Goals as goal

pub returns-in_ok-settled_category-in-CATEGORY : goal.returns-in_ok-settled_category-in-CATEGORY
returns-in_ok-settled_category-in-CATEGORY c =
    let w = subst (Opcode c.args.words.now c.args.place) c.in-CATEGORY.is c.requires.opcode in
    category-settles c.args.words.now c.args.place _ c.category_code.result w c.category_code.ensures
    c.in_ok-settled_category-in-CATEGORY.ensures
