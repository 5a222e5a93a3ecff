use Rattle.sre_code.proofs.Terms.{◌+◌, refl, arith, word_within}
use Rattle.sre_code.proofs.Claimed.{adjacent_more}
use Rattle.sre_code.proofs.code.prefix.behind_adjacent.Goals as goal

pub literal-preserved : goal.literal-preserved
literal-preserved c =
    let there = c.if-not-is_literal.ensures.0 refl in record {
      within = omega (arith, word_within c.args.words.now (c.literal.place + 1) _ there.1);
      left =
          adjacent_more _ c.requires _ _ _ c.args.literals.now c.literal.literal-index (omega arith)
          c.literal.invariant.left there;
    }
