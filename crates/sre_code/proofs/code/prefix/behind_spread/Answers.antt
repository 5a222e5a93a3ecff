use Rattle.sre_code.proofs.Terms.{◌+◌, ◌≡◌, true, false, refl, arith, word_within}
use Rattle.sre_code.proofs.Claimed.{spread_more, spread_stops}
use Rattle.sre_code.proofs.code.prefix.behind_spread.Goals as goal

pub returns-then-not-is_literal : goal.returns-then-not-is_literal
returns-then-not-is_literal c =
    spread_stops _ c.requires.ends _ _ _ c.args.literals.now c.literal.literal-index (omega arith) _
    c.literal.invariant.left c.behind_marks-ahead.ensures
    (λ x. let e : false ≡ true = c.if-not-is_literal.ensures.1 x in cc)

pub literal-preserved : goal.literal-preserved
literal-preserved c =
    let there = c.if-not-is_literal.ensures.0 refl in record {
      within = omega (arith, word_within c.args.words.now (c.behind_marks-ahead.result + 1) _ there.1);
      left =
          spread_more _ c.requires.ends _ _ _ c.args.literals.now c.literal.literal-index (omega arith) _
          c.literal.invariant.left c.behind_marks-ahead.ensures there;
    }
