use Rattle.sre_code.proofs.ReadSets.{no_item}
use Rattle.sre_code.proofs.code.set.item.Goals as goal

pub returns-in_default : goal.returns-in_default
returns-in_default c =
    let not = c.in_default in
    no_item c.args.words.now c.args.place c.in_ok-code.code c.in_ok-code.ensures.1 not.not-LITERAL not.not-RANGE
    not.not-RANGE_UNI_IGNORE not.not-CATEGORY not.not-CHARSET not.not-BIGCHARSET not.not-NEGATE
