use Rattle.sre_code.proofs.AsciiMembers.{literal_holds, range_holds}
use Rattle.sre_machine.proofs.Terms.{◌+◌, sym, subst, Word, category_holds}
use Rattle.sre_machine.proofs.set_members.item_at.Goals as goal

pub returns-in_ok-value-in-LITERAL : goal.returns-in_ok-value-in-LITERAL
returns-in_ok-value-in-LITERAL c =
    literal_holds c.args.words.now c.args.place c.in_ok-value-in-LITERAL.value _ (rw c.in-LITERAL.is at c.requires)
    c.in_ok-value-in-LITERAL.ensures c.of_character.ensures

pub returns-in_ok-high-in-RANGE : goal.returns-in_ok-high-in-RANGE
returns-in_ok-high-in-RANGE c =
    range_holds c.args.words.now c.args.place c.in_ok-low-in-RANGE.low c.in_ok-high-in-RANGE.high _
    (rw c.in-RANGE.is at c.requires) c.in_ok-low-in-RANGE.ensures c.in_ok-high-in-RANGE.ensures c.of_range.ensures

pub returns-in-Ok : goal.returns-in-Ok
returns-in-Ok c =
    category_holds c.args.words.now c.args.place c.in-Ok.code _ (rw c.in-CATEGORY.is at c.requires)
    (subst (λ n. Word c.args.words.now (c.args.place + 1) n) (sym c.in-Ok.ensures)
    c.in_ok-number-in-CATEGORY.ensures)
    c.of_category.ensures
