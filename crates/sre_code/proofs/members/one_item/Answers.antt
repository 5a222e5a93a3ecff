use Rattle.sre_code.proofs.Terms.{only_items}
use Rattle.sre_code.proofs.members.one_item.Goals as goal

pub unreachable-requires : goal.unreachable-requires
unreachable-requires c =
    only_items c.args.words.now c.args.place c.args.opcode c.requires.stands c.requires.opcode c.requires.holds
    c.requires.turns c.in_default.not-LITERAL c.in_default.not-RANGE c.in_default.not-RANGE_UNI_IGNORE
    c.in_default.not-CATEGORY c.in_default.not-CHARSET c.in_default.not-BIGCHARSET
