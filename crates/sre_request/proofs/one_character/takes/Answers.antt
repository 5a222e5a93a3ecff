use Rattle.sre_model.proofs.OneCharacter.{only_tests}
use Rattle.sre_request.proofs.one_character.takes.Goals as goal

pub unreachable-requires : goal.unreachable-requires
unreachable-requires g c =
    only_tests _ c.args.place c.args.opcode c.requires.stands c.requires.code c.in_default.not-ANY
    c.in_default.not-ANY_ALL c.in_default.not-CATEGORY c.in_default.not-LITERAL c.in_default.not-LITERAL_IGNORE
    c.in_default.not-LITERAL_LOC_IGNORE c.in_default.not-LITERAL_UNI_IGNORE c.in_default.not-NOT_LITERAL
    c.in_default.not-NOT_LITERAL_IGNORE c.in_default.not-NOT_LITERAL_LOC_IGNORE c.in_default.not-NOT_LITERAL_UNI_IGNORE
    c.in_default.not-IN c.in_default.not-IN_IGNORE c.in_default.not-IN_LOC_IGNORE c.in_default.not-IN_UNI_IGNORE
