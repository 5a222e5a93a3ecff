use Rattle.sre_code.proofs.ReadItems.{no_test}
use Rattle.sre_model.proofs.OneCharacter.{only_tests}
use Rattle.sre_code.proofs.code.character.test.Goals as goal

pub returns-in_default : goal.returns-in_default
returns-in_default c =
    let words = c.args.words.now in
    let not = c.in_default in
    no_test words c.args.place c.args.code c.requires
    (λ t. only_tests words c.args.place c.args.code t c.requires not.not-ANY not.not-ANY_ALL not.not-CATEGORY
    not.not-LITERAL not.not-LITERAL_IGNORE not.not-LITERAL_LOC_IGNORE not.not-LITERAL_UNI_IGNORE not.not-NOT_LITERAL
    not.not-NOT_LITERAL_IGNORE not.not-NOT_LITERAL_LOC_IGNORE not.not-NOT_LITERAL_UNI_IGNORE not.not-IN
    not.not-IN_IGNORE not.not-IN_LOC_IGNORE not.not-IN_UNI_IGNORE)
