use Rattle.sre_engine.proofs.Terms.{refl, rules, role_here, tree_within, branch_there, branch_bars}
use Rattle.sre_model.specs.Roles.{ToBranch}
use Rattle.sre_chars.specs.declared.constants.SreOpcode.TheVariants as opcode
use Rattle.sre_engine.proofs.engine.first_characters.characters_at.Goals as goal

pub word-requires : goal.word-requires
word-requires c = tree_within c.args.words.now c.args.place c.requires

pub first_characters-requires : goal.first_characters-requires
first_characters-requires c =
    branch_there c.args.words.now _ _ c.requires.stands (role_here _ _ opcode.BRANCH ToBranch (search rules) refl)

pub returns : goal.returns
returns c = λ t stands s p lacking.
    branch_bars c.args.words.now t _ stands (role_here _ _ opcode.BRANCH ToBranch (search rules) refl) s p
    (λ j ts reads. c.in_ok-characters.ensures j ts reads s p lacking)
