use Rattle.sre_model.proofs.Blocks.{block_number, block_below}
use Rattle.sre_code.proofs.members.block.Goals as goal

pub returns-clause-below : goal.returns-clause-below
returns-clause-below c =
    block_below c.args.words.now c.args.place c.args.character _ c.requires.below c.requires.room c.requires.blocks

pub returns-clause-number : goal.returns-clause-number
returns-clause-number c = block_number c.args.words.now c.args.place c.args.character c.requires.below c.requires.room
