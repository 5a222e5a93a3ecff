use Rattle.sre_machine.proofs.Analyses.{alternatives_ask}
use Rattle.sre_machine.proofs.asked_places.alternatives.Goals as goal

pub returns : goal.returns
returns c =
    alternatives_ask c.args.words.now c.args.list.now c.args.place c.word-length.result c.union.result
    c.instruction_at.result c.alternatives_at.result c.word-length.ensures.word c.union.ensures.one
    c.union.ensures.other c.instruction_at.ensures c.alternatives_at.ensures
