use Rattle.sre_machine.proofs.Terms.{arith, AreWords, are_words}
use Rattle.sre_machine.proofs.Analyses.{any_asked, literal_asks, skip_asks}
use Rattle.sre_machine.proofs.asked_places.onward.Goals as goal

pub returns-in-AT : goal.returns-in-AT
returns-in-AT c =
    literal_asks c.args.words.now c.args.list.now c.args.place c.instruction_at-in-AT.result c.args.opcode
    c.requires.there c.in-AT.is c.instruction_at-in-AT.ensures

pub returns-in-JUMP : goal.returns-in-JUMP
returns-in-JUMP c =
    skip_asks c.args.words.now c.args.list.now c.args.place c.instruction_at-in-JUMP.result c.args.opcode
    c.requires.there c.leads.result c.leads.ensures c.in-JUMP.is c.instruction_at-in-JUMP.ensures

pub returns-in_default : goal.returns-in_default
returns-in_default c =
    let are : AreWords c.args.words.now = are_words _ (λ i. omega (arith, c.type_inv.words i)) in
    any_asked c.args.words.now c.args.list.now c.args.place c.any.result are c.requires.within c.any.ensures
