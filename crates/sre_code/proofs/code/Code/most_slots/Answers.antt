use Rattle.sre_code.specs.Codes.{words_of, items_of}
use Rattle.sre_code.proofs.CodeBounds.{slots_some, slots_none}
use Rattle.sre_code.proofs.code.Code.most_slots.Goals as goal

pub returns-clause-some : goal.returns-clause-some
unfolding items_of
returns-clause-some c =
    slots_some (words_of c.args.self.now) _ c.most_slots.result c.items.ensures.same c.most_slots.ensures

pub returns-clause-none : goal.returns-clause-none
unfolding items_of
returns-clause-none c =
    slots_none (words_of c.args.self.now) _ c.most_slots.result c.items.ensures.same c.most_slots.ensures
