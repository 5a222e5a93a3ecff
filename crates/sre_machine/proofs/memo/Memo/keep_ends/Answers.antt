use Rattle.sre_machine.proofs.Terms.{ap, subst, HoldsOpenEnds, Kept, MemoValue}
use Rattle.sre_machine.proofs.memo.Memo.keep_ends.Goals as goal

pub returns-in_default-clause-held : goal.returns-in_default-clause-held
returns-in_default-clause-held g c = λ going.
    subst (λ (k : Kept). HoldsOpenEnds k c.args.words.now c.args.board.now.choices c.args.end c.keep_open.new.self)
    (ap (λ (m : MemoValue). m.kept) c.self.view_is) c.in_default.ensures.held
