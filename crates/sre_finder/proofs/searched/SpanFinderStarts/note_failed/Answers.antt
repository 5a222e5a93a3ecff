use Rattle.sre_finder.proofs.Terms.{◌≡◌, ◌∙◌, sym, subst, rules, EndStands}
use Rattle.sre_finder.proofs.Covered.{filters_same}
use Rattle.sre_finder.proofs.searched.SpanFinderStarts.note_failed.Goals as goal

pub invariant_of-self : goal.invariant_of-self
invariant_of-self g c = (filters_same _ _ _ c.fail.ensures.same c.self.invariant.0, c.self.invariant.1)

pub returns : goal.returns
returns g c = λ string code suits.
    let own : c.self.inside.code ≡ c.args.self.now.code = search rules in
    let end : c.fail.new.self.end ≡ c.args.self.now.end = search rules in
    (own ∙ suits.0, subst (EndStands (g.S.StrDrive.stands string)) (sym end) suits.1)
