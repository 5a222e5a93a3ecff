use Rattle.sre_automata.proofs.Terms.{rules, ◌≡◌, subst, meaning, NoneLeft, ContainsAny}
use Rattle.sre_automata.proofs.seeker.Seeker.has_none_left.Goals as goal

pub returns-clause-none : goal.returns-clause-none
returns-clause-none c = λ e.
    let own = c.self.inside.parts.value in
    let re = meaning own.hir in
    let same : own.needle ≡ c.deref_mut.result.now.needle = search rules in
    subst (λ h. NoneLeft c.args.hay.now (meaning h) c.args.start) c.self.view_is
    (c.lacks.ensures.lacking e re (subst (ContainsAny re) same c.self.invariant.0))
