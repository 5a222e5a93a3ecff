use Rattle.sre_automata.proofs.Terms.{refl, rules, ◌≡◌}
use Rattle.sre_automata.proofs.Needles.{lacking}
use Rattle.sre_automata.proofs.needle.Needle.is_absent.Goals as goal

pub returns-in_default-clause-lacking : goal.returns-in_default-clause-lacking
returns-in_default-clause-lacking c = λ _.
    let same : c.deref.result.now ≡ c.args.self.now = search rules in
    lacking c.args.hay.now c.args.self.now c.args.start c.requires _
    c.deref.result.now refl same c.in_default.ensures
