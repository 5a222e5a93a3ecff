use Rattle.sre_finder.proofs.Terms.{refl, Filters}
use Rattle.sre_finder.proofs.Covered.{filters_same}
use Rattle.sre_finder.proofs.kept.Kept.into_finder.Goals as goal

pub invariant_of-result : goal.invariant_of-result
invariant_of-result c =
    let code = c.args.code in
    let filters : Filters code c.args.self.starts =
    (c.requires.starts code refl refl, c.requires.whole code refl refl) in
    let begun = filters_same code c.args.self.starts c.begin.new.self c.begin.ensures.same filters in
    (begun, c.requires.exact code refl refl)
