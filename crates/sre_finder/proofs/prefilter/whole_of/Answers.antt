use Rattle.sre_finder.proofs.Terms.{meaning, uni_of, view_of}
use Rattle.sre_patterns.proofs.Fronts.{start-covers}
use Rattle.sre_finder.proofs.Covered.{covering}
use Rattle.sre_finder.proofs.prefilter.whole_of.Goals as goal

pub returns : goal.returns
returns c =
    covering c.args.encoding c.args.code c.new.result c.in-Ok-Some.hir c.new.ensures
    (λ t whole. start-covers (view_of c.args.encoding) (uni_of c.args.code) (meaning c.in-Ok-Some.hir) t
    (c.in-Ok-Some.ensures c.in-Ok-Some.hir c.in-Ok-Some.field-0-is t whole))
