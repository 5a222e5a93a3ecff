use Rattle.sre_finder.proofs.Covered.{covering}
use Rattle.sre_finder.proofs.prefilter.seeker_of.Goals as goal

pub returns : goal.returns
returns c =
    covering c.args.encoding c.args.code c.new.result c.in-Ok-Some.hir c.new.ensures
    (c.in-Ok-Some.ensures c.in-Ok-Some.hir c.in-Ok-Some.field-0-is)
