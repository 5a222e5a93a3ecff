use Rattle.sre_patterns.proofs.Items.{one_item}
use Rattle.sre_patterns.proofs.translate.one.Goals as goal

pub returns : goal.returns
returns c = one_item _ _ _ _ c.requires c.end_of_test.ensures c.in_ok-hir.ensures
