use Rattle.sre_code.proofs.Terms.{∥∥₁_map, kept_tree, whole_same}
use Rattle.sre_model.proofs.CutOff.{cut_off}
use Rattle.sre_code.proofs.code.Code.words.Goals as goal

pub returns-clause-tree : goal.returns-clause-tree
returns-clause-tree c = kept_tree c.args.self.now.words.now (∥∥₁_map c.args.self.now.checked (λ t. (t.0, t.1)))

pub returns-clause-cut : goal.returns-clause-cut
returns-clause-cut c = cut_off c.args.self.now.words.now

pub returns-clause-one : goal.returns-clause-one
returns-clause-one c = whole_same c.args.self.now.words.now
