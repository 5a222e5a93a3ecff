use Rattle.std.proofs.Common.{rules}
use Rattle.sre_code.proofs.code.Code.check_lent.Goals as goal

pub returns-clause-words : goal.returns-clause-words
returns-clause-words c = search rules

pub returns-clause-tree : goal.returns-clause-tree
returns-clause-tree c = search rules

pub returns-clause-refused : goal.returns-clause-refused
returns-clause-refused c = search rules
