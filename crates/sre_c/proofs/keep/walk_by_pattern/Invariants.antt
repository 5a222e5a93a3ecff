use Rattle.sre_c.proofs.Terms.{table_in}
use Rattle.sre_c.proofs.keep.walk_by_pattern.Given as goal

abbrev pub ghost-put : goal.ghost-put
ghost-put g a = let code = a.pattern.now.code in (code.words.now, table_in code.table.now)
