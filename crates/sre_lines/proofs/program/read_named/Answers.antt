-- The table is written in the file that was read.
use Rattle.sre_lines.proofs.Terms.{rules, Ok, FnReturnsAt, IfOk-weaker}
use Rattle.sre_lines.proofs.program.read_named.Goals as goal

pub returns-in-Ok-clause-table : goal.returns-in-Ok-clause-table
returns-in-Ok-clause-table g c =
    let returns : FnReturnsAt g.F.Fn c.args.read.now c.args.name.now (Ok c.in-Ok.file) = search rules in
    IfOk-weaker c.table_read.result _ _ (λ table is. (c.in-Ok.file, returns, is)) c.table_read.ensures.table
