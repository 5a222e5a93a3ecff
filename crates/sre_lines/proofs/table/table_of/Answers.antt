-- Lists without a fault fail only where an allocation did.
use Rattle.sre_lines.proofs.Terms.{[], lists_fault, table_with, table_fault}
use Rattle.sre_chars.specs.Tables.{table_of}
use Rattle.sre_lines.proofs.TableFiles.{table_never, digits_never, no_fault, fault_in}
use Rattle.sre_lines.proofs.table.table_of.Goals as goal

pub returns-in-Err-clause-memory : goal.returns-in-Err-clause-memory
returns-in-Err-clause-memory c failed =
    let t = table_of c.args.lower.now c.args.upper.now c.args.alnum.now in
    c.in-Err.ensures.grows
    (no_fault (table_fault t) c.in-Err.error (table_never t) c.in-Err.ensures.refused
    (c.fault_of.ensures.only (fault_in c.fault_of.result failed)))

pub returns-clause-memory : goal.returns-clause-memory
returns-clause-memory c failed =
    let digits = c.args.digits.now in
    c.in-Err-set_digits.ensures.grows
    (no_fault (lists_fault (table_with [] [] [] digits)) c.in-Err-set_digits.error (digits_never digits)
    c.in-Err-set_digits.ensures.refused
    (c.fault_of-in-Err-set_digits.ensures.only (fault_in c.fault_of-in-Err-set_digits.result failed)))
