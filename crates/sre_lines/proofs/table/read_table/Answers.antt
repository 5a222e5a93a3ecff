-- The lists that have a fault are those of the file.
use Rattle.sre_lines.proofs.Terms.{◌≡◌, table_with, arith}
use Rattle.sre_lines.specs.TableFiles.{table_text}
use Rattle.sre_lines.proofs.Causes.{nothing}
use Rattle.std.proofs.lemmas.Grind.{common_steps}
use Rattle.sre_lines.proofs.table.read_table.Goals as goal

pub returns-clause-lists : goal.returns-clause-lists
returns-clause-lists c error is =
    let table = table_with c.in_ok-lower.lower.items c.in_ok-upper.upper.items c.in_ok-alnum.alnum.items
    c.in_ok-digits.digits.items in
    let read : table_text table ≡ c.args.file.now =
    cc (
      c.in_ok-lower.ensures.read,
      c.in_ok-upper.ensures.read,
      c.in_ok-alnum.ensures.read,
      c.in_ok-digits.ensures.read,
      nothing _ c.if-not-is_empty.ensures,
    ) in (
      table,
      read,
      rw (c.as_slice.ensures.value, c.as_slice-2.ensures.value, c.as_slice-3.ensures.value, c.as_slice-4.ensures.value)
          at c.table_of.ensures.lists error is,
    )

pub returns-clause-read : goal.returns-clause-read
returns-clause-read c = grind (arith, common_steps)
