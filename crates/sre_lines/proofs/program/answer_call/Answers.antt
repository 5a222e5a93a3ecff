-- The table is the one that is named, or its file gives none.
use Rattle.sre_lines.proofs.Terms.{refl, inl, inr}
use Rattle.sre_lines.proofs.program.answer_call.Goals as goal

pub returns-in-Ok-clause-run : goal.returns-in-Ok-clause-run
returns-in-Ok-clause-run g c =
    let (file, read, runs) =
    rw (c.as_str-file.ensures.value, c.in-Ok.ensures.told) at c.answer_named-in-Ok.ensures.run in
    inl (record {
      table = c.in-Ok.table;
      is_table = rw c.in-Some.is (rw c.as_str.ensures.value at c.in-Ok.ensures.table);
      file = file;
      read = read;
      runs = runs;
    })

pub returns-clause-run : goal.returns-clause-run
returns-clause-run g c =
    let (file, read, runs) = rw c.as_str.ensures.value at c.in-Err.ensures.none in
    inr
    (record { name = c.in-Some.name; named = c.in-Some.is; file = file; read = read; written = refl; runs = runs })
