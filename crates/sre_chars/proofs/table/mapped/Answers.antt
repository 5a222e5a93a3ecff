use Rattle.sre_chars.proofs.Terms.{rules, arith, nat_tests, Map, entries_in}
use Rattle.sre_chars.proofs.RisingLists.{non_decreasing, mapped-last_up_to}
use Rattle.sre_chars.proofs.table.mapped.Goals as goal

pub last_up_to-requires : goal.last_up_to-requires
last_up_to-requires c = non_decreasing Map 0 _ c.requires

pub returns-then-from-ch : goal.returns-then-from-ch
returns-then-from-ch c =
    let by_last = mapped-last_up_to 0 (entries_in c.args.entries.now) c.args.ch c.requires in
    rw (by_last, ← c.last_up_to.ensures, c.in-Some.is) (grind (arith, nat_tests))

pub returns-else-from-ch : goal.returns-else-from-ch
returns-else-from-ch c =
    let by_last = mapped-last_up_to 0 (entries_in c.args.entries.now) c.args.ch c.requires in
    rw (by_last, ← c.last_up_to.ensures, c.in-Some.is) (grind (arith, nat_tests))

pub returns-in-None : goal.returns-in-None
returns-in-None c =
    let by_last = mapped-last_up_to 0 (entries_in c.args.entries.now) c.args.ch c.requires in
    rw (by_last, ← c.last_up_to.ensures, c.in-None.is) (search rules)
