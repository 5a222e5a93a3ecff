use Rattle.sre_chars.proofs.Terms.{rules, Ranges, entries_in}
use Rattle.sre_chars.proofs.RisingLists.{non_decreasing, is_in_ranges-last_up_to}
use Rattle.sre_chars.proofs.table.is_in_ranges.Goals as goal

pub last_up_to-requires : goal.last_up_to-requires
last_up_to-requires c = non_decreasing Ranges 0 _ c.requires

pub returns-in-Some : goal.returns-in-Some
returns-in-Some c =
    let by_last = is_in_ranges-last_up_to 0 (entries_in c.args.entries.now) c.args.ch c.requires in
    rw (by_last, ← c.last_up_to.ensures, c.in-Some.is) (search rules)

pub returns-in-None : goal.returns-in-None
returns-in-None c =
    let by_last = is_in_ranges-last_up_to 0 (entries_in c.args.entries.now) c.args.ch c.requires in
    rw (by_last, ← c.last_up_to.ensures, c.in-None.is) (search rules)
