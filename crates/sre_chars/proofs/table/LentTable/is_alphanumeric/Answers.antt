use Rattle.sre_chars.proofs.Terms.{sym, table_of, entries_in}
use Rattle.sre_chars.proofs.RisingLists.{is_alphanumeric-past_ascii}
use Rattle.sre_chars.proofs.table.LentTable.is_alphanumeric.Goals as goal

pub returns-else-ch-lt128 : goal.returns-else-ch-lt128
returns-else-ch-lt128 c =
    let lists = c.self.inside in
    let table = table_of (entries_in lists.lower) (entries_in lists.upper) (entries_in lists.alnum) in
    rw (c.is_in_ranges.ensures, ← c.self.view_is)
    (sym (is_alphanumeric-past_ascii table _ c.self.invariant.0 c.if-ch-lt128.false))
