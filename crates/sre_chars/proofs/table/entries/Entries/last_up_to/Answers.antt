use Rattle.sre_chars.proofs.Terms.{subst, IsNonDecreasingBy, entries_in}
use Rattle.sre_chars.proofs.RisingLists.{non_decreasing-of_pairs}
use Rattle.sre_chars.proofs.table.entries.Entries.last_up_to.Goals as goal

pub last_up_to-requires-in-Lent : goal.last_up_to-requires-in-Lent
last_up_to-requires-in-Lent c =
    non_decreasing-of_pairs (λ e. (e.low, e.high)) c.in-Lent.entries.now
    (subst (λ list. IsNonDecreasingBy (λ e. e.0) (entries_in list)) c.in-Lent.is c.requires)
