use Rattle.sre_chars.specs.declared.table.Listing.TheVariants.{Map}
use Rattle.sre_chars.proofs.GrowingLists.{IsRisingBelow}
use Rattle.sre_chars.proofs.table.lists.std_map.Given as goal

abbrev pub invariant-loop-from : goal.invariant-loop-from
invariant-loop-from g l = IsRisingBelow Map l.entries.items l.from
