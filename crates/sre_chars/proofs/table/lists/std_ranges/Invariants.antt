use Rattle.sre_chars.specs.declared.table.Listing.TheVariants.{Ranges}
use Rattle.sre_chars.proofs.GrowingLists.{IsRisingBelow, IsRun}
use Rattle.sre_chars.proofs.table.lists.std_ranges.Given as goal

abbrev pub invariant-loop-code : goal.invariant-loop-code
invariant-loop-code g l = record {
  rising : IsRisingBelow Ranges l.ranges.items l.code;
  run : IsRun l.ranges.items l.code l.run;
}
