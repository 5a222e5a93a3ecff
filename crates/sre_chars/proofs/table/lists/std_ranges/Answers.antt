use Rattle.std.proofs.Common.{refl, arith}
use Rattle.sre_chars.proofs.GrowingLists.{longer_run, grown_ranges}
use Rattle.sre_chars.proofs.table.lists.std_ranges.Goals as goal
use Rattle.sre_chars.proofs.table.lists.std_ranges.Goals.{then-is_std_alphanumeric, else-is_std_alphanumeric+in_default}
use Rattle.sre_chars.proofs.table.lists.std_ranges.Goals.{else-is_std_alphanumeric+in-Some+in_ok-push}
use Rattle.sre_chars.proofs.table.lists.std_ranges.Goals.{in-Some-run+in_ok-push-2, in_default-run}

pub loop-code-preserved : goal.loop-code-preserved
loop-code-preserved g c =
    let ranges = c.loop-code.ranges.items in
    let kept = c.loop-code.invariant.rising in
    elim c.if-is_std_alphanumeric.branch [
      | then-is_std_alphanumeric w ↦
          let scalar = w.if-is_std_alphanumeric.ensures.scalar refl in
          rw (w.ranges-is, w.run-is) (record {
            rising = record { lawful = kept.lawful; below = omega arith };
            run = longer_run ranges c.loop-code.code c.loop-code.run w.extended.result kept c.loop-code.invariant.run
                scalar c.loop-code.auto.code w.extended.ensures.alone w.extended.ensures.longer;
          })
      | else-is_std_alphanumeric+in-Some+in_ok-push w ↦
          let run = rw w.in-Some.is at c.loop-code.invariant.run in
          rw (w.ranges-is, w.run-is, w.in_ok-push.ensures.items) (record {
            rising = grown_ranges ranges w.in-Some.range c.loop-code.code kept run;
            run = tt;
          })
      | else-is_std_alphanumeric+in_default w ↦
          rw (w.ranges-is, w.run-is, w.in_default.is) (record {
            rising = record { lawful = kept.lawful; below = omega arith };
            run = tt;
          })
    ]

pub returns-clause-lawful : goal.returns-clause-lawful
returns-clause-lawful g c =
    let kept = c.loop-code.invariant.rising in
    elim c.match-run-2.branch [
      | in-Some-run+in_ok-push-2 w ↦
          let run = rw w.in-Some-run.is at c.loop-code.invariant.run in
          rw (w.ranges-is, w.in_ok-push-2.ensures.items)
          (grown_ranges c.loop-code.ranges.items w.in-Some-run.range c.loop-code.code kept run).lawful
      | in_default-run w ↦ rw w.ranges-is kept.lawful
    ]
