use Rattle.std.proofs.Common.{arith}
use Rattle.sre_chars.proofs.GrowingLists.{scalar_char, grown_map}
use Rattle.sre_chars.proofs.table.lists.std_map.Goals as goal
use Rattle.sre_chars.proofs.table.lists.std_map.Goals.{in-Some+then-to-ch+in_ok-push, in-Some+else-to-ch, in_default}

pub loop-from-preserved : goal.loop-from-preserved
loop-from-preserved g c =
    let kept = c.loop-from.invariant in
    elim c.match-from_u32.branch [
      | in-Some+then-to-ch+in_ok-push w ↦
          let scalar = scalar_char c.loop-from.from w.in-Some.ensures.value.0 in
          rw (w.entries-is, w.in_ok-push.ensures.items)
          (grown_map c.loop-from.entries.items c.loop-from.from w.in_case-to.result kept scalar
          w.in_case-to.ensures.scalar c.loop-from.auto.from)
      | in-Some+else-to-ch w ↦ rw w.entries-is (record { lawful = kept.lawful; below = omega arith })
      | in_default w ↦ rw w.entries-is (record { lawful = kept.lawful; below = omega arith })
    ]
