use Rattle.sre_patterns.proofs.Terms.{ℕ, Test, holds, TestStands, items_of, uni_of, HasJust}
use Rattle.sre_patterns.proofs.classes.taken_below.Given as goal

abbrev pub invariant-loop-character : goal.invariant-loop-character
invariant-loop-character l = (j : ℕ) (t : Test) → TestStands (items_of l.task.code) l.place j t
    → HasJust l.character (holds (uni_of l.task.code) t) l.ranges.items
