-- The innermost loop, as the operands of its REPEAT are read.
use Rattle.sre_machine.proofs.Terms.{◌≡◌, ℕ, ◌+◌, ◌≤◌, true, List, ◌∷◌, drop, Word, Opcode, until_opcode, Run, Order}
use Rattle.sre_machine.proofs.Terms.{unlimited, BoardValue, MayRepeat, Frame, may_repeat, InLoop, InPossessiveLoop}

-- a greedy or a lazy loop
pub in_progress : {r : Run} {o : Order} {u low high : ℕ} {b : BoardValue} {f : Frame}
    → Opcode r.words u (until_opcode o) → b.frames ≡ f ∷ drop 1 b.frames → Word r.words (f.repeat + 2) low
    → Word r.words (f.repeat + 3) high → InLoop r o u low high b f
in_progress code inside lowest highest =
    record { code = code; inside = inside; lowest = lowest; highest = highest }

-- a possessive one
pub in_possessive : {r : Run} {v low high : ℕ} {b : BoardValue} {f : Frame} → b.frames ≡ f ∷ drop 1 b.frames
    → Word r.words (f.repeat + 1) v → Word r.words (f.repeat + 2) low → Word r.words (f.repeat + 3) high
    → InPossessiveLoop r v low high b f
in_possessive inside leads lowest highest =
    record { inside = inside; leads = leads; lowest = lowest; highest = highest }

-- a further body may be tried
pub may_go_on : {ws : List ℕ} {f : Frame} {p low high : ℕ} → Word ws (f.repeat + 2) low → Word ws (f.repeat + 3) high
    → low ≤ unlimited → low ≤ f.count → may_repeat high f.count f.last p ≡ true → MayRepeat ws f p
may_go_on lowest highest small enough more = record {
  low = _;
  high = _;
  lowest = lowest;
  highest = highest;
  small = small;
  enough = enough;
  more = more;
}
