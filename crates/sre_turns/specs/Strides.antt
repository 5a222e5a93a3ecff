-- Batched loop iterations: bodies of a loop that are gone over in one step.
-- Definitions for the machine's contracts; what sre_engine makes public does not rest on it.
use Rattle.std.specs.Prelude.{ℕ, ◌+◌, ◌≡◌, ◌<◌, ◌≤◌, Bool, true, false, List, ◌∷◌}
use Rattle.sre_turns.specs.Terms.{StringCursor, Word, Marks, Run, Way, may_repeat, unlimited}
use Rattle.sre_turns.specs.Bodies.{Confined}
use Rattle.sre_turns.specs.Machine.{IsAt, with_loop, Refuses, Exhausted, Continues, IsRead}
use Rattle.sre_turns.specs.Board.{BoardValue, Choice}
use Rattle.sre_turns.specs.Moves.{Spot, spot_at}
use Rattle.sre_turns.specs.Outcomes.{Runs}
use Rattle.sre_turns.specs.Settled.{Counted}
use Rattle.sre_turns.specs.Limits.{HereIn}
use Rattle.sre_turns.specs.declared.Frame.{Frame}
use Rattle.sre_turns.specs.declared.Point.{Point}
use Rattle.sre_turns.specs.declared.Point.TheVariants.{Instruction, Alternatives}

-- what comes of a spot comes of another one, in no more turns; and where the machine may stand at the first, in a
-- search over words whose turns are counted, it may at the other
pub record Yields (r : Run) (x y : Spot) : Type 0 where
  pub runs : (os : List Way) (n : ℕ) → Runs r.words r.subject x os n → (k : ℕ) × (k ≤ n) × Runs r.words r.subject y os k
  pub here : (pl : Counted r) (start : ℕ) (cs : List Choice) → HereIn r pl start cs x → HereIn r pl start cs y
  pub confines : Confined r.words x → Confined r.words y

-- the same of a point and a cursor and of others, whatever the loops and the marks are
pub record YieldsTo (r : Run) (pt : Point) (c : StringCursor) (pt' : Point) (c' : StringCursor) : Type 0 where
  pub stands : r.stands c' c'.position
  pub yields : (fs : List Frame) (m : Marks) → Yields r (spot_at pt fs c.position m) (spot_at pt' fs c'.position m)

-- a further body of a loop may be tried at a position
pub record MayRepeat (ws : List ℕ) (f : Frame) (p : ℕ) : Type 0 where
  pub low : ℕ
  pub high : ℕ
  pub lowest : Word ws (f.repeat + 2) low
  pub highest : Word ws (f.repeat + 3) high
  pub small : low ≤ unlimited
  pub enough : low ≤ f.count
  pub more : may_repeat high f.count f.last p ≡ true

-- the machine stands where a body of the innermost loop ends, on some board
pub record EndsBody (r : Run) (u : ℕ) (f : Frame) (c : StringCursor) : Type 0 where
  pub board : BoardValue
  pub at : IsAt r (Instruction u) c (with_loop f board)

-- what comes where a body ends comes where a later one does
pub record Strides (r : Run) (u : ℕ) (f : Frame) (c : StringCursor) (f' : Frame) (c' : StringCursor) : Type 0 where
  pub stands : r.stands c' c'.position
  pub same : f'.repeat ≡ f.repeat
  pub yields : (fs : List Frame) (m : Marks) → Yields r (spot_at (Instruction u) (f ∷ fs) c.position m)
      (spot_at (Instruction u) (f' ∷ fs) c'.position m)

-- an ASCII character is read at a cursor, and another cursor stands behind it
pub record ReadsAscii (r : Run) (c : StringCursor) (ch : ℕ) (after : StringCursor) : Type 0 where
  pub stands : r.stands c c.position
  pub read : IsRead r c ch after
  pub ascii : ch < 128

-- a set tells which ASCII characters the test at i takes, behind which the machine goes on at a place
pub record TellsTest (r : Run) (i : ℕ) (set : ℕ → Bool) (behind : ℕ) : Type 0 where
  pub misses : (c : StringCursor) (ch : ℕ) (after : StringCursor) → ReadsAscii r c ch after → set ch ≡ false
      → Refuses r i c.position
  pub passes : (c : StringCursor) (ch : ℕ) (after : StringCursor) → ReadsAscii r c ch after → set ch ≡ true
      → Continues r (Instruction i) c (Instruction behind) after

-- of the alternatives before q none begins with an ASCII character of one set; with one of another set one alone
-- begins, which comes to u behind it
pub record TellsAlternatives (r : Run) (start q u : ℕ) (none only : ℕ → Bool) : Type 0 where
  pub passed : (c : StringCursor) (ch : ℕ) (after : StringCursor) → ReadsAscii r c ch after → none ch ≡ true
      → Continues r (Alternatives start) c (Alternatives q) c
  pub alone : (c : StringCursor) (ch : ℕ) (after : StringCursor) → ReadsAscii r c ch after → only ch ≡ true
      → Exhausted r (Alternatives q) c.position → YieldsTo r (Alternatives start) c (Instruction u) after

-- before an ASCII character of a set, alternatives come to u behind it, and to nothing else
pub record TellsBodies (r : Run) (start u : ℕ) (set : ℕ → Bool) : Type 0 where
  pub each : (c : StringCursor) (ch : ℕ) (after : StringCursor) → ReadsAscii r c ch after → set ch ≡ true
      → YieldsTo r (Alternatives start) c (Instruction u) after
