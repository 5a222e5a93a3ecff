-- The machine: the outcomes at a point of the bytecode, and what a step preserves. With it come the names that its
-- definitions speak of.
-- Definitions for the machine's contracts; what sre_engine makes public does not rest on it.
use Rattle.std.specs.Prelude.{⊤, ℕ, suc, ◌+◌, ◌≡◌, ◌<◌, ◌≤◌, Bool, false, List, [], ◌∷◌, ◌++◌, drop, length, Option}
use Rattle.std.specs.Prelude.{Some, None}
use Rattle.sre_turns.specs.Terms.{filter, SreOpcode, Table, Tree, Test, holds, mark_at, no_marks, char_at, first, here}
use Rattle.sre_turns.specs.Terms.{TestStands, Plain, ways}
use Rattle.sre_model.specs.Tree.{Literal}
pub use Rattle.sre_chars.specs.declared.string.StringCursor.{StringCursor}
pub use Rattle.sre_model.specs.Marks.{Marks}
pub use Rattle.sre_model.specs.Subject.{Subject, passes}
pub use Rattle.sre_model.specs.Ways.{Way}
pub use Rattle.sre_model.specs.Grammar.{Word, Opcode, skip}
pub use Rattle.sre_model.specs.Runs.{Run}
pub use Rattle.sre_turns.specs.Board.{Choice, Else, Keep, Trying, BoardValue, from_region}
use Rattle.sre_turns.specs.Bodies.{IsConfined, MarklessRegions, ChoicesConfined, StandsConfined, BothConfined}
use Rattle.sre_turns.specs.Nested.{repeats}
use Rattle.sre_turns.specs.Fruit.{SameFruit, is_inside}
pub use Rattle.sre_turns.specs.declared.Frame.{Frame}
pub use Rattle.sre_turns.specs.declared.Region.TheVariants.{AtomicGroup, Ahead, NotAhead, Owed, Further}
pub use Rattle.sre_turns.specs.declared.Region.{Region}
pub use Rattle.sre_turns.specs.declared.Point.TheVariants.{Instruction, Alternatives, Shorter, Longer, Inside, Again}
pub use Rattle.sre_turns.specs.declared.Point.{Point}
pub use Rattle.sre_turns.specs.Moves.{Spot, spot_at, Move, Stop, End, Go, Split, Enter, closing_move, InRole, MovesAt}
pub use Rattle.sre_turns.specs.Moves.{Moves}
pub use Rattle.sre_turns.specs.Outcomes.{Runs, turns, Comes, stops, ends, goes, splits, enters}
use Rattle.sre_turns.specs.Prices.{price_of}
pub use Rattle.sre_turns.specs.Settled.{Counted}
pub use Rattle.sre_turns.specs.Limits.{Limit, earlier}
use Rattle.sre_turns.specs.Limits.{without_open, Stage, Coming, Going, Splitting, spare, share, CodeAt, HereIn, FaresAt}
use Rattle.sre_turns.specs.Limits.{FaresBoth, FaresBack, FaresEnd}
use Rattle.sre_turns.specs.declared.Next.{Next}
use Rattle.sre_turns.specs.declared.Next.TheVariants as next

-- each mark that is set lies in the text
pub record Placed (s : Subject) (m : Marks) : Type 0 where
  pub at : (n p : ℕ) → mark_at m n ≡ Some p → p ≤ length s.text

-- what the accepted outcomes of the whole begin with, and the steps to come, where the innermost atomic scope has the
-- outcomes now, and where so many steps, as those of Runs are counted, may still come before what waits is reached: a
-- mark waits for no more than the steps of what is tried. Nothing is said of later outcomes, so that what waits twice
-- may go
pub data Waits (r : Run) : List Choice → ℕ → List Way → List Way → ℕ → Type 0 where
  outermost : {u : ℕ} {now all : List Way} → first all ≡ first (filter r.accepts now) → Waits r [] u now all 0
  otherwise : {pt : Point} {fs : List Frame} {c : StringCursor} {u n k : ℕ} {m : Marks} {os now all : List Way}
      {cs : List Choice}
      → r.stands c c.position → Placed r.subject m → Runs r.words r.subject (spot_at pt fs c.position m) os n
      → Waits r cs (u + n + 1) (now ++ os) all k
      → Waits r (Else pt fs c m ∷ cs) u now all (suc (n + k))
  kept : {g : Region} {pt : Point} {fs : List Frame} {c : StringCursor} {u n k : ℕ} {m : Marks}
      {os now all : List Way} {cs : List Choice}
      → r.stands c c.position → Placed r.subject m
      → Comes r.words r.subject (spot_at pt fs c.position m) (closing_move g (spot_at pt fs c.position m) now) os n
      → Waits r cs (u + n) os all k → Waits r (Keep g fs c m ∷ cs) u now all (n + k)
  tried : {pt : Point} {fs : List Frame} {c : StringCursor} {u n k : ℕ} {m : Marks} {os now all : List Way}
      {cs : List Choice}
      → r.stands c c.position → Placed r.subject m
      → Runs r.words r.subject (spot_at pt fs c.position m) os n → u ≤ n
      → SameFruit r (is_inside cs) os now
      → Waits r cs u now all k → Waits r (Trying pt fs c m ∷ cs) u now all k

-- where the machine stands at a point and a cursor
abbrev pub spot : Point → StringCursor → BoardValue → Spot
spot pt c b = spot_at pt b.frames c.position b.marks

-- the machine is at a point and a cursor: all begins as the accepted outcomes do, at most limit steps are left, and
-- what waits on the backtrack stack has at least so many steps to spare beyond those that come of the point
pub record GoesWith (stage : Stage) (r : Run) (all : List Way) (limit : Limit) (pt : Point) (c : StringCursor)
    (b : BoardValue)
    : Type 0 where
  pub now : List Way
  pub turns : ℕ
  pub later : ℕ
  pub stands : r.stands c c.position
  pub placed : Placed r.subject b.marks
  pub runs : Runs r.words r.subject (spot pt c b) now turns
  pub waits : Waits r b.choices (turns + spare stage) now all later
  pub within : turns + later ≤ limit.turns
  pub fares : (pl : Counted r) (o : SreOpcode) → CodeAt r.words pt o
      → FaresAt r pl limit (share stage r.words r.subject.end o (spot pt c b)) (spot pt c b) b.choices
  pub confined : MarklessRegions r.words → StandsConfined r.words (spot pt c b) b.choices

-- its step is under way: a mark for it may wait already
abbrev pub Goes : Run → List Way → Limit → Point → StringCursor → BoardValue → Type 0
Goes r all limit pt c b = GoesWith Going r all limit pt c b

-- it is reached: each mark that waits has steps for what came before it
abbrev pub Arrives : Run → List Way → Limit → Point → StringCursor → BoardValue → Type 0
Arrives r all limit pt c b = GoesWith Coming r all limit pt c b

-- its step is under way, with the credits of a repeat that is split, whatever the opcode is
abbrev pub Tries : Run → List Way → Limit → Point → StringCursor → BoardValue → Type 0
Tries r all limit pt c b = GoesWith Splitting r all limit pt c b

-- the same at two configurations, the outcomes of the one before those of the other
pub record GoesBoth (r : Run) (all : List Way) (limit : Limit) (first second : Spot) (c : StringCursor)
    (cs : List Choice) : Type 0 where
  pub now : List Way
  pub next : List Way
  pub turns : ℕ
  pub further : ℕ
  pub later : ℕ
  pub stands : r.stands c c.position
  pub placed : Placed r.subject first.marks
  pub others_placed : Placed r.subject second.marks
  pub runs : Runs r.words r.subject first now turns
  pub others : Runs r.words r.subject second next further
  pub waits : Waits r cs (turns + further + 2) (now ++ next) all later
  pub within : turns + further + later + 2 ≤ limit.turns
  pub fares : (pl : Counted r) → FaresBoth r pl limit first second cs
  pub confined : MarklessRegions r.words → BothConfined r.words first second cs

-- the innermost atomic scope has no more outcomes
pub record Backs (r : Run) (all : List Way) (limit : Limit) (b : BoardValue) : Type 0 where
  pub later : ℕ
  pub waits : Waits r b.choices 0 [] all later
  pub within : later ≤ limit.turns
  pub fares : (pl : Counted r) → FaresBack r pl limit b.choices
  pub confined : MarklessRegions r.words → ChoicesConfined r.words b.choices

-- the innermost atomic scope ends at a cursor
pub record Ends (r : Run) (all : List Way) (limit : Limit) (c : StringCursor) (b : BoardValue) : Type 0 where
  pub later : ℕ
  pub stands : r.stands c c.position
  pub placed : Placed r.subject b.marks
  pub waits : Waits r b.choices 0 (here c.position b.marks) all later
  pub within : later + 1 ≤ limit.turns
  pub fares : (pl : Counted r) → FaresEnd r pl limit c.position b.choices
  pub confined : MarklessRegions r.words → ChoicesConfined r.words b.choices

abbrev pub Stands : Run → List Way → Limit → Next → BoardValue → Type 0
Stands r all limit (next.At i c) b = Arrives r all limit (Instruction i) c b
Stands r all limit (next.Again c) b = Arrives r all limit Again c b
Stands r all limit next.Back b = Backs r all limit b
Stands r all limit (next.Done c) b = Ends r all limit c b

-- one step later, the accepted outcomes beginning as they did
abbrev pub Later : Run → List Way → Limit → Next → BoardValue → Type 0
Later r all limit n b = (1 ≤ limit.turns) × Stands r all (earlier limit) n b

-- within so many steps, whatever was granted
pub record StandsWithin (r : Run) (all : List Way) (turns : ℕ) (n : Next) (b : BoardValue) : Type 0 where
  pub limit : Limit
  pub turns_left : limit.turns ≡ turns
  pub stands : Stands r all limit n b

-- a step at a point
abbrev pub Advances : Run → Point → StringCursor → BoardValue → Next → BoardValue → Type 0
Advances r pt c old n new = (all : List Way) (limit : Limit) → Goes r all limit pt c old → Later r all limit n new

-- the same at two points
abbrev pub Chooses : Run → Point → Point → StringCursor → BoardValue → Next → BoardValue → Type 0
Chooses r first second c old n new =
    (all : List Way) (limit : Limit) → GoesBoth r all limit (spot first c old) (spot second c old) c old.choices
    → Later r all limit n new

-- the same where an atomic scope ends, inside of which nothing is tried any more
abbrev pub Closes : Run → StringCursor → BoardValue → Next → BoardValue → Type 0
Closes r c old n new =
    (all : List Way) (limit : Limit) → Ends r all limit c old → Later r all (without_open old.choices limit) n new

-- what comes of an atomic scope that was entered at d, where its body has an outcome at c
abbrev pub after_outcome : Region → StringCursor → StringCursor → Next
after_outcome (AtomicGroup t) c d = next.At t c
after_outcome (Ahead t) c d = next.At t d
after_outcome (NotAhead t) c d = next.Back
after_outcome Owed c d = next.Again c
after_outcome (Further t) c d = next.Again c

-- what comes of one that was entered at a cursor, where its body has none
abbrev pub without_outcome : Region → StringCursor → Next
without_outcome (AtomicGroup t) c = next.Back
without_outcome (Ahead t) c = next.Back
without_outcome (NotAhead t) c = next.At t c
without_outcome Owed c = next.Back
without_outcome (Further t) c = next.At t c

-- a loop is on the backtrack stack
abbrev pub with_loop : Frame → BoardValue → BoardValue
with_loop f b = record b { frames = f ∷ b.frames }

-- a possessive loop is left where a further body has none
abbrev pub without_loop : Region → BoardValue → BoardValue
without_loop (Further t) b = record b { frames = drop 1 b.frames }
without_loop g b = b

-- there are outcomes, perhaps none, of standing at a point and a cursor
pub record HasRun (r : Run) (pt : Point) (c : StringCursor) : Type 0 where
  pub frames : List Frame
  pub marks : Marks
  pub outcomes : List Way
  pub turns : ℕ
  pub stands : r.stands c c.position
  pub runs : Runs r.words r.subject (spot_at pt frames c.position marks) outcomes turns

-- the same on a backtrack stack
pub record IsAt (r : Run) (pt : Point) (c : StringCursor) (b : BoardValue) : Type 0 where
  pub outcomes : List Way
  pub turns : ℕ
  pub stands : r.stands c c.position
  pub placed : Placed r.subject b.marks
  pub runs : Runs r.words r.subject (spot pt c b) outcomes turns

-- the machine backtracks, whatever the outcomes are
pub record IsBack (r : Run) (b : BoardValue) : Type 0 where
  pub all : List Way
  pub limit : Limit
  pub backs : Backs r all limit b

-- what a point comes to without a step, on any backtrack stack
abbrev pub Skips : Run → Point → StringCursor → Point → StringCursor → Type 0
Skips r pt c pt' c' =
    (b : BoardValue) (all : List Way) (limit : Limit) → Goes r all limit pt c b → Goes r all limit pt' c' b

-- the same, where two points come of it
pub record SkipsBoth (r : Run) (pt : Point) (c : StringCursor) (first second : Point) (c' : StringCursor) : Type 0 where
  pub runs : HasRun r first c'
  pub others : HasRun r second c'
  pub skips : (b : BoardValue) (all : List Way) (limit : Limit) → Goes r all limit pt c b
      → GoesBoth r all limit (spot first c' b) (spot second c' b) c' b.choices

-- nothing comes of standing at a point and a position
abbrev pub Exhausted : Run → Point → ℕ → Type 0
Exhausted r pt p =
    (fs : List Frame) (m : Marks) (os : List Way) (n : ℕ)
    → Runs r.words r.subject (spot_at pt fs p m) os n → os ≡ []

-- the same of an instruction
abbrev pub Refuses : Run → ℕ → ℕ → Type 0
Refuses r i p = Exhausted r (Instruction i) p

-- the accepted outcomes of a tree from a position, with no marks
abbrev pub outcomes : Run → Tree → ℕ → List Way
outcomes r t p = filter r.accepts (ways r.subject t p no_marks)

-- the first of all accepted outcomes, which ends at that cursor and has those marks, or that there is none
abbrev pub Decides : Run → List Way → Option StringCursor → Marks → Type 0
Decides r all None m = all ≡ []
Decides r all (Some c) m =
    r.stands c c.position × ((rest : List Way) × (all ≡ record { stop = c.position; marks = m } ∷ rest))

-- whether an end is accepted, whatever the marks are
abbrev pub SaysAccepted : Run → ℕ → Bool → Type 0
SaysAccepted r p b = (m : Marks) → b ≡ r.accepts (record { stop = p; marks = m })

-- nothing comes of standing at an instruction where the next character is not v
abbrev pub Demands : Run → ℕ → ℕ → Type 0
Demands r i v = (p : ℕ) → passes r.subject (Literal Plain v) p ≡ false → Refuses r i p

-- the same of a character that is known perhaps
abbrev pub DemandsAny : Run → ℕ → Option ℕ → Type 0
DemandsAny r i None = ⊤
DemandsAny r i (Some v) = Demands r i v

-- the test at i does not take the character that is known
pub record Excludes (ws : List ℕ) (i : ℕ) (wanted : Option ℕ) : Type 0 where
  pub character : ℕ
  pub known : wanted ≡ Some character
  pub each : (table : Table) (j : ℕ) (t : Test) → TestStands ws i j t → holds table t character ≡ false

-- what comes of one point and cursor comes of another, in no more steps, and at no higher price; and where the machine
-- may stand at the one, it may at the other
pub record Continues (r : Run) (pt : Point) (c : StringCursor) (pt' : Point) (c' : StringCursor) : Type 0 where
  pub stands : r.stands c' c'.position
  pub runs : (fs : List Frame) (m : Marks) (os : List Way) (n : ℕ)
      → Runs r.words r.subject (spot_at pt fs c.position m) os n
      → (k : ℕ) × (k ≤ n) × Runs r.words r.subject (spot_at pt' fs c'.position m) os k
  pub fares : (pl : Counted r) (start : ℕ) (cs : List Choice) (fs : List Frame) (m : Marks)
      → HereIn r pl start cs (spot_at pt fs c.position m)
      → HereIn r pl start cs (spot_at pt' fs c'.position m)
      × (price_of r.words r.subject.end (spot_at pt' fs c'.position m)
      ≤ price_of r.words r.subject.end (spot_at pt fs c.position m))
  pub confines : (fs : List Frame) → IsConfined r.words pt (repeats fs) → IsConfined r.words pt' (repeats fs)

-- the character at a cursor inside the range, and the cursor behind it
pub record IsRead (r : Run) (c : StringCursor) (ch : ℕ) (after : StringCursor) : Type 0 where
  pub inside : c.position < r.subject.end
  pub character : ch ≡ char_at r.subject c.position
  pub position : after.position ≡ c.position + 1
  pub stands : r.stands after after.position
