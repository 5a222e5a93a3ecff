-- Where the machine is, and what an instruction's step preserves.
-- Definitions for the machine's contracts; what sre_engine makes public does not rest on it.
use Rattle.std.specs.Prelude.{⊤, ℕ, ◌≡◌, ◌≢◌, Bool, true, false, List, [], ◌∷◌, Option}
use Rattle.sre_machine.specs.Terms.{SreOpcode, Ghosts, StringCursor, Marks, no_marks, Refused, Run, BoardValue}
use Rattle.sre_machine.specs.Terms.{is_inside, spot_at, Counted, Way, IsBack, StandsWithin, spot, RunsOn, Limit, raised}
use Rattle.sre_machine.specs.Terms.{Next, Point, Instruction, Again, TellsEnd, KeepsOpenEnds, HoldsOpenEnds, Request}
use Rattle.sre_machine.specs.Terms.{run_of, Trying, MarksAlike, MarksIdle, Hopeless, MarksServe, HasReference, ForksAt}
use Rattle.sre_machine.specs.Terms.{HasRun, IsAt, Goes, Tries, Arrives, Backs, Advances, Later, EndsAt, Ends, Refuses}
use Rattle.sre_machine.specs.Terms.{DemandsAny, Continues, SkipsBoth, IsRead, Grants, CodeAt, has_toll, scan_toll}
use Rattle.sre_machine.specs.Terms.{Known, Failed, Open, NoBit}
use Rattle.sre_turns.specs.Asked as marks
use Rattle.sre_turns.specs.declared.Next.TheVariants as next
use Rattle.sre_machine.specs.Memos.{MemoValue, Recalls}
use Rattle.sre_machine.specs.Paying.{Pays, Within}
use Rattle.sre_machine.specs.declared.trying.Keeping.{Keeping}
use Rattle.sre_machine.specs.declared.trying.Keeping.TheVariants.{Nothing, Unmarked, Idle, Marked}

-- the machine is at a point, with a cursor at its position; at an instruction
abbrev pub AtPoint : {S : Type 0} {text : Ghosts S} → Request S text → Point → StringCursor → Type 0
AtPoint r point cursor = HasRun (run_of r) point cursor

abbrev pub At : {S : Type 0} {text : Ghosts S} → Request S text → ℕ → StringCursor → Type 0
At r place cursor = AtPoint r (Instruction place) cursor

-- the same on a backtrack stack
abbrev pub AtOnBoard : {S : Type 0} {text : Ghosts S} → Request S text → Point → StringCursor → BoardValue → Type 0
AtOnBoard r point cursor b = IsAt (run_of r) point cursor b

-- the machine stands somewhere within so many steps, whose accepted outcomes begin with these
abbrev pub WithinTurns : {S : Type 0} {text : Ghosts S} → Request S text → List Way → ℕ → Next → BoardValue → Type 0
WithinTurns r all turns next b = StandsWithin (run_of r) all turns next b

-- nothing comes of the instruction at an address and a position; nor where another character stands than is wanted
abbrev pub RefusesAt : {S : Type 0} {text : Ghosts S} → Request S text → ℕ → ℕ → Type 0
RefusesAt r place p = Refuses (run_of r) place p

abbrev pub DemandedAt : {S : Type 0} {text : Ghosts S} → Request S text → ℕ → Option ℕ → Type 0
DemandedAt r place wanted = DemandsAny (run_of r) place wanted

-- what comes of one point comes of another; of one point come two
abbrev pub ContinuesTo : {S : Type 0} {text : Ghosts S} → Request S text → Point → StringCursor → Point → StringCursor
    → Type 0
ContinuesTo r point cursor then after = Continues (run_of r) point cursor then after

abbrev pub SkipsBothAt : {S : Type 0} {text : Ghosts S} → Request S text → Point → StringCursor → Point → Point
    → StringCursor → Type 0
SkipsBothAt r point cursor first second after = SkipsBoth (run_of r) point cursor first second after

-- the character at a cursor is read, and a cursor stands behind it
abbrev pub ReadAt : {S : Type 0} {text : Ghosts S} → Request S text → StringCursor → ℕ → StringCursor → Type 0
ReadAt r cursor character after = IsRead (run_of r) cursor character after

-- the words refer to groups; no mark is set that they ask for; two lists of marks are alike in those
abbrev pub RefersToGroups : {S : Type 0} {text : Ghosts S} → Request S text → Type 0
RefersToGroups r = HasReference (run_of r).words

abbrev pub UnaskedMarks : {S : Type 0} {text : Ghosts S} → Request S text → Marks → Type 0
UnaskedMarks r m = marks.Unmarked (run_of r).words m

abbrev pub AlikeMarks : {S : Type 0} {text : Ghosts S} → Request S text → Marks → Marks → Type 0
AlikeMarks r m n = MarksAlike (run_of r).words m n

-- what is known under some marks serves a point at a position, as a backtrack stack is
abbrev pub ServesThere : {S : Type 0} {text : Ghosts S} → Request S text → Marks → Point → ℕ → BoardValue → Type 0
ServesThere r m point p b = MarksServe (run_of r).words m (spot_at point b.frames p b.marks)

-- no mark that a backtrack stack has makes a difference at a point
abbrev pub IdleThere : {S : Type 0} {text : Ghosts S} → Request S text → Point → BoardValue → Type 0
IdleThere r point b = (p : ℕ) → MarksIdle (run_of r).words (spot_at point b.frames p b.marks)

-- nothing comes of a point at a position, under the loops of a backtrack stack and under marks
abbrev pub Fails : {S : Type 0} {text : Ghosts S} → Request S text → Point → ℕ → Marks → BoardValue → Type 0
Fails r point p m b = Hopeless (run_of r) (is_inside b.choices) m (spot_at point b.frames p b.marks)

-- a point's step makes of a backtrack stack what comes next and another board, and keeps the first accepted outcome
abbrev pub TurnAt : {S : Type 0} {text : Ghosts S} → Request S text → Point → StringCursor → BoardValue → Next
    → BoardValue → Type 0
TurnAt r point cursor b next c = Advances (run_of r) point cursor b next c

abbrev pub Turn : {S : Type 0} {text : Ghosts S} → Request S text → ℕ → StringCursor → BoardValue → Next → BoardValue
    → Type 0
Turn r place cursor b next c = TurnAt r (Instruction place) cursor b next c

-- a step later, where more may have been granted meanwhile, which is paid in some way
abbrev pub Proceeds : Run → List Way → Limit → Next → BoardValue → (Limit → Type 0) → Type 0
Proceeds r all limit next c Paid = (more : Limit) × Grants limit more × Later r all more next c × Paid more

-- what the scan of a point is charged at most
abbrev pub scan_at : {S : Type 0} {text : Ghosts S} → Request S text → Point → ℕ
scan_at r point = scan_toll (run_of r).words (run_of r).subject.end point

-- the step of a point that was just come to, with what its scan is charged
abbrev pub Takes : Type 0 → ℕ → {S : Type 0} {text : Ghosts S} → Request S text → Point → StringCursor → BoardValue
    → MemoValue
    → Next → BoardValue → MemoValue → Type 0
Takes M scan r point cursor b m next c m' =
    (all : List Way) (limit : Limit) → Arrives (run_of r) all limit point cursor b
    → Proceeds (run_of r) all limit next c (λ more. Pays M r m limit m' (raised scan more))

-- the same where the machine backtracks, and keeps what failed or does not
abbrev pub Retreats : Type 0 → {S : Type 0} {text : Ghosts S} → Request S text → Bool → BoardValue → MemoValue → Next
    → BoardValue → MemoValue → Type 0
Retreats M r keeps b m next c m' =
    (all : List Way) (limit : Limit) → Backs (run_of r) all limit b
    → Proceeds (run_of r) all limit next c (λ more. keeps ≡ true → Pays M r m limit m' more)

-- nothing waits any more: there is no outcome, and nothing is tried
abbrev pub Finishes : Type 0 → {S : Type 0} {text : Ghosts S} → Request S text → Bool → BoardValue → MemoValue
    → MemoValue
    → Type 0
Finishes M r keeps b m m' =
    (all : List Way) (limit : Limit) → Backs (run_of r) all limit b
    → (all ≡ []) × ((more : Limit) × Grants limit more × (keeps ≡ true → Pays M r m limit m' more)
    × (Counted (run_of r) → (more.trying ≡ []) × Within (run_of r) more))

-- as the machine backtracks, it has passed markers of what was tried: it takes what is saved below, nothing is granted,
-- and where failures are kept all is paid
pub record GoesBack (M Keeps : Type 0) {S : Type 0} {text : Ghosts S} (r : Request S text) (b : BoardValue)
    (m : MemoValue) (b' : BoardValue) (m' : MemoValue) : Type 0 where
  pub back : IsBack (run_of r) b'
  pub backs : (all : List Way) (limit : Limit) → Backs (run_of r) all limit b
      → (more : Limit) × Grants limit more × Backs (run_of r) all more b' × (Keeps → Pays M r m limit m' more)
  pub remembers : Recalls (run_of r) m'
  pub same : m' ≡ record m { kept = m'.kept; marked = m'.marked }

-- the point is left at once
abbrev pub GivesUp : Type 0 → {S : Type 0} {text : Ghosts S} → Request S text → Point → StringCursor → BoardValue
    → MemoValue
    → BoardValue → MemoValue → Type 0
GivesUp M r point cursor b m c m' =
    (all : List Way) (limit : Limit) → Arrives (run_of r) all limit point cursor b
    → Later (run_of r) all limit next.Back c × Pays M r m limit m' limit

-- a repeat without a greatest count is at a point
abbrev pub RunsOnAt : List ℕ → Point → Type 0
RunsOnAt ws (Instruction i) = RunsOn ws i
RunsOnAt ws pt = ⊥

-- it is executed, which is paid with its scan where it is no repeat without a greatest count
abbrev pub GoesOn : Type 0 → {S : Type 0} {text : Ghosts S} → Request S text → Point → StringCursor → BoardValue
    → MemoValue
    → BoardValue → MemoValue → Type 0
GoesOn M r point cursor b m c m' =
    (all : List Way) (limit : Limit) → Arrives (run_of r) all limit point cursor b
    → (more : Limit) × Grants limit more × Goes (run_of r) all more point cursor c
    × ((RunsOnAt (run_of r).words point → ⊥) → Pays M r m limit m' (raised (scan_at r point) more))

-- the credits of a repeat that is split are granted for it, and paid with its scan
abbrev pub TriesOn : Type 0 → {S : Type 0} {text : Ghosts S} → Request S text → Point → StringCursor → BoardValue
    → MemoValue
    → BoardValue → MemoValue → Type 0
TriesOn M r point cursor b m c m' =
    (all : List Way) (limit : Limit) → Arrives (run_of r) all limit point cursor b
    → (more : Limit) × Grants limit more × Tries (run_of r) all more point cursor c
    × Pays M r m limit m' (raised (scan_at r point) more)

-- the step of an instruction to which the credits of a repeat that is split were granted
abbrev pub TurnOnce : {S : Type 0} {text : Ghosts S} → Request S text → ℕ → StringCursor → BoardValue → Next
    → BoardValue → Type 0
TurnOnce r place cursor b next c =
    (all : List Way) (limit : Limit) → Tries (run_of r) all limit (Instruction place) cursor b
    → Later (run_of r) all limit next c

-- the machine may stand there still, whatever else waits
abbrev pub StaysAt : {S : Type 0} {text : Ghosts S} → Request S text → Point → StringCursor → BoardValue → BoardValue
    → Type 0
StaysAt r point cursor b c = AtOnBoard r point cursor b → AtOnBoard r point cursor c

-- a point forks: the machine may have more than one way to go on there, or go on more than once
abbrev pub ForksThere : {S : Type 0} {text : Ghosts S} → Request S text → Point → Type 0
ForksThere r (Instruction place) = ForksAt (run_of r).words place
ForksThere r Again = ⊤
ForksThere r pt = ⊥

-- a point is left at once, or else the machine stands there still and goes on with it
pub record LeavesOrStays (M : Type 0) {S : Type 0} {text : Ghosts S} (r : Request S text) (point : Point)
    (cursor : StringCursor)
    (leaves : Bool) (b : BoardValue) (m : MemoValue) (c : BoardValue) (m' : MemoValue) : Type 0 where
  pub left : leaves ≡ true → GivesUp M r point cursor b m c m'
  pub stays : leaves ≡ false → StaysAt r point cursor b c
  pub goes : leaves ≡ false → GoesOn M r point cursor b m c m'

-- whether a point is left, and whether its marker was pushed, by what is known of it
abbrev pub SaysTried : Type 0 → Known → Bool → Bool → Type 0
SaysTried M Failed told made = (told ≡ true) × (made ≡ false)
SaysTried M Open told made = (told ≡ false) × (made ≡ false → Refused M)
SaysTried M NoBit told made = (told ≡ false) × (made ≡ false)

-- a point that is known to fail is left, and else its marker was pushed if it has a bit, unless an allocation failed
pub record TriesKnown (M : Type 0) (known : Known) (point : Point) (cursor : StringCursor) (told : Bool)
    (b c : BoardValue) : Type 0 where
  pub made : Bool
  pub marked : made ≡ true → c ≡ record b { choices = Trying point b.frames cursor b.marks ∷ b.choices }
  pub left : made ≡ false → c ≡ b
  pub says : SaysTried M known told made

-- under what marks failures are memoized for a point: where they are not, but the memo is open, the words refer to
-- groups
pub record IsKeeping {S : Type 0} {text : Ghosts S} (r : Request S text) (keeping : Keeping) (point : Point)
    (b : BoardValue) (m : MemoValue) : Type 0 where
  pub opened : keeping ≢ Nothing → m.is_open ≡ true
  pub unmarked : keeping ≡ Unmarked → UnaskedMarks r b.marks
  pub idle : keeping ≡ Idle → IdleThere r point b
  pub forks : keeping ≡ Idle → ForksThere r point
  pub marked : keeping ≡ Marked → AlikeMarks r m.marked.marks b.marks
  pub refers : keeping ≡ Marked → RefersToGroups r
  pub refers_idly : keeping ≡ Idle → RefersToGroups r
  pub left : keeping ≡ Nothing → m.is_open ≡ true → RefersToGroups r

-- a repeat without a greatest count is at a point inside an atomic scope, and no end of its body is memoized there
pub record RunsAtOnce {S : Type 0} {text : Ghosts S} (r : Request S text) (point : Point) (keeping : Keeping)
    (b : BoardValue) (m : MemoValue) : Type 0 where
  pub runs : RunsOnAt (run_of r).words point
  pub inside : is_inside b.choices ≡ true
  pub none : keeping ≡ Unmarked → m.keeps_ends ≡ false

-- from a point inside an atomic scope its body ends at a cursor: so it does from what is alike, as long as no mark is
-- set that the words ask for
pub record EndsThere {S : Type 0} {text : Ghosts S} (r : Request S text) (point : Point) (cursor : StringCursor)
    (b : BoardValue) (end : StringCursor) : Type 0 where
  pub inside : is_inside b.choices ≡ true
  pub unmarked : UnaskedMarks r b.marks
  pub stands : (run_of r).stands end end.position
  pub ends : EndsAt (run_of r) no_marks (spot point cursor b) end.position

-- where a body ends that is memoized: failures are memoized, and ends of bodies, the machine is inside an atomic scope,
-- and the words refer to no group
pub record KeepsEndsHere {S : Type 0} {text : Ghosts S} (r : Request S text) (b : BoardValue) (m : MemoValue) :
    Type 0 where
  pub opened : m.is_open ≡ true
  pub keeps : m.keeps_ends ≡ true
  pub inside : is_inside b.choices ≡ true
  pub plain : RefersToGroups r → ⊥

-- the machine stands where the body of the innermost atomic scope, or the whole, ends at a cursor
pub record BodyEnds {S : Type 0} {text : Ghosts S} (r : Request S text) (cursor : StringCursor) (b : BoardValue) :
    Type 0 where
  pub all : List Way
  pub limit : Limit
  pub ends : Ends (run_of r) all limit cursor b

-- a point has no credits: there is no more than one way to go on
abbrev pub BringsNoTolls : {S : Type 0} {text : Ghosts S} → Request S text → Point → Type 0
BringsNoTolls r point = (o : SreOpcode) → CodeAt (run_of r).words point o → has_toll o point ≡ false

-- no end is told of a point and a cursor, where ends of bodies are memoized
abbrev pub NoEndTold : {S : Type 0} {text : Ghosts S} → Request S text → Point → StringCursor → BoardValue → MemoValue
    → Type 0
NoEndTold r point cursor b m =
    is_inside b.choices ≡ true → m.keeps_ends ≡ true → (end : StringCursor)
    → TellsEnd m.kept m.ends (run_of r).words true (spot point cursor b) end → ⊥

-- where a body ends is memoized, or an allocation failed
pub record KeepsBodyEnd (M : Type 0) {S : Type 0} {text : Ghosts S} (r : Request S text) (cursor : StringCursor)
    (b : BoardValue)
    (m m' : MemoValue) : Type 0 where
  pub same : m'.stopped ≡ false → m' ≡ record m { ends = m'.ends }
  pub kept : KeepsOpenEnds m.kept (run_of r).words b.choices cursor m.ends m'.ends
  pub held : KeepsEndsHere r b m → m'.stopped ≡ false
      → HoldsOpenEnds m.kept (run_of r).words b.choices cursor m'.ends
  pub refused : m'.stopped ≡ true → Refused M
