-- Moves: what the machine does in one step, by the role of the opcode. Nothing here is recursive.
-- Definitions for the machine's contracts; what sre_engine makes public does not rest on it.
use Rattle.std.specs.Prelude.{ℕ, ◌+◌, ◌≡◌, List, ◌<◌, length, drop, cond, nat_eq, [], ◌∷◌, ◌-◌, ◌≤◌, ◌&&◌, nat_le, Bool}
use Rattle.std.specs.Prelude.{true, false, Some, None, min, nat_lt, Option, suc, ◌++◌, ◌||◌}
use Rattle.sre_turns.specs.Terms.{Word, skip, HasTest, Test, Marks, Subject, passes, TestStands, Way, at_number}
use Rattle.sre_turns.specs.Terms.{SreAtCode, set_mark, holds_at, SreOpcode, Tree, Fold, refers, asked_from, asked_to}
use Rattle.sre_turns.specs.Terms.{Role, role, group, same_folded, word, Opcode, WholeItems, Order, unlimited}
use Rattle.sre_turns.specs.Terms.{may_repeat, Greedy, Lazy, here, GreedyRun, LazyRun, PossessiveRun, RunKind}
use Rattle.sre_turns.specs.Terms.{run_length, longest_run}
use Rattle.sre_model.specs.Roles.{ToRefer, ToCheckGroup, ToFail, ToEnd, ToTest, ToCheckPosition, ToMark, ToBranch}
use Rattle.sre_model.specs.Roles.{ToJump, ToRun, ToRepeat, ToLoop, ToRepeatPossessively, ToGroupAtomically, ToLook}
use Rattle.sre_model.specs.Roles.{ToNothing}
use Rattle.sre_model.specs.Grammar.{reference_opcode}
use Rattle.sre_turns.specs.declared.Frame.{Frame}
use Rattle.sre_turns.specs.declared.Region.TheVariants.{AtomicGroup, Ahead, NotAhead, Owed, Further}
use Rattle.sre_turns.specs.declared.Region.{Region}
use Rattle.sre_turns.specs.declared.Point.TheVariants.{Instruction, Alternatives, Again, Shorter, Longer, Inside, Tried}
use Rattle.sre_turns.specs.declared.Point.TheVariants.{TriedAgain}
use Rattle.sre_turns.specs.declared.Point.{Point}
use Rattle.sre_model.specs.Tree.{Sign, Positive, Negative}

-- What follows the opcode of a single-character repeat

-- skip least greatest test: the skip leads to the run's tail, and a test stands there
pub record OperandsOfRun (ws : List ℕ) (i tail low high : ℕ) : Type 0 where
  pub leads : tail ≡ skip ws (i + 1)
  pub lowest : Word ws (i + 2) low
  pub highest : Word ws (i + 3) high
  pub test : HasTest ws (i + 4)

-- where the machine stands: a point, the loops in progress, a position and marks
pub record Spot : Type 0 where
  pub point : Point
  pub frames : List Frame
  pub position : ℕ
  pub marks : Marks

abbrev pub spot_at : Point → List Frame → ℕ → Marks → Spot
spot_at pt fs p m = record { point = pt; frames = fs; position = p; marks = m }

-- a turn: nothing comes of the spot; its region ends there; it comes to another spot; to one, and then to another; or
-- to a region that is entered at a spot, and whose body begins at another
pub data Move : Type 0 where
  Stop : Move
  End : Move
  Go : Spot → Move
  Split : Spot → Spot → Move
  Enter : Region → Spot → Spot → Move

-- another point, all else alike
abbrev pub to_point : Spot → Point → Spot
to_point x pt = record x { point = pt }

-- another point and position
abbrev pub to_place : Spot → Point → ℕ → Spot
to_place x pt p = record x { point = pt; position = p }

-- where a region's body begins: the loops in progress are put aside until the region ends
abbrev pub into_region : Spot → ℕ → ℕ → Spot
into_region x i p = spot_at (Instruction i) [] p x.marks

-- what comes of a region that was entered at a spot, where its body has these outcomes
abbrev pub closing_move : Region → Spot → List Way → Move
closing_move (AtomicGroup t) x [] = Stop
closing_move (AtomicGroup t) x (w ∷ ws) = Go (record x { point = Instruction t; position = w.stop; marks = w.marks })
closing_move (Ahead t) x [] = Stop
closing_move (Ahead t) x (w ∷ ws) = Go (record x { point = Instruction t; marks = w.marks })
closing_move (NotAhead t) x [] = Go (to_point x (Instruction t))
closing_move (NotAhead t) x (w ∷ ws) = Stop
closing_move Owed x [] = Stop
closing_move Owed x (w ∷ ws) = Go (record x { point = Again; position = w.stop; marks = w.marks })
closing_move (Further t) x [] = Go (record x { point = Instruction t; frames = drop 1 x.frames })
closing_move (Further t) x (w ∷ ws) = Go (record x { point = Again; position = w.stop; marks = w.marks })

-- a test of one character
pub record TestMove (ws : List ℕ) (s : Subject) (i : ℕ) (x : Spot) (mv : Move) : Type 0 where
  pub end : ℕ
  pub test : Test
  pub stands : TestStands ws i end test
  pub is : mv ≡ cond (passes s test x.position) (Go (to_place x (Instruction end) (x.position + 1))) Stop

-- AT code
pub record AtMove (ws : List ℕ) (s : Subject) (i : ℕ) (x : Spot) (mv : Move) : Type 0 where
  pub code : SreAtCode
  pub there : Word ws (i + 1) (at_number code)
  pub is : mv ≡ cond (holds_at s code x.position) (Go (to_point x (Instruction (i + 2)))) Stop

-- MARK n
pub record MarkMove (ws : List ℕ) (i : ℕ) (x : Spot) (mv : Move) : Type 0 where
  pub number : ℕ
  pub there : Word ws (i + 1) number
  pub is : mv ≡ Go (record x { point = Instruction (i + 2); marks = set_mark x.marks number x.position })

-- JUMP skip
pub record JumpMove (ws : List ℕ) (i : ℕ) (x : Spot) (mv : Move) : Type 0 where
  pub there : i + 1 < length ws
  pub is : mv ≡ Go (to_point x (Instruction (skip ws (i + 1))))

-- the alternatives of a BRANCH from the length word at q on
pub record AlternativesMove (ws : List ℕ) (q : ℕ) (x : Spot) (mv : Move) : Type 0 where
  pub value : ℕ
  pub there : Word ws q value
  pub is : mv
      ≡ cond (nat_eq value 0) Stop (Split (to_point x (Instruction (q + 1))) (to_point x (Alternatives (q + value))))

-- A back-reference to a group: GROUPREF group and its three foldings; a conditional: GROUPREF_EXISTS group skip

-- a reference or a condition is in the words, whatever tree they have
abbrev pub HasReference : List ℕ → Type 0
HasReference ws = (t : Tree) → WholeItems ws t → refers t ≡ true

-- there is a reference or a condition, and this group is one of those from the first that is asked for up to the last
abbrev pub MayAsk : List ℕ → ℕ → Type 0
MayAsk ws g = HasReference ws × ((t : Tree) → WholeItems ws t → (asked_from t ≤ g) × (g ≤ asked_to t))

-- whether an opcode of this role asks for a group
abbrev pub asks : Role → Bool
asks ToRefer = true
asks ToCheckGroup = true
asks _ = false

-- a group stands behind an opcode that asks for one
pub record Named (ws : List ℕ) (g : ℕ) : Type 0 where
  pub place : ℕ
  pub opcode : SreOpcode
  pub code : Opcode ws place opcode
  pub asks : asks (role opcode) ≡ true
  pub there : Word ws (place + 1) g

-- the words may ask for a group, which stands behind such an opcode
abbrev pub Asks : List ℕ → ℕ → Type 0
Asks ws g = MayAsk ws g × Named ws g

-- what comes of a reference whose tail is at t: nothing of a group that is missing
abbrev pub reference_turn : Subject → Fold → ℕ → ℕ → Spot → Move
reference_turn s fold g t x = elim (group x.marks g) [
  | None ↦ Stop
  | (Some span) ↦
      cond (nat_le (x.position + (span.1 - span.0)) s.end && same_folded s fold (span.1 - span.0) span.0 x.position)
      (Go (to_place x (Instruction t) (x.position + (span.1 - span.0)))) Stop
]

-- GROUPREF, GROUPREF_IGNORE, GROUPREF_LOC_IGNORE or GROUPREF_UNI_IGNORE
pub record ReferenceMove (ws : List ℕ) (s : Subject) (i : ℕ) (x : Spot) (mv : Move) : Type 0 where
  pub fold : Fold
  pub number : ℕ
  pub asked : Asks ws number
  pub code : Opcode ws i (reference_opcode fold)
  pub there : Word ws (i + 1) number
  pub is : mv ≡ reference_turn s fold number (i + 2) x

-- where a condition at i leads: to its yes part where the group is present, else to where its skip word leads
abbrev pub condition_place : List ℕ → ℕ → ℕ → Marks → ℕ
condition_place ws i g m = elim (group m g) [ None ↦ i + 1 + word ws (i + 2) | (Some _) ↦ i + 3 ]

-- GROUPREF_EXISTS
pub record ConditionMove (ws : List ℕ) (i : ℕ) (x : Spot) (mv : Move) : Type 0 where
  pub number : ℕ
  pub asked : Asks ws number
  pub there : Word ws (i + 1) number
  pub skips : i + 2 < length ws
  pub is : mv ≡ Go (to_point x (Instruction (condition_place ws i number x.marks)))

-- A loop: REPEAT skip least greatest body, and then MAX_UNTIL or MIN_UNTIL; and POSSESSIVE_REPEAT skip least greatest
-- body SUCCESS, whose bodies are atomic scopes

-- a loop that has had no body
abbrev pub first_frame : ℕ → Frame
first_frame i = record { repeat = i; count = 0; last = None }

-- one body more, as far as is counted
abbrev pub next_frame : Frame → Option ℕ → Frame
next_frame f last = record { repeat = f.repeat; count = min (f.count + 1) unlimited; last = last }

-- at a further body of a loop
abbrev pub at_body : Frame → Option ℕ → List Frame → Spot → Spot
at_body f last outer x = record x { point = Instruction (f.repeat + 4); frames = next_frame f last ∷ outer }

-- behind the loop that ends at u
abbrev pub behind : ℕ → List Frame → Spot → Spot
behind u outer x = record x { point = Instruction (u + 1); frames = outer }

-- a further body, or the loop's end, in order
abbrev pub in_order : Order → Spot → Spot → Move
in_order Greedy body end = Split body end
in_order Lazy body end = Split end body

-- REPEAT
pub record RepeatMove (ws : List ℕ) (i : ℕ) (x : Spot) (mv : Move) : Type 0 where
  pub there : i + 1 < length ws
  pub is : mv ≡ Go (record x { point = Instruction (skip ws (i + 1)); frames = first_frame i ∷ x.frames })

-- what ends a body: below the least count a further one; from it on a further one where one may be tried, and the end
abbrev pub until_move : Order → ℕ → ℕ → ℕ → Frame → List Frame → Spot → Move
until_move o low high u f outer x =
    cond (nat_lt f.count low) (Go (at_body f f.last outer x))
    (cond (may_repeat high f.count f.last x.position)
    (in_order o (at_body f (Some x.position) outer x) (behind u outer x)) (Go (behind u outer x)))

-- a turn of the innermost loop, by its counts
pub record LoopMove (ws : List ℕ) (turn : ℕ → ℕ → Frame → List Frame → Move) (x : Spot) (mv : Move) : Type 0 where
  pub frame : Frame
  pub outer : List Frame
  pub low : ℕ
  pub high : ℕ
  pub inside : x.frames ≡ frame ∷ outer
  pub lowest : Word ws (frame.repeat + 2) low
  pub highest : Word ws (frame.repeat + 3) high
  pub is : mv ≡ turn low high frame outer

-- MAX_UNTIL, MIN_UNTIL
abbrev pub UntilMove : List ℕ → Order → ℕ → Spot → Move → Type 0
UntilMove ws o u x mv = LoopMove ws (λ low high f outer. until_move o low high u f outer x) x mv

-- a body of a possessive loop is entered, and counted before the loops are put aside
abbrev pub enter_body : Region → Frame → Option ℕ → List Frame → Spot → Move
enter_body g f last outer x =
    Enter g (record x { frames = next_frame f last ∷ outer }) (into_region x (f.repeat + 4) x.position)

-- below the least count a body is owed; from it on a further one is tried where one may be, and else the loop ends
abbrev pub again_move : ℕ → ℕ → ℕ → Frame → List Frame → Spot → Move
again_move low high u f outer x =
    cond (nat_lt f.count low) (enter_body Owed f f.last outer x)
    (cond (may_repeat high f.count f.last x.position) (enter_body (Further (u + 1)) f (Some x.position) outer x)
    (Go (behind u outer x)))

-- at a possessive loop
abbrev pub AgainMove : List ℕ → Spot → Move → Type 0
AgainMove ws x mv = LoopMove ws (λ low high f outer. again_move low high (skip ws (f.repeat + 1)) f outer x) x mv

-- What the machine does in one step at a single-character repeat.

-- the operands of a run at i: skip least greatest test SUCCESS
pub record RunOperands (ws : List ℕ) (i low high end : ℕ) (test : Test) : Type 0 where
  pub lowest : Word ws (i + 2) low
  pub highest : Word ws (i + 3) high
  pub stands : TestStands ws (i + 4) end test

-- what comes of a possessive run at i without a greatest count, whose tail is at t: what comes of the same run one
-- character later, as long as more than the least count passes
abbrev pub onward_turn : Subject → ℕ → ℕ → ℕ → Test → Spot → Move
onward_turn s i t low test x =
    cond (nat_lt (run_length s test low x.position) low) Stop
    (cond (passes s test (x.position + low)) (Go (to_place x (Instruction i) (x.position + 1)))
    (Go (to_place x (Instruction t) (x.position + low))))

-- what comes of a run at i whose tail is at t: the longest run, and then the shorter ones; the least count,
-- and then the longer ones; or the longest run alone
abbrev pub run_turn : RunKind → Subject → ℕ → ℕ → ℕ → ℕ → Test → Spot → Move
run_turn GreedyRun s i t low high test x =
    let k = longest_run s test high x.position in
    cond (nat_lt k low) Stop
    (Split (to_place x (Instruction t) (x.position + k)) (to_place x (Shorter t (k - low)) (x.position + k)))
run_turn LazyRun s i t low high test x =
    cond (nat_lt (run_length s test low x.position) low) Stop
    (Split (to_place x (Instruction t) (x.position + low)) (to_place x (Longer i low) (x.position + low)))
run_turn PossessiveRun s i t low high test x =
    let k = longest_run s test high x.position in
    cond (nat_eq high unlimited) (onward_turn s i t low test x)
    (cond (nat_lt k low) Stop (Go (to_place x (Instruction t) (x.position + k))))

-- REPEAT_ONE, MIN_REPEAT_ONE or POSSESSIVE_REPEAT_ONE
pub record RunMove (ws : List ℕ) (s : Subject) (kind : RunKind) (i : ℕ) (x : Spot) (mv : Move) : Type 0 where
  pub low : ℕ
  pub high : ℕ
  pub end : ℕ
  pub test : Test
  pub operands : RunOperands ws i low high end test
  pub is : mv ≡ run_turn kind s i (skip ws (i + 1)) low high test x

-- the shorter counts of a run, so many of them
pub record ShorterMove (t k : ℕ) (x : Spot) (mv : Move) : Type 0 where
  pub past : k ≤ x.position
  pub is : mv ≡ cond (nat_eq k 0) Stop
      (Split (to_place x (Instruction t) (x.position - 1)) (to_place x (Shorter t (k - 1)) (x.position - 1)))

-- the longer counts of the run at i, behind n characters of it: one test more
pub record LongerMove (ws : List ℕ) (s : Subject) (i n : ℕ) (x : Spot) (mv : Move) : Type 0 where
  pub low : ℕ
  pub high : ℕ
  pub end : ℕ
  pub test : Test
  pub operands : RunOperands ws i low high end test
  pub past : n ≤ x.position
  pub is : mv ≡ cond ((nat_eq high unlimited || nat_lt n high) && passes s test x.position)
      (Split (to_place x (Instruction (skip ws (i + 1))) (x.position + 1))
      (to_place x (Longer i (n + 1)) (x.position + 1))) Stop

-- What the machine does in one step at an atomic scope: ATOMIC_GROUP skip body SUCCESS, and the lookarounds.

-- ATOMIC_GROUP
pub record AtomicMove (ws : List ℕ) (i : ℕ) (x : Spot) (mv : Move) : Type 0 where
  pub there : i + 1 < length ws
  pub is : mv ≡ Enter (AtomicGroup (skip ws (i + 1))) x (into_region x (i + 2) x.position)

-- a look, by where one goes on behind it
abbrev pub look : Sign → ℕ → Region
look Positive t = Ahead t
look Negative t = NotAhead t

-- ASSERT, ASSERT_NOT: where fewer characters stand before, it is as if its body had no outcome
pub record LookMove (ws : List ℕ) (sign : Sign) (i : ℕ) (x : Spot) (mv : Move) : Type 0 where
  pub back : ℕ
  pub there : Word ws (i + 2) back
  pub is : mv ≡
      let g = look sign (skip ws (i + 1)) in
      cond (nat_lt x.position back) (closing_move g x []) (Enter g x (into_region x (i + 3) (x.position - back)))

-- what a turn does at an instruction whose opcode has this role
abbrev pub InRole : List ℕ → Subject → Role → ℕ → Spot → Move → Type 0
InRole ws s ToFail i x mv = mv ≡ Stop
InRole ws s ToEnd i x mv = mv ≡ End
InRole ws s (ToTest kind) i x mv = TestMove ws s i x mv
InRole ws s ToCheckPosition i x mv = AtMove ws s i x mv
InRole ws s ToMark i x mv = MarkMove ws i x mv
InRole ws s ToBranch i x mv = mv ≡ Go (to_point x (Alternatives (i + 1)))
InRole ws s ToJump i x mv = JumpMove ws i x mv
InRole ws s (ToRun kind) i x mv = RunMove ws s kind i x mv
InRole ws s ToRepeat i x mv = RepeatMove ws i x mv
InRole ws s (ToLoop o) i x mv = UntilMove ws o i x mv
InRole ws s ToRepeatPossessively i x mv = mv ≡ Go (record x { point = Again; frames = first_frame i ∷ x.frames })
InRole ws s ToGroupAtomically i x mv = AtomicMove ws i x mv
InRole ws s (ToLook sign) i x mv = LookMove ws sign i x mv
InRole ws s ToRefer i x mv = ReferenceMove ws s i x mv
InRole ws s ToCheckGroup i x mv = ConditionMove ws i x mv
InRole ws s ToNothing i x mv = ⊥

-- what a turn does at a point
abbrev pub MovesAt : List ℕ → Subject → Point → Spot → Move → Type 0
MovesAt ws s (Instruction i) x mv = (o : SreOpcode) × Opcode ws i o × InRole ws s (role o) i x mv
MovesAt ws s (Alternatives q) x mv = AlternativesMove ws q x mv
MovesAt ws s (Shorter t k) x mv = ShorterMove t k x mv
MovesAt ws s (Longer i n) x mv = LongerMove ws s i n x mv
MovesAt ws s (Inside g) x mv = ⊥
MovesAt ws s Again x mv = AgainMove ws x mv
MovesAt ws s (Tried i) x mv = ⊥
MovesAt ws s TriedAgain x mv = ⊥

abbrev pub Moves : List ℕ → Subject → Spot → Move → Type 0
Moves ws s x mv = MovesAt ws s x.point x mv
