-- Bodies of atomic scopes: where one is, whether it sets a capture, and where it has one way to go on at most.
-- Definitions for the machine's contracts; what sre_engine makes public does not rest on it.
use Rattle.std.specs.Prelude.{ℕ, ◌≡◌, false, List, [], ◌+◌, ◌≤◌, Bool, true, ⊤, ◌∷◌}
use Rattle.sre_turns.specs.Terms.{Tree, Opcode, Reads, WholeItems, sets_mark, marks_in_regions, SreOpcode, Role, role}
use Rattle.sre_turns.specs.Terms.{Run, backs, forks, has_forked_region}
use Rattle.sre_model.specs.Roles.{ToBranch, ToRun, ToRepeat, ToLoop, ToRepeatPossessively}
use Rattle.sre_chars.specs.declared.constants.SreOpcode.TheVariants as opcode
use Rattle.sre_turns.specs.declared.Point.{Point}
use Rattle.sre_turns.specs.Moves.{Spot}
use Rattle.sre_turns.specs.Nested.{repeats, LiesIn, Lies, Passed, InWindow, ClosesAt}
use Rattle.sre_turns.specs.declared.Region.TheVariants.{AtomicGroup, Ahead, NotAhead, Owed, Further}
use Rattle.sre_turns.specs.declared.Region.{Region}
use Rattle.sre_turns.specs.declared.Point.TheVariants.{Instruction, Again}
use Rattle.sre_turns.specs.Alike.{least_from}
use Rattle.sre_turns.specs.Settled.{Counted}
use Rattle.sre_turns.specs.Board.{Choice, Else, Keep, Trying}
use Rattle.sre_turns.specs.Fruit.{is_inside}

-- the body of an atomic scope of some kind: its words, and the SUCCESS behind them
pub record BodyOf (ws : List ℕ) (P : Tree → Type 0) : Type 0 where
  pub start : ℕ
  pub end : ℕ
  pub tree : Tree
  pub reads : Reads ws start end tree
  pub ends : Opcode ws end opcode.SUCCESS
  pub is : P tree

-- one that sets no mark
abbrev pub MarklessBody : List ℕ → Type 0
MarklessBody ws = BodyOf ws (λ t. sets_mark t ≡ false)

-- a point lies in a body, under these loops of the body alone
abbrev pub LiesInBody : (ws : List ℕ) {P : Tree → Type 0} → BodyOf ws P → Point → List ℕ → Type 0
LiesInBody ws b pt ks = LiesIn ws b.start b.end b.tree b.reads [] pt ks

-- it lies in one that sets no mark
abbrev pub IsConfined : List ℕ → Point → List ℕ → Type 0
IsConfined ws pt ks = (b : MarklessBody ws) × LiesInBody ws b pt ks

-- a spot does
abbrev pub Confined : List ℕ → Spot → Type 0
Confined ws x = IsConfined ws x.point (repeats x.frames)

-- no region of the words sets a mark, whatever tree they have
pub record MarklessRegions (ws : List ℕ) : Type 0 where
  pub none : (t : Tree) → WholeItems ws t → marks_in_regions t ≡ false

-- whether the machine may have more than one way to go on at an instruction of this role, or go on more than once
abbrev pub forking : Role → Bool
forking ToBranch = true
forking (ToRun kind) = true
forking ToRepeat = true
forking (ToLoop o) = true
forking ToRepeatPossessively = true
forking _ = false

-- such an instruction is at an address
pub record ForksAt (ws : List ℕ) (i : ℕ) : Type 0 where
  pub code : SreOpcode
  pub there : Opcode ws i code
  pub forks : forking (role code) ≡ true

-- where one goes on behind an atomic scope: behind a body of a possessive loop at the loop
abbrev pub point_behind : Region → Point
point_behind (AtomicGroup t) = Instruction t
point_behind (Ahead t) = Instruction t
point_behind (NotAhead t) = Instruction t
point_behind Owed = Again
point_behind (Further t) = Again

-- whether an atomic scope is gone on from where its body ends
abbrev pub goes_behind : Region → Bool
goes_behind (AtomicGroup t) = true
goes_behind (Ahead t) = false
goes_behind (NotAhead t) = false
goes_behind Owed = true
goes_behind (Further t) = true

-- where a body forks an atomic scope of the whole does, and where an atomic scope of the body does
abbrev pub IsBodyIn : Tree → Tree → Type 0
IsBodyIn whole body =
    (forks body ≡ true → has_forked_region whole ≡ true)
    × (has_forked_region body ≡ true → has_forked_region whole ≡ true)

-- a configuration stands in the body of an atomic scope that was entered at a position. It is no further back than the
-- lookarounds of the whole may go from the start, and as much further on as those of the body may still go back
pub record InBody (r : Run) (pl : Counted r) (start : ℕ) (g : Region) (entered : ℕ) (x : Spot) : Type 0 where
  pub body : BodyOf r.words (IsBodyIn pl.tree)
  pub here : LiesInBody r.words body x.point (repeats x.frames)
  pub lies : Lies r.words pl.tree pl.whole x
  pub passed : Passed x
  pub inside : InWindow r.subject x
  pub from : start + backs body.tree ≤ least_from x.point x.position + backs pl.tree
  pub behind : goes_behind g ≡ true → entered ≤ least_from x.point x.position

-- inside a region a point lies in such a body
abbrev pub ConfinedInside : List ℕ → Bool → Point → List ℕ → Type 0
ConfinedInside ws inside pt ks = inside ≡ true → IsConfined ws pt ks

-- each choice does, and where a region closes inside another one, one goes on there
abbrev pub AllConfined : List ℕ → List Choice → Type 0
AllConfined ws [] = ⊤
AllConfined ws (Else pt fs c m ∷ cs) = ConfinedInside ws (is_inside cs) pt (repeats fs) × AllConfined ws cs
AllConfined ws (Keep g fs c m ∷ cs) = ClosesAt (ConfinedInside ws (is_inside cs)) g fs × AllConfined ws cs
AllConfined ws (Trying pt fs c m ∷ cs) = ConfinedInside ws (is_inside cs) pt (repeats fs) × AllConfined ws cs

-- the same as one fact
pub record ChoicesConfined (ws : List ℕ) (cs : List Choice) : Type 0 where
  pub each : AllConfined ws cs

-- and so does the spot where the machine stands
pub record StandsConfined (ws : List ℕ) (x : Spot) (cs : List Choice) : Type 0 where
  pub here : ConfinedInside ws (is_inside cs) x.point (repeats x.frames)
  pub others : ChoicesConfined ws cs

-- and two spots, of which the second waits
pub record BothConfined (ws : List ℕ) (x y : Spot) (cs : List Choice) : Type 0 where
  pub first : ConfinedInside ws (is_inside cs) x.point (repeats x.frames)
  pub second : ConfinedInside ws (is_inside cs) y.point (repeats y.frames)
  pub others : ChoicesConfined ws cs
