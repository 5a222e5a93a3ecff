-- Captures as far as a step depends on them: those that a back-reference or a conditional may read, and which may be
-- live at an address: read from there on, before they are set anew. Where none is, captures make no difference to the
-- outcomes of a configuration.
-- Definitions for the machine's contracts; what sre_engine makes public does not rest on it.
use Rattle.std.specs.Prelude.{⊤, ℕ, ◌+◌, ◌*◌, ◌≡◌, ◌⊎◌, List, [], ◌∷◌, ◌<◌, ◌≤◌, Bool, true, Some, slice_get}
use Rattle.sre_turns.specs.Terms.{Marks, no_marks, mark_at, Way, SreOpcode, Test, Word, Opcode, word, skip, Role, role}
use Rattle.sre_turns.specs.Terms.{TestStands, Subject, SameStops}
use Rattle.sre_model.specs.Roles.{ToFail, ToEnd, ToTest, ToCheckPosition, ToMark, ToBranch, ToJump, ToRun, ToRepeat}
use Rattle.sre_model.specs.Roles.{ToLoop, ToRepeatPossessively, ToGroupAtomically, ToLook, ToRefer, ToCheckGroup}
use Rattle.sre_model.specs.Roles.{ToNothing}
use Rattle.sre_turns.specs.Moves.{Asks, Spot, spot_at}
use Rattle.sre_turns.specs.Outcomes.{Runs}
use Rattle.sre_turns.specs.declared.Frame.{Frame}
use Rattle.sre_turns.specs.declared.Point.TheVariants.{Instruction, Alternatives, Shorter, Longer, Again}
use Rattle.sre_turns.specs.declared.Point.{Point}
use Rattle.sre_turns.specs.declared.Region.TheVariants.{AtomicGroup, Ahead, NotAhead, Owed, Further}
use Rattle.sre_turns.specs.declared.Region.{Region}
use Rattle.sre_turns.specs.Alike.{Alike}

-- some marks are the same in both
abbrev pub MarksAgree : (ℕ → Type 0) → Marks → Marks → Type 0
MarksAgree matters m n = (k : ℕ) → matters k → mark_at m k ≡ mark_at n k

-- a mark of a group that is asked for
pub record AskedMark (ws : List ℕ) (k : ℕ) : Type 0 where
  pub group : ℕ
  pub asked : Asks ws group
  pub of : (k ≡ 2 * group) ⊎ (k ≡ 2 * group + 1)

-- the marks of each group that is asked for are the same in both
abbrev pub MarksAlike : List ℕ → Marks → Marks → Type 0
MarksAlike ws m n = MarksAgree (AskedMark ws) m n

-- those of no such group are set
abbrev pub Unmarked : List ℕ → Marks → Type 0
Unmarked ws m = MarksAlike ws no_marks m

-- outcomes as many on both sides, each with the same stop, and with marks that are the same as far as they matter
abbrev pub OutcomesAlike : (ℕ → Type 0) → List Way → List Way → Type 0
OutcomesAlike matters [] [] = ⊤
OutcomesAlike matters [] (y ∷ ys) = ⊥
OutcomesAlike matters (x ∷ xs) [] = ⊥
OutcomesAlike matters (x ∷ xs) (y ∷ ys) =
    (x.stop ≡ y.stop) × MarksAgree matters x.marks y.marks × OutcomesAlike matters xs ys

-- the marks from one on, up to another
pub record MarkRange : Type 0 where
  pub from : ℕ
  pub end : ℕ

abbrev pub Lies : ℕ → MarkRange → Type 0
Lies k r = (r.from ≤ k) × (k < r.end)

-- all of a range lies in another
abbrev pub Within : MarkRange → MarkRange → Type 0
Within r s = (k : ℕ) → Lies k r → Lies k s

-- what is told of each place: which marks may be asked for from the instruction there on, and from the alternatives
-- whose length words begin there
pub record PlacesAsk : Type 0 where
  pub instruction : ℕ → MarkRange
  pub alternatives : ℕ → MarkRange

-- the marks of a group lie in a range, or matter in any case
pub record GroupLies (base : ℕ → Type 0) (r : MarkRange) (g : ℕ) : Type 0 where
  pub start : Lies (2 * g) r ⊎ base (2 * g)
  pub end : Lies (2 * g + 1) r ⊎ base (2 * g + 1)

-- a MARK sets its own anew
pub record MarkLeads (ws : List ℕ) (a : PlacesAsk) (own : MarkRange) (i : ℕ) : Type 0 where
  pub each : (v : ℕ) → Word ws (i + 1) v → (k : ℕ) → Lies k (a.instruction (i + 2)) → Lies k own ⊎ (k ≡ v)

-- a reference or a condition asks for its group
pub record GroupAsked (base : ℕ → Type 0) (ws : List ℕ) (own : MarkRange) (i : ℕ) : Type 0 where
  pub each : (g : ℕ) → Asks ws g → Word ws (i + 1) g → GroupLies base own g

-- a test is gone on from behind its words
pub record TestLeads (ws : List ℕ) (a : PlacesAsk) (own : MarkRange) (i : ℕ) : Type 0 where
  pub each : (j : ℕ) (t : Test) → TestStands ws i j t → Within (a.instruction j) own

-- what is asked from two places on lies in a range
abbrev pub BothLead : PlacesAsk → MarkRange → ℕ → ℕ → Type 0
BothLead a own i j = Within (a.instruction i) own × Within (a.instruction j) own

-- a range has what an instruction at i asks for itself, by its role, and what is asked where it goes on; a further body
-- of a loop is no such place, since each loop in progress counts for its own
abbrev pub AsksAt : (ℕ → Type 0) → List ℕ → PlacesAsk → MarkRange → Role → ℕ → Type 0
AsksAt base ws a own ToFail i = ⊤
AsksAt base ws a own ToEnd i = ⊤
AsksAt base ws a own (ToTest kind) i = TestLeads ws a own i
AsksAt base ws a own ToCheckPosition i = Within (a.instruction (i + 2)) own
AsksAt base ws a own ToMark i = MarkLeads ws a own i
AsksAt base ws a own ToBranch i = Within (a.alternatives (i + 1)) own
AsksAt base ws a own ToJump i = Within (a.instruction (skip ws (i + 1))) own
AsksAt base ws a own (ToRun kind) i = Within (a.instruction (skip ws (i + 1))) own
AsksAt base ws a own ToRepeat i = BothLead a own (skip ws (i + 1)) (i + 4)
AsksAt base ws a own (ToLoop o) i = Within (a.instruction (i + 1)) own
AsksAt base ws a own ToRepeatPossessively i = BothLead a own (skip ws (i + 1) + 1) (i + 4)
AsksAt base ws a own ToGroupAtomically i = BothLead a own (skip ws (i + 1)) (i + 2)
AsksAt base ws a own (ToLook sign) i = BothLead a own (skip ws (i + 1)) (i + 3)
AsksAt base ws a own ToRefer i = GroupAsked base ws own i × Within (a.instruction (i + 2)) own
AsksAt base ws a own ToCheckGroup i = GroupAsked base ws own i × BothLead a own (i + 1 + word ws (i + 2)) (i + 3)
AsksAt base ws a own ToNothing i = ⊤

-- the same of the alternatives from a length word at q on
pub record AlternativesAsk (ws : List ℕ) (a : PlacesAsk) (own : MarkRange) (q : ℕ) : Type 0 where
  pub first : 0 < word ws q → Within (a.instruction (q + 1)) own
  pub others : 0 < word ws q → Within (a.alternatives (skip ws q)) own

-- what is told of the places is so of each instruction, and of all alternatives, where some marks matter in any case
pub record AskedByPlace (base : ℕ → Type 0) (ws : List ℕ) (a : PlacesAsk) : Type 0 where
  pub instruction : (i : ℕ) (o : SreOpcode) → Opcode ws i o → AsksAt base ws a (a.instruction i) (role o) i
  pub alternatives : (q : ℕ) → AlternativesAsk ws a (a.alternatives q) q

-- a mark may be asked for from a point on, under loops in progress; behind a possessive loop where that ends
abbrev pub PointAsks : List ℕ → PlacesAsk → Point → List Frame → ℕ → Type 0
PointAsks ws a (Instruction i) fs k = Lies k (a.instruction i)
PointAsks ws a (Alternatives q) fs k = Lies k (a.alternatives q)
PointAsks ws a (Shorter t c) fs k = Lies k (a.instruction t)
PointAsks ws a (Longer i c) fs k = Lies k (a.instruction (skip ws (i + 1)))
PointAsks ws a Again (f ∷ fs) k = Lies k (a.instruction (skip ws (f.repeat + 1) + 1))
PointAsks ws a _ fs k = ⊥

-- or in a further body of one of the loops
abbrev pub LoopsAsk : PlacesAsk → List Frame → ℕ → Type 0
LoopsAsk a [] k = ⊥
LoopsAsk a (f ∷ fs) k = Lies k (a.instruction (f.repeat + 4)) ⊎ LoopsAsk a fs k

-- so marks that are set at such a point may make a difference there, besides some that do in any case
abbrev pub Matters : (ℕ → Type 0) → List ℕ → PlacesAsk → Point → List Frame → ℕ → Type 0
Matters base ws a pt fs k = base k ⊎ (PointAsks ws a pt fs k ⊎ LoopsAsk a fs k)

-- a mark may be asked for where a region is gone on behind, under the loops that are put aside
abbrev pub RegionAsks : List ℕ → PlacesAsk → Region → List Frame → ℕ → Type 0
RegionAsks ws a (AtomicGroup t) fs k = Lies k (a.instruction t)
RegionAsks ws a (Ahead t) fs k = Lies k (a.instruction t)
RegionAsks ws a (NotAhead t) fs k = Lies k (a.instruction t)
RegionAsks ws a Owed fs k = PointAsks ws a Again fs k
RegionAsks ws a (Further t) fs k = PointAsks ws a Again fs k ⊎ Lies k (a.instruction t)

-- so marks that are set where its body ends may make a difference
abbrev pub MattersBehind : (ℕ → Type 0) → List ℕ → PlacesAsk → Region → List Frame → ℕ → Type 0
MattersBehind base ws a g fs k = base k ⊎ (RegionAsks ws a g fs k ⊎ LoopsAsk a fs k)

-- no mark that is set at a spot makes a difference: what comes of it stops where it does of each spot that is alike
pub record MarksIdle (ws : List ℕ) (x : Spot) : Type 0 where
  pub onward : (s : Subject) (y : Spot) (os us : List Way) (n k : ℕ) → Alike ws x y → Runs ws s x os n
      → Runs ws s y us k → SameStops os us
  pub back : (s : Subject) (y : Spot) (os us : List Way) (n k : ℕ) → Alike ws y x → Runs ws s y os n
      → Runs ws s x us k → SameStops os us

-- a list of places says yes of a further body of each loop in progress; and of an instruction there, too
abbrev pub SaysOfBodies : List Bool → List Frame → Type 0
SaysOfBodies list [] = ⊤
SaysOfBodies list (f ∷ fs) = (slice_get list (f.repeat + 4) ≡ Some true) × SaysOfBodies list fs

abbrev pub SaysOf : List Bool → List Frame → ℕ → Type 0
SaysOf list fs i = (slice_get list i ≡ Some true) × SaysOfBodies list fs

-- where it says so, marks make no difference
pub record AreIdle (ws : List ℕ) (list : List Bool) : Type 0 where
  pub each : (i : ℕ) (fs : List Frame) (p : ℕ) (m : Marks) → SaysOf list fs i
      → MarksIdle ws (spot_at (Instruction i) fs p m)
