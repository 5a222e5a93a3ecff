-- Where the machine is in the bytecode of a tree, in which loops, and where its steps lead to.
-- Definitions for the machine's contracts; what sre_engine makes public does not rest on it.
use Rattle.std.specs.Prelude.{ℕ, ◌+◌, ◌-◌, ◌≡◌, ◌⊎◌, List, [], ◌∷◌, map, ⊤, ◌≤◌, length, drop, Option, Some, None, ◌*◌}
use Rattle.std.specs.Prelude.{Bool, true, false}
use Rattle.sre_model.specs.Tree.{Tree, Empty, Then, Item, Fail, One, At, Mark, Branch, Loop, Run, PossessiveLoop}
use Rattle.sre_model.specs.Tree.{Atomic, Look, Reference, Exists, ExistsElse, Trees, Only, Or}
use Rattle.sre_model.specs.Grammar.{word, skip, Reads, Operands, ReadsBranch}
use Rattle.sre_turns.specs.declared.Frame.{Frame}
use Rattle.sre_turns.specs.declared.Point.TheVariants.{Instruction, Alternatives, Shorter, Longer, Again}
use Rattle.sre_turns.specs.declared.Point.{Point}
use Rattle.sre_turns.specs.Terms.{AllByRecursion, Subject, WholeItems}
use Rattle.sre_turns.specs.declared.Region.TheVariants.{AtomicGroup, Ahead, NotAhead, Owed, Further}
use Rattle.sre_turns.specs.declared.Region.{Region}
use Rattle.sre_turns.specs.Moves.{Spot, Move, Stop, End, Go, Split, Enter}
use Rattle.sre_turns.specs.Alike.{least_from}
pub use Rattle.sre_model.specs.Slots.{loop_slots, most_slots, by_slots}

-- the places of the loops in progress, innermost first
abbrev pub repeats : List Frame → List ℕ
repeats fs = map (λ (f : Frame). f.repeat) fs

-- a point and its loops are these
abbrev pub IsAt : Point → List ℕ → Point → List ℕ → Type 0
IsAt at js pt ks = (pt ≡ at) × (ks ≡ js)

abbrev mutual
  -- a point lies in the words of a tree, or at their end, under the loops ks, where the tree stands under js
  pub LiesIn : (ws : List ℕ) (i j : ℕ) (t : Tree) → Reads ws i j t → List ℕ → Point → List ℕ → Type 0
  LiesIn ws i j Empty r js pt ks = IsAt (Instruction j) js pt ks
  LiesIn ws i j (Then x rest) r js pt ks =
      IsAt (Instruction i) js pt ks ⊎ (LiesInItem ws i r.0 x r.1.1 js pt ks ⊎ LiesIn ws r.0 j rest r.2 js pt ks)

  -- the same behind the opcode of an item; a body of a region stands under no loops
  pub LiesInItem : (ws : List ℕ) (i j : ℕ) (x : Item) → Operands ws i j x → List ℕ → Point → List ℕ → Type 0
  LiesInItem ws i j Fail r js pt ks = ⊥
  LiesInItem ws i j (One t) r js pt ks = ⊥
  LiesInItem ws i j (At a) r js pt ks = ⊥
  LiesInItem ws i j (Mark n) r js pt ks = ⊥
  LiesInItem ws i j (Branch ts) r js pt ks = LiesInBranch ws (i + 1) j ts r js pt ks
  LiesInItem ws i j (Loop o low high body) r js pt ks =
      LiesIn ws (i + 4) (skip ws (i + 1)) body r.3 (i ∷ js) pt ks
  LiesInItem ws i j (Run kind low high t) r js pt ks =
      ((k : ℕ) × IsAt (Shorter j k) js pt ks) ⊎ ((n : ℕ) × IsAt (Longer i n) js pt ks)
  LiesInItem ws i j (PossessiveLoop low high body) r js pt ks =
      IsAt Again (i ∷ js) pt ks ⊎ LiesIn ws (i + 4) (skip ws (i + 1)) body r.3 [] pt ks
  LiesInItem ws i j (Atomic body) r js pt ks = LiesIn ws (i + 2) (j - 1) body r.1 [] pt ks
  LiesInItem ws i j (Look sign back body) r js pt ks = LiesIn ws (i + 3) (j - 1) body r.2 [] pt ks
  LiesInItem ws i j (Reference fold g) r js pt ks = ⊥
  LiesInItem ws i j (Exists g there) r js pt ks = LiesIn ws (i + 3) j there r.2 js pt ks
  LiesInItem ws i j (ExistsElse g there absent) r js pt ks =
      LiesIn ws (i + 3) (i + 1 + word ws (i + 2) - 2) there r.1 js pt ks
      ⊎ LiesIn ws (i + 1 + word ws (i + 2)) j absent r.3 js pt ks

  -- the same of alternatives
  pub LiesInBranch : (ws : List ℕ) (q j : ℕ) (ts : Trees) → ReadsBranch ws q j ts → List ℕ → Point → List ℕ → Type 0
  LiesInBranch ws q j (Only t) r js pt ks =
      IsAt (Alternatives q) js pt ks
      ⊎ (LiesIn ws (q + 1) (skip ws q - 2) t r.0 js pt ks ⊎ IsAt (Alternatives (skip ws q)) js pt ks)
  LiesInBranch ws q j (Or t ts) r js pt ks =
      IsAt (Alternatives q) js pt ks
      ⊎ (LiesIn ws (q + 1) (skip ws q - 2) t r.0 js pt ks ⊎ LiesInBranch ws (skip ws q) j ts r.2 js pt ks)

-- the place of what may be tried, under loops: an instruction has its own, and a possessive loop that of its first
-- operand, where no instruction is
abbrev pub place_under : Point → List ℕ → Option ℕ
place_under (Instruction i) ks = Some i
place_under Again (q ∷ qs) = Some (q + 1)
place_under pt ks = None

abbrev pub place_of : Spot → Option ℕ
place_of x = place_under x.point (repeats x.frames)

-- whether a point is that of a possessive loop
abbrev pub is_again : Point → Bool
is_again Again = true
is_again pt = false

-- a spot lies in the words of a tree: its point and its loops do
abbrev pub Lies : (ws : List ℕ) (t : Tree) → WholeItems ws t → Spot → Type 0
Lies ws t w x = LiesIn ws 0 (length ws - 1) t w.0 [] x.point (repeats x.frames)

-- a point at which one goes on when a region closes is of some kind, under the loops under which it was entered; a
-- possessive loop is left where a further body has no outcome
abbrev pub ClosesAt : (Point → List ℕ → Type 0) → Region → List Frame → Type 0
ClosesAt P (AtomicGroup t) fs = P (Instruction t) (repeats fs)
ClosesAt P (Ahead t) fs = P (Instruction t) (repeats fs)
ClosesAt P (NotAhead t) fs = P (Instruction t) (repeats fs)
ClosesAt P Owed fs = P Again (repeats fs)
ClosesAt P (Further t) fs = P Again (repeats fs) × P (Instruction t) (repeats (drop 1 fs))

-- each point to which a turn leads is of some kind, under the loops there, whatever comes of the body of a region
abbrev pub LeadsTo : (Point → List ℕ → Type 0) → Move → Type 0
LeadsTo P Stop = ⊤
LeadsTo P End = ⊤
LeadsTo P (Go y) = P y.point (repeats y.frames)
LeadsTo P (Split y z) = P y.point (repeats y.frames) × P z.point (repeats z.frames)
LeadsTo P (Enter g y z) = P z.point (repeats z.frames) × ClosesAt P g y.frames

-- the last body of a loop beyond its least count began at a position, or before it
abbrev pub BegunBy : Option ℕ → ℕ → Type 0
BegunBy None p = ⊤
BegunBy (Some last) p = last ≤ p

-- that of each loop in progress
abbrev pub AllBegunBy : ℕ → List Frame → Type 0
AllBegunBy p fs = AllByRecursion (λ (f : Frame). BegunBy f.last p) fs

-- a spot stands no earlier than the last bodies of its loops began, and never comes back before them
abbrev pub Passed : Spot → Type 0
Passed x = AllBegunBy (least_from x.point x.position) x.frames

-- a spot stands in the window
abbrev pub InWindow : Subject → Spot → Type 0
InWindow s x = x.position ≤ s.end

-- how many states of the loops at some places do
abbrev pub slots : List ℕ → List ℕ → ℕ
slots ws [] = 1
slots ws (q ∷ qs) = loop_slots (word ws (q + 2)) (word ws (q + 3)) * slots ws qs
