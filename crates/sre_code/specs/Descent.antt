-- The descent of the check into the bytecode, with a stack of open parts.
-- Definitions for the check's contracts; what sre_engine makes public does not rest on it.
use Rattle.std.specs.Prelude.{ℕ, ◌+◌, ◌-◌, ◌*◌, ◌≡◌, ◌≢◌, ◌<◌, ◌≤◌, List, length, Result, Ok, Err, [], ◌∷◌, ◌++◌}
use Rattle.std.specs.Prelude.{reverse}
use Rattle.sre_code.specs.Terms.{Tree, Opcode, Reads, capped, width, Refused}
use Rattle.sre_chars.specs.declared.constants.SreOpcode.TheVariants as opcode
use Rattle.sre_code.specs.Refusals.{place_of}
use Rattle.sre_code.specs.Steps.{Finishes}
use Rattle.sre_code.specs.declared.code.error.CodeError.{CodeError}
use Rattle.sre_code.specs.declared.code.error.CodeError.TheVariants.{Memory}
use Rattle.sre_code.specs.declared.code.step.Open.{Open}
use Rattle.sre_code.specs.declared.code.step.Reached.{Reached}
use Rattle.sre_code.specs.declared.code.step.Part.{Part}
use Rattle.sre_code.specs.declared.code.step.Step.{Step}
use Rattle.sre_code.specs.declared.code.step.Step.TheVariants.{Past, Opens}

-- a part that begins
abbrev pub opened : Part → Open
opened part = record { part = part; width = 0 }

-- the words from i on complete the open parts, the innermost first, and the outermost then has width W;
-- d is the width of the item that ends at i
abbrev pub Rest : List ℕ → ℕ → ℕ → List Open → ℕ → Type 0
Rest ws i d [] W = W ≡ d
Rest ws i d (top ∷ below) W =
    (j : ℕ) × (w : ℕ) × Finishes ws top.part (capped (top.width + d)) i j w × Rest ws j w below W

-- the same, with the innermost part last, as the stack keeps them
abbrev pub StackRest : List ℕ → ℕ → ℕ → List Open → ℕ → Type 0
StackRest ws i d parts W = Rest ws i d (reverse parts) W

-- the same, after a step
abbrev pub After : List ℕ → Step → List Open → ℕ → Type 0
After ws (Past p v) parts W = Rest ws p v parts W
After ws (Opens part p) parts W = Rest ws p 0 (opened part ∷ parts) W

-- two things are the case for the same widths
pub record Same (A B : ℕ → Type 0) : Type 0 where
  pub to : (W : ℕ) → A W → B W
  pub from : (W : ℕ) → B W → A W

-- for no width
pub record Never (A : ℕ → Type 0) : Type 0 where
  pub none : (W : ℕ) → A W → ⊥

-- what is left to do, as a number that falls
abbrev pub work : List ℕ → ℕ → List Open → ℕ
work ws i parts = 2 * (length ws - i) + length parts

-- an allocation by an M failed, or nothing is as A says
pub record Fails (M : Type 0) (ws : List ℕ) (A : ℕ → Type 0) (e : CodeError) : Type 0 where
  pub never : e ≢ Memory → Never A
  pub grows : e ≡ Memory → Refused M
  pub within : place_of e ≤ length ws

-- what a step opens is on the stack
abbrev pub Stacks : Step → List Open → List Open → Reached → Type 0
Stacks (Past p v) old new r = (r.place ≡ p) × (r.width ≡ v) × (new ≡ old)
Stacks (Opens part p) old new r = (r.place ≡ p) × (r.width ≡ 0) × (new ≡ old ++ opened part ∷ [])

abbrev pub Pushes : Type 0 → Step → List Open → List Open → Result Reached CodeError → Type 0
Pushes M s old new (Ok r) = Stacks s old new r
Pushes M s old new (Err e) = (e ≡ Memory) × Refused M

-- after a step, in which the top was the innermost part over the old ones, what is left is the same, and the work less
abbrev pub StepsOn : List ℕ → Reached → Open → List Open → List Open → Reached → Type 0
StepsOn ws r top old new q =
    Same (Rest ws r.place r.width (top ∷ reverse old)) (StackRest ws q.place q.width new)
    × (work ws q.place new < work ws r.place old + 1)

abbrev pub ReadsOn : Type 0 → List ℕ → Reached → Open → List Open → List Open → Result Reached CodeError → Type 0
ReadsOn M ws r top old new (Ok q) = StepsOn ws r top old new q
ReadsOn M ws r top old new (Err e) = Fails M ws (Rest ws r.place r.width (top ∷ reverse old)) e

-- the words from start on are the items of a tree of width W, and SUCCESS as the last word
abbrev pub WholeFrom : List ℕ → ℕ → ℕ → Type 0
WholeFrom ws start W =
    ((t : Tree) × Reads ws start (length ws - 1) t × (W ≡ width t)) × Opcode ws (length ws - 1) opcode.SUCCESS

pub record HasWhole (ws : List ℕ) (start W : ℕ) : Type 0 where
  pub body : WholeFrom ws start W

-- the least width of the tree, or that there is none
abbrev pub Descends : Type 0 → List ℕ → ℕ → Result ℕ CodeError → Type 0
Descends M ws start (Ok W) = HasWhole ws start W
Descends M ws start (Err e) = Fails M ws (WholeFrom ws start) e
