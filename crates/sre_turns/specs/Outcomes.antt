-- Outcomes of a configuration, up to the end of its atomic scope, by what the machine does step by step.
-- Definitions for the machine's contracts; what sre_engine makes public does not rest on it.
use Rattle.std.specs.Prelude.{ℕ, suc, ◌+◌, List, [], ◌++◌}
use Rattle.sre_turns.specs.Terms.{Subject, Way, here}
use Rattle.sre_turns.specs.declared.Region.{Region}
use Rattle.sre_turns.specs.Bodies.{Confined, MarklessRegions}
use Rattle.sre_turns.specs.Moves.{Spot, Move, Moves, Stop, End, Go, Split, Enter, closing_move}

mutual
  -- from a spot, the outcomes up to the end of its region in order, and how many turns they take
  pub data Runs (ws : List ℕ) (s : Subject) : Spot → List Way → ℕ → Type 0 where
    turns : {x : Spot} {os : List Way} {n : ℕ} (mv : Move) → Moves ws s x mv → Comes ws s x mv os n → Runs ws s x os n

  -- the same after a turn that is known; where no region of the words sets a mark, a region has a body that sets none
  pub data Comes (ws : List ℕ) (s : Subject) : Spot → Move → List Way → ℕ → Type 0 where
    stops : {x : Spot} → Comes ws s x Stop [] 1
    ends : {x : Spot} → Comes ws s x End (here x.position x.marks) 2
    goes : {x y : Spot} {os : List Way} {n : ℕ} → Runs ws s y os n → Comes ws s x (Go y) os (suc n)
    splits : {x y z : Spot} {os₁ os₂ : List Way} {n₁ n₂ : ℕ} → Runs ws s y os₁ n₁ → Runs ws s z os₂ n₂
        → Comes ws s x (Split y z) (os₁ ++ os₂) (suc (suc (n₁ + n₂)))
    enters : {x y z : Spot} {g : Region} {now os : List Way} {n₁ n₂ : ℕ} → (MarklessRegions ws → Confined ws z)
        → Runs ws s z now n₁
        → Comes ws s y (closing_move g y now) os n₂ → Comes ws s x (Enter g y z) os (suc (n₁ + n₂))
