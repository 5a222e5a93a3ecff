-- What an export says of a step bound.
-- Public clauses rest on it.
use Rattle.std.specs.Prelude.{ℕ, ◌≡◌, length}
use Rattle.sre_c.specs.Terms.{Global, Tree, Whole, IsCode, behind_block, Refused, IsStepBound, HasNoStepBound, Status}
use Rattle.sre_c.specs.Terms.{No, Yes, StepLimit, Memory, NoCode, NoRoom, NotUtf8, FaultyTable}
use Rattle.sre_c.specs.declared.code.SreCode.{SreCode}
use Rattle.sre_c.specs.Checked.{IsFaulty}

-- the step bound of a code for texts of so many characters, or 0
abbrev pub Bounds : Status → SreCode → ℕ → ℕ → Type 0
Bounds Yes c characters steps =
    IsCode c.words.now
    × ((t : Tree) → Whole c.words.now t → IsStepBound (length (behind_block c.words.now)) t characters steps)
Bounds No c characters steps =
    IsCode c.words.now
    × ((t : Tree) → Whole c.words.now t → HasNoStepBound (length (behind_block c.words.now)) t characters)
    × (steps ≡ 0)
Bounds Memory c characters steps = Refused Global × (steps ≡ 0)
Bounds NoCode c characters steps = ((t : Tree) → (Whole c.words.now t → ⊥)) × (steps ≡ 0)
Bounds FaultyTable c characters steps = IsFaulty c.table.now × (steps ≡ 0)
Bounds StepLimit c characters steps = ⊥
Bounds NoRoom c characters steps = ⊥
Bounds NotUtf8 c characters steps = ⊥
