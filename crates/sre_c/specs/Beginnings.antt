-- What an export says of where a match may begin.
-- Public clauses rest on it.
use Rattle.std.specs.Prelude.{ℕ, ◌≡◌, ◌<◌, ◌||◌, nat_le, Bool, true, false, List, [], length, slice_index_or, Some}
use Rattle.std.specs.Prelude.{None}
use Rattle.sre_c.specs.Terms.{Global, Table, Tree, Whole, IsCode, Marks, Refused, holds, Test, Subject, after, ways}
use Rattle.sre_c.specs.Terms.{Status, No, Yes, StepLimit, Memory, NoCode, NoRoom, NotUtf8, FaultyTable}
use Rattle.sre_engine.specs.Beginnings.{BeginsAtLines, KnowsTest, KnowsLines, first_test, has_ascii}
use Rattle.sre_c.specs.declared.code.SreCode.{SreCode}
use Rattle.sre_c.specs.Checked.{IsFaulty}

-- each match path of a code begins with a character whose flag is true, or with one that has no flag
pub record BeginsAmong (ws : List ℕ) (flags : List Bool) : Type 0 where
  pub none :
      (t : Tree) → Whole ws t → (s : Subject) (p : ℕ)
      → after s (λ c. nat_le (length flags) c || slice_index_or flags c false) p ≡ false → (m : Marks)
      → ways s t p m ≡ []

-- the flags of ASCII characters are what the first test takes, if that is known
pub record KnowsFlags (ws : List ℕ) (flags : List Bool) : Type 0 where
  pub known :
      (t : Tree) → Whole ws t → (test : Test) → first_test t ≡ Some test → has_ascii test ≡ true → (table : Table)
      (c : ℕ) → c < 128 → c < length flags → slice_index_or flags c false ≡ holds table test c

-- whether each match path begins at the start of a line, if the first position code says so
abbrev pub ReportsLines : List ℕ → Bool → Type 0
ReportsLines ws lines = (lines ≡ true → BeginsAtLines ws) × KnowsLines ws lines

-- what a status implies: the flags, or that they are not known; and whether each begins at the start of a line
abbrev pub Begins : Status → SreCode → List Bool → Bool → Type 0
Begins Yes c flags lines =
    IsCode c.words.now × ReportsLines c.words.now lines × BeginsAmong c.words.now flags × KnowsFlags c.words.now flags
Begins No c flags lines = IsCode c.words.now × ReportsLines c.words.now lines × KnowsTest c.words.now None
Begins Memory c flags lines = Refused Global × (lines ≡ false)
Begins NoCode c flags lines = ((t : Tree) → (Whole c.words.now t → ⊥)) × (lines ≡ false)
Begins FaultyTable c flags lines = IsFaulty c.table.now × (lines ≡ false)
Begins StepLimit c flags lines = ⊥
Begins NoRoom c flags lines = ⊥
Begins NotUtf8 c flags lines = ⊥
