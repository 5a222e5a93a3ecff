-- Where a match may begin.
-- Of the public contracts: what callers know of a code's first characters rests on it.
use Rattle.std.specs.Prelude.{ℕ, ◌≡◌, ◌<◌, ◌||◌, nat_le, nat_lt, cond, Bool, true, false, List, [], Option, Some, None}
use Rattle.std.specs.Prelude.{IsSomeAnd}
use Rattle.sre_engine.specs.Terms.{Table, SreAtCode, BEGINNING_LINE, contains, AsciiSet, holds, Whole, Marks, Subject}
use Rattle.sre_engine.specs.Terms.{after, holds_at, Tree, Then, Test, Plain, ways, BEGINNING, BEGINNING_STRING, Locale}
use Rattle.sre_model.specs.Tree.{Run, One, At, Mark, Any, InCategory, Literal, NotLiteral}

-- each match path of a code begins with a character of a set, or with one past ASCII
pub record BeginsIn (ws : List ℕ) (set : AsciiSet) : Type 0 where
  pub none :
      (t : Tree) → Whole ws t → (s : Subject) (p : ℕ)
      → after s (λ c. nat_le 128 c || contains set c) p ≡ false → (m : Marks) → ways s t p m ≡ []

-- or at the start of a line
pub record BeginsAtLines (ws : List ℕ) : Type 0 where
  pub none :
      (t : Tree) → Whole ws t → (s : Subject) (p : ℕ) → holds_at s BEGINNING_LINE p ≡ false → (m : Marks)
      → ways s t p m ≡ []

-- What is known

-- the test of a tree's first item, behind marks and position codes; of a repeat, if its least count is at least 1
abbrev pub first_test : Tree → Option Test
first_test (Then (One test) rest) = Some test
first_test (Then (Run kind low high test) rest) = cond (nat_lt 0 low) (Some test) None
first_test (Then (Mark n) rest) = first_test rest
first_test (Then (At code) rest) = first_test rest
first_test t = None

-- whether the ASCII characters that a test takes are always known: not if the locale decides, nor those of a set
abbrev pub has_ascii : Test → Bool
has_ascii Any = true
has_ascii (InCategory category) = true
has_ascii (Literal Locale v) = false
has_ascii (Literal fold v) = true
has_ascii (NotLiteral Plain v) = true
has_ascii test = false

-- a set has the ASCII characters that a test takes, and no other ASCII ones
pub record IsAsciiOf (test : Test) (set : AsciiSet) : Type 0 where
  pub agrees : (table : Table) (c : ℕ) → c < 128 → contains set c ≡ holds table test c

-- those of the first test are known
pub record KnowsTest (ws : List ℕ) (ascii : Option AsciiSet) : Type 0 where
  pub known :
      (t : Tree) → Whole ws t → (test : Test) → first_test t ≡ Some test → has_ascii test ≡ true
      → IsSomeAnd ascii (λ set. IsAsciiOf test set)

-- the position code of a tree's first item, behind marks
abbrev pub first_code : Tree → Option SreAtCode
first_code (Then (At code) rest) = Some code
first_code (Then (Mark n) rest) = first_code rest
first_code t = None

-- whether a position code holds only at the start of a line
abbrev pub is_line_start : SreAtCode → Bool
is_line_start BEGINNING = true
is_line_start BEGINNING_LINE = true
is_line_start BEGINNING_STRING = true
is_line_start code = false

-- it is known if the first position code is one of these
pub record KnowsLines (ws : List ℕ) (at_line_start : Bool) : Type 0 where
  pub known :
      (t : Tree) → Whole ws t → (code : SreAtCode) → first_code t ≡ Some code → is_line_start code ≡ true
      → at_line_start ≡ true
