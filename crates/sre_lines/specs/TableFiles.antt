-- What a table is written as in a file.
use Rattle.std.specs.Prelude.{ℕ, ◌≡◌, ◌≢◌, List, [], ◌∷◌, ◌++◌, codes}
use Rattle.sre_lines.specs.Terms.{Table}
use Rattle.sre_lines.specs.Fields.{words_text, AreWords}

-- the numbers of pairs, one after the other
abbrev pub numbers_of : List (ℕ × ℕ) → List ℕ
numbers_of [] = []
numbers_of (pair ∷ pairs) = pair.0 ∷ pair.1 ∷ numbers_of pairs

-- a list as a line, and what follows that line: its name with a space, and its numbers as words
abbrev pub list_text : List ℕ → List (ℕ × ℕ) → List ℕ → List ℕ
list_text name pairs more = name ++ (words_text (numbers_of pairs) ++ 10 ∷ more)

-- a table as four lines
abbrev pub table_text : Table → List ℕ
table_text table =
    list_text (codes "lower ") table.lower (list_text (codes "upper ") table.upper
    (list_text (codes "alnum ") table.alnum (list_text (codes "digits ") table.digits [])))

-- each number of a table has 32 bits
abbrev pub HasWords : Table → Type 0
HasWords table =
    AreWords (numbers_of table.lower) × AreWords (numbers_of table.upper) × AreWords (numbers_of table.alnum)
    × AreWords (numbers_of table.digits)

-- no table is written so
pub record IsNoTable (file : List ℕ) : Type 0 where
  pub none : (table : Table) → HasWords table → table_text table ≢ file

-- a text does not begin with a list of this name
pub record LacksList (name file : List ℕ) : Type 0 where
  pub none : (pairs : List (ℕ × ℕ)) (more : List ℕ) → AreWords (numbers_of pairs) → list_text name pairs more ≢ file

-- this follows any list of this name with which a text begins
pub record LeavesList (name file rest : List ℕ) : Type 0 where
  pub left : (pairs : List (ℕ × ℕ)) (more : List ℕ) → AreWords (numbers_of pairs) → list_text name pairs more ≡ file
      → more ≡ rest
