-- The lines of a file of cases, and what is written for them.
use Rattle.std.specs.Prelude.{ℕ, ◌≡◌, ◌≢◌, ◌==◌, ◌+◌, ◌⊎◌, Option, List, [], ◌∷◌, ◌++◌, length, slice_index}
use Rattle.sre_lines.specs.Terms.{slice_split, Appends, Table}
use Rattle.sre_lines.specs.declared.line.Case.{Case}
use Rattle.sre_lines.specs.declared.cases.Detail.{Detail}
use Rattle.sre_lines.specs.declared.cases.CaseFault.{CaseFault}
use Rattle.sre_lines.specs.declared.cases.CaseFault.TheVariants.{Usage, CannotRead, NotATable, NotACase, NoMemory}
use Rattle.sre_lines.specs.declared.cases.CaseFault.TheVariants.{OutputFailed}
use Rattle.sre_lines.specs.Fields.{case_text, IsCase}
use Rattle.sre_lines.specs.Cases.{IsAnswer}

abbrev pub lines_of : List ℕ → List (List ℕ)
lines_of file = slice_split (λ b. b == 10) file

-- an empty line, or a note
abbrev pub IsPassedOver : List ℕ → Type 0
IsPassedOver line = (line ≡ []) ⊎ (slice_index line 0 ≡ 35)

-- a case with its words and its text, of which this is the line, and its answer
pub record IsAnsweredCase (detail : Detail) (table : Table) (line answer : List ℕ) : Type 0 where
  pub case : Case
  pub words : List ℕ
  pub text : List ℕ
  pub lawful : IsCase case words text
  pub written : case_text case words text ≡ line
  pub answered : IsAnswer detail table case words text answer

-- what is written for a line: nothing where it is passed over, else its answer, and byte 10
abbrev pub IsAnswered : Detail → Table → List ℕ → List ℕ → Type 0
IsAnswered detail table line out =
    (IsPassedOver line × (out ≡ []))
    ⊎ ((answer : List ℕ) × IsAnsweredCase detail table line answer × (out ≡ answer ++ 10 ∷ []))

-- what is written for lines, one after the other
abbrev pub AreAnswered : Detail → Table → List (List ℕ) → List ℕ → Type 0
AreAnswered detail table [] out = out ≡ []
AreAnswered detail table (line ∷ lines) out =
    (first others : List ℕ) × IsAnswered detail table line first × AreAnswered detail table lines others
    × (out ≡ first ++ others)

-- what a writer holds has grown by what is written for the lines
pub record Answered (detail : Detail) (table : Table) (old new : Option (List ℕ)) (lines : List (List ℕ))
    : Type 0 where
  pub out : List ℕ
  pub answers : AreAnswered detail table lines out
  pub appended : Appends old new out

-- a line that no case is written as
pub record IsNoCase (line : List ℕ) : Type 0 where
  pub not_passed_over : ¬ (IsPassedOver line)
  pub not_written : (case : Case) (words text : List ℕ) → IsCase case words text → case_text case words text ≢ line

-- what is written of a line at which a fault stops: nothing, or after a failed write a part of what would be
abbrev pub IsBegun : Detail → Table → CaseFault → List ℕ → List ℕ → Type 0
IsBegun detail table Usage line part = part ≡ []
IsBegun detail table CannotRead line part = part ≡ []
IsBegun detail table NotATable line part = part ≡ []
IsBegun detail table (NotACase n) line part = part ≡ []
IsBegun detail table NoMemory line part = part ≡ []
IsBegun detail table OutputFailed line part =
    (part ≡ []) ⊎ ((rest : List ℕ) × IsAnswered detail table line (part ++ rest))

-- the lines before one are answered, and of that one no more than a part; where it is no case, the fault tells its
-- number, from 1 on
pub record StopsAt (detail : Detail) (table : Table) (old new : Option (List ℕ)) (lines : List (List ℕ))
    (fault : CaseFault) : Type 0 where
  pub before : List (List ℕ)
  pub line : List ℕ
  pub after : List (List ℕ)
  pub split : lines ≡ before ++ line ∷ after
  pub reached : Option (List ℕ)
  pub answered : Answered detail table old reached before
  pub part : List ℕ
  pub begun : IsBegun detail table fault line part
  pub appended : Appends reached new part
  pub no_case : (n : ℕ) → fault ≡ NotACase n → (n ≡ length before + 1) × IsNoCase line

-- the line of a number in a file, all lines counted from 1
pub record IsLineAt (file : List ℕ) (number : ℕ) (line : List ℕ) : Type 0 where
  pub before : List (List ℕ)
  pub after : List (List ℕ)
  pub split : lines_of file ≡ before ++ line ∷ after
  pub counted : number ≡ length before + 1

-- there it is no case
pub record IsNoCaseAt (file : List ℕ) (number : ℕ) : Type 0 where
  pub line : List ℕ
  pub at : IsLineAt file number line
  pub is : IsNoCase line
