-- What answers and faults are written as.
use Rattle.std.specs.Prelude.{ℕ, ◌≤◌, Bool, true, false, Option, Some, None, List, [], ◌∷◌, ◌++◌, codes}
use Rattle.sre_lines.specs.Terms.{decimal, flat_map, Refused, UniError, place_of, CodeError, Memory}
use Rattle.sre_chars.specs.declared.table.UniError.TheVariants.{Memory as No-Memory, Unsorted, AsciiEntry, NotScalar}
use Rattle.sre_code.specs.declared.code.error.CodeError.TheVariants.{Truncated, UnknownOpcode, UnknownAt}
use Rattle.sre_code.specs.declared.code.error.CodeError.TheVariants.{UnknownCategory, BadSkip, BadCounts, BadItem}
use Rattle.sre_code.specs.declared.code.error.CodeError.TheVariants.{BadSet, BadInfo, TrailingWords}
use Rattle.sre_lines.specs.declared.cases.CaseFault.{CaseFault}
use Rattle.sre_lines.specs.declared.cases.CaseFault.TheVariants.{Usage, CannotRead, NotATable, NotACase, NoMemory}
use Rattle.sre_lines.specs.declared.cases.CaseFault.TheVariants.{OutputFailed}

abbrev pub yes_no_text : Bool → List ℕ
yes_no_text true = codes "yes"
yes_no_text false = codes "no"

-- a number, or `-` for none
abbrev pub number_text : Option ℕ → List ℕ
number_text (Some n) = decimal n
number_text None = codes "-"

abbrev pub prefix_text : Option (ℕ × ℕ) → List ℕ
prefix_text (Some prefix) = decimal prefix.0 ++ (44 ∷ decimal prefix.1)
prefix_text None = codes "-"

-- the hints of a code
abbrev pub hints_text : Option ℕ → Option (ℕ × ℕ) → Bool → Bool → List ℕ
hints_text width prefix literal first_set =
    codes "ok width " ++ number_text width ++ codes " prefix " ++ prefix_text prefix
    ++ codes " literal " ++ yes_no_text literal ++ codes " set " ++ yes_no_text first_set

-- marks divided by commas, or `none` where there are none
abbrev pub marks_text : List (Option ℕ) → List ℕ
marks_text [] = codes "none"
marks_text (mark ∷ marks) = number_text mark ++ flat_map (λ m. 44 ∷ number_text m) marks

-- the name of a refusal's cause
abbrev pub refusal_name : CodeError → List ℕ
refusal_name Memory = codes "Memory"
refusal_name (Truncated place) = codes "Truncated"
refusal_name (UnknownOpcode place) = codes "UnknownOpcode"
refusal_name (UnknownAt place) = codes "UnknownAt"
refusal_name (UnknownCategory place) = codes "UnknownCategory"
refusal_name (BadSkip place) = codes "BadSkip"
refusal_name (BadCounts place) = codes "BadCounts"
refusal_name (BadItem place) = codes "BadItem"
refusal_name (BadSet place) = codes "BadSet"
refusal_name (BadInfo place) = codes "BadInfo"
refusal_name (TrailingWords place) = codes "TrailingWords"

-- a refusal with its cause, and the place of the word at which that was seen
abbrev pub refusal_text : CodeError → List ℕ
refusal_text error = codes "refused " ++ refusal_name error ++ codes " " ++ decimal (place_of error)

-- what is wrong with a table's lists
abbrev pub uni_text : UniError → List ℕ
uni_text No-Memory = codes "no memory"
uni_text Unsorted = codes "an entry is not above the one before"
uni_text AsciiEntry = codes "an entry is below 128"
uni_text NotScalar = codes "a number is no character's"

-- the line of a fault
abbrev pub fault_text : CaseFault → List ℕ → List ℕ
fault_text Usage name = codes "usage: sre_cases FILE"
fault_text CannotRead name = name ++ codes ": cannot be read"
fault_text NotATable name = name ++ codes ": not a table"
fault_text (NotACase line) name = codes "line " ++ decimal line ++ codes ": not a case"
fault_text NoMemory name = codes "no memory"
fault_text OutputFailed name = codes "output failed"

-- a fault of the cases of a file, whose lines count from 1; for want of memory only where an allocation by an M failed
abbrev pub IsFaultOfCases : Type 0 → CaseFault → Type 0
IsFaultOfCases M Usage = ⊥
IsFaultOfCases M CannotRead = ⊥
IsFaultOfCases M NotATable = ⊥
IsFaultOfCases M (NotACase line) = 1 ≤ line
IsFaultOfCases M NoMemory = Refused M
IsFaultOfCases M OutputFailed = Unit {0}
