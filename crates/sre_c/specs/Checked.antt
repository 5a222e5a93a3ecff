-- What a check leaves.
-- Public clauses rest on it.
use Rattle.std.specs.Prelude.{◌≡◌, ◌≢◌, ◌≤◌, true, false, length, Some, None}
use Rattle.sre_c.specs.Terms.{Global, lists_fault, Tree, Whole, IsCode, Refused, place_of, UniError, uni_error_number}
use Rattle.sre_c.specs.Terms.{refusal_number, CodeError, Status, No, Yes, StepLimit, Memory, NoCode, NoRoom, NotUtf8}
use Rattle.sre_c.specs.Terms.{FaultyTable}
use Rattle.sre_c.specs.declared.types.SreTable.{SreTable}
use Rattle.sre_c.specs.declared.code.SreCode.{SreCode}
use Rattle.sre_c.specs.Known.{table_in, AreHints}
use Rattle.sre_code.specs.declared.code.error.CodeError.TheVariants as code_error

-- a list of a table has a fault
abbrev pub IsFaulty : SreTable → Type 0
IsFaulty t = lists_fault (table_in t) ≢ None

-- the check of a table
abbrev pub TableChecked : Status → SreTable → Type 0
TableChecked Yes t = (lists_fault (table_in t) ≡ None) × (t.error ≡ 0) × (t.checked ≡ true)
TableChecked FaultyTable t =
    ((error : UniError) × (lists_fault (table_in t) ≡ Some error) × (t.error ≡ uni_error_number error))
    × (t.checked ≡ false)
TableChecked Memory t = ⊥
TableChecked No t = ⊥
TableChecked StepLimit t = ⊥
TableChecked NoCode t = ⊥
TableChecked NoRoom t = ⊥
TableChecked NotUtf8 t = ⊥

-- why words were refused, and where the fault was seen
pub record IsRefusal (c : SreCode) : Type 0 where
  pub error : CodeError
  pub cause : error ≢ code_error.Memory
  pub number : c.error ≡ refusal_number error
  pub place : c.place ≡ place_of error
  pub inside : c.place ≤ length c.words.now

-- the check of words
abbrev pub CodeChecked : Status → SreCode → Type 0
CodeChecked Yes c =
    IsCode c.words.now × ((t : Tree) → Whole c.words.now t → AreHints c.words.now (table_in c.table.now) t c.hints)
    × (c.error ≡ 0) × (c.checked ≡ true)
CodeChecked NoCode c = ((t : Tree) → (Whole c.words.now t → ⊥)) × IsRefusal c × (c.checked ≡ false)
CodeChecked Memory c = Refused Global
CodeChecked FaultyTable c = IsFaulty c.table.now
CodeChecked No c = ⊥
CodeChecked StepLimit c = ⊥
CodeChecked NoRoom c = ⊥
CodeChecked NotUtf8 c = ⊥
