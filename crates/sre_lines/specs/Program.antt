-- What the program is given, and how it ends.
use Rattle.std.specs.Prelude.{ℕ, ◌≡◌, ◌≢◌, ◌⊎◌, ◌++◌, ◌∷◌, [], List, Option, None, Some, Ok, Err, string_bytes, codes}
use Rattle.std.specs.Prelude.{Result, String, Vec}
use Rattle.sre_lines.specs.Terms.{into_iter_items, Appends, Table, ascii_table, lists_fault, UniError, Refused}
use Rattle.std.specs.Global.{Global}
use Rattle.std.specs.IoError.{error_kind}
use Rattle.std.specs.declared.vec.IntoIter.{IntoIter}
use Rattle.std.specs.declared.io.Error.{Error}
use Rattle.std.specs.declared.io.ErrorKind.TheVariants.{OutOfMemory, NotFound, PermissionDenied, IsADirectory}
use Rattle.sre_lines.specs.declared.cases.CaseFault.{CaseFault}
use Rattle.sre_lines.specs.declared.cases.CaseFault.TheVariants.{Usage, CannotRead, NotATable, NotACase, NoMemory}
use Rattle.sre_lines.specs.declared.cases.CaseFault.TheVariants.{OutputFailed}
use Rattle.sre_lines.specs.declared.cases.Detail.{Detail}
use Rattle.sre_lines.specs.declared.cases.Detail.TheVariants.{Plain, Explained}
use Rattle.sre_lines.specs.declared.cause.Cause.{Cause}
use Rattle.sre_lines.specs.declared.program.Call.{Call}
use Rattle.sre_lines.specs.declared.program.Ending.{Ending}
use Rattle.sre_lines.specs.declared.program.Ending.TheVariants.{AllAnswered, Told, Untold}
use Rattle.sre_lines.specs.Answers.{fault_text, uni_text, IsFaultOfCases}
use Rattle.sre_lines.specs.TableFiles.{table_text, IsNoTable}
use Rattle.sre_lines.specs.Causes.{IsCause, cause_text}
use Rattle.sre_lines.specs.Lines.{lines_of, Answered, StopsAt, IsLineAt}
use Rattle.sre_lines.specs.Output.{AppendsPart}

-- the arguments, the first of which is the program's name, or that one is no UTF-8
abbrev pub Arguments : Type 0
Arguments = Result (IntoIter (String Global) Global) Error

-- what a file is read as
abbrev pub Reading : Type 0
Reading = Result (Vec ℕ Global) Error

-- the fault of an error: want of memory, or else the usual one
pub record IsFaultOf (error : Error) (usual fault : CaseFault) : Type 0 where
  pub memory : error_kind error ≡ OutOfMemory → fault ≡ NoMemory
  pub other : error_kind error ≢ OutOfMemory → fault ≡ usual

-- what arguments behind the program's name ask: one is a file, `--explain` before it asks for causes as well, and
-- `--table TABLE` for another table than that of ASCII; both may stand there in either order
abbrev pub Asks : List (String Global) → Call → Type 0
Asks [] call = ⊥
Asks (file ∷ []) call = (call.detail ≡ Plain) × (call.table ≡ None) × (call.file ≡ file)
Asks (flag ∷ file ∷ []) call =
    (string_bytes flag ≡ codes "--explain") × (call.detail ≡ Explained) × (call.table ≡ None) × (call.file ≡ file)
Asks (flag ∷ table ∷ file ∷ []) call =
    (string_bytes flag ≡ codes "--table") × (call.detail ≡ Plain) × (call.table ≡ Some table) × (call.file ≡ file)
Asks (first ∷ second ∷ third ∷ file ∷ []) call =
    (call.detail ≡ Explained) × (call.file ≡ file)
    × (((string_bytes first ≡ codes "--explain") × (string_bytes second ≡ codes "--table") × (call.table ≡ Some third))
    ⊎ ((string_bytes first ≡ codes "--table") × (string_bytes third ≡ codes "--explain") × (call.table ≡ Some second)))
Asks (first ∷ second ∷ third ∷ fourth ∷ fifth ∷ others) call = ⊥

-- what the arguments ask, or that they ask nothing
abbrev pub IsCallOf : List (String Global) → Result Call CaseFault → Type 0
IsCallOf args (Ok call) = Asks args call
IsCallOf args (Err fault) = (fault ≡ Usage) × ((call : Call) → ¬ (Asks args call))

-- what is asked behind the program's name, or the fault where nothing is
abbrev pub IsCall : Arguments → Result Call CaseFault → Type 0
IsCall (Ok args) call =
    ((program : String Global) × (others : List (String Global)) × (into_iter_items args ≡ program ∷ others)
    × IsCallOf others call)
    ⊎ ((into_iter_items args ≡ []) × (call ≡ Err Usage))
IsCall (Err error) (Ok call) = ⊥
IsCall (Err error) (Err fault) = IsFaultOf error Usage fault

-- what is written for a file as it was read, and the fault at which that stops
abbrev pub AnswersFile : Detail → Table → Option (List ℕ) → Option (List ℕ) → Reading → Result (Unit {0}) CaseFault
    → Type 0
AnswersFile detail table old new (Ok file) (Ok done) = Answered detail table old new (lines_of file.items)
AnswersFile detail table old new (Ok file) (Err fault) =
    IsFaultOfCases Global fault × StopsAt detail table old new (lines_of file.items) fault
AnswersFile detail table old new (Err error) (Ok done) = ⊥
AnswersFile detail table old new (Err error) (Err fault) = IsFaultOf error CannotRead fault × (new ≡ old)

-- the fault at which the program ends
abbrev pub end_of : Ending → Result (Unit {0}) CaseFault
end_of AllAnswered = Ok tt
end_of (Told fault) = Err fault
end_of (Untold fault) = Err fault

-- the status with which it ends
abbrev pub status_of : Ending → ℕ
status_of AllAnswered = 0
status_of (Told fault) = 1
status_of (Untold fault) = 1

-- why a line of a file is no case
abbrev pub IsCauseAt : List ℕ → ℕ → Cause → Type 0
IsCauseAt file number cause = (line : List ℕ) × IsLineAt file number line × IsCause line cause

-- what stands behind the text of a fault of a file that was read: the line's end, and before it why a line is no case,
-- where causes are told
abbrev pub IsEnd : Detail → List ℕ → CaseFault → List ℕ → Type 0
IsEnd Plain file fault end = end ≡ 10 ∷ []
IsEnd Explained file (NotACase number) end =
    (cause : Cause) × IsCauseAt file number cause × (end ≡ codes ": " ++ cause_text cause ++ 10 ∷ [])
IsEnd Explained file Usage end = end ≡ 10 ∷ []
IsEnd Explained file CannotRead end = end ≡ 10 ∷ []
IsEnd Explained file NotATable end = end ≡ 10 ∷ []
IsEnd Explained file NoMemory end = end ≡ 10 ∷ []
IsEnd Explained file OutputFailed end = end ≡ 10 ∷ []

-- the same where the file was not read: there is none, it is a folder, the permission lacks, or something else
pub record IsUnreadEnd (error : Error) (end : List ℕ) : Type 0 where
  pub no_file : error_kind error ≡ NotFound → end ≡ codes ": no such file\n"
  pub no_permission : error_kind error ≡ PermissionDenied → end ≡ codes ": no permission\n"
  pub folder : error_kind error ≡ IsADirectory → end ≡ codes ": a folder\n"
  pub other : error_kind error ≢ NotFound → error_kind error ≢ PermissionDenied → error_kind error ≢ IsADirectory
      → end ≡ 10 ∷ []

abbrev pub IsEndOf : Detail → Reading → CaseFault → List ℕ → Type 0
IsEndOf detail (Ok file) fault end = IsEnd detail file.items fault end
IsEndOf Plain (Err error) fault end = end ≡ 10 ∷ []
IsEndOf Explained (Err error) fault end = IsUnreadEnd error end

-- what is written to tell how the program ends, with `name` for the file and `end` behind the fault's text: where that
-- fails, no more than a part of it
abbrev pub Tells : Option (List ℕ) → Option (List ℕ) → List ℕ → List ℕ → Ending → Type 0
Tells old new name end AllAnswered = new ≡ old
Tells old new name end (Told fault) = Appends old new (fault_text fault name ++ end)
Tells old new name end (Untold fault) = AppendsPart old new (fault_text fault name ++ end)

-- the same of a file that is no table: the fault of its lists, or that there are no four of them
abbrev pub IsTableEnd : Detail → List ℕ → List ℕ → Type 0
IsTableEnd Plain file end = end ≡ 10 ∷ []
IsTableEnd Explained file end =
    (IsNoTable file × (end ≡ codes ": not four lists of numbers\n"))
    ⊎ ((table : Table) × (error : UniError) × (table_text table ≡ file) × (lists_fault table ≡ Some error)
    × (end ≡ codes ": " ++ uni_text error ++ 10 ∷ []))

abbrev pub IsTablelessEnd : Detail → Reading → CaseFault → List ℕ → Type 0
IsTablelessEnd detail (Err error) fault end = IsEndOf detail (Err error) fault end
IsTablelessEnd detail (Ok file) NotATable end = IsTableEnd detail file.items end
IsTablelessEnd detail (Ok file) Usage end = end ≡ 10 ∷ []
IsTablelessEnd detail (Ok file) CannotRead end = end ≡ 10 ∷ []
IsTablelessEnd detail (Ok file) (NotACase line) end = end ≡ 10 ∷ []
IsTablelessEnd detail (Ok file) NoMemory end = end ≡ 10 ∷ []
IsTablelessEnd detail (Ok file) OutputFailed end = end ≡ 10 ∷ []

-- a fault that is told, with such an end
abbrev pub TellsFault : (CaseFault → List ℕ → Type 0) → Option (List ℕ) → Option (List ℕ) → List ℕ → Ending → Type 0
TellsFault Ends old new name AllAnswered = new ≡ old
TellsFault Ends old new name (Told fault) =
    (end : List ℕ) × Ends fault end × Appends old new (fault_text fault name ++ end)
TellsFault Ends old new name (Untold fault) =
    (end : List ℕ) × Ends fault end × AppendsPart old new (fault_text fault name ++ end)

-- a run by a table over a file of this name as it was read
pub record FileRun (detail : Detail) (table : Table) (file : Reading) (out out' faults faults' : Option (List ℕ))
    (name : List ℕ) (ending : Ending) : Type 0 where
  pub answers : AnswersFile detail table out out' file (end_of ending)
  pub tells : TellsFault (λ fault end. IsEndOf detail file fault end) faults faults' name ending

-- the table by which is answered: that of ASCII, or the one that a named file is written as
abbrev pub IsTable : (List ℕ → Reading → Type 0) → Option (String Global) → Table → Type 0
IsTable Reads None table = table ≡ ascii_table
IsTable Reads (Some name) table =
    (file : Vec ℕ Global) × Reads (string_bytes name) (Ok file) × (table_text table ≡ file.items)

-- no table is written so, or one whose lists have a fault
abbrev pub IsNotATable : List ℕ → Type 0
IsNotATable file =
    IsNoTable file
    ⊎ ((table : Table) × (error : UniError) × (table_text table ≡ file) × (lists_fault table ≡ Some error))

-- why a file gives no table
abbrev pub IsTableFault : Reading → CaseFault → Type 0
IsTableFault (Ok file) fault =
    ((fault ≡ NotATable) × IsNotATable file.items) ⊎ ((fault ≡ NoMemory) × Refused Global)
IsTableFault (Err error) fault = IsFaultOf error CannotRead fault

-- a run that has no table, since the file of this name gives none, which is told
pub record IsTableless (detail : Detail) (file : Reading) (faults faults' : Option (List ℕ)) (name : List ℕ)
    (ending : Ending) : Type 0 where
  pub fault : CaseFault
  pub ends : end_of ending ≡ Err fault
  pub is : IsTableFault file fault
  pub tells : TellsFault (λ fault end. IsTablelessEnd detail file fault end) faults faults' name ending

-- what the arguments ask is answered by the table
pub record TabledRun (Reads : List ℕ → Reading → Type 0) (call : Call) (out out' faults faults' : Option (List ℕ))
    (ending : Ending) : Type 0 where
  pub table : Table
  pub is_table : IsTable Reads call.table table
  pub file : Reading
  pub read : Reads (string_bytes call.file) file
  pub runs : FileRun call.detail table file out out' faults faults' (string_bytes call.file) ending

-- or the table's file gives none
pub record NoTableRun (Reads : List ℕ → Reading → Type 0) (call : Call) (out out' faults faults' : Option (List ℕ))
    (ending : Ending) : Type 0 where
  pub name : String Global
  pub named : call.table ≡ Some name
  pub file : Reading
  pub read : Reads (string_bytes name) file
  pub written : out' ≡ out
  pub runs : IsTableless call.detail file faults faults' (string_bytes name) ending

-- the run for what the arguments ask; where they ask nothing, that is told
abbrev pub CallRun : (List ℕ → Reading → Type 0) → Result Call CaseFault → Option (List ℕ) → Option (List ℕ)
    → Option (List ℕ) → Option (List ℕ) → Ending → Type 0
CallRun Reads (Ok call) out out' faults faults' ending =
    TabledRun Reads call out out' faults faults' ending ⊎ NoTableRun Reads call out out' faults faults' ending
CallRun Reads (Err fault) out out' faults faults' ending =
    (end_of ending ≡ Err fault) × (out' ≡ out) × Tells faults faults' (codes "FILE") (10 ∷ []) ending

-- a run of the program, with what its two writers hold before and after it
pub record ProgramRun (Reads : List ℕ → Reading → Type 0) (args : Arguments) (out out' faults faults' : Option (List ℕ))
    (ending : Ending) : Type 0 where
  pub call : Result Call CaseFault
  pub is_call : IsCall args call
  pub runs : CallRun Reads call out out' faults faults' ending
