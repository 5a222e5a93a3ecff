-- A table's file, list by list, and the faults of its lists.
use Rattle.sre_lines.proofs.Terms.{◌≡◌, ◌≢◌, ◌+◌, ℕ, List, [], ◌∷◌, ◌++◌, ap, refl, sym, ◌∙◌, arith, rules, Bool, true}
use Rattle.sre_lines.proofs.Terms.{false, Option, Some, None, Result, Err, IfSome, IfNone, words_text, AreWords}
use Rattle.sre_lines.proofs.Terms.{numbers_of, table_fault, Table, lists_fault, table_with, Bor, append_cancel_left}
use Rattle.std.specs.Option.{MatchOption, option_or}
use Rattle.std.specs.Prelude.{if◌then◌else◌, not, nat_lt, ◌||◌}
use Rattle.sre_chars.specs.Errors.{entry_fault, list_fault, is_scalar_entry, last_of}
use Rattle.sre_chars.specs.declared.table.UniError.{UniError}
use Rattle.sre_chars.specs.declared.table.UniError.TheVariants.{Memory, Unsorted, AsciiEntry, NotScalar}
use Rattle.sre_lines.specs.declared.table.TableFault.{TableFault}
use Rattle.sre_lines.specs.declared.table.TableFault.TheVariants.{NoMemory}
use Rattle.sre_lines.specs.TableFiles.{list_text, LacksList, LeavesList}
use Rattle.sre_lines.proofs.Cuts.{Lacks, cut_once, uncut}
use Rattle.sre_lines.proofs.Lines.{words_lack}
use Rattle.sre_lines.proofs.Words.{words_once}

-- what follows a front, where a text begins with it
module _ (file front : List ℕ) where
  pub front_off : (r : Option (Bor (List ℕ)))
      → MatchOption r ((rest : List ℕ) → file ≢ front ++ rest) (λ x. file ≡ front ++ x.now)
      → IfSome r (λ x. front ++ x.now ≡ file)
  front_off None m = tt
  front_off (Some x) m = sym m

  pub no_front : (r : Option (Bor (List ℕ)))
      → MatchOption r ((rest : List ℕ) → file ≢ front ++ rest) (λ x. file ≡ front ++ x.now)
      → IfNone r ((rest : List ℕ) → front ++ rest ≢ file)
  no_front None m = λ rest is. m rest (sym is)
  no_front (Some x) m = tt

-- a field of words that are no pairs
pub no_pairs : (field words : List ℕ) → words_text words ≡ field → AreWords words
    → ((pairs : List (ℕ × ℕ)) → numbers_of pairs ≢ words) → (pairs : List (ℕ × ℕ)) → AreWords (numbers_of pairs)
    → words_text (numbers_of pairs) ≢ field
no_pairs field words read fit none pairs fit' is =
    none pairs (words_once (numbers_of pairs) words fit' fit (is ∙ sym read))

-- behind the name of a list stands its field, up to the end of the line
module _ (file list field rest name : List ℕ) (begins : name ++ list ≡ file) (cut : field ++ 10 ∷ rest ≡ list)
    (none : Lacks field 10) where
  parts_of : (pairs : List (ℕ × ℕ)) (more : List ℕ) → AreWords (numbers_of pairs) → list_text name pairs more ≡ file
      → (words_text (numbers_of pairs) ≡ field) × (more ≡ rest)
  parts_of pairs more fit is =
      cut_once 10 (words_text (numbers_of pairs)) more field rest (words_lack 10 (omega arith) (numbers_of pairs) fit)
      none (append_cancel_left name _ list (is ∙ sym begins) ∙ sym cut)

  pub list_leaves : LeavesList name file rest
  list_leaves = record { left = λ pairs more fit is. (parts_of pairs more fit is).1 }

  -- which is none of pairs
  pub no_field : ((pairs : List (ℕ × ℕ)) → AreWords (numbers_of pairs) → words_text (numbers_of pairs) ≢ field)
      → LacksList name file
  no_field other = record { none = λ pairs more fit is. other pairs fit (parts_of pairs more fit is).0 }

-- or there is no end of the line
pub no_line : (file list name : List ℕ) → name ++ list ≡ file → Lacks list 10 → LacksList name file
no_line file list name begins none = record {
  none = λ pairs more fit is. uncut 10 _ more list none (append_cancel_left name _ list (is ∙ sym begins));
}

-- No fault of a table's lists is the want of memory.

one_of_three : (a b c : Bool)
    → (if a then Some NotScalar else if b then Some AsciiEntry else if c then Some Unsorted else None) ≢ Some Memory
one_of_three true b c is = cc
one_of_three false true c is = cc
one_of_three false false true is = cc
one_of_three false false false is = cc

either_never : (a b : Option UniError) → a ≢ Some Memory → b ≢ Some Memory → option_or a b ≢ Some Memory
either_never None b first second = second
either_never (Some e) b first second = first

pub list_never : (kind : _) (taken : ℕ) (entries : List (ℕ × ℕ)) → list_fault kind taken entries ≢ Some Memory
list_never kind taken [] is = cc
list_never kind taken (e ∷ es) is =
    either_never (entry_fault kind taken e) (list_fault kind (last_of kind e + 1) es)
    (one_of_three (not (is_scalar_entry kind e)) (nat_lt e.0 128) (nat_lt e.0 taken || nat_lt (last_of kind e) e.0))
    (list_never kind (last_of kind e + 1) es) is

pub table_never : (t : Table) → table_fault t ≢ Some Memory
table_never t = search (rules, either_never, list_never)

pub digits_never : (digits : List (ℕ × ℕ)) → lists_fault (table_with [] [] [] digits) ≢ Some Memory
digits_never digits = search (rules, list_never)

-- so where memory is the error, there is no fault
pub no_fault : (fault : Option UniError) (error : UniError) → fault ≢ Some Memory
    → option_or fault (Some Memory) ≡ Some error → error ≡ Memory → fault ≡ None
no_fault None error never is memory = refl
no_fault (Some e) error never is memory = absurd (never (is ∙ ap Some memory))

-- the fault of a result
pub fault_in : {T : Type 0} (fault : TableFault) → ◌≡◌ {A = Result T TableFault} (Err fault) (Err NoMemory)
    → fault ≡ NoMemory
fault_in fault is = cc
