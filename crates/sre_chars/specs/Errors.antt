-- The errors of a table's lists: their numbers, and which of them is returned.
use Rattle.std.specs.Prelude.{ℕ, ◌+◌, Bool, List, [], ◌∷◌, Option, Some, None, if◌then◌else◌, not, nat_lt, ◌&&◌, ◌||◌}
use Rattle.std.specs.Option.{option_or}
use Rattle.sre_chars.specs.Tables.{Table, is_scalar}
use Rattle.sre_chars.specs.declared.table.UniError.{UniError}
use Rattle.sre_chars.specs.declared.table.UniError.TheVariants.{Memory, Unsorted, AsciiEntry, NotScalar}
use Rattle.sre_chars.specs.declared.table.Listing.{Listing}
use Rattle.sre_chars.specs.declared.table.Listing.TheVariants.{Map, Ranges}

-- the number of an error
abbrev pub uni_error_number : UniError → ℕ
uni_error_number Memory = 1
uni_error_number Unsorted = 2
uni_error_number AsciiEntry = 3
uni_error_number NotScalar = 4

-- the last number that an entry takes up: a map's its only one, a range's its high end
abbrev pub last_of : Listing → ℕ × ℕ → ℕ
last_of Map e = e.0
last_of Ranges e = e.1

-- whether an entry is of scalar values alone, a range of those between its ends too
abbrev pub is_scalar_entry : Listing → ℕ × ℕ → Bool
is_scalar_entry Map e = is_scalar e.0 && is_scalar e.1
is_scalar_entry Ranges e = is_scalar e.0 && is_scalar e.1 && not (nat_lt e.0 0xD800 && nat_lt 0xDFFF e.1)

-- what is wrong with an entry, where numbers below next are taken up
abbrev pub entry_fault : Listing → ℕ → ℕ × ℕ → Option UniError
entry_fault kind next e =
    if not (is_scalar_entry kind e) then Some NotScalar
    else if nat_lt e.0 128 then Some AsciiEntry
    else if nat_lt e.0 next || nat_lt (last_of kind e) e.0 then Some Unsorted
    else None

-- the first fault of a list, where numbers below next are taken up
abbrev pub list_fault : Listing → ℕ → List (ℕ × ℕ) → Option UniError
list_fault kind next [] = None
list_fault kind next (e ∷ es) = option_or (entry_fault kind next e) (list_fault kind (last_of kind e + 1) es)

-- the first fault of the lists that a table is made of; its digits come later
abbrev pub table_fault : Table → Option UniError
table_fault t =
    option_or (list_fault Map 0 t.lower) (option_or (list_fault Map 0 t.upper) (list_fault Ranges 0 t.alnum))
