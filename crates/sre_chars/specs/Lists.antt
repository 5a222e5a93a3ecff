-- The lists that a table holds, as lists of pairs.
-- Public clauses rest on it.
use Rattle.std.specs.Prelude.{ℕ, List, map, Option}
use Rattle.std.specs.Option.{option_or}
use Rattle.sre_chars.specs.Tables.{Table, table_of}
use Rattle.sre_chars.specs.Errors.{list_fault, table_fault}
use Rattle.sre_chars.specs.declared.table.UniError.{UniError}
use Rattle.sre_chars.specs.declared.table.Listing.TheVariants.{Ranges}
use Rattle.sre_chars.specs.declared.table.entries.UniPair.{UniPair}
use Rattle.sre_chars.specs.declared.table.entries.Entries.{Entries}
use Rattle.sre_chars.specs.declared.table.entries.Entries.TheVariants.{Kept, Lent}

-- the pairs of a list that a caller keeps
abbrev pub pairs_of : List UniPair → List (ℕ × ℕ)
pairs_of entries = map (λ e. (e.low, e.high)) entries

-- the pairs of a list
abbrev pub entries_in : Entries → List (ℕ × ℕ)
entries_in (Kept entries) = entries.items
entries_in (Lent entries) = pairs_of entries.now

-- the table of four lists
abbrev pub table_with : List (ℕ × ℕ) → List (ℕ × ℕ) → List (ℕ × ℕ) → List (ℕ × ℕ) → Table
table_with lower upper alnum digits = record (table_of lower upper alnum) { digits = digits }

-- the table of four lists that a caller keeps
abbrev pub lent_table : List UniPair → List UniPair → List UniPair → List UniPair → Table
lent_table lower upper alnum digits = table_with (pairs_of lower) (pairs_of upper) (pairs_of alnum) (pairs_of digits)

-- the first fault of a table's four lists
abbrev pub lists_fault : Table → Option UniError
lists_fault t = option_or (table_fault t) (list_fault Ranges 0 t.digits)
