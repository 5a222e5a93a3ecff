-- What a slot owns: a box whose content suits a code, or nothing.
-- Definitions for the contracts of this crate.
use Rattle.std.specs.Prelude.{ℕ, List, Option, None, Some, refl}
use Rattle.std.specs.Coded.{Coded, coded_option, coded_list, coded_ℕ, coded×, code_by}
use base.Fml.{Fml, ftrue, fex}
use denote.RawPtr.{Ptr}
use Rattle.sre_chars.specs.Tables.{Table}
use Rattle.sre_finder.specs.Kepts.{Suits}
use Rattle.sre_finder.specs.contracts.kept.Kept.{the_row}
use Rattle.sre_handle.specs.Heap.{heap_box}

-- the box at p, whose content suits the words and the table
abbrev pub held : Ptr → Option (List ℕ × Table) → Fml
held p None = ftrue
held p (Some code) = fex the_row.Denot (λ kept. fex (Suits code.0 code.1 kept) (λ _. heap_box the_row p kept))

abbrev pub coded_pairs : Coded (List (ℕ × ℕ))
coded_pairs = coded_list (coded× coded_ℕ coded_ℕ)

-- words and a table as lists
abbrev pub coded_code : Coded (Option (List ℕ × Table))
coded_code = coded_option (coded× (coded_list coded_ℕ)
    (code_by (List (ℕ × ℕ) × (List (ℕ × ℕ) × (List (ℕ × ℕ) × List (ℕ × ℕ))))
    (coded× coded_pairs (coded× coded_pairs (coded× coded_pairs coded_pairs)))
    (λ t. (t.lower, (t.upper, (t.alnum, t.digits))))
    (λ p. record { lower = p.0; upper = p.1.0; alnum = p.1.1.0; digits = p.1.1.1 }) (λ _. refl)))
