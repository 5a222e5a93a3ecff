-- Case maps, alphanumerics and digits: fixed in ASCII, and past it as a table lists them.
use Rattle.std.specs.Prelude.{◌==◌, ◌+◌, ◌-◌, ℕ, Bool, false, if◌then◌else◌, nat_lt, nat_le, ◌&&◌, ◌||◌}
use Rattle.std.specs.Prelude.{Option, Some, None, unwrap_or, List, [], ◌∷◌}

-- the entries (from, to) of the lower and upper map, and the ranges (low, high) of alphanumerics and of decimal digits,
-- all past ASCII
pub record Table : Type 0 where
  pub lower : List (ℕ × ℕ)
  pub upper : List (ℕ × ℕ)
  pub alnum : List (ℕ × ℕ)
  pub digits : List (ℕ × ℕ)

-- the table of three lists, without digits past ASCII
abbrev pub table_of : List (ℕ × ℕ) → List (ℕ × ℕ) → List (ℕ × ℕ) → Table
table_of lower upper alnum = record { lower = lower; upper = upper; alnum = alnum; digits = [] }

-- the table with no entry past ASCII
abbrev pub ascii_table : Table
ascii_table = record { lower = []; upper = []; alnum = []; digits = [] }

-- whether c is one of the numbers from low to high
abbrev pub is_between : ℕ → ℕ → ℕ → Bool
is_between low high c = nat_le low c && nat_le c high

-- whether c is in one of the ranges
abbrev pub is_in_ranges : List (ℕ × ℕ) → ℕ → Bool
is_in_ranges [] c = false
is_in_ranges (r ∷ rs) c = is_between r.0 r.1 c || is_in_ranges rs c

-- what a map takes c to: a character without an entry stays
abbrev pub mapped : List (ℕ × ℕ) → ℕ → ℕ
mapped [] c = c
mapped (e ∷ es) c = if e.0 == c then e.1 else mapped es c

-- c in lower case, if it is an ASCII letter
abbrev pub lower_ascii : ℕ → ℕ
lower_ascii c = if is_between 65 90 c then c + 32 else c

-- c in upper case, if it is an ASCII letter
abbrev pub upper_ascii : ℕ → ℕ
upper_ascii c = if is_between 97 122 c then c - 32 else c

-- c in lower case
abbrev pub lower_of : Table → ℕ → ℕ
lower_of t c = if nat_lt c 128 then lower_ascii c else mapped t.lower c

-- c in upper case
abbrev pub upper_of : Table → ℕ → ℕ
upper_of t c = if nat_lt c 128 then upper_ascii c else mapped t.upper c

-- the ASCII letters and digits
abbrev pub is_ascii_alphanumeric : ℕ → Bool
is_ascii_alphanumeric c = is_between 48 57 c || is_between 65 90 c || is_between 97 122 c

-- the numbers that Unicode gives to characters, surrogates left out
abbrev pub is_scalar : ℕ → Bool
is_scalar c = nat_le c 0xD7FF || is_between 0xE000 0x10FFFF c

-- letters and digits
abbrev pub is_alphanumeric : Table → ℕ → Bool
is_alphanumeric t c = if nat_lt c 128 then is_ascii_alphanumeric c else is_scalar c && is_in_ranges t.alnum c

-- the last entry of a rising list that begins at c or below
abbrev pub last_up_to : List (ℕ × ℕ) → ℕ → Option (ℕ × ℕ)
last_up_to [] c = None
last_up_to (e ∷ es) c = if nat_le e.0 c then Some (unwrap_or (last_up_to es c) e) else None
