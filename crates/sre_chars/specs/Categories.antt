-- The categories of characters, by their numbers.
use Rattle.std.specs.Prelude.{◌==◌, ◌-◌, ◌%◌, ℕ, Bool, false, if◌then◌else◌, not, nat_lt, ◌||◌}
use Rattle.sre_chars.specs.Tables.{Table, is_between, is_in_ranges, is_ascii_alphanumeric, is_alphanumeric}

-- 0 to 9
abbrev pub is_digit : ℕ → Bool
is_digit c = is_between 48 57 c

-- ASCII's blanks: tab, newline, vertical tab, form feed, carriage return, space
abbrev pub is_space : ℕ → Bool
is_space c = is_between 9 13 c || c == 32

-- ASCII's letters and digits, and the underscore
abbrev pub is_word : ℕ → Bool
is_word c = c == 95 || is_ascii_alphanumeric c

-- newline alone
abbrev pub is_linebreak : ℕ → Bool
is_linebreak c = c == 10

-- Unicode's blanks, with the four information separators, as `str.isspace` of Python has them
abbrev pub is_unicode_space : ℕ → Bool
is_unicode_space c =
    is_between 9 13 c || is_between 28 32 c || c == 133 || c == 160 || c == 5760
    || is_between 8192 8202 c || is_between 8232 8233 c || c == 8239 || c == 8287 || c == 12288

-- 0 to 9, and the table's digits past ASCII
abbrev pub is_unicode_digit : Table → ℕ → Bool
is_unicode_digit t c = if nat_lt c 128 then is_digit c else is_in_ranges t.digits c

-- the table's letters and digits, and the underscore
abbrev pub is_unicode_word : Table → ℕ → Bool
is_unicode_word t c = c == 95 || is_alphanumeric t c

-- Unicode's ends of lines, as `str.splitlines` of Python has them
abbrev pub is_unicode_linebreak : ℕ → Bool
is_unicode_linebreak c = is_between 10 13 c || is_between 28 30 c || c == 133 || is_between 8232 8233 c

-- the category of an even number
abbrev pub plain_category : Table → ℕ → ℕ → Bool
plain_category t n c =
    if n == 0 then is_digit c
    else if n == 2 then is_space c
    else if n == 4 then is_word c
    else if n == 6 then is_linebreak c
    else if n == 8 then is_word c
    else if n == 10 then is_unicode_digit t c
    else if n == 12 then is_unicode_space c
    else if n == 14 then is_unicode_word t c
    else if n == 16 then is_unicode_linebreak c
    else false

-- category n, for n below 18: an odd number is the opposite of the number before it
abbrev pub category : Table → ℕ → ℕ → Bool
category t n c = if n % 2 == 0 then plain_category t n c else not (plain_category t (n - 1) c)
