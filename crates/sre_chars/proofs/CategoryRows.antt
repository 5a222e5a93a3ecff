-- Rows of the categories and of the case maps, which the definitions compute.
use Rattle.sre_chars.proofs.Terms.{◌≡◌, true, false, [], ◌∷◌, refl, Table, table_of, is_alphanumeric, ascii_table}
use Rattle.sre_chars.proofs.Terms.{lower_ascii, upper_ascii, lower_of, upper_of, category}

pub underscore_is_word : (t : Table) → category t 4 95 ≡ true
underscore_is_word t = refl

pub hyphen_is_not_word : (t : Table) → category t 5 45 ≡ true
hyphen_is_not_word t = refl

pub zero_is_unicode_digit : (t : Table) → category t 10 48 ≡ true
zero_is_unicode_digit t = refl

pub colon_is_not_digit : (t : Table) → category t 1 58 ≡ true
colon_is_not_digit t = refl

pub narrow_space_is_unicode_space : (t : Table) → category t 12 8239 ≡ true
narrow_space_is_unicode_space t = refl

pub narrow_space_is_no_space : (t : Table) → category t 2 8239 ≡ false
narrow_space_is_no_space t = refl

pub next_line_is_unicode_linebreak : (t : Table) → category t 16 133 ≡ true
next_line_is_unicode_linebreak t = refl

pub return_is_not_linebreak : (t : Table) → category t 7 13 ≡ true
return_is_not_linebreak t = refl

pub letter_past_ascii_is_no_word : category ascii_table 14 233 ≡ false
letter_past_ascii_is_no_word = refl

pub cases_of_ascii : (lower_of ascii_table 65 ≡ 97) × (upper_of ascii_table 122 ≡ 90)
cases_of_ascii = (refl, refl)

pub characters_that_stay : (lower_ascii 91 ≡ 91) × (upper_ascii 96 ≡ 96) × (lower_of ascii_table 201 ≡ 201)
characters_that_stay = (refl, refl, refl)

-- a table of É (201) and é (233)
abbrev pub accented : Table
accented = table_of ((201, 233) ∷ []) ((233, 201) ∷ []) ((201, 201) ∷ (233, 233) ∷ [])

pub cases_of_accented : (lower_of accented 201 ≡ 233) × (upper_of accented 233 ≡ 201)
    × (lower_of accented 202 ≡ 202)
cases_of_accented = (refl, refl, refl)

pub words_of_accented : (category accented 14 233 ≡ true) × (category accented 15 234 ≡ true)
    × (category accented 4 233 ≡ false)
words_of_accented = (refl, refl, refl)

-- a surrogate is never alphanumeric
pub surrogate_is_no_letter : is_alphanumeric (table_of [] [] ((200, 60000) ∷ [])) 55296 ≡ false
surrogate_is_no_letter = refl
