-- What the fields of a case are written as.
use Rattle.std.specs.Prelude.{ℕ, ◌≡◌, ◌≤◌, ◌<◌, ◌/◌, ◌%◌, ◌^◌, Bool, true, false, List, [], ◌∷◌, ◌++◌, map, codes}
use Rattle.std.specs.Prelude.{length, slice_index, All}
use Rattle.sre_lines.specs.Terms.{decimal, digit_glyph, IsUtf8, join_with_byte}
use Rattle.sre_chars.specs.declared.constants.EmptyRule.{EmptyRule}
use Rattle.sre_chars.specs.declared.constants.EmptyRule.TheVariants.{Never, NonBoundary}
use Rattle.sre_lines.specs.declared.line.Flags.{Flags}
use Rattle.sre_lines.specs.declared.line.TextForm.{TextForm}
use Rattle.sre_lines.specs.declared.line.TextForm.TheVariants.{Bytes, Utf8}
use Rattle.sre_lines.specs.declared.line.Subject.{Subject}
use Rattle.sre_lines.specs.declared.line.Case.{Case}
use Rattle.sre_lines.specs.declared.line.Case.TheVariants.{Check, Find}
use Rattle.sre_lines.specs.declared.line.Finding.TheVariants.{Match, Search, Walk}
use Rattle.sre_lines.specs.declared.line.Verb.{Verb}
use Rattle.sre_lines.specs.declared.line.Verb.TheVariants.{Check as Verb-Check, Find as Verb-Find}
use Rattle.sre_lines.specs.declared.line.Window.{Window}
use Rattle.sre_lines.specs.declared.line.Window.TheVariants.{Whole, Span}

-- digits that begin as a number without sign and without leading zeros does
pub record BeginsAsNumber (digits : List ℕ) : Type 0 where
  pub some : 0 < length digits
  pub low : 48 ≤ slice_index digits 0
  pub high : slice_index digits 0 ≤ 57
  pub zero_alone : slice_index digits 0 ≡ 48 → length digits ≡ 1

-- bytes as pairs of lower-case hexadecimal digits
abbrev pub hex_text : List ℕ → List ℕ
hex_text [] = []
hex_text (b ∷ bs) = digit_glyph false (b / 16) ∷ digit_glyph false (b % 16) ∷ hex_text bs

-- words as numbers divided by commas, none of them as `-`
abbrev pub words_text : List ℕ → List ℕ
words_text [] = codes "-"
words_text (w ∷ ws) = join_with_byte 44 (map decimal (w ∷ ws))

-- a window as `all` or `START..END`
abbrev pub window_text : Window → List ℕ
window_text Whole = codes "all"
window_text (Span start end) = decimal start ++ (46 ∷ 46 ∷ decimal end)

-- its numbers fit
abbrev pub IsWindow : Window → Type 0
IsWindow Whole = Unit {0}
IsWindow (Span start end) = (start < 2 ^ 64) × (end < 2 ^ 64)

abbrev pub flag_letters : Bool → Bool → EmptyRule → List ℕ
flag_letters false false Never = codes "-"
flag_letters true false Never = codes "f"
flag_letters false true Never = codes "a"
flag_letters true true Never = codes "fa"
flag_letters false false NonBoundary = codes "n"
flag_letters true false NonBoundary = codes "fn"
flag_letters false true NonBoundary = codes "an"
flag_letters true true NonBoundary = codes "fan"

-- flags as their letters, none of them as `-`
abbrev pub flags_text : Flags → List ℕ
flags_text flags = flag_letters flags.match_all flags.must_advance flags.empty_rule

-- the letter of a text's form
abbrev pub form_text : TextForm → List ℕ
form_text Bytes = codes "b"
form_text Utf8 = codes "s"

-- the bytes of a text as hexadecimal digits behind the letter of their form
abbrev pub bytes_text : TextForm → List ℕ → List ℕ
bytes_text form bytes = form_text form ++ (58 ∷ hex_text bytes)

-- bytes that a text of this form has
abbrev pub IsText : TextForm → List ℕ → Type 0
IsText Bytes bytes = Unit {0}
IsText Utf8 bytes = IsUtf8 bytes

-- the text, the window and the flags of a case, each behind a space
abbrev pub subject_text : Subject → List ℕ → List ℕ
subject_text subject text =
    32 ∷ bytes_text subject.text text ++ (32 ∷ window_text subject.window ++ (32 ∷ flags_text subject.flags))

-- the verb that a case begins with
abbrev pub verb_text : Verb → List ℕ
verb_text Verb-Check = codes "check"
verb_text (Verb-Find Match) = codes "match"
verb_text (Verb-Find Search) = codes "search"
verb_text (Verb-Find Walk) = codes "walk"

abbrev pub verb : Case → Verb
verb Check = Verb-Check
verb (Find finding subject) = Verb-Find finding

-- what stands behind the verb
abbrev pub fields_text : Case → List ℕ → List ℕ → List ℕ
fields_text Check words text = words_text words
fields_text (Find finding subject) words text = words_text words ++ subject_text subject text

-- a case with its words and its text as a line
abbrev pub case_text : Case → List ℕ → List ℕ → List ℕ
case_text case words text = verb_text (verb case) ++ (32 ∷ fields_text case words text)

-- words have 32 bits
abbrev pub AreWords : List ℕ → Type 0
AreWords words = All (λ w. w < 2 ^ 32) words

-- the window's numbers fit, and the text has bytes of its form
abbrev pub IsSubject : Subject → List ℕ → Type 0
IsSubject subject text = IsWindow subject.window × All (λ b. b < 256) text × IsText subject.text text

-- a case with words and a text that it can have
abbrev pub IsCase : Case → List ℕ → List ℕ → Type 0
IsCase Check words text = AreWords words
IsCase (Find finding subject) words text = AreWords words × IsSubject subject text
