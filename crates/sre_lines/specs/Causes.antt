-- Why a line is no case, and how that is reported.
use Rattle.std.specs.Prelude.{ℕ, ◌≡◌, ◌≢◌, ◌==◌, ◌%◌, ◌^◌, ◌<◌, ◌≤◌, ◌⊎◌, List, [], ◌∷◌, ◌++◌, map, codes, length}
use Rattle.std.specs.Prelude.{slice_index, All, Contains, false}
use Rattle.sre_lines.specs.Terms.{decimal, digit_glyph, slice_split, IsUtf8, IsNumeral, digits_value}
use Rattle.sre_lines.specs.declared.cause.Cause.{Cause}
use Rattle.sre_lines.specs.declared.cause.Cause.TheVariants.{UnknownCommand, FieldMissing, FieldTooMany, Words, Text}
use Rattle.sre_lines.specs.declared.cause.Cause.TheVariants.{NotUtf8, Window as At-Window, Flags as At-Flags}
use Rattle.sre_lines.specs.declared.cause.NumberFault.{NumberFault}
use Rattle.sre_lines.specs.declared.cause.NumberFault.TheVariants.{NoNumber, LeadingZero, TooLarge}
use Rattle.sre_lines.specs.declared.cause.TextFault.{TextFault}
use Rattle.sre_lines.specs.declared.cause.TextFault.TheVariants.{NoForm, OddDigits, NoHexDigit}
use Rattle.sre_lines.specs.declared.cause.WindowFault.{WindowFault}
use Rattle.sre_lines.specs.declared.cause.WindowFault.TheVariants.{NoWindow, Number}
use Rattle.sre_lines.specs.declared.cause.FlagsFault.{FlagsFault}
use Rattle.sre_lines.specs.declared.cause.FlagsFault.TheVariants.{NoFlag, UnknownFlag, OutOfOrder}
use Rattle.sre_lines.specs.declared.line.Flags.{Flags}
use Rattle.sre_lines.specs.declared.line.Subject.{Subject}
use Rattle.sre_lines.specs.declared.line.TextForm.{TextForm}
use Rattle.sre_lines.specs.declared.line.TextForm.TheVariants.{Utf8}
use Rattle.sre_lines.specs.declared.line.Verb.{Verb}
use Rattle.sre_lines.specs.declared.line.Verb.TheVariants.{Check, Find}
use Rattle.sre_lines.specs.declared.line.Window.{Window}
use Rattle.sre_lines.specs.Fields.{verb_text, words_text, AreWords, form_text, bytes_text, window_text, IsWindow}
use Rattle.sre_lines.specs.Fields.{flags_text, IsSubject}

-- the field that a cause is told of
abbrev pub field_text : Cause → List ℕ
field_text UnknownCommand = codes "COMMAND"
field_text FieldMissing = codes "the line"
field_text FieldTooMany = codes "the line"
field_text (Words fault) = codes "WORDS"
field_text (Text fault) = codes "TEXT"
field_text NotUtf8 = codes "TEXT"
field_text (At-Window fault) = codes "WINDOW"
field_text (At-Flags fault) = codes "FLAGS"

-- what is wrong with a number, of which `above` tells that it is too large
abbrev pub number_text : List ℕ → NumberFault → List ℕ
number_text above NoNumber = codes "no number"
number_text above LeadingZero = codes "a leading zero"
number_text above TooLarge = above

abbrev pub window_reason : WindowFault → List ℕ
window_reason NoWindow = codes "neither all nor START..END"
window_reason (Number fault) = number_text (codes "a number above 18446744073709551615") fault

-- what is wrong with the field
abbrev pub reason_text : Cause → List ℕ
reason_text UnknownCommand = codes "unknown command"
reason_text FieldMissing = codes "a field is missing"
reason_text FieldTooMany = codes "a field too many"
reason_text (Words fault) = number_text (codes "a number above 4294967295") fault
reason_text (Text NoForm) = codes "neither b: nor s:"
reason_text (Text OddDigits) = codes "an odd number of digits"
reason_text (Text NoHexDigit) = codes "no hexadecimal digit"
reason_text NotUtf8 = codes "no UTF-8"
reason_text (At-Window fault) = window_reason fault
reason_text (At-Flags NoFlag) = codes "neither - nor flags"
reason_text (At-Flags UnknownFlag) = codes "an unknown flag"
reason_text (At-Flags OutOfOrder) = codes "flags out of order or twice"

abbrev pub cause_text : Cause → List ℕ
cause_text cause = field_text cause ++ codes ": " ++ reason_text cause

-- the parts of a list between bytes
abbrev pub parts_at : ℕ → List ℕ → List (List ℕ)
parts_at at bytes = slice_split (λ b. b == at) bytes

-- the fields of a line, divided by single spaces
abbrev pub fields_of : List ℕ → List (List ℕ)
fields_of line = parts_at 32 line

-- how many fields stand behind a command
abbrev pub field_count : Verb → ℕ
field_count Check = 1
field_count (Find finding) = 4

-- why digits write no number below a bound
abbrev pub IsNumberFault : ℕ → List ℕ → NumberFault → Type 0
IsNumberFault bound digits NoNumber = ¬ (IsNumeral 10 digits)
IsNumberFault bound digits LeadingZero = IsNumeral 10 digits × (slice_index digits 0 ≡ 48) × (1 < length digits)
IsNumberFault bound digits TooLarge = IsNumeral 10 digits × (bound ≤ digits_value 10 digits)

-- a word is written so
abbrev pub IsWord : List ℕ → Type 0
IsWord digits = (w : ℕ) × (w < 2 ^ 32) × (decimal w ≡ digits)

-- words are written so
abbrev pub IsWords : List ℕ → Type 0
IsWords field = (words : List ℕ) × AreWords words × (words_text words ≡ field)

-- why a field writes no words: behind some words the next number has a fault
pub record IsWordsFault (field : List ℕ) (fault : NumberFault) : Type 0 where
  pub words : List ℕ
  pub digits : List ℕ
  pub others : List (List ℕ)
  pub not_none : field ≢ codes "-"
  pub fit : AreWords words
  pub split : parts_at 44 field ≡ map decimal words ++ digits ∷ others
  pub is : IsNumberFault (2 ^ 32) digits fault

-- a lower-case hexadecimal digit
abbrev pub IsHexDigit : ℕ → Type 0
IsHexDigit digit = (n : ℕ) × (n < 16) × (digit ≡ digit_glyph false n)

-- one of them isn't so
abbrev pub HasOther : (ℕ → Type 0) → List ℕ → Type 0
HasOther Is bytes = (byte : ℕ) × Contains bytes byte × ¬ (Is byte)

-- bytes are written so behind a form, whether or not they are a text of it
abbrev pub IsBytes : List ℕ → Type 0
IsBytes field = (form : TextForm) × (bytes : List ℕ) × All (λ b. b < 256) bytes × (bytes_text form bytes ≡ field)

-- digits stand so behind a form
abbrev pub HasDigits : List ℕ → (List ℕ → Type 0) → Type 0
HasDigits field Are = (form : TextForm) × (digits : List ℕ) × (form_text form ++ (58 ∷ digits) ≡ field) × Are digits

-- why a field writes no bytes
abbrev pub IsTextFault : List ℕ → TextFault → Type 0
IsTextFault field NoForm = (form : TextForm) (digits : List ℕ) → form_text form ++ (58 ∷ digits) ≢ field
IsTextFault field OddDigits = HasDigits field (λ digits. length digits % 2 ≢ 0)
IsTextFault field NoHexDigit = HasDigits field (λ digits. HasOther IsHexDigit digits)

-- a field writes a window
abbrev pub IsWindowField : List ℕ → Type 0
IsWindowField field = (window : Window) × IsWindow window × (window_text window ≡ field)

-- what stands before the first dot, and behind the next one, which follows directly
abbrev pub HasEnds : List ℕ → List ℕ → List ℕ → Type 0
HasEnds field start end = (¬ (Contains start 46)) × (start ++ (46 ∷ 46 ∷ end) ≡ field)

-- a number of a window is written so
abbrev pub IsPlace : List ℕ → Type 0
IsPlace digits = (n : ℕ) × (n < 2 ^ 64) × (decimal n ≡ digits)

-- why a field writes no window
abbrev pub IsWindowFault : List ℕ → WindowFault → Type 0
IsWindowFault field NoWindow = (field ≢ codes "all") × ((start end : List ℕ) → ¬ (HasEnds field start end))
IsWindowFault field (Number fault) =
    (start end : List ℕ) × HasEnds field start end
    × (IsNumberFault (2 ^ 64) start fault ⊎ (IsPlace start × IsNumberFault (2 ^ 64) end fault))

-- a field writes flags
abbrev pub IsFlagsField : List ℕ → Type 0
IsFlagsField field = (flags : Flags) × (flags_text flags ≡ field)

-- f, a or n
abbrev pub IsFlag : ℕ → Type 0
IsFlag letter = (letter ≡ 102) ⊎ (letter ≡ 97) ⊎ (letter ≡ 110)

-- why a field writes no flags
abbrev pub IsFlagsFault : List ℕ → FlagsFault → Type 0
IsFlagsFault field NoFlag = field ≡ []
IsFlagsFault field UnknownFlag = (field ≢ codes "-") × HasOther IsFlag field
IsFlagsFault field OutOfOrder =
    (field ≢ []) × All IsFlag field × ((flags : Flags) → flags_text flags ≢ field)

-- a command, and as many fields as it takes
abbrev pub IsWhole : List ℕ → List (List ℕ) → Type 0
IsWhole command fields = (verb : Verb) × (verb_text verb ≡ command) × (length fields ≡ field_count verb)

-- why a command and the fields behind it are no case: the fields before the one that is told are of their form
abbrev pub IsCauseOf : List ℕ → List (List ℕ) → Cause → Type 0
IsCauseOf command fields UnknownCommand = (verb : Verb) → verb_text verb ≢ command
IsCauseOf command fields FieldMissing =
    (verb : Verb) × (verb_text verb ≡ command) × (length fields < field_count verb)
IsCauseOf command fields FieldTooMany =
    (verb : Verb) × (verb_text verb ≡ command) × (field_count verb < length fields)
IsCauseOf command fields (Words fault) =
    IsWhole command fields × (words : List ℕ) × (others : List (List ℕ)) × (fields ≡ words ∷ others)
    × IsWordsFault words fault
IsCauseOf command fields (Text fault) =
    IsWhole command fields × (words text : List ℕ) × (others : List (List ℕ)) × (fields ≡ words ∷ text ∷ others)
    × IsWords words × IsTextFault text fault
IsCauseOf command fields (At-Window fault) =
    IsWhole command fields × (words text window : List ℕ) × (others : List (List ℕ))
    × (fields ≡ words ∷ text ∷ window ∷ others) × IsWords words × IsBytes text × IsWindowFault window fault
IsCauseOf command fields (At-Flags fault) =
    IsWhole command fields × (words text window flags : List ℕ)
    × (fields ≡ words ∷ text ∷ window ∷ flags ∷ []) × IsWords words × IsBytes text × IsWindowField window
    × IsFlagsFault flags fault
IsCauseOf command fields NotUtf8 =
    IsWhole command fields × (words bytes window flags : List ℕ)
    × (fields ≡ words ∷ bytes_text Utf8 bytes ∷ window ∷ flags ∷ []) × IsWords words × All (λ b. b < 256) bytes
    × IsWindowField window × IsFlagsField flags × ¬ (IsUtf8 bytes)

-- four fields that no case is written as, whatever asks for matches
abbrev pub IsNoSubject : List ℕ → List ℕ → List ℕ → List ℕ → Type 0
IsNoSubject words text window flags =
    (subject : Subject) (ws bytes : List ℕ) → AreWords ws → IsSubject subject bytes → words_text ws ≡ words
    → bytes_text subject.text bytes ≡ text → window_text subject.window ≡ window → flags_text subject.flags ≢ flags

-- why a line is no case
abbrev pub IsCause : List ℕ → Cause → Type 0
IsCause line cause =
    (command : List ℕ) × (fields : List (List ℕ)) × (fields_of line ≡ command ∷ fields) × IsCauseOf command fields cause
