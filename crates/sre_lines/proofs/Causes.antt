-- Why a line is no case: what is known of the fields that are read.
use Rattle.sre_lines.proofs.Terms.{◌≡◌, ◌≢◌, ◌==◌, ◌+◌, ◌*◌, ◌/◌, ◌%◌, ◌<◌, ℕ, List, [], ◌∷◌, ◌++◌, true, false, Option}
use Rattle.sre_lines.proofs.Terms.{Some, None, length, refl, sym, ap, subst, arith, All, IfNone, digit_glyph, eqb-true}
use Rattle.sre_lines.proofs.Terms.{All-nil, All-head, All-tail, Case, Finding, Subject, TextForm, Bytes, Utf8, Verb}
use Rattle.sre_lines.proofs.Terms.{verb_text, form_text, hex_text, words_text, AreWords, subject_text, IsSubject}
use Rattle.sre_lines.proofs.Terms.{IsCase, IsNoCase, IsCauseOf, IsHexDigit, IsWords, IsBytes, IsWindowField}
use Rattle.sre_lines.proofs.Terms.{IsFlagsField, All-cons, fields_of, IsCause, IsNoSubject, verb, fields_text}
use Rattle.sre_lines.specs.declared.line.Verb.TheVariants.{Find as Verb-Find}
use Rattle.sre_lines.specs.declared.cause.Cause.{Cause}
use Rattle.sre_lines.specs.declared.cause.Cause.TheVariants.{NotUtf8}
use Rattle.sre_lines.proofs.Cuts.{Lacks, first_part_at}

-- what follows where there is no fault
pub where_none : {F : Type 0} {A B : Type 0} (r : Option F) → (A → B) → IfNone r A → IfNone r B
where_none (Some fault) f a = tt
where_none None f a = f a

-- Bytes as hexadecimal digits.

pair_value : (h l : ℕ) → h < 16 → l < 16 → (16 * h + l < 256) × ((16 * h + l) / 16 ≡ h) × ((16 * h + l) % 16 ≡ l)
pair_value h l high low = (omega arith, omega arith, omega arith)

pair_text : (v h l d e : ℕ) (bytes digits : List ℕ) → v / 16 ≡ h → v % 16 ≡ l → d ≡ digit_glyph false h
    → e ≡ digit_glyph false l → hex_text bytes ≡ digits → hex_text (v ∷ bytes) ≡ d ∷ e ∷ digits
pair_text v h l d e bytes digits over under at_high at_low written = rw (over, under, at_high, at_low, written) refl

-- an even number of digits is what some bytes are written as
pub bytes_of : (digits : List ℕ) → length digits % 2 ≡ 0 → All IsHexDigit digits
    → (bytes : List ℕ) × All (λ b. b < 256) bytes × (hex_text bytes ≡ digits)
bytes_of [] even all = ([], All-nil (λ b. b < 256), refl)
bytes_of (d ∷ []) even all = absurd (omega arith)
bytes_of (d ∷ e ∷ digits) even all =
    let (h, high, at_high) = All-head IsHexDigit d (e ∷ digits) all in
    let (l, low, at_low) = All-head IsHexDigit e digits (All-tail IsHexDigit d (e ∷ digits) all) in
    let (bytes, small, written) = bytes_of digits (omega arith)
    (All-tail IsHexDigit e digits (All-tail IsHexDigit d (e ∷ digits) all)) in
    let (fits, over, under) = pair_value h l high low in (
      (16 * h + l) ∷ bytes,
      All-cons (λ b. b < 256) (16 * h + l) bytes fits small,
      pair_text (16 * h + l) h l d e bytes digits over under at_high at_low written,
    )

pub bytes_field : (field head digits : List ℕ) (form : TextForm) → head ++ 58 ∷ digits ≡ field → form_text form ≡ head
    → length digits % 2 ≡ 0 → All IsHexDigit digits → IsBytes field
bytes_field field head digits form cut letter even all =
    let (bytes, small, written) = bytes_of digits even all in (form, bytes, small, rw (letter, written) cut)

pub nothing : (xs : List ℕ) → true ≡ (length xs == 0) → xs ≡ []
nothing [] test = refl
nothing (x ∷ xs) test = absurd (omega (arith, eqb-true (length (x ∷ xs)) 0 (sym test)))

-- a line that is no case begins with a command
pub no_case_behind : (line command rest : List ℕ) → IsNoCase line → command ++ 32 ∷ rest ≡ line
    → (case : Case) (words text : List ℕ) → IsCase case words text → verb_text (verb case) ≡ command
    → fields_text case words text ≢ rest
no_case_behind line command rest other cut case words text lawful is written =
    other.not_written case words text lawful (rw (is, written) cut)

-- the four fields behind a command that asks for matches
pub no_subject : (fields words rest text left window flags : List ℕ) → words ++ 32 ∷ rest ≡ fields
    → text ++ 32 ∷ left ≡ rest → window ++ 32 ∷ flags ≡ left
    → ((subject : Subject) (ws bytes : List ℕ) → AreWords ws → IsSubject subject bytes
    → words_text ws ++ subject_text subject bytes ≢ fields) → IsNoSubject words text window flags
no_subject fields words rest text left window flags cut cut' cut'' other subject ws bytes fit lawful a b c d =
    other subject ws bytes fit lawful (rw (a, b, c, d, cut'', cut') cut)

-- where each field is of its form and they still are no case, the text is no UTF-8
pub not_utf8 : (words text window flags : List ℕ) → IsNoSubject words text window flags → IsWords words → IsBytes text
    → IsWindowField window → IsFlagsField flags → (finding : Finding)
    → IsCauseOf (verb_text (Verb-Find finding)) (words ∷ text ∷ window ∷ flags ∷ []) NotUtf8
not_utf8 words text window flags other (ws, fit, a) (Bytes, bytes, small, b) (w, fits, c) (f, d) finding =
    absurd (other (record { text = Bytes; window = w; flags = f }) ws bytes fit (fits, small, tt) a b c d)
not_utf8 words text window flags other (ws, fit, a) (Utf8, bytes, small, b) (w, fits, c) (f, d) finding = (
  (Verb-Find finding, refl, refl),
  words,
  bytes,
  window,
  flags,
  ap (λ t. words ∷ t ∷ window ∷ flags ∷ []) (sym b),
  (ws, fit, a),
  small,
  (w, fits, c),
  (f, d),
  λ is. other (record { text = Utf8; window = w; flags = f }) ws bytes fit (fits, small, is) a b c d,
)

-- the command, and the fields behind it
pub behind_command : (line command rest : List ℕ) (verb : Verb) (cause : Cause) → command ++ 32 ∷ rest ≡ line
    → Lacks command 32 → verb_text verb ≡ command → IsCauseOf (verb_text verb) (fields_of rest) cause
    → IsCause line cause
behind_command line command rest verb cause cut none is of = (
  command,
  fields_of rest,
  first_part_at 32 line command rest cut none,
  subst (λ text. IsCauseOf text (fields_of rest) cause) is of,
)
