-- Lines cut at their spaces.
use Rattle.sre_lines.proofs.Terms.{◌≡◌, ◌≢◌, ℕ, ◌/◌, ◌%◌, ◌<◌, false, List, [], ◌∷◌, ◌++◌, length, get_or, zero, suc}
use Rattle.sre_lines.proofs.Terms.{arith, refl, sym, ap, ◌∙◌, inl, inr, All, codes, decimal, digit_glyph, nat_tests}
use Rattle.sre_lines.proofs.Terms.{TextForm, Bytes, Utf8, Subject, Span, hex_text, words_text, window_text, flags_text}
use Rattle.sre_lines.proofs.Terms.{form_text, bytes_text, IsText, IsSubject, IsCase, subject_text, AreWords, verb_text}
use Rattle.sre_lines.proofs.Terms.{case_text, Case, Check, Verb, Finding, IsPlace, IsWindowField, All-contains}
use Rattle.sre_lines.proofs.Terms.{All-from_recursion, Contains-append_cases, AllByRecursion, HasEnds, IsWindow, verb}
use Rattle.sre_lines.proofs.Terms.{fields_text}
use Rattle.sre_lines.specs.declared.line.Window.{Window}
use Rattle.sre_lines.specs.declared.line.Window.TheVariants.{Whole}
use Rattle.sre_lines.specs.declared.line.Case.TheVariants.{Find}
use Rattle.sre_lines.specs.declared.line.Verb.TheVariants.{Check as Verb-Check, Find as Verb-Find}
use Rattle.sre_lines.specs.declared.line.Finding.TheVariants.{Match, Search, Walk}
use Rattle.sre_lines.proofs.Cuts.{Lacks, cut_once, uncut}
use Rattle.sre_lines.proofs.Numbers.{number_lacks}
use Rattle.sre_lines.proofs.Pairs.{bytes_once}
use Rattle.sre_lines.proofs.Words.{fits_head, tail_fits}

-- a list that is written out
spelled : (at : ℕ) (xs : List ℕ) → AllByRecursion (λ x. x ≢ at) xs → Lacks xs at
spelled at xs others there = All-contains (λ x. x ≢ at) xs at (All-from_recursion (λ x. x ≢ at) xs others) there refl

lacks_at : (at x : ℕ) (xs : List ℕ) → x ≢ at → Lacks xs at → (k : ℕ) → k < length (x ∷ xs) → get_or (x ∷ xs) k at ≢ at
lacks_at at x xs differs none zero within is = differs is
lacks_at at x xs differs none (suc k) within is = none (k, omega arith, is)

lacks_cons : (at x : ℕ) (xs : List ℕ) → x ≢ at → Lacks xs at → Lacks (x ∷ xs) at
lacks_cons at x xs differs none there = lacks_at at x xs differs none there.0 there.1 there.2

lacks_append : (at : ℕ) (xs ys : List ℕ) → Lacks xs at → Lacks ys at → Lacks (xs ++ ys) at
lacks_append at xs ys none none' there =
    elim (Contains-append_cases xs ys at there) [ inl front ↦ none front | inr back ↦ none' back ]

pub words_lack : (at : ℕ) → at < 44 → (words : List ℕ) → AreWords words → Lacks (words_text words) at
words_lack at low [] all = spelled at (codes "-") (omega arith)
words_lack at low (w ∷ []) all = number_lacks w at (fits_head w [] all) (omega arith)
words_lack at low (w ∷ v ∷ more) all =
    lacks_append at (decimal w) (44 ∷ words_text (v ∷ more))
    (number_lacks w at (fits_head w (v ∷ more) all) (omega arith))
    (lacks_cons at 44 (words_text (v ∷ more)) (omega arith)
    (words_lack at low (v ∷ more) (tail_fits w (v ∷ more) all)))

glyph_lacks : (d : ℕ) → digit_glyph false d ≢ 32
glyph_lacks d = grind (arith, nat_tests)

hex_lacks : (bytes : List ℕ) → Lacks (hex_text bytes) 32
hex_lacks [] = spelled 32 [] tt
hex_lacks (b ∷ bytes) =
    lacks_cons 32 (digit_glyph false (b / 16)) (digit_glyph false (b % 16) ∷ hex_text bytes) (glyph_lacks (b / 16))
    (lacks_cons 32 (digit_glyph false (b % 16)) (hex_text bytes) (glyph_lacks (b % 16)) (hex_lacks bytes))

form_lacks : (form : TextForm) (at : ℕ) → at < 98 → Lacks (form_text form) at
form_lacks Bytes at low = spelled at (codes "b") (omega arith)
form_lacks Utf8 at low = spelled at (codes "s") (omega arith)

bytes_lack : (form : TextForm) (bytes : List ℕ) → Lacks (bytes_text form bytes) 32
bytes_lack form bytes =
    lacks_append 32 (form_text form) (58 ∷ hex_text bytes) (form_lacks form 32 (omega arith))
    (lacks_cons 32 58 (hex_text bytes) (omega arith) (hex_lacks bytes))

window_lacks : (window : Window) → IsWindow window → Lacks (window_text window) 32
window_lacks Whole fits = spelled 32 (codes "all") (omega arith)
window_lacks (Span start end) fits =
    lacks_append 32 (decimal start) (46 ∷ 46 ∷ decimal end) (number_lacks start 32 fits.0 (omega arith))
    (lacks_cons 32 46 (46 ∷ decimal end) (omega arith)
    (lacks_cons 32 46 (decimal end) (omega arith) (number_lacks end 32 fits.1 (omega arith))))

verb_lacks : (v : Verb) → Lacks (verb_text v) 32
verb_lacks Verb-Check = spelled 32 (codes "check") (omega arith)
verb_lacks (Verb-Find Match) = spelled 32 (codes "match") (omega arith)
verb_lacks (Verb-Find Search) = spelled 32 (codes "search") (omega arith)
verb_lacks (Verb-Find Walk) = spelled 32 (codes "walk") (omega arith)

-- a window is `all`, or two numbers with two dots between them
pub no_window : (field : List ℕ) → field ≢ codes "all"
    → ((start end : List ℕ) → HasEnds field start end → IsPlace start → ¬ (IsPlace end))
    → (window : Window) → IsWindow window → window_text window ≢ field
no_window field no_word none Whole fits is = no_word (sym is)
no_window field no_word none (Span start end) fits is =
    none (decimal start) (decimal end) (number_lacks start 46 fits.0 (omega arith), is) (start, fits.0, refl)
    (end, fits.1, refl)

pub window_of_ends : (field start end : List ℕ) → HasEnds field start end → IsPlace start → IsPlace end
    → IsWindowField field
window_of_ends field start end (none, is) (n, fits, at_start) (m, fits', at_end) =
    (Span n m, (fits, fits'), rw (at_start, at_end) is)

pub no_dot : (field start end : List ℕ) → Lacks field 46 → ¬ (HasEnds field start end)
no_dot field start end none (lacks, is) = uncut 46 start (46 ∷ end) field none is

module _ (field first rest start end : List ℕ) (cut : first ++ 46 ∷ rest ≡ field) (none : Lacks first 46)
    (ends : HasEnds field start end) where
  -- the first dot is directly followed by another
  pub first_dot : (start ≡ first) × (46 ∷ end ≡ rest)
  first_dot = cut_once 46 start (46 ∷ end) first rest ends.0 none (ends.1 ∙ sym cut)

  pub no_next_dot : ¬ (Lacks rest 46)
  no_next_dot none' = uncut 46 [] end rest none' first_dot.1

  pub next_dot : (between last : List ℕ) → between ++ 46 ∷ last ≡ rest → Lacks between 46
      → (between ≡ []) × (end ≡ last)
  next_dot between last cut' none' =
      let parts = cut_once 46 [] end between last (spelled 46 [] tt) none' (first_dot.1 ∙ sym cut') in
      (sym parts.0, parts.1)

pub ends_of : (field first rest between last : List ℕ) → first ++ 46 ∷ rest ≡ field → Lacks first 46
    → between ++ 46 ∷ last ≡ rest → between ≡ [] → HasEnds field first last
ends_of field first rest between last cut none cut' nothing =
    (none, ap (λ r. first ++ 46 ∷ r) (rw nothing at cut') ∙ cut)

-- the fields of a subject, one after the other
abbrev window_on : Subject → List ℕ
window_on subject = window_text subject.window ++ (32 ∷ flags_text subject.flags)

module _ (fields field left : List ℕ) (subject : Subject) (cut : field ++ 32 ∷ left ≡ fields)
    (none : Lacks field 32) where
  pub after_words : (words text : List ℕ) → AreWords words → words_text words ++ subject_text subject text ≡ fields
      → (words_text words ≡ field) × (bytes_text subject.text text ++ (32 ∷ window_on subject) ≡ left)
  after_words words text fit is =
      cut_once 32 (words_text words) (bytes_text subject.text text ++ (32 ∷ window_on subject)) field left
      (words_lack 32 (omega arith) words fit) none (is ∙ sym cut)

  pub after_text : (text : List ℕ) → bytes_text subject.text text ++ (32 ∷ window_on subject) ≡ fields
      → (bytes_text subject.text text ≡ field) × (window_on subject ≡ left)
  after_text text is =
      cut_once 32 (bytes_text subject.text text) (window_on subject) field left (bytes_lack subject.text text) none
      (is ∙ sym cut)

  pub after_window : IsWindow subject.window → window_on subject ≡ fields
      → (window_text subject.window ≡ field) × (flags_text subject.flags ≡ left)
  after_window fits is =
      cut_once 32 (window_text subject.window) (flags_text subject.flags) field left
      (window_lacks subject.window fits) none (is ∙ sym cut)

letter_once : (form other : TextForm) → form_text form ≡ form_text other → form ≡ other
letter_once Bytes Bytes is = refl
letter_once Utf8 Utf8 is = refl
letter_once Bytes Utf8 is = absurd (omega (arith, ap (λ xs. get_or xs 0 0) is))
letter_once Utf8 Bytes is = absurd (omega (arith, ap (λ xs. get_or xs 0 0) is))

-- the letter of a text's form, and its digits
module _ (field head digits : List ℕ) (cut : head ++ 58 ∷ digits ≡ field) (none : Lacks head 58) where
  letter_of : (form : TextForm) (digits' : List ℕ) → form_text form ++ 58 ∷ digits' ≡ field
      → (form_text form ≡ head) × (digits' ≡ digits)
  letter_of form digits' is =
      cut_once 58 (form_text form) digits' head digits (form_lacks form 58 (omega arith)) none (is ∙ sym cut)

  -- a letter of no form
  pub no_form : ((form : TextForm) → form_text form ≢ head) → (form : TextForm) (digits' : List ℕ)
      → form_text form ++ (58 ∷ digits') ≢ field
  no_form other form digits' is = other form (letter_of form digits' is).0

  -- bytes that are no text of the form
  pub no_text : (form : TextForm) (read : List ℕ) → form_text form ≡ head → hex_text read ≡ digits
      → All (λ b. b < 256) read → ¬ (IsText form read) → (other : TextForm) (bytes : List ℕ)
      → All (λ b. b < 256) bytes → IsText other bytes → bytes_text other bytes ≢ field
  no_text form read letter written fit none_there other bytes fit' there is =
      let parts = letter_of other (hex_text bytes) is in
      let one : other ≡ form = letter_once other form (parts.0 ∙ sym letter) in
      let same : bytes ≡ read = bytes_once bytes read fit' fit (parts.1 ∙ sym written) in
      none_there (rw (one, same) at there)

no_check : (finding : Finding) → verb_text Verb-Check ≢ verb_text (Verb-Find finding)
no_check Match is = omega (arith, ap (λ xs. get_or xs 0 0) is)
no_check Search is = omega (arith, ap (λ xs. get_or xs 0 0) is)
no_check Walk is = omega (arith, ap (λ xs. get_or xs 0 0) is)

-- a line's verb, and the fields behind it
module _ (line field left : List ℕ) (cut : field ++ 32 ∷ left ≡ line) (none : Lacks field 32) where
  after_verb : (case : Case) (words text : List ℕ) → case_text case words text ≡ line
      → (verb_text (verb case) ≡ field) × (fields_text case words text ≡ left)
  after_verb case words text is =
      cut_once 32 (verb_text (verb case)) (fields_text case words text) field left (verb_lacks (verb case)) none
      (is ∙ sym cut)

  pub other_verb_is_no_case : ((v : Verb) → verb_text v ≢ field) → (case : Case) (words text : List ℕ)
      → case_text case words text ≢ line
  other_verb_is_no_case other case words text is = other (verb case) (after_verb case words text is).0

  -- a line that begins with `check`, and whose other fields are no words
  pub no_words_no_case : verb_text Verb-Check ≡ field → ((ws : List ℕ) → AreWords ws → words_text ws ≢ left)
      → (case : Case) (words text : List ℕ) → IsCase case words text → case_text case words text ≢ line
  no_words_no_case begins other Check words text lawful is = other words lawful (after_verb Check words text is).1
  no_words_no_case begins other (Find finding subject) words text lawful is =
      no_check finding (begins ∙ sym (after_verb (Find finding subject) words text is).0)

  -- a line that begins with another verb, and whose other fields are none of a subject
  pub no_subject_no_case : (finding : Finding) → verb_text (Verb-Find finding) ≡ field
      → ((subject : Subject) (ws text : List ℕ) → AreWords ws → IsSubject subject text
      → words_text ws ++ subject_text subject text ≢ left)
      → (case : Case) (words text : List ℕ) → IsCase case words text → case_text case words text ≢ line
  no_subject_no_case finding begins other Check words text lawful is =
      no_check finding ((after_verb Check words text is).0 ∙ sym begins)
  no_subject_no_case finding begins other (Find given subject) words text lawful is =
      other subject words text lawful.0 lawful.1 (after_verb (Find given subject) words text is).1
