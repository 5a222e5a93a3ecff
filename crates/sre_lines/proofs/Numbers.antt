-- What `parse` reads of digits that begin as a number.
use Rattle.sre_lines.proofs.Terms.{◌≡◌, ◌≢◌, ℕ, ◌^◌, ◌<◌, List, length, get_or, Result, Ok, Err, arith, refl, sym}
use Rattle.sre_lines.proofs.Terms.{subst, zero, suc, inl, inr, ◌≤◌, ◌∙◌, Contains, get_or_default, decimal}
use Rattle.sre_lines.proofs.Terms.{digits_value, IsInRange, decimal-digits_value, decimal_injective, IsNumeralModel}
use Rattle.sre_lines.proofs.Terms.{numerals_by_value, IsNumeral, BeginsAsNumber, All, All-nil, All-head, All-tail, lit<}
use Rattle.sre_lines.proofs.Terms.{ParsesUnsigned, AllDigits, cases_lt, IsAscii-decimal, All-cons}
use Rattle.std.specs.Str.{IsUtf8}
use Rattle.std.proofs.lemmas.Fmt.{decimal_digit, decimal_nonempty, first_decimal, digits_decimal, parse-decimal}
use Rattle.std.proofs.lemmas.Str.Parse.{tells_digits, parse_plain, digit_at, not_in_digits}
use Rattle.std.proofs.lemmas.Str.{IsUtf8-from_ascii}

pub own : IsNumeralModel (AllDigits 10) (digits_value 10)
own = numerals_by_value (AllDigits 10) tells_digits

-- the same with an element of a list of digits
pub digits_model : IsNumeralModel (All (λ c. IsInRange 48 57 c)) (digits_value 10)
digits_model = numerals_by_value (All (λ c. IsInRange 48 57 c)) (record {
  empty = All-nil (λ c. IsInRange 48 57 c);
  parts = λ c cs all. (All-head (λ c. IsInRange 48 57 c) c cs all, All-tail (λ c. IsInRange 48 57 c) c cs all);
  more = λ c cs is all. All-cons (λ c. IsInRange 48 57 c) c cs is all;
})

zero_alone : (n : ℕ) → n < 2 ^ 64 → get_or (decimal n) 0 0 ≡ 48 → length (decimal n) ≡ 1
zero_alone zero fits is = rw (decimal_digit 0 (lit< tt)) refl
zero_alone (suc n) fits is =
    let positive : 0 < suc n = omega arith in absurd (omega (arith, first_decimal (suc n) positive fits))

-- what is written of a number begins as a number
pub decimal_begins : (n : ℕ) → n < 2 ^ 64 → BeginsAsNumber (decimal n)
decimal_begins n fits =
    let some : 0 < length (decimal n) = decimal_nonempty n fits in
    let first : IsInRange 48 57 (get_or (decimal n) 0 0) = digit_at (decimal n) 0 (digits_decimal own n fits) some in
    record { some = some; low = omega (arith, first); high = omega (arith, first); zero_alone = zero_alone n fits }

-- what is read is written so
pub read_is_written : (ds : List ℕ) (n : ℕ) → BeginsAsNumber ds → ParsesUnsigned {E = Unit {0}} 64 10 ds (Ok n)
    → decimal n ≡ ds
read_is_written ds n begins parsed =
    let no_plus : get_or ds 0 0 ≢ 43 = omega (arith, begins.low) in
    let read = parse_plain own {E = Unit {0}} 64 ds (Ok n) parsed no_plus in
    let fits : digits_value 10 ds < 2 ^ 64 = read.0.2 in
    rw read.1 (decimal-digits_value own ds read.0.0 begins.some begins.zero_alone fits)

-- what is written is read
pub refused_is_not_written : (E : Type 0) (ds : List ℕ) (e : E) → ParsesUnsigned 64 10 ds (Err e) → (n : ℕ) → n < 2 ^ 64
    → decimal n ≢ ds
refused_is_not_written E ds e parsed n fits is =
    let Is : Result ℕ E → Type 0 = λ r. r ≡ Ok n in
    let as_read : Is (Err e) = parse-decimal 64 n ds (Err e) fits fits (sym is) parsed in cc

-- what is written is text
pub no_text_is_not_written : (ds : List ℕ) → ¬ (IsUtf8 ds) → (n : ℕ) → n < 2 ^ 64 → decimal n ≢ ds
no_text_is_not_written ds no_text n fits is =
    no_text (subst IsUtf8 is (IsUtf8-from_ascii (decimal n) (IsAscii-decimal n fits)))

-- and what begins otherwise is not written
pub no_number_is_not_written : (ds : List ℕ) → ¬ (BeginsAsNumber ds) → (n : ℕ) → n < 2 ^ 64 → decimal n ≢ ds
no_number_is_not_written ds otherwise n fits is = otherwise (subst BeginsAsNumber is (decimal_begins n fits))

-- what is written has digits alone, so neither spaces nor commas nor dots
pub number_lacks : (n at : ℕ) → n < 2 ^ 64 → at < 48 → ¬ (Contains (decimal n) at)
number_lacks n at fits low there =
    not_in_digits own (decimal n) at (digits_decimal own n fits) (λ range. omega (arith, range)) there.0 there.1
    (get_or_default (decimal n) there.0 0 at there.1 ∙ there.2)

-- another number is written otherwise
pub too_large_is_not_written : (ds : List ℕ) (large n : ℕ) → decimal large ≡ ds → large < 2 ^ 64 → n < 2 ^ 32
    → 2 ^ 32 ≤ large → decimal n ≢ ds
too_large_is_not_written ds large n is fits small over is' =
    let same : n ≡ large = decimal_injective n large (omega arith) fits (is' ∙ sym is) in omega arith

-- what no number below a bound is written as is a greater number
pub too_large : (digits : List ℕ) (bound : ℕ) → IsNumeral 10 digits → (get_or digits 0 0 ≡ 48 → length digits ≡ 1)
    → bound ≤ 2 ^ 64 → ((n : ℕ) → n < bound → decimal n ≢ digits) → bound ≤ digits_value 10 digits
too_large digits bound numeral zero_alone small none = elim (cases_lt (digits_value 10 digits) bound) [
  | inl below ↦ absurd (none (digits_value 10 digits) below
      (decimal-digits_value own digits numeral.1 numeral.0 zero_alone (omega arith)))
  | inr above ↦ above
]
