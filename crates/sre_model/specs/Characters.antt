-- Which characters a test or a set takes.
-- Of the specification: what sre_engine makes public rests on it.
use Rattle.std.specs.Prelude.{ℕ, ◌+◌, ◌*◌, ◌/◌, ◌%◌, ◌^◌, Bool, true, false, not, ◌&&◌, ◌||◌, cond, List, [], ◌∷◌}
use Rattle.std.specs.Prelude.{nat_eq, nat_lt, slice_index}
use Rattle.sre_chars.specs.Tables.{Table, is_between, lower_ascii, upper_ascii, lower_of, upper_of}
use Rattle.sre_chars.specs.Categories.{category, is_linebreak}
use Rattle.sre_chars.specs.Numbers.{category_number}
use Rattle.sre_model.specs.Tree.{Fold, Plain, Ascii, Locale, Unicode, SetItem, Single, Range, RangeUniIgnore, Category}
use Rattle.sre_model.specs.Tree.{Charset, BigCharset, Negate, Test, Any, AnyAll, InCategory, Literal, NotLiteral, In}

-- whether bit k of a list of words is set, the least significant of the first word being bit 0
abbrev pub bit_of : List ℕ → ℕ → Bool
bit_of words k = nat_eq (slice_index words (k / 32) / 2 ^ (k % 32) % 2) 1

-- whether a set's item holds for c
abbrev pub item_holds : Table → SetItem → ℕ → Bool
item_holds t (Single v) c = nat_eq c v
item_holds t (Range low high) c = is_between low high c
item_holds t (RangeUniIgnore low high) c = is_between low high c || is_between low high (upper_of t c)
item_holds t (Category n) c = category t (category_number n) c
item_holds t (Charset bits) c = nat_lt c 256 && bit_of bits c
item_holds t (BigCharset numbers bits) c = nat_lt c 65536 && bit_of bits (256 * slice_index numbers (c / 256) + c % 256)
item_holds t Negate c = false

-- the verdict on c: that of the first item that holds, and each NEGATE before it turns it over;
-- where no item holds, the opposite of the verdict at the end
abbrev pub verdict : Table → Bool → List SetItem → ℕ → Bool
verdict t taken [] c = not taken
verdict t taken (Negate ∷ rest) c = verdict t (not taken) rest c
verdict t taken (item ∷ rest) c = cond (item_holds t item c) taken (verdict t taken rest c)

abbrev pub is_member : Table → List SetItem → ℕ → Bool
is_member t set c = verdict t true set c

-- a character as a folding shows it
abbrev pub folded : Table → Fold → ℕ → ℕ
folded t Plain c = c
folded t Ascii c = lower_ascii c
folded t Locale c = lower_ascii c
folded t Unicode c = lower_of t c

-- whether v is c under a folding; under that of the locale v may be either case of c
abbrev pub is_literal : Table → Fold → ℕ → ℕ → Bool
is_literal t Locale v c = nat_eq v c || nat_eq v (lower_ascii c) || nat_eq v (upper_ascii c)
is_literal t fold v c = nat_eq v (folded t fold c)

-- whether a set takes c under a folding; under that of the locale it may take either case of c
abbrev pub in_set : Table → Fold → List SetItem → ℕ → Bool
in_set t Locale set c = is_member t set (lower_ascii c) || is_member t set (upper_ascii c)
in_set t fold set c = is_member t set (folded t fold c)

-- whether a test takes c
abbrev pub holds : Table → Test → ℕ → Bool
holds t Any c = not (is_linebreak c)
holds t AnyAll c = true
holds t (InCategory n) c = category t (category_number n) c
holds t (Literal fold v) c = is_literal t fold v c
holds t (NotLiteral fold v) c = not (is_literal t fold v c)
holds t (In fold set) c = in_set t fold set c
