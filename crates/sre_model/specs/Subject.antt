-- What stays fixed while a code is matched, and what is tested at a position in it.
-- Of the specification: what sre_engine makes public rests on it.
use Rattle.std.specs.Prelude.{ℕ, zero, suc, ◌+◌, ◌-◌, Bool, true, false, not, ◌&&◌, ◌||◌, cond, List, nat_eq, nat_lt}
use Rattle.std.specs.Prelude.{slice_index}
use Rattle.sre_chars.specs.Tables.{Table}
use Rattle.sre_chars.specs.Categories.{is_word, is_unicode_word, is_linebreak}
use Rattle.sre_chars.specs.declared.constants.EmptyRule.{EmptyRule}
use Rattle.sre_chars.specs.declared.constants.EmptyRule.TheVariants.{Never, NonBoundary}
use Rattle.sre_chars.specs.declared.constants.SreAtCode.{SreAtCode}
use Rattle.sre_chars.specs.declared.constants.SreAtCode.TheVariants.{BEGINNING, BEGINNING_LINE, BEGINNING_STRING}
use Rattle.sre_chars.specs.declared.constants.SreAtCode.TheVariants.{BOUNDARY, NON_BOUNDARY, END, END_LINE, END_STRING}
use Rattle.sre_chars.specs.declared.constants.SreAtCode.TheVariants.{LOC_BOUNDARY, LOC_NON_BOUNDARY, UNI_BOUNDARY}
use Rattle.sre_chars.specs.declared.constants.SreAtCode.TheVariants.{UNI_NON_BOUNDARY}
use Rattle.sre_model.specs.Tree.{Test, Fold}
use Rattle.sre_model.specs.Characters.{holds, folded}

-- the characters of the text, the window's end, the table, and the rule for non-boundaries on nothing
pub record Subject : Type 0 where
  pub text : List ℕ
  pub end : ℕ
  pub table : Table
  pub empty_rule : EmptyRule

-- the character at a position
abbrev pub char_at : Subject → ℕ → ℕ
char_at s p = slice_index s.text p

-- whether a test takes the character at p, which is inside the window
abbrev pub passes : Subject → Test → ℕ → Bool
passes s t p = nat_lt p s.end && holds s.table t (char_at s p)

-- whether p is past the text's start and a test of characters holds for the one before
abbrev pub before : Subject → (ℕ → Bool) → ℕ → Bool
before s test p = nat_lt 0 p && test (char_at s (p - 1))

-- whether p is before the window's end and a test of characters holds for the one there
abbrev pub after : Subject → (ℕ → Bool) → ℕ → Bool
after s test p = nat_lt p s.end && test (char_at s p)

-- p and the window's end are both 0: no boundary is there
abbrev pub is_on_nothing : Subject → ℕ → Bool
is_on_nothing s p = nat_eq p 0 && nat_eq s.end 0

abbrev pub is_never : EmptyRule → Bool
is_never Never = true
is_never NonBoundary = false

-- no non-boundary is there either, where the rule is that there never is one
abbrev pub bars_non_boundary : Subject → ℕ → Bool
bars_non_boundary s p = is_on_nothing s p && is_never s.empty_rule

-- whether one of the characters on both sides of p is a word's, and the other is none
abbrev pub is_boundary : Subject → (ℕ → Bool) → ℕ → Bool
is_boundary s word p = cond (before s word p) (not (after s word p)) (after s word p)

abbrev pub holds_at : Subject → SreAtCode → ℕ → Bool
holds_at s BEGINNING p = nat_eq p 0
holds_at s BEGINNING_STRING p = nat_eq p 0
holds_at s BEGINNING_LINE p = nat_eq p 0 || before s is_linebreak p
holds_at s END p = nat_eq p s.end || (nat_eq (p + 1) s.end && after s is_linebreak p)
holds_at s END_LINE p = nat_eq p s.end || after s is_linebreak p
holds_at s END_STRING p = nat_eq p s.end
holds_at s BOUNDARY p = not (is_on_nothing s p) && is_boundary s is_word p
holds_at s NON_BOUNDARY p = not (bars_non_boundary s p) && not (is_boundary s is_word p)
holds_at s LOC_BOUNDARY p = not (is_on_nothing s p) && is_boundary s is_word p
holds_at s LOC_NON_BOUNDARY p = not (bars_non_boundary s p) && not (is_boundary s is_word p)
holds_at s UNI_BOUNDARY p = not (is_on_nothing s p) && is_boundary s (is_unicode_word s.table) p
holds_at s UNI_NON_BOUNDARY p = not (bars_non_boundary s p) && not (is_boundary s (is_unicode_word s.table) p)

-- the n characters from x on are those from p on, both folded
abbrev pub same_folded : Subject → Fold → ℕ → ℕ → ℕ → Bool
same_folded s f zero x p = true
same_folded s f (suc n) x p =
    nat_eq (folded s.table f (char_at s x)) (folded s.table f (char_at s p)) && same_folded s f n (x + 1) (p + 1)
