-- The numbers of the codes that occur in compiled patterns, and of a rule.
use Rattle.std.specs.Prelude.{◌≡◌, ◌≤◌, ℕ, Result, MatchResult}
use Rattle.sre_chars.specs.declared.constants.UnknownCode.{UnknownCode}
use Rattle.sre_chars.specs.declared.constants.SreOpcode.{SreOpcode}
use Rattle.sre_chars.specs.declared.constants.SreOpcode.TheVariants as opcode
use Rattle.sre_chars.specs.declared.constants.EmptyRule.{EmptyRule}
use Rattle.sre_chars.specs.declared.constants.EmptyRule.TheVariants as rule
use Rattle.sre_chars.specs.declared.constants.SreAtCode.{SreAtCode}
use Rattle.sre_chars.specs.declared.constants.SreAtCode.TheVariants as at
use Rattle.sre_chars.specs.declared.constants.SreCatCode.{SreCatCode}
use Rattle.sre_chars.specs.declared.constants.SreCatCode.TheVariants as category

-- the number of an opcode
abbrev pub opcode_number : SreOpcode → ℕ
opcode_number opcode.FAILURE = 0
opcode_number opcode.SUCCESS = 1
opcode_number opcode.ANY = 2
opcode_number opcode.ANY_ALL = 3
opcode_number opcode.ASSERT = 4
opcode_number opcode.ASSERT_NOT = 5
opcode_number opcode.AT = 6
opcode_number opcode.BRANCH = 7
opcode_number opcode.CATEGORY = 8
opcode_number opcode.CHARSET = 9
opcode_number opcode.BIGCHARSET = 10
opcode_number opcode.GROUPREF = 11
opcode_number opcode.GROUPREF_EXISTS = 12
opcode_number opcode.IN = 13
opcode_number opcode.INFO = 14
opcode_number opcode.JUMP = 15
opcode_number opcode.LITERAL = 16
opcode_number opcode.MARK = 17
opcode_number opcode.MAX_UNTIL = 18
opcode_number opcode.MIN_UNTIL = 19
opcode_number opcode.NOT_LITERAL = 20
opcode_number opcode.NEGATE = 21
opcode_number opcode.RANGE = 22
opcode_number opcode.REPEAT = 23
opcode_number opcode.REPEAT_ONE = 24
opcode_number opcode.SUBPATTERN = 25
opcode_number opcode.MIN_REPEAT_ONE = 26
opcode_number opcode.ATOMIC_GROUP = 27
opcode_number opcode.POSSESSIVE_REPEAT = 28
opcode_number opcode.POSSESSIVE_REPEAT_ONE = 29
opcode_number opcode.GROUPREF_IGNORE = 30
opcode_number opcode.IN_IGNORE = 31
opcode_number opcode.LITERAL_IGNORE = 32
opcode_number opcode.NOT_LITERAL_IGNORE = 33
opcode_number opcode.GROUPREF_LOC_IGNORE = 34
opcode_number opcode.IN_LOC_IGNORE = 35
opcode_number opcode.LITERAL_LOC_IGNORE = 36
opcode_number opcode.NOT_LITERAL_LOC_IGNORE = 37
opcode_number opcode.GROUPREF_UNI_IGNORE = 38
opcode_number opcode.IN_UNI_IGNORE = 39
opcode_number opcode.LITERAL_UNI_IGNORE = 40
opcode_number opcode.NOT_LITERAL_UNI_IGNORE = 41
opcode_number opcode.RANGE_UNI_IGNORE = 42

-- the number of a rule for non-boundaries on nothing
abbrev pub rule_number : EmptyRule → ℕ
rule_number rule.Never = 0
rule_number rule.NonBoundary = 1

-- the number of a position code
abbrev pub at_number : SreAtCode → ℕ
at_number at.BEGINNING = 0
at_number at.BEGINNING_LINE = 1
at_number at.BEGINNING_STRING = 2
at_number at.BOUNDARY = 3
at_number at.NON_BOUNDARY = 4
at_number at.END = 5
at_number at.END_LINE = 6
at_number at.END_STRING = 7
at_number at.LOC_BOUNDARY = 8
at_number at.LOC_NON_BOUNDARY = 9
at_number at.UNI_BOUNDARY = 10
at_number at.UNI_NON_BOUNDARY = 11

-- the number of a category code
abbrev pub category_number : SreCatCode → ℕ
category_number category.DIGIT = 0
category_number category.NOT_DIGIT = 1
category_number category.SPACE = 2
category_number category.NOT_SPACE = 3
category_number category.WORD = 4
category_number category.NOT_WORD = 5
category_number category.LINEBREAK = 6
category_number category.NOT_LINEBREAK = 7
category_number category.LOC_WORD = 8
category_number category.LOC_NOT_WORD = 9
category_number category.UNI_DIGIT = 10
category_number category.UNI_NOT_DIGIT = 11
category_number category.UNI_SPACE = 12
category_number category.UNI_NOT_SPACE = 13
category_number category.UNI_WORD = 14
category_number category.UNI_NOT_WORD = 15
category_number category.UNI_LINEBREAK = 16
category_number category.UNI_NOT_LINEBREAK = 17

-- what is made of n: the code of that number, or a refusal with the number, where all codes are below count
abbrev pub IsCodeOf : {C : Type 0} → (C → ℕ) → ℕ → ℕ → Result C UnknownCode → Type 0
IsCodeOf number count n r = MatchResult r (λ c. number c ≡ n) (λ e. (e.0 ≡ n) × (count ≤ n))
