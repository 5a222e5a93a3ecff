-- Roles: what each opcode is for, in one table.
-- For the machine and the proofs; what sre_engine makes public does not rest on it.
use Rattle.std.specs.Prelude.{ℕ, Bool, true, false, List, [], ◌∷◌, slice_index_or}
use Rattle.sre_chars.specs.declared.constants.SreOpcode.{SreOpcode}
use Rattle.sre_chars.specs.declared.constants.SreOpcode.TheVariants as opcode
use Rattle.sre_model.specs.Grammar.{word}
use Rattle.sre_model.specs.Tree.{Order, Greedy, Lazy, RunKind, GreedyRun, LazyRun, PossessiveRun, Sign, Positive}
use Rattle.sre_model.specs.Tree.{Negative}

-- the opcodes, in the order of their numbers
abbrev pub numbered : List SreOpcode
numbered =
    opcode.FAILURE ∷ opcode.SUCCESS ∷ opcode.ANY ∷ opcode.ANY_ALL ∷ opcode.ASSERT ∷ opcode.ASSERT_NOT ∷ opcode.AT
    ∷ opcode.BRANCH ∷ opcode.CATEGORY ∷ opcode.CHARSET ∷ opcode.BIGCHARSET ∷ opcode.GROUPREF ∷ opcode.GROUPREF_EXISTS
    ∷ opcode.IN ∷ opcode.INFO ∷ opcode.JUMP
    ∷ opcode.LITERAL ∷ opcode.MARK ∷ opcode.MAX_UNTIL ∷ opcode.MIN_UNTIL ∷ opcode.NOT_LITERAL ∷ opcode.NEGATE
    ∷ opcode.RANGE ∷ opcode.REPEAT ∷ opcode.REPEAT_ONE ∷ opcode.SUBPATTERN ∷ opcode.MIN_REPEAT_ONE ∷ opcode.ATOMIC_GROUP
    ∷ opcode.POSSESSIVE_REPEAT ∷ opcode.POSSESSIVE_REPEAT_ONE
    ∷ opcode.GROUPREF_IGNORE ∷ opcode.IN_IGNORE ∷ opcode.LITERAL_IGNORE ∷ opcode.NOT_LITERAL_IGNORE
    ∷ opcode.GROUPREF_LOC_IGNORE ∷ opcode.IN_LOC_IGNORE ∷ opcode.LITERAL_LOC_IGNORE ∷ opcode.NOT_LITERAL_LOC_IGNORE
    ∷ opcode.GROUPREF_UNI_IGNORE ∷ opcode.IN_UNI_IGNORE ∷ opcode.LITERAL_UNI_IGNORE ∷ opcode.NOT_LITERAL_UNI_IGNORE
    ∷ opcode.RANGE_UNI_IGNORE ∷ []

-- the one whose number is word i
abbrev pub opcode_at : List ℕ → ℕ → SreOpcode
opcode_at ws i = slice_index_or numbered (word ws i) opcode.FAILURE

-- the kinds of tests
pub data TestKind : Type 0 where
  OfAny : TestKind
  OfAnyAll : TestKind
  OfCategory : TestKind
  OfLiteral : TestKind
  OfNotLiteral : TestKind
  OfSet : TestKind

-- the last one is that of the opcodes that begin nothing where the machine can stand
pub data Role : Type 0 where
  ToFail : Role
  ToEnd : Role
  ToTest : TestKind → Role
  ToCheckPosition : Role
  ToMark : Role
  ToBranch : Role
  ToJump : Role
  ToRun : RunKind → Role
  ToRepeat : Role
  ToLoop : Order → Role
  ToRepeatPossessively : Role
  ToGroupAtomically : Role
  ToLook : Sign → Role
  ToRefer : Role
  ToCheckGroup : Role
  ToNothing : Role

abbrev pub role : SreOpcode → Role
role opcode.FAILURE = ToFail
role opcode.SUCCESS = ToEnd
role opcode.ANY = ToTest OfAny
role opcode.ANY_ALL = ToTest OfAnyAll
role opcode.CATEGORY = ToTest OfCategory
role opcode.LITERAL = ToTest OfLiteral
role opcode.LITERAL_IGNORE = ToTest OfLiteral
role opcode.LITERAL_LOC_IGNORE = ToTest OfLiteral
role opcode.LITERAL_UNI_IGNORE = ToTest OfLiteral
role opcode.NOT_LITERAL = ToTest OfNotLiteral
role opcode.NOT_LITERAL_IGNORE = ToTest OfNotLiteral
role opcode.NOT_LITERAL_LOC_IGNORE = ToTest OfNotLiteral
role opcode.NOT_LITERAL_UNI_IGNORE = ToTest OfNotLiteral
role opcode.IN = ToTest OfSet
role opcode.IN_IGNORE = ToTest OfSet
role opcode.IN_LOC_IGNORE = ToTest OfSet
role opcode.IN_UNI_IGNORE = ToTest OfSet
role opcode.AT = ToCheckPosition
role opcode.MARK = ToMark
role opcode.BRANCH = ToBranch
role opcode.JUMP = ToJump
role opcode.REPEAT_ONE = ToRun GreedyRun
role opcode.MIN_REPEAT_ONE = ToRun LazyRun
role opcode.POSSESSIVE_REPEAT_ONE = ToRun PossessiveRun
role opcode.REPEAT = ToRepeat
role opcode.MAX_UNTIL = ToLoop Greedy
role opcode.MIN_UNTIL = ToLoop Lazy
role opcode.POSSESSIVE_REPEAT = ToRepeatPossessively
role opcode.ATOMIC_GROUP = ToGroupAtomically
role opcode.ASSERT = ToLook Positive
role opcode.ASSERT_NOT = ToLook Negative
role opcode.GROUPREF = ToRefer
role opcode.GROUPREF_IGNORE = ToRefer
role opcode.GROUPREF_LOC_IGNORE = ToRefer
role opcode.GROUPREF_UNI_IGNORE = ToRefer
role opcode.GROUPREF_EXISTS = ToCheckGroup
role _ = ToNothing

-- whether it is that of tests
abbrev pub is_test_role : Role → Bool
is_test_role (ToTest kind) = true
is_test_role _ = false

abbrev pub begins_test : SreOpcode → Bool
begins_test o = is_test_role (role o)
