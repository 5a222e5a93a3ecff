-- The grammar: which bytecode is a tree's.
-- Of the specification: what sre_engine makes public rests on it.
use Rattle.std.specs.Prelude.{ℕ, ◌+◌, ◌*◌, ◌-◌, ◌/◌, ◌%◌, ◌≡◌, ◌<◌, ◌≤◌, List, [], ◌∷◌, length, Some, slice_get, Bool}
use Rattle.std.specs.Prelude.{true, cond, nat_eq, nat_le, drop, slice_index, slice_range, EachIndex}
use Rattle.std.specs.List.{flat_map}
use Rattle.sre_chars.specs.Numbers.{opcode_number, at_number, category_number}
use Rattle.sre_chars.specs.declared.constants.SreOpcode.{SreOpcode}
use Rattle.sre_chars.specs.declared.constants.SreOpcode.TheVariants as opcode
use Rattle.sre_model.specs.Tree.{Tree, Empty, Then, Item, Fail, One, At, Mark, Branch, Loop, Run, PossessiveLoop}
use Rattle.sre_model.specs.Tree.{Atomic, Look, Reference, Exists, ExistsElse, Trees, Only, Or, Test, Any, AnyAll}
use Rattle.sre_model.specs.Tree.{InCategory, Literal, NotLiteral, In, Order, Greedy, Lazy, RunKind, GreedyRun, LazyRun}
use Rattle.sre_model.specs.Tree.{PossessiveRun, Sign, Positive, Negative, Fold, Plain, Ascii, Locale, Unicode, SetItem}
use Rattle.sre_model.specs.Tree.{Single, Range, RangeUniIgnore, Category, Charset, BigCharset, Negate}

-- word i is there, and is v
abbrev pub Word : List ℕ → ℕ → ℕ → Type 0
Word ws i v = slice_get ws i ≡ Some v

-- word i, or 0 past the end
abbrev pub word : List ℕ → ℕ → ℕ
word ws i = slice_index ws i

-- word i is there, and is an opcode's number
abbrev pub Opcode : List ℕ → ℕ → SreOpcode → Type 0
Opcode ws i o = Word ws i (opcode_number o)

-- where the skip word at q leads
abbrev pub skip : List ℕ → ℕ → ℕ
skip ws q = q + word ws q

abbrev pub literal_opcode : Fold → SreOpcode
literal_opcode Plain = opcode.LITERAL
literal_opcode Ascii = opcode.LITERAL_IGNORE
literal_opcode Locale = opcode.LITERAL_LOC_IGNORE
literal_opcode Unicode = opcode.LITERAL_UNI_IGNORE

abbrev pub not_literal_opcode : Fold → SreOpcode
not_literal_opcode Plain = opcode.NOT_LITERAL
not_literal_opcode Ascii = opcode.NOT_LITERAL_IGNORE
not_literal_opcode Locale = opcode.NOT_LITERAL_LOC_IGNORE
not_literal_opcode Unicode = opcode.NOT_LITERAL_UNI_IGNORE

abbrev pub set_opcode : Fold → SreOpcode
set_opcode Plain = opcode.IN
set_opcode Ascii = opcode.IN_IGNORE
set_opcode Locale = opcode.IN_LOC_IGNORE
set_opcode Unicode = opcode.IN_UNI_IGNORE

abbrev pub reference_opcode : Fold → SreOpcode
reference_opcode Plain = opcode.GROUPREF
reference_opcode Ascii = opcode.GROUPREF_IGNORE
reference_opcode Locale = opcode.GROUPREF_LOC_IGNORE
reference_opcode Unicode = opcode.GROUPREF_UNI_IGNORE

abbrev pub run_opcode : RunKind → SreOpcode
run_opcode GreedyRun = opcode.REPEAT_ONE
run_opcode LazyRun = opcode.MIN_REPEAT_ONE
run_opcode PossessiveRun = opcode.POSSESSIVE_REPEAT_ONE

-- what ends a loop's body
abbrev pub until_opcode : Order → SreOpcode
until_opcode Greedy = opcode.MAX_UNTIL
until_opcode Lazy = opcode.MIN_UNTIL

abbrev pub look_opcode : Sign → SreOpcode
look_opcode Positive = opcode.ASSERT
look_opcode Negative = opcode.ASSERT_NOT

abbrev pub test_opcode : Test → SreOpcode
test_opcode Any = opcode.ANY
test_opcode AnyAll = opcode.ANY_ALL
test_opcode (InCategory c) = opcode.CATEGORY
test_opcode (Literal fold v) = literal_opcode fold
test_opcode (NotLiteral fold v) = not_literal_opcode fold
test_opcode (In fold set) = set_opcode fold

-- an item's first word
abbrev pub item_opcode : Item → SreOpcode
item_opcode Fail = opcode.FAILURE
item_opcode (One t) = test_opcode t
item_opcode (At a) = opcode.AT
item_opcode (Mark n) = opcode.MARK
item_opcode (Branch ts) = opcode.BRANCH
item_opcode (Loop o low high body) = opcode.REPEAT
item_opcode (Run kind low high t) = run_opcode kind
item_opcode (PossessiveLoop low high body) = opcode.POSSESSIVE_REPEAT
item_opcode (Atomic body) = opcode.ATOMIC_GROUP
item_opcode (Look sign back body) = look_opcode sign
item_opcode (Reference fold g) = reference_opcode fold
item_opcode (Exists g there) = opcode.GROUPREF_EXISTS
item_opcode (ExistsElse g there absent) = opcode.GROUPREF_EXISTS

-- the four bytes of a word, least significant first
abbrev pub bytes_of : ℕ → List ℕ
bytes_of w = (w % 256) ∷ (w / 256 % 256) ∷ (w / 65536 % 256) ∷ (w / 16777216 % 256) ∷ []

-- each byte of a word is below the count
abbrev pub BytesBelow : ℕ → ℕ → Type 0
BytesBelow count w =
    (w % 256 < count) × (w / 256 % 256 < count) × (w / 65536 % 256 < count) × (w / 16777216 % 256 < count)

-- each block number is below the count
abbrev pub BlocksBelow : ℕ → List ℕ → Type 0
BlocksBelow count blocks = EachIndex blocks (λ k. BytesBelow count (slice_index blocks k))

-- the words of [i, j) are a set's items
abbrev pub ReadsSet : List ℕ → ℕ → ℕ → List SetItem → Type 0
ReadsSet ws i j [] = i ≡ j
ReadsSet ws i j (Single v ∷ rest) = Opcode ws i opcode.LITERAL × Word ws (i + 1) v × ReadsSet ws (i + 2) j rest
ReadsSet ws i j (Range low high ∷ rest) =
    Opcode ws i opcode.RANGE × Word ws (i + 1) low × Word ws (i + 2) high × ReadsSet ws (i + 3) j rest
ReadsSet ws i j (RangeUniIgnore low high ∷ rest) =
    Opcode ws i opcode.RANGE_UNI_IGNORE × Word ws (i + 1) low × Word ws (i + 2) high × ReadsSet ws (i + 3) j rest
ReadsSet ws i j (Category c ∷ rest) =
    Opcode ws i opcode.CATEGORY × Word ws (i + 1) (category_number c) × ReadsSet ws (i + 2) j rest
ReadsSet ws i j (Charset bits ∷ rest) =
    Opcode ws i opcode.CHARSET × (bits ≡ slice_range ws (i + 1) (i + 9)) × (i + 9 ≤ length ws)
    × ReadsSet ws (i + 9) j rest
ReadsSet ws i j (BigCharset numbers bits ∷ rest) =
    Opcode ws i opcode.BIGCHARSET × (numbers ≡ flat_map bytes_of (slice_range ws (i + 2) (i + 66)))
    × BlocksBelow (word ws (i + 1)) (slice_range ws (i + 2) (i + 66))
    × (bits ≡ slice_range ws (i + 66) (i + 66 + word ws (i + 1) * 8)) × (i + 66 + word ws (i + 1) * 8 ≤ length ws)
    × ReadsSet ws (i + 66 + word ws (i + 1) * 8) j rest
ReadsSet ws i j (Negate ∷ rest) = Opcode ws i opcode.NEGATE × ReadsSet ws (i + 1) j rest

-- the operands of a test whose opcode is at i, up to j
abbrev pub TestOperands : List ℕ → ℕ → ℕ → Test → Type 0
TestOperands ws i j Any = j ≡ i + 1
TestOperands ws i j AnyAll = j ≡ i + 1
TestOperands ws i j (InCategory c) = Word ws (i + 1) (category_number c) × (j ≡ i + 2)
TestOperands ws i j (Literal fold v) = Word ws (i + 1) v × (j ≡ i + 2)
TestOperands ws i j (NotLiteral fold v) = Word ws (i + 1) v × (j ≡ i + 2)
TestOperands ws i j (In fold set) =
    (j ≡ skip ws (i + 1)) × ReadsSet ws (i + 2) (j - 1) set × Opcode ws (j - 1) opcode.FAILURE

-- JUMP at k, to j
abbrev pub JumpsTo : List ℕ → ℕ → ℕ → Type 0
JumpsTo ws k j = Opcode ws k opcode.JUMP × (j ≡ skip ws (k + 1))

abbrev mutual
  -- the words of [i, j) are the tree's items, one after the other
  pub Reads : List ℕ → ℕ → ℕ → Tree → Type 0
  Reads ws i j Empty = i ≡ j
  Reads ws i j (Then item rest) =
      (k : ℕ) × (Opcode ws i (item_opcode item) × Operands ws i k item) × Reads ws k j rest

  -- what follows the opcode of an item at i, up to j
  pub Operands : List ℕ → ℕ → ℕ → Item → Type 0
  Operands ws i j Fail = j ≡ i + 1
  Operands ws i j (One t) = TestOperands ws i j t
  Operands ws i j (At a) = Word ws (i + 1) (at_number a) × (j ≡ i + 2)
  Operands ws i j (Mark n) = Word ws (i + 1) n × (j ≡ i + 2)
  Operands ws i j (Branch ts) = ReadsBranch ws (i + 1) j ts
  Operands ws i j (Loop o low high body) =
      Word ws (i + 2) low × Word ws (i + 3) high × (low ≤ high) × Reads ws (i + 4) (skip ws (i + 1)) body
      × Opcode ws (skip ws (i + 1)) (until_opcode o) × (j ≡ skip ws (i + 1) + 1)
  Operands ws i j (Run kind low high t) =
      (j ≡ skip ws (i + 1)) × Word ws (i + 2) low × Word ws (i + 3) high × (low ≤ high)
      × Opcode ws (i + 4) (test_opcode t) × TestOperands ws (i + 4) (j - 1) t × Opcode ws (j - 1) opcode.SUCCESS
  Operands ws i j (PossessiveLoop low high body) =
      Word ws (i + 2) low × Word ws (i + 3) high × (low ≤ high) × Reads ws (i + 4) (skip ws (i + 1)) body
      × Opcode ws (skip ws (i + 1)) opcode.SUCCESS × (j ≡ skip ws (i + 1) + 1)
  Operands ws i j (Atomic body) =
      (j ≡ skip ws (i + 1)) × Reads ws (i + 2) (j - 1) body × Opcode ws (j - 1) opcode.SUCCESS
  Operands ws i j (Look sign back body) =
      (j ≡ skip ws (i + 1)) × Word ws (i + 2) back × Reads ws (i + 3) (j - 1) body × Opcode ws (j - 1) opcode.SUCCESS
  Operands ws i j (Reference fold g) = Word ws (i + 1) g × (j ≡ i + 2)
  Operands ws i j (Exists g there) = Word ws (i + 1) g × (j ≡ i + 1 + word ws (i + 2)) × Reads ws (i + 3) j there
  Operands ws i j (ExistsElse g there absent) =
      Word ws (i + 1) g × Reads ws (i + 3) (i + 1 + word ws (i + 2) - 2) there
      × JumpsTo ws (i + 1 + word ws (i + 2) - 2) j × Reads ws (i + 1 + word ws (i + 2)) j absent

  -- alternatives from the length word at q on, each with its JUMP to the item's tail, j
  pub ReadsBranch : List ℕ → ℕ → ℕ → Trees → Type 0
  ReadsBranch ws q j (Only t) =
      Reads ws (q + 1) (skip ws q - 2) t × JumpsTo ws (skip ws q - 2) j × Word ws (skip ws q) 0 × (j ≡ skip ws q + 1)
  ReadsBranch ws q j (Or t ts) =
      Reads ws (q + 1) (skip ws q - 2) t × JumpsTo ws (skip ws q - 2) j × ReadsBranch ws (skip ws q) j ts

-- an item whose words are [i, j)
abbrev pub ReadsItem : List ℕ → ℕ → ℕ → Item → Type 0
ReadsItem ws i j item = Opcode ws i (item_opcode item) × Operands ws i j item

-- the words are the tree's items, and SUCCESS as the last word
abbrev pub WholeItems : List ℕ → Tree → Type 0
WholeItems ws t = Reads ws 0 (length ws - 1) t × Opcode ws (length ws - 1) opcode.SUCCESS

-- such words
abbrev pub AreItems : List ℕ → Type 0
AreItems words = (tree : Tree) × WholeItems words tree

-- whether an information block is at the front: INFO skip ..
abbrev pub has_block : List ℕ → Bool
has_block ws = nat_eq (word ws 0) (opcode_number opcode.INFO)

-- the words behind the block, where there is one: its skip leads there
abbrev pub behind_block : List ℕ → List ℕ
behind_block ws = drop (cond (has_block ws) (skip ws 1) 0) ws

-- a block has at least its skip, its flags and the least and the greatest width
abbrev pub fits_block : List ℕ → Bool
fits_block ws = cond (has_block ws) (nat_le 4 (word ws 1)) true

-- the words are a block, perhaps, and the tree's items, and SUCCESS as the last word
abbrev pub Whole : List ℕ → Tree → Type 0
Whole ws t = (fits_block ws ≡ true) × WholeItems (behind_block ws) t

-- the words have a tree
abbrev pub IsCode : List ℕ → Type 0
IsCode words = (tree : Tree) × Whole words tree

-- the words have one tree at most
abbrev pub HasOneTree : List ℕ → Type 0
HasOneTree words = (t u : Tree) → Whole words t → Whole words u → t ≡ u
