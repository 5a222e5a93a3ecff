-- The code words of a tree, written out: each skip counts what it leads over; and the trees that have bytecode.
-- Definitions for the contracts of what writes trees. Their public clauses rest on which trees have bytecode, and on
-- the grammar.
use Rattle.std.specs.Prelude.{ℕ, ◌+◌, ◌*◌, ◌/◌, List, [], ◌∷◌, ◌++◌, length, ◌≡◌, ◌<◌, ◌≤◌, slice_index, EachIndex}
use Rattle.sre_chars.specs.Numbers.{opcode_number, at_number, category_number}
use Rattle.sre_chars.specs.declared.constants.SreOpcode.TheVariants as opcode
use Rattle.sre_model.specs.Tree.{Tree, Empty, Then, Item, Fail, One, At, Mark, Branch, Loop, Run, PossessiveLoop}
use Rattle.sre_model.specs.Tree.{Atomic, Look, Reference, Exists, ExistsElse, Trees, Only, Or, Test, Any, AnyAll}
use Rattle.sre_model.specs.Tree.{InCategory, Literal, NotLiteral, In, SetItem, Single, Range, RangeUniIgnore, Category}
use Rattle.sre_model.specs.Tree.{Charset, BigCharset, Negate}
use Rattle.sre_model.specs.Grammar.{test_opcode, item_opcode, until_opcode}

-- four bytes a word, the least significant first
abbrev pub packed : List ℕ → List ℕ
packed (a ∷ b ∷ c ∷ d ∷ rest) = (a + 256 * b + 65536 * c + 16777216 * d) ∷ packed rest
packed _ = []

-- the words of a set's items
abbrev pub set_words : List SetItem → List ℕ
set_words [] = []
set_words (Single v ∷ rest) = opcode_number opcode.LITERAL ∷ v ∷ set_words rest
set_words (Range low high ∷ rest) = opcode_number opcode.RANGE ∷ low ∷ high ∷ set_words rest
set_words (RangeUniIgnore low high ∷ rest) = opcode_number opcode.RANGE_UNI_IGNORE ∷ low ∷ high ∷ set_words rest
set_words (Category c ∷ rest) = opcode_number opcode.CATEGORY ∷ category_number c ∷ set_words rest
set_words (Charset bits ∷ rest) = opcode_number opcode.CHARSET ∷ (bits ++ set_words rest)
set_words (BigCharset numbers bits ∷ rest) =
    opcode_number opcode.BIGCHARSET ∷ (length bits / 8) ∷ (packed numbers ++ (bits ++ set_words rest))
set_words (Negate ∷ rest) = opcode_number opcode.NEGATE ∷ set_words rest

-- the words of an item of a set
abbrev pub set_item_words : SetItem → List ℕ
set_item_words (Single v) = opcode_number opcode.LITERAL ∷ v ∷ []
set_item_words (Range low high) = opcode_number opcode.RANGE ∷ low ∷ high ∷ []
set_item_words (RangeUniIgnore low high) = opcode_number opcode.RANGE_UNI_IGNORE ∷ low ∷ high ∷ []
set_item_words (Category c) = opcode_number opcode.CATEGORY ∷ category_number c ∷ []
set_item_words (Charset bits) = opcode_number opcode.CHARSET ∷ bits
set_item_words (BigCharset numbers bits) =
    opcode_number opcode.BIGCHARSET ∷ (length bits / 8) ∷ (packed numbers ++ bits)
set_item_words Negate = opcode_number opcode.NEGATE ∷ []

-- the words behind a test's opcode
abbrev pub test_operands : Test → List ℕ
test_operands Any = []
test_operands AnyAll = []
test_operands (InCategory c) = category_number c ∷ []
test_operands (Literal fold v) = v ∷ []
test_operands (NotLiteral fold v) = v ∷ []
test_operands (In fold set) =
    (length (set_words set) + 2) ∷ (set_words set ++ opcode_number opcode.FAILURE ∷ [])

abbrev pub test_words : Test → List ℕ
test_words t = opcode_number (test_opcode t) ∷ test_operands t

-- a repeat's operands, its body and what ends it; the skip leads over extra words more than the body's
abbrev pub repeated : ℕ → ℕ → ℕ → List ℕ → ℕ → List ℕ
repeated extra low high body end = (length body + extra) ∷ low ∷ high ∷ (body ++ end ∷ [])

-- a length word, an alternative, its JUMP to behind what follows, and that
abbrev pub alternative : List ℕ → List ℕ → List ℕ
alternative body rest =
    (length body + 3) ∷ (body ++ (opcode_number opcode.JUMP ∷ (length rest + 1) ∷ rest))

-- both parts of a condition
abbrev pub both_parts : List ℕ → List ℕ → List ℕ
both_parts there absent =
    (length there + 4) ∷ (there ++ (opcode_number opcode.JUMP ∷ (length absent + 1) ∷ absent))

abbrev mutual
  -- the words of a tree's items
  pub tree_words : Tree → List ℕ
  tree_words Empty = []
  tree_words (Then item rest) = opcode_number (item_opcode item) ∷ (operands item ++ tree_words rest)

  -- the words behind an item's opcode
  pub operands : Item → List ℕ
  operands Fail = []
  operands (One t) = test_operands t
  operands (At a) = at_number a ∷ []
  operands (Mark n) = n ∷ []
  operands (Branch ts) = branch_words ts
  operands (Loop o low high body) = repeated 3 low high (tree_words body) (opcode_number (until_opcode o))
  operands (Run kind low high t) = repeated 4 low high (test_words t) (opcode_number opcode.SUCCESS)
  operands (PossessiveLoop low high body) = repeated 3 low high (tree_words body) (opcode_number opcode.SUCCESS)
  operands (Atomic body) = (length (tree_words body) + 2) ∷ (tree_words body ++ opcode_number opcode.SUCCESS ∷ [])
  operands (Look sign back body) =
      (length (tree_words body) + 3) ∷ back ∷ (tree_words body ++ opcode_number opcode.SUCCESS ∷ [])
  operands (Reference fold g) = g ∷ []
  operands (Exists g there) = g ∷ (length (tree_words there) + 2) ∷ tree_words there
  operands (ExistsElse g there absent) = g ∷ both_parts (tree_words there) (tree_words absent)

  -- alternatives, and the 0 that ends them
  pub branch_words : Trees → List ℕ
  branch_words (Only t) = alternative (tree_words t) (0 ∷ [])
  branch_words (Or t ts) = alternative (tree_words t) (branch_words ts)

-- an item's words
abbrev pub item_words : Item → List ℕ
item_words item = opcode_number (item_opcode item) ∷ operands item

-- the words of a code without a block
abbrev pub code_words : Tree → List ℕ
code_words t = tree_words t ++ opcode_number opcode.SUCCESS ∷ []

-- Trees that have bytecode: counts in order, sets whose tables are whole

-- each is a byte, and a block's number
abbrev pub NumbersBelow : ℕ → List ℕ → Type 0
NumbersBelow count ns = EachIndex ns (λ k. (slice_index ns k < 256) × (slice_index ns k < count))

-- a charset has 8 words of bits; a big charset 256 block numbers, each of a block that is there, and whole blocks
abbrev pub LawfulSetItem : SetItem → Type 0
LawfulSetItem (Charset bits) = length bits ≡ 8
LawfulSetItem (BigCharset numbers bits) =
    (length numbers ≡ 256) × (length bits ≡ length bits / 8 * 8) × NumbersBelow (length bits / 8) numbers
LawfulSetItem x = Unit {0}

abbrev pub LawfulSet : List SetItem → Type 0
LawfulSet [] = Unit {0}
LawfulSet (x ∷ rest) = LawfulSetItem x × LawfulSet rest

abbrev pub LawfulTest : Test → Type 0
LawfulTest (In fold set) = LawfulSet set
LawfulTest t = Unit {0}

abbrev mutual
  pub LawfulTree : Tree → Type 0
  LawfulTree Empty = Unit {0}
  LawfulTree (Then item rest) = LawfulItem item × LawfulTree rest

  pub LawfulItem : Item → Type 0
  LawfulItem (One t) = LawfulTest t
  LawfulItem (Branch ts) = LawfulTrees ts
  LawfulItem (Loop o low high body) = (low ≤ high) × LawfulTree body
  LawfulItem (Run kind low high t) = (low ≤ high) × LawfulTest t
  LawfulItem (PossessiveLoop low high body) = (low ≤ high) × LawfulTree body
  LawfulItem (Atomic body) = LawfulTree body
  LawfulItem (Look sign back body) = LawfulTree body
  LawfulItem (Exists g there) = LawfulTree there
  LawfulItem (ExistsElse g there absent) = LawfulTree there × LawfulTree absent
  LawfulItem x = Unit {0}

  pub LawfulTrees : Trees → Type 0
  LawfulTrees (Only t) = LawfulTree t
  LawfulTrees (Or t ts) = LawfulTree t × LawfulTrees ts
