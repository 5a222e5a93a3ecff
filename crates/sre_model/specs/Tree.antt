-- Trees: what the bytecode of a pattern denotes.
-- Of the specification: what sre_engine makes public rests on it.
use Rattle.std.specs.Prelude.{ℕ, List}
use Rattle.sre_chars.specs.declared.constants.SreAtCode.{SreAtCode}
use Rattle.sre_chars.specs.declared.constants.SreCatCode.{SreCatCode}

-- how a literal, a set or a reference folds characters
pub data Fold : Type 0 where
  Plain : Fold
  Ascii : Fold
  Locale : Fold
  Unicode : Fold

-- an item of a set; a charset has 8 words of bits, a big charset 256 block numbers and the blocks' words
pub data SetItem : Type 0 where
  Single : ℕ → SetItem
  Range : ℕ → ℕ → SetItem
  RangeUniIgnore : ℕ → ℕ → SetItem
  Category : SreCatCode → SetItem
  Charset : List ℕ → SetItem
  BigCharset : List ℕ → List ℕ → SetItem
  Negate : SetItem

-- a test of one character
pub data Test : Type 0 where
  Any : Test
  AnyAll : Test
  InCategory : SreCatCode → Test
  Literal : Fold → ℕ → Test
  NotLiteral : Fold → ℕ → Test
  In : Fold → List SetItem → Test

-- whether a loop tries a further body before its own end, or after it
pub data Order : Type 0 where
  Greedy : Order
  Lazy : Order

pub data RunKind : Type 0 where
  GreedyRun : RunKind
  LazyRun : RunKind
  PossessiveRun : RunKind

pub data Sign : Type 0 where
  Positive : Sign
  Negative : Sign

mutual
  -- items, one after the other
  pub data Tree : Type 0 where
    Empty : Tree
    Then : Item → Tree → Tree

  -- counts are the least and the greatest; a look has the number of characters that it goes back
  pub data Item : Type 0 where
    Fail : Item
    One : Test → Item
    At : SreAtCode → Item
    Mark : ℕ → Item
    Branch : Trees → Item
    Loop : Order → ℕ → ℕ → Tree → Item
    Run : RunKind → ℕ → ℕ → Test → Item
    PossessiveLoop : ℕ → ℕ → Tree → Item
    Atomic : Tree → Item
    Look : Sign → ℕ → Tree → Item
    Reference : Fold → ℕ → Item
    Exists : ℕ → Tree → Item
    ExistsElse : ℕ → Tree → Tree → Item

  -- the alternatives of a branch, at least one
  pub data Trees : Type 0 where
    Only : Tree → Trees
    Or : Tree → Trees → Trees
