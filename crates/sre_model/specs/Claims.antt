-- What the INFO block claims, and which of it a tree confirms.
-- Public clauses rest on it.
use Rattle.std.specs.Prelude.{ℕ, zero, suc, ◌+◌, ◌*◌, ◌-◌, ◌/◌, ◌%◌, ◌≡◌, Bool, true, false, ◌&&◌, cond}
use Rattle.std.specs.Prelude.{nat_eq, nat_lt, nat_le, List, [], ◌∷◌, length, take, drop, slice_range, bytes_eq, IsTrue}
use Rattle.std.specs.Prelude.{Option, Some, None, is_some}
use Rattle.sre_chars.specs.Tables.{Table}
use Rattle.sre_chars.specs.declared.constants.SreOpcode.TheVariants as opcode
use Rattle.sre_model.specs.Tree.{Tree, Empty, Then, One, Mark, Branch, Trees, Only, Or, Literal, In, Plain, SetItem}
use Rattle.sre_model.specs.Characters.{is_member}
use Rattle.sre_model.specs.Grammar.{word, skip, has_block, Opcode, ReadsSet}
use Rattle.sre_model.specs.Width.{width}

-- Borders

-- whether the first k words are the last k
abbrev pub is_border : List ℕ → ℕ → Bool
is_border words k = bytes_eq (take k words) (drop (length words - k) words)

-- the greatest k, up to a number, such that the first k words are the last k
abbrev pub border_up_to : List ℕ → ℕ → ℕ
border_up_to words zero = 0
border_up_to words (suc k) = cond (is_border words (suc k)) (suc k) (border_up_to words k)

-- the greatest such k below the length
abbrev pub border_length : List ℕ → ℕ
border_length words = border_up_to words (length words - 1)

-- overlap words, the first of which is the border length of the first n words, and each further one that of one word
-- more
abbrev pub are_overlaps : List ℕ → ℕ → List ℕ → Bool
are_overlaps words n [] = true
are_overlaps words n (k ∷ ks) = nat_eq k (border_length (take n words)) && are_overlaps words (n + 1) ks

-- The block's words: INFO skip flags min max, and behind these a prefix or a set

-- whether a bit of the flags is set
abbrev pub has_flag : ℕ → List ℕ → Bool
has_flag bit words = has_block words && nat_eq (word words 2 / bit % 2) 1

-- a prefix: its length, how many of its words need not be matched again, its words, and its overlap words
abbrev pub prefix_length : List ℕ → ℕ
prefix_length words = word words 5

abbrev pub prefix_skip : List ℕ → ℕ
prefix_skip words = word words 6

abbrev pub prefix_words : List ℕ → List ℕ
prefix_words words = slice_range words 7 (7 + prefix_length words)

abbrev pub overlap_words : List ℕ → List ℕ
overlap_words words = slice_range words (7 + prefix_length words) (7 + 2 * prefix_length words)

-- a prefix that is not empty fills the block, with overlap words that are border lengths
abbrev pub has_prefix : List ℕ → Bool
has_prefix words =
    has_flag 1 words && nat_lt 0 (prefix_length words) && nat_le (prefix_skip words) (prefix_length words)
    && nat_eq (skip words 1) (7 + 2 * prefix_length words) && are_overlaps (prefix_words words) 1 (overlap_words words)

-- The tree's first items

-- what is left behind marks
abbrev pub behind_marks : Tree → Tree
behind_marks (Then (Mark n) rest) = behind_marks rest
behind_marks t = t

-- what is left behind literals, one directly after the other
abbrev pub behind_adjacent : List ℕ → Tree → Option Tree
behind_adjacent [] t = Some t
behind_adjacent (v ∷ vs) (Then (One (Literal Plain u)) rest) = cond (nat_eq u v) (behind_adjacent vs rest) None
behind_adjacent (v ∷ vs) t = None

-- what is left behind literals, with only marks before or between them
abbrev pub behind_spread : List ℕ → Tree → Option Tree
behind_spread [] t = Some t
behind_spread (v ∷ vs) (Then (One (Literal Plain u)) rest) = cond (nat_eq u v) (behind_spread vs rest) None
behind_spread (v ∷ vs) (Then (Mark n) rest) = behind_spread (v ∷ vs) rest
behind_spread (v ∷ vs) t = None

abbrev pub then_spread : List ℕ → Option Tree → Option Tree
then_spread literals (Some t) = behind_spread literals t
then_spread literals None = None

-- no item is left
abbrev pub is_at_end : Option Tree → Bool
is_at_end (Some Empty) = true
is_at_end left = false

-- a test that begins a tree, behind marks, takes only characters of a set: it is a literal of the set, or the set
abbrev pub TestIn : Table → List SetItem → Tree → Type 0
TestIn table set (Then (One (Literal Plain v)) rest) = IsTrue (is_member table set v)
TestIn table set (Then (One (In Plain items)) rest) = items ≡ set
TestIn table set t = ⊥

abbrev pub EachTestIn : Table → List SetItem → Trees → Type 0
EachTestIn table set (Only t) = TestIn table set (behind_marks t)
EachTestIn table set (Or t ts) = TestIn table set (behind_marks t) × EachTestIn table set ts

-- so does the tree begin, or each alternative of the branch that it begins with
abbrev pub FirstIn : Table → List SetItem → Tree → Type 0
FirstIn table set (Then (Branch ts) rest) = EachTestIn table set ts
FirstIn table set t = TestIn table set t

-- What is confirmed

-- no match is shorter
abbrev pub confirmed_width : List ℕ → Tree → Option ℕ
confirmed_width words tree = cond (has_block words && nat_le (word words 3) (width tree)) (Some (word words 3)) None

-- what is left behind a prefix, the first k literals of which are one directly after the other
abbrev pub behind_literals : ℕ → List ℕ → Tree → Option Tree
behind_literals k prefix tree = then_spread (drop k prefix) (behind_adjacent (take k prefix) tree)

-- what is left behind the claimed prefix
abbrev pub behind_prefix : List ℕ → Tree → Option Tree
behind_prefix words tree =
    cond (has_prefix words) (behind_literals (prefix_skip words) (prefix_words words) tree) None

-- each match begins with the prefix
abbrev pub confirmed_prefix : List ℕ → Tree → Option (ℕ × ℕ)
confirmed_prefix words tree =
    cond (is_some (behind_prefix words tree)) (Some (prefix_length words, prefix_skip words)) None

-- a match is the prefix
abbrev pub is_literal : List ℕ → Tree → Bool
is_literal words tree =
    has_flag 2 words && nat_eq (prefix_skip words) (prefix_length words) && is_at_end (behind_prefix words tree)

-- each match begins with a character of the set that fills the block
pub record HasFirstSet (words : List ℕ) (table : Table) (tree : Tree) : Type 0 where
  pub flag : has_flag 4 words ≡ true
  pub no_prefix : has_flag 1 words ≡ false
  pub set : List SetItem
  pub items : ReadsSet words 5 (skip words 1 - 1) set
  pub ends : Opcode words (skip words 1 - 1) opcode.FAILURE
  pub first : FirstIn table set (behind_marks tree)
