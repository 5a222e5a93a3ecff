-- The INFO block that is written before the code words of a tree.
-- Public clauses rest on it.
use Rattle.std.specs.Prelude.{ℕ, zero, suc, ◌+◌, Bool, true, false, ◌&&◌, cond, nat_lt, List, [], ◌∷◌, ◌++◌, length}
use Rattle.std.specs.Prelude.{take, Option, Some, None, is_some}
use Rattle.sre_chars.specs.Numbers.{opcode_number}
use Rattle.sre_model.specs.Tree.{Tree, Empty, Then, Item, One, Mark, Test, Literal, Plain}
use Rattle.sre_model.specs.Ways.{unlimited}
use Rattle.sre_model.specs.Width.{width}
use Rattle.sre_model.specs.Claims.{border_length}
use Rattle.sre_chars.specs.declared.constants.SreOpcode.TheVariants as opcode

-- the character of a plain literal
abbrev pub plain_value : Test → Option ℕ
plain_value (Literal Plain v) = Some v
plain_value t = None

abbrev pub plain : Item → Option ℕ
plain (One t) = plain_value t
plain item = None

abbrev pub is_mark : Item → Bool
is_mark (Mark n) = true
is_mark item = false

abbrev pub one_more : Option ℕ → ℕ → ℕ
one_more (Some v) n = suc n
one_more None n = 0

-- how many plain literals a tree begins with
abbrev pub leading : Tree → ℕ
leading Empty = 0
leading (Then item rest) = one_more (plain item) (leading rest)

abbrev pub before : Option ℕ → Bool → List ℕ → List ℕ
before (Some v) passed vs = v ∷ vs
before None passed vs = cond passed vs []

-- the plain literals at the front of a tree, marks between them passed over
abbrev pub spread : Tree → List ℕ
spread Empty = []
spread (Then item rest) = before (plain item) (is_mark item) (spread rest)

-- whether a tree is plain literals alone
abbrev pub has_literals_alone : Tree → Bool
has_literals_alone Empty = true
has_literals_alone (Then item rest) = is_some (plain item) && has_literals_alone rest

-- at least one, and nothing else
abbrev pub is_all_literals : Tree → Bool
is_all_literals t = nat_lt 0 (leading t) && has_literals_alone t

-- a prefix's length and how many of its words stand one directly after the other, where the tree begins with a literal
abbrev pub block_prefix : Tree → Option (ℕ × ℕ)
block_prefix t = cond (nat_lt 0 (leading t)) (Some (length (spread t), leading t)) None

-- the border lengths of the first n words, of the first n + 1, and so on, so many
abbrev pub overlaps_from : List ℕ → ℕ → ℕ → List ℕ
overlaps_from words n zero = []
overlaps_from words n (suc count) = border_length (take n words) ∷ overlaps_from words (n + 1) count

-- a block's words: its skip leads behind them, and no match is shorter than the least width
abbrev pub block : ℕ → ℕ → List ℕ → List ℕ
block flags least others = opcode_number opcode.INFO ∷ (length others + 4) ∷ flags ∷ least ∷ unlimited ∷ others

-- what a block has of a prefix
abbrev pub prefix_part : List ℕ → ℕ → List ℕ
prefix_part ps k = length ps ∷ k ∷ (ps ++ overlaps_from ps 1 (length ps))

abbrev pub prefixed : Tree → List ℕ
prefixed t = block (cond (has_literals_alone t) 3 1) (width t) (prefix_part (spread t) (leading t))

-- with a prefix, where the tree begins with a plain literal
abbrev pub block_words : Tree → List ℕ
block_words t = cond (nat_lt 0 (leading t)) (prefixed t) (block 0 (width t) [])
