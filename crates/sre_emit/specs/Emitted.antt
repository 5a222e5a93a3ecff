-- What bytecode is emitted for a part, and why none is.
-- Public clauses rest on it.
use Rattle.std.specs.Prelude.{ℕ, ◌≡◌, ◌<◌, ◌≤◌, Bool, false, ◌&&◌, List, [], ◌++◌, Some, None, cond}
use Rattle.sre_growth.specs.Refusal.{Refused}
use Rattle.sre_model.specs.Tree.{Tree}
use Rattle.sre_model.specs.Grammar.{has_block, behind_block, Whole}
use Rattle.sre_model.specs.Standing.{AreWords}
use Rattle.sre_model.specs.Width.{width}
use Rattle.sre_model.specs.Claims.{confirmed_width, confirmed_prefix, is_literal}
use Rattle.sre_emit.specs.Errors.{EmitError, Memory, TooLong, TooDeep, BadPart}
use Rattle.sre_emit.specs.Parts.{Part, tree_of, depth, HasTree}
use Rattle.sre_emit.specs.Block.{block_words, block_prefix, is_all_literals}

-- what stands in front of a code's items: a block, where one is asked for
abbrev pub front : Bool → Tree → List ℕ
front with_block t = cond with_block (block_words t) []

-- words are those of a tree, behind such a front
pub record Emits (with_block : Bool) (t : Tree) (ws : List ℕ) : Type 0 where
  pub tree : Whole ws t
  pub words : AreWords ws
  pub block : has_block ws ≡ with_block
  pub in_front : ws ≡ front with_block t ++ behind_block ws
  -- no other words without a block have that tree
  pub only : (vs : List ℕ) → AreWords vs → has_block vs ≡ false → Whole vs t → vs ≡ behind_block ws
  -- what a block claims is confirmed
  pub least : confirmed_width ws t ≡ cond with_block (Some (width t)) None
  pub prefix : confirmed_prefix ws t ≡ cond with_block (block_prefix t) None
  pub literal : is_literal ws t ≡ (with_block && is_all_literals t)

-- no words behind such a front have that tree, since one that counts or skips would be none
pub record NoWords (with_block : Bool) (t : Tree) : Type 0 where
  pub none : (vs : List ℕ) → AreWords (front with_block t ++ vs) → has_block vs ≡ false → Whole vs t → ⊥

-- a part has a tree and lies no deeper than it may, and words are its tree's
pub record Emitted (p : Part) (with_block : Bool) (ws : List ℕ) : Type 0 where
  pub has_tree : HasTree p
  pub deep : depth p ≤ 1000
  pub emits : Emits with_block (tree_of p) ws

-- why no words are emitted
abbrev pub Cause : Type 0 → Part → Bool → EmitError → Type 0
Cause M p with_block Memory = Refused M
Cause M p with_block TooLong = NoWords with_block (tree_of p)
Cause M p with_block TooDeep = 1000 < depth p
Cause M p with_block BadPart = HasTree p → ⊥
