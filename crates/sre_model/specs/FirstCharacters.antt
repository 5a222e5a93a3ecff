-- First characters: where a tree has no match path, by its first code words.
-- Definitions for the search's contracts; what sre_engine makes public does not rest on it.
use Rattle.std.specs.Prelude.{ℕ, ◌-◌, ◌<◌, ◌≡◌, Bool, true, false, List, []}
use Rattle.sre_chars.specs.declared.constants.SreOpcode.{SreOpcode}
use Rattle.sre_model.specs.Tree.{Tree, Trees, Test}
use Rattle.sre_model.specs.Marks.{Marks}
use Rattle.sre_model.specs.Subject.{Subject, passes}
use Rattle.sre_model.specs.Ways.{ways, branch_ways}
use Rattle.sre_model.specs.Roles.{Role, ToEnd, ToLoop, ToJump, role}
use Rattle.sre_model.specs.Grammar.{Opcode, Reads, ReadsBranch}
use Rattle.sre_model.specs.Standing.{TestStands}

-- from a position the tree has no way, whatever the marks
pub record NoWay (s : Subject) (t : Tree) (p : ℕ) : Type 0 where
  pub none : (m : Marks) → ways s t p m ≡ []

-- nor has any of the alternatives
pub record NoneOf (s : Subject) (ts : Trees) (p : ℕ) : Type 0 where
  pub none : (m : Marks) → branch_ways s ts p m ≡ []

-- the test at a place of the words does not pass at a position
pub record NotPassed (ws : List ℕ) (s : Subject) (place p : ℕ) : Type 0 where
  pub each : (j : ℕ) (t : Test) → TestStands ws place j t → passes s t p ≡ false

-- whether an opcode ends the items of a tree: SUCCESS, a loop's end, or the JUMP of an alternative
abbrev pub is_end : Role → Bool
is_end ToEnd = true
is_end (ToLoop order) = true
is_end ToJump = true
is_end _ = false

-- a tree's items are the words from a place on, up to an end
pub record TreeStands (ws : List ℕ) (i : ℕ) (t : Tree) : Type 0 where
  pub end : ℕ
  pub reads : Reads ws i end t
  pub code : SreOpcode
  pub there : Opcode ws end code
  pub ends : is_end (role code) ≡ true

-- some tree's items are
pub record HasTree (ws : List ℕ) (i : ℕ) : Type 0 where
  pub tree : Tree
  pub stands : TreeStands ws i tree

-- some alternatives are the words from a length word on
pub record HasAlternatives (ws : List ℕ) (i : ℕ) : Type 0 where
  pub end : ℕ
  pub trees : Trees
  pub reads : ReadsBranch ws i end trees

-- a tree is at a place, and where it has no way so far back, nor has the whole
pub record Leads (ws : List ℕ) (whole : Tree) (i back : ℕ) : Type 0 where
  pub tree : Tree
  pub stands : TreeStands ws i tree
  pub near : (s : Subject) (p : ℕ) → p < back → NoWay s whole p
  pub leads : (s : Subject) (p : ℕ) → NoWay s tree (p - back) → NoWay s whole p
