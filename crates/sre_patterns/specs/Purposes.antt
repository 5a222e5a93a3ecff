-- What a pattern does for a tree, by its purpose.
use Rattle.std.specs.Prelude.{ℕ, ◌≡◌, Bool, List, Option, ⊤}
use Rattle.sre_patterns.specs.Terms.{Re, Look, Table, SreAtCode, SreOpcode, Tree, Item, Test, Order, Opcode, Subject}
use Rattle.sre_patterns.specs.Terms.{Body, ways, item_ways, uni_of, until_opcode}
use Rattle.sre_model.specs.Tree.{One}
use Rattle.sre_model.specs.Roles.{role, ToRun}
use Rattle.sre_patterns.specs.Covers.{View, IsWider, CoversBody, ExactBody}
use Rattle.sre_patterns.specs.Looks.{look_of, exact_look}
use Rattle.sre_patterns.specs.Patterns.{is_greedy, kind_of, view_of, HasBelow, HasJust}
use Rattle.sre_patterns.specs.declared.task.Purpose.{Purpose}
use Rattle.sre_patterns.specs.declared.task.Task.{Task}
use Rattle.sre_chars.specs.declared.constants.SreOpcode.TheVariants as opcode
use Rattle.sre_patterns.specs.declared.task.Purpose.TheVariants as purpose

-- it tries the match paths of a body in their order where that is the purpose, or else it covers them
abbrev pub ServesBody : Purpose → View → Table → Re → (Subject → Body) → Type 0
ServesBody purpose.InOrder = ExactBody
ServesBody u = CoversBody

-- those of a tree
abbrev pub ServesFor : Purpose → View → Table → Re → Tree → Type 0
ServesFor u V table re t = ServesBody u V table re (λ s. ways s t)

-- it does what a task asks for
abbrev pub Serves : Task → Re → Tree → Type 0
Serves s = ServesFor s.purpose (view_of s.encoding) (uni_of s.code)

abbrev pub ServesItem : Task → Re → Item → Type 0
ServesItem s re x = ServesBody s.purpose (view_of s.encoding) (uni_of s.code) re (λ w. item_ways w x)

abbrev pub ServesTest : Task → Re → Test → Type 0
ServesTest s re t = ServesItem s re (One t)

-- the ranges that a class needs: those of just the numbers that pass, or of more
abbrev pub HasFor : Purpose → ℕ → (ℕ → Bool) → List (ℕ × ℕ) → Type 0
HasFor purpose.InOrder = HasJust
HasFor u = HasBelow

-- whatever the first pattern serves, the second one does too
abbrev pub Replaces : Purpose → Re → Re → Type 0
Replaces purpose.InOrder a b = a ≡ b
Replaces u a b = IsWider a b

-- the assertion for a position
abbrev pub look_for : Purpose → SreAtCode → Option Look
look_for purpose.InOrder a = exact_look a
look_for u a = look_of a

-- what is known where match paths are tried in order
abbrev pub WhenInOrder : Purpose → Type 0 → Type 0
WhenInOrder purpose.InOrder P = P
WhenInOrder u P = ⊤

abbrev pub OnlyCovers : Purpose → Type 0
OnlyCovers u = WhenInOrder u ⊥

-- the runs of an opcode are not possessive, and so greedy
abbrev pub RunsSo : SreOpcode → Bool → Type 0
RunsSo o greedy = (order : Order) × (role o ≡ ToRun (kind_of order)) × (is_greedy order ≡ greedy)

-- the loop that ends at an address is not possessive, and so greedy
pub record LoopsSo (ws : List ℕ) (until : ℕ) (greedy : Bool) : Type 0 where
  pub order : (o : Order) → Opcode ws until (until_opcode o) → is_greedy o ≡ greedy
  pub reenters : Opcode ws until opcode.SUCCESS → ⊥
