-- The pattern of a tree, and repetitions, whose counts are preserved while they are small.
use Rattle.std.specs.Prelude.{ℕ, Bool, true, Option, Some, None, nat_lt, min, false, ◌||◌, cond, ◌≡◌, ◌<◌, ◌≤◌, ◌⊎◌}
use Rattle.std.specs.Prelude.{List, [], ◌∷◌, ◌&&◌}
use Rattle.sre_patterns.specs.Terms.{Re, repeat, Order, RunKind, Greedy, Lazy, GreedyRun, LazyRun, cat, alt, Table}
use Rattle.sre_patterns.specs.Terms.{SreOpcode, SreAtCode, Tree, Item, Test, Opcode, TestStands, Trees, item_opcode}
use Rattle.sre_patterns.specs.Terms.{Reads, ReadsItem}
use Rattle.sre_model.specs.Tree.{Branch, Run, Atomic}
use Rattle.sre_model.specs.Roles.{role, ToRun, ToRepeat, ToRepeatPossessively, ToCheckGroup}
use Rattle.regex_class.specs.Ranges.{in_ranges}
use Rattle.sre_patterns.specs.Covers.{View, InBytes, InUtf8, CoversStart}
use Rattle.sre_patterns.specs.Looks.{in_ascii}
use Rattle.sre_chars.specs.declared.constants.SreOpcode.TheVariants as opcode
use Rattle.sre_patterns.specs.declared.encoding.Encoding as encoding_type
use Rattle.sre_patterns.specs.declared.encoding.Encoding.TheVariants as encoding

-- the greatest count of a repetition, unless it or the least one is more than is kept
abbrev pub most_kept : ℕ → ℕ → ℕ → Option ℕ
most_kept kept low high = cond (nat_lt kept low || nat_lt kept high) None (Some high)

-- a pattern as often as the counts say, as far as these are kept
abbrev pub repeated : ℕ → ℕ → ℕ → Bool → Re → Re
repeated kept low high greedy a = repeat (min low kept) (most_kept kept low high) greedy a

abbrev pub is_greedy : Order → Bool
is_greedy Greedy = true
is_greedy Lazy = false

-- the runs that try their counts so
abbrev pub kind_of : Order → RunKind
kind_of Greedy = GreedyRun
kind_of Lazy = LazyRun

abbrev pub view_of : encoding_type.Encoding → View
view_of encoding.Bytes = InBytes 256
view_of encoding.Ascii = InBytes 128
view_of encoding.Utf8 = InUtf8

-- the position that holds at the same places of the texts that are seen so
abbrev pub position_in : encoding_type.Encoding → SreAtCode → SreAtCode
position_in encoding.Ascii a = in_ascii a
position_in e a = a

-- patterns one after the other, and then another one
abbrev pub cat_onto : List Re → Re → Re
cat_onto [] b = b
cat_onto (a ∷ rest) b = cat a (cat_onto rest b)

-- one of some patterns, or else another one
abbrev pub alt_onto : List Re → Re → Re
alt_onto [] b = b
alt_onto (a ∷ rest) b = alt a (alt_onto rest b)

-- the ranges have each number below the bound that passes the test
abbrev pub HasBelow : ℕ → (ℕ → Bool) → List (ℕ × ℕ) → Type 0
HasBelow bound test ranges = (c : ℕ) → c < bound → test c ≡ true → in_ranges ranges c ≡ true

-- the ranges have just the numbers below the bound that pass the test
abbrev pub HasJust : ℕ → (ℕ → Bool) → List (ℕ × ℕ) → Type 0
HasJust bound test ranges = (c : ℕ) → in_ranges ranges c ≡ (nat_lt c bound && test c)

-- each test that is read at a place has a property
abbrev pub AtTest : List ℕ → ℕ → (Test → Type 0) → Type 0
AtTest ws i P = (j : ℕ) (t : Test) → TestStands ws i j t → P t

-- items may end there: at an end, or at a JUMP before it
abbrev pub Stops : List ℕ → ℕ → ℕ → Type 0
Stops ws j end = (j ≤ end) × ((j ≡ end) ⊎ Opcode ws j opcode.JUMP)

-- some items stand from i on, up to an end or a JUMP before it
pub record HasItems (ws : List ℕ) (i end : ℕ) : Type 0 where
  pub stop : ℕ
  pub tree : Tree
  pub reads : Reads ws i stop tree
  pub stops : Stops ws stop end

-- an item stands at i
pub record HasItem (ws : List ℕ) (i : ℕ) : Type 0 where
  pub end : ℕ
  pub item : Item
  pub reads : ReadsItem ws i end item

-- the items that are read from i on end at e, and have a property
abbrev pub AtItems : List ℕ → ℕ → ℕ → ℕ → (Tree → Type 0) → Type 0
AtItems ws i end e P = (j : ℕ) (t : Tree) → Reads ws i j t → Stops ws j end → (e ≡ j) × P t

-- the item that is read at i ends at e, and has a property
abbrev pub AtItem : List ℕ → ℕ → ℕ → (Item → Type 0) → Type 0
AtItem ws i e P = (j : ℕ) (x : Item) → ReadsItem ws i j x → (e ≡ j) × P x

-- an item of a certain form stands at i
pub record HasRun (ws : List ℕ) (i : ℕ) (o : SreOpcode) : Type 0 where
  pub end : ℕ
  pub kind : RunKind
  pub is : role o ≡ ToRun kind
  pub low : ℕ
  pub high : ℕ
  pub test : Test
  pub reads : ReadsItem ws i end (Run kind low high test)

pub record HasAtomic (ws : List ℕ) (i : ℕ) : Type 0 where
  pub end : ℕ
  pub body : Tree
  pub reads : ReadsItem ws i end (Atomic body)

pub record HasBranch (ws : List ℕ) (i : ℕ) : Type 0 where
  pub end : ℕ
  pub trees : Trees
  pub reads : ReadsItem ws i end (Branch trees)

-- a loop, possessive or not
pub record HasLoop (ws : List ℕ) (i : ℕ) : Type 0 where
  pub end : ℕ
  pub item : Item
  pub reads : ReadsItem ws i end item
  pub is : (role (item_opcode item) ≡ ToRepeat) ⊎ (role (item_opcode item) ≡ ToRepeatPossessively)

-- a condition, with another part or without
pub record HasCondition (ws : List ℕ) (i : ℕ) : Type 0 where
  pub end : ℕ
  pub item : Item
  pub reads : ReadsItem ws i end item
  pub is : role (item_opcode item) ≡ ToCheckGroup

-- the pattern tells of the starts of all items that are read from i on
abbrev pub CoversFrontAt : View → Table → List ℕ → ℕ → ℕ → Re → Type 0
CoversFrontAt V table ws i end re = (j : ℕ) (t : Tree) → Reads ws i j t → Stops ws j end → CoversStart V table re t
