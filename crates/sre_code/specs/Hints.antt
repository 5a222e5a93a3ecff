-- The INFO block: its front, the borders of a prefix, what is left of the items after it, and what is computed of the
-- first items.
-- Definitions for the check's contracts; what sre_engine makes public does not rest on it.
use Rattle.std.specs.Prelude.{ℕ, ◌≡◌, ◌≢◌, ◌<◌, ◌≤◌, true, false, List, length, drop, Result, Ok, Err, ◌+◌, ◌-◌}
use Rattle.std.specs.Prelude.{slice_index, Option, Some, None, Bool}
use Rattle.sre_code.specs.Terms.{Tree, Whole, skip, has_block, behind_block, fits_block, SreOpcode, role, is_end, Word}
use Rattle.sre_code.specs.Terms.{Opcode, Reads, behind_marks, Decides, Trees, SetItem, SetStands, HasSet, ReadsBranch}
use Rattle.sre_code.specs.Reading.{IsFault}
use Rattle.sre_code.specs.declared.code.error.CodeError.{CodeError}
use Rattle.sre_chars.specs.declared.constants.SreOpcode.TheVariants as opcode
use Rattle.sre_code.specs.declared.ascii_set.AsciiSet.{AsciiSet}
use Rattle.sre_code.specs.AsciiSets.{AreTold}

-- a block is there, of so many words
pub record HasBlock (ws : List ℕ) (n : ℕ) : Type 0 where
  pub there : has_block ws ≡ true
  pub skips : n ≡ skip ws 1
  pub long : 5 ≤ n
  pub within : n < length ws

-- so many words are the block
pub record Fronts (ws : List ℕ) (n : ℕ) : Type 0 where
  pub none : n ≡ 0 → has_block ws ≡ false
  pub block : n ≢ 0 → HasBlock ws n
  pub fits : fits_block ws ≡ true
  pub within : n ≤ length ws
  pub behind : drop n ws ≡ behind_block ws

-- the words have no tree, since their block is none
pub record BadFront (ws : List ℕ) (e : CodeError) : Type 0 where
  pub none : (t : Tree) → Whole ws t → ⊥
  pub fault : IsFault ws e

-- how long the block is, or that there is no tree
abbrev pub BlockAt : List ℕ → Result ℕ CodeError → Type 0
BlockAt ws (Ok n) = Fronts ws n
BlockAt ws (Err e) = BadFront ws e

-- the first k of the first n words are their last k, and k is below n
pub record Border (p : List ℕ) (n k : ℕ) : Type 0 where
  pub below : k < n
  pub same : (i : ℕ) → i < k → slice_index p i ≡ slice_index p (n - k + i)

-- k is the greatest such
pub record Longest (p : List ℕ) (n k : ℕ) : Type 0 where
  pub border : Border p n k
  pub most : (m : ℕ) → Border p n m → m ≤ k

-- the overlap words of the fronts of up to n words are their border lengths
pub record RightUpTo (p o : List ℕ) (n : ℕ) : Type 0 where
  pub each : (j : ℕ) → j < n → Longest p (j + 1) (slice_index o j)

abbrev pub Right : List ℕ → List ℕ → Type 0
Right p o = RightUpTo p o (length p)

-- the items end where the last word is, with SUCCESS
abbrev pub Ends : List ℕ → Type 0
Ends ws = Opcode ws (length ws - 1) opcode.SUCCESS

-- a literal of that value is at i
abbrev pub IsLiteralAt : List ℕ → ℕ → ℕ → Type 0
IsLiteralAt ws i v = Opcode ws i opcode.LITERAL × Word ws (i + 1) v

-- the items of a part go on at p behind the marks at i
pub record MarksPassed (ws : List ℕ) (i p : ℕ) : Type 0 where
  pub within : p ≤ length ws
  pub each : (end : ℕ) (t : Tree) (o : SreOpcode) → Reads ws i end t → Opcode ws end o → is_end (role o) ≡ true
      → Reads ws p end (behind_marks t)

-- of the tree whose items begin at i that one is left whose items begin at p
pub record LeftAt (ws : List ℕ) (i p : ℕ) (left : Tree → Option Tree) : Type 0 where
  pub within : p ≤ length ws
  pub each : (t : Tree) → Reads ws i (length ws - 1) t
      → (rest : Tree) × (left t ≡ Some rest) × Reads ws p (length ws - 1) rest

-- of the tree whose items begin at i none is
pub record NoneLeft (ws : List ℕ) (i : ℕ) (left : Tree → Option Tree) : Type 0 where
  pub none : (t : Tree) → Reads ws i (length ws - 1) t → left t ≡ None

-- what is left of the tree whose items begin at i
abbrev pub LeftBehind : List ℕ → ℕ → (Tree → Option Tree) → Option ℕ → Type 0
LeftBehind ws i left None = NoneLeft ws i left
LeftBehind ws i left (Some p) = LeftAt ws i p left

-- the items of the set of a block that ends at `end`
abbrev pub IsSetUpTo : ℕ → List ℕ → List SetItem → Type 0
IsSetUpTo end ws set = SetStands ws 5 (end - 1) set

-- the words up to `end` are a block with a set, some of whose ASCII characters are told
pub record HasBlockSet (end : ℕ) (ws : List ℕ) (ascii : Option AsciiSet) : Type 0 where
  pub has : HasSet ws 5
  pub long : 5 ≤ end
  pub within : end ≤ length ws
  pub told : AreTold ws 5 ascii

-- whether P holds of the tree of a part whose items begin at i
pub record Tells (ws : List ℕ) (i : ℕ) (told : Bool) (P : Tree → Type 0) : Type 0 where
  pub each : (end : ℕ) (t : Tree) (o : SreOpcode) → Reads ws i end t → Opcode ws end o → is_end (role o) ≡ true
      → Decides told (P t)

-- whether P holds of the alternatives from the length word at i on
pub record TellsEach (ws : List ℕ) (i : ℕ) (told : Bool) (P : Trees → Type 0) : Type 0 where
  pub each : (end : ℕ) (ts : Trees) → ReadsBranch ws i end ts → Decides told (P ts)
