-- Steps of the check: what is left to read of an item or a part, and what the answers say of it.
-- Definitions for the check's contracts; what sre_engine makes public does not rest on it.
use Rattle.std.specs.Prelude.{ℕ, ◌+◌, ◌*◌, ◌≡◌, ◌<◌, ◌≤◌, ◌⊎◌, min, List, length, Option, Some, None, Result, Ok, Err}
use Rattle.sre_code.specs.Terms.{Tree, Empty, Item, Trees, Order, RunKind, Sign, Test, Word, Opcode, run_opcode}
use Rattle.sre_code.specs.Terms.{until_opcode, JumpsTo, Reads, ReadsItem, ReadsBranch, capped, width, item_width}
use Rattle.sre_code.specs.Terms.{least_width}
use Rattle.sre_model.specs.Tree.{One}
use Rattle.sre_model.specs.Grammar.{look_opcode}
use Rattle.sre_chars.specs.declared.constants.SreOpcode.TheVariants as opcode
use Rattle.sre_code.specs.Reading.{IsFault, ReadsTest}
use Rattle.sre_code.specs.declared.code.error.CodeError.{CodeError}
use Rattle.sre_code.specs.declared.code.step.Part.{Part}
use Rattle.sre_code.specs.declared.code.step.Part.TheVariants.{Whole, Alternative, Body, Region, There}
use Rattle.sre_code.specs.declared.code.step.Part.TheVariants.{Absent}
use Rattle.sre_code.specs.declared.code.step.Bounds.{Bounds}
use Rattle.sre_code.specs.declared.code.step.Step.{Step}
use Rattle.sre_code.specs.declared.code.step.Step.TheVariants.{Past, Opens}

-- a run of one test is at i, of some kind
pub record RunAt (ws : List ℕ) (i : ℕ) : Type 0 where
  pub kind : RunKind
  pub there : Opcode ws i (run_opcode kind)

-- ASSERT or ASSERT_NOT is at i
pub record LookAt (ws : List ℕ) (i : ℕ) : Type 0 where
  pub sign : Sign
  pub there : Opcode ws i (look_opcode sign)

-- each item at i is a test
pub record OnlyTests (ws : List ℕ) (i : ℕ) : Type 0 where
  pub test : (j : ℕ) (x : Item) → ReadsItem ws i j x → (t : Test) × (x ≡ One t) × ReadsTest ws i j t

-- an item of width w is at i and ends at j
abbrev pub ItemAt : List ℕ → ℕ → ℕ → ℕ → Type 0
ItemAt ws i j w = (item : Item) × ReadsItem ws i j item × (w ≡ item_width item)

-- after an alternative of a branch with that tail, from the next length word on; the least width so far becomes w
abbrev pub More : List ℕ → ℕ → ℕ → ℕ → ℕ → Type 0
More ws q tail least w =
    (Word ws q 0 × (tail ≡ q + 1) × (w ≡ least))
    ⊎ ((ts : Trees) × ReadsBranch ws q tail ts × (w ≡ min least (least_width ts)))

-- the no part of a condition from q up to j; the least width of both parts is w, of which the yes part has u
abbrev pub Else : List ℕ → ℕ → ℕ → ℕ → ℕ → Type 0
Else ws q u j w = (t : Tree) × Reads ws q j t × (w ≡ min u (width t))

-- MAX_UNTIL or MIN_UNTIL is at k
abbrev pub IsUntil : List ℕ → ℕ → Type 0
IsUntil ws k = (o : Order) × Opcode ws k (until_opcode o)

-- a part whose items have been read up to k and have width u is closed there;
-- what it belongs to ends at j and has width w
abbrev pub Closes : List ℕ → Part → ℕ → ℕ → ℕ → ℕ → Type 0
Closes ws Whole k u j w = Opcode ws k opcode.SUCCESS × (k + 1 ≡ length ws) × (j ≡ k + 1) × (w ≡ u)
Closes ws (Body end least) k u j w = (k ≡ end) × IsUntil ws k × (j ≡ k + 1) × (w ≡ capped (least * u))
Closes ws (Region end least) k u j w = (k ≡ end) × Opcode ws k opcode.SUCCESS × (j ≡ k + 1) × (w ≡ capped (least * u))
Closes ws (Alternative end tail least) k u j w =
    (k ≡ end) × JumpsTo ws k tail × More ws (k + 2) tail (min least u) w × (j ≡ tail)
Closes ws (There tail) k u j w =
    ((k ≡ tail) × (j ≡ tail) × (w ≡ 0)) ⊎ ((k + 2 ≡ tail) × JumpsTo ws k j × Else ws tail u j w)
Closes ws (Absent end least) k u j w = (k ≡ end) × (j ≡ end) × (w ≡ min least u)

-- the words from i on are what is left of a part whose items so far have width a
abbrev pub Finishes : List ℕ → Part → ℕ → ℕ → ℕ → ℕ → Type 0
Finishes ws part a i j w = (k : ℕ) × ((t : Tree) × Reads ws i k t × Closes ws part k (capped (a + width t)) j w)

-- what is left after a step, up to j, makes the whole that began before it one of width w
abbrev pub Remains : List ℕ → Step → ℕ → ℕ → Type 0
Remains ws (Past p v) j w = (j ≡ p) × (w ≡ v)
Remains ws (Opens part p) j w = Finishes ws part 0 p j w

-- where a step goes on
abbrev pub next : Step → ℕ
next (Past p v) = p
next (Opens part p) = p

-- what is left after a step is exactly what is to be read
pub record Exactly (ws : List ℕ) (s : Step) (P : ℕ → ℕ → Type 0) : Type 0 where
  pub sound : (j w : ℕ) → Remains ws s j w → P j w
  pub complete : (j w : ℕ) → P j w → Remains ws s j w

-- nothing of that kind is there
pub record Nowhere (P : ℕ → ℕ → Type 0) : Type 0 where
  pub none : (j w : ℕ) → P j w → ⊥

-- the step past what P says of i, or into it; or that P says nothing there
abbrev pub Gives : List ℕ → ℕ → (ℕ → ℕ → Type 0) → Result Step CodeError → Type 0
Gives ws i P (Ok s) = (i < next s) × Exactly ws s P
Gives ws i P (Err e) = Nowhere P × IsFault ws e

-- the item at i, where one is there
abbrev pub ItemGives : List ℕ → ℕ → Result Step CodeError → Type 0
ItemGives ws i (Ok s) = (i < length ws) × (i < next s) × Exactly ws s (ItemAt ws i)
ItemGives ws i (Err e) = Nowhere (ItemAt ws i) × IsFault ws e

-- no item of the part is left at i
pub record IsEnd (ws : List ℕ) (part : Part) (i : ℕ) : Type 0 where
  pub only : (k u j w : ℕ) (t : Tree) → Reads ws i k t → Closes ws part k u j w → t ≡ Empty

-- the part is not closed at i
pub record IsInside (ws : List ℕ) (part : Part) (i : ℕ) : Type 0 where
  pub none : (u j w : ℕ) → Closes ws part i u j w → ⊥

-- a step that closes a part leaves less to do
abbrev pub Leaves : List ℕ → ℕ → Step → Type 0
Leaves ws i (Past p v) = i ≤ p
Leaves ws i (Opens part p) = (i < p) × (i < length ws)

-- the part ends at i without what closes it
pub record Unclosed (ws : List ℕ) (part : Part) (i u : ℕ) (e : CodeError) : Type 0 where
  pub end : IsEnd ws part i
  pub nowhere : Nowhere (Closes ws part i u)
  pub fault : IsFault ws e

-- what closes a part at i whose items have width u; None where the part goes on
abbrev pub Closing : List ℕ → Part → ℕ → ℕ → Result (Option Step) CodeError → Type 0
Closing ws part i u (Ok None) = IsInside ws part i
Closing ws part i u (Ok (Some s)) = IsEnd ws part i × Leaves ws i s × Exactly ws s (Closes ws part i u)
Closing ws part i u (Err e) = Unclosed ws part i u e

-- what closes a part that is known to end at i
abbrev pub EndGives : List ℕ → ℕ → (ℕ → ℕ → Type 0) → Result Step CodeError → Type 0
EndGives ws i P (Ok s) = Leaves ws i s × Exactly ws s P
EndGives ws i P (Err e) = Nowhere P × IsFault ws e

-- what comes after an alternative, where the item ends at the tail
abbrev pub MoreAt : List ℕ → ℕ → ℕ → ℕ → ℕ → ℕ → Type 0
MoreAt ws q tail least j w = More ws q tail least w × (j ≡ tail)

-- alternatives from the length word at q on, where those before have that least width
abbrev pub TreesAt : List ℕ → ℕ → ℕ → ℕ → ℕ → Type 0
TreesAt ws q least j w = (ts : Trees) × ReadsBranch ws q j ts × (w ≡ min least (least_width ts))

-- an alternative is at q, and where it ends and leads
pub record BoundsExactly (ws : List ℕ) (q : ℕ) (bounds : Bounds) : Type 0 where
  pub opens : (least : ℕ) → Exactly ws (Opens (Alternative bounds.end bounds.tail least) (q + 1)) (TreesAt ws q least)

-- no alternative is at q
pub record NoTrees (ws : List ℕ) (q : ℕ) : Type 0 where
  pub none : (j : ℕ) (ts : Trees) → ReadsBranch ws q j ts → ⊥

-- the bounds of the alternative at q, where one is there
abbrev pub BoundsAt : List ℕ → ℕ → Result Bounds CodeError → Type 0
BoundsAt ws q (Ok bounds) = (q < length ws) × BoundsExactly ws q bounds
BoundsAt ws q (Err e) = NoTrees ws q × IsFault ws e
