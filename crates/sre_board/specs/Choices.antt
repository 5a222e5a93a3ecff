-- The alternatives that a backtrack stack saves, which share one trail and one table of chains.
-- Definitions for private contracts: the value of a backtrack stack is `BoardValue` of sre_turns.
use Rattle.std.specs.Prelude.{◌≡◌, ◌⊎◌, ⊤, ℕ, List, [], ◌∷◌, ◌≤◌, ◌++◌, Some, None, cond, slice_index_or, slice_get}
use Rattle.std.specs.Prelude.{Option, take, slice_set, ◌+◌, ◌<◌, nat_eq, map, reverse, Bool, true, false}
use Rattle.sre_board.specs.Terms.{Frame, Marks, no_marks, set_mark, index_of, StringCursor, Choice, choice, BoardValue}
use Rattle.sre_board.specs.Terms.{Inside, Tried, TriedAgain, Point}
use Rattle.sre_board.specs.declared.chains.Node.{Node}
use Rattle.sre_board.specs.declared.marks.Former.{Former}
use Rattle.sre_board.specs.declared.marks.Change.{Change}
use Rattle.sre_board.specs.declared.marks.Former.TheVariants as former
use Rattle.sre_board.specs.declared.saved.Saved.{Saved}

-- a number is one of a list
abbrev pub IsIn : ℕ → List ℕ → Type 0
IsIn n [] = ⊥
IsIn n (x ∷ xs) = (n ≡ x) ⊎ IsIn n xs

-- no two numbers of a list are the same
abbrev pub Apart : List ℕ → Type 0
Apart [] = ⊤
Apart (x ∷ xs) = (IsIn x xs → ⊥) × Apart xs

-- Loops in progress, as chains that share their ends

-- the frame of a node
abbrev pub frame_of : Node → Frame
frame_of n = record { repeat = n.repeat; count = n.count; last = cond n.is_beyond (Some n.last) None }

-- the chains by their numbers: the empty one, and one for each node, on a chain that stands before it
abbrev pub grown : List (List Frame) → List Node → List (List Frame)
grown t [] = t
grown t (n ∷ ns) = grown (t ++ (frame_of n ∷ slice_index_or t n.parent []) ∷ []) ns

abbrev pub table : List Node → List (List Frame)
table ns = grown ([] ∷ []) ns

abbrev pub Based : List Node → Type 0
Based ns = (k : ℕ) (n : Node) → slice_get ns k ≡ Some n → n.parent ≤ k

-- The trail: the capture slots now, and what they were before each change that can be undone

-- the marks now, and those before each change, oldest first
pub record Trail : Type 0 where
  pub past : List Marks
  pub now : Marks

-- all of them, the marks now being the last
abbrev pub states : Trail → List Marks
states t = t.past ++ t.now ∷ []

-- lists of marks that agree up to a length of the trail
abbrev pub SameUpTo : List Marks → List Marks → ℕ → Type 0
SameUpTo a b n = (i : ℕ) → i ≤ n → slice_index_or b i no_marks ≡ slice_index_or a i no_marks

-- mark n is set to p, and the marks before the first k changes and behind them stay
pub record SetsMark (n p k : ℕ) (old new : Trail) : Type 0 where
  pub now : new.now ≡ set_mark old.now n p
  pub before : SameUpTo (states old) (states new) k

-- the list with what stood at mark n before
abbrev pub restored : Former → ℕ → List (Option ℕ) → List (Option ℕ)
restored (former.Past k) n raw = take k raw
restored former.Absent n raw = slice_set raw n None
restored (former.At p) n raw = slice_set raw n (Some p)

-- the marks before a change
abbrev pub undo : Change → Marks → Marks
undo c m = record { raw = restored c.former c.mark m.raw; last = index_of c.last }

-- the marks before these changes, oldest first
abbrev pub undone : List Change → Marks → Marks
undone [] m = m
undone (c ∷ cs) m = undo c (undone cs m)

-- the marks before each change
abbrev pub past_of : List Change → Marks → List Marks
past_of [] m = []
past_of (c ∷ cs) m = undone (c ∷ cs) m ∷ past_of cs m

abbrev pub trail_of : List Change → Marks → Trail
trail_of cs m = record { past = past_of cs m; now = m }

-- Saved alternatives

-- a choice, whose marks are found on the trail and whose loops in the table
abbrev pub choice_of : List (List Frame) → List Marks → Saved → Choice
choice_of chains marks s =
    choice s.point (slice_index_or chains s.frame []) s.cursor (slice_index_or marks s.changes no_marks)

abbrev pub board_of : Trail → List (List Frame) → ℕ → List Saved → BoardValue
board_of t chains frame saved = record {
  frames = slice_index_or chains frame [];
  marks = t.now;
  choices = map (choice_of chains (states t)) (reverse saved);
}

-- a choice waits below so many: to go on at a point and a cursor, under these loops and some marks
abbrev pub WaitsAt : List Choice → ℕ → Point → List Frame → StringCursor → Type 0
WaitsAt cs depth pt fs c = (m : Marks) × (slice_get cs depth ≡ Some (choice pt fs c m))

-- newest first, where there are n chains and c changes: none rests on a chain or a change that came after it
abbrev pub Fits : List Saved → ℕ → ℕ → Type 0
Fits [] n c = Unit {0}
Fits (s ∷ ss) n c = (s.chains < n) × (s.changes ≤ c) × (s.frame ≤ s.chains) × Fits ss (s.chains + 1) s.changes

-- whether a choice marks what is tried
abbrev pub is_tried : Point → Bool
is_tried (Tried i) = true
is_tried TriedAgain = true
is_tried pt = false

abbrev pub regions_of : Point → ℕ
regions_of (Inside g) = 1
regions_of pt = 0

-- how many regions there are among some choices
abbrev pub regions_in : List Saved → ℕ
regions_in [] = 0
regions_in (s ∷ ss) = regions_in ss + regions_of s.point

-- newest first, those from the newest region on
abbrev pub down_to_region : List Saved → List Saved
down_to_region [] = []
down_to_region (s ∷ ss) = cond (nat_eq (regions_of s.point) 0) (down_to_region ss) (s ∷ ss)
