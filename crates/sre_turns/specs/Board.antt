-- The backtrack stack: what a run of the machine holds beside its address and position.
-- Definitions for the machine's contracts; what sre_engine makes public does not rest on it.
use Rattle.std.specs.Prelude.{⊤, ℕ, ◌≡◌, ◌⊎◌, Bool, true, List, [], ◌∷◌}
use Rattle.sre_turns.specs.Terms.{StringCursor, Marks}
use Rattle.sre_turns.specs.declared.Frame.{Frame}
use Rattle.sre_turns.specs.declared.Point.{Point}
use Rattle.sre_turns.specs.declared.Point.TheVariants.{Instruction, Alternatives, Shorter, Longer, Inside, Again, Tried}
use Rattle.sre_turns.specs.declared.Point.TheVariants.{TriedAgain}
use Rattle.sre_turns.specs.declared.Region.{Region}

-- what is still to be tried: another point, under other loops and marks; or what comes of a region, whose body is in
-- progress, and which was entered under those loops and marks; or an instruction or a possessive loop that is tried, by
-- its point, of which all comes that waits above it
pub data Choice : Type 0 where
  Else : Point → List Frame → StringCursor → Marks → Choice
  Keep : Region → List Frame → StringCursor → Marks → Choice
  Trying : Point → List Frame → StringCursor → Marks → Choice

-- a choice, by its point
abbrev pub choice : Point → List Frame → StringCursor → Marks → Choice
choice (Inside g) fs c m = Keep g fs c m
choice (Tried i) fs c m = Trying (Instruction i) fs c m
choice TriedAgain fs c m = Trying Again fs c m
choice pt fs c m = Else pt fs c m

-- what may be tried: an instruction, or a possessive loop
abbrev pub MayBeTried : Point → Type 0
MayBeTried (Instruction i) = ⊤
MayBeTried (Alternatives q) = ⊥
MayBeTried (Shorter t k) = ⊥
MayBeTried (Longer i n) = ⊥
MayBeTried (Inside g) = ⊥
MayBeTried Again = ⊤
MayBeTried (Tried i) = ⊥
MayBeTried TriedAgain = ⊥

-- the innermost region, and what waits behind it
abbrev pub from_region : List Choice → List Choice
from_region [] = []
from_region (Else pt fs c m ∷ cs) = from_region cs
from_region (Trying pt fs c m ∷ cs) = from_region cs
from_region (Keep g fs c m ∷ cs) = Keep g fs c m ∷ cs

-- the loops in progress, innermost first, the marks, and the choices, newest first
pub record BoardValue : Type 0 where
  pub frames : List Frame
  pub marks : Marks
  pub choices : List Choice

-- these marks, and nothing else
abbrev pub bare : Marks → BoardValue
bare m = record { frames = []; marks = m; choices = [] }

-- the innermost region ends, and its choices go: the loops are those under which it was entered, the marks stay
pub record Cuts (old : BoardValue) (g : Region) (c : StringCursor) (new : BoardValue) : Type 0 where
  pub entered : Marks
  pub region : from_region old.choices ≡ Keep g new.frames c entered ∷ new.choices
  pub marks : new.marks ≡ old.marks

-- a choice may have gone: the newest one, if it was to go on at an instruction and a cursor, under these loops, and
-- with these marks where marks matter
abbrev pub Dropped : ℕ → StringCursor → Bool → BoardValue → BoardValue → Type 0
Dropped i c matter old new = (new ≡ old) ⊎ ((m : Marks) × (matter ≡ true → m ≡ new.marks)
    × (old ≡ record new { choices = Else (Instruction i) new.frames c m ∷ new.choices }))
