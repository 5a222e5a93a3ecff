-- What a run may still take: steps, and in a search over bytecode whose steps are counted a potential, which goes down
-- with each step, and up by credits where an instruction that may branch is executed.
-- Definitions for the machine's contracts; what sre_engine makes public does not rest on it.
use Rattle.std.specs.Prelude.{⊤, ℕ, ◌+◌, ◌-◌, ◌≤◌, ◌≡◌, Bool, true, false, List, [], ◌∷◌, drop, length, map}
use Rattle.sre_turns.specs.Terms.{SreOpcode, Opcode, role, Run, Marks}
use Rattle.sre_turns.specs.Attempts.{Attempt}
use Rattle.sre_turns.specs.Board.{Choice, Else, Keep, Trying}
use Rattle.sre_turns.specs.Fruit.{is_inside}
use Rattle.sre_turns.specs.OpenMarks.{open_spots}
use Rattle.sre_turns.specs.declared.Point.TheVariants.{Instruction, Again}
use Rattle.sre_turns.specs.declared.Point.{Point}
use Rattle.sre_turns.specs.Moves.{Spot, spot_at}
use Rattle.sre_turns.specs.Prices.{price, price_of, toll, split_toll, aside}
use Rattle.sre_turns.specs.Nested.{repeats}
use Rattle.sre_turns.specs.Settled.{Counted, SettledIn}
use Rattle.sre_turns.specs.Bodies.{InBody, forking, point_behind, goes_behind}
use Rattle.sre_turns.specs.declared.Frame.{Frame}
use Rattle.sre_turns.specs.declared.Region.{Region}
use Rattle.sre_turns.specs.declared.Region.TheVariants.{Further}

-- how many steps are left; how many were taken, with how many at first, and how many were granted as credits; what is
-- tried, newest first; and where the range begins
pub record Limit : Type 0 where
  pub turns : ℕ
  pub taken : ℕ
  pub granted : ℕ
  pub tolls : ℕ
  pub trying : List Attempt
  pub start : ℕ

-- the same a step later
abbrev pub earlier : Limit → Limit
earlier l = record l { turns = l.turns - 1; taken = l.taken + 1 }

-- the same with credits of so many steps more
abbrev pub raised : ℕ → Limit → Limit
raised n l = record l { tolls = l.tolls + n }

-- the same where one more is tried
abbrev pub with_tried : Attempt → Limit → Limit
with_tried x l = record l { trying = x ∷ l.trying }

-- the same where so many of the newest that are tried are not tried any more
abbrev pub without_newest : ℕ → Limit → Limit
without_newest n l = record l { trying = drop n l.trying }

-- the same where the newest is not tried any more
abbrev pub without_tried : Limit → Limit
without_tried l = without_newest 1 l

-- the same where the innermost atomic scope of what waits is left, and nothing is tried inside any more
abbrev pub without_open : List Choice → Limit → Limit
without_open cs l = without_newest (length (open_spots cs)) l

-- a limit to which more was granted, perhaps, in the same step
pub record Grants (limit more : Limit) : Type 0 where
  pub turns : limit.turns ≡ more.turns
  pub taken : limit.taken ≡ more.taken
  pub granted : limit.granted ≡ more.granted
  pub start : limit.start ≡ more.start

-- a limit that leaves no less
pub record Wider (limit more : Limit) : Type 0 where
  pub turns : limit.turns ≤ more.turns
  pub taken : more.taken ≤ limit.taken
  pub granted : limit.granted ≤ more.granted
  pub tolls : limit.tolls ≡ more.tolls
  pub trying : limit.trying ≡ more.trying
  pub start : limit.start ≡ more.start

-- what is tried at a configuration, above what waits
abbrev pub attempt : List Choice → Spot → Attempt
attempt cs x = record { inside = is_inside cs; spot = x }

-- what is tried, whose marks wait
abbrev pub tried_spots : List Choice → List Attempt
tried_spots [] = []
tried_spots (Else pt fs c m ∷ cs) = tried_spots cs
tried_spots (Keep g fs c m ∷ cs) = tried_spots cs
tried_spots (Trying pt fs c m ∷ cs) = attempt cs (spot_at pt fs c.position m) ∷ tried_spots cs

-- what is tried in the innermost atomic scope
abbrev pub open_attempts : List Choice → List Attempt
open_attempts cs = map (λ (x : Spot). record { inside = true; spot = x }) (open_spots cs)

-- the potential of what waits: each choice takes a step more, and an atomic scope has what was put aside for it
abbrev pub waiting : List ℕ → ℕ → List Choice → ℕ
waiting ws e [] = 0
waiting ws e (Else pt fs c m ∷ cs) = price ws e pt c.position + 1 + waiting ws e cs
waiting ws e (Keep g fs c m ∷ cs) = aside ws g + waiting ws e cs
waiting ws e (Trying pt fs c m ∷ cs) = waiting ws e cs

-- where the machine stands: in the body of the innermost atomic scope, if one is in progress, else where it is settled
abbrev pub HereIn : (r : Run) → Counted r → ℕ → List Choice → Spot → Type 0
HereIn r pl start [] x = SettledIn r pl start x
HereIn r pl start (Else pt fs c m ∷ cs) x = HereIn r pl start cs x
HereIn r pl start (Keep g fs c m ∷ cs) x = InBody r pl start g c.position x
HereIn r pl start (Trying pt fs c m ∷ cs) x = HereIn r pl start cs x

-- where it goes on behind an atomic scope that was entered at a position, no earlier than there; and a possessive loop
-- of which a further body has no outcome is left there
pub record Reopens (r : Run) (pl : Counted r) (start : ℕ) (g : Region) (fs : List Frame) (p : ℕ) (cs : List Choice)
    : Type 0 where
  pub inside : p ≤ r.subject.end
  pub behind :
      (q : ℕ) (m : Marks) → p ≤ q → q ≤ r.subject.end → HereIn r pl start cs (spot_at (point_behind g) fs q m)
  pub without :
      (t : ℕ) (m : Marks) → g ≡ Further t → HereIn r pl start cs (spot_at (Instruction t) (drop 1 fs) p m)

-- what waits: each choice where the machine may stand, and each atomic scope in the body of the one before
abbrev pub Settling : (r : Run) → Counted r → ℕ → List Choice → Type 0
Settling r pl start [] = ⊤
Settling r pl start (Else pt fs c m ∷ cs) =
    HereIn r pl start cs (spot_at pt fs c.position m) × Settling r pl start cs
Settling r pl start (Keep g fs c m ∷ cs) = Reopens r pl start g fs c.position cs × Settling r pl start cs
Settling r pl start (Trying pt fs c m ∷ cs) =
    HereIn r pl start cs (spot_at pt fs c.position m) × Settling r pl start cs

-- so much potential is left beside that of what waits
pub record Fares (r : Run) (pl : Counted r) (limit : Limit) (n : ℕ) (cs : List Choice) : Type 0 where
  pub settled : Settling r pl limit.start cs
  pub trying : tried_spots cs ≡ limit.trying
  pub left : n + waiting r.words r.subject.end cs + limit.taken
      ≤ limit.granted + limit.tolls

-- and the machine stands at a configuration
pub record FaresAt (r : Run) (pl : Counted r) (limit : Limit) (n : ℕ) (x : Spot) (cs : List Choice) : Type 0 where
  pub here : HereIn r pl limit.start cs x
  pub fares : Fares r pl limit n cs

-- or at one of two, of which the second waits
pub record FaresBoth (r : Run) (pl : Counted r) (limit : Limit) (x y : Spot) (cs : List Choice) : Type 0 where
  pub first : HereIn r pl limit.start cs x
  pub second : HereIn r pl limit.start cs y
  pub fares : Fares r pl limit (price_of r.words r.subject.end x + price_of r.words r.subject.end y + 2) cs

-- an end outside of all atomic scopes may be refused by a step more
abbrev pub end_share : ℕ → List Choice → ℕ
end_share n [] = n
end_share n (Else pt fs c m ∷ cs) = end_share n cs
end_share n (Keep g fs c m ∷ cs) = 0
end_share n (Trying pt fs c m ∷ cs) = end_share n cs

-- the innermost atomic scope ends at a position
abbrev pub EndsIn : Run → List Choice → ℕ → Type 0
EndsIn r [] p = ⊤
EndsIn r (Else pt fs c m ∷ cs) p = EndsIn r cs p
EndsIn r (Keep g fs c m ∷ cs) p = (goes_behind g ≡ true → c.position ≤ p) × (p ≤ r.subject.end)
EndsIn r (Trying pt fs c m ∷ cs) p = EndsIn r cs p

-- what is left where the machine backtracks, and where the innermost atomic scope, or the whole, ends
abbrev pub FaresBack : (r : Run) → Counted r → Limit → List Choice → Type 0
FaresBack r pl limit cs = Fares r pl limit 0 cs

pub record FaresEnd (r : Run) (pl : Counted r) (limit : Limit) (p : ℕ) (cs : List Choice) : Type 0 where
  pub at : EndsIn r cs p
  pub fares : Fares r pl limit (end_share 1 cs) cs

-- the opcode of an instruction
abbrev pub CodeAt : List ℕ → Point → SreOpcode → Type 0
CodeAt ws (Instruction i) o = Opcode ws i o
CodeAt ws pt o = ⊤

-- whether a point has credits: where the machine may have more than one way to go on
abbrev pub has_toll : SreOpcode → Point → Bool
has_toll o (Instruction i) = forking (role o)
has_toll o Again = true
has_toll o pt = false

-- a price, with the credits where an instruction or a possessive loop is executed, under loops at those addresses
abbrev pub pool : List ℕ → ℕ → SreOpcode → Point → List ℕ → ℕ → ℕ
pool ws e o pt ks p = price ws e pt p + toll ws e o pt ks

-- a configuration is reached, or executed: with the credits of its opcode, or with that of a repeat that is split
pub data Stage : Type 0 where
  Coming : Stage
  Going : Stage
  Splitting : Stage

-- how many steps what waits has to spare beyond those that come of the configuration
abbrev pub spare : Stage → ℕ
spare Coming = 1
spare Going = 0
spare Splitting = 0

-- what the configuration has
abbrev pub share : Stage → List ℕ → ℕ → SreOpcode → Spot → ℕ
share Coming ws e o x = price_of ws e x
share Going ws e o x = pool ws e o x.point (repeats x.frames) x.position
share Splitting ws e o x = price_of ws e x + split_toll ws x.point
