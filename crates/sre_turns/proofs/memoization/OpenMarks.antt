-- No configuration is reached that is equivalent to one whose marker waits: equivalent ones take as many steps, and the
-- one reached has fewer to come than the one that is tried. That the step bound suffices rests on this.
use Rattle.sre_turns.proofs.Terms.{ℕ, ◌+◌, ◌≤◌, List, [], ◌∷◌, arith, HasReference, Limit, tried_spots, BoardValue, Run}
use Rattle.sre_turns.proofs.Terms.{StringCursor, Runs, Waits, otherwise, kept, tried, Arrives, spot, AllByRecursion}
use Rattle.sre_turns.proofs.Terms.{Alike, Attempt, Point, Spot, Choice, Else, Keep, Trying, Way}
use Rattle.sre_turns.proofs.memoization.SameComes.{same_comes}

-- what is tried is of no spot that is alike to this one
abbrev pub NoneTried : List ℕ → Spot → List Choice → Type 0
NoneTried ws x cs = AllByRecursion (λ (a : Attempt). Alike ws a.spot x → ⊥) (tried_spots cs)

-- of what waits for more turns than come of a spot, no mark is of one that is alike
apart : (r : Run) → (HasReference r.words → ⊥) → (x : Spot) (os : List Way) (n : ℕ) → Runs r.words r.subject x os n
    → (cs : List Choice) {u : ℕ} {now all : List Way} {k : ℕ} → n + 1 ≤ u → Waits r cs u now all k
    → NoneTried r.words x cs
apart r none x os n d [] l wt = tt
apart r none x os n d (Else pt fs c m ∷ cs) l (otherwise there placed e wt) =
    apart r none x os n d cs (omega arith) wt
apart r none x os n d (Trying pt fs c m ∷ cs) l (tried there placed e most same wt) = (
  λ alike. absurd (omega (arith, (same_comes r.words r.subject none alike e d).1, l, most)),
  apart r none x os n d cs l wt,
)
apart r none x os n d (Keep g fs c m ∷ cs) l (kept {n = k} there placed e wt) =
    apart r none x os n d cs (omega (arith, l)) wt

pub none_tried : (r : Run) → (HasReference r.words → ⊥)
    → (all : List Way) (limit : Limit) (pt : Point) (c : StringCursor)
    (b : BoardValue) → Arrives r all limit pt c b → NoneTried r.words (spot pt c b) b.choices
none_tried r none all limit pt c b g =
    apart r none (spot pt c b) g.now g.turns g.runs b.choices (omega arith) g.waits
