-- Equivalent configurations: no step differs between them, where the bytecode has no back-reference or conditional.
-- Definitions for the machine's contracts: the memo of failures goes by them, since a configuration that is equivalent
-- to one that failed fails, too. What sre_engine makes public does not rest on it.
use Rattle.std.specs.Prelude.{⊤, ℕ, ◌+◌, ◌-◌, ◌≡◌, ◌≤◌, Bool, false, List, [], ◌∷◌, min, nat_eq, Option, Some, None}
pub use Rattle.sre_model.specs.Slots.{counted_to}
use Rattle.sre_model.specs.Grammar.{Word}
use Rattle.sre_turns.specs.declared.Frame.{Frame}
use Rattle.sre_turns.specs.declared.Point.TheVariants.{Shorter}
use Rattle.sre_turns.specs.declared.Point.{Point}
use Rattle.sre_turns.specs.Moves.{Spot}

-- whether the last body beyond the least count began at a position
abbrev pub is_last : Option ℕ → ℕ → Bool
is_last None p = false
is_last (Some last) p = nat_eq last p

-- two frames of one loop, between which no turn from p on tells a difference
pub record FramesAlike (ws : List ℕ) (p : ℕ) (f g : Frame) : Type 0 where
  pub repeat : f.repeat ≡ g.repeat
  pub count : (low high : ℕ) → Word ws (f.repeat + 2) low → Word ws (f.repeat + 3) high
      → min f.count (counted_to low high) ≡ min g.count (counted_to low high)
  pub last : (q : ℕ) → p ≤ q → is_last f.last q ≡ is_last g.last q

-- as many loops on both sides, each alike
abbrev pub LoopsAlike : List ℕ → ℕ → List Frame → List Frame → Type 0
LoopsAlike ws p [] [] = ⊤
LoopsAlike ws p [] (g ∷ gs) = ⊥
LoopsAlike ws p (f ∷ fs) [] = ⊥
LoopsAlike ws p (f ∷ fs) (g ∷ gs) = FramesAlike ws p f g × LoopsAlike ws p fs gs

-- the least position to which a point comes back: the shorter counts of a run go back by so many characters
abbrev pub least_from : Point → ℕ → ℕ
least_from (Shorter t k) p = p - k
least_from pt p = p

-- two spots of which the same comes, up to the marks
pub record Alike (ws : List ℕ) (x y : Spot) : Type 0 where
  pub point : x.point ≡ y.point
  pub position : x.position ≡ y.position
  pub loops : LoopsAlike ws (least_from x.point x.position) x.frames y.frames
