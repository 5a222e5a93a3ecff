-- Where a match starts and ends in a text, as an iteration leaves it: definitions for private functions' contracts.
use Rattle.std.specs.Prelude.{ℕ, Bool, true, ◌≡◌, ◌≤◌}
use Rattle.sre_recipes.specs.Terms.{StringCursor, Match, Shown, match_shown}

-- a cursor of a text stands at a position
pub record StandsAt (stands : StringCursor → ℕ → Type 0) (c : StringCursor) (p : ℕ) : Type 0 where
  pub there : stands c c.position
  pub at : c.position ≡ p

-- it stands there, or before
pub record StandsBy (stands : StringCursor → ℕ → Type 0) (c : StringCursor) (p : ℕ) : Type 0 where
  pub there : stands c c.position
  pub before : c.position ≤ p

-- two cursors of a text stand where the match that a state shows starts and ends; the state's own one does, too
pub record IsSpan (stands : StringCursor → ℕ → Type 0) (s : Shown) (start end : StringCursor) : Type 0 where
  pub from : stands start start.position
  pub begins : start.position ≡ s.start
  pub to : stands end end.position
  pub ends : end.position ≡ s.cursor.position
  pub at : stands s.cursor s.cursor.position
  pub forward : s.start ≤ s.cursor.position

-- two cursors of a text stand where a match starts and ends; of one that is found with its captures a state shows these
pub record IsFound (stands : StringCursor → ℕ → Type 0) (captures : Bool) (s : Shown) (start end : StringCursor)
    : Type 0 where
  pub from : stands start start.position
  pub to : stands end end.position
  pub forward : start.position ≤ end.position
  pub shown : captures ≡ true → IsSpan stands s start end

-- and that is the match
pub record Shows (captures : Bool) (s : Shown) (start end : StringCursor) (m : Match) : Type 0 where
  pub starts : m.start ≡ start.position
  pub ends : m.end ≡ end.position
  pub shown : captures ≡ true → m ≡ match_shown s
