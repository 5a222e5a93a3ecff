-- How long an iteration can be, and how its matches follow each other.
-- Of the specification: what sre_engine makes public rests on it.
use Rattle.std.specs.Prelude.{◌≤◌, ℕ, ◌+◌, ◌-◌, ◌*◌, List, [], ◌∷◌, ⊤, cond}
use Rattle.sre_model.specs.Found.{Asked, Match}

-- a walk over n characters has at most 2n + 1 matches, and 2n where it must advance at first
abbrev pub most_matches : Asked → ℕ
most_matches a = 2 * (a.end - a.start) + cond a.must_advance 0 1

-- each match starts no earlier than the former's end, the first no earlier than p
abbrev pub AreInOrder : ℕ → List Match → Type 0
AreInOrder p [] = ⊤
AreInOrder p (m ∷ ms) = (p ≤ m.start) × (m.start ≤ m.end) × AreInOrder m.end ms
