-- How many steps the runs of a search can take.
-- Of the specification: what sre_engine makes public rests on it.
use Rattle.std.specs.Prelude.{◌≤◌, ℕ, ◌+◌, ◌-◌, ◌*◌, ◌/◌}
use Rattle.sre_model.specs.Tree.{Tree}
use Rattle.sre_model.specs.Marks.{no_marks}
use Rattle.sre_model.specs.Subject.{Subject}
use Rattle.sre_model.specs.Found.{Asked, subject_of}
use Rattle.sre_model.specs.Prefixes.{behind_items}
use Rattle.sre_model.specs.Cost.{cost, ending}

-- the turns of a run that goes over all ways of a tree from a position, with no marks, and then finds no other
abbrev pub turns_of : Subject → Tree → ℕ → ℕ
turns_of s t p = cost s t ending p no_marks + 1

-- for how many a turn counts at most: a long stretch of characters that it passes counts one for each eight
abbrev pub most_each : Asked → ℕ
most_each a = 1 + (a.end - a.start) / 8

-- a run over a tree, or over what is behind some of its first items, counts for at most so many turns
pub record RunsWithin (a : Asked) (t : Tree) (most : ℕ) : Type 0 where
  pub each : (n p : ℕ) → p ≤ a.end → turns_of (subject_of a) (behind_items n t) p * most_each a ≤ most
