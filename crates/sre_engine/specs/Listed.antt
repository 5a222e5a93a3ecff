-- A match in a list.
-- Of the specification: what sre_engine makes public rests on it.
use Rattle.sre_engine.specs.Terms.{Match}
use Rattle.sre_engine.specs.declared.engine.whole_walk.Found.{Found}

-- a match as the model has it
abbrev pub match_of : {A : Type 0} → Found A → Match
match_of f = record { start = f.start; end = f.end; marks = record { raw = f.marks.items; last = f.last_index } }
