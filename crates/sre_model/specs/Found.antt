-- What is requested of a code on a text, and the match that is found.
-- Of the specification: what sre_engine makes public rests on it.
use Rattle.std.specs.Prelude.{◌+◌, ◌-◌, ◌*◌, ℕ, zero, suc, List, [], ◌∷◌, Bool, not, ◌&&◌, ◌||◌, cond, nat_eq, Option}
use Rattle.std.specs.Prelude.{Some, None}
use Rattle.sre_chars.specs.declared.constants.EmptyRule.{EmptyRule}
use Rattle.sre_chars.specs.Tables.{Table}
use Rattle.sre_model.specs.Tree.{Tree}
use Rattle.sre_model.specs.Marks.{Marks, no_marks}
use Rattle.sre_model.specs.Subject.{Subject}
use Rattle.sre_model.specs.Ways.{Way, ways}

-- the characters, the table, the window [start, end], the flags, and the rule for non-boundaries on nothing
pub record Asked : Type 0 where
  pub text : List ℕ
  pub table : Table
  pub start : ℕ
  pub end : ℕ
  pub match_all : Bool
  pub must_advance : Bool
  pub empty_rule : EmptyRule

-- where a match starts and ends, and its marks
pub record Match : Type 0 where
  pub start : ℕ
  pub end : ℕ
  pub marks : Marks

abbrev pub subject_of : Asked → Subject
subject_of a = record { text = a.text; end = a.end; table = a.table; empty_rule = a.empty_rule }

-- under match_all an end must be the window's, under must_advance it must not be the window's start
abbrev pub is_accepted : Asked → Way → Bool
is_accepted a w = (not a.match_all || nat_eq w.stop a.end) && (not a.must_advance || not (nat_eq w.stop a.start))

-- the first accepted one of some ways from s, as a match
abbrev pub first_accepted : Asked → ℕ → List Way → Option Match
first_accepted a s [] = None
first_accepted a s (w ∷ ws) =
    cond (is_accepted a w) (Some (record { start = s; end = w.stop; marks = w.marks })) (first_accepted a s ws)

-- the match from s: the first accepted way that begins with no marks
abbrev pub at_start : Asked → Tree → ℕ → Option Match
at_start a t s = first_accepted a s (ways (subject_of a) t s no_marks)

-- the match from the window's start
abbrev pub matched : Asked → Tree → Option Match
matched a t = at_start a t a.start

-- the match from the least of n starts, from s on
abbrev pub found_from : ℕ → Asked → Tree → ℕ → Option Match
found_from zero a t s = None
found_from (suc n) a t s = elim (at_start a t s) [ (Some m) ↦ Some m | None ↦ found_from n a t (s + 1) ]

-- the match from the least start in the window that has one
abbrev pub found : Asked → Tree → Option Match
found a t = found_from (a.end + 1 - a.start) a t a.start

-- what is asked after a match: from its end on, and not again for an empty match there
abbrev pub asked_after : Asked → Match → Asked
asked_after a m = record a { start = m.end; must_advance = nat_eq m.end m.start }

-- at most n matches of the walk
abbrev pub walk_of : ℕ → Asked → Tree → List Match
walk_of zero a t = []
walk_of (suc n) a t = elim (found a t) [ (Some m) ↦ m ∷ walk_of n (asked_after a m) t | None ↦ [] ]

-- the matches of the walk; a window of n characters has at most 2n + 1
abbrev pub walk : Asked → Tree → List Match
walk a t = walk_of (2 * (a.end - a.start) + 1) a t
