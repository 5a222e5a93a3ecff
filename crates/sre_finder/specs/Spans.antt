-- The spans of an iteration's matches, and what a finder of spans knows of its code.
-- Definitions for the contracts of this crate.
use Rattle.std.specs.Prelude.{◌≡◌, ◌≤◌, ⊤, ℕ, nat_eq, Option, Some, None}
use Rattle.sre_finder.specs.Terms.{Re, meaning, Hir, Ghosts, StringCursor, Tree, Whole, WholeItems, Marks, Match, found}
use Rattle.sre_finder.specs.Terms.{words_of, items_of, uni_of, Code, Request, string_of, start_of, end_of, code_of}
use Rattle.sre_finder.specs.Terms.{asked_of, stands_in, Shown, match_shown, view_of, Encoding}
use Rattle.regex_hir.specs.Matches.{IsMinLen}
use Rattle.sre_patterns.specs.Covers.{ExactTree}
use Rattle.sre_finder.specs.declared.span_finder.Known.{Known}
use Rattle.sre_finder.specs.declared.span_finder.Known.TheVariants as known

-- a pattern reads a byte at least and tries the ways of a code's tree in their order
pub record Exactly (encoding : Encoding) (code : Code) (pattern : Re) : Type 0 where
  pub reads : IsMinLen pattern 1
  pub exact : (t : Tree) → WholeItems (items_of code) t → ExactTree (view_of encoding) (uni_of code) pattern t

-- the same of one that there may be
abbrev pub ExactlyAny : Encoding → Code → Option Hir → Type 0
ExactlyAny encoding code None = ⊤
ExactlyAny encoding code (Some hir) = Exactly encoding code (meaning hir)

abbrev pub match_with : ℕ → ℕ → Marks → Match
match_with start end marks = record { start = start; end = end; marks = marks }

-- what is asked has a match from one place to another, with some marks
pub record FindsSpan {S : Type 0} {text : Ghosts S} (r : Request S text) (start end : ℕ) : Type 0 where
  pub some : (t : Tree) → Whole (words_of (code_of r)) t
      → (marks : Marks) × (found (asked_of r) t ≡ Some (match_with start end marks))

-- it has none
pub record FindsNone {S : Type 0} {text : Ghosts S} (r : Request S text) : Type 0 where
  pub none : (t : Tree) → Whole (words_of (code_of r)) t → found (asked_of r) t ≡ None

-- the match of a request, between two cursors of its window
pub record Between {S : Type 0} {text : Ghosts S} (r : Request S text) (start end : StringCursor) : Type 0 where
  pub begins : stands_in r start start.position
  pub ends : stands_in r end end.position
  pub from : start_of r ≤ start.position
  pub forward : start.position ≤ end.position
  pub inside : end.position ≤ end_of r
  pub finds : FindsSpan r start.position end.position

-- what automata know of it
abbrev pub Knows : {S : Type 0} {text : Ghosts S} → Request S text → Known → Type 0
Knows r known.Nothing = FindsNone r
Knows r (known.Between start end) = Between r start end
Knows r known.Unknown = ⊤

-- what is asked after a match that goes from one place to another
pub record GoesOnBehind {S : Type 0} {text : Ghosts S} (r : Request S text) (start end : ℕ) (u : Request S text)
    : Type 0 where
  pub from : start_of r ≤ start
  pub forward : start ≤ end
  pub inside : end ≤ end_of r
  pub asked : asked_of u ≡ record (asked_of r) { start = end; must_advance = nat_eq end start }
  pub string : string_of u ≡ string_of r
  pub pattern_codes : code_of u ≡ code_of r

-- a step's match goes from a cursor to where the next window starts
pub record StepsFrom {S : Type 0} {text : Ghosts S} (r : Request S text) (start : StringCursor) (u : Request S text)
    : Type 0 where
  pub begins : stands_in r start start.position
  pub goes_on : GoesOnBehind r start.position (start_of u) u
  pub finds : FindsSpan r start.position (start_of u)

-- a state shows the match of a step, at whose end its cursor stands
pub record ShowsStep {S : Type 0} {text : Ghosts S} (r : Request S text) (s : Shown) (u : Request S text) : Type 0 where
  pub is : (t : Tree) → Whole (words_of (code_of r)) t → found (asked_of r) t ≡ Some (match_shown s)
  pub stands : stands_in u s.cursor s.cursor.position
