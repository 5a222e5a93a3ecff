-- What DFAs report about the matches of a pattern, and what is known of a pattern that is sought.
-- Definitions for the contracts of this crate.
use Rattle.std.specs.Prelude.{◌≡◌, ⊤, ℕ, ◌≤◌, ◌<◌, List, length, Some, None, Option}
use Rattle.sre_automata.specs.Terms.{Re, Nfa, Implements, HasPaths}
use Rattle.regex_hir.specs.Matches.{Matches}
use Rattle.regex_hir.specs.Find.{Match, find}
use Rattle.regex_nfa.specs.Run.{run}
use Rattle.regex_dfa.specs.Search.{end_from}
use Rattle.sre_automata.specs.declared.Told.{Told}
use Rattle.sre_automata.specs.declared.Told.TheVariants.{Nothing, From}
use Rattle.sre_automata.specs.declared.FirstMatch.{FirstMatch}
use Rattle.sre_automata.specs.declared.FirstMatch.TheVariants as first_match
use Rattle.memchr.specs.Find.{OccursAt}

-- no match begins at a place or behind it
pub record NoneLeft (hay : List ℕ) (re : Re) (start : ℕ) : Type 0 where
  pub none : (i j : ℕ) → start ≤ i → i ≤ length hay → Matches hay re i j → ⊥

-- no path begins from one place up to before another
pub record NoneBetween (nfa : Nfa) (hay : List ℕ) (start at : ℕ) : Type 0 where
  pub after : start ≤ at
  pub none : (i : ℕ) → start ≤ i → i < at → run nfa hay (length hay) nfa.start i ≡ None

-- the first path that begins at a place has this end
pub record EndsAt (nfa : Nfa) (hay : List ℕ) (at end : ℕ) : Type 0 where
  pub ends : end_from nfa hay (length hay) nfa.start at ≡ Some end
  pub forward : at ≤ end
  pub inside : end ≤ length hay

-- none begins from one place up to before another
pub record NoneUpTo (hay : List ℕ) (re : Re) (start from : ℕ) : Type 0 where
  pub after : start ≤ from
  pub inside : from ≤ length hay
  pub none : (i j : ℕ) → start ≤ i → i < from → Matches hay re i j → ⊥

-- from where on the next match can begin
abbrev pub Tells : List ℕ → Re → ℕ → Told → Type 0
Tells hay re start Nothing = NoneLeft hay re start
Tells hay re start (From from) = NoneUpTo hay re start from

-- the first match is found between two places
pub record IsBetween (hay : List ℕ) (re : Re) (start from end : ℕ) : Type 0 where
  pub match : Match
  pub found : find re hay start ≡ Some match
  pub begins : match.start ≡ from
  pub ends : match.trace.end ≡ end
  pub after : start ≤ from
  pub forward : from ≤ end
  pub inside : end ≤ length hay

-- what a search for the pattern finds
abbrev pub FindsFirst : List ℕ → Re → ℕ → FirstMatch → Type 0
FindsFirst hay re start first_match.Nothing = find re hay start ≡ None
FindsFirst hay re start (first_match.Between from end) = IsBetween hay re start from end
FindsFirst hay re start first_match.Unknown = ⊤

-- bytes stand in a text at a place or behind it
pub record StandsFrom (hay bytes : List ℕ) (start : ℕ) : Type 0 where
  pub place : ℕ
  pub behind : start ≤ place
  pub occurs : OccursAt hay bytes place

-- each match of a pattern contains these bytes
abbrev pub Contains : Re → List ℕ → Type 0
Contains re bytes =
    (hay : List ℕ) (i j : ℕ) → i ≤ length hay → Matches hay re i j → StandsFrom hay bytes i

-- the same of bytes that there may be
abbrev pub ContainsAny : Re → Option (List ℕ) → Type 0
ContainsAny re None = ⊤
ContainsAny re (Some bytes) = Contains re bytes

-- automata have the matches of a pattern, and the first of them
abbrev pub Seeks : Re → Nfa → Type 0
Seeks re nfa = HasPaths nfa re × Implements nfa re
