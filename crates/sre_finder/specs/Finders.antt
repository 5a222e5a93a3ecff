-- What a finder knows of its code.
-- Definitions for the contracts of this crate.
use Rattle.std.specs.Prelude.{◌≡◌, ⊤, ℕ, List, Option, Some, None}
use Rattle.sre_finder.specs.Terms.{Re, meaning, Hir, StringCursor, Tree, WholeItems, items_of, uni_of, Code, view_of}
use Rattle.sre_finder.specs.Terms.{Encoding, NoneLeft}
use Rattle.sre_patterns.specs.Covers.{CoversStart}
use Rattle.sre_finder.specs.declared.prefilter.Prefilter.{Prefilter}

-- a pattern covers each start of a code's tree
pub record Covering (encoding : Encoding) (code : Code) (pattern : Re) : Type 0 where
  pub covers : (t : Tree) → WholeItems (items_of code) t → CoversStart (view_of encoding) (uni_of code) pattern t

-- the same of one that there may be
abbrev pub CoveringAny : Encoding → Code → Option Hir → Type 0
CoveringAny encoding code None = ⊤
CoveringAny encoding code (Some hir) = Covering encoding code (meaning hir)

-- the patterns of a prefilter cover a code
abbrev pub Filters : Code → Prefilter → Type 0
Filters code p = CoveringAny p.encoding code p.seeker × CoveringAny p.encoding code p.whole

-- the patterns of a prefilter are those that it had, of the same encoding
pub record SamePatterns (old new : Prefilter) : Type 0 where
  pub encoding : new.encoding ≡ old.encoding
  pub seeker : new.seeker ≡ old.seeker
  pub whole : new.whole ≡ old.whole

-- there is a pattern of which no match is left
abbrev pub NoneLeftOfAny : List ℕ → Option Hir → ℕ → Type 0
NoneLeftOfAny hay None start = ⊥
NoneLeftOfAny hay (Some hir) start = NoneLeft hay (meaning hir) start

-- the code, how the texts are seen as bytes, and the end of the window that was last asked about
pub record FinderValue : Type 0 where
  pub code : Code
  pub encoding : Encoding
  pub end : Option StringCursor

-- the window's end that is known stands in a text
abbrev pub EndStands : (StringCursor → ℕ → Type 0) → Option StringCursor → Type 0
EndStands stands None = ⊤
EndStands stands (Some end) = stands end end.position
