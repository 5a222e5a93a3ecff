-- What a caller passes, in the terms of the specification.
-- Public clauses rest on it.
use Rattle.std.specs.Prelude.{◌≡◌, ◌≢◌, ◌<◌, ◌≤◌, ℕ, List, Option, length, MatchOption, ◌⊎◌, cond, min}
use Rattle.sre_c.specs.Terms.{AllWithin, HoldsAt, Table, Tree, Whole, behind_block, Asked, Match, matched, found, Never}
use Rattle.sre_c.specs.Terms.{NonBoundary, IsRemembered, step_bound, Status, NotUtf8}
use Rattle.std.specs.Str.{chars, IsUtf8}
use Rattle.sre_c.specs.declared.code.SreCode.{SreCode}
use Rattle.sre_c.specs.declared.types.SreAsked.{SreAsked}
use Rattle.sre_c.specs.declared.utf8.Utf8.{Utf8}
use Rattle.sre_c.specs.declared.utf8.Utf8.TheVariants.{Ascii, Text, Invalid}
use Rattle.sre_c.specs.Known.{table_in}

-- from one place up to another no element is x
abbrev pub Lacks : {X : Type 0} → List X → X → ℕ → ℕ → Type 0
Lacks xs x from to = AllWithin (λ y. y ≢ x) xs from to

-- the first place of x from a place on, if there is one
abbrev pub IsFirstFrom : {X : Type 0} → List X → X → ℕ → Option ℕ → Type 0
IsFirstFrom xs x from first = MatchOption first (Lacks xs x from (length xs))
    (λ at. (from ≤ at) × (at < length xs) × HoldsAt (λ y. y ≡ x) xs at × Lacks xs x from at)

-- what is asked of a table and the characters of a text
abbrev pub asked_in : SreAsked → Table → List ℕ → Asked
asked_in a table text = record {
  text = text;
  table = table;
  start = min a.start (min a.end (length text));
  end = min a.end (length text);
  match_all = a.match_all;
  must_advance = a.must_advance;
  empty_rule = cond a.non_boundary NonBoundary Never;
}

-- the match of the model: the first way of the window's least start, or of its start alone
abbrev pub model_of : SreAsked → Asked → Tree → Option Match
model_of a asked t = cond a.search (found asked t) (matched asked t)

-- a fact of what is asked of a code and the characters of a text, and of the tree of the words
abbrev pub OfTree : SreCode → SreAsked → List ℕ → (Asked → Tree → Type 0) → Type 0
OfTree c a text says = (t : Tree) → Whole c.words.now t → says (asked_in a (table_in c.table.now) text) t

-- so many steps suffice for an answer, unless an allocation fails
pub record IsEnough (words : List ℕ) (a : Asked) (steps : ℕ) : Type 0 where
  pub tree : Tree
  pub whole : Whole words tree
  pub remembered : IsRemembered (length (behind_block words)) tree a
  pub more : step_bound tree a < steps

-- a fact of the characters of bytes that are UTF-8; or of bytes that are not the status, and that nothing was done
abbrev pub InUtf8 : Status → List ℕ → (List ℕ → Type 0) → Type 0 → Type 0
InUtf8 s bytes says nothing = (IsUtf8 bytes × says (chars bytes)) ⊎ ((s ≡ NotUtf8) × (IsUtf8 bytes → ⊥) × nothing)

-- what bytes are as UTF-8; in ASCII they are the characters
abbrev pub ReadsUtf8 : List ℕ → Utf8 → Type 0
ReadsUtf8 bytes (Ascii text) = (text.now ≡ bytes) × IsUtf8 bytes × (chars bytes ≡ bytes)
ReadsUtf8 bytes (Text text) = (text.now ≡ bytes) × IsUtf8 bytes
ReadsUtf8 bytes Invalid = IsUtf8 bytes → ⊥
