-- How many steps suffice for a code, in each range of a text of so many characters.
-- Public clauses rest on it.
use Rattle.std.specs.Prelude.{ℕ, ◌+◌, ◌^◌, ◌≡◌, ◌<◌, ◌≤◌}
use Rattle.sre_code.specs.Terms.{Tree, nesting, Asked, IsRemembered, step_bound}

-- a range of a text of at most so many characters
pub record IsWindow (characters : ℕ) (a : Asked) : Type 0 where
  pub order : a.start ≤ a.end
  pub within : a.end ≤ characters

-- the whole of a text of so many characters
pub record IsWholeText (characters : ℕ) (a : Asked) : Type 0 where
  pub start : a.start ≡ 0
  pub end : a.end ≡ characters

-- this is a sufficient number of steps for a tree of so many words, in each such range: one more than the bound of the
-- whole text
pub record IsStepBound (places : ℕ) (t : Tree) (characters steps : ℕ) : Type 0 where
  pub remembered : (a : Asked) → IsWindow characters a → IsRemembered places t a
  pub more : (a : Asked) → IsWindow characters a → step_bound t a < steps
  pub least : (a : Asked) → IsWholeText characters a → steps ≡ step_bound t a + 1

-- how deep items may be nested
abbrev pub most_nested : ℕ
most_nested = 100

-- there is none: not each failure is memoized for a whole text, the items are nested too deep, or the number takes more
-- than 64 bits
pub record HasNoStepBound (places : ℕ) (t : Tree) (characters : ℕ) : Type 0 where
  pub none :
      (a : Asked) → IsWholeText characters a → IsRemembered places t a → nesting t ≤ most_nested
      → 2 ^ 64 ≤ step_bound t a + 1
