-- What an export reports of an iteration.
-- Public clauses rest on it.
use Rattle.std.specs.Prelude.{ℕ, ◌≡◌, ◌<◌, ◌+◌, ◌-◌, ◌*◌, ◌^◌, ◌⊎◌, List, [], ◌∷◌, length, slice_index, take, Bool}
use Rattle.std.specs.Prelude.{false, Option, Some, None, Ok, ◌==◌, if◌then◌else◌, ℤ, pos, negsuc, ◌++◌}
use Rattle.sre_c.specs.Terms.{Global, Tree, Whole, IsCode, mark_at, Asked, Match, walk, Refused, Status, No, Yes}
use Rattle.sre_c.specs.Terms.{StepLimit, Memory, NoCode, NoRoom, NotUtf8, FaultyTable}
use Rattle.sre_c.specs.declared.code.SreCode.{SreCode}
use Rattle.sre_c.specs.declared.types.SreAsked.{SreAsked}
use Rattle.sre_c.specs.declared.types.SreWalked.{SreWalked}
use Rattle.sre_c.specs.Known.{table_in}
use Rattle.sre_c.specs.Checked.{IsFaulty}
use Rattle.sre_c.specs.Given.{asked_in, OfTree, IsEnough}
use Rattle.sre_c.specs.Answered.{mark_number, KeepsBudget, KeepBudget}

-- a last index as a number: the greatest of 64 bits where there is none
abbrev pub index_number : ℤ → ℕ
index_number (pos n) = n
index_number (negsuc n) = 2 ^ 64 - 1

-- the numbers of a row: start, end, last index, and then the marks
abbrev pub entry_of : Match → ℕ → ℕ
entry_of m q =
    if q == 0 then m.start
    else if q == 1 then m.end
    else if q == 2 then index_number m.marks.last
    else mark_number (mark_at m.marks (q - 3))

-- a match is a row of so many numbers, from a place on
pub record IsRow (m : Match) (at width : ℕ) (rows : List ℕ) : Type 0 where
  pub each : (q : ℕ) → q < width → slice_index rows (at + q) ≡ entry_of m q

-- matches are rows of so many numbers each, one after the other from a place on
abbrev pub AreRows : List Match → ℕ → ℕ → List ℕ → Type 0
AreRows [] at width rows = Unit {0}
AreRows (m ∷ ms) at width rows = IsRow m at width rows × AreRows ms (at + width) width rows

-- some matches are those that are written, and those that are left
pub record IsWritten (all left : List Match) (width : ℕ) (w : SreWalked) (rows : List ℕ) : Type 0 where
  pub written : List Match
  pub both : all ≡ written ++ left
  pub count : w.count ≡ length written
  pub in_rows : AreRows written 0 width rows

-- what is asked next
abbrev pub asked_next : SreAsked → SreWalked → SreAsked
asked_next a w = record a { start = w.start; must_advance = w.must_advance }

-- the matches of the walk are those that are written, and those of what is asked next
abbrev pub IsUpTo : SreCode → List ℕ → SreAsked → ℕ → SreWalked → List ℕ → Type 0
IsUpTo c text a width w rows = OfTree c a text (λ asked t.
    IsWritten (walk asked t) (walk (asked_in (asked_next a w) (table_in c.table.now) text) t) width w rows)

-- a walk of which nothing is written
abbrev pub begun_of : SreAsked → SreWalked
begun_of a = record {
  count = 0;
  start = a.start;
  steps = a.steps;
  steps_before = a.steps;
  must_advance = a.must_advance;
}

-- what the searches for the written matches leave of the steps
abbrev pub RowsLeave : SreCode → List ℕ → SreAsked → SreWalked → ℕ → Type 0
RowsLeave c text a w left = OfTree c a text (λ asked t.
    KeepBudget c.words.now asked (take w.count (walk asked t)) a.steps left)

-- what the last search leaves, which found no match, or exceeded the step limit
abbrev pub LastLeaves : SreCode → List ℕ → SreAsked → SreWalked → Option Bool → Type 0
LastLeaves c text a w told =
    let asked : Asked = asked_in (asked_next a w) (table_in c.table.now) text in
    KeepsBudget c.words.now asked asked.end (Ok told) w.steps_before w.steps

-- the walk over the characters of a text, in rows of so many numbers; the step limit is exceeded only if no step is
-- left, and not if those left before the last match sufficed for it, unless an allocation failed
abbrev pub Walks : Status → SreCode → List ℕ → SreAsked → ℕ → SreWalked → List ℕ → Type 0
Walks No c text a width w rows =
    IsCode c.words.now × OfTree c a text (λ asked t. IsWritten (walk asked t) [] width w rows)
    × RowsLeave c text a w w.steps_before × LastLeaves c text a w (Some false)
Walks NoRoom c text a width w rows =
    IsCode c.words.now × IsUpTo c text a width w rows
    × ((width ≡ 0) ⊎ (length rows < w.count * width + width)) × RowsLeave c text a w w.steps
Walks StepLimit c text a width w rows =
    IsCode c.words.now × IsUpTo c text a width w rows × (w.steps ≡ 0)
    × (IsEnough c.words.now (asked_in (asked_next a w) (table_in c.table.now) text) w.steps_before → Refused Global)
    × (w.count ≡ 0 → w.steps_before ≡ a.steps)
    × RowsLeave c text a w w.steps_before × LastLeaves c text a w None
Walks Memory c text a width w rows = Refused Global × IsUpTo c text a width w rows × RowsLeave c text a w w.steps_before
Walks NoCode c text a width w rows = ((t : Tree) → (Whole c.words.now t → ⊥)) × (w ≡ begun_of a)
Walks FaultyTable c text a width w rows = IsFaulty c.table.now × (w ≡ begun_of a)
Walks Yes c text a width w rows = ⊥
Walks NotUtf8 c text a width w rows = ⊥
