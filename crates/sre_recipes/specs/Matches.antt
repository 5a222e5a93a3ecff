-- Matches and groups with their byte offsets, as they show.
-- Of the specification: what sre_recipes makes public rests on it.
use Rattle.std.specs.Prelude.{ℕ, ◌+◌, ◌-◌, ◌/◌, List, length, map, Option, Some, None, cond, nat_eq, nat_le}
use Rattle.std.specs.Prelude.{slice_range}
use Rattle.sre_recipes.specs.Terms.{range_with_len, option_map, Marks, group}
use Rattle.sre_engine.specs.Found as model
use Rattle.sre_recipes.specs.declared.matches.Match.{Match}
use Rattle.sre_recipes.specs.declared.groups.CapturesOf.{CapturesOf}

-- at which bytes it begins and ends, and its text
abbrev pub start_in : {S : Type 0} → Match S → ℕ
start_in m = m.start

abbrev pub end_in : {S : Type 0} → Match S → ℕ
end_in m = m.end

abbrev pub text_in : {S : Type 0} → Match S → S
text_in m = m.text

-- the bytes at which some characters begin and end, and the characters
pub record Placed : Type 0 where
  pub start : ℕ
  pub end : ℕ
  pub characters : List ℕ

-- a match as it shows, by the characters of its text
abbrev pub match_seen : {S : Type 0} → (S → List ℕ) → Match S → Placed
match_seen texts m = record { start = m.start; end = m.end; characters = texts m.text }

-- the characters from one position to another, where `place` is the byte offset of each position
abbrev pub placed : List ℕ → (ℕ → ℕ) → ℕ → ℕ → Placed
placed text place from to = record { start = place from; end = place to; characters = slice_range text from to }

-- those of a match
abbrev pub placed_match : List ℕ → (ℕ → ℕ) → model.Match → Placed
placed_match text place m = placed text place m.start m.end

-- those of the group of marks 2g and 2g + 1, where the group is present and within the text
abbrev pub placed_within : List ℕ → (ℕ → ℕ) → ℕ → ℕ → Option Placed
placed_within text place from to = cond (nat_le to (length text)) (Some (placed text place from to)) None

abbrev pub placed_marks : List ℕ → (ℕ → ℕ) → Marks → ℕ → Option Placed
placed_marks text place marks g =
    elim (group marks g) [ None ↦ None | (Some span) ↦ placed_within text place span.0 span.1 ]

-- those of a group as Python counts: number 0 is the match, and number 1 the first group
abbrev pub placed_group : List ℕ → (ℕ → ℕ) → model.Match → ℕ → Option Placed
placed_group text place m number =
    cond (nat_eq number 0) (Some (placed_match text place m)) (placed_marks text place m.marks (number - 1))

-- the match, and each group up to the last that the marks reach
abbrev pub placed_groups : List ℕ → (ℕ → ℕ) → model.Match → List (Option Placed)
placed_groups text place m = map (placed_group text place m) (range_with_len 0 (length m.marks.raw / 2 + 1))

-- a match with its groups as it shows
abbrev pub groups_seen : {S A : Type 0} → (S → List ℕ) → CapturesOf (Match S) A → List (Option Placed)
groups_seen texts c = map (option_map (match_seen texts)) c.groups.items
