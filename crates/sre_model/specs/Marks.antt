-- Capture slots: the positions that a match path has set, and the last group's index.
-- Of the specification: what sre_engine makes public rests on it.
use Rattle.std.specs.Prelude.{ℕ, zero, suc, ◌+◌, ◌-◌, ◌*◌, ◌/◌, ◌%◌, List, [], ◌++◌, length, Option, Some, None}
use Rattle.std.specs.Prelude.{replicate, cond, nat_eq, nat_le, slice_set, slice_index_or, ℤ, pos, negsuc}

-- the position of each mark, and the last index, which is -1 where there is none
pub record Marks : Type 0 where
  pub raw : List (Option ℕ)
  pub last : ℤ

abbrev pub no_marks : Marks
no_marks = record { raw = []; last = negsuc 0 }

-- the list, lengthened with absent entries to n + 1 where it is shorter
abbrev pub lengthened : ℕ → List (Option ℕ) → List (Option ℕ)
lengthened n raw = raw ++ replicate (n + 1 - length raw) None

-- mark n set to position p; an odd mark ends a group, which becomes the last one
abbrev pub set_mark : Marks → ℕ → ℕ → Marks
set_mark m n p = record {
  raw = slice_set (lengthened n m.raw) n (Some p);
  last = cond (nat_eq (n % 2) 1) (pos ((n - 1) / 2 + 1)) m.last;
}

-- the position of a mark, where it is set
abbrev pub mark_at : Marks → ℕ → Option ℕ
mark_at m n = slice_index_or m.raw n None

-- the start and end of group g, where it is present: both marks are set, and in order
abbrev pub group : Marks → ℕ → Option (ℕ × ℕ)
group m g = elim (mark_at m (2 * g)) [
  | None ↦ None
  | (Some x) ↦ elim (mark_at m (2 * g + 1)) [ None ↦ None | (Some y) ↦ cond (nat_le x y) (Some (x, y)) None ]
]

-- a last index by its number, 0 where there is none
abbrev pub index_of : ℕ → ℤ
index_of zero = negsuc 0
index_of (suc k) = pos (suc k)
