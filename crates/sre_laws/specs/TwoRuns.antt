-- A code whose failures are all memoized, for a worked law.
use Rattle.std.specs.Prelude.{ℕ, List, [], ◌∷◌}

-- the words of (?:a+a+)+b, as CPython's compiler makes them, without a block
abbrev pub words_of_two_runs : List ℕ
words_of_two_runs =
    23 ∷ 17 ∷ 1 ∷ 4294967295 ∷ 24 ∷ 6 ∷ 1 ∷ 4294967295 ∷ 16 ∷ 97 ∷ 1 ∷ 24 ∷ 6 ∷ 1 ∷ 4294967295 ∷ 16 ∷ 97 ∷ 1 ∷ 18
    ∷ 16 ∷ 98 ∷ 1 ∷ []
