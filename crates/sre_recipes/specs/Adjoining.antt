-- The matches of an iteration that adjoin each other: definitions for private functions' contracts.
use Rattle.std.specs.Prelude.{◌≡◌, ℕ, List, [], ◌∷◌, cond, nat_eq}
use Rattle.sre_recipes.specs.Terms.{Ghosts, Tree, Whole, Match, words_of, start_of, code_of, request_of, shown_of}
use Rattle.sre_recipes.specs.Terms.{left_of, Gives, SearchIter}

-- of matches in order those up to the first gap from p on, without the empty ones
abbrev pub adjoining : ℕ → List Match → List Match
adjoining p [] = []
adjoining p (m ∷ ms) =
    cond (nat_eq m.start p) (cond (nat_eq m.end p) (adjoining p ms) (m ∷ adjoining m.end ms)) []

-- a match, where it is not empty
abbrev pub unless_empty : Match → List Match
unless_empty m = cond (nat_eq m.start m.end) [] (m ∷ [])

-- the next match of a walk begins where the walk goes on
pub record Adjoins {S A : Type 0} {text : Ghosts S} (it next : SearchIter S A text) : Type 0 where
  pub gives : Gives it next
  pub here : (shown_of next).start ≡ start_of (request_of it)

-- none of the matches that are left adjoins
pub record NoneAdjoins {S A : Type 0} {text : Ghosts S} (it : SearchIter S A text) : Type 0 where
  pub none : (t : Tree) → Whole (words_of (code_of (request_of it))) t
      → adjoining (start_of (request_of it)) (left_of it t) ≡ []
