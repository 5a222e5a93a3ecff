-- How far an iteration is followed within bounds: definitions for private functions' contracts.
use Rattle.std.specs.Prelude.{◌≡◌, ℕ, ◌+◌, ◌-◌, nat_eq, Bool, true, false, [], Option, Some, None}
use Rattle.sre_recipes.specs.Terms.{Ghosts, Tree, Whole, words_of, code_of, asked_of, match_shown, request_of, shown_of}
use Rattle.sre_recipes.specs.Terms.{left_of, IsOver, SearchIter, option_eq}
use Rattle.sre_engine.specs.Iterators.{has_ended}
use Rattle.sre_recipes.specs.declared.bounds.Bounds.{Bounds}
use Rattle.sre_recipes.specs.Bounded.{first_of}
use Rattle.sre_recipes.specs.Followed.{Spends, AllSpend, Followed}

-- whether no match is wanted any more, and how many are once one was taken
abbrev pub is_spent : Option ℕ → Bool
is_spent most = option_eq nat_eq most (Some 0)

abbrev pub one_less : Option ℕ → Option ℕ
one_less None = None
one_less (Some n) = Some (n - 1)

-- a search from where a walk stands finds the match that is shown then, within a budget of steps if there is one
abbrev pub SpendsOn : {S A : Type 0} {text : Ghosts S} → SearchIter S A text → SearchIter S A text → Option ℕ → Option ℕ
    → Type 0
SpendsOn {A = A} it next given left =
    let m = match_shown (shown_of next) in
    Spends A (asked_of (request_of it)) (code_of (request_of it)) (m.start + 1) m.end (Some true) given left

-- or it is the last one of the walk
abbrev pub SpendsLast : {S A : Type 0} {text : Ghosts S} → SearchIter S A text → Bool → Option ℕ → Option ℕ → Type 0
SpendsLast {A = A} it exceeded given left =
    has_ended it ≡ false → AllSpend A (asked_of (request_of it)) (code_of (request_of it)) [] exceeded given left

-- what is left of a walk is followed within bounds
abbrev pub FollowedRest : {S A : Type 0} {text : Ghosts S} → SearchIter S A text → Bounds → Bounds → Type 0
FollowedRest {A = A} it before after =
    Followed A (asked_of (request_of it)) (code_of (request_of it)) before.most before.steps after

-- one more match is looked for, within a budget of steps if there is one: a match comes
pub record Goes {S A : Type 0} {text : Ghosts S} (it next : SearchIter S A text) (before after : Bounds) : Type 0 where
  pub most : after.most ≡ before.most
  pub going : after.limit_exceeded ≡ false
  pub spends : SpendsOn it next before.steps after.steps

-- or none is left, unless the step limit was exceeded
pub record Ends {S A : Type 0} {text : Ghosts S} (it : SearchIter S A text) (before after : Bounds) : Type 0 where
  pub most : after.most ≡ before.most
  pub over : after.limit_exceeded ≡ false → IsOver it
  pub spends : SpendsLast it after.limit_exceeded before.steps after.steps

-- a match was taken within bounds
pub record Takes {S A : Type 0} {text : Ghosts S} (it next : SearchIter S A text) (before after : Bounds) : Type 0 where
  pub wanted : is_spent before.most ≡ false
  pub most : after.most ≡ one_less before.most
  pub going : after.limit_exceeded ≡ false
  pub spends : SpendsOn it next before.steps after.steps

-- no match is left within bounds, unless the step limit was exceeded
pub record Stops {S A : Type 0} {text : Ghosts S} (it : SearchIter S A text) (before after : Bounds) : Type 0 where
  pub wanted : after.limit_exceeded ≡ true → is_spent before.most ≡ false
  pub most : after.most ≡ before.most
  pub none : after.limit_exceeded ≡ false → (t : Tree) → Whole (words_of (code_of (request_of it))) t
      → first_of before.most (left_of it t) ≡ []
  pub spends : SpendsLast it after.limit_exceeded before.steps after.steps
