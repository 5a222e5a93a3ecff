-- What a step over a match adds to pieces, to tokens and to a text.
use Rattle.sre_recipes.proofs.Terms.{◌≡◌, ◌+◌, ℕ, List, [], ◌∷◌, ◌++◌, map, refl, append-nil, map-append}
use Rattle.sre_recipes.proofs.Terms.{range_with_len, Match, reached, lexeme_of, adjoining, unless_empty, append_assoc}
use Rattle.sre_recipes.proofs.Terms.{Lexeme}
use Rattle.std.proofs.lemmas.List.FromFn.{map-range_with_len_more}
use Rattle.sre_recipes.proofs.Adjoining.{adjoining_step, reached_step}

-- two parts more, before what follows
pub two_more : {X : Type 0} (old new x y rest all : List X) → new ≡ (old ++ x) ++ y → all ≡ new ++ rest
    → all ≡ old ++ (x ++ (y ++ rest))
two_more old new x y rest all is then = rw (then, is) (simp append_assoc)

-- one more, which shows what a function gives at the next number
pub counted_step : {X Y : Type 0} (shown : X → Y) (f : ℕ → Y) (old : List Y) (xs ys : List X) (x : X) (a n k : ℕ)
    → ys ≡ xs ++ x ∷ [] → a + n ≡ k → shown x ≡ f k → map shown xs ≡ old ++ map f (range_with_len a n)
    → map shown ys ≡ old ++ map f (range_with_len a (n + 1))
counted_step shown f old xs ys x a n k is place one so_far = rw (
  is,
  map-append shown xs (x ∷ []),
  so_far,
  one,
  map-range_with_len_more f a n k place,
  append_assoc,
) refl

-- a match that adjoins, unless it is empty
pub tokens_step : (text : List ℕ) (xs ys : List Lexeme) (m : Match) (left ms : List Match) (p q : ℕ)
    (all : List Lexeme)
    → left ≡ m ∷ ms → m.start ≡ p → q ≡ m.end → ys ≡ xs ++ map (lexeme_of text) (unless_empty m)
    → xs ++ map (lexeme_of text) (adjoining p left) ≡ all → ys ++ map (lexeme_of text) (adjoining q ms) ≡ all
tokens_step text xs ys m left ms p q all step start to is kept =
    rw (to, is, append_assoc, ← map-append (lexeme_of text) (unless_empty m) (adjoining m.end ms))
    (rw (step, adjoining_step m ms p start) at kept)

-- where none is left
pub none_left : {X : Type 0} (f : Match → X) (xs : List X) (left : List Match) (all : List X)
    → left ≡ [] → xs ++ map f left ≡ all → xs ≡ all
none_left f xs left all none kept = rw (none, append-nil) at kept

-- and the tokens reach as far as before
pub reached_on : (m : Match) (left ms : List Match) (p q end : ℕ)
    → left ≡ m ∷ ms → m.start ≡ p → q ≡ m.end → reached p (adjoining p left) ≡ end → reached q (adjoining q ms) ≡ end
reached_on m left ms p q end step start to kept = rw to (rw (step, reached_step m ms p start) at kept)
