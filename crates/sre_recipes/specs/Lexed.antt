-- The tokens that a text begins with.
-- Of the specification: what sre_recipes makes public rests on it.
use Rattle.std.specs.Prelude.{ℕ, ◌+◌, ◌-◌, true, List, [], ◌∷◌, Option, Some, None, zero, suc, ℤ}
use Rattle.sre_recipes.specs.Terms.{Tree, Asked, Match, matched}
use Rattle.sre_recipes.specs.declared.lexer.TokenOf.{TokenOf}
use Rattle.sre_recipes.specs.Slices.{slice_of}

-- the group that was closed last, -1 where there is none, and the characters
pub record Lexeme : Type 0 where
  pub kind : ℤ
  pub text : List ℕ

-- a match as a token, and a token as it shows by the characters of its text
abbrev pub lexeme_of : List ℕ → Match → Lexeme
lexeme_of text m = record { kind = m.marks.last; text = slice_of text m }

abbrev pub lexeme_shown : {S : Type 0} → (S → List ℕ) → TokenOf S → Lexeme
lexeme_shown text token = record { kind = token.kind; text = text token.text }

-- the token at a position: the first accepted way from there that is not empty, as a match
abbrev pub token_at : Asked → Tree → ℕ → Option Match
token_at a t p = matched (record a { start = p; must_advance = true }) t

-- at most n tokens from a position on, each where the one before ends
abbrev pub tokens_from : ℕ → Asked → Tree → ℕ → List Match
tokens_from zero a t p = []
tokens_from (suc n) a t p = elim (token_at a t p) [ (Some m) ↦ m ∷ tokens_from n a t m.end | None ↦ [] ]

-- the tokens that a window begins with
abbrev pub token_matches : Asked → Tree → List Match
token_matches a t = tokens_from (a.end + 1 - a.start) a t a.start

-- where the last of some matches ends, p where there is none
abbrev pub reached : ℕ → List Match → ℕ
reached p [] = p
reached p (m ∷ ms) = reached m.end ms
