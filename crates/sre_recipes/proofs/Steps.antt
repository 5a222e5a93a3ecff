-- What a step over a match leaves to come, and where it is.
use Rattle.sre_recipes.proofs.Terms.{◌≡◌, ◌≤◌, ℕ, List, ◌∷◌, length, Bool, refl, ap, sym, ◌∙◌, subst, arith, Ghosts}
use Rattle.sre_recipes.proofs.Terms.{StringCursor, Tree, Whole, words_of, Asked, string_of, start_of, end_of, code_of}
use Rattle.sre_recipes.proofs.Terms.{Shown, match_shown, request_of, shown_of, left_of, Gives, SearchIter, IsSpan}
use Rattle.sre_recipes.proofs.Terms.{StandsAt, has_ended, false, cond, [], walk, asked_of, IsFound, Shows}

-- an iteration that has just begun has all matches of its window left
pub all_left : {S A : Type 0} {text : Ghosts S} (it : SearchIter S A text) (t : Tree) → has_ended it ≡ false
    → left_of it t ≡ walk (asked_of (request_of it)) t
all_left it t begun = ap (λ (b : Bool). cond b [] (walk (asked_of (request_of it)) t)) begun

-- what is asked behind a match starts at its end, in the same window
pub next_start : {S A : Type 0} {text : Ghosts S} {it next : SearchIter S A text} → Gives it next
    → start_of (request_of next) ≡ (shown_of next).cursor.position
next_start gives = ap (λ (a : Asked). a.start) gives.request.asked

-- a match comes off a walk whose words are still those that were asked for
pub walk_step : {S A : Type 0} {text : Ghosts S} (it next : SearchIter S A text) (words : List ℕ) (t : Tree)
    → Gives it next → words_of (code_of (request_of it)) ≡ words → Whole words t
    → left_of it t ≡ match_shown (shown_of next) ∷ left_of next t
walk_step it next words t gives same whole = gives.first t (subst (λ ws. Whole ws t) (sym same) whole)

-- what stays in a walk over a text
pub record Kept {S A : Type 0} {text : Ghosts S} (it : SearchIter S A text) (whole : S) (code : List ℕ) (stop : ℕ)
    : Type 0 where
  pub string : string_of (request_of it) ≡ whole
  pub words : words_of (code_of (request_of it)) ≡ code
  pub end : end_of (request_of it) ≡ stop
  pub inside : start_of (request_of it) ≤ stop

pub kept_first : {S A : Type 0} {text : Ghosts S} (it : SearchIter S A text) (r : _)
    → request_of it ≡ r → Kept it (string_of r) (words_of (code_of r)) (end_of r)
kept_first {S} {A} {text} it r same = record {
  string = ap string_of same;
  words = ap (λ q. words_of (code_of q)) same;
  end = ap end_of same;
  inside = subst (λ q. start_of q ≤ end_of r) (sym same) r.in_window.0.0;
}

pub kept_on : {S A : Type 0} {text : Ghosts S} (it next : SearchIter S A text) (whole : S) (code : List ℕ) (stop : ℕ)
    → Gives it next → Kept it whole code stop → Kept next whole code stop
kept_on it next whole code stop gives kept =
    let inside : (shown_of next).cursor.position ≤ stop = rw (← kept.end) gives.request.span.inside in
    record {
      string = gives.request.string ∙ kept.string;
      words = ap words_of gives.request.pattern_codes ∙ kept.words;
      end = ap (λ (a : Asked). a.end) gives.request.asked ∙ kept.end;
      inside = rw (next_start gives) inside;
    }

-- a cursor stands at a position as its text says
pub stands_there : {S : Type 0} (text : Ghosts S)
    → ((s : S) (c : StringCursor) (p : ℕ) → text.stands s c p → (c.position ≡ p) × (p ≤ length (text.text s)))
    → (s : S) (c : StringCursor) (p : ℕ) → text.stands s c p → StandsAt (text.stands s) c p
stands_there text at s c p there = record {
  there = subst (λ q. text.stands s c q) (sym (at s c p there).0) there;
  at = (at s c p there).0;
}

-- the match that an iteration comes to is found between the cursors of its span, with its captures or without
pub is_found : (captures : Bool) (stands : StringCursor → ℕ → Type 0) (s : Shown) (start end : StringCursor)
    → IsSpan stands s start end → IsFound stands captures s start end
is_found captures stands s start end span = record {
  from = span.from;
  to = span.to;
  forward = omega (arith, span.begins, span.ends, span.forward);
  shown = λ _. span;
}

pub is_shown : (captures : Bool) (stands : StringCursor → ℕ → Type 0) (s : Shown) (start end : StringCursor)
    → IsSpan stands s start end → Shows captures s start end (match_shown s)
is_shown captures stands s start end span = record {
  starts = sym span.begins;
  ends = sym span.ends;
  shown = λ _. refl;
}
