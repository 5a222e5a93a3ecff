-- What stays in an iteration over spans, and what a step over a match leaves to come.
use Rattle.sre_recipes.proofs.Terms.{◌≡◌, ◌≤◌, ℕ, Bool, false, true, List, [], ◌∷◌, Some, length, cond, ap, sym, ◌∙◌}
use Rattle.sre_recipes.proofs.Terms.{subst, arith, Ok, IfOk, Ghosts, StringCursor, Code, Tree, Whole, Asked, Match}
use Rattle.sre_recipes.proofs.Terms.{found, walk, words_of, hints_of, code_tree, found-is, string_of, start_of, end_of}
use Rattle.sre_recipes.proofs.Terms.{code_of, asked_of, Shown, match_shown, Span, SpanIter, last_asked, GivesSpan}
use Rattle.sre_recipes.proofs.Terms.{rest_of, IsSpan, StandsAt, ap₂, Result, Err, answer_of}
use Rattle.sre_chars.specs.declared.constants.EmptyRule.TheVariants.{Never}
use Rattle.sre_chars.specs.Tables.{Table}
use Rattle.sre_finder.specs.SpanIters.{request_of, shown_of, has_ended, left_of}
use Rattle.sre_finder.specs.Spans.{match_with}
use Rattle.std.proofs.Math.Logic.{∥∥₁_elim}
use Rattle.sre_engine.specs.Requests.{stands_in}
use Rattle.sre_recipes.specs.Nexts.{FindsNext}
use Rattle.sre_recipes.proofs.Steps.{is_found, is_shown, stands_there}

-- what stays in an iteration over a text
pub record Stays {S A : Type 0} {text : Ghosts S} (it : SpanIter S A text) (whole : S) (code : Code) (stop : ℕ)
    : Type 0 where
  pub string : string_of (request_of it) ≡ whole
  pub own : code_of (request_of it) ≡ code
  pub end : end_of (request_of it) ≡ stop
  pub begun : has_ended it ≡ false

pub stays_on : {S A : Type 0} {text : Ghosts S} (captures : Bool) (it : SpanIter S A text) (start end : StringCursor)
    (next : SpanIter S A text) (whole : S) (code : Code) (stop : ℕ)
    → FindsNext captures it start end next → Stays it whole code stop → Stays next whole code stop
stays_on captures it start end next whole code stop finds stays = record {
  string = finds.string ∙ stays.string;
  own = finds.code ∙ stays.own;
  end = finds.ends ∙ stays.end;
  begun = finds.after;
}

-- a cursor stands where a span's text begins, and the span lies behind it
pub record Behind (stands : StringCursor → ℕ → Type 0) (count : ℕ) (cursor : StringCursor) (span : Span) : Type 0 where
  pub at : stands cursor cursor.position
  pub behind : cursor.position ≤ span.start
  pub forward : span.start ≤ span.end
  pub inside : span.end ≤ count

pub is_behind : {S A : Type 0} {text : Ghosts S} (it next : SpanIter S A text) (span : Span) (whole : S)
    (cursor : StringCursor)
    → GivesSpan it span next → whole ≡ string_of (request_of it)
    → StandsAt (text.stands (string_of (request_of it))) cursor (start_of (request_of it))
    → Behind (text.stands whole) (length (text.text whole)) cursor span
is_behind {text = text} it next span whole cursor gives same at =
    let r = request_of it in
    let window : end_of r ≤ length (text.text whole) =
    subst (λ s. end_of r ≤ length (text.text s)) (sym same) r.in_window.0.1 in
    record {
      at = subst (λ s. text.stands s cursor cursor.position) (sym same) at.there;
      behind = omega (arith, at.at, gives.request.from);
      forward = gives.request.forward;
      inside = omega (arith, gives.request.inside, window);
    }

-- a cursor of an iteration over texts stands where its window starts
pub stands_here : {S A : Type 0} {text : Ghosts S}
    → ((s : S) (c : StringCursor) (p : ℕ) → text.stands s c p → (c.position ≡ p) × (p ≤ length (text.text s)))
    → ((s : S) (c : StringCursor) (p : ℕ) → IsProp (text.stands s c p)) → (it : SpanIter S A text)
    (cursor : StringCursor) → ∥ (stands_in (request_of it) cursor (start_of (request_of it))) ∥₁
    → StandsAt (text.stands (string_of (request_of it))) cursor (start_of (request_of it))
stands_here {text = text} at once it cursor here =
    let r = request_of it in
    stands_there text at (string_of r) cursor (start_of r)
    (∥∥₁_elim here (once (string_of r) cursor (start_of r)) (λ h. h))

-- a match is found between two cursors behind it
pub finds_behind : {S A : Type 0} {text : Ghosts S} (it next : SpanIter S A text) (span : Span) (whole : S)
    (start end : StringCursor)
    → GivesSpan it span next → whole ≡ string_of (request_of it)
    → StandsAt (text.stands whole) start span.start → StandsAt (text.stands whole) end span.end
    → FindsNext false it start end next
finds_behind {text = text} it next span whole start end gives same from to = record {
  after = gives.after;
  first = λ t tree.
      let first = gives.first t tree in (
        match_with span.start span.end first.0,
        record { starts = sym from.at; ends = sym to.at; shown = λ e. absurd (cc) },
        first.1,
      );
  found = record {
    from = subst (λ s. text.stands s start start.position) same from.there;
    to = subst (λ s. text.stands s end end.position) same to.there;
    forward = omega (arith, from.at, to.at, gives.request.forward);
    shown = λ e. absurd (cc);
  };
  from = omega (arith, from.at, gives.request.from);
  starts = ap (λ (a : Asked). a.start) gives.request.asked ∙ sym to.at;
  inside = omega (arith, to.at, gives.request.inside);
  ends = ap (λ (a : Asked). a.end) gives.request.asked;
  string = gives.request.string;
  code = gives.request.pattern_codes;
}

-- an iteration that has just begun has all matches of its range left
pub all_left : {S A : Type 0} {text : Ghosts S} (it : SpanIter S A text) (t : Tree) → has_ended it ≡ false
    → left_of it t ≡ walk (asked_of (request_of it)) t
all_left it t begun = ap (λ (b : Bool). cond b [] (walk (asked_of (request_of it)) t)) begun

-- a match that was found as the answer shows it
answered : (b : Bool) (s : Shown) (m : Match) → b ≡ true → answer_of b s ≡ Some m → match_shown s ≡ m
answered true s m found_one is = cc
answered false s m found_one is = absurd (cc)

-- after a step over a span the state is made to show its match
module _ {S A : Type 0} {text : Ghosts S} (it mid next : SpanIter S A text) (span : Span) (b : Bool)
    (gives : GivesSpan it span mid) (request : request_of next ≡ request_of mid)
    (ended : has_ended next ≡ has_ended mid)
    (answer : (t : Tree) → Whole (words_of (code_of (request_of mid))) t
    → answer_of b (shown_of next) ≡ found (last_asked mid) t) where
  given : b ≡ true → (t : Tree) → Whole (words_of (code_of (request_of it))) t
      → ((shown_of next).start ≡ span.start) × ((shown_of next).cursor.position ≡ span.end)
      × (left_of it t ≡ match_shown (shown_of next) ∷ left_of next t)
  given some t whole =
      let first = gives.first t whole in
      let mine = subst (λ (d : Code). Whole (words_of d) t) (sym gives.request.pattern_codes) whole in
      let one = match_with span.start span.end first.0 in
      let is : match_shown (shown_of next) ≡ one = answered b (shown_of next) one some (answer t mine ∙ first.2) in
      let same : left_of mid t ≡ left_of next t =
      ap₂ (λ (e : Bool) (a : Asked). cond e [] (walk a t)) (sym ended) (ap asked_of (sym request)) in (
        ap (λ (m : Match). m.start) is,
        ap (λ (m : Match). m.end) is,
        first.1 ∙ ap₂ (λ (m : Match) (ms : List Match). m ∷ ms) (sym is) same,
      )

  pub finds_shown : b ≡ true → (start end : StringCursor)
      → IsSpan (text.stands (string_of (request_of it))) (shown_of next) start end → FindsNext true it start end next
  finds_shown some start end shown =
      let own = code_of (request_of it) in
      let tree = code_tree (words_of own) (hints_of own) own.checked in
      let one = given some tree.0 tree.1 in record {
        after = ended ∙ gives.after;
        first = λ t whole. (_, is_shown _ _ _ _ _ shown, (given some t whole).2);
        found = is_found _ _ _ _ _ shown;
        from = omega (arith, shown.begins, one.0, gives.request.from);
        starts = ap start_of request ∙ ap (λ (a : Asked). a.start) gives.request.asked ∙ sym (shown.ends ∙ one.1);
        inside = omega (arith, shown.ends, one.1, gives.request.inside);
        ends = ap end_of request ∙ ap (λ (a : Asked). a.end) gives.request.asked;
        string = ap string_of request ∙ gives.request.string;
        code = ap code_of request ∙ gives.request.pattern_codes;
      }

-- the match that an answer shows ends at its start or behind it
pub found_forward : {E : Type 0} (a : Asked) (code : Code) (result : Result Bool E) (s : Shown)
    → ((t : Tree) → Whole (words_of code) t → IfOk result (λ b. answer_of b s ≡ found a t))
    → IfOk result (λ b. b ≡ true → s.start ≤ s.cursor.position)
found_forward a code (Err e) s answer = tt
found_forward a code (Ok b) s answer = λ some.
    let tree = code_tree (words_of code) (hints_of code) code.checked in
    let is : found a tree.0 ≡ Some (match_shown s) =
    sym (answer tree.0 tree.1) ∙ ap (λ (c : Bool). answer_of c s) some in
    (found-is a tree.0 (match_shown s) is).order

-- what a request of a whole text asks
pub whole_asks : (a : Asked) (text : List ℕ) (table : Table) → a.text ≡ text → a.table ≡ table → a.start ≡ 0
    → a.end ≡ length text → a.match_all ≡ false → a.must_advance ≡ false → a.empty_rule ≡ Never
    → a ≡ rest_of text table 0
whole_asks a text table same uni start end all advance rule =
    let is : record a { start = a.start } ≡ rest_of text table 0 = cc in is
