-- What DFAs with the first matches of a code report of its spans, and how an iteration continues after a span.
use Rattle.sre_finder.proofs.Terms.{◌≡◌, ◌≤◌, ◌<◌, ℕ, List, [], false, ◌&&◌, nat_eq, Some, None, refl, ap, ap₂, sym}
use Rattle.sre_finder.proofs.Terms.{◌∙◌, subst, arith, inl, inr, cases_lt, Re, meaning, Hir, Tree, Whole, WholeItems}
use Rattle.sre_finder.proofs.Terms.{no_marks, ways, Asked, subject_of, first_accepted, at_start, found, words_of}
use Rattle.sre_finder.proofs.Terms.{items_of, uni_of, hints_of, code_tree, Code, start_of, code_of, must_advance_of}
use Rattle.sre_finder.proofs.Terms.{asked_of, answer_of, ExactTree, view_of, Encoding, IsBetween, SeenAs, match_with}
use Rattle.sre_finder.proofs.Terms.{Exactly, FindsSpan, GoesOnBehind, zero, suc, ◌∷◌, Bool, true, not, ◌||◌, cond}
use Rattle.sre_finder.proofs.Terms.{Ghosts, Marks, Way, Match, is_accepted, asked_after, walk, most_matches, Request}
use Rattle.sre_finder.proofs.Terms.{stands_in, Shown, match_shown, ShowsStep}
use Rattle.std.specs.List.{AllByRecursion}
use Rattle.std.proofs.lemmas.Bool.Decides.{nat_tests}
use Rattle.sre_model.specs.Grammar.{IsCode}
use Rattle.sre_model.proofs.Bounds.{Between, ways-bounded}
use Rattle.sre_model.proofs.FoundLaws.{either, Either, found-least, least-found}
use Rattle.sre_model.proofs.WalkLaws.{walk-next, walk-end, most_matches-falls}
use Rattle.sre_engine.specs.Walks.{StepsTo, GoesOn}
use Rattle.sre_engine.specs.Searches.{WalksOn}
use Rattle.sre_patterns.proofs.FirstFound.{FoundAt, found_by, none-found_by}
use Rattle.sre_patterns.proofs.SidesSeen.{rises}
use Rattle.regex_hir.specs.Matches.{IsMinLen}
use Rattle.regex_hir.specs.Find as bytes

-- a pattern whose matches read so many bytes reads one, where these are some
pub reads_one : (re : Re) (n : ℕ) → IsMinLen re n → (n ≡ 0 → ⊥) → IsMinLen re 1
unfolding IsMinLen
reads_one re zero least some = absurd (some refl)
reads_one re (suc n) least some = λ hay i j m. omega (arith, least hay i j m)

-- what seeks a pattern that tries a code's ways in their order tries them
pub exactly : (encoding : Encoding) (code : Code) (hir pattern : Hir) → hir ≡ pattern → IsMinLen (meaning pattern) 1
    → ((t : Tree) → WholeItems (items_of code) t → ExactTree (view_of encoding) (uni_of code) (meaning pattern) t)
    → Exactly encoding code (meaning hir)
exactly encoding code hir pattern same reads exact =
    subst (λ h. Exactly encoding code (meaning h)) (sym same) (record { reads = reads; exact = exact })

-- it tries the ways of each tree of the code under another name
pub exact_same : (encoding : Encoding) (code own : Code) (pattern : Re) → Exactly encoding code pattern → code ≡ own
    → (t : Tree) → WholeItems (items_of own) t → ExactTree (view_of encoding) (uni_of own) pattern t
exact_same encoding code own pattern c e t whole =
    subst (λ d. ExactTree (view_of encoding) (uni_of d) pattern t) e
    (c.exact t (subst (λ d. WholeItems (items_of d) t) (sym e) whole))

-- positions of the window that stand at two bytes
pub record SpanPlaces (a : Asked) (place : ℕ → ℕ) (first last : ℕ) : Type 0 where
  pub start : ℕ
  pub end : ℕ
  pub starts : place start ≡ first
  pub ends : place end ≡ last
  pub from : a.start ≤ start
  pub forward : start ≤ end
  pub inside : end ≤ a.end

-- two positions of a window stand at the bytes of a span
pub record Reached (a : Asked) (place : ℕ → ℕ) (first last start end : ℕ) : Type 0 where
  pub begins : place start ≡ first
  pub ends : place end ≡ last
  pub from : a.start ≤ start
  pub starts : start ≤ a.end
  pub inside : end ≤ a.end

-- a match with its span
spanned : (m : Match) (start end : ℕ) → m.start ≡ start → m.end ≡ end → m ≡ match_with start end m.marks
spanned m start end e f = ap₂ (λ x y. match_with x y m.marks) e f

module _ (encoding : Encoding) (a : Asked) (re : Re) (place : ℕ → ℕ) (hay : List ℕ) (reads : IsMinLen re 1)
    (all : a.match_all ≡ false) (window : a.start ≤ a.end) (seen : SeenAs encoding a.text place a.end hay) where
  view : view_of encoding (subject_of a) hay place
  view = seen.seen (subject_of a) refl refl

  -- two positions do not stand at one byte
  once : (p q : ℕ) → p ≤ a.end → q ≤ a.end → place p ≡ place q → p ≡ q
  once p q l h e = elim (cases_lt p q) [
    | (inl less) ↦ absurd (omega (arith, rises encoding (subject_of a) hay place view p q less h, e))
    | (inr more) ↦ elim (cases_lt q p) [
      | (inl less) ↦ absurd (omega (arith, rises encoding (subject_of a) hay place view q p less l, e))
      | (inr same) ↦ omega (arith, more, same)
    ]
  ]

  module _ (t : Tree) (x : ExactTree (view_of encoding) a.table re t) where
    -- what a search for the pattern finds is found
    pub span_found : (f : bytes.Match) → bytes.find re hay (place a.start) ≡ Some f → FoundAt a t place f
    span_found f e =
        found_by (view_of encoding) (rises encoding) a hay place view seen.whole window re t x reads all f e

    -- the span that automata tell stands at positions of the window
    span_places : (first last : ℕ) → IsBetween hay re (place a.start) first last → SpanPlaces a place first last
    span_places first last is =
        let it = span_found is.match is.found in
        record {
          start = it.match.start;
          end = it.match.end;
          starts = it.starts ∙ is.begins;
          ends = it.ends ∙ is.ends;
          from = it.from;
          forward = omega (arith, it.forward);
          inside = it.inside;
        }

    -- a cursor that goes from the window's start up to the span's first byte stands there
    pub first_reached : (first last : ℕ) → IsBetween hay re (place a.start) first last → (from start end : ℕ)
        → from ≡ a.start → end ≡ a.end
        → ((n : ℕ) → from ≤ n → n ≤ end → place n ≡ first → place start ≡ first) → place start ≡ first
    first_reached first last is from start end begins ends there =
        let at = span_places first last is in
        there at.start (omega (arith, begins, at.from)) (omega (arith, at.forward, at.inside, ends)) at.starts

    -- and one that goes on from there up to its last one stands there
    pub span_reached : (first last : ℕ) → IsBetween hay re (place a.start) first last → (from start stop end : ℕ)
        → from ≡ a.start → end ≡ a.end
        → start ≤ end → ((n : ℕ) → from ≤ n → n ≤ end → place n ≡ first → place start ≡ first)
        → stop ≤ end → ((n : ℕ) → start ≤ n → n ≤ end → place n ≡ last → place stop ≡ last)
        → Reached a place first last start stop
    span_reached first last is from start stop end begins ends before there within behind =
        let at = span_places first last is in
        let first_is = first_reached first last is from start end begins ends there in
        let same = once start at.start (omega (arith, before, ends)) (omega (arith, at.forward, at.inside))
        (first_is ∙ sym at.starts) in
        record {
          begins = first_is;
          ends = behind at.end (omega (arith, same, at.forward)) (omega (arith, at.inside, ends)) at.ends;
          from = omega (arith, same, at.from);
          starts = omega (arith, before, ends);
          inside = omega (arith, within, ends);
        }

    -- and where it finds nothing, nothing is
    pub nothing_found : bytes.find re hay (place a.start) ≡ None → found a t ≡ None
    nothing_found e =
        none-found_by (view_of encoding) (rises encoding) a hay place view seen.whole window re t x reads all e

    -- as a match between the positions that stand at its bytes
    pub span_between : (f : bytes.Match) → bytes.find re hay (place a.start) ≡ Some f → (start end : ℕ)
        → start ≤ a.end → end ≤ a.end → place start ≡ f.start → place end ≡ f.trace.end
        → (marks : Marks) × (found a t ≡ Some (match_with start end marks))
    span_between f e start end l h begins ends =
        let it = span_found f e in
        let m = it.match in
        let first = once m.start start (omega (arith, it.forward, it.inside)) l (it.starts ∙ sym begins) in
        let last = once m.end end it.inside h (it.ends ∙ sym ends) in
        (m.marks, it.is ∙ ap (λ n. Some n) (spanned m start end first last))

-- a walk's first match is what is found, and where it has none nothing is
pub first_found : (a : Asked) (t : Tree) (m : Match) (rest : List Match) → walk a t ≡ m ∷ rest → found a t ≡ Some m
first_found a t m rest e = by_match (either (found a t))
  where
    by_match : Either (found a t) → found a t ≡ Some m
    by_match (inl none) = absurd (let never : [] ≡ m ∷ rest = sym (walk-end a t none) ∙ e in cc)
    by_match (inr (x, some)) =
        let same : x ∷ walk (asked_after a x) t ≡ m ∷ rest = sym (walk-next a t x some) ∙ e in
        let is : x ≡ m = cc in
        some ∙ ap (λ y. Some y) is

pub nothing_left : (a : Asked) (t : Tree) → walk a t ≡ [] → found a t ≡ None
nothing_left a t e = by_match (either (found a t))
  where
    by_match : Either (found a t) → found a t ≡ None
    by_match (inl none) = none
    by_match (inr (x, some)) =
        absurd (let never : x ∷ walk (asked_after a x) t ≡ [] = sym (walk-next a t x some) ∙ e in cc)

-- what is found is found from its start on, where it has to advance there if it had to
module _ (a : Asked) (p : ℕ) (from : a.start ≤ p) (advances : Bool)
    (is : advances ≡ (a.must_advance && nat_eq p a.start)) where
  abbrev there : Asked
  there = record a { start = p; must_advance = advances }

  barred : (b : Bool) (q : ℕ) → p ≤ q → a.must_advance ≡ b
      → (not advances || not (nat_eq q p)) ≡ (not a.must_advance || not (nat_eq q a.start))
  barred true q l e =
      let same : advances ≡ nat_eq p a.start = is ∙ ap (λ x. x && nat_eq p a.start) e in
      rw (same, e) (grind (arith, nat_tests))
  barred false q l e =
      let same : advances ≡ false = is ∙ ap (λ x. x && nat_eq p a.start) e in rw (same, e) refl

  accepts_same : (w : Way) → p ≤ w.stop → is_accepted there w ≡ is_accepted a w
  accepts_same w l =
      ap (λ x. (not a.match_all || nat_eq w.stop a.end) && x) (barred a.must_advance w.stop l refl)

  first_same : (ws : List Way) → AllByRecursion (Between (subject_of a) p) ws
      → first_accepted there p ws ≡ first_accepted a p ws
  first_same [] each = refl
  first_same (w ∷ ws) each =
      ap₂ (λ x y. cond x (Some (record { start = p; end = w.stop; marks = w.marks })) y) (accepts_same w each.0.0)
      (first_same ws each.1)

  at_start_same : (t : Tree) → p ≤ a.end → at_start there t p ≡ at_start a t p
  at_start_same t l = first_same (ways (subject_of a) t p no_marks) (ways-bounded (subject_of a) t p no_marks l)

pub found_again : (a : Asked) (t : Tree) (m : Match) → found a t ≡ Some m → (advances : Bool)
    → advances ≡ (a.must_advance && nat_eq m.start a.start)
    → found (record a { start = m.start; must_advance = advances }) t ≡ Some m
found_again a t m e advances is =
    let least = found-least a t m e in
    least-found (record a { start = m.start; must_advance = advances }) t m (record {
      from = omega arith;
      to = least.to;
      here = at_start_same a m.start least.from advances is t least.to ∙ least.here;
      least = λ r l k. absurd (omega (arith, l, k));
    })

-- a step of the machine, as a step over its match's span
module _ {S : Type 0} {text : Ghosts S} (r : Request S text) (b : Bool) (s : Shown) (u : Request S text)
    (walks : WalksOn r b s u) where
  -- what is asked next starts at the match's end
  ends : GoesOn r s u → start_of u ≡ s.cursor.position
  ends goes = ap (λ a. a.start) goes.asked

  pub steps_span : b ≡ true → GoesOn r s u → (start : ℕ) → start ≡ s.start
      → GoesOnBehind r start (start_of u) u × FindsSpan r start (start_of u)
  steps_span is goes start at = (
    record {
      from = omega (arith, at, goes.from);
      forward = omega (arith, at, goes.span.forward, ends goes, goes.span.starts);
      inside = omega (arith, goes.span.inside, ends goes);
      asked =
          goes.asked
          ∙ ap₂ (λ e p. record (asked_of r) { start = e; must_advance = nat_eq e p }) (sym (ends goes)) (sym at);
      string = goes.string;
      pattern_codes = goes.pattern_codes;
    },
    record {
      some = λ t whole.
          let shown = match_shown s in
          let first = subst (λ c. StepsTo (walk (asked_of r) t) c s (walk (asked_of u) t)) is (walks t whole) in (
            s.marks,
            first_found (asked_of r) t shown (walk (asked_of u) t) first
                ∙ ap (λ m. Some m) (spanned shown start (start_of u) (sym at) (sym (ends goes))),
          );
    },
  )

module _ {S : Type 0} {text : Ghosts S} (r : Request S text) (start end : ℕ) (u : Request S text)
    (goes : GoesOnBehind r start end u) (t : Tree) (marks : Marks)
    (some : found (asked_of r) t ≡ Some (match_with start end marks)) where
  -- the walk is the match of the span, and the walk behind it
  pub walks_behind : walk (asked_of r) t ≡ match_with start end marks ∷ walk (asked_of u) t
  walks_behind =
      walk-next (asked_of r) t (match_with start end marks) some
      ∙ ap (λ a. match_with start end marks ∷ walk a t) (sym goes.asked)

  -- in which fewer can come
  pub falls_behind : most_matches (asked_of u) < most_matches (asked_of r)
  falls_behind =
      subst (λ a. most_matches a < most_matches (asked_of r)) (sym goes.asked)
      (most_matches-falls (asked_of r) t (match_with start end marks) some)

-- what is asked at the start of the match that came last, before it came and behind it
pub last_same : {S : Type 0} {text : Ghosts S} (r : Request S text) (start end : ℕ) (u : Request S text)
    (advances : Bool) → GoesOnBehind r start end u
    → record (asked_of u) { start = start; must_advance = advances }
    ≡ record (asked_of r) { start = start; must_advance = advances }
last_same r start end u advances goes =
    ap (λ (a : Asked). record a { start = start; must_advance = advances }) goes.asked

-- the first match of a walk has the span that a step found, and is found from its start on
pub gives_first : {S : Type 0} {text : Ghosts S} (r : Request S text) (start end : ℕ) (u : Request S text)
    (advances : Bool) → GoesOnBehind r start end u → FindsSpan r start end
    → advances ≡ (must_advance_of r && nat_eq start (start_of r)) → (t : Tree) → Whole (words_of (code_of r)) t
    → (marks : Marks) × (walk (asked_of r) t ≡ match_with start end marks ∷ walk (asked_of u) t)
    × (found (record (asked_of u) { start = start; must_advance = advances }) t ≡ Some (match_with start end marks))
gives_first r start end u advances goes finds is t whole =
    let some = finds.some t whole in (
      some.0,
      walks_behind r start end u goes t some.0 some.1,
      ap (λ a. found a t) (last_same r start end u advances goes)
          ∙ found_again (asked_of r) t (match_with start end some.0) some.1 advances is,
    )

-- what is found from its start on is what was found
pub found_behind : {S : Type 0} {text : Ghosts S} (r : Request S text) (start end : ℕ) (u : Request S text)
    (advances : Bool) → GoesOnBehind r start end u → FindsSpan r start end
    → advances ≡ (must_advance_of r && nat_eq start (start_of r)) → (t : Tree) → Whole (words_of (code_of r)) t
    → found (record (asked_of u) { start = start; must_advance = advances }) t ≡ found (asked_of r) t
found_behind r start end u advances goes finds is t whole =
    let some = finds.some t whole in
    ap (λ a. found a t) (last_same r start end u advances goes)
    ∙ found_again (asked_of r) t (match_with start end some.0) some.1 advances is
    ∙ sym some.1

-- a match that is found from its start on is shown
shown_there : (b : Bool) (s : Shown) (m : Match) → answer_of b s ≡ Some m → b ≡ true
shown_there true s m is = refl
shown_there false s m is = absurd (cc)

pub shown_behind : {S : Type 0} {text : Ghosts S} (r : Request S text) (start end : ℕ) (u : Request S text)
    (advances b : Bool) (s : Shown) → GoesOnBehind r start end u → FindsSpan r start end
    → advances ≡ (must_advance_of r && nat_eq start (start_of r))
    → ((t : Tree) → Whole (words_of (code_of u)) t
    → answer_of b s ≡ found (record (asked_of u) { start = start; must_advance = advances }) t)
    → (b ≡ true → stands_in u s.cursor s.cursor.position) → ShowsStep r s u
shown_behind r start end u advances b s goes finds is answer stands =
    let answers : (t : Tree) → Whole (words_of (code_of r)) t → answer_of b s ≡ found (asked_of r) t =
    λ t whole. answer t (subst (λ d. Whole (words_of d) t) (sym goes.pattern_codes) whole)
    ∙ found_behind r start end u advances goes finds is t whole in
    let yes : (t : Tree) → Whole (words_of (code_of r)) t → b ≡ true =
    λ t whole. let some = finds.some t whole in
    shown_there b s (match_with start end some.0) (answers t whole ∙ some.1) in
    let tree = code_tree (words_of (code_of r)) (hints_of (code_of r)) (code_of r).checked in
    record {
      is = λ t whole. subst (λ c. found (asked_of r) t ≡ answer_of c s) (yes t whole) (sym (answers t whole));
      stands = stands (yes tree.0 tree.1);
    }

pub span_falls : {S : Type 0} {text : Ghosts S} (r : Request S text) (start end : ℕ) (u : Request S text)
    → GoesOnBehind r start end u → FindsSpan r start end → IsCode (words_of (code_of r))
    → most_matches (asked_of u) < most_matches (asked_of r)
span_falls r start end u goes finds tree =
    let some = finds.some tree.0 tree.1 in falls_behind r start end u goes tree.0 some.0 some.1

-- the answer of a step is what is found
pub step_answers : {S : Type 0} {text : Ghosts S} (r : Request S text) (b : Bool) (s : Shown) (u : Request S text)
    → WalksOn r b s u → (t : Tree) → Whole (words_of (code_of r)) t → answer_of b s ≡ found (asked_of r) t
step_answers r true s u walks t whole =
    sym (first_found (asked_of r) t (match_shown s) (walk (asked_of u) t) (walks t whole))
step_answers r false s u walks t whole = sym (nothing_left (asked_of r) t (walks t whole))
