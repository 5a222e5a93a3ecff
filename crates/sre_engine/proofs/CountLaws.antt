-- At how many starts a search runs, and what the steps of an iteration find and count together; and worked rows.
use Rattle.sre_engine.proofs.Terms.{◌≡◌, ◌≤◌, ◌+◌, ◌-◌, ◌*◌, ◌&&◌, ◌||◌, ℕ, List, [], Bool, true, false, not, length}
use Rattle.sre_engine.proofs.Terms.{Option, Some, None, Result, Ok, Err, OnErr, refl, sym, ap, ◌∙◌, subst, arith}
use Rattle.sre_engine.proofs.Terms.{nat_tests, SetItem, Asked, subject_of, stands_at, how_many, words_of, hints_of}
use Rattle.sre_engine.proofs.Terms.{Code, code_tree, code_confirmed, Shown, CountsUpTo, width_fits, prefix_stands}
use Rattle.sre_engine.proofs.Terms.{may_start, MayBegin, IsFirstSet, is_among, IsPrefix, IsLast, FitsAt, Stands, zero}
use Rattle.sre_engine.proofs.Terms.{suc, cond, ◌<◌, ◌∷◌, Ghosts, Tree, found, asked_after, walk, most_matches, Request}
use Rattle.sre_engine.proofs.Terms.{string_of, start_of, stands_in, match_shown, GoesOn, walk-next, most_matches-falls}
use Rattle.sre_engine.proofs.Terms.{answer_of, nat_eq, ◌++◌, map, end_of, code_of, must_advance_of, asked_of}
use Rattle.sre_engine.proofs.Terms.{StepsCount, CountsInside, append_assoc, map-append, codes, Single, prefix_of, Hints}
use Rattle.sre_engine.proofs.Terms.{window, whole}
use Rattle.sre_engine.proofs.FirstSets.{some_set, no_prefix}
use Rattle.sre_engine.proofs.Hinting.{claim_none}
use Rattle.sre_engine.proofs.PrefixWays.{how_many_grows, how_many_here, stand_fit, few_counted, how_many_add}

-- At how many starts a search ran: no more than there are at which a run may begin.

-- a set is the code's first set, where one is confirmed
abbrev pub IsOwnSet : Code → List SetItem → Type 0
IsOwnSet code set = (hints_of code).first_set ≡ true → IsFirstSet (words_of code) set

-- whether a run may begin at a start, by the code's own hints
abbrev pub may_run : Asked → Code → List SetItem → ℕ → Bool
may_run a code set = may_start a (words_of code) (hints_of code) set

-- so many runs were begun before a position: no more than there are starts at which one may begin
pub record RanBefore (a : Asked) (code : Code) (n p : ℕ) : Type 0 where
  pub few : (set : List SetItem) → IsOwnSet code set
      → n ≤ how_many (may_run a code set) a.start (p - a.start)

-- no run yet
pub ran_none : (a : Asked) (code : Code) (n p : ℕ) → n ≡ 0 → RanBefore a code n p
ran_none a code n p none = record { few = λ set own. omega (arith, none) }

-- none up to a further position
pub ran_later : (a : Asked) (code : Code) (n p q : ℕ) → RanBefore a code n p → p ≤ q → RanBefore a code n q
ran_later a code n p q ran l = record {
  few = λ set own.
      let more = how_many_grows (may_run a code set) a.start (p - a.start) (q - a.start) (omega (arith, l)) in
      omega (arith, ran.few set own, more);
}

-- such a set, if any
pub own_set : (code : Code) → (set : List SetItem) × IsOwnSet code set
own_set code = by_set (hints_of code).first_set refl
  where
    by_set : (b : Bool) → (hints_of code).first_set ≡ b → (set : List SetItem) × IsOwnSet code set
    by_set true y = let set = some_set code y in (set.0, λ yes. set.1)
    by_set false y = ([], λ yes. absurd (let never : true ≡ false = sym yes ∙ y in cc never))

-- no more than there are starts
pub few_ran : (a : Asked) (code : Code) (n p : ℕ) → RanBefore a code n p → n ≤ p - a.start
few_ran a code n p ran =
    let set = own_set code in
    omega (arith, ran.few set.0 set.1, few_counted (may_run a code set.0) a.start (p - a.start))

-- the counts of a search that ran before a position
pub counts_ran : (a : Asked) (code : Code) (s : Shown) (p to seen : ℕ) → RanBefore a code s.started p → p ≤ to
    → s.compared ≤ 2 * (seen - a.start) → ((hints_of code).prefix ≡ None → s.compared ≡ 0) → CountsUpTo a code to seen s
counts_ran a code s p to seen ran l few none = record {
  started = (ran_later a code s.started p to ran l).few;
  compared = few;
  uncompared = none;
}

-- the words of a prefix are those of a confirmed one
pub has_prefix : (code : Code) (vs : List ℕ) (k : ℕ) (whole : Bool) → IsPrefix code vs k whole
    → (hints_of code).prefix ≡ None → ⊥
has_prefix code vs k whole is plain = let never : Some (length vs, k) ≡ None = sym is.hint ∙ plain in cc never

-- without a confirmed prefix none is all of the code
pub not_literal : (code : Code) → (hints_of code).prefix ≡ None → (hints_of code).literal ≡ false
not_literal code plain =
    let tree = code_tree (words_of code) (hints_of code) code.checked in
    let said = code_confirmed code tree.0 tree.1 in
    said.literal ∙ claim_none (words_of code) tree.0 (sym said.prefix ∙ plain)

-- what holds anyway holds on an error
pub on_error : {A E P : Type 0} (told : Result A E) → P → OnErr told P
on_error (Ok told) p = tt
on_error (Err why) p = p

-- The starts at which a run may begin

all_parts : (fits stands literal has_set member : Bool) → fits ≡ true → stands ≡ true → literal ≡ false
    → (has_set ≡ true → member ≡ true) → (fits && stands && not literal && (not has_set || member)) ≡ true
all_parts true true false true member f s l m = m refl
all_parts true true false false member f s l m = refl
all_parts true true true has_set member f s l m = absurd (cc l)
all_parts true false literal has_set member f s l m = absurd (cc s)
all_parts false stands literal has_set member f s l m = absurd (cc f)

-- one more run, at a further start where a confirmed width fits
pub ran_on : (a : Asked) (code : Code) (last : Option ℕ) (n m p q : ℕ) → IsLast a code last → FitsAt last q
    → a.start ≤ p → p ≤ q → RanBefore a code n p → m ≡ n + 1 → MayBegin a code q → RanBefore a code m (q + 1)
ran_on a code last n m p q is fits from l ran one begin = record {
  few = λ set own.
      let may = begin.may set own (by_width (hints_of code).width refl) in
      let at : a.start + (q - a.start) ≡ q = omega (arith, from, l) in
      let up : q + 1 - a.start ≡ q - a.start + 1 = omega (arith, from, l) in
      let later = (ran_later a code n p q ran l).few set own in
      let here = how_many_here (may_run a code set) a.start (q - a.start)
      (subst (λ s. may_run a code set s ≡ true) (sym at) may) in
      omega (arith, later, here, one, ap (how_many (may_run a code set) a.start) up);
}
  where
    by_width : (w : Option ℕ) → (hints_of code).width ≡ w → width_fits a w q ≡ true
    by_width None e = refl
    by_width (Some w) e = let wide = is.fits q fits w e in grind (arith, nat_tests)

module _ (a : Asked) (code : Code) (q : ℕ) where
  -- no prefix is confirmed
  pub unprefixed : (hints_of code).prefix ≡ None
      → ((set : List SetItem) → IsOwnSet code set → (hints_of code).first_set ≡ true → is_among a set q ≡ true)
      → MayBegin a code q
  unprefixed plain member = record {
    may = λ set own fit.
        let stands : prefix_stands a (words_of code) (hints_of code).prefix q ≡ true =
        subst (λ hint. prefix_stands a (words_of code) hint q ≡ true) (sym plain) refl in
        all_parts _ _ _ _ _ fit stands (not_literal code plain) (member set own);
  }

  -- neither a prefix nor a first set is confirmed
  pub may_plain : (hints_of code).prefix ≡ None → (hints_of code).first_set ≡ false → MayBegin a code q
  may_plain plain no_set =
      unprefixed plain (λ set own yes. absurd (let never : true ≡ false = sym yes ∙ no_set in cc never))

  -- a member of the first set is there
  pub may_member : (hints_of code).first_set ≡ true
      → ((set : List SetItem) → IsFirstSet (words_of code) set → is_among a set q ≡ true) → MayBegin a code q
  may_member has_set member = unprefixed (no_prefix code has_set) (λ set own yes. member set (own yes))

  -- a prefix stands there that is not all of the code
  pub may_place : (vs : List ℕ) (k : ℕ) (whole : Bool) → IsPrefix code vs k whole → whole ≡ false
      → Stands a.text vs a.end q → MayBegin a code q
  may_place vs k whole prefix more there = record {
    may = λ set own fit.
        let stands : prefix_stands a (words_of code) (hints_of code).prefix q ≡ true =
        subst (λ hint. prefix_stands a (words_of code) hint q ≡ true) (sym prefix.hint)
        (ap (λ ws. stands_at (subject_of a) ws q) (sym prefix.is)
        ∙ stand_fit (subject_of a) vs q there.within there.fits) in
        all_parts _ _ _ _ _ fit stands (sym prefix.all ∙ more)
        (λ yes. absurd (has_prefix code vs k whole prefix (no_prefix code yes)));
  }

-- What an iteration's steps find, and how many runs and comparisons a search and an iteration take.

-- How many runs the bound on a search's runs lets begin.

-- a test that more positions pass
pub how_many_weaker : (test weaker : ℕ → Bool) (p n : ℕ) → ((q : ℕ) → test q ≡ true → weaker q ≡ true)
    → how_many test p n ≤ how_many weaker p n
how_many_weaker test weaker p zero each = omega arith
how_many_weaker test weaker p (suc n) each =
    omega (arith, how_many_weaker test weaker p n each, by_tests (test (p + n)) (weaker (p + n)) (each (p + n)))
  where
    by_tests : (b c : Bool) → (b ≡ true → c ≡ true) → cond b 1 0 ≤ cond c 1 0
    by_tests true true later = omega arith
    by_tests true false later = absurd (let never : false ≡ true = later refl in cc never)
    by_tests false c later = omega arith

-- each start is run at once at most
pub once : (a : Asked) (code : Code) (to seen : ℕ) (s : Shown) → CountsUpTo a code to seen s
    → s.started ≤ to - a.start
once a code to seen s counts =
    let set = own_set code in
    omega (arith, counts.started set.0 set.1, few_counted (may_run a code set.0) a.start (to - a.start))

-- A step of an iteration gives its first match, and leaves the iteration from that match's end on.

-- the cursor at its end stands where the window starts then
pub stands_next : {S : Type 0} {text : Ghosts S} (r : Request S text) (s : Shown) (u : Request S text) → GoesOn r s u
    → stands_in u s.cursor (start_of u)
stands_next {S} {text} r s u goes =
    subst (λ (x : S). text.stands x s.cursor (start_of u)) (sym goes.string)
    (subst (text.stands (string_of r) s.cursor) (sym (ap (λ a. a.start) goes.asked)) goes.stands)

-- the answer to a search of a walk's window
module _ (a : Asked) (t : Tree) (b : Bool) (s : Shown) (answer : answer_of b s ≡ found a t) where
  found_shown : b ≡ true → found a t ≡ Some (match_shown s)
  found_shown is = sym answer ∙ ap (λ c. answer_of c s) is

  -- a match, and the walk after it
  pub steps_on : b ≡ true → (after : Asked) → after ≡ asked_after a (match_shown s)
      → walk a t ≡ match_shown s ∷ walk after t
  steps_on is after next =
      walk-next a t (match_shown s) (found_shown is) ∙ ap (λ u. match_shown s ∷ walk u t) (sym next)

  -- after which fewer can come
  pub falls_on : b ≡ true → (after : Asked) → after ≡ asked_after a (match_shown s)
      → most_matches after < most_matches a
  falls_on is after next =
      subst (λ u. most_matches u < most_matches a) (sym next)
      (most_matches-falls a t (match_shown s) (found_shown is))

-- What the steps of an iteration count together.

-- what is asked of a step differs from what is asked of the walk in the window's start alone, and where an empty match
-- is refused
abbrev pub step_of : Asked → ℕ → Bool → Asked
step_of a at must = record a { start = at; must_advance = must }

module _ (a : Asked) (code : Code) (at : ℕ) (must : Bool) where
  fits_same : (w : Option ℕ) (q : ℕ) → width_fits (step_of a at must) w q ≡ width_fits a w q
  fits_same None q = refl
  fits_same (Some w) q = refl

  stands_same : (hint : Option (ℕ × ℕ)) (q : ℕ)
      → prefix_stands (step_of a at must) (words_of code) hint q ≡ prefix_stands a (words_of code) hint q
  stands_same None q = refl
  stands_same (Some (l, k)) q = refl

  may_same : (set : List SetItem) (q : ℕ) → may_run (step_of a at must) code set q ≡ may_run a code set q
  may_same set q = rw (fits_same (hints_of code).width q, stands_same (hints_of code).prefix q) refl

  -- a step, whose counts are added to those before it
  pub counts_on : (n started compared : ℕ) → a.start ≤ at → StepsCount a code at at n started compared
      → (s : Shown) (to seen begun cost : ℕ) → CountsUpTo (step_of a at must) code to seen s → at ≤ to → at ≤ seen
      → begun ≤ started + s.started → cost ≤ compared + s.compared → StepsCount a code to seen n begun cost
  counts_on n started compared from before s to seen begun cost own up far sum total = record {
    runs = λ set member.
        let test = may_run a code set in
        let same = how_many_weaker (may_run (step_of a at must) code set) test at (to - at)
        (λ q may. sym (may_same set q) ∙ may) in
        let there : a.start + (at - a.start) ≡ at = omega (arith, from) in
        let all : at - a.start + (to - at) ≡ to - a.start = omega (arith, from, up) in
        let both = how_many_add test a.start (at - a.start) (to - at) in
        omega (
          arith,
          sum,
          before.runs set member,
          own.started set member,
          same,
          both,
          ap (λ p. how_many test p (to - at)) there,
          ap (how_many test a.start) all,
        );
    comparisons = omega (arith, total, before.comparisons, own.compared, from, far);
    uncompared = λ plain. omega (arith, total, before.uncompared plain, own.uncompared plain);
  }

-- behind a match the next step begins at its end: at its start, at the least, which was counted
pub counts_match : (a : Asked) (code : Code) (start end n started compared : ℕ) → a.start ≤ start → start ≤ end
    → StepsCount a code (start + 1) end n started compared → StepsCount a code end end (n + 1) started compared
counts_match a code start end n started compared from forward counted = record {
  runs = λ set member.
      let test = may_run a code set in
      let up : start + 1 - a.start ≡ start - a.start + 1 = omega (arith, from) in
      let grown = how_many_grows test a.start (start - a.start) (end - a.start) (omega (arith, forward)) in
      omega (
        arith,
        counted.runs set member,
        ap (how_many test a.start) up,
        how_many_add test a.start (start - a.start) 1,
        few_counted test (a.start + (start - a.start)) 1,
        grown,
      );
  comparisons = counted.comparisons;
  uncompared = counted.uncompared;
}

-- of more matches
pub counts_more : (a : Asked) (code : Code) (to seen n m started compared : ℕ) → n ≤ m
    → StepsCount a code to seen n started compared → StepsCount a code to seen m started compared
counts_more a code to seen n m started compared l counted = record {
  runs = λ set member. omega (arith, counted.runs set member, l);
  comparisons = counted.comparisons;
  uncompared = counted.uncompared;
}

-- a step of a walk over the window of one request, which asks another one
module _ {S : Type 0} {text : Ghosts S} (q r : Request S text) (n started compared begun cost : ℕ) (s : Shown)
    (code : code_of r ≡ code_of q) (asked : asked_of r ≡ step_of (asked_of q) (start_of r) (must_advance_of r))
    (from : start_of q ≤ start_of r) (inside : start_of r ≤ end_of q)
    (before : StepsCount (asked_of q) (code_of q) (start_of r) (start_of r) n started compared)
    (sum : begun ≤ started + s.started) (total : cost ≤ compared + s.compared) where
  own : (to seen : ℕ) → CountsUpTo (asked_of r) (code_of r) to seen s
      → CountsUpTo (step_of (asked_of q) (start_of r) (must_advance_of r)) (code_of q) to seen s
  own to seen counted =
      subst (λ x. CountsUpTo x (code_of q) to seen s) asked
      (subst (λ x. CountsUpTo (asked_of r) x to seen s) code counted)

  -- without a match
  pub inside_on : CountsInside r s → StepsCount (asked_of q) (code_of q) (end_of q + 1) (end_of q) n begun cost
  inside_on counted =
      let same : end_of r ≡ end_of q = ap (λ x. x.end) asked in
      let here = own (end_of q + 1) (end_of q)
      (subst (λ e. CountsUpTo (asked_of r) (code_of r) (e + 1) e s) same counted) in
      counts_on _ _ _ _ n started compared from before s _ _ begun cost here (omega (arith, inside)) inside sum total

  -- and with one
  pub match_on : (u : Request S text) → GoesOn r s u
      → CountsUpTo (asked_of r) (code_of r) (s.start + 1) s.cursor.position s
      → StepsCount (asked_of q) (code_of q) (start_of u) (start_of u) (n + 1) begun cost
  match_on u goes counted =
      let on = counts_on _ _ _ _ n started compared from before s _ _ begun cost (own _ _ counted)
      (omega (arith, goes.from)) (omega (arith, goes.from, goes.span.forward)) sum total in
      subst (λ e. StepsCount (asked_of q) (code_of q) e e (n + 1) begun cost) (sym (ap (λ x. x.start) goes.asked))
      (counts_match (asked_of q) (code_of q) s.start s.cursor.position n begun cost (omega (arith, from, goes.from))
      goes.span.forward on)

  -- what is asked next
  pub asked_on : (u : Request S text) → GoesOn r s u
      → asked_of u ≡ step_of (asked_of q) (start_of u) (must_advance_of u)
  asked_on u goes =
      goes.asked
      ∙ ap (λ x. asked_after x (match_shown s)) asked
      ∙ ap (λ p. step_of (asked_of q) p (nat_eq s.cursor.position s.start)) (sym (ap (λ x. x.start) goes.asked))
      ∙ ap (step_of (asked_of q) (start_of u)) (sym (ap (λ x. x.must_advance) goes.asked))

-- a list that has the walk up to a step has it up to the next one, with that step's match
pub list_on : {A B : Type 0} (f : A → B) (xs ys : List A) (x : A) (m : B) (left next all : List B) → ys ≡ xs ++ x ∷ []
    → f x ≡ m → left ≡ m ∷ next → map f xs ++ left ≡ all → map f ys ++ next ≡ all
list_on f xs ys x m left next all longer same first before =
    ap (λ l. map f l ++ next) longer
    ∙ ap (λ l. l ++ next) (map-append f xs (x ∷ []))
    ∙ append_assoc (map f xs) (f x ∷ []) next
    ∙ ap (λ y. map f xs ++ y ∷ next) same
    ∙ ap (λ l. map f xs ++ l) (sym first)
    ∙ before

-- xabab, whole and without its first and last letter
abbrev text : Asked
text = whole (codes "xabab")

abbrev inner : Asked
inner = window (codes "xabab") 1 4

-- ab(c), whose block has the prefix ab, one that is not all
abbrev words : List ℕ
words = 14 ∷ 10 ∷ 1 ∷ 3 ∷ 3 ∷ 2 ∷ 2 ∷ 97 ∷ 98 ∷ 0 ∷ 0 ∷ 16 ∷ 97 ∷ 16 ∷ 98 ∷ 17 ∷ 0 ∷ 16 ∷ 99 ∷ 17 ∷ 1 ∷ 1 ∷ []

-- no hint is confirmed
abbrev plain : Hints
plain = record { width = None; prefix = None; literal = false; first_set = false }

prefix_stands_twice : how_many (stands_at (subject_of text) (prefix_of words 2)) 0 6 ≡ 2
prefix_stands_twice = refl

prefix_stands_at_one : stands_at (subject_of text) (prefix_of words 2) 1 ≡ true
prefix_stands_at_one = refl

prefix_ends_in_the_window : how_many (stands_at (subject_of inner) (prefix_of words 2)) 1 4 ≡ 1
prefix_ends_in_the_window = refl

width_of_two_fits : how_many (width_fits text (Some 2)) 0 6 ≡ 4
width_of_two_fits = refl

width_past_the_window_fits_nowhere : how_many (width_fits inner (Some 4)) 1 4 ≡ 0
width_past_the_window_fits_nowhere = refl

letters_b : how_many (is_among text (Single 98 ∷ [])) 0 6 ≡ 2
letters_b = refl

no_letter_at_the_end : is_among text (Single 98 ∷ []) 5 ≡ false
no_letter_at_the_end = refl

-- the block of a, with the set of a
set_of_a_block : IsFirstSet (14 ∷ 7 ∷ 4 ∷ 1 ∷ 1 ∷ 16 ∷ 97 ∷ 0 ∷ 16 ∷ 97 ∷ 1 ∷ []) (Single 97 ∷ [])
set_of_a_block = ((refl, refl, refl), refl)

-- each start, the window's end too
runs_without_hints : how_many (may_start text words plain []) 0 6 ≡ 6
runs_without_hints = refl

runs_by_the_prefix : how_many (may_start text words (record plain { prefix = Some (2, 2) }) []) 0 6 ≡ 2
runs_by_the_prefix = refl

-- at the second place no three characters are left
runs_by_prefix_and_width :
    how_many (may_start text words (record plain { width = Some 3; prefix = Some (2, 2) }) []) 0 6 ≡ 1
runs_by_prefix_and_width = refl

no_run_by_all_of_the_code :
    how_many (may_start text words (record plain { prefix = Some (2, 2); literal = true }) []) 0 6 ≡ 0
no_run_by_all_of_the_code = refl

runs_by_the_first_set :
    how_many
    (may_start text words (record plain { width = Some 1; first_set = true }) (Single 120 ∷ Single 98 ∷ [])) 0 6 ≡ 3
runs_by_the_first_set = refl
