-- Where a match may begin, and which starts are barred.
use Rattle.sre_engine.proofs.Terms.{◌≡◌, ◌+◌, ◌≢◌, ◌≤◌, ◌<◌, ◌-◌, ℕ, Bool, true, false, nat_eq, List, arith, inl, inr}
use Rattle.sre_engine.proofs.Terms.{sym, subst, Option, refl, Some, None, cases_lt, nat_tests, Sought, BEGINNING_LINE}
use Rattle.sre_engine.proofs.Terms.{SreAtCode, StringCursor, Tree, WholeItems, no_marks, Asked, subject_of, at_start}
use Rattle.sre_engine.proofs.Terms.{Subject, char_at, holds_at, Run, NoWay, TreeStands, Leads, whole_stands, First}
use Rattle.sre_engine.proofs.Terms.{IsElsewhere, IsLacking, Bars, BarredUpTo, NextStart, NoneBetween, NoneUntil, Whole}
use Rattle.sre_engine.proofs.Terms.{IfSome, IsSomeAnd, ◌∙◌, AsciiSet, behind_block, Test, TakesAscii, has_ascii}
use Rattle.sre_engine.proofs.Terms.{IsAsciiOf, Wants, WantsFirst, NotAmong}
use Rattle.sre_engine.specs.Starts.{Barred, AllBarred, HeldFrom, HeldNowhere}
use Rattle.sre_engine.specs.Beginnings.{BeginsIn, BeginsAtLines, KnowsTest, KnowsLines, is_line_start}
use Rattle.sre_engine.specs.declared.engine.first_characters.Wanted.TheVariants as wanted
use Rattle.sre_engine.proofs.LeadingStarts.{none_joined}
use Rattle.sre_engine.proofs.FirstSets.{taken_bars}

-- Which starts are barred, and what being barred rules out.

-- a description of what the first words lead to bars
pub bars_if : (ws : List ℕ) (i : ℕ) (f : First) → ((t : Tree) → TreeStands ws 0 t → Leads ws t i f.back)
    → ((t : Tree) → TreeStands ws 0 t → (s : Subject) (p : ℕ) → IsElsewhere s f.at p → NoWay s t p)
    → ((t : Tree) → TreeStands ws i t → (s : Subject) (p : ℕ) → IsLacking ws s f.wanted p → NoWay s t p) → Bars ws f
bars_if ws i f leads at wanted = record {
  none = λ t whole s p barred.
      let stands = whole_stands ws t whole in
      let l = leads t stands in
      elim barred [
        | (inl near) ↦ l.near s p near
        | (inr (inl elsewhere)) ↦ at t stands s p elsewhere
        | (inr (inr lacking)) ↦ l.leads s p (wanted l.tree l.stands s (p - f.back) lacking)
      ];
}

module _ (r : Run) (f : First) (a : ℕ) (c : StringCursor) (x : BarredUpTo r f a c) where
  -- from a cursor on, too
  pub up_to_further : (d : StringCursor) → BarredUpTo r f c.position d → BarredUpTo r f a d
  up_to_further d y = record {
    stands = y.stands;
    after = omega (arith, x.after, y.after);
    inside = y.inside;
    each = λ q from to. elim (cases_lt q c.position) [
      | (inl before) ↦ x.each q from before
      | (inr behind) ↦ y.each q behind to
    ];
  }

  module _ (code : SreAtCode) (is : f.at ≡ Some code) (fails : holds_at r.subject code c.position ≡ false) where
    -- a start from which on the code does not hold up to another one
    unheld : (q : ℕ) → a ≤ q → (c.position < q → holds_at r.subject code q ≡ false) → Barred r.words r.subject f q
    unheld q from none = elim (cases_lt q c.position) [
      | (inl before) ↦ x.each q from before
      | (inr behind) ↦ inr (inl (subst (λ o. IsElsewhere r.subject o q) (sym is) (elim (cases_lt c.position q) [
        | (inl later) ↦ none later
        | (inr up) ↦ let same : c.position ≡ q = omega (arith, behind, up) in
            subst (λ p. holds_at r.subject code p ≡ false) same fails
      ])))
    ]

    -- from a cursor at which the code does not hold on to where it may
    pub up_to_held : (d : StringCursor) → HeldFrom r code c.position d → BarredUpTo r f a d
    up_to_held d y = record {
      stands = y.stands;
      after = omega (arith, x.after, y.behind);
      inside = y.inside;
      each = λ q from to. unheld q from (λ later. y.each q later to);
    }

    -- and where it holds nowhere
    pub all_unheld : HeldNowhere r code c.position → AllBarred r f a
    all_unheld y = record { each = λ q from to. unheld q from (λ later. y.each q later to) }

-- where a description bars a start, no match begins
module _ (r : Run) (a : Asked) (t : Tree) (f : First) (same : r.subject ≡ subject_of a) (bars : Bars r.words f)
    (whole : WholeItems r.words t) where
  barred_start : (q : ℕ) → Barred r.words r.subject f q → at_start a t q ≡ None
  barred_start q barred =
      let here = subst (λ s. Barred r.words s f q) same barred in
      let none = (bars.none t whole (subject_of a) q here).none no_marks in
      rw none refl

  -- behind starts that have no match none has one up to the next start, or none in the window
  pub none_until_start : (p q : ℕ) (next : Option StringCursor) → NoneBetween a t p q → NextStart r f q next
      → NoneUntil a t p next
  none_until_start p q None before x =
      none_joined a t p q (a.end + 1) before (λ s later to.
      let inside : s ≤ a.end = omega (arith, to) in
      barred_start s (x.each s later (subst (λ (y : Subject). s ≤ y.end) (sym same) inside)))
  none_until_start p q (Some c) before x =
      none_joined a t p q c.position before (λ s later to. barred_start s (x.each s later to))

-- A line

-- no line begins behind another character than a line feed
no_line : (s : Subject) (q : ℕ) → 0 < q → char_at s (q - 1) ≢ 10 → holds_at s BEGINNING_LINE q ≡ false
no_line s q h ne =
    let other : nat_eq (char_at s (q - 1)) 10 ≡ false = grind (arith, nat_tests) in
    let past : nat_eq q 0 ≡ false = grind (arith, nat_tests) in
    rw (past, other) (grind (arith, nat_tests))

pub line_sought : (r : Run) (cursor next : StringCursor) (found : Bool) → found ≡ true
    → r.stands next next.position → Sought r.subject.text 10 cursor.position r.subject.end found next.position
    → HeldFrom r BEGINNING_LINE cursor.position next
line_sought r cursor next true e at s = record {
  stands = at;
  behind = s.0;
  inside = s.1;
  each = λ q from to. no_line r.subject q (omega (arith, from)) (s.3 (q - 1) (omega (arith, from))
      (omega (arith, from, to)));
}
line_sought r cursor next false e at s = absurd (cc)

pub no_line_sought : (r : Run) (cursor next : StringCursor) (found : Bool) → found ≡ false
    → Sought r.subject.text 10 cursor.position r.subject.end found next.position
    → HeldNowhere r BEGINNING_LINE cursor.position
no_line_sought r cursor next true e s = absurd (cc)
no_line_sought r cursor next false e s = record {
  each = λ q from to. no_line r.subject q (omega (arith, from)) (s.1 (q - 1) (omega (arith, from))
      (omega (arith, from, to)));
}

-- Where a match may begin, by what its first code words want.

-- where a test is wanted at the start, and none of the characters that it takes is there, it does not pass
pub test_lacks : (ws : List ℕ) (first : First) (place : ℕ) (r : Option AsciiSet) → first.back ≡ 0
    → first.wanted ≡ wanted.Test place → IfSome r (λ set. TakesAscii ws place set)
    → IfSome r (λ set. (s : Subject) (p : ℕ) → NotAmong s set p → IsLacking ws s first.wanted (p - first.back))
test_lacks ws first place None near is taken = taken
test_lacks ws first place (Some set) near is taken = λ s p none.
    let here : p - first.back ≡ p = omega (arith, near) in
    subst (λ q. IsLacking ws s first.wanted q) (sym here)
    (subst (λ w. IsLacking ws s w p) (sym is) (taken_bars ws place set taken s p none))

module _ (ws items : List ℕ) (same : items ≡ behind_block ws) (first : First) where
  own : (t : Tree) → Whole ws t → WholeItems items t
  own t w = subst (λ (is : List ℕ). WholeItems is t) (sym same) w.1

  pub begins_in : Bars items first → (r : Option AsciiSet)
      → IfSome r (λ set. (s : Subject) (p : ℕ) → NotAmong s set p → IsLacking items s first.wanted (p - first.back))
      → IfSome r (λ set. BeginsIn ws set)
  begins_in bars None lacks = lacks
  begins_in bars (Some set) lacks = record {
    none = λ t w s p none m. (bars.none t (own t w) s p (inr (inr (lacks s p (record { none = none }))))).none m;
  }

  pub begins_at_lines : Bars items first
      → ((s : Subject) (p : ℕ) → holds_at s BEGINNING_LINE p ≡ false → IsElsewhere s first.at p)
      → BeginsAtLines ws
  begins_at_lines bars elsewhere = record {
    none = λ t w s p none m. (bars.none t (own t w) s p (inr (inl (elsewhere s p none)))).none m;
  }

  -- what is known
  pub knows_test : WantsFirst items first → (r : Option AsciiSet)
      → ((test : Test) → Wants items first.wanted test → first.back ≡ 0 → has_ascii test ≡ true
      → IsSomeAnd r (λ set. IsAsciiOf test set))
      → KnowsTest ws r
  knows_test wants r known = record {
    known = λ t w test e has. let here = wants.test t (own t w) test e in known test here.1 here.0 has;
  }

  pub knows_lines : WantsFirst items first → (r : Bool) → IfSome first.at (λ code. r ≡ is_line_start code)
      → KnowsLines ws r
  knows_lines wants r known = record {
    known = λ t w code e is.
        subst (λ a. IfSome a (λ c. r ≡ is_line_start c)) (wants.code t (own t w) code e) known ∙ is;
  }
