-- The ASCII characters of a set, item by item.
use Rattle.sre_code.proofs.Terms.{ℕ, ◌+◌, ◌≡◌, ◌<◌, Bool, true, false, not, cond, ◌&&◌, ◌||◌, nat_eq, nat_lt, List}
use Rattle.sre_code.proofs.Terms.{refl, sym, ◌∙◌, ap, subst, slice_range, arith, Option, Some, None, IfSome, nat_tests}
use Rattle.sre_code.proofs.Terms.{contains, AsciiSet, category_number, Table, category, SreCatCode, SetItem, Charset}
use Rattle.sre_code.proofs.Terms.{is_member, Word, Opcode, SetStands, HasSet, single_says, range_says, category_says}
use Rattle.sre_code.proofs.Terms.{charset_says, AsciiLeft, and_comm, is_between, ItemSays, negated, nothing_left}
use Rattle.sre_model.specs.Characters.{item_holds, verdict}
use Rattle.sre_code.specs.AsciiSets.{HoldsFor, AreTold}
use Rattle.sre_chars.specs.declared.constants.SreOpcode.TheVariants as opcode

-- an item that says what an ASCII set has
says_so : (ws : List ℕ) (table : Table) (i c next : ℕ) (says has : Bool) → c < 128 → has ≡ (nat_lt c 128 && says)
    → ItemSays ws table i c says next → ItemSays ws table i c has next
says_so ws table i c next says has l e x =
    let inside : nat_lt c 128 ≡ true = grind (arith, nat_tests) in
    let same : has ≡ says = e ∙ ap (λ b. b && says) inside in
    subst (λ b. ItemSays ws table i c b next) (sym same) x

pub literal_holds : (ws : List ℕ) (i v : ℕ) (members : AsciiSet) → Opcode ws i opcode.LITERAL → Word ws (i + 1) v
    → ((c : ℕ) → contains members c ≡ (nat_lt c 128 && nat_eq c v)) → HoldsFor ws i members (i + 2)
literal_holds ws i v members w o h =
    record { each = λ table c l. says_so ws table i c (i + 2) _ _ l (h c) (single_says ws table i c v w o) }

pub range_holds : (ws : List ℕ) (i low high : ℕ) (members : AsciiSet) → Opcode ws i opcode.RANGE
    → Word ws (i + 1) low → Word ws (i + 2) high
    → ((c : ℕ) → contains members c ≡ (nat_lt c 128 && is_between low high c)) → HoldsFor ws i members (i + 3)
range_holds ws i low high members w ol oh h = record {
  each = λ table c l. says_so ws table i c (i + 3) _ _ l (h c) (range_says ws table i c low high _ w ol oh refl);
}

pub category_holds : (ws : List ℕ) (i : ℕ) (code : SreCatCode) (members : AsciiSet) → Opcode ws i opcode.CATEGORY
    → Word ws (i + 1) (category_number code)
    → ((table : Table) (c : ℕ) → contains members c ≡ (nat_lt c 128 && category table (category_number code) c))
    → HoldsFor ws i members (i + 2)
category_holds ws i code members w o h = record {
  each = λ table c l.
      says_so ws table i c (i + 2) _ _ l (h table c) (category_says ws table i c _ code w o refl);
}

pub charset_holds : (ws : List ℕ) (i : ℕ) (members : AsciiSet) → Opcode ws i opcode.CHARSET
    → ((table : Table) (c : ℕ) → c < 128
    → contains members c ≡ item_holds table (Charset (slice_range ws (i + 1) (i + 9))) c)
    → HoldsFor ws i members (i + 9)
charset_holds ws i members w h =
    record { each = λ table c l. charset_says ws table i c (contains members c) w (h table c l) }

-- a set at its beginning, behind an item, behind NEGATE, and at its end
pub ascii_all : (ws : List ℕ) (start : ℕ) (members left none : AsciiSet) → ((c : ℕ) → contains members c ≡ false)
    → ((c : ℕ) → contains none c ≡ false) → ((c : ℕ) → contains left c ≡ (nat_lt c 128 && not (contains none c)))
    → AsciiLeft ws start start true members left
ascii_all ws start members left none empty nothing whole = record {
  each = λ table c l j set s.
      let inside : nat_lt c 128 ≡ true = grind (arith, nat_tests) in
      let all : contains left c ≡ true = rw (whole c, inside, nothing c) refl in
      (set, s, rw (empty c, all) refl);
}

pub ascii_there : (ws : List ℕ) (start i : ℕ) (taken : Bool) (members left : AsciiSet) (table : Table) → HasSet ws start
    → AsciiLeft ws start i taken members left → HasSet ws i
ascii_there ws start i taken members left table h l =
    let f = l.each table 0 (omega arith) h.end h.set h.stands in
    record { end = h.end; set = f.0; stands = f.1 }

-- what an item decides of a character that is left
decides : (member left holds taken further : Bool)
    → (member || (left && cond holds taken further))
    ≡ ((member || (taken && (left && not (left && not holds)))) || ((left && not holds) && further))
decides true left holds taken further = refl
decides false false holds true further = refl
decides false false holds false further = refl
decides false true true true further = refl
decides false true true false further = refl
decides false true false true further = refl
decides false true false false further = refl

pub ascii_past : (ws : List ℕ) (start i next : ℕ) (taken : Bool) (members left item rest decided after : AsciiSet)
    → AsciiLeft ws start i taken members left → HoldsFor ws i item next
    → ((c : ℕ) → contains rest c ≡ (contains left c && not (contains item c)))
    → ((c : ℕ) → contains decided c ≡ (contains left c && not (contains rest c)))
    → ((c : ℕ) → contains after c ≡ (contains members c || (taken && contains decided c)))
    → AsciiLeft ws start next taken after rest
ascii_past ws start i next taken members left item rest decided after l x r d a = record {
  each = λ table c k j set s.
      let f = l.each table c k j set s in
      let g = (x.each table c k).each j f.0 f.1 in
      let further = verdict table taken g.0 c in (
        g.0,
        g.1,
        f.2 ∙ ap (λ v. contains members c || (contains left c && v)) (g.2 taken)
            ∙ rw (a c, d c, r c) (decides (contains members c) (contains left c) (contains item c) taken further),
      );
}

pub ascii_turned : (ws : List ℕ) (start i : ℕ) (taken : Bool) (members left : AsciiSet)
    → AsciiLeft ws start i taken members left → Opcode ws i opcode.NEGATE
    → AsciiLeft ws start (i + 1) (not taken) members left
ascii_turned ws start i taken members left l w = record {
  each = λ table c k j set s.
      let f = l.each table c k j set s in
      let g = negated ws i j f.0 w f.1 in (
        g.0,
        g.1,
        f.2 ∙ ap (λ rest. contains members c || (contains left c && verdict table taken rest c)) g.2,
      );
}

pub ascii_whole : (ws : List ℕ) (start i : ℕ) (taken : Bool) (members left after : AsciiSet)
    → AsciiLeft ws start i taken members left → Opcode ws i opcode.FAILURE
    → ((c : ℕ) → contains after c ≡ (contains members c || (not taken && contains left c)))
    → (table : Table) (j : ℕ) (set : List SetItem) → SetStands ws start j set → (c : ℕ) → c < 128
    → contains after c ≡ is_member table set c
ascii_whole ws start i taken members left after l w a table j set s c k =
    let f = l.each table c k j set s in
    let none = nothing_left ws i j f.0 w f.1 in
    a c ∙ ap (λ b. contains members c || b) (and_comm (not taken) (contains left c))
    ∙ sym (f.2 ∙ ap (λ rest. contains members c || (contains left c && verdict table taken rest c)) none)

-- what a reader of a set tells is told of each set that stands there
pub told : (ws : List ℕ) (i : ℕ) (members : Option AsciiSet)
    → ((table : Table) (j : ℕ) (set : List SetItem) → SetStands ws i j set
    → IfSome members (λ x. (c : ℕ) → c < 128 → contains x c ≡ is_member table set c)) → AreTold ws i members
told ws i None each = tt
told ws i (Some x) each = record { each = λ table j set stands. each table j set stands }
