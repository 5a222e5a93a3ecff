-- Codes that begin with a group of one character and a back-reference to it: where no character comes twice none has a
-- match.
use Rattle.sre_engine.proofs.Terms.{◌≡◌, ◌⊎◌, ◌&&◌, ◌+◌, ◌-◌, ◌*◌, ◌<◌, ◌≤◌, ◌≢◌, ℕ, zero, suc, Bool, true, false, List}
use Rattle.sre_engine.proofs.Terms.{length, refl, sym, ap, ◌∙◌, subst, arith, nat_tests, nat_le, nat_eq, cond, []}
use Rattle.sre_engine.proofs.Terms.{Option, Some, None, inl, inr, cases_lt, Tree, Then, Item, Test, is_member, Marks}
use Rattle.sre_engine.proofs.Terms.{set_mark, no_marks, Subject, char_at, passes, ways, Word, Opcode, WholeItems, Whole}
use Rattle.sre_engine.proofs.Terms.{TreeStands, NoWay, is_end, is_anchored, Asked, at_start, subject_of, Code, words_of}
use Rattle.sre_engine.proofs.Terms.{uni_of, items_of, StringCursor, NoneBetween, NoneUntil, same_word, same_opcode}
use Rattle.sre_engine.proofs.Terms.{whole_stands, stands_up_to, items_whole}
use Rattle.std.proofs.Common.{length-append, replicate}
use Rattle.std.proofs.lemmas.List.{get_or-set_same, get_or-set_other, get_or_append_left, length-set, length-replicate}
use Rattle.sre_chars.specs.declared.constants.SreOpcode.TheVariants as opcode
use Rattle.sre_model.specs.Tree.{Reference, Plain, Fold, Order, Loop, One, At, Mark}
use Rattle.sre_model.specs.Ways.{Way, here, reference_ways}
use Rattle.sre_model.specs.Subject.{same_folded}
use Rattle.sre_model.specs.Grammar.{Reads, reference_opcode, until_opcode, skip}
use Rattle.sre_model.specs.Marks.{mark_at, group, lengthened}
use Rattle.sre_model.specs.Roles.{ToMark, ToRefer, ToRepeat, ToTest}
use Rattle.sre_model.proofs.Opcodes.{role_here, is_mark, is_one, is_reference, is_loop, until_role}
use Rattle.sre_model.proofs.FirstCharacters.{Begins, known, some_test_here}
use Rattle.sre_engine.specs.Doubled.{comes_twice, EndsTest, LeadsInside, IsDoubled, IsOutside, IsNoDouble, NextDouble}
use Rattle.sre_engine.proofs.LeadingStarts.{none_joined}
use Rattle.sre_engine.proofs.FirstSets.{unmembered_at}

-- The group that two marks make

long : (n : ℕ) (raw : List (Option ℕ)) → n < length (lengthened n raw)
long n raw =
    let missing : List (Option ℕ) = replicate (n + 1 - length raw) None in
    omega (arith, length-append raw missing, length-replicate {A = Option ℕ} (n + 1 - length raw) None)

mark_there : (m : Marks) (n p : ℕ) → mark_at (set_mark m n p) n ≡ Some p
mark_there m n p = get_or-set_same (lengthened n m.raw) n (Some p) None (long n m.raw)

kept_there : (m : Marks) (n k p q : ℕ) → mark_at m n ≡ Some q → n < length m.raw → n ≢ k
    → mark_at (set_mark m k p) n ≡ Some q
kept_there m n k p q is within other =
    get_or-set_other (lengthened k m.raw) k n (Some p) None other
    ∙ get_or_append_left m.raw (replicate (k + 1 - length m.raw) None) None n within ∙ is

group_at : (m : Marks) (g x y : ℕ) → mark_at m (2 * g) ≡ Some x → mark_at m (2 * g + 1) ≡ Some y → x ≤ y
    → group m g ≡ Some (x, y)
group_at m g x y begin end l =
    let ordered : nat_le x y ≡ true = grind (arith, nat_tests) in
    subst (λ o. ◌≡◌ {A = Option (ℕ × ℕ)} (elim o [
      | None ↦ None
      | (Some u) ↦ elim (mark_at m (2 * g + 1)) [ None ↦ None | (Some v) ↦ cond (nat_le u v) (Some (u, v)) None ]
    ]) (Some (x, y))) (sym begin)
    (subst (λ o. ◌≡◌ {A = Option (ℕ × ℕ)} (elim o [ None ↦ None | (Some v) ↦ cond (nat_le x v) (Some (x, v)) None ])
    (Some (x, y))) (sym end) (rw ordered refl))

-- of one character
group_made : (m : Marks) (g p : ℕ) → group (set_mark (set_mark m (2 * g) p) (2 * g + 1) (p + 1)) g ≡ Some (p, p + 1)
group_made m g p =
    let opened : Marks = set_mark m (2 * g) p in
    let within : 2 * g < length opened.raw =
    omega (arith, long (2 * g) m.raw, length-set (lengthened (2 * g) m.raw) (2 * g) (Some p)) in
    group_at (set_mark opened (2 * g + 1) (p + 1)) g p (p + 1)
    (kept_there opened (2 * g) (2 * g + 1) (p + 1) p (mark_there m (2 * g) p) within (λ same. omega (arith, same)))
    (mark_there opened (2 * g + 1) (p + 1)) (omega arith)

-- What such a tree comes to where no character comes twice

abbrev doubled_tree : ℕ → Test → Tree → Tree
doubled_tree g u t = Then (Mark (2 * g)) (Then (One u) (Then (Mark (2 * g + 1)) t))

module _ (s : Subject) (g p : ℕ) (once : comes_twice s p ≡ false) where
  not_twice : (nat_le (p + 1 + 1) s.end && (nat_eq (char_at s p) (char_at s (p + 1)) && true)) ≡ false
  not_twice = grind (arith, nat_tests, once)

  unreferred : (m : Marks) → group m g ≡ Some (p, p + 1) → reference_ways s Plain g (p + 1) m ≡ []
  unreferred m made =
      let one : p + 1 - p ≡ 1 = omega arith in
      subst (λ o. ◌≡◌ {A = List Way} (elim o [
        | None ↦ []
        | (Some span) ↦
            cond (nat_le (p + 1 + (span.1 - span.0)) s.end && same_folded s Plain (span.1 - span.0) span.0 (p + 1))
            (here (p + 1 + (span.1 - span.0)) m) []
      ]) []) (sym made) (rw (one, not_twice) refl)

  -- a tree has no way behind the group
  abbrev NoneBehind : Tree → Type 0
  NoneBehind t = (m : Marks) → group m g ≡ Some (p, p + 1) → ways s t (p + 1) m ≡ []

  reference_none : (rest : Tree) → NoneBehind (Then (Reference Plain g) rest)
  reference_none rest m made = rw (unreferred m made) refl

  loop_none : (o : Order) (low high : ℕ) (body rest : Tree) → 0 < low → NoneBehind body
      → NoneBehind (Then (Loop o low high body) rest)
  loop_none o zero high body rest owed none m made = absurd (omega (arith, owed))
  loop_none o (suc more) high body rest owed none m made = rw (none m made) refl

  doubled_none : (u : Test) (t : Tree) → NoneBehind t → NoWay s (doubled_tree g u t) p
  doubled_none u t none = record { none = λ m. by_test m (passes s u p) refl }
    where
      by_test : (m : Marks) (b : Bool) → passes s u p ≡ b → ways s (doubled_tree g u t) p m ≡ []
      by_test m false e = rw e refl
      by_test m true e =
          rw (e, none (set_mark (set_mark m (2 * g) p) (2 * g + 1) (p + 1)) (group_made m g p)) refl

-- Words of such a tree

-- what follows an item stands behind it
stands_behind : (ws : List ℕ) (t : Tree) (i k : ℕ) (x : TreeStands ws i t) (b : Begins ws t i x) → b.after ≡ k
    → TreeStands ws k b.rest
stands_behind ws t i k x b e =
    stands_up_to ws k x.end b.rest x.code (subst (λ j. Reads ws j x.end b.rest) e b.reads) x.there x.ends

-- a tree begins with what is known of its first item
begins_so : (ws : List ℕ) (t : Tree) (i : ℕ) (x : TreeStands ws i t) (b : Begins ws t i x) (item : Item)
    → b.item ≡ item → t ≡ Then item b.rest
begins_so ws t i x b item same = b.same ∙ ap (λ y. Then y b.rest) same

plain_fold : (ws : List ℕ) (i : ℕ) (fold : Fold) → Opcode ws i opcode.GROUPREF → Opcode ws i (reference_opcode fold)
    → fold ≡ Plain
plain_fold ws i fold w v = by_fold fold (same_opcode ws i opcode.GROUPREF (reference_opcode fold) w v)
  where
    by_fold : (f : Fold) → opcode.GROUPREF ≡ reference_opcode f → f ≡ Plain
    by_fold Plain e = refl
    by_fold f e = absurd (cc e)

module _ (ws : List ℕ) (g behind at : ℕ) (first : Opcode ws 0 opcode.MARK) (opens : Word ws 1 (g * 2))
    (test : EndsTest ws behind) (second : Opcode ws behind opcode.MARK) (closes : Word ws (behind + 1) (g * 2 + 1))
    (leads : LeadsInside ws (behind + 2) at) (third : Opcode ws at opcode.GROUPREF) (refers : Word ws (at + 1) g) where
  mark_begins : (t : Tree) (i n : ℕ) → TreeStands ws i t → Opcode ws i opcode.MARK → Word ws (i + 1) n
      → (rest : Tree) × (t ≡ Then (Mark n) rest) × TreeStands ws (i + 2) rest
  mark_begins t i n x w v =
      let a = known ws t i x ToMark refl (role_here ws i opcode.MARK ToMark w refl) (is_mark ws i) in
      let same : a.1.0 ≡ n = same_word ws (i + 1) a.1.0 n a.1.2.1.0 v in (
        a.0.rest,
        begins_so ws t i x a.0 (Mark n) (a.1.1 ∙ ap Mark same),
        stands_behind ws t i (i + 2) x a.0 a.1.2.1.1,
      )

  test_begins : (t : Tree) → TreeStands ws 2 t
      → (u : Test) × (rest : Tree) × (t ≡ Then (One u) rest) × TreeStands ws behind rest
  test_begins t x =
      let kind = some_test_here ws 2 test.code test.there test.tests in
      let a = known ws t 2 x (ToTest kind.0) refl kind.1 (is_one ws 2) in (
        a.1.0,
        a.0.rest,
        begins_so ws t 2 x a.0 (One a.1.0) a.1.1,
        stands_behind ws t 2 behind x a.0
            (test.ends a.0.after a.1.0 (record { code = a.1.2.0; operands = a.1.2.1 })),
      )

  reference_begins : (t : Tree) → TreeStands ws at t → (rest : Tree) × (t ≡ Then (Reference Plain g) rest)
  reference_begins t x =
      let a = known ws t at x ToRefer refl (role_here ws at opcode.GROUPREF ToRefer third refl) (is_reference ws at) in
      let fold : a.1.0 ≡ Plain = plain_fold ws at a.1.0 third a.1.3.0 in
      let group : a.1.1 ≡ g = same_word ws (at + 1) a.1.1 g a.1.3.1.0 refers in (
        a.0.rest,
        begins_so ws t at x a.0 (Reference Plain g)
            (a.1.2 ∙ ap (λ f. Reference f a.1.1) fold ∙ ap (Reference Plain) group),
      )

  module _ (s : Subject) (p : ℕ) (once : comes_twice s p ≡ false) where
    reference_there : (t : Tree) → TreeStands ws at t → NoneBehind s g p once t
    reference_there t x =
        let a = reference_begins t x in
        subst (NoneBehind s g p once) (sym a.1) (reference_none s g p once a.0)

    -- a loop that owes a body, which begins with the reference
    loop_there : (low : ℕ) → Opcode ws (behind + 2) opcode.REPEAT → Word ws (behind + 2 + 2) low → 0 < low
        → at ≡ behind + 2 + 4 → (t : Tree) → TreeStands ws (behind + 2) t → NoneBehind s g p once t
    loop_there low w there owed inside t x =
        let i = behind + 2 in
        let a = known ws t i x ToRepeat refl (role_here ws i opcode.REPEAT ToRepeat w refl) (is_loop ws i) in
        let item = Loop a.1.0 a.1.1 a.1.2 a.1.3 in
        let same : a.1.1 ≡ low = same_word ws (i + 2) a.1.1 low a.1.5.1.0 there in
        let body : TreeStands ws (i + 4) a.1.3 =
        stands_up_to ws (i + 4) (skip ws (i + 1)) a.1.3 (until_opcode a.1.0) a.1.5.1.3 a.1.5.1.4
        (ap is_end (until_role a.1.0)) in
        subst (NoneBehind s g p once) (sym (begins_so ws t i x a.0 item a.1.4))
        (loop_none s g p once a.1.0 a.1.1 a.1.2 a.1.3 a.0.rest (omega (arith, same, owed))
        (reference_there a.1.3 (subst (λ k. TreeStands ws k a.1.3) (sym inside) body)))

    none_there : (t : Tree) → TreeStands ws (behind + 2) t → NoneBehind s g p once t
    none_there t x = elim leads [
      | (inl same) ↦ reference_there t (subst (λ k. TreeStands ws k t) (sym same) x)
      | (inr l) ↦ loop_there l.0 l.1.0 l.1.1 l.1.2 l.1.3 t x
    ]

  pub doubled_words : IsDoubled ws
  doubled_words = record {
    begins = first;
    none = λ t whole s p once.
        let a = mark_begins t 0 (g * 2) (whole_stands ws t whole) first opens in
        let b = test_begins a.0 a.2 in
        let c = mark_begins b.1 behind (g * 2 + 1) b.3 second closes in
        let twice : g * 2 ≡ 2 * g = omega arith in
        let is : t ≡ doubled_tree g b.0 c.0 =
        a.1 ∙ ap (Then (Mark (g * 2))) (b.2 ∙ ap (Then (One b.0)) c.1)
        ∙ ap (λ n. Then (Mark n) (Then (One b.0) (Then (Mark (n + 1)) c.0))) twice
        in
        subst (λ v. NoWay s v p) (sym is) (doubled_none s g p once b.0 c.0 (none_there s p once c.0 c.2));
  }

-- such words are not anchored at the text's start
pub unanchored : (ws : List ℕ) (t : Tree) → Opcode ws 0 opcode.MARK → WholeItems ws t → is_anchored t ≡ true → ⊥
unanchored ws (Then (At a) rest) w whole e = absurd (cc (whole.0.1.0, w))
unanchored ws t w whole e = let never : false ≡ true = e in absurd (cc never)

-- Where a search goes on

module _ (code : Code) (a : Asked) (t : Tree) (table : a.table ≡ uni_of code) (w : Whole (words_of code) t)
    (is : IsDoubled (items_of code)) where
  no_double : (q : ℕ) → IsNoDouble a code q → at_start a t q ≡ None
  no_double q (inl once) =
      let none = (is.none t (items_whole code t w) (subject_of a) q once).none no_marks in rw none refl
  no_double q (inr outside) = unmembered_at code outside.0 a t q table w outside.1

  -- behind starts that have no match none has one up to the next such start, or none in the window
  pub none_until_double : (p q : ℕ) (next : Option StringCursor) → NoneBetween a t p q → NextDouble a code q next
      → NoneUntil a t p next
  none_until_double p q None before none =
      none_joined a t p q (a.end + 1) before (λ s from to. no_double s (none s from (omega (arith, to))))
  none_until_double p q (Some c) before x =
      none_joined a t p q c.position before (λ s from to. no_double s (x.none s from to))

-- How a scan goes on

differing : (s : Subject) (p q c next : ℕ) → c ≡ char_at s p → next ≡ char_at s q → q ≡ p + 1 → next ≢ c
    → comes_twice s p ≡ false
differing s p q c next here there on other =
    let second : char_at s (p + 1) ≢ char_at s p =
    λ same. other (there ∙ ap (char_at s) on ∙ same ∙ sym here) in
    grind (arith, nat_tests)

-- behind a character that is not the next one, or no member
pub no_double_there : (a : Asked) (code : Code) (p q c next : ℕ) → a.table ≡ uni_of code
    → c ≡ char_at (subject_of a) p → next ≡ char_at (subject_of a) q → q ≡ p + 1
    → (next ≢ c) ⊎ IsOutside code c → IsNoDouble a code p
no_double_there a code p q c next table here there on (inl other) =
    inl (differing (subject_of a) p q c next here there on other)
no_double_there a code p q c next table here there on (inr outside) =
    inr (
      outside.0,
      λ set own.
          let none : is_member a.table set (char_at (subject_of a) p) ≡ false =
          rw (table, ← here) (outside.1 set own)
          in
          rw none (grind (arith, nat_tests)),
    )

pub none_further : (a : Asked) (code : Code) (from p q : ℕ)
    → ((s : ℕ) → from ≤ s → s < p → IsNoDouble a code s) → IsNoDouble a code p → q ≡ p + 1
    → (s : ℕ) → from ≤ s → s < q → IsNoDouble a code s
none_further a code from p q before here on s least less = elim (cases_lt s p) [
  | (inl earlier) ↦ before s least earlier
  | (inr later) ↦ let same : p ≡ s = omega (arith, on, later, less) in subst (IsNoDouble a code) same here
]
