-- What the first code words lead to: a tree's first test, and its first position code.
use Rattle.sre_engine.proofs.Terms.{◌≡◌, ◌⊎◌, ◌+◌, ◌-◌, ◌<◌, ◌≤◌, ℕ, Bool, true, false, nat_lt, cond, List, Option}
use Rattle.sre_engine.proofs.Terms.{Some, None, IfSome, refl, sym, ap, ◌∙◌, subst, inl, inr, arith, true≢false}
use Rattle.sre_engine.proofs.Terms.{nat_tests, at_number, SreAtCode, SreOpcode, Tree, Empty, Then, Test, RunKind}
use Rattle.sre_engine.proofs.Terms.{GreedyRun, LazyRun, PossessiveRun, Word, Opcode, Reads, Role, role, begins_test}
use Rattle.sre_engine.proofs.Terms.{TreeStands, same_word, same_opcode, HasRole, stands_up_to, whole_stands}
use Rattle.sre_engine.proofs.Terms.{LeadsToTest, LeadsToCode, Wants, WantsFirst, First, Item, ReadsItem, item_opcode}
use Rattle.sre_engine.proofs.Terms.{run_opcode, test_opcode, is_test_role, opcode_low, item_role, role_same, test_kind}
use Rattle.sre_engine.proofs.Terms.{test_role, run_role, first_test, first_code, is_passed, IsPast, Ahead, IsTestAt}
use Rattle.sre_engine.proofs.Terms.{HasTree, IsElsewhere, Leads, NoWay, Subject, leads_further, leads_tree, length}
use Rattle.sre_engine.proofs.Terms.{tree_within, leads_start}
use Rattle.sre_model.specs.Roles.{ToRun, ToTest}
use Rattle.sre_chars.specs.declared.constants.SreOpcode.TheVariants as opcode
use Rattle.sre_model.specs.Tree.{Run, One, At, Mark}

-- The items before a first test, or a first position code

role_at : (ws : List ℕ) (i j : ℕ) (item : Item) (o : SreOpcode) → ReadsItem ws i j item → Opcode ws i o
    → role o ≡ item_role item
role_at ws i j item o r w = ap role (same_opcode ws i o (item_opcode item) w r.0) ∙ role_same item

-- whether a tree that has a first test may begin so
abbrev pub before_test : Role → Bool
before_test (ToTest kind) = true
before_test (ToRun kind) = true
before_test r = is_passed r

test_item : (item : Item) (rest : Tree) (test : Test) → first_test (Then item rest) ≡ Some test
    → before_test (item_role item) ≡ true
test_item (One u) rest test e = refl
test_item (Run kind low high u) rest test e = refl
test_item (Mark n) rest test e = refl
test_item (At a) rest test e = refl
test_item item rest test e = absurd (cc e)

code_item : (item : Item) (rest : Tree) (code : SreAtCode) → first_code (Then item rest) ≡ Some code
    → is_passed (item_role item) ≡ true
code_item (Mark n) rest code e = refl
code_item (At a) rest code e = refl
code_item item rest code e = absurd (cc e)

module _ (ws : List ℕ) (i : ℕ) where
  no_test : (t : Tree) → TreeStands ws i t → (test : Test) → first_test t ≡ Some test → (o : SreOpcode)
      → Opcode ws i o → before_test (role o) ≡ false → ⊥
  no_test Empty x test e o w other = absurd (cc e)
  no_test (Then item rest) x test e o w other =
      let same = role_at ws i x.reads.0 item o x.reads.1 w in
      true≢false (sym (test_item item rest test e) ∙ ap before_test (sym same) ∙ other)

  no_code : (t : Tree) → TreeStands ws i t → (code : SreAtCode) → first_code t ≡ Some code → IsPast ws i → ⊥
  no_code Empty x code e past = absurd (cc e)
  no_code (Then item rest) x code e past =
      let other = past.other (item_opcode item) x.reads.1.0 in
      true≢false (sym (code_item item rest code e) ∙ ap is_passed (sym (role_same item)) ∙ other)

  -- what is behind an item of two words
  ahead_two : (Holds : Tree → Type 0) (item : Item) (rest : Tree) (x : TreeStands ws i (Then item rest))
      → x.reads.0 ≡ i + 2 → Holds rest → Ahead ws (i + 2) 0 Holds
  ahead_two Holds item rest x e holds = record {
    tree = rest;
    stands =
        subst (λ k. TreeStands ws k rest) e
        (stands_up_to ws x.reads.0 x.end rest x.code x.reads.2 x.there x.ends);
    holds = holds;
    near = refl;
  }

  test_behind : (t : Tree) → TreeStands ws i t → (test : Test) → first_test t ≡ Some test → (o : SreOpcode)
      → Opcode ws i o → is_passed (role o) ≡ true → Ahead ws (i + 2) 0 (λ u. first_test u ≡ Some test)
  test_behind Empty x test e o w passed = absurd (cc e)
  test_behind (Then (Mark n) rest) x test e o w passed =
      ahead_two (λ v. first_test v ≡ Some test) (Mark n) rest x x.reads.1.1.1 e
  test_behind (Then (At a) rest) x test e o w passed =
      ahead_two (λ v. first_test v ≡ Some test) (At a) rest x x.reads.1.1.1 e
  test_behind (Then item rest) x test e o w passed =
      absurd (true≢false (sym passed ∙ ap is_passed (role_at ws i x.reads.0 item o x.reads.1 w)))

  code_behind : (t : Tree) → TreeStands ws i t → (code : SreAtCode) → first_code t ≡ Some code
      → Opcode ws i opcode.MARK → Ahead ws (i + 2) 0 (λ u. first_code u ≡ Some code)
  code_behind Empty x code e w = absurd (cc e)
  code_behind (Then (Mark n) rest) x code e w =
      ahead_two (λ v. first_code v ≡ Some code) (Mark n) rest x x.reads.1.1.1 e
  code_behind (Then (At a) rest) x code e w = absurd (cc (x.reads.1.0, w))
  code_behind (Then item rest) x code e w = absurd (cc e)

  code_here : (t : Tree) → TreeStands ws i t → (code : SreAtCode) → first_code t ≡ Some code → Opcode ws i opcode.AT
      → Word ws (i + 1) (at_number code)
  code_here Empty x code e w = absurd (cc e)
  code_here (Then (At a) rest) x code e w =
      let same : a ≡ code = cc e in
      subst (λ b. Word ws (i + 1) (at_number b)) same x.reads.1.1.0
  code_here (Then (Mark n) rest) x code e w = absurd (cc (x.reads.1.0, w))
  code_here (Then item rest) x code e w = absurd (cc e)

-- From the words of a start on

-- what is known of the way from a start to a place
pub record Followed (ws : List ℕ) (start i back : ℕ) (kept : Option SreAtCode) : Type 0 where
  pub within : i < length ws
  pub on : start ≤ i
  pub leads : (t : Tree) → TreeStands ws start t → Leads ws t i back
  pub at : (t : Tree) → TreeStands ws start t → (s : Subject) (p : ℕ) → IsElsewhere s kept p → NoWay s t p
  pub test : LeadsToTest ws start i back
  pub code : LeadsToCode ws start i back kept

pub followed_start : (ws : List ℕ) (start : ℕ) → HasTree ws start → Followed ws start start 0 None
followed_start ws start there = record {
  within = tree_within ws start there;
  on = omega arith;
  leads = λ t stands. leads_start ws t start stands;
  at = λ t stands s p e. absurd e;
  test = record { ahead = λ t x test e. record { tree = t; stands = x; holds = e; near = refl } };
  code = record { ahead = λ t x code e. inr (refl, record { tree = t; stands = x; holds = e; near = refl }) };
}

module _ (ws : List ℕ) (start i back : ℕ) (o : SreOpcode) (w : Opcode ws i o) where
  -- to another place, past what begins no first test
  test_stuck : (k far : ℕ) → LeadsToTest ws start i back → before_test (role o) ≡ false → LeadsToTest ws start k far
  test_stuck k far l other = record {
    ahead = λ t x test e.
        let a = l.ahead t x test e in absurd (no_test ws i a.tree a.stands test a.holds o w other);
  }

  code_stuck : (k far : ℕ) (at : Option SreAtCode) → LeadsToCode ws start i back at → is_passed (role o) ≡ false
      → LeadsToCode ws start k far at
  code_stuck k far at l other = record {
    ahead = λ t x code e. elim (l.ahead t x code e) [
      | (inl read) ↦ inl read
      | (inr a) ↦
          let past : IsPast ws i = record {
            other = λ q v. subst (λ p. is_passed (role p) ≡ false) (same_opcode ws i o q w v) other;
          } in
          absurd (no_code ws i a.1.tree a.1.stands code a.1.holds past)
    ];
  }

  pub test_past : LeadsToTest ws start i back → is_passed (role o) ≡ true → LeadsToTest ws start (i + 2) back
  test_past l passed = record {
    ahead = λ t x test e.
        let a = l.ahead t x test e in
        let b = test_behind ws i a.tree a.stands test a.holds o w passed in
        record { tree = b.tree; stands = b.stands; holds = b.holds; near = a.near };
  }

module _ (ws : List ℕ) (start i back : ℕ) (before : Option SreAtCode) (l : LeadsToCode ws start i back before) where
  pub code_past : Opcode ws i opcode.MARK → LeadsToCode ws start (i + 2) back before
  code_past w = record {
    ahead = λ t x code e. elim (l.ahead t x code e) [
      | (inl read) ↦ inl read
      | (inr a) ↦ let b = code_behind ws i a.1.tree a.1.stands code a.1.holds w in
          inr (a.0, record { tree = b.tree; stands = b.stands; holds = b.holds; near = a.1.near })
    ];
  }

  pub code_read : (at : Option SreAtCode) (k : ℕ) → Opcode ws i opcode.AT → IfSome before (λ code. at ≡ Some code)
      → (before ≡ None → back ≡ 0 → (code : SreAtCode) → Word ws (i + 1) (at_number code) → at ≡ Some code)
      → LeadsToCode ws start k back at
  code_read at k w kept own = record {
    ahead = λ t x code e. elim (l.ahead t x code e) [
      | (inl read) ↦ inl (subst (λ b. IfSome b (λ c. at ≡ Some c)) read kept)
      | (inr a) ↦ inl (own a.0 a.1.near code (code_here ws i a.1.tree a.1.stands code a.1.holds w))
    ];
  }

-- on to another place
module _ (ws : List ℕ) (start i far : ℕ) (kept : Option SreAtCode) (x : Followed ws start i far kept)
    (there : HasTree ws start) (k more back : ℕ) (leads : (u : Tree) → TreeStands ws i u → Leads ws u k more)
    (sum : back ≡ far + more) (up : i ≤ k) where
  pub followed : (next : Option SreAtCode)
      → ((t : Tree) → TreeStands ws start t → (s : Subject) (p : ℕ) → IsElsewhere s next p → NoWay s t p)
      → LeadsToTest ws start k back → LeadsToCode ws start k back next → Followed ws start k back next
  followed next bars test code =
      let further = leads_further ws start i far x.leads k more back leads sum in
      record {
        within = tree_within ws k (leads_tree ws start k back further there);
        on = omega (arith, x.on, up);
        leads = further;
        at = bars;
        test = test;
        code = code;
      }

  -- past what begins neither a first test nor a position code
  pub follow_stuck : (o : SreOpcode) → Opcode ws i o → before_test (role o) ≡ false → is_passed (role o) ≡ false
      → Followed ws start k back kept
  follow_stuck o w no_first no_position =
      followed kept x.at (test_stuck ws start i far o w k back x.test no_first)
      (code_stuck ws start i far o w k back kept x.code no_position)

-- a loop
pub loop_role : (o : SreOpcode) → (o ≡ opcode.REPEAT) ⊎ (o ≡ opcode.POSSESSIVE_REPEAT)
    → (before_test (role o) ≡ false) × (is_passed (role o) ≡ false)
loop_role o (inl e) = (ap (λ q. before_test (role q)) e, ap (λ q. is_passed (role q)) e)
loop_role o (inr e) = (ap (λ q. before_test (role q)) e, ap (λ q. is_passed (role q)) e)

-- a word that is no opcode's number
no_opcode : (ws : List ℕ) (i v : ℕ) → Word ws i v → 43 ≤ v → (o : SreOpcode) → Opcode ws i o → ⊥
no_opcode ws i v w high o there = absurd (omega (arith, high, same_word ws i v _ w there, opcode_low o))

-- The first test, once nothing comes before it

-- that of a repeat which needs a character
record RunOf (ws : List ℕ) (i : ℕ) (test : Test) : Type 0 where
  pub kind : RunKind
  pub there : Opcode ws i (run_opcode kind)
  pub low : ℕ
  pub least : Word ws (i + 2) low
  pub some : 0 < low
  pub inside : IsTestAt ws (i + 4) test

module _ (ws : List ℕ) (i : ℕ) (t : Tree) (x : TreeStands ws i t) (test : Test) (first : first_test t ≡ Some test)
    (past : IsPast ws i) where
  own_test : IsTestAt ws i test ⊎ RunOf ws i test
  own_test = by_tree t x.reads first
    where
      by_tree : (u : Tree) → Reads ws i x.end u → first_test u ≡ Some test → IsTestAt ws i test ⊎ RunOf ws i test
      by_tree Empty r e = absurd (cc e)
      by_tree (Then (One u) rest) r e =
          let same : u ≡ test = cc e in
          inl (subst (IsTestAt ws i) same (record { end = r.0; stands = record { code = r.1.0; operands = r.1.1 } }))
      by_tree (Then (Run kind low high u) rest) r e = by_low (nat_lt 0 low) refl e
        where
          by_low : (b : Bool) → nat_lt 0 low ≡ b → cond b (Some u) None ≡ Some test
              → IsTestAt ws i test ⊎ RunOf ws i test
          by_low false y e = absurd (cc e)
          by_low true y e =
              let same : u ≡ test = cc e in
              inr (record {
                kind = kind;
                there = r.1.0;
                low = low;
                least = r.1.1.1;
                some = grind (arith, nat_tests);
                inside =
                    subst (IsTestAt ws (i + 4)) same
                    (record { end = r.0 - 1; stands = record { code = r.1.1.4; operands = r.1.1.5 } });
              })
      by_tree (Then (Mark n) rest) r e = absurd (true≢false (past.other opcode.MARK r.1.0))
      by_tree (Then (At a) rest) r e = absurd (true≢false (past.other opcode.AT r.1.0))
      by_tree (Then item rest) r e = absurd (cc e)

  -- a test is there, or a repeat, or neither
  pub found_here : (o : SreOpcode) → Opcode ws i o → begins_test o ≡ true → IsTestAt ws i test
  found_here o w is = elim own_test [
    | (inl here) ↦ here
    | (inr run) ↦ let same : o ≡ run_opcode run.kind = same_opcode ws i o (run_opcode run.kind) w run.there in
        absurd (true≢false (sym is ∙ ap begins_test same ∙ ap is_test_role (run_role run.kind)))
  ]

  no_run : {kind : RunKind} → HasRole ws i (ToRun kind) → IsTestAt ws i test → ⊥
  no_run {kind} h here =
      let same : h.code ≡ test_opcode test = same_opcode ws i h.code (test_opcode test) h.there here.stands.code in
      let never : ToRun kind ≡ ToTest (test_kind test) = sym h.begins ∙ ap role same ∙ test_role test in
      cc never

  pub found_inside : {kind : RunKind} → HasRole ws i (ToRun kind) → IsTestAt ws (i + 4) test
  found_inside h = elim own_test [
    | (inl here) ↦ absurd (no_run h here)
    | (inr run) ↦ run.inside
  ]

  pub found_some : {kind : RunKind} (low : ℕ) → HasRole ws i (ToRun kind) → Word ws (i + 2) low → low ≤ 0 → ⊥
  found_some low h least none = elim own_test [
    | (inl here) ↦ no_run h here
    | (inr run) ↦ absurd (omega (arith, none, run.some, same_word ws (i + 2) run.low low run.least least))
  ]

  pub found_known : (v : ℕ) → Word ws i v → 43 ≤ v → ⊥
  found_known v w high = elim own_test [
    | (inl here) ↦ no_opcode ws i v w high (test_opcode test) here.stands.code
    | (inr run) ↦ no_opcode ws i v w high (run_opcode run.kind) run.there
  ]

  pub found_either : (o : SreOpcode) → Opcode ws i o → begins_test o ≡ false → (o ≡ opcode.REPEAT_ONE → ⊥)
      → (o ≡ opcode.MIN_REPEAT_ONE → ⊥) → (o ≡ opcode.POSSESSIVE_REPEAT_ONE → ⊥) → ⊥
  found_either o w other greedy lazy possessive = elim own_test [
    | (inl here) ↦ let same : o ≡ test_opcode test = same_opcode ws i o (test_opcode test) w here.stands.code in
        true≢false (sym (ap begins_test same ∙ ap is_test_role (test_role test)) ∙ other)
    | (inr run) ↦ by_kind run.kind run.there
  ]
    where
      by_kind : (kind : RunKind) → Opcode ws i (run_opcode kind) → ⊥
      by_kind GreedyRun there = greedy (same_opcode ws i o opcode.REPEAT_ONE w there)
      by_kind LazyRun there = lazy (same_opcode ws i o opcode.MIN_REPEAT_ONE w there)
      by_kind PossessiveRun there = possessive (same_opcode ws i o opcode.POSSESSIVE_REPEAT_ONE w there)

-- Of the whole

pub wants_first : (ws : List ℕ) (i : ℕ) (f : First) → LeadsToTest ws 0 i f.back → LeadsToCode ws 0 i f.back f.at
    → IsPast ws i
    → ((t : Tree) (test : Test) → TreeStands ws i t → first_test t ≡ Some test → IsPast ws i → Wants ws f.wanted test)
    → WantsFirst ws f
wants_first ws i f tests codes past wants = record {
  test = λ t whole test e.
      let a = tests.ahead t (whole_stands ws t whole) test e in
      (a.near, wants a.tree test a.stands a.holds past);
  code = λ t whole code e. elim (codes.ahead t (whole_stands ws t whole) code e) [
    | (inl read) ↦ read
    | (inr a) ↦ absurd (no_code ws i a.1.tree a.1.stands code a.1.holds past)
  ];
}
