-- The ASCII characters with which a tree may begin, also past repeats that need no character, and where a match may
-- begin by them.
use Rattle.sre_engine.proofs.Terms.{◌≢◌, ◌≡◌, ◌+◌, ◌-◌, ◌≤◌, ◌<◌, ℕ, Bool, true, false, ◌&&◌, ◌||◌, nat_lt, nat_le}
use Rattle.sre_engine.proofs.Terms.{List, length, refl, sym, ap, ◌∙◌, subst, arith, nat_tests, AsciiSet, contains, Tree}
use Rattle.sre_engine.proofs.Terms.{Trees, Only, Or, Test, holds, Subject, char_at, passes, Word, word, skip}
use Rattle.sre_engine.proofs.Terms.{ReadsBranch, NoWay, NoneOf, NotPassed, TreeStands, HasTree, HasAlternatives, Leads}
use Rattle.sre_engine.proofs.Terms.{TakesAscii, same_word, word_of, opcode_within, stands_up_to, NotAmong, word_within}
use Rattle.sre_engine.proofs.Terms.{alternative_long, only_none, or_none, [], true≢false, ◌⊎◌, inl, inr, SreOpcode}
use Rattle.sre_engine.proofs.Terms.{Empty, Then, RunKind, GreedyRun, LazyRun, PossessiveRun, Marks, Opcode, role, ways}
use Rattle.sre_engine.proofs.Terms.{longest_run, same_opcode, HasRole, role_here, PassesRun, most_from, is_end, run_has}
use Rattle.sre_engine.proofs.Terms.{is_run, Reads, nat_eq, None, Plain, SetItem, is_member, set_mark, after, words_of}
use Rattle.sre_engine.proofs.Terms.{hints_of, Code, code_tree, code_confirmed, behind_marks, TestIn, EachTestIn}
use Rattle.sre_engine.proofs.Terms.{FirstIn, Option, Some, cases_lt, StringCursor, no_marks, Whole, IsCode, HasSet}
use Rattle.sre_engine.proofs.Terms.{Asked, subject_of, at_start, uni_of, IsFirstSet, is_among, NoneBetween, NoneUntil}
use Rattle.sre_engine.proofs.Terms.{HasFirstSet, NextMember}
use Rattle.sre_model.specs.Roles.{ToRun}
use Rattle.sre_model.specs.Tree.{Run, One, Mark, Branch, Literal, In}
use Rattle.sre_chars.specs.declared.constants.SreOpcode.TheVariants as opcode
use Rattle.sre_engine.proofs.LeadingStarts.{none_joined}

-- The ASCII characters with which a tree may begin.

-- a test that takes the ASCII characters of a set alone does not pass where none of them is, and none past ASCII
among_taken : (s : Subject) (set : AsciiSet) (t : Test) (p : ℕ)
    → ((c : ℕ) → c < 128 → contains set c ≡ holds s.table t c) → NotAmong s set p → passes s t p ≡ false
among_taken s set t p is lacks =
    by_place (nat_lt p s.end) (nat_le 128 (char_at s p)) (holds s.table t (char_at s p)) refl refl refl lacks.none
  where
    by_place : (a b c : Bool) → nat_lt p s.end ≡ a → nat_le 128 (char_at s p) ≡ b → holds s.table t (char_at s p) ≡ c
        → (nat_lt p s.end && (nat_le 128 (char_at s p) || contains set (char_at s p))) ≡ false → passes s t p ≡ false
    by_place false b c e f h lacking = rw e refl
    by_place true b false e f h lacking = rw (e, h) refl
    by_place true true true e f h lacking = let y : true ≡ false = rw (e, f) at lacking in absurd (cc)
    by_place true false true e f h lacking =
        let low : char_at s p < 128 = grind (arith, nat_tests) in
        let there = is (char_at s p) low ∙ h in
        let y : true ≡ false = rw (e, f, there) at lacking in
        absurd (cc)

-- what is not in a union is in neither of the two
pub union_lacks : (s : Subject) (a b set : AsciiSet) (p : ℕ)
    → ((c : ℕ) → contains set c ≡ (contains a c || contains b c)) → NotAmong s set p → NotAmong s a p × NotAmong s b p
union_lacks s a b set p is lacks =
    let both = by_place (nat_lt p s.end) (nat_le 128 (char_at s p)) (contains a (char_at s p))
    (contains b (char_at s p)) (rw (is (char_at s p)) at lacks.none) in
    (record { none = both.0 }, record { none = both.1 })
  where
    by_place : (e f g h : Bool) → (e && (f || (g || h))) ≡ false
        → ((e && (f || g)) ≡ false) × ((e && (f || h)) ≡ false)
    by_place false f g h none = (refl, refl)
    by_place true true g h none = absurd (let never : true ≡ false = none in cc never)
    by_place true false true h none = absurd (let never : true ≡ false = none in cc never)
    by_place true false false h none = (refl, none)

pub taken_bars : (ws : List ℕ) (place : ℕ) (set : AsciiSet) → TakesAscii ws place set → (s : Subject) (p : ℕ)
    → NotAmong s set p → NotPassed ws s place p
taken_bars ws place set is s p lacks = record {
  each = λ j t x. among_taken s set t p (is s.table j t x) lacks;
}

-- a character of ASCII that the set of a test does not have is not taken by it
pub set_lacks : (ws : List ℕ) (place : ℕ) (set : AsciiSet) → TakesAscii ws place set → (s : Subject) (p : ℕ)
    → char_at s p < 128 → contains set (char_at s p) ≡ false → NotPassed ws s place p
set_lacks ws place set is s p low lacks =
    taken_bars ws place set is s p (record { none = by_place (nat_lt p s.end) refl })
  where
    by_place : (b : Bool) → nat_lt p s.end ≡ b
        → (nat_lt p s.end && (nat_le 128 (char_at s p) || contains set (char_at s p))) ≡ false
    by_place false e = rw e refl
    by_place true e =
        let far : nat_le 128 (char_at s p) ≡ false = grind (arith, nat_tests) in
        rw (e, far) lacks

-- alternatives

-- the alternatives that are left from a length word on; where no character of a set is at a position, and they have no
-- way from it, nor have all
pub record Left (ws : List ℕ) (j : ℕ) (ts : Trees) (place : ℕ) (set : AsciiSet) : Type 0 where
  pub trees : Trees
  pub reads : ReadsBranch ws place j trees
  pub none : (s : Subject) (p : ℕ) → NotAmong s set p → NoneOf s trees p → NoneOf s ts p

-- an alternative ends with its JUMP
branch_within : (ws : List ℕ) (q j : ℕ) (ts : Trees) → ReadsBranch ws q j ts → q < length ws
branch_within ws q j (Only t) r =
    let jump = opcode_within ws (skip ws q - 2) opcode.JUMP r.1.0 in
    omega (arith, jump, alternative_long ws q j (Only t) r)
branch_within ws q j (Or t ts) r =
    let jump = opcode_within ws (skip ws q - 2) opcode.JUMP r.1.0 in
    omega (arith, jump, alternative_long ws q j (Or t ts) r)

module _ (ws : List ℕ) (j place : ℕ) where
  alternative_tree : (t : Tree) → Reads ws (place + 1) (skip ws place - 2) t
      → Opcode ws (skip ws place - 2) opcode.JUMP → TreeStands ws (place + 1) t
  alternative_tree t r jump = stands_up_to ws (place + 1) (skip ws place - 2) t opcode.JUMP r jump refl

  first_tree : (ts : Trees) → ReadsBranch ws place j ts → HasTree ws (place + 1)
  first_tree (Only t) r = record { tree = t; stands = alternative_tree t r.0 r.1.0 }
  first_tree (Or t ts) r = record { tree = t; stands = alternative_tree t r.0 r.1.0 }

  next_there : (ts : Trees) → ReadsBranch ws place j ts → skip ws place < length ws
  next_there (Only t) r = word_within ws (skip ws place) 0 r.2
  next_there (Or t ts) r = omega (arith, branch_within ws (skip ws place) j ts r.2)

pub alternatives_tree : (ws : List ℕ) (place : ℕ) → HasAlternatives ws place → HasTree ws (place + 1)
alternatives_tree ws place x = first_tree ws x.end place x.trees x.reads

pub alternatives_next : (ws : List ℕ) (place v : ℕ) → HasAlternatives ws place → Word ws place v
    → (3 ≤ v) × (place + v < length ws)
alternatives_next ws place v x w =
    let is = word_of ws place v w in (
      omega (arith, is, alternative_long ws place x.end x.trees x.reads),
      omega (arith, is, next_there ws x.end place x.trees x.reads),
    )

pub alternatives_within : (ws : List ℕ) (place : ℕ) → HasAlternatives ws place → place < length ws
alternatives_within ws place x = branch_within ws place x.end x.trees x.reads

-- where the test does not pass that takes the first character of a tree that a place leads to, the one there has no way
pub own_bars : (ws : List ℕ) (place i back test : ℕ) (set : AsciiSet)
    → ((t : Tree) → TreeStands ws place t → Leads ws t i back) → back ≡ 0
    → ((t : Tree) → TreeStands ws i t → (s : Subject) (p : ℕ) → NotPassed ws s test p → NoWay s t p)
    → TakesAscii ws test set → (t : Tree) → TreeStands ws place t → (s : Subject) (p : ℕ) → NotAmong s set p
    → NoWay s t p
own_bars ws place i back test set leads none bars is t x s p lacks =
    let l = leads t x in
    let here : p ≡ p - back = omega (arith, none) in
    let there = subst (λ q. NotAmong s set q) here lacks in
    l.leads s p (bars l.tree l.stands s (p - back) (taken_bars ws test set is s (p - back) there))

-- one more alternative
module _ (ws : List ℕ) (j : ℕ) (ts : Trees) (place length_ next after : ℕ) (set own union : AsciiSet)
    (left : Left ws j ts place set) (there : Word ws place length_) (at : next ≡ place + length_)
    (following : Word ws next after)
    (bars : (t : Tree) → TreeStands ws (place + 1) t → (s : Subject) (p : ℕ) → NotAmong s own p → NoWay s t p)
    (is : (c : ℕ) → contains union c ≡ (contains set c || contains own c)) where
  skipped : skip ws place ≡ next
  skipped = omega (arith, at, word_of ws place length_ there)

  pub left_more : after ≢ 0 → Left ws j ts next union
  left_more more = by_trees left.trees left.reads left.none
    where
      by_trees : (us : Trees) → ReadsBranch ws place j us
          → ((s : Subject) (p : ℕ) → NotAmong s set p → NoneOf s us p → NoneOf s ts p) → Left ws j ts next union
      by_trees (Only t) r none =
          let end_ : Word ws next 0 = subst (λ k. Word ws k 0) skipped r.2 in
          absurd (more (same_word ws next after 0 following end_))
      by_trees (Or t us) r none = record {
        trees = us;
        reads = subst (λ k. ReadsBranch ws k j us) skipped r.2;
        none = λ s p lacks rest.
            let two = union_lacks s set own union p is lacks in
            none s p two.0 (or_none s t us p (bars t (alternative_tree ws j place t r.0 r.1.0) s p two.1) rest);
      }

  pub left_done : after ≡ 0 → (s : Subject) (p : ℕ) → NotAmong s union p → NoneOf s ts p
  left_done none_ s p lacks = by_trees left.trees left.reads left.none
    where
      two : NotAmong s set p × NotAmong s own p
      two = union_lacks s set own union p is lacks

      by_trees : (us : Trees) → ReadsBranch ws place j us
          → ((s : Subject) (p : ℕ) → NotAmong s set p → NoneOf s us p → NoneOf s ts p) → NoneOf s ts p
      by_trees (Only t) r none =
          let tree = alternative_tree ws j place t r.0 r.1.0 in
          none s p two.0 (only_none s t p (bars t tree s p two.1))
      by_trees (Or t us) r none =
          let long = alternative_long ws (skip ws place) j us r.2 in
          absurd (omega (arith, long, skipped, none_, word_of ws next after following, ap (word ws) skipped))

pub left_there : (ws : List ℕ) (start place : ℕ) (set : AsciiSet) → HasAlternatives ws start
    → ((j : ℕ) (ts : Trees) → ReadsBranch ws start j ts → Left ws j ts place set) → HasAlternatives ws place
left_there ws start place set x each =
    let left = each x.end x.trees x.reads in record { end = x.end; trees = left.trees; reads = left.reads }

-- Repeats that need no character, where a tree begins with them: it may begin with what follows them, too.

-- a run, by its opcode
pub run_here : (ws : List ℕ) (i : ℕ) (o : SreOpcode) → Opcode ws i o
    → (o ≡ opcode.REPEAT_ONE) ⊎ ((o ≡ opcode.MIN_REPEAT_ONE) ⊎ (o ≡ opcode.POSSESSIVE_REPEAT_ONE))
    → (kind : RunKind) × HasRole ws i (ToRun kind)
run_here ws i o w (inl e) = (GreedyRun, role_here ws i o (ToRun GreedyRun) w (ap role e))
run_here ws i o w (inr (inl e)) = (LazyRun, role_here ws i o (ToRun LazyRun) w (ap role e))
run_here ws i o w (inr (inr e)) = (PossessiveRun, role_here ws i o (ToRun PossessiveRun) w (ap role e))

-- where the test of a run that owes none does not pass, and what is behind it has no way, there is none
optional_none : (s : Subject) (kind : RunKind) (high : ℕ) (t : Test) (rest : Tree) (p : ℕ) → passes s t p ≡ false
    → NoWay s rest p → NoWay s (Then (Run kind 0 high t) rest) p
optional_none s kind high t rest p e w = record { none = λ m. by_kind kind m }
  where
    none : longest_run s t high p ≡ 0
    none =
        run_has s t (most_from s high p) p 0 (omega arith) (λ c k. absurd (omega (arith, k)))
        (λ _. let here : p + 0 ≡ p = omega arith in rw here e)

    here : p + 0 ≡ p
    here = omega arith

    by_kind : (k : RunKind) (m : Marks) → ways s (Then (Run k 0 high t) rest) p m ≡ []
    by_kind GreedyRun m = rw (none, here, w.none m) refl
    by_kind LazyRun m = rw (none, here, w.none m) refl
    by_kind PossessiveRun m = rw (none, here, w.none m) refl

-- so has a tree that begins with such a run
module _ (ws : List ℕ) (i : ℕ) {kind : RunKind} (h : HasRole ws i (ToRun kind)) (w : Word ws (i + 2) 0) where
  pub passes_run : (t : Tree) → TreeStands ws i t → PassesRun ws t (i + 4) (skip ws (i + 1))
  passes_run Empty x =
      let here : Opcode ws i x.code = subst (λ j. Opcode ws j x.code) (sym x.reads) x.there in
      let same : h.code ≡ x.code = same_opcode ws i h.code x.code h.there here in
      absurd (true≢false (sym x.ends ∙ ap is_end (sym (ap role same) ∙ h.begins)))
  passes_run (Then item rest) x =
      let r = x.reads in
      let is = is_run ws i r.0 item h r.1 in
      let operands = is.4.1 in
      let low : is.0 ≡ 0 = same_word ws (i + 2) is.0 0 operands.1 w in
      let item_is : item ≡ Run kind 0 is.1 is.2 = is.3 ∙ ap (λ n. Run kind n is.1 is.2) low in
      record {
        tree = rest;
        stands =
            subst (λ k. TreeStands ws k rest) operands.0 (stands_up_to ws r.0 x.end rest x.code r.2 x.there x.ends);
        none = λ s p fails behind.
            subst (λ x. NoWay s (Then x rest) p) (sym item_is)
            (optional_none s kind is.1 is.2 rest p
            (fails.each (r.0 - 1) is.2 (record { code = operands.4; operands = operands.5 })) behind);
      }

-- a tree at a place; where no character of a set is, and that one has no way, nor has the whole
pub record Beyond (ws : List ℕ) (whole : Tree) (i : ℕ) (set : AsciiSet) : Type 0 where
  pub tree : Tree
  pub stands : TreeStands ws i tree
  pub none : (s : Subject) (p : ℕ) → NotAmong s set p → NoWay s tree p → NoWay s whole p

-- one run more, and at last a test
module _ (ws : List ℕ) (t : Tree) (i : ℕ) (set own union : AsciiSet) (b : Beyond ws t i set)
    (is : (c : ℕ) → contains union c ≡ (contains set c || contains own c)) where
  pub beyond_more : (at test next back : ℕ) → ((u : Tree) → TreeStands ws i u → Leads ws u at back) → back ≡ 0
      → ((v : Tree) → TreeStands ws at v → PassesRun ws v test next) → TakesAscii ws test own → Beyond ws t next union
  beyond_more at test next back leads zero_back passing takes =
      let l = leads b.tree b.stands in
      let x = passing l.tree l.stands in
      record {
        tree = x.tree;
        stands = x.stands;
        none = λ s p lacks w.
            let each = union_lacks s set own union p is lacks in
            let here : p - back ≡ p = omega (arith, zero_back) in
            b.none s p each.0
            (l.leads s p
            (subst (λ q. NoWay s l.tree q) (sym here) (x.none s p (taken_bars ws test own takes s p each.1) w)));
      }

  pub beyond_done : ((u : Tree) → TreeStands ws i u → (s : Subject) (p : ℕ) → NotAmong s own p → NoWay s u p)
      → (s : Subject) (p : ℕ) → NotAmong s union p → NoWay s t p
  beyond_done bars s p lacks =
      let each = union_lacks s set own union p is lacks in
      b.none s p each.0 (bars b.tree b.stands s p each.1)

-- Where the first character is no member of the FIRST set no match begins.

module _ (s : Subject) (set : List SetItem) (p : ℕ) (no : after s (is_member s.table set) p ≡ false) where
  -- behind marks
  marks_none : (t : Tree) → NoWay s (behind_marks t) p → NoWay s t p
  marks_none Empty w = w
  marks_none (Then (Mark n) rest) w =
      let ih = marks_none rest w in record { none = λ m. rw (ih.none (set_mark m n p)) refl }
  marks_none (Then x rest) w = w

  literal_none : (v : ℕ) → is_member s.table set v ≡ true → passes s (Literal Plain v) p ≡ false
  literal_none v member = by_test (nat_lt p s.end) (nat_eq v (char_at s p)) refl no
    where
      by_test : (a b : Bool) → nat_eq v (char_at s p) ≡ b → (a && is_member s.table set (char_at s p)) ≡ false
          → (a && b) ≡ false
      by_test a true y none =
          let same : v ≡ char_at s p = grind (arith, nat_tests) in
          let there : is_member s.table set (char_at s p) ≡ true =
          subst (λ c. is_member s.table set c ≡ true) same member in
          rw there at none
      by_test true false y none = refl
      by_test false false y none = refl

  test_none : (t : Tree) → TestIn s.table set t → NoWay s t p
  test_none (Then (One (Literal Plain v)) rest) is =
      let fails = literal_none v is in record { none = λ m. rw fails refl }
  test_none (Then (One (In Plain items)) rest) is =
      let fails : passes s (In Plain items) p ≡ false =
      subst (λ (own : List SetItem). passes s (In Plain own) p ≡ false) (sym is) no in
      record { none = λ m. rw fails refl }
  test_none t is = absurd is

  each_none : (ts : Trees) → EachTestIn s.table set ts → NoneOf s ts p
  each_none (Only t) is = let w = marks_none t (test_none (behind_marks t) is) in record { none = λ m. w.none m }
  each_none (Or t ts) is =
      let w = marks_none t (test_none (behind_marks t) is.0) in
      let x = each_none ts is.1 in
      record { none = λ m. rw (w.none m, x.none m) refl }

  first_none : (t : Tree) → FirstIn s.table set t → NoWay s t p
  first_none (Then (Branch ts) rest) is = let w = each_none ts is in record { none = λ m. rw (w.none m) refl }
  first_none t is = test_none t is

  pub unmembered : (t : Tree) → FirstIn s.table set (behind_marks t) → NoWay s t p
  unmembered t is = marks_none t (first_none (behind_marks t) is)

-- Where the members of a confirmed FIRST set are, and what a search along them comes to.

module _ (code : Code) (is : (hints_of code).first_set ≡ true) where
  pub first_set : (t : Tree) → Whole (words_of code) t → HasFirstSet (words_of code) (uni_of code) t
  first_set t w = (code_confirmed code t w).first_set.0 is

  tree : IsCode (words_of code)
  tree = code_tree (words_of code) (hints_of code) code.checked

  there : HasFirstSet (words_of code) (uni_of code) tree.0
  there = first_set tree.0 tree.1

  -- a code with a first set has no prefix
  pub no_prefix : (hints_of code).prefix ≡ None
  no_prefix = (code_confirmed code tree.0 tree.1).prefix ∙ (rw there.no_prefix refl)

  pub set_there : HasSet (words_of code) 5
  set_there = record { end = _; set = there.set; stands = record { items = there.items; ends = there.ends } }

  pub some_set : (set : List SetItem) × IsFirstSet (words_of code) set
  some_set = (there.set, (there.items, there.ends))

  -- a start whose character is no member has no match
  pub unmembered_at : (a : Asked) (t : Tree) (p : ℕ) → a.table ≡ uni_of code → Whole (words_of code) t
      → ((set : List SetItem) → IsFirstSet (words_of code) set → is_among a set p ≡ false) → at_start a t p ≡ None
  unmembered_at a t p table w outside =
      let set = first_set t w in
      let first = subst (λ u. HasFirstSet (words_of code) u t) (sym table) set in
      let no_way = unmembered (subject_of a) first.set p (outside first.set (first.items, first.ends)) t first.first in
      let none = no_way.none no_marks in
      rw none refl

  module _ (a : Asked) (t : Tree) (table : a.table ≡ uni_of code) (w : Whole (words_of code) t) where
    -- behind starts that have no match none has one up to the next member, or none in the window
    pub none_until_member : (p q : ℕ) (next : Option StringCursor) → NoneBetween a t p q
        → NextMember a (words_of code) q next → NoneUntil a t p next
    none_until_member p q None before none =
        let no_character : nat_lt a.end a.end ≡ false = grind (arith, nat_tests) in
        none_joined a t p q (a.end + 1) before (λ s more to.
        unmembered_at a t s table w (λ set own. elim (cases_lt s a.end) [
          | (inl inside) ↦ (none set own).each s more inside
          | (inr past) ↦
              let same : a.end ≡ s = omega (arith, past, to) in
              subst (λ q. is_among a set q ≡ false) same
              (ap (λ b. b && is_member a.table set (char_at (subject_of a) a.end)) no_character)
        ]))
    none_until_member p q (Some next) before x =
        none_joined a t p q next.position before (λ s more to.
        unmembered_at a t s table w (λ set own. (x.none set own).each s more to))
