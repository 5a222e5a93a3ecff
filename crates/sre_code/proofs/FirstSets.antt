-- What is computed of the first items of trees, by the code words there.
use Rattle.sre_code.proofs.Terms.{ℕ, ◌+◌, ◌-◌, ◌/◌, ◌%◌, ◌≡◌, ◌≢◌, ◌<◌, ◌≤◌, ◌⊎◌, inl, inr, ⊎_elim, Bool, true, false}
use Rattle.sre_code.proofs.Terms.{List, length, slice_range, refl, sym, ◌∙◌, ap, subst, arith, Decides, opcode_number}
use Rattle.sre_code.proofs.Terms.{Table, SreOpcode, Tree, Empty, Then, Item, Trees, Only, Or, Plain, SetItem, role}
use Rattle.sre_code.proofs.Terms.{is_end, is_member, Word, word, skip, Opcode, Reads, ReadsItem, ReadsBranch, ReadsSet}
use Rattle.sre_code.proofs.Terms.{WholeItems, item_opcode, SetStands, HasSet, behind_marks, HasFirstSet, has_flag}
use Rattle.sre_code.proofs.Terms.{word_at, word_of, word_within, same_opcode, opcode_moved, opcode_within, set_within}
use Rattle.sre_code.proofs.Terms.{alternative_long, role_here, HasBlock, NoCode, IsSet, NoSet, Ends, MarksPassed}
use Rattle.sre_code.proofs.Terms.{AreWords, word_moved, Tells, TellsEach}
use Rattle.sre_model.specs.Tree.{One, Branch, Literal, In}
use Rattle.sre_model.specs.Roles.{ToBranch}
use Rattle.sre_model.proofs.Opcodes.{is_branch}
use Rattle.sre_model.specs.Claims.{TestIn, EachTestIn, FirstIn}
use Rattle.sre_model.proofs.SetWords.{same_words_set, same_set_words}
use Rattle.sre_code.proofs.Claimed.{literal_tree, not_at_end, flag_set, flag_clear, by_one}
use Rattle.sre_chars.specs.declared.constants.SreOpcode.TheVariants as opcode

-- nothing holds
refuted : {P : Type 0} → (P → ⊥) → Decides false P
refuted f = (λ e. absurd (cc), λ p. absurd (f p))

untrue : false ≡ true → ⊥
untrue e = cc

-- behind marks
pub passed_told : (ws : List ℕ) (i p : ℕ) (told : Bool) (P : Tree → Type 0) → MarksPassed ws i p → Tells ws p told P
    → Tells ws i told (λ t. P (behind_marks t))
passed_told ws i p told P m x =
    record { each = λ end t o r w e. x.each end (behind_marks t) o (m.each end t o r w e) w e }

-- A test

module _ (ws : List ℕ) (i : ℕ) (table : Table) (set : List SetItem) where
  pub literal_told : (v : ℕ) (told : Bool) → Opcode ws i opcode.LITERAL → i + 1 < length ws → v ≡ word ws (i + 1)
      → told ≡ is_member table set v → Tells ws i told (TestIn table set)
  literal_told v told w lt e m = record {
    each = λ end t o r x h.
        let f = literal_tree ws i end v o t x h (w, word_at ws (i + 1) v lt (sym e)) r in
        subst (λ u. Decides told (TestIn table set u)) (sym f.1) (λ y. sym m ∙ y, λ y. m ∙ y);
  }

  -- where neither a LITERAL nor an IN has its operand
  no_test : (Opcode ws i opcode.LITERAL → i + 1 < length ws → ⊥) → (Opcode ws i opcode.IN → i + 1 < length ws → ⊥)
      → Tells ws i false (TestIn table set)
  no_test literal set_test = record { each = λ end t o r x h. go end t r }
    where
      go : (end : ℕ) (t : Tree) → Reads ws i end t → Decides false (TestIn table set t)
      go end Empty r = refuted (λ p. p)
      go end (Then (One (Literal Plain v)) rest) r = absurd (literal r.1.0 (word_within ws (i + 1) v r.1.1.0))
      go end (Then (One (In Plain items)) rest) r =
          let far : i + 2 ≤ r.0 - 1 = set_within ws (i + 2) (r.0 - 1) items r.1.1.1 in
          absurd (set_test r.1.0 (omega (arith, far, opcode_within ws (r.0 - 1) opcode.FAILURE r.1.1.2)))
      go end (Then x rest) r = refuted (λ p. p)

  pub code_refused : NoCode opcode_number ws i → Tells ws i false (TestIn table set)
  code_refused none = no_test (λ w lt. none.none opcode.LITERAL w) (λ w lt. none.none opcode.IN w)

  pub operand_refused : length ws ≤ i + 1 → Tells ws i false (TestIn table set)
  operand_refused le = no_test (λ w lt. omega arith) (λ w lt. omega arith)

  pub other_refused : (c : SreOpcode) → Opcode ws i c → c ≢ opcode.LITERAL → c ≢ opcode.IN
      → Tells ws i false (TestIn table set)
  other_refused c w literal set_test =
      no_test (λ v lt. literal (same_opcode ws i c opcode.LITERAL w v))
      (λ v lt. set_test (same_opcode ws i c opcode.IN w v))

-- an item that is an IN
set_first : (ws : List ℕ) (i k : ℕ) (x : Item) → opcode.IN ≡ item_opcode x → ReadsItem ws i k x
    → (items : List SetItem) × (x ≡ One (In Plain items)) × (k ≡ skip ws (i + 1)) × SetStands ws (i + 2) (k - 1) items
set_first ws i k (One (In Plain items)) e r = (items, refl, r.1.0, record { items = r.1.1; ends = r.1.2 })
set_first ws i k x e r = grind arith

pub set_told : (ws items : List ℕ) (n i v : ℕ) (table : Table) (set : List SetItem) (told : Bool) → AreWords ws
    → AreWords items → 5 ≤ n → n ≤ length ws → Opcode items i opcode.IN → v ≡ word items (i + 1)
    → (told ≡ true → (i + 2 ≤ i + 1 + v) × (i + 1 + v ≤ length items)
    × (slice_range items (i + 2) (i + 1 + v) ≡ slice_range ws 5 n))
    → ((i + 2 ≤ i + 1 + v) × (i + 1 + v ≤ length items)
    × (slice_range items (i + 2) (i + 1 + v) ≡ slice_range ws 5 n) → told ≡ true)
    → SetStands ws 5 (n - 1) set → Tells items i told (TestIn table set)
set_told ws items n i v table set told aw ai lo hi w e to from s = record { each = λ end t o r x h. go end t o x h r }
  where
    go : (end : ℕ) (t : Tree) (o : SreOpcode) → Opcode items end o → is_end (role o) ≡ true → Reads items i end t
        → Decides told (TestIn table set t)
    go end Empty o x h r =
        let at : is_end (role opcode.IN) ≡ true =
        not_at_end items end o opcode.IN x h (opcode_moved items i end opcode.IN r w) in
        absurd (cc)
    go end (Then y rest) o x h r =
        let f = set_first items i r.0 y (same_opcode items i opcode.IN (item_opcode y) w r.1.0) r.1 in
        let far : i + 2 ≤ r.0 - 1 = set_within items (i + 2) (r.0 - 1) f.0 f.3.items in
        let long : 5 ≤ n - 1 = set_within ws 5 (n - 1) set s.items in
        let there : r.0 - 1 < length items = opcode_within items (r.0 - 1) opcode.FAILURE f.3.ends in
        let tail : r.0 - 1 + 1 ≡ i + 1 + v = omega (arith, f.2) in
        let end_ : n - 1 + 1 ≡ n = omega arith in
        let cut : slice_range items (i + 2) (r.0 - 1 + 1) ≡ slice_range items (i + 2) (i + 1 + v) =
        ap (λ k. slice_range items (i + 2) k) tail in
        let block : slice_range ws 5 (n - 1 + 1) ≡ slice_range ws 5 n = ap (λ k. slice_range ws 5 k) end_ in
        let both : Decides told (f.0 ≡ set) = (
          λ t.
              same_words_set items ws (i + 2) (r.0 - 1) 5 (n - 1) f.0 set f.3 s (cut ∙ (to t).2 ∙ sym block),
          λ same. from (
            omega arith,
            omega arith,
            sym cut ∙ same_set_words items ws (i + 2) (r.0 - 1) 5 (n - 1) f.0 set f.3 s ai aw same ∙ block,
          ),
        ) in
        subst (λ z. Decides told (TestIn table set (Then z rest))) (sym f.1) both

-- what `is_test_in` answers
pub ruleset test_laws = (literal_told, code_refused, operand_refused, other_refused, set_told)

-- Alternatives

-- of the alternatives some are left from a length word on, of which the same is asked; or all were told, and 0 is there
abbrev Left : List ℕ → ℕ → ℕ → Table → List SetItem → Trees → Type 0
Left ws place end table set ts =
    (rest : Trees) × ReadsBranch ws place end rest × (EachTestIn table set rest → EachTestIn table set ts)
    × (EachTestIn table set ts → EachTestIn table set rest)

abbrev Told : List ℕ → ℕ → Table → List SetItem → Trees → Type 0
Told ws place table set ts = EachTestIn table set ts × Word ws place 0

pub record AlternativesLeft (ws : List ℕ) (start place : ℕ) (table : Table) (set : List SetItem) : Type 0 where
  pub each : (end : ℕ) (ts : Trees) → ReadsBranch ws start end ts
      → Left ws place end table set ts ⊎ Told ws place table set ts

module _ (ws : List ℕ) (start : ℕ) (table : Table) (set : List SetItem) where
  pub alternatives_start : AlternativesLeft ws start start table set
  alternatives_start = record { each = λ end ts r. inl (ts, r, λ x. x, λ x. x) }

  there : (place end : ℕ) (ts : Trees) → ReadsBranch ws place end ts → place < length ws
  there place end (Only t) r =
      omega (arith, alternative_long ws place end (Only t) r, opcode_within ws (skip ws place - 2) opcode.JUMP r.1.0)
  there place end (Or t ts) r =
      omega (arith, alternative_long ws place end (Or t ts) r, opcode_within ws (skip ws place - 2) opcode.JUMP r.1.0)

  pub alternatives_cut : (place : ℕ) → AlternativesLeft ws start place table set → length ws ≤ place
      → TellsEach ws start false (EachTestIn table set)
  alternatives_cut place l le = record {
    each = λ end ts r. ⊎_elim
        (λ (x : Left ws place end table set ts). absurd (omega (arith, there place end x.0 x.1)))
        (λ (x : Told ws place table set ts). absurd (omega (arith, word_within ws place 0 x.1)))
        (l.each end ts r);
  }

  pub alternatives_end : (place v : ℕ) → AlternativesLeft ws start place table set → v ≡ word ws place → v ≡ 0
      → TellsEach ws start true (EachTestIn table set)
  alternatives_end place v l e z = record {
    each = λ end ts r. ⊎_elim
        (λ (x : Left ws place end table set ts).
        absurd (omega (arith, alternative_long ws place end x.0 x.1)))
        (λ (x : Told ws place table set ts). (λ y. x.0, λ y. refl))
        (l.each end ts r);
  }

  not_last : (place v : ℕ) → Word ws place 0 → v ≡ word ws place → v ≢ 0 → ⊥
  not_last place v w e ne = ne (e ∙ word_of ws place 0 w)

  pub alternatives_stop : (place v : ℕ) → AlternativesLeft ws start place table set → v ≡ word ws place → v ≢ 0
      → Tells ws (place + 1) false (λ t. TestIn table set (behind_marks t))
      → TellsEach ws start false (EachTestIn table set)
  alternatives_stop place v l e ne x = record {
    each = λ end ts r. ⊎_elim
        (λ (y : Left ws place end table set ts). refuted (λ z. none end y.0 y.1 (y.3 z)))
        (λ (y : Told ws place table set ts). absurd (not_last place v y.1 e ne))
        (l.each end ts r);
  }
    where
      none : (end : ℕ) (rest : Trees) → ReadsBranch ws place end rest → EachTestIn table set rest → ⊥
      none end (Only t) q h = untrue ((x.each (skip ws place - 2) t opcode.JUMP q.0 q.1.0 refl).1 h)
      none end (Or t ts) q h = untrue ((x.each (skip ws place - 2) t opcode.JUMP q.0 q.1.0 refl).1 h.0)

  pub alternatives_more : (place v : ℕ) → AlternativesLeft ws start place table set → v ≡ word ws place → v ≢ 0
      → Tells ws (place + 1) true (λ t. TestIn table set (behind_marks t))
      → AlternativesLeft ws start (place + v) table set
  alternatives_more place v l e ne x = record {
    each = λ end ts r. ⊎_elim
        (λ (y : Left ws place end table set ts). go end ts y.0 y.1 y.2 y.3)
        (λ (y : Told ws place table set ts). absurd (not_last place v y.1 e ne))
        (l.each end ts r);
  }
    where
      at : skip ws place ≡ place + v
      at = ap (λ n. place + n) (sym e)

      go : (end : ℕ) (ts rest : Trees) → ReadsBranch ws place end rest
          → (EachTestIn table set rest → EachTestIn table set ts)
          → (EachTestIn table set ts → EachTestIn table set rest)
          → Left ws (place + v) end table set ts ⊎ Told ws (place + v) table set ts
      go end ts (Only t) q to from =
          inr (
            to ((x.each (skip ws place - 2) t opcode.JUMP q.0 q.1.0 refl).0 refl),
            word_moved ws (skip ws place) (place + v) 0 at q.2,
          )
      go end ts (Or t us) q to from =
          let holds : TestIn table set (behind_marks t) =
          (x.each (skip ws place - 2) t opcode.JUMP q.0 q.1.0 refl).0 refl in
          inl (us, subst (λ k. ReadsBranch ws k end us) at q.2, λ y. to (holds, y), λ y. (from y).1)

-- what `each_begins_in` answers
pub ruleset alternatives_laws =
    (alternatives_start, alternatives_cut, alternatives_end, alternatives_stop, alternatives_more)

-- The first item

module _ (ws : List ℕ) (i : ℕ) (table : Table) (set : List SetItem) where
  pub first_code_refused : NoCode opcode_number ws i → Tells ws i false (FirstIn table set)
  first_code_refused none = record { each = λ end t o r x h. go end t r }
    where
      go : (end : ℕ) (t : Tree) → Reads ws i end t → Decides false (FirstIn table set t)
      go end Empty r = refuted (λ p. p)
      go end (Then x rest) r = absurd (none.none (item_opcode x) r.1.0)

  pub branch_told : (told : Bool) → Opcode ws i opcode.BRANCH → TellsEach ws (i + 1) told (EachTestIn table set)
      → Tells ws i told (FirstIn table set)
  branch_told told w x = record { each = λ end t o r z h. go end t o z h r }
    where
      go : (end : ℕ) (t : Tree) (o : SreOpcode) → Opcode ws end o → is_end (role o) ≡ true → Reads ws i end t
          → Decides told (FirstIn table set t)
      go end Empty o z h r =
          let at : is_end (role opcode.BRANCH) ≡ true =
          not_at_end ws end o opcode.BRANCH z h (opcode_moved ws i end opcode.BRANCH r w) in
          absurd (cc)
      go end (Then y rest) o z h r =
          let f = is_branch ws i r.0 y (role_here ws i opcode.BRANCH ToBranch w refl) r.1 in
          subst (λ u. Decides told (FirstIn table set (Then u rest))) (sym f.1) (x.each r.0 f.0 f.2.1)

  pub other_told : (told : Bool) (c : SreOpcode) → Opcode ws i c → c ≢ opcode.BRANCH
      → Tells ws i told (TestIn table set) → Tells ws i told (FirstIn table set)
  other_told told c w ne x = record { each = λ end t o r z h. go end t r (x.each end t o r z h) }
    where
      go : (end : ℕ) (t : Tree) → Reads ws i end t → Decides told (TestIn table set t)
          → Decides told (FirstIn table set t)
      go end Empty r d = d
      go end (Then (Branch ts) rest) r d = absurd (ne (same_opcode ws i c opcode.BRANCH w r.1.0))
      go end (Then y rest) r d = d

-- what `first_in` answers
pub ruleset first_laws = (first_code_refused, branch_told, other_told)

-- The set of the block

pub set_there : (ws : List ℕ) (n : ℕ) → HasBlock ws n → word ws (n - 1) ≡ 0 → IsSet ws 5 (n - 1) → HasSet ws 5
set_there ws n h zero s = record {
  end = n - 1;
  set = s.set.0;
  stands = record { items = s.set.1; ends = word_at ws (n - 1) 0 (omega (arith, h.within, h.long)) zero };
}

module _ (ws : List ℕ) (table : Table) (t : Tree) where
  pub no_set_with_prefix : (n : ℕ) → HasBlock ws n → word ws 2 % 2 ≡ 1 → Decides false (HasFirstSet ws table t)
  no_set_with_prefix n h e = refuted (λ x.
      let set : has_flag 1 ws ≡ true = flag_set ws n 1 h (omega (arith, by_one (word ws 2))) in
      let clear : has_flag 1 ws ≡ false = x.no_prefix in
      cc)

  pub no_set_flag : word ws 2 / 4 % 2 ≡ 0 → Decides false (HasFirstSet ws table t)
  no_set_flag e = refuted (λ x.
      let clear : has_flag 4 ws ≡ false = flag_clear ws 4 (omega arith) in
      let set : has_flag 4 ws ≡ true = x.flag in
      cc)

  pub no_set_room : (n : ℕ) → HasBlock ws n → n < 6 → Decides false (HasFirstSet ws table t)
  no_set_room n h lt = refuted (λ x. omega (arith, h.skips, set_within ws 5 (skip ws 1 - 1) x.set x.items))

  pub no_set_failure : (n : ℕ) → HasBlock ws n → word ws (n - 1) ≢ 0 → Decides false (HasFirstSet ws table t)
  no_set_failure n h ne = refuted (λ x.
      let at : n - 1 ≡ skip ws 1 - 1 = ap (λ k. k - 1) h.skips in
      ne (ap (word ws) at ∙ word_of ws (skip ws 1 - 1) 0 x.ends))

  pub no_set_items : (n : ℕ) → HasBlock ws n → NoSet ws 5 (n - 1) → Decides false (HasFirstSet ws table t)
  no_set_items n h none = refuted (λ x.
      let at : skip ws 1 - 1 ≡ n - 1 = ap (λ k. k - 1) (sym h.skips) in
      none.none (x.set, subst (λ k. ReadsSet ws 5 k x.set) at x.items))

  pub first_set_told : (items : List ℕ) (n p : ℕ) (told : Bool) → HasBlock ws n → Ends items → word ws 2 % 2 ≢ 1
      → word ws 2 / 4 % 2 ≢ 0 → 6 ≤ n → word ws (n - 1) ≡ 0 → IsSet ws 5 (n - 1) → MarksPassed items 0 p
      → ((set : List SetItem) → SetStands ws 5 (n - 1) set → Tells items p told (FirstIn table set))
      → WholeItems items t → Decides told (HasFirstSet ws table t)
  first_set_told items n p told h ends clear flag long zero s m x whole =
      let failure : Opcode ws (n - 1) opcode.FAILURE = word_at ws (n - 1) 0 (omega (arith, h.within)) zero in
      let at : n - 1 ≡ skip ws 1 - 1 = ap (λ k. k - 1) h.skips in
      let stands : (set : List SetItem) → ReadsSet ws 5 (skip ws 1 - 1) set → SetStands ws 5 (n - 1) set = λ set r.
      record { items = subst (λ k. ReadsSet ws 5 k set) (sym at) r; ends = failure } in
      let first : (set : List SetItem) → SetStands ws 5 (n - 1) set
      → Decides told (FirstIn table set (behind_marks t)) =
      λ set y.
      (x set y).each (length items - 1) (behind_marks t) opcode.SUCCESS
      (m.each (length items - 1) t opcode.SUCCESS whole.0 ends refl) ends refl in (
        λ e. record {
          flag = flag_set ws n 4 h (omega arith);
          no_prefix = flag_clear ws 1 (omega (arith, by_one (word ws 2)));
          set = s.set.0;
          items = subst (λ k. ReadsSet ws 5 k s.set.0) at s.set.1;
          ends = opcode_moved ws (n - 1) (skip ws 1 - 1) opcode.FAILURE at failure;
          first = (first s.set.0 (record { items = s.set.1; ends = failure })).0 e;
        },
        λ y. (first y.set (stands y.set y.items)).1 y.first,
      )

-- what `is_confirmed` answers
pub ruleset set_laws =
    (no_set_with_prefix, no_set_flag, no_set_room, no_set_failure, no_set_items, first_set_told)
