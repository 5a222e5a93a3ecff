-- Where the first code words leave no match path.
use Rattle.sre_model.proofs.Terms.{◌≡◌, ℕ, zero, suc, ◌+◌, ◌-◌, ◌<◌, true, false, List, [], length, nat_lt, nat_le, ◌⊎◌}
use Rattle.sre_model.proofs.Terms.{inl, inr, refl, sym, ap, ◌∙◌, subst, arith, true≢false, cases_lt, nat_tests}
use Rattle.sre_model.proofs.Terms.{at_number, SreOpcode, SreAtCode, Tree, Empty, Then, Item, Test, Trees, Only, Or}
use Rattle.sre_model.proofs.Terms.{RunKind, GreedyRun, LazyRun, PossessiveRun, Positive, Marks, set_mark, Subject}
use Rattle.sre_model.proofs.Terms.{passes, holds_at, Word, Opcode, skip, until_opcode, Reads, ReadsBranch, Operands}
use Rattle.sre_model.proofs.Terms.{ReadsItem, WholeItems, Role, role, TestKind, begins_test, Way, Body, first}
use Rattle.sre_model.proofs.Terms.{most_from, longest_run, run_ways, within, least, ways, item_ways, HasTest, is_end}
use Rattle.sre_model.proofs.Terms.{TreeStands}
use Rattle.sre_model.specs.Tree.{One, At, Mark, Branch, Loop, Run, PossessiveLoop, Atomic, Look}
use Rattle.sre_model.specs.Roles.{ToTest, ToCheckPosition, ToMark, ToBranch, ToRun, ToRepeat, ToRepeatPossessively}
use Rattle.sre_model.specs.Roles.{ToGroupAtomically, ToLook}
use Rattle.sre_chars.specs.declared.constants.SreOpcode.TheVariants as opcode
use Rattle.sre_model.specs.FirstCharacters.{NoWay, NoneOf, NotPassed, HasTree, HasAlternatives, Leads}
use Rattle.sre_model.proofs.Opcodes.{same_word, same_opcode, same_at, word_within, opcode_within, HasRole, until_role}
use Rattle.sre_model.proofs.Opcodes.{is_branch, is_one, is_at, is_mark, is_loop, is_run, is_possessive, is_atomic}
use Rattle.sre_model.proofs.Opcodes.{is_look, role_here, some_test}
use Rattle.sre_model.proofs.TreeOf.{reads_within}
use Rattle.sre_model.proofs.Longest.{run_none}
use Rattle.sre_model.proofs.LoopCases.{cond-same}

-- Which opcodes begin what is looked at

pub some_test_here : (ws : List ℕ) (i : ℕ) (o : SreOpcode) → Opcode ws i o → begins_test o ≡ true
    → (kind : TestKind) × HasRole ws i (ToTest kind)
some_test_here ws i o w e = let k = some_test o e in (k.0, role_here ws i o (ToTest k.0) w k.1)

-- what follows an item is left, where the item reads nothing
at_passed : (s : Subject) (a : SreAtCode) (rest : Tree) (p : ℕ) → NoWay s rest p → NoWay s (Then (At a) rest) p
at_passed s a rest p w = record { none = λ m. grind (arith, w.none m) }

mark_passed : (s : Subject) (n : ℕ) (rest : Tree) (p : ℕ) → NoWay s rest p → NoWay s (Then (Mark n) rest) p
mark_passed s n rest p w = record { none = λ m. rw (w.none (set_mark m n p)) refl }

-- a run that owes a character
run_barred : (s : Subject) (kind : RunKind) (low high : ℕ) (t : Test) (p : ℕ) (m : Marks) → 0 < low
    → passes s t p ≡ false → run_ways s kind low high t p m ≡ []
run_barred s kind low high t p m l e = by_kind kind
  where
    none : longest_run s t high p ≡ 0
    none = run_none s t (most_from s high p) p e

    by_kind : (k : RunKind) → run_ways s k low high t p m ≡ []
    by_kind GreedyRun = let owed : 0 + 1 - low ≡ 0 = omega (arith, l) in rw (none, owed) refl
    by_kind LazyRun = let owed : 0 + 1 - low ≡ 0 = omega (arith, l) in rw (none, owed) refl
    by_kind PossessiveRun = let owed : nat_le low 0 ≡ false = grind (arith, nat_tests, l) in rw (none, owed) refl

-- a loop that owes a body
least_barred : (s : Subject) (body rest : Body) (low p : ℕ) (m : Marks) → 0 < low → body p m ≡ []
    → least s body rest low p m ≡ []
least_barred s body rest zero p m l e = absurd (omega (arith, l))
least_barred s body rest (suc owed) p m l e = rw e refl

-- alternatives, each of which has no way

pub only_none : (s : Subject) (t : Tree) (p : ℕ) → NoWay s t p → NoneOf s (Only t) p
only_none s t p w = record { none = λ m. w.none m }

pub or_none : (s : Subject) (t : Tree) (ts : Trees) (p : ℕ) → NoWay s t p → NoneOf s ts p → NoneOf s (Or t ts) p
or_none s t ts p w x = record { none = λ m. rw (w.none m, x.none m) refl }

-- Where words leave no way

pub stands_up_to : (ws : List ℕ) (i end : ℕ) (t : Tree) (o : SreOpcode) → Reads ws i end t → Opcode ws end o
    → is_end (role o) ≡ true → TreeStands ws i t
stands_up_to ws i end t o r w e = record { end = end; reads = r; code = o; there = w; ends = e }

pub whole_stands : (ws : List ℕ) (t : Tree) → WholeItems ws t → TreeStands ws 0 t
whole_stands ws t w = stands_up_to ws 0 (length ws - 1) t opcode.SUCCESS w.0 w.1 refl

-- from one place to a further one
leads_on : (ws : List ℕ) (t : Tree) (i k far more back : ℕ) (l : Leads ws t i far) → Leads ws l.tree k more
    → back ≡ far + more → Leads ws t k back
leads_on ws t i k far more back l x sum = record {
  tree = x.tree;
  stands = x.stands;
  near = λ s p less. elim (cases_lt p far) [
    | (inl near) ↦ l.near s p near
    | (inr past) ↦ l.leads s p (x.near s (p - far) (omega (arith, sum, less, past)))
  ];
  leads = λ s p w.
      let there : p - back ≡ p - far - more = omega (arith, sum) in
      l.leads s p (x.leads s (p - far) (subst (λ q. NoWay s x.tree q) there w));
}

-- a tree at a place, by the opcode there
module _ (ws : List ℕ) (t : Tree) (i : ℕ) (x : TreeStands ws i t) where
  stands_within : i < length ws
  stands_within = omega (arith, reads_within t ws i x.end x.reads, opcode_within ws x.end x.code x.there)

  -- the item with which the tree begins
  pub record Begins : Type 0 where
    pub item : Item
    pub rest : Tree
    pub after : ℕ
    pub here : ReadsItem ws i after item
    pub reads : Reads ws after x.end rest
    pub same : t ≡ Then item rest

  -- a tree whose first opcode ends none begins with an item
  pub begins : (k : Role) → is_end k ≡ false → HasRole ws i k → Begins
  begins k other h = by_tree t x.reads refl
    where
      by_tree : (u : Tree) → Reads ws i x.end u → t ≡ u → Begins
      by_tree Empty e is =
          let there : Opcode ws i x.code = subst (λ j. Opcode ws j x.code) (sym e) x.there in
          let same : h.code ≡ x.code = same_opcode ws i h.code x.code h.there there in
          absurd (true≢false (sym x.ends ∙ ap is_end (sym (ap role same) ∙ h.begins) ∙ other))
      by_tree (Then item rest) r is =
          record { item = item; rest = rest; after = r.0; here = r.1; reads = r.2; same = is }

  -- and what its role tells of it
  pub known : (k : Role) → is_end k ≡ false → HasRole ws i k → {P : ℕ → Item → Type 0}
      → ((j : ℕ) (y : Item) → HasRole ws i k → ReadsItem ws i j y → P j y) → (b : Begins) × P b.after b.item
  known k other h tells = let b : Begins = begins k other h in (b, tells b.after b.item h b.here)

  -- where that item is another form of it
  none_as : (b : Begins) (item : Item) (s : Subject) (p : ℕ) → b.item ≡ item → NoWay s (Then item b.rest) p
      → NoWay s t p
  none_as b item s p same w =
      subst (λ u. NoWay s u p) (sym (b.same ∙ ap (λ y. Then y b.rest) same)) w

  -- and has no way itself
  barred : (b : Begins) (item : Item) (s : Subject) (p : ℕ) → b.item ≡ item
      → ((m : Marks) → item_ways s item p m ≡ []) → NoWay s t p
  barred b item s p same e = none_as b item s p same (record { none = λ m. rw (e m) refl })

  -- on behind it, or inside
  leads_to : (k back : ℕ) (u : Tree) → TreeStands ws k u → ((s : Subject) (p : ℕ) → p < back → NoWay s t p)
      → ((s : Subject) (p : ℕ) → NoWay s u (p - back) → NoWay s t p) → Leads ws t k back
  leads_to k back u y near leads = record { tree = u; stands = y; near = near; leads = leads }

  leads_inside : (k : ℕ) (u : Tree) → TreeStands ws k u → ((s : Subject) (p : ℕ) → NoWay s u p → NoWay s t p)
      → Leads ws t k 0
  leads_inside k u y none =
      leads_to k 0 u y (λ s p l. absurd (omega (arith, l)))
      (λ s p w. let here : p - 0 ≡ p = omega arith in none s p (subst (λ q. NoWay s u q) here w))

  leads_behind : (b : Begins) (k : ℕ) → b.after ≡ k → ((s : Subject) (p : ℕ) → NoWay s b.rest p → NoWay s t p)
      → Leads ws t k 0
  leads_behind b k e none =
      leads_inside k b.rest
      (stands_up_to ws k x.end b.rest x.code (subst (λ n. Reads ws n x.end b.rest) e b.reads) x.there x.ends) none

  -- a test
  pub test_there : {kind : TestKind} → HasRole ws i (ToTest kind) → HasTest ws i
  test_there {kind} h =
      let f = known (ToTest kind) refl h (is_one ws i) in
      record { end = f.0.after; test = f.1.0; stands = record { code = f.1.2.0; operands = f.1.2.1 } }

  pub test_bars : {kind : TestKind} → HasRole ws i (ToTest kind) → (s : Subject) (p : ℕ) → NotPassed ws s i p
      → NoWay s t p
  test_bars {kind} h s p fails =
      let f = known (ToTest kind) refl h (is_one ws i) in
      let none : passes s f.1.0 p ≡ false =
      fails.each f.0.after f.1.0 (record { code = f.1.2.0; operands = f.1.2.1 }) in
      barred f.0 (One f.1.0) s p f.1.1 (λ m. rw none refl)

  -- a run of a test that owes a character
  pub run_operand : {kind : RunKind} → HasRole ws i (ToRun kind) → i + 2 < length ws
  run_operand {kind} h =
      let f = known (ToRun kind) refl h (is_run ws i) in
      word_within ws (i + 2) f.1.0 f.1.4.1.1

  pub run_there : {kind : RunKind} → HasRole ws i (ToRun kind) → HasTest ws (i + 4)
  run_there {kind} h =
      let f = known (ToRun kind) refl h (is_run ws i) in
      let operands = f.1.4.1 in
      record { end = f.0.after - 1; test = f.1.2; stands = record { code = operands.4; operands = operands.5 } }

  pub run_bars : {kind : RunKind} (low : ℕ) → HasRole ws i (ToRun kind) → Word ws (i + 2) low → 0 < low
      → (s : Subject) (p : ℕ) → NotPassed ws s (i + 4) p → NoWay s t p
  run_bars {kind} low h w owed s p fails =
      let f = known (ToRun kind) refl h (is_run ws i) in
      let operands = f.1.4.1 in
      let same : f.1.0 ≡ low = same_word ws (i + 2) f.1.0 low operands.1 w in
      barred f.0 (Run kind f.1.0 f.1.1 f.1.2) s p f.1.3
      (λ m. run_barred s kind f.1.0 f.1.1 f.1.2 p m (omega (arith, same, owed))
      (fails.each (f.0.after - 1) f.1.2 (record { code = operands.4; operands = operands.5 })))

  -- BRANCH: its alternatives
  pub branch_there : HasRole ws i ToBranch → HasAlternatives ws (i + 1)
  branch_there h =
      let f = known ToBranch refl h (is_branch ws i) in
      record { end = f.0.after; trees = f.1.0; reads = f.1.2.1 }

  pub branch_bars : HasRole ws i ToBranch → (s : Subject) (p : ℕ)
      → ((j : ℕ) (ts : Trees) → ReadsBranch ws (i + 1) j ts → NoneOf s ts p) → NoWay s t p
  branch_bars h s p each =
      let f = known ToBranch refl h (is_branch ws i) in
      barred f.0 (Branch f.1.0) s p f.1.1 (λ m. (each f.0.after f.1.0 f.1.2.1).none m)

  -- AT: where its code does not hold, and on behind it
  pub at_operand : HasRole ws i ToCheckPosition → i + 1 < length ws
  at_operand h =
      let f = known ToCheckPosition refl h (is_at ws i) in
      word_within ws (i + 1) (at_number f.1.0) f.1.2.1.0

  at_bars : (a : SreAtCode) → HasRole ws i ToCheckPosition → Word ws (i + 1) (at_number a) → (s : Subject) (p : ℕ)
      → holds_at s a p ≡ false → NoWay s t p
  at_bars a h w s p fails =
      let f = known ToCheckPosition refl h (is_at ws i) in
      let same : f.1.0 ≡ a = same_at ws (i + 1) f.1.0 a f.1.2.1.0 w in
      barred f.0 (At a) s p (f.1.1 ∙ ap At same) (λ m. rw fails refl)

  pub at_leads : HasRole ws i ToCheckPosition → Leads ws t (i + 2) 0
  at_leads h =
      let f = known ToCheckPosition refl h (is_at ws i) in
      leads_behind f.0 (i + 2) f.1.2.1.1 (λ s p w. none_as f.0 (At f.1.0) s p f.1.1 (at_passed s f.1.0 f.0.rest p w))

  -- MARK: on behind it
  pub mark_leads : HasRole ws i ToMark → Leads ws t (i + 2) 0
  mark_leads h =
      let f = known ToMark refl h (is_mark ws i) in
      leads_behind f.0 (i + 2) f.1.2.1.1
      (λ s p w. none_as f.0 (Mark f.1.0) s p f.1.1 (mark_passed s f.1.0 f.0.rest p w))

  -- ATOMIC_GROUP: on inside
  pub atomic_leads : HasRole ws i ToGroupAtomically → Leads ws t (i + 2) 0
  atomic_leads h =
      let f = known ToGroupAtomically refl h (is_atomic ws i) in
      leads_inside (i + 2) f.1.0 (stands_up_to ws (i + 2) (f.0.after - 1) f.1.0 opcode.SUCCESS f.1.2.1.1 f.1.2.1.2 refl)
      (λ s p w. barred f.0 (Atomic f.1.0) s p f.1.1 (λ m. rw (w.none m) refl))

  -- loops that owe a body: on inside
  record Repeats : Type 0 where
    pub low : ℕ
    pub body : Tree
    pub there : Word ws (i + 2) low
    pub stands : TreeStands ws (i + 4) body
    pub none : (s : Subject) (p : ℕ) → 0 < low → NoWay s body p → NoWay s t p

  repeats : HasRole ws i ToRepeat ⊎ HasRole ws i ToRepeatPossessively → Repeats
  repeats (inl h) =
      let f = known ToRepeat refl h (is_loop ws i) in
      record {
        low = f.1.1;
        body = f.1.3;
        there = f.1.5.1.0;
        stands = stands_up_to ws (i + 4) (skip ws (i + 1)) f.1.3 (until_opcode f.1.0) f.1.5.1.3 f.1.5.1.4
            (ap is_end (until_role f.1.0));
        none = λ s p l v. barred f.0 (Loop f.1.0 f.1.1 f.1.2 f.1.3) s p f.1.4
            (λ m. least_barred s (ways s f.1.3) _ f.1.1 p m l (v.none m));
      }
  repeats (inr h) =
      let f = known ToRepeatPossessively refl h (is_possessive ws i) in
      record {
        low = f.1.0;
        body = f.1.2;
        there = f.1.4.1.0;
        stands = stands_up_to ws (i + 4) (skip ws (i + 1)) f.1.2 opcode.SUCCESS f.1.4.1.3 f.1.4.1.4 refl;
        none = λ s p l v. barred f.0 (PossessiveLoop f.1.0 f.1.1 f.1.2) s p f.1.3
            (λ m. least_barred s (λ q k. first (within s q (ways s f.1.2 q k))) _ f.1.0 p m l (rw (v.none m) refl));
      }

  pub body_operand : HasRole ws i ToRepeat ⊎ HasRole ws i ToRepeatPossessively → i + 2 < length ws
  body_operand h = let is : Repeats = repeats h in word_within ws (i + 2) is.low is.there

  pub body_leads : (low : ℕ) → HasRole ws i ToRepeat ⊎ HasRole ws i ToRepeatPossessively → Word ws (i + 2) low → 0 < low
      → Leads ws t (i + 4) 0
  body_leads low h w owed =
      let is : Repeats = repeats h in
      let same : is.low ≡ low = same_word ws (i + 2) is.low low is.there w in
      leads_inside (i + 4) is.body is.stands (λ s p v. is.none s p (omega (arith, same, owed)) v)

  -- a positive look: on inside, further back
  positive_look : Opcode ws i opcode.ASSERT
      → (b : Begins) × (back : ℕ) × (body : Tree) × (b.item ≡ Look Positive back body)
      × Operands ws i b.after (Look Positive back body)
  positive_look w =
      let h : HasRole ws i (ToLook Positive) = role_here ws i opcode.ASSERT (ToLook Positive) w refl in
      let f = known (ToLook Positive) refl h (is_look ws i) in
      (f.0, f.1.0, f.1.1, f.1.2, f.1.3.1)

  pub look_operand : Opcode ws i opcode.ASSERT → i + 2 < length ws
  look_operand w = let is = positive_look w in word_within ws (i + 2) is.1 is.4.1

  pub look_leads : (back : ℕ) → Opcode ws i opcode.ASSERT → Word ws (i + 2) back → Leads ws t (i + 3) back
  look_leads back w there =
      let is = positive_look w in
      let b = is.0 in
      let same : is.1 ≡ back = same_word ws (i + 2) is.1 back is.4.1 there in
      let is_item : b.item ≡ Look Positive back is.2 = is.3 ∙ ap (λ n. Look Positive n is.2) same in
      leads_to (i + 3) back is.2
      (stands_up_to ws (i + 3) (b.after - 1) is.2 opcode.SUCCESS is.4.2 is.4.3 refl)
      (λ s p less. let near : nat_lt p back ≡ true = grind (arith, nat_tests) in
      barred b (Look Positive back is.2) s p is_item (λ m. rw near refl))
      (λ s p v. barred b (Look Positive back is.2) s p is_item
      (λ m. rw (v.none m) (cond-same {X = List Way} (nat_lt p back) [])))

pub leads_start : (ws : List ℕ) (t : Tree) (i : ℕ) → TreeStands ws i t → Leads ws t i 0
leads_start ws t i x = leads_inside ws t i x i t x (λ s p w. w)

-- The place that the words of a start lead to
module _ (ws : List ℕ) (start i far : ℕ) (l : (t : Tree) → TreeStands ws start t → Leads ws t i far) where
  pub leads_tree : HasTree ws start → HasTree ws i
  leads_tree x = let at = l x.tree x.stands in record { tree = at.tree; stands = at.stands }

  pub leads_further : (k more back : ℕ) → ((t : Tree) → TreeStands ws i t → Leads ws t k more) → back ≡ far + more
      → (t : Tree) → TreeStands ws start t → Leads ws t k back
  leads_further k more back on sum t x =
      let at = l t x in leads_on ws t i k far more back at (on at.tree at.stands) sum

  -- a position code there, where nothing is looked back
  pub at_bars_there : (a : SreAtCode) → far ≡ 0 → HasRole ws i ToCheckPosition → Word ws (i + 1) (at_number a)
      → (t : Tree)
      → TreeStands ws start t → (s : Subject) (p : ℕ) → holds_at s a p ≡ false → NoWay s t p
  at_bars_there a none h w t x s p fails =
      let at = l t x in
      let here : p - far ≡ p = omega (arith, none) in
      at.leads s p
      (at_bars ws at.tree i at.stands a h w s (p - far) (subst (λ q. holds_at s a q ≡ false) (sym here) fails))

pub tree_within : (ws : List ℕ) (i : ℕ) → HasTree ws i → i < length ws
tree_within ws i x = stands_within ws x.tree i x.stands
