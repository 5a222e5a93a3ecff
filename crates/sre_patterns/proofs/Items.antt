-- What is read at an address, by its opcode: the item has a property if all items of this form have it.
use Rattle.sre_patterns.proofs.Terms.{◌≡◌, ℕ, ◌+◌, ◌-◌, ◌<◌, ◌≤◌, ◌⊎◌, List, length, refl, sym, ap, ◌∙◌, subst, inl}
use Rattle.sre_patterns.proofs.Terms.{inr, arith, ⊎_elim, Option, Some, None, cases_lt, SreOpcode, Tree, Item, Test}
use Rattle.sre_patterns.proofs.Terms.{Order, RunKind, Sign, Word, word, skip, Opcode, Reads, ReadsItem, HasTest}
use Rattle.sre_patterns.proofs.Terms.{TestStands, role_here, Negative, item_opcode, until_opcode, item_same}
use Rattle.sre_patterns.specs.Patterns.{HasItems, AtItem, HasItem, HasRun, HasAtomic, HasLoop}
use Rattle.sre_model.specs.Tree.{Reference, Fold, PossessiveLoop, Look, GreedyRun, LazyRun, PossessiveRun, Positive}
use Rattle.sre_model.specs.Tree.{One, Mark, Loop, Run, Atomic}
use Rattle.sre_model.specs.Roles.{role, ToRun, ToMark, ToRepeat, ToRepeatPossessively, ToLook, ToRefer}
use Rattle.sre_model.proofs.Opcodes.{same_word, opcode_within, word_past, test_here, is_one, is_mark, is_loop, is_run}
use Rattle.sre_model.proofs.Opcodes.{is_possessive, is_look, is_reference}
use Rattle.sre_model.proofs.TreeOf.{reads_within}
use Rattle.sre_chars.specs.declared.constants.SreOpcode.TheVariants as opcode

-- items whose end is known
pub items-to : (ws : List ℕ) (i j e : ℕ) (t : Tree) → Reads ws i j t → j ≡ e → HasItems ws i e
items-to ws i j e t r same = record { stop = j; tree = t; reads = r; stops = (omega arith, inl same) }

-- a word that a sum needs is there
pub word-needed : (ws : List ℕ) (q n : ℕ) → n < word ws q → q < length ws
word-needed ws q n l =
    ⊎_elim (λ there. there) (λ past. absurd (omega (arith, l, word_past ws q past))) (cases_lt q (length ws))

-- a loop, which is possessive where it has no order, and how its body ends
abbrev pub loop_of : Option Order → ℕ → ℕ → Tree → Item
loop_of (Some o) = Loop o
loop_of None = PossessiveLoop

abbrev pub end_of : Option Order → SreOpcode
end_of (Some o) = until_opcode o
end_of None = opcode.SUCCESS

-- such a loop is read at an address
abbrev LoopAt : List ℕ → ℕ → ℕ → Item → Type 0
LoopAt ws i j x =
    (k : Option Order) × (low : ℕ) × (high : ℕ) × (body : Tree) × (x ≡ loop_of k low high body)
    × Word ws (i + 2) low × Word ws (i + 3) high × (low ≤ high) × Reads ws (i + 4) (skip ws (i + 1)) body
    × Opcode ws (skip ws (i + 1)) (end_of k) × (j ≡ skip ws (i + 1) + 1)

loop-at : (ws : List ℕ) (i : ℕ) (h : HasLoop ws i) (j : ℕ) (x : Item) → ReadsItem ws i j x → LoopAt ws i j x
loop-at ws i h j x r = elim h.is [
  | (inl e) ↦
      let f = is_loop ws i j x (role_here ws i (item_opcode h.item) ToRepeat h.reads.0 e) r in
      let o = f.5.1 in (Some f.0, f.1, f.2, f.3, f.4, o.0, o.1, o.2, o.3, o.4, o.5)
  | (inr e) ↦
      let f = is_possessive ws i j x (role_here ws i (item_opcode h.item) ToRepeatPossessively h.reads.0 e) r in
      let o = f.4.1 in (None, f.0, f.1, f.2, f.3, o.0, o.1, o.2, o.3, o.4, o.5)
]

-- what stands in a loop
pub record LoopRead (ws : List ℕ) (i : ℕ) : Type 0 where
  pub body : Tree
  pub reads : Reads ws (i + 4) (skip ws (i + 1)) body

pub loop-read : (ws : List ℕ) (i : ℕ) → HasLoop ws i → LoopRead ws i
loop-read ws i h =
    let f = loop-at ws i h h.end h.item h.reads in record { body = f.3; reads = f.8 }

-- what stands in a part of an item, and that the word which tells where the part ends is there
pub record PartRead (ws : List ℕ) (from to at : ℕ) : Type 0 where
  pub items : HasItems ws from to
  pub within : at < length ws

-- the body of an atomic group
pub atomic-read : (ws : List ℕ) (i : ℕ) → HasAtomic ws i → PartRead ws (i + 2) (skip ws (i + 1) - 1) (i + 1)
atomic-read ws i h =
    let r = h.reads.1 in
    let order = reads_within h.body ws (i + 2) (h.end - 1) r.1 in
    let there = opcode_within ws (h.end - 1) opcode.SUCCESS r.2 in
    record {
      items = items-to ws (i + 2) (h.end - 1) (skip ws (i + 1) - 1) h.body r.1 (ap (λ n. n - 1) r.0);
      within = omega arith;
    }

-- what opcodes that are read alike begin
pub run-kind : (o : SreOpcode)
    → (o ≡ opcode.REPEAT_ONE) ⊎ ((o ≡ opcode.MIN_REPEAT_ONE) ⊎ (o ≡ opcode.POSSESSIVE_REPEAT_ONE))
    → (k : RunKind) × (role o ≡ ToRun k)
run-kind o (inl e) = (GreedyRun, ap role e)
run-kind o (inr (inl e)) = (LazyRun, ap role e)
run-kind o (inr (inr e)) = (PossessiveRun, ap role e)

pub look-sign : (o : SreOpcode) → (o ≡ opcode.ASSERT) ⊎ (o ≡ opcode.ASSERT_NOT) → (s : Sign) × (role o ≡ ToLook s)
look-sign o (inl e) = (Positive, ap role e)
look-sign o (inr e) = (Negative, ap role e)

pub refers : (o : SreOpcode)
    → (o ≡ opcode.GROUPREF)
    ⊎ ((o ≡ opcode.GROUPREF_IGNORE) ⊎ ((o ≡ opcode.GROUPREF_LOC_IGNORE) ⊎ (o ≡ opcode.GROUPREF_UNI_IGNORE)))
    → role o ≡ ToRefer
refers o = ⊎_elim (ap role) (⊎_elim (ap role) (⊎_elim (ap role) (ap role)))

pub has-run : (ws : List ℕ) (i : ℕ) (h : HasItem ws i) (o : SreOpcode) → Opcode ws i o
    → (k : RunKind) → role o ≡ ToRun k → HasRun ws i o
has-run ws i h o w k is =
    let f = is_run ws i h.end h.item (role_here ws i o (ToRun k) w is) h.reads in
    record { end = h.end; kind = k; is = is; low = f.0; high = f.1; test = f.2; reads = f.4 }

module _ (P : Item → Type 0) (ws : List ℕ) (i : ℕ) where
  -- one reading is enough, since there is no other
  pub at-item : (e end : ℕ) (x : Item) → e ≡ end → ReadsItem ws i end x → P x → AtItem ws i e P
  at-item e end x ends r p j y q =
      let same = item_same x y ws i end j r q in
      (ends ∙ same.1, subst P same.0 p)

  pub marks : Opcode ws i opcode.MARK → ((n : ℕ) → P (Mark n)) → AtItem ws i (i + 2) P
  marks o p j x r =
      let f = is_mark ws i j x (role_here ws i opcode.MARK ToMark o refl) r in
      (sym f.2.1.1, subst P (sym f.1) (p f.0))

  -- where a test stands no other item does
  pub one_item : (e : ℕ) → HasTest ws i → ((j : ℕ) (t : Test) → TestStands ws i j t → e ≡ j)
      → ((j : ℕ) (t : Test) → TestStands ws i j t → P (One t)) → AtItem ws i e P
  one_item e h ends p j x r =
      let f = is_one ws i j x (test_here ws i h.test h.stands.code) r in
      let stands : TestStands ws i j f.0 = record { code = f.2.0; operands = f.2.1 } in
      (ends j f.0 stands, subst P (sym f.1) (p j f.0 stands))

  pub looks : (sign : Sign) (o : SreOpcode) (e : ℕ) → Opcode ws i o → role o ≡ ToLook sign → e ≡ skip ws (i + 1)
      → ((back : ℕ) (body : Tree) → P (Look sign back body)) → AtItem ws i e P
  looks sign o e there is ends p j x r =
      let f = is_look ws i j x (role_here ws i o (ToLook sign) there is) r in
      (ends ∙ sym f.3.1.0, subst P (sym f.2) (p f.0 f.1))

  pub references : (o : SreOpcode) → Opcode ws i o → role o ≡ ToRefer → ((f : Fold) (g : ℕ) → P (Reference f g))
      → AtItem ws i (i + 2) P
  references o there is p j x r =
      let f = is_reference ws i j x (role_here ws i o ToRefer there is) r in
      (sym f.3.1.1, subst P (sym f.2) (p f.0 f.1))

  pub atomics : (h : HasAtomic ws i) (e : ℕ) → e ≡ skip ws (i + 1)
      → ((body : Tree) → Reads ws (i + 2) (e - 1) body → P (Atomic body)) → AtItem ws i e P
  atomics h e ends p =
      let o = h.reads.1 in
      let same : e ≡ h.end = ends ∙ sym o.0 in
      at-item e h.end (Atomic h.body) same h.reads
      (p h.body (subst (λ n. Reads ws (i + 2) (n - 1) h.body) (sym same) o.1))

  module _ (low high : ℕ) (wl : Word ws (i + 2) low) (wh : Word ws (i + 3) high) where
    pub runs : (o : SreOpcode) (h : HasRun ws i o) (e : ℕ) → e ≡ skip ws (i + 1)
        → (low ≤ high → (n : ℕ) (t : Test) → TestStands ws (i + 4) n t → P (Run h.kind low high t)) → AtItem ws i e P
    runs o h e ends p =
        let r = h.reads.1 in
        let el : low ≡ h.low = same_word ws (i + 2) low h.low wl r.1 in
        let eh : high ≡ h.high = same_word ws (i + 3) high h.high wh r.2 in
        let stands : TestStands ws (i + 4) (h.end - 1) h.test = record { code = r.4; operands = r.5 } in
        at-item e h.end (Run h.kind h.low h.high h.test) (ends ∙ sym r.0) h.reads
        (rw (← el, ← eh) (p (omega (arith, r.3, el, eh)) (h.end - 1) h.test stands))

    pub loops : (h : HasLoop ws i) (until e : ℕ) → until ≡ skip ws (i + 1) → e ≡ until + 1
        → (low ≤ high → (k : Option Order) (body : Tree) → Reads ws (i + 4) until body → Opcode ws until (end_of k)
        → P (loop_of k low high body)) → AtItem ws i e P
    loops h until e at ends p =
        let f = loop-at ws i h h.end h.item h.reads in
        let el : low ≡ f.1 = same_word ws (i + 2) low f.1 wl f.5 in
        let eh : high ≡ f.2 = same_word ws (i + 3) high f.2 wh f.6 in
        let body = subst (λ n. Reads ws (i + 4) n f.3) (sym at) f.8 in
        let closed = subst (λ n. Opcode ws n (end_of f.0)) (sym at) f.9 in
        at-item e h.end h.item (ends ∙ ap (λ n. n + 1) at ∙ sym f.10) h.reads
        (rw (f.4, ← el, ← eh) (p (omega (arith, f.7, el, eh)) f.0 f.3 body closed))
