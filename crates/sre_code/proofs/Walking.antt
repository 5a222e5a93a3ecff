-- Instructions one behind the other, and scans over them.
use Rattle.sre_code.proofs.Terms.{ℕ, ◌+◌, ◌≡◌, ◌⊎◌, inl, inr, List, Some, None, refl, sym, ap, ◌∙◌, opcode_number}
use Rattle.sre_code.proofs.Terms.{SreOpcode, Test, Role, role, Opcode, test_opcode, HasRole, same_opcode, test_same}
use Rattle.sre_code.proofs.Terms.{ReadsTest, NoCode, own_words, Behind, NoneBehind, zero, suc, ◌-◌, ◌<◌, ◌≤◌, Option}
use Rattle.sre_code.proofs.Terms.{subst, arith, SreAtCode, Tree, Empty, Then, Item, Trees, Only, Or, Fold, Order}
use Rattle.sre_code.proofs.Terms.{RunKind, Sign, role_here, item_here, Word, skip, until_opcode, Operands, Reads}
use Rattle.sre_code.proofs.Terms.{ReadsItem, ReadsBranch, test_past, reads_within, operands_past, alternative_long}
use Rattle.sre_model.specs.Tree.{Fail, One, At, Mark, Branch, Loop, Run, PossessiveLoop, Atomic, Look, Reference}
use Rattle.sre_model.specs.Tree.{Exists, ExistsElse}
use Rattle.sre_model.specs.Roles.{ToTest, ToCheckGroup, ToCheckPosition, ToMark, ToBranch, ToRun, ToRepeat}
use Rattle.sre_model.specs.Roles.{ToRepeatPossessively, ToGroupAtomically, ToLook, ToRefer, ToFail, ToEnd, ToJump}
use Rattle.sre_model.specs.Roles.{ToLoop}
use Rattle.sre_model.proofs.Opcodes.{test_kind, test_role, until_role}
use Rattle.sre_chars.specs.declared.constants.SreOpcode.TheVariants as opcode

-- The address of the next instruction, by what the instruction before it is.

module _ (ws : List ℕ) where
  -- an instruction with words of its own is no test
  unlike_test : (i : ℕ) (o : SreOpcode) (n : ℕ) (t : Test) → Opcode ws i o → own_words (role o) ≡ Some n
      → Opcode ws i (test_opcode t) → ⊥
  unlike_test i o n t w e there =
      let same = same_opcode ws i (test_opcode t) o there w in
      let none : None ≡ Some n = sym (ap own_words (test_role t)) ∙ ap (λ p. own_words (role p)) same ∙ e in
      cc

  -- what is behind a test
  pub behind_test : (i j k : ℕ) (t : Test) → ReadsTest ws i j t → Behind ws i k → k ≡ j
  behind_test i j k t r b = elim b.one [
    | inl x ↦ sym (test_same t x.0 ws i j k r.0 r.1 x.1.0 x.1.1).1
    | inr x ↦ absurd (unlike_test i x.0 x.1 t x.2 x.3 r.0)
  ]

  -- and behind another instruction, by its opcode and by its role
  behind_own : (i k n : ℕ) (o : SreOpcode) → Opcode ws i o → own_words (role o) ≡ Some n → Behind ws i k → k ≡ i + n
  behind_own i k n o w e b = elim b.one [
    | inl x ↦ absurd (unlike_test i o n x.0 w e x.1.0)
    | inr x ↦
        let counts : Some n ≡ Some x.1 = sym e ∙ ap (λ p. own_words (role p)) (same_opcode ws i o x.0 w x.2) ∙ x.3 in
        let count : x.1 ≡ n = cc in
        x.4 ∙ ap (λ d. i + d) count
  ]

  pub behind_role : (i k n : ℕ) (o : Role) → HasRole ws i o → own_words o ≡ Some n → Behind ws i k → k ≡ i + n
  behind_role i k n o h e b = behind_own i k n h.code h.there (ap own_words h.begins ∙ e) b

  pub role_behind : (i n : ℕ) (o : Role) → HasRole ws i o → own_words o ≡ Some n → Behind ws i (i + n)
  role_behind i n o h e = record { one = inr (h.code, n, h.there, ap own_words h.begins ∙ e, refl) }

  -- so it is one place
  pub one_behind : (i k l : ℕ) → Behind ws i k → Behind ws i l → k ≡ l
  one_behind i k l x y = elim x.one [
    | inl z ↦ sym (behind_test i k l z.0 z.1 y)
    | inr z ↦ z.4 ∙ sym (behind_own i l z.1 z.0 z.2 z.3 y)
  ]

  -- none is behind words that begin with no opcode, and behind a condition
  pub none_unknown : (i : ℕ) → NoCode opcode_number ws i → NoneBehind ws i
  none_unknown i unknown = record {
    none = λ k b. elim b.one [
      | inl x ↦ unknown.none (test_opcode x.0) x.1.0
      | inr x ↦ unknown.none x.0 x.2
    ];
  }

  pub none_behind : (i : ℕ) → HasRole ws i ToCheckGroup → NoneBehind ws i
  none_behind i h = record {
    none = λ k b. elim b.one [
      | inl x ↦
          let same = same_opcode ws i h.code (test_opcode x.0) h.there x.1.0 in
          let no : ToCheckGroup ≡ ToTest (test_kind x.0) = sym h.begins ∙ ap role same ∙ test_role x.0 in
          cc
      | inr x ↦
          let same = ap (λ o. own_words (role o)) (same_opcode ws i h.code x.0 h.there x.2) in
          let none : None ≡ Some x.1 = ap own_words (sym h.begins) ∙ same ∙ x.3 in
          cc
    ];
  }

-- Scans from instruction to instruction, and what such a scan has behind a part of a tree, by what it had before.

-- a scan of words up to a place, and what it tells of a part of a tree, by the part's value
pub record Scanner (M V : Type 0) : Type 1 where
  pub words : List ℕ
  pub end : ℕ
  -- from a place, with what it has there, it goes on to another, with what it then has; or it stops at a place
  pub Next : ℕ → M → ℕ → M → Type 0
  pub Stops : ℕ → Type 0
  -- the values of parts: of both together, by those of each
  pub nothing : V
  pub both : V → V → V
  pub tree : Tree → V
  pub item : Item → V
  pub branch : Trees → V
  pub empty : tree Empty ≡ nothing
  pub then : (y : Item) (t : Tree) → tree (Then y t) ≡ both (item y) (tree t)
  pub only : (t : Tree) → branch (Only t) ≡ tree t
  pub or : (t : Tree) (ts : Trees) → branch (Or t ts) ≡ both (tree t) (branch ts)
  -- it stops in a part of such a value, or passes it from one place to another with what it had and then has
  pub Bad : V → Type 0
  pub After : ℕ → ℕ → V → M → M → Type 0
  pub first : (a b : V) → Bad a → Bad (both a b)
  pub second : (a b : V) → Bad b → Bad (both a b)
  pub stay : (i j : ℕ) (m : M) → i ≤ j → After i j nothing m m
  pub wider : (i k j : ℕ) (a : V) (l m : M) → k ≤ j → After i k a l m → After i j a l m
  pub joined :
      (i k j : ℕ) (a b : V) (l m n : M) → i ≤ k → k ≤ j → After i k a l m → After k j b m n
      → After i j (both a b) l n

module _ {M V : Type 0} (x : Scanner M V) where
  -- a scan of n instructions from i on, which has l there, says r
  abbrev pub Says : Option M → ℕ → ℕ → M → Type 0
  Says r zero i l = (x.end ≤ i) × (r ≡ Some l)
  Says r (suc n) i l =
      (i < x.end) × ((x.Stops i × (r ≡ None)) ⊎ ((k : ℕ) × (m : M) × x.Next i l k m × Says r n k m))

  -- a scan, however long
  pub record Scan (r : Option M) (i : ℕ) (l : M) : Type 0 where
    pub count : ℕ
    pub says : Says r count i l

  -- what a scan from i on says, one from the start says too
  pub record Onto (start : ℕ) (none : M) (i : ℕ) (l : M) : Type 0 where
    pub to : (r : Option M) → Scan r i l → Scan r start none

  pub onto_start : (start : ℕ) (none : M) → Onto start none start none
  onto_start start none = record { to = λ r s. s }

  pub onto_next : (start : ℕ) (none : M) (i k : ℕ) (l m : M) → Onto start none i l → i < x.end → x.Next i l k m
      → Onto start none k m
  onto_next start none i k l m o lt h =
      record { to = λ r s. o.to r (record { count = suc s.count; says = (lt, inr (k, m, h, s.says)) }) }

  -- one instruction of a scan
  one : (r : Option M) (i : ℕ) (l : M) → i < x.end → Scan r i l
      → (x.Stops i × (r ≡ None)) ⊎ ((k : ℕ) × (m : M) × x.Next i l k m × Scan r k m)
  one r i l lt s = go s.count s.says
    where
      go : (n : ℕ) → Says r n i l → (x.Stops i × (r ≡ None)) ⊎ ((k : ℕ) × (m : M) × x.Next i l k m × Scan r k m)
      go zero z = absurd (omega (arith, lt, z.0))
      go (suc n) z = elim z.1 [
        | inl u ↦ inl u
        | inr u ↦ inr (u.0, u.1, u.2, record { count = n; says = u.3 })
      ]

  moved : (P : ℕ → M → Type 0) (i j : ℕ) (l m : M) → i ≡ j → l ≡ m → P i l → P j m
  moved P i j l m at is p = subst (P j) is (subst (λ k. P k l) at p)

  -- what a scan tells of a part from i to j
  abbrev Told : Option M → ℕ → ℕ → V → M → Type 0
  Told r i j a l = (x.Bad a × (r ≡ None)) ⊎ ((m : M) × x.After i j a l m × Scan r j m)

  abbrev pub Passed : ℕ → ℕ → V → Type 0
  Passed i j a = (i ≤ j) × ((r : Option M) (l : M) → j ≤ x.end → Scan r i l → Told r i j a l)

  -- an instruction, and what is behind it
  pub enter : (i k j : ℕ) (a b : V) (g : M → M) → i < k → (x.Stops i → x.Bad a)
      → ((l m : M) (q : ℕ) → x.Next i l q m → (q ≡ k) × (m ≡ g l)) → Passed k j b → (x.Bad b → x.Bad a)
      → ((l n : M) → x.Next i l k (g l) → x.After k j b (g l) n → x.After i j a l n) → Passed i j a
  enter i k j a b g lt stops next y bad law = (
    omega (arith, lt, y.0),
    λ r l le s. elim (one r i l (omega (arith, lt, le, y.0)) s) [
      | inl u ↦ inl (stops u.0, u.1)
      | inr u ↦
          let is = next l u.1 u.0 u.2 in
          elim (y.1 r (g l) le (moved (Scan r) u.0 k u.1 (g l) is.0 is.1 u.3)) [
            | inl v ↦ inl (bad v.0, v.1)
            | inr v ↦ inr (v.0, law l v.0 (moved (x.Next i l) u.0 k u.1 (g l) is.0 is.1 u.2) v.1, v.2)
          ]
    ],
  )

  pub here : (i j : ℕ) → i ≡ j → Passed i j x.nothing
  here i j at = (
    omega (arith, at),
    λ r l le s. inr (l, x.stay i j l (omega (arith, at)), subst (λ k. Scan r k l) at s),
  )

  -- an instruction at which it stops
  pub halt : (i j : ℕ) (a : V) → i < j → ((l m : M) (q : ℕ) → x.Next i l q m → ⊥) → x.Bad a → Passed i j a
  halt i j a lt none bad = (
    omega (arith, lt),
    λ r l le s. elim (one r i l (omega (arith, lt, le)) s) [
      | inl u ↦ inl (bad, u.1)
      | inr u ↦ absurd (none l u.1 u.0 u.2)
    ],
  )

  -- one that is nothing to the scan
  pub record Silent (i k : ℕ) : Type 0 where
    pub past : i < k
    pub goes : x.Stops i → ⊥
    pub next : (l m : M) (q : ℕ) → x.Next i l q m → (q ≡ k) × (m ≡ l)

  -- behind a part, and by itself
  before : (i k j : ℕ) (a : V) → Passed i k a → Silent k j → Passed i j a
  before i k j a y h = (
    omega (arith, y.0, h.past),
    λ r l le s. elim (y.1 r l (omega (arith, h.past, le)) s) [
      | inl u ↦ inl u
      | inr u ↦ inr (
        u.0,
        x.wider i k j a l u.0 (omega (arith, h.past)) u.1,
        elim (one r k u.0 (omega (arith, h.past, le)) u.2) [
          | inl v ↦ absurd (h.goes v.0)
          | inr v ↦ let is = h.next u.0 v.1 v.0 v.2 in moved (Scan r) v.0 j v.1 u.0 is.0 is.1 v.3
        ],
      )
    ],
  )

  pub silent : (i j : ℕ) (a : V) → a ≡ x.nothing → Silent i j → Passed i j a
  silent i j a is h = subst (Passed i j) (sym is) (before i i j x.nothing (here i i refl) h)

  -- a part, and what follows it
  join : (i k j : ℕ) (a b : V) → Passed i k a → Passed k j b → Passed i j (x.both a b)
  join i k j a b y z = (
    omega (arith, y.0, z.0),
    λ r l le s. elim (y.1 r l (omega (arith, le, z.0)) s) [
      | inl u ↦ inl (x.first a b u.0, u.1)
      | inr u ↦ elim (z.1 r u.0 le u.2) [
        | inl v ↦ inl (x.second a b v.0, v.1)
        | inr v ↦ inr (v.0, x.joined i k j a b l u.0 v.0 y.0 z.0 u.1 v.1, v.2)
      ]
    ],
  )

  abbrev ws : List ℕ
  ws = x.words

  -- what is told of each instruction, by its role and by what is told of the body behind it
  pub record Instructions : Type 1 where
    -- what is nothing to the scan, by its role
    pub Quiet : Role → Type 0
    pub fails : Quiet ToFail
    pub ends : Quiet ToEnd
    pub jumps : Quiet ToJump
    pub loops : (o : Order) → Quiet (ToLoop o)
    pub checks : Quiet ToCheckPosition
    pub own : (i n : ℕ) (o : Role) → HasRole ws i o → own_words o ≡ Some n → 0 < n → Quiet o → Silent i (i + n)
    pub test : (i j : ℕ) (t : Test) → ReadsTest ws i j t → Silent i j
    pub fail : x.item Fail ≡ x.nothing
    pub one : (t : Test) → x.item (One t) ≡ x.nothing
    pub at : (a : SreAtCode) → x.item (At a) ≡ x.nothing
    pub mark : (i n : ℕ) → HasRole ws i ToMark → Passed i (i + 2) (x.item (Mark n))
    pub branch :
        (i j : ℕ) (ts : Trees) → i < j → HasRole ws i ToBranch → Passed (i + 2) j (x.branch ts)
        → Passed i j (x.item (Branch ts))
    pub run :
        (i low high : ℕ) (kind : RunKind) (t : Test) → HasRole ws i (ToRun kind)
        → Passed i (i + 4) (x.item (Run kind low high t))
    pub loop :
        (i j : ℕ) (o : Order) (low high : ℕ) (body : Tree) → i < j → HasRole ws i ToRepeat
        → Operands ws i j (Loop o low high body) → Passed (i + 4) j (x.tree body)
        → Passed i j (x.item (Loop o low high body))
    -- an atomic scope, up to where its body ends
    pub possessive :
        (i low high : ℕ) (body : Tree) → HasRole ws i ToRepeatPossessively → Word ws (i + 2) low
        → Word ws (i + 3) high → Passed (i + 4) (skip ws (i + 1)) (x.tree body)
        → Passed i (skip ws (i + 1)) (x.item (PossessiveLoop low high body))
    pub atomic :
        (i e : ℕ) (body : Tree) → HasRole ws i ToGroupAtomically → e + 1 ≡ skip ws (i + 1)
        → Passed (i + 2) e (x.tree body) → Passed i e (x.item (Atomic body))
    pub look :
        (i e : ℕ) (sign : Sign) (back : ℕ) (body : Tree) → HasRole ws i (ToLook sign) → e + 1 ≡ skip ws (i + 1)
        → Word ws (i + 2) back → Passed (i + 3) e (x.tree body) → Passed i e (x.item (Look sign back body))
    pub reference :
        (i : ℕ) (fold : Fold) (g : ℕ) → HasRole ws i ToRefer → Word ws (i + 1) g
        → Passed i (i + 2) (x.item (Reference fold g))
    pub exists :
        (i j g : ℕ) (there : Tree) → i < j → HasRole ws i ToCheckGroup → Passed i j (x.item (Exists g there))
    pub exists_else :
        (i j g : ℕ) (there absent : Tree) → i < j → HasRole ws i ToCheckGroup
        → Passed i j (x.item (ExistsElse g there absent))

  module _ (h : Instructions) where
    past : (y : Item) (i j : ℕ) → ReadsItem ws i j y → i < j
    past y i j w = operands_past y ws i j w.1

    -- what ends a body, and an alternative
    success : (i k j : ℕ) (a : V) → Passed i k a → Opcode ws k opcode.SUCCESS → k + 1 ≡ j → Passed i j a
    success i k j a y o at =
        before i k j a y
        (subst (Silent k) at (h.own k 1 ToEnd (role_here ws k opcode.SUCCESS ToEnd o refl) refl (omega arith) h.ends))

    jump : (i k j : ℕ) (a : V) → Passed i k a → Opcode ws k opcode.JUMP → k + 3 ≡ j → Passed i j a
    jump i k j a y o at =
        before i k j a y
        (subst (Silent k) at (h.own k 3 ToJump (role_here ws k opcode.JUMP ToJump o refl) refl (omega arith) h.jumps))

    mutual
      pub tree_walked : (u : Tree) (i j : ℕ) → Reads ws i j u → Passed i j (x.tree u)
      tree_walked Empty i j w = subst (Passed i j) (sym x.empty) (here i j w)
      tree_walked (Then y u) i j w =
          subst (Passed i j) (sym (x.then y u))
          (join i w.0 j (x.item y) (x.tree u) (item_walked y i w.0 w.1) (tree_walked u w.0 j w.2))

      item_walked : (y : Item) (i j : ℕ) → ReadsItem ws i j y → Passed i j (x.item y)
      item_walked Fail i j w =
          silent i j (x.item Fail) h.fail
          (subst (Silent i) (sym w.1) (h.own i 1 ToFail (item_here ws i j Fail w) refl (omega arith) h.fails))
      item_walked (One u) i j w = silent i j (x.item (One u)) (h.one u) (h.test i j u w)
      item_walked (At p) i j w =
          silent i j (x.item (At p)) (h.at p)
          (subst (Silent i) (sym w.1.1)
          (h.own i 2 ToCheckPosition (item_here ws i j (At p) w) refl (omega arith) h.checks))
      item_walked (Mark n) i j w =
          subst (λ k. Passed i k (x.item (Mark n))) (sym w.1.1) (h.mark i n (item_here ws i j (Mark n) w))
      item_walked (Branch ts) i j w =
          h.branch i j ts (past (Branch ts) i j w) (item_here ws i j (Branch ts) w)
          (subst (λ k. Passed k j (x.branch ts)) (omega arith) (trees_walked ts (i + 1) j w.1))
      item_walked (Loop o low high body) i j w =
          let y : Item = Loop o low high body in
          let end : ℕ = skip ws (i + 1) in
          h.loop i j o low high body (past y i j w) (item_here ws i j y w) w.1
          (before (i + 4) end j (x.tree body) (tree_walked body (i + 4) end w.1.3)
          (subst (Silent end) (sym w.1.5)
          (h.own end 1 (ToLoop o) (role_here ws end (until_opcode o) (ToLoop o) w.1.4 (until_role o)) refl
          (omega arith) (h.loops o))))
      item_walked (Run kind low high u) i j w =
          let y : Item = Run kind low high u in
          let far : i + 4 < j - 1 = test_past u ws (i + 4) (j - 1) w.1.5 in
          success i (j - 1) j (x.item y)
          (before i (i + 4) (j - 1) (x.item y) (h.run i low high kind u (item_here ws i j y w))
          (h.test (i + 4) (j - 1) u (w.1.4, w.1.5))) w.1.6 (omega (arith, far))
      item_walked (PossessiveLoop low high body) i j w =
          let y : Item = PossessiveLoop low high body in
          let end : ℕ = skip ws (i + 1) in
          success i end j (x.item y)
          (h.possessive i low high body (item_here ws i j y w) w.1.0 w.1.1 (tree_walked body (i + 4) end w.1.3))
          w.1.4 (sym w.1.5)
      item_walked (Atomic body) i j w =
          let y : Item = Atomic body in
          let far : i + 2 ≤ j - 1 = reads_within body ws (i + 2) (j - 1) w.1.1 in
          success i (j - 1) j (x.item y)
          (h.atomic i (j - 1) body (item_here ws i j y w) (omega (arith, far, w.1.0))
          (tree_walked body (i + 2) (j - 1) w.1.1)) w.1.2 (omega (arith, far))
      item_walked (Look sign back body) i j w =
          let y : Item = Look sign back body in
          let far : i + 3 ≤ j - 1 = reads_within body ws (i + 3) (j - 1) w.1.2 in
          success i (j - 1) j (x.item y)
          (h.look i (j - 1) sign back body (item_here ws i j y w) (omega (arith, far, w.1.0)) w.1.1
          (tree_walked body (i + 3) (j - 1) w.1.2)) w.1.3 (omega (arith, far))
      item_walked (Reference fold g) i j w =
          let y : Item = Reference fold g in
          subst (λ k. Passed i k (x.item y)) (sym w.1.1) (h.reference i fold g (item_here ws i j y w) w.1.0)
      item_walked (Exists g there) i j w =
          h.exists i j g there (past (Exists g there) i j w) (item_here ws i j (Exists g there) w)
      item_walked (ExistsElse g there absent) i j w =
          let y : Item = ExistsElse g there absent in
          h.exists_else i j g there absent (past y i j w) (item_here ws i j y w)

      trees_walked : (ts : Trees) (q j : ℕ) → ReadsBranch ws q j ts → Passed (q + 1) j (x.branch ts)
      trees_walked (Only u) q j w =
          let long : q + 3 ≤ skip ws q = alternative_long ws q j (Only u) w in
          subst (Passed (q + 1) j) (sym (x.only u))
          (jump (q + 1) (skip ws q - 2) j (x.tree u) (tree_walked u (q + 1) (skip ws q - 2) w.0) w.1.0
          (omega (arith, long, w.3)))
      trees_walked (Or u ts) q j w =
          let long : q + 3 ≤ skip ws q = alternative_long ws q j (Or u ts) w in
          subst (Passed (q + 1) j) (sym (x.or u ts))
          (join (q + 1) (skip ws q + 1) j (x.tree u) (x.branch ts)
          (jump (q + 1) (skip ws q - 2) (skip ws q + 1) (x.tree u) (tree_walked u (q + 1) (skip ws q - 2) w.0)
          w.1.0 (omega (arith, long)))
          (trees_walked ts (skip ws q) j w.2))

    -- what a scan of a tree from the start says where it stops, and at the end
    module _ (start i : ℕ) (none l : M) (o : Onto start none i l) (u : Tree) (w : Reads ws start x.end u) where
      pub walk_stops : i < x.end → x.Stops i → x.Bad (x.tree u)
      walk_stops lt stops =
          let s = o.to None (record { count = 1; says = (lt, inl (stops, refl)) }) in
          elim ((tree_walked u start x.end w).1 None none (omega arith) s) [
            | inl z ↦ z.0
            | inr z ↦ absurd (over z.2.count z.0 z.2.says)
          ]
        where
          over : (n : ℕ) (m : M) → Says None n x.end m → ⊥
          over zero m z = let no : None ≡ Some m = z.1 in absurd (cc)
          over (suc n) m z = omega (arith, z.0)

      pub walk_ends : x.end ≤ i → x.After start x.end (x.tree u) none l
      walk_ends le =
          let s = o.to (Some l) (record { count = 0; says = (le, refl) }) in
          elim ((tree_walked u start x.end w).1 (Some l) none (omega arith) s) [
            | inl z ↦ let no : Some l ≡ None = z.1 in absurd (cc)
            | inr z ↦ subst (x.After start x.end (x.tree u) none) (last z.2.count z.0 z.2.says) z.1
          ]
        where
          last : (n : ℕ) (m : M) → Says (Some l) n x.end m → m ≡ l
          last zero m z = let same : Some l ≡ Some m = z.1 in cc
          last (suc n) m z = absurd (omega (arith, z.0))
