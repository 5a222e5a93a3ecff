-- The parts of an item's bytecode: the trees within, what ends each, and the loops around it. What holds of the points
-- that an item has by itself, and goes up from a part to its item, holds wherever a point lies.
-- That the step bound suffices (`enough` of sre_engine) rests on this.
use Rattle.sre_turns.proofs.Terms.{◌≡◌, ℕ, ◌+◌, ◌-◌, ◌<◌, inl, inr, List, ◌∷◌, [], refl, arith, Tree, Empty, Then, Item}
use Rattle.sre_turns.proofs.Terms.{Trees, Only, Or, Order, RunKind, Test, Folding, of_tree, of_parts, of_branch, word}
use Rattle.sre_turns.proofs.Terms.{skip, Word, Opcode, Reads, Operands, ReadsBranch, JumpsTo, until_opcode}
use Rattle.sre_turns.proofs.Terms.{Alternatives, Shorter, Longer, Again, Point, IsAt, LiesIn, LiesInItem, LiesInBranch}
use Rattle.sre_turns.proofs.Terms.{Instruction}
use Rattle.sre_chars.specs.declared.constants.SreOpcode.TheVariants as opcode
use Rattle.sre_model.specs.Tree.{Run, Branch, Loop, PossessiveLoop, Atomic, Look, Exists, ExistsElse}

-- what holds of the values of a whole, whatever they are values of, holds of a part's, where it does of both of two
abbrev pub IsIn : ((A : Type 0) → Folding A → A) → ((A : Type 0) → Folding A → A) → Type 1
IsIn whole part =
    (A : Type 0) (f : Folding A) (Good : A → Type 0) → ((a b : A) → Good (f.both a b) → Good a)
    → ((a b : A) → Good (f.both a b) → Good b) → Good (whole A f) → Good (part A f)

-- alternatives that are the last of some
data Last (all : Trees) : Trees → Type 0 where
  whole : Last all all
  behind : {t : Tree} {ts : Trees} → Last all (Or t ts) → Last all ts

last_in : {all ts : Trees} → Last all ts → IsIn (λ A f. of_branch f all) (λ A f. of_branch f ts)
last_in whole A f Good left right g = g
last_in (behind {t = t} {ts = ts} h) A f Good left right g =
    right (of_tree f t) (of_branch f ts) (last_in h A f Good left right g)

module _ (ws : List ℕ) where
  -- the first address of a tree's words lies there
  pub begins : (i j : ℕ) (t : Tree) (r : Reads ws i j t) (js : List ℕ) → LiesIn ws i j t r js (Instruction i) js
  begins i j Empty r js = rw r (refl, refl)
  begins i j (Then x rest) r js = inl (refl, refl)

  pub branch_begins : (q j : ℕ) (ts : Trees) (r : ReadsBranch ws q j ts) (js : List ℕ)
      → LiesInBranch ws q j ts r js (Alternatives q) js
  branch_begins q j (Only t) r js = inl (refl, refl)
  branch_begins q j (Or t ts) r js = inl (refl, refl)

  -- what ends the part [a, b) of an item [i, j) under the loops js, and under which loops it stands: it ends with the
  -- item, or by a jump there, or is the body of a loop, or of an atomic scope
  pub data Ends (i j : ℕ) (js : List ℕ) : Item → ℕ → ℕ → Tree → List ℕ → Type 0 where
    with_item : {x : Item} {a : ℕ} {t : Tree} → Ends i j js x a j t js
    jump : {x : Item} {a b : ℕ} {t : Tree} → JumpsTo ws b j → Ends i j js x a b t js
    until :
        {o : Order} {low high b : ℕ} {body : Tree} → Word ws (i + 2) low → Word ws (i + 3) high
        → Opcode ws b (until_opcode o) → j ≡ b + 1 → Ends i j js (Loop o low high body) (i + 4) b body (i ∷ js)
    success : {x : Item} {a b : ℕ} {t : Tree} → Opcode ws b opcode.SUCCESS → b ≡ j - 1 → Ends i j js x a b t []

  -- the tree t at [a, b), under the loops ks, is a part of an item: it begins behind the opcode, and ends somehow; its
  -- points are the item's, and its value is in that of the item's parts
  abbrev pub Part : (i j : ℕ) (js : List ℕ) (x : Item) → Operands ws i j x → (a b : ℕ) (t : Tree) → Reads ws a b t
      → List ℕ → Type 1
  Part i j js x r a b t s ks =
      (i < a) × Ends i j js x a b t ks
      × ((pt : Point) (ls : List ℕ) → LiesIn ws a b t s ks pt ls → LiesInItem ws i j x r js pt ls)
      × IsIn (λ A f. of_parts f x) (λ A f. of_tree f t)

  -- a point that an item has by itself, behind its opcode
  pub data Own (i j : ℕ) (js : List ℕ) : (x : Item) → Operands ws i j x → Point → List ℕ → Type 0 where
    alternative :
        {ts : Trees} {r : Operands ws i j (Branch ts)} (q : ℕ)
        → LiesInBranch ws (i + 1) j ts r js (Instruction (q + 1)) js
        → LiesInBranch ws (i + 1) j ts r js (Alternatives (skip ws q)) js → Own i j js (Branch ts) r (Alternatives q) js
    no_more :
        {ts : Trees} {r : Operands ws i j (Branch ts)} (q : ℕ) → Word ws q 0
        → Own i j js (Branch ts) r (Alternatives q) js
    shorter :
        {kind : RunKind} {low high : ℕ} {t : Test} {r : Operands ws i j (Run kind low high t)} (k : ℕ)
        → Own i j js (Run kind low high t) r (Shorter j k) js
    longer :
        {kind : RunKind} {low high : ℕ} {t : Test} {r : Operands ws i j (Run kind low high t)} (n : ℕ)
        → Own i j js (Run kind low high t) r (Longer i n) js
    possessive :
        {low high : ℕ} {body : Tree} {r : Operands ws i j (PossessiveLoop low high body)}
        → Own i j js (PossessiveLoop low high body) r Again (i ∷ js)

  put : (C : Point → List ℕ → Type 0) (at : Point) (js : List ℕ) (pt : Point) (ks : List ℕ) → IsAt at js pt ks → C at js
      → C pt ks
  put C at js pt ks e c = rw (e.0, e.1) c

  -- something of a point in a tree's words
  module _ (P : (i j : ℕ) (t : Tree) → Reads ws i j t → List ℕ → Point → List ℕ → Type 0) where
    -- it holds at the end of the words, at the first address of an item, and at its own points; and where it holds in
    -- the words behind the item, or in a part of it
    pub record Law : Type 1 where
      pub end : (i j : ℕ) (r : i ≡ j) (js : List ℕ) → P i j Empty r js (Instruction j) js
      pub first : (i j : ℕ) (x : Item) (rest : Tree) (r : Reads ws i j (Then x rest)) (js : List ℕ)
          → P i j (Then x rest) r js (Instruction i) js
      pub own : (i j : ℕ) (x : Item) (rest : Tree) (r : Reads ws i j (Then x rest)) (js : List ℕ) (pt : Point)
          (ks : List ℕ) → Own i r.0 js x r.1.1 pt ks → P i j (Then x rest) r js pt ks
      pub rest : (i j : ℕ) (x : Item) (rest : Tree) (r : Reads ws i j (Then x rest)) (js : List ℕ) (pt : Point)
          (ks : List ℕ) → LiesIn ws r.0 j rest r.2 js pt ks → P r.0 j rest r.2 js pt ks → P i j (Then x rest) r js pt ks
      pub part : (i j : ℕ) (x : Item) (rest : Tree) (r : Reads ws i j (Then x rest)) (js : List ℕ) (a b : ℕ) (t : Tree)
          (s : Reads ws a b t) (ls : List ℕ) → Part i r.0 js x r.1.1 a b t s ls → (pt : Point) (ks : List ℕ)
          → LiesIn ws a b t s ls pt ks → P a b t s ls pt ks → P i j (Then x rest) r js pt ks

    module _ (law : Law) where
      mutual
        -- so it holds of each point that lies in the words
        pub lies_law : (i j : ℕ) (t : Tree) (r : Reads ws i j t) (js : List ℕ) (pt : Point) (ks : List ℕ)
            → LiesIn ws i j t r js pt ks → P i j t r js pt ks
        lies_law i j Empty r js pt ks y = put (P i j Empty r js) (Instruction j) js pt ks y (law.end i j r js)
        lies_law i j (Then x rest) r js pt ks (inl y) =
            put (P i j (Then x rest) r js) (Instruction i) js pt ks y (law.first i j x rest r js)
        lies_law i j (Then x rest) r js pt ks (inr (inl y)) = inside i j x rest r js pt ks y
        lies_law i j (Then x rest) r js pt ks (inr (inr y)) =
            law.rest i j x rest r js pt ks y (lies_law r.0 j rest r.2 js pt ks y)

        inside : (i j : ℕ) (x : Item) (rest : Tree) (r : Reads ws i j (Then x rest)) (js : List ℕ) (pt : Point)
            (ks : List ℕ) → LiesInItem ws i r.0 x r.1.1 js pt ks → P i j (Then x rest) r js pt ks
        inside i j (Branch ts) rest r js pt ks y =
            among i (i + 1) j ts ts rest r r.1.1 js (λ at ls z. z) whole (omega arith) pt ks y
        inside i j (Loop o low high body) rest r js pt ks y =
            law.part i j _ rest r js _ _ body r.1.1.3 (i ∷ js)
            (omega arith, until r.1.1.0 r.1.1.1 r.1.1.4 r.1.1.5, λ at ls z. z, λ A f Good left right g. g) pt ks y
            (lies_law (i + 4) (skip ws (i + 1)) body r.1.1.3 (i ∷ js) pt ks y)
        inside i j (Run kind low high t) rest r js pt ks (inl y) =
            put (P i j _ r js) (Shorter r.0 y.0) js pt ks y.1 (law.own i j _ rest r js _ _ (shorter y.0))
        inside i j (Run kind low high t) rest r js pt ks (inr y) =
            put (P i j _ r js) (Longer i y.0) js pt ks y.1 (law.own i j _ rest r js _ _ (longer y.0))
        inside i j (PossessiveLoop low high body) rest r js pt ks (inl y) =
            put (P i j _ r js) Again (i ∷ js) pt ks y (law.own i j _ rest r js _ _ possessive)
        inside i j (PossessiveLoop low high body) rest r js pt ks (inr y) =
            law.part i j _ rest r js _ _ body r.1.1.3 []
            (omega arith, success r.1.1.4 (omega (arith, r.1.1.5)), λ at ls z. inr z, λ A f Good left right g. g) pt ks
            y
            (lies_law (i + 4) (skip ws (i + 1)) body r.1.1.3 [] pt ks y)
        inside i j (Atomic body) rest r js pt ks y =
            law.part i j _ rest r js _ _ body r.1.1.1 []
            (omega arith, success r.1.1.2 refl, λ at ls z. z, λ A f Good left right g. g) pt ks y
            (lies_law (i + 2) (r.0 - 1) body r.1.1.1 [] pt ks y)
        inside i j (Look sign back body) rest r js pt ks y =
            law.part i j _ rest r js _ _ body r.1.1.2 []
            (omega arith, success r.1.1.3 refl, λ at ls z. z, λ A f Good left right g. g) pt ks y
            (lies_law (i + 3) (r.0 - 1) body r.1.1.2 [] pt ks y)
        inside i j (Exists g a) rest r js pt ks y =
            law.part i j _ rest r js _ _ a r.1.1.2 js
            (omega arith, with_item, λ at ls z. z, λ A f Good left right g. g) pt ks y
            (lies_law (i + 3) r.0 a r.1.1.2 js pt ks y)
        inside i j (ExistsElse g a c) rest r js pt ks (inl y) =
            law.part i j _ rest r js _ _ a r.1.1.1 js
            (omega arith, jump r.1.1.2, λ at ls z. inl z, λ A f Good left right g. left _ _ g) pt ks y
            (lies_law (i + 3) (i + 1 + word ws (i + 2) - 2) a r.1.1.1 js pt ks y)
        inside i j (ExistsElse g a c) rest r js pt ks (inr y) =
            law.part i j _ rest r js _ _ c r.1.1.3 js
            (omega arith, with_item, λ at ls z. inr z, λ A f Good left right g. right _ _ g) pt ks y
            (lies_law (i + 1 + word ws (i + 2)) r.0 c r.1.1.3 js pt ks y)
        inside i j x rest r js pt ks y = absurd y

        among : (i q j : ℕ) (all ts : Trees) (rest : Tree) (r : Reads ws i j (Then (Branch all) rest))
            (b : ReadsBranch ws q r.0 ts) (js : List ℕ)
            → ((pt : Point) (ks : List ℕ) → LiesInBranch ws q r.0 ts b js pt ks
            → LiesInBranch ws (i + 1) r.0 all r.1.1 js pt ks)
            → Last all ts → i < q → (pt : Point) (ks : List ℕ) → LiesInBranch ws q r.0 ts b js pt ks
            → P i j (Then (Branch all) rest) r js pt ks
        among i q j all (Only t) rest r b js up last l pt ks (inl y) =
            put (P i j _ r js) (Alternatives q) js pt ks y
            (law.own i j _ rest r js _ _
            (alternative q (up _ _ (inr (inl (begins _ _ t b.0 js)))) (up _ _ (inr (inr (refl, refl))))))
        among i q j all (Only t) rest r b js up last l pt ks (inr (inl y)) =
            law.part i j _ rest r js _ _ t b.0 js
            (omega (arith, l), jump b.1, λ at ls z. up at ls (inr (inl z)), last_in last) pt ks y
            (lies_law (q + 1) (skip ws q - 2) t b.0 js pt ks y)
        among i q j all (Only t) rest r b js up last l pt ks (inr (inr y)) =
            put (P i j _ r js) (Alternatives (skip ws q)) js pt ks y
            (law.own i j _ rest r js _ _ (no_more (skip ws q) b.2))
        among i q j all (Or t ts) rest r b js up last l pt ks (inl y) =
            put (P i j _ r js) (Alternatives q) js pt ks y
            (law.own i j _ rest r js _ _
            (alternative q (up _ _ (inr (inl (begins _ _ t b.0 js))))
            (up _ _ (inr (inr (branch_begins (skip ws q) r.0 ts b.2 js))))))
        among i q j all (Or t ts) rest r b js up last l pt ks (inr (inl y)) =
            law.part i j _ rest r js _ _ t b.0 js (
              omega (arith, l),
              jump b.1,
              λ at ls z. up at ls (inr (inl z)),
              λ A f Good left right g. left _ _ (last_in last A f Good left right g),
            ) pt ks y
            (lies_law (q + 1) (skip ws q - 2) t b.0 js pt ks y)
        among i q j all (Or t ts) rest r b js up last l pt ks (inr (inr y)) =
            among i (skip ws q) j all ts rest r b.2 js (λ at ls z. up at ls (inr (inr z))) (behind last)
            (omega (arith, l)) pt ks y
