-- The price of an address is that of the tree whose bytecode begins there, before that of where it ends; and the price
-- of a configuration, with the credits of its point, pays for its step and for the prices of what the step leads to.
-- That the step bound suffices (`enough` of sre_engine) rests on this.
use Rattle.sre_turns.proofs.Terms.{◌≡◌, ℕ, zero, suc, ◌+◌, ◌-◌, ◌<◌, ◌≤◌, List, length, refl, sym, ap, ◌∙◌, arith}
use Rattle.sre_turns.proofs.Terms.{opcode-read, SreOpcode, Test, word, skip, Opcode, TestOperands, Role, role, HasRole}
use Rattle.sre_turns.proofs.Terms.{test_kind, word_past, opcode_within, role_at, test_end, steps_by, steps, Tree, Empty}
use Rattle.sre_turns.proofs.Terms.{Then, Item, Reads, ReadsItem, JumpsTo, behind_items, steps_of, item_role, item_here}
use Rattle.sre_turns.proofs.Terms.{role_here, ◌*◌, ◌||◌, Bool, true, false, cond, nat_eq, nat_lt, subst, mul-le-mul}
use Rattle.sre_turns.proofs.Terms.{add-mul, one-mul, min, nat_tests, RunKind, PossessiveRun, Positive, Negative, Marks}
use Rattle.sre_turns.proofs.Terms.{group, unlimited, longest_run, test_opcode, word_of, same_opcode, run_at_most}
use Rattle.sre_turns.proofs.Terms.{run_inside, passes-below, Region, Further, Alternatives, Longer, Again, Inside}
use Rattle.sre_turns.proofs.Terms.{Tried, TriedAgain, Point, Spot, Move, MovesAt, end_price, ends_beside, price}
use Rattle.sre_turns.proofs.Terms.{loop_toll, toll_by, toll, split_toll, split_by, Covers, CodeAt, point_behind}
use Rattle.sre_turns.proofs.Terms.{test_role, ⊤, Subject, Frame, Instruction, repeats, spot_at, most_from, branch_price}
use Rattle.sre_turns.proofs.Terms.{more_ends, again_toll, aside}
use Rattle.sre_model.specs.Roles.{ToFail, ToTest, ToEnd, ToJump, ToRun, ToGroupAtomically, ToLook, OfAny}
use Rattle.sre_turns.specs.Prices.{steps_in, branch_in}
use Rattle.sre_model.specs.Tree.{Run, Fail, One, At, Mark, Branch, Loop, PossessiveLoop, Atomic, Look, Reference}
use Rattle.sre_model.specs.Tree.{Exists, ExistsElse, Literal, Any, AnyAll, InCategory, NotLiteral, In}
use Rattle.sre_model.specs.TreePrices.{item_steps, most_steps}
use Rattle.sre_turns.proofs.semantics.OneTurn.{GoesOn, behind_test, run_on, Forks, greedy_run, lazy_run}
use Rattle.sre_turns.proofs.semantics.OneTurn.{next_alternative, next_shorter, next_longer, Begins, plain_loop}
use Rattle.sre_turns.proofs.semantics.OneTurn.{possessive_loop, Enters, atomic_group, lookaround, Turned, stopped}
use Rattle.sre_turns.proofs.semantics.OneTurn.{ended, went, forked, marked, grouped, begun, entered, looped, repeated}
use Rattle.sre_turns.proofs.semantics.OneTurn.{point_turned, until_holds, again_holds}
use Rattle.sre_chars.specs.declared.constants.SreOpcode.TheVariants as opcode

-- an instruction takes a step at least
pub by_some : (ws : List ℕ) (later : ℕ → ℕ) (i : ℕ) (f : Role) → 1 ≤ steps_by ws later i f
by_some ws later i ToFail = omega arith
by_some ws later i f = omega arith

pub some_steps : (ws : List ℕ) (i : ℕ) → 1 ≤ steps ws i
unfolding steps_in
some_steps ws i = go (length ws - i)
  where
    go : (n : ℕ) → 1 ≤ steps_in ws n i
    go zero = omega arith
    go (suc n) = by_some ws (λ (j : ℕ). steps_in ws n j) i (role_at ws i)

-- where as many follow further on, as many follow
by_same : (ws : List ℕ) (one other : ℕ → ℕ) (i : ℕ) → ((j : ℕ) → i < j → one j ≡ other j) → (f : Role)
    → steps_by ws one i f ≡ steps_by ws other i f
by_same ws one other i h ToFail = refl
by_same ws one other i h (ToTest OfAny) = omega (arith, h (i + 1) (omega arith))
by_same ws one other i h f =
    omega (
      arith,
      h (i + 1) (omega arith),
      h (i + 2) (omega arith),
      h (i + 3) (omega arith),
      h (skip ws (i + 1)) (omega arith),
      h (i + 1 + word ws (i + 2)) (omega arith),
    )

-- past the words nothing goes on
in_past : (ws : List ℕ) (n i : ℕ) → length ws ≤ i → steps_in ws n i ≡ 1
unfolding steps_in
in_past ws zero i l = refl
in_past ws (suc n) i l =
    let fails : role_at ws i ≡ ToFail = rw (word_past ws i l) refl in
    ap (λ f. steps_by ws (λ (j : ℕ). steps_in ws n j) i f) fails

-- as many words as are left are enough
in_enough : (ws : List ℕ) (m n i : ℕ) → length ws ≤ i + m → length ws ≤ i + n → steps_in ws m i ≡ steps_in ws n i
unfolding steps_in
in_enough ws zero n i l k = sym (in_past ws n i (omega (arith, l)))
in_enough ws (suc m) zero i l k = in_past ws (suc m) i (omega (arith, k))
in_enough ws (suc m) (suc n) i l k =
    by_same ws (λ (j : ℕ). steps_in ws m j) (λ (j : ℕ). steps_in ws n j) i
    (λ j past. in_enough ws m n j (omega (arith, l, past)) (omega (arith, k, past))) (role_at ws i)

-- the role of an opcode that is there
pub role_there : (ws : List ℕ) (i : ℕ) (o : SreOpcode) → Opcode ws i o → role_at ws i ≡ role o
role_there ws i o w = ap role (opcode-read ws i o w)

pub steps_told : (ws : List ℕ) (i : ℕ) (f : Role) → HasRole ws i f
    → steps ws i ≡ steps_by ws (λ (j : ℕ). steps ws j) i f
unfolding steps_in
steps_told ws i f h =
    let there : i < length ws = opcode_within ws i h.code h.there in
    in_enough ws (length ws - i) (suc (length ws)) i (omega (arith, there)) (omega arith)
    ∙ by_same ws (λ (j : ℕ). steps_in ws (length ws) j) (λ (j : ℕ). steps ws j) i
    (λ j past. in_enough ws (length ws) (length ws - j) j (omega arith) (omega arith)) (role_at ws i)
    ∙ ap (λ g. steps_by ws (λ (j : ℕ). steps ws j) i g) (role_there ws i h.code h.there ∙ h.begins)

-- where a test ends
pub test_ends : (t : Test) (ws : List ℕ) (i j : ℕ) → TestOperands ws i j t → j ≡ test_end ws i (test_kind t)
test_ends Any ws i j r = r
test_ends AnyAll ws i j r = r
test_ends (InCategory c) ws i j r = r.1
test_ends (Literal fold v) ws i j r = r.1
test_ends (NotLiteral fold v) ws i j r = r.1
test_ends (In fold set) ws i j r = r.0

-- the end of a body, or of a whole
pub body_end : (ws : List ℕ) (j : ℕ) → Opcode ws j opcode.SUCCESS → steps ws j ≡ 2
body_end ws j w = steps_told ws j ToEnd (role_here ws j opcode.SUCCESS ToEnd w refl)

-- the end of an alternative
pub jump_steps : (ws : List ℕ) (k j : ℕ) → JumpsTo ws k j → steps ws k ≡ 1 + steps ws j
jump_steps ws k j r =
    steps_told ws k ToJump (role_here ws k opcode.JUMP ToJump r.0 refl) ∙ ap (λ n. 1 + steps ws n) (sym r.1)

mutual
  pub tree_steps : (ws : List ℕ) (i j : ℕ) (t : Tree) → Reads ws i j t → steps ws i ≡ steps_of t (steps ws j)
  tree_steps ws i j Empty r = ap (λ k. steps ws k) r
  tree_steps ws i j (Then x rest) r =
      steps_told ws i (item_role x) (item_here ws i r.0 x r.1) ∙ by_item ws i r.0 x r.1
      ∙ ap (λ b. item_steps x b) (tree_steps ws r.0 j rest r.2)

  by_item : (ws : List ℕ) (i j : ℕ) (x : Item) → ReadsItem ws i j x
      → steps_by ws (λ (k : ℕ). steps ws k) i (item_role x) ≡ item_steps x (steps ws j)
  by_item ws i j Fail r = refl
  by_item ws i j (One t) r = ap (λ k. 1 + steps ws k) (sym (test_ends t ws i j r.1))
  by_item ws i j (At a) r = ap (λ k. 1 + steps ws k) (sym r.1.1)
  by_item ws i j (Mark n) r = ap (λ k. 1 + steps ws k) (sym r.1.1)
  by_item ws i j (Branch ts) r = refl
  by_item ws i j (Loop o low high body) r = refl
  by_item ws i j (Run kind low high t) r = refl
  by_item ws i j (PossessiveLoop low high body) r = refl
  by_item ws i j (Atomic body) r =
      omega (
        arith,
        tree_steps ws (i + 2) (j - 1) body r.1.1 ∙ ap (λ b. steps_of body b) (body_end ws (j - 1) r.1.2),
        ap (λ k. steps ws k) r.1.0,
      )
  by_item ws i j (Look sign back body) r =
      omega (
        arith,
        tree_steps ws (i + 3) (j - 1) body r.1.2 ∙ ap (λ b. steps_of body b) (body_end ws (j - 1) r.1.3),
        ap (λ k. steps ws k) r.1.0,
      )
  by_item ws i j (Reference fold g) r = ap (λ k. 1 + steps ws k) (sym r.1.1)
  by_item ws i j (Exists g there) r =
      omega (arith, tree_steps ws (i + 3) j there r.1.2, ap (λ k. steps ws k) r.1.1)
  by_item ws i j (ExistsElse g there absent) r =
      let k : ℕ = i + 1 + word ws (i + 2) in
      omega (
        arith,
        tree_steps ws (i + 3) (k - 2) there r.1.1 ∙ ap (λ b. steps_of there b) (jump_steps ws (k - 2) j r.1.2),
        tree_steps ws k j absent r.1.3,
      )

-- so from the begin of a body
pub body_steps : (ws : List ℕ) (i j : ℕ) (t : Tree) → Reads ws i j t → Opcode ws j opcode.SUCCESS
    → steps ws i ≡ steps_of t 2
body_steps ws i j t r w = tree_steps ws i j t r ∙ ap (λ b. steps_of t b) (body_end ws j w)

-- and from behind some of the first items of a whole
most_behind : (n : ℕ) (t : Tree) → steps_of (behind_items n t) 2 ≤ most_steps t
most_behind zero Empty = omega arith
most_behind zero (Then x rest) = omega arith
most_behind (suc n) Empty = omega arith
most_behind (suc n) (Then x rest) = omega (arith, most_behind n rest)

pub steps_behind : (ws : List ℕ) (i n : ℕ) (t : Tree) → Reads ws i (length ws - 1) (behind_items n t)
    → Opcode ws (length ws - 1) opcode.SUCCESS → steps ws i ≤ most_steps t
steps_behind ws i n t r w =
    omega (arith, body_steps ws i (length ws - 1) (behind_items n t) r w, most_behind n t)

-- The price pays for a step

-- whether an instruction may enter an atomic scope
abbrev pub enters : Role → Bool
enters ToGroupAtomically = true
enters (ToLook sign) = true
enters _ = false

-- whether a step may, at a point
abbrev pub enters_at : SreOpcode → Point → Bool
enters_at o (Instruction i) = enters (role o)
enters_at o Again = true
enters_at o pt = false

-- more words have no fewer alternatives
pub branch_some : (ws : List ℕ) (n q : ℕ) → 1 ≤ branch_in ws n q
unfolding branch_in
branch_some ws zero q = omega arith
branch_some ws (suc n) q = grind (arith, nat_tests)

branch_more : (ws : List ℕ) (m n q : ℕ) → m ≤ n → branch_in ws m q ≤ branch_in ws n q
unfolding branch_in
branch_more ws zero n q l = branch_some ws n q
branch_more ws (suc m) zero q l = absurd (omega arith)
branch_more ws (suc m) (suc n) q l =
    let more = branch_more ws m n (q + word ws q) (omega arith) in grind (arith, nat_tests)

-- a point at which a step is made
abbrev pub IsPlace : Point → Type 0
IsPlace (Inside g) = ⊥
IsPlace (Tried i) = ⊥
IsPlace TriedAgain = ⊥
IsPlace pt = ⊤

pub is_place : (ws : List ℕ) (s : Subject) (pt : Point) (x : Spot) (mv : Move) → MovesAt ws s pt x mv → IsPlace pt
is_place ws s (Inside g) x mv h = absurd h
is_place ws s (Tried i) x mv h = absurd h
is_place ws s TriedAgain x mv h = absurd h
is_place ws s pt x mv h = tt

-- where a step is made there is enough for it
pub some_price : (ws : List ℕ) (e : ℕ) (pt : Point) (p : ℕ) → IsPlace pt → 1 ≤ price ws e pt p
some_price ws e (Instruction i) p at = some_steps ws i
some_price ws e (Alternatives q) p at = branch_some ws (length ws - q) q
some_price ws e (Inside g) p at = absurd at
some_price ws e (Tried i) p at = absurd at
some_price ws e TriedAgain p at = absurd at
some_price ws e pt p at = omega arith

-- an alternative is paid for, and those behind it
branch_pays : (ws : List ℕ) (q v : ℕ) → q < length ws → word ws q ≡ v → nat_eq v 0 ≡ false
    → steps ws (q + 1) + branch_price ws (q + v) + 2 ≤ branch_price ws q
unfolding branch_in
branch_pays ws q v inside is some =
    subst (λ n. steps ws (q + 1) + branch_price ws (q + v) + 2 ≤ branch_in ws n q) (sym one_word) behind_it
  where
    one_word : length ws - q ≡ suc (length ws - q - 1)
    one_word = omega (arith, inside)

    fewer : 1 ≤ v → branch_price ws (q + v) ≤ branch_in ws (length ws - q - 1) (q + v)
    fewer l = branch_more ws (length ws - (q + v)) (length ws - q - 1) (q + v) (omega (arith, l))

    behind_it : steps ws (q + 1) + branch_price ws (q + v) + 2
        ≤ cond (nat_eq (word ws q) 0) 1 (steps ws (q + 1) + 2 + branch_in ws (length ws - q - 1) (q + word ws q))
    behind_it = rw (is, some) (omega (arith, fewer (grind (arith, nat_tests))))

-- one end fewer costs one price less
one_end : (n k : ℕ) → 1 ≤ k → (k - 1) * n + n ≤ k * n
one_end n k l =
    let same : (k - 1 + 1) * n ≡ k * n = ap (λ a. a * n) (omega arith) in
    omega (arith, same, add-mul (k - 1) 1 n, one-mul n)

-- fewer ends cost no more than all
fewer_ends : (n k m : ℕ) → k ≤ m → k * n + n ≤ (1 + m) * n
fewer_ends n k m l =
    let each : k * n ≤ m * n = mul-le-mul l (omega arith) in
    omega (arith, each, add-mul 1 m n, one-mul n)

-- a repeat has no more characters than the range, and no more than its greatest count
run_fits : (s : Subject) (t : Test) (high p : ℕ)
    → longest_run s t high p ≤ cond (nat_eq high unlimited) s.end (min high s.end)
run_fits s t high p =
    let inside : longest_run s t high p ≤ s.end = omega (arith, run_inside s t (most_from s high p) p) in
    grind (arith, nat_tests, run_at_most s t (most_from s high p) p)

-- behind its least count it has no more ends than beside one
ends_fit : (ws : List ℕ) (e i n p : ℕ) → word ws (i + 2) ≡ n → more_ends ws e i n (p + n) ≤ ends_beside ws e i
ends_fit ws e i n p is = grind (arith, nat_tests)

-- and a character more leaves one end fewer
one_end_less : (ws : List ℕ) (e i n p : ℕ) → n ≤ p → p < e
    → (nat_eq (word ws (i + 3)) unlimited || nat_lt n (word ws (i + 3))) ≡ true
    → (more_ends ws e i (n + 1) (p + 1) ≡ more_ends ws e i n p - 1) × (1 ≤ more_ends ws e i n p)
one_end_less ws e i n p past inside more = (grind (arith, nat_tests), grind (arith, nat_tests))

-- what an instruction has, with its credits, pays for a step and for where it goes on
module _ (ws : List ℕ) (e i : ℕ) (ks : List ℕ) where
  abbrev owned : Role → ℕ
  owned f = steps_by ws (λ (j : ℕ). steps ws j) i f + toll_by ws e i ks f

  ends_by_toll : (k : ℕ) → k ≤ ends_beside ws e i
      → steps ws (skip ws (i + 1)) + (k * (steps ws (skip ws (i + 1)) + 2) + 1) + 2
      ≤ 1 + (1 + ends_beside ws e i) * end_price ws i
  ends_by_toll k l = omega (arith, fewer_ends (end_price ws i) k (ends_beside ws e i) l)

  module _ (o : SreOpcode) (here : Opcode ws i o) where
    owned_is : {f : Role} → role o ≡ f → price ws e (Instruction i) 0 + toll_by ws e i ks (role o) ≡ owned f
    owned_is {f} is =
        ap (λ n. n + toll_by ws e i ks (role o)) (steps_told ws i (role o) (role_here ws i o (role o) here refl))
        ∙ ap (λ g. owned g) is

    goes_on_paid : {s : Subject} {p q : ℕ} {f : Role} {pt : Point} → role o ≡ f → GoesOn ws s i p f pt q
        → price ws e pt q + 1 ≤ owned f
    goes_on_paid is (behind_test {kind = kind} {j = j} {t = t} stands passed) =
        let roles : ToTest (test_kind t) ≡ ToTest kind = sym (test_role t)
        ∙ ap (λ c. role c) (same_opcode ws i (test_opcode t) o stands.code here) ∙ is in
        let same : test_kind t ≡ kind = cc in
        let end = test_ends t ws i j stands.operands ∙ ap (λ k. test_end ws i k) same in
        omega (arith, ap (λ j. steps ws j) end)
    goes_on_paid is (run_on operands more) =
        let one : steps ws i ≡ 1 = steps_told ws i (ToRun PossessiveRun)
        (role_here ws i o (ToRun PossessiveRun) here is) in
        omega (arith, one, some_steps ws (skip ws (i + 1)))
    goes_on_paid is on = omega arith

module _ (ws : List ℕ) (s : Subject) (p : ℕ) (fs : List Frame) (o : SreOpcode) where
  abbrev Has : Point → ℕ
  Has pt = price ws s.end pt p + toll ws s.end o pt (repeats fs)

  -- what an instruction of another opcode has there, which is the same
  has_is : (i : ℕ) (c : SreOpcode) {f : Role} → CodeAt ws (Instruction i) o → Opcode ws i c → role c ≡ f
      → (Has (Instruction i) ≡ owned ws s.end i (repeats fs) f) × (role o ≡ f)
  has_is i c w there is =
      let same : role o ≡ role c = ap (λ x. role x) (same_opcode ws i o c w there) in
      (owned_is ws s.end i (repeats fs) o w (same ∙ is), same ∙ is)

  forks_paid : {pt first rest : Point} {q : ℕ} → CodeAt ws pt o → Forks ws s p pt first rest q
      → price ws s.end first q + price ws s.end rest q + 2 ≤ Has pt
  forks_paid w (greedy_run {i = i} {low = low} {high = high} {test = test} c there is operands full) =
      let least = word_of ws (i + 2) low operands.lowest in
      let fits = subst (λ n. longest_run s test high p ≤ cond (nat_eq n unlimited) s.end (min n s.end))
      (sym (word_of ws (i + 3) high operands.highest)) (run_fits s test high p) in
      omega (
        arith,
        (has_is i c w there is).0,
        ends_by_toll ws s.end i (repeats fs) (longest_run s test high p - low) (omega (arith, least, fits)),
      )
  forks_paid w (lazy_run {i = i} {low = low} c there is operands full) =
      let few = ends_fit ws s.end i low p (word_of ws (i + 2) low operands.lowest) in
      omega (
        arith,
        (has_is i c w there is).0,
        ends_by_toll ws s.end i (repeats fs) (more_ends ws s.end i low (p + low)) few,
      )
  forks_paid w (next_alternative {q = q} inside some) =
      omega (arith, branch_pays ws q (word ws q) inside refl some)
  forks_paid w (next_shorter {t = t} {k = k} some) = omega (arith, one_end (steps ws t + 2) k some)
  forks_paid w (next_longer {i = i} {n = n} {high = high} {test = test} operands past more passed) =
      let goes_on = subst (λ m. (nat_eq m unlimited || nat_lt n m) ≡ true)
      (sym (word_of ws (i + 3) high operands.highest)) more in
      let left = one_end_less ws s.end i n p past (passes-below s test p passed) goes_on in
      let same = ap (λ d. d * end_price ws i) left.0 in
      omega (arith, same, one_end (end_price ws i) (more_ends ws s.end i n p) left.1)

  turn_paid : {gs : List Frame} {m n : Marks} {pt : Point} {v w : Move} → Turned ws s p fs gs m n pt v w
      → 1 ≤ Has pt → CodeAt ws pt o → Covers (enters_at o pt) ws s.end (Has pt) v
  turn_paid stopped some code = some
  turn_paid (ended {i = i} c there is) some code = omega (arith, (has_is i c code there is).0)
  turn_paid (went {i = i} x) some code =
      omega (
        arith,
        (has_is i x.code code x.there refl).0,
        goes_on_paid ws s.end i (repeats fs) x.code x.there refl x.goes,
      )
  turn_paid (forked f a b on) some code = forks_paid code f
  turn_paid (marked {i = i} c there is number) some code = omega (arith, (has_is i c code there is).0)
  turn_paid {m = m} (grouped {g = g} c there is asked number v w each) some code =
      turn_paid (each (group m g)) some code
  turn_paid (begun {i = i} c there b same) some code =
      omega (arith, (has_is i c code there refl).0, begins_paid (role c) i c b)
    where
      begins_paid : (f : Role) (i : ℕ) (c : SreOpcode) {pt : Point} → Begins ws i f pt
          → price ws s.end pt p + 1 ≤ owned ws s.end i (repeats fs) f
      begins_paid f i c plain_loop = omega arith
      begins_paid f i c possessive_loop = omega arith
  turn_paid (entered {i = i} {j = j} {q = q} {g = g} c there b l far on) some code =
      let told = has_is i c code there refl in
      let paid = enters_paid (role c) i c b in
      (ap enters told.1 ∙ paid.0, omega (arith, told.0, paid.1))
    where
      enters_paid : (f : Role) (i : ℕ) (c : SreOpcode) {back j : ℕ} {g : Region} → Enters ws i f back j g
          → (enters f ≡ true) × (steps ws j + aside ws g + 1 ≤ owned ws s.end i (repeats fs) f)
      enters_paid f i c atomic_group = (refl, omega arith)
      enters_paid f i c (lookaround {sign = Positive} there) = (refl, omega arith)
      enters_paid f i c (lookaround {sign = Negative} there) = (refl, omega arith)
  turn_paid (looped {u = u} c order there is h k) some code =
      let has : 1 + loop_toll ws (repeats fs) u ≤ Has (Instruction u) = omega (arith, (has_is u c code there is).0) in
      let paid = subst (λ gs. 1 + loop_toll ws (repeats gs) u ≤ Has (Instruction u)) h.inside has in
      until_holds (Covers (enters_at o (Instruction u)) ws s.end (Has (Instruction u))) order u h (omega (arith, paid))
      (omega (arith, paid)) (omega (arith, paid)) (omega (arith, paid))
  turn_paid (repeated h k) some code =
      let has : 1 + again_toll ws (repeats fs) ≤ Has Again = omega arith in
      let paid = subst (λ gs. 1 + again_toll ws (repeats gs) ≤ Has Again) h.inside has in
      again_holds (Covers true ws s.end (Has Again)) h
      (refl, omega (arith, paid, some_steps ws (skip ws (h.frame.repeat + 1) + 1))) (refl, omega (arith, paid))
      (omega (arith, paid))

-- a step from any point is paid for, with the credits of the point
pub step_covered : (ws : List ℕ) (s : Subject) (pt : Point) (fs : List Frame) (p : ℕ) (m : Marks) (o : SreOpcode)
    (mv : Move) → CodeAt ws pt o → MovesAt ws s pt (spot_at pt fs p m) mv
    → Covers (enters_at o pt) ws s.end (price ws s.end pt p + toll ws s.end o pt (repeats fs)) mv
step_covered ws s pt fs p m o mv w h =
    turn_paid ws s p fs o (point_turned ws s p fs fs m m pt mv mv h h)
    (omega (arith, some_price ws s.end pt p (is_place ws s pt (spot_at pt fs p m) mv h))) w

-- what is put aside where a scope is entered pays for what is behind it, and for the step to come there
pub behind_covered : (ws : List ℕ) (e q : ℕ) (g : Region) → price ws e (point_behind g) q + 1 ≤ aside ws g
behind_covered ws e q (Further t) = omega (arith, some_steps ws t)
behind_covered ws e q g = omega arith

-- a lazy repeat whose further ends have still to be tried may go on as the same repeat from later on
pub later_run_covered : (ws : List ℕ) (e i n p : ℕ) (o : SreOpcode) (kind : RunKind) → Opcode ws i o
    → role o ≡ ToRun kind → price ws e (Instruction i) p ≤ price ws e (Longer i n) p
later_run_covered ws e i n p o kind w runs =
    let one : steps ws i ≡ 1 = steps_told ws i (ToRun kind) (role_here ws i o (ToRun kind) w runs) in omega (arith, one)

-- the credits for a repeat that is split
pub split_is : (ws : List ℕ) (i : ℕ) (o : SreOpcode) (kind : RunKind) → Opcode ws i o → role o ≡ ToRun kind
    → split_toll ws (Instruction i) ≡ end_price ws i
split_is ws i o kind w runs = ap (λ f. split_by ws i f) (role_there ws i o w ∙ runs)
