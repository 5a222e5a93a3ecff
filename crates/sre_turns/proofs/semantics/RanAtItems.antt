-- The bytecode of items has their match paths: of tests, positions, captures, jumps and alternatives, of
-- back-references and conditionals, of atomic groups and lookarounds.
use Rattle.sre_turns.proofs.Terms.{◌≡◌, ℕ, suc, ◌+◌, ◌<◌, ◌≤◌, Bool, true, false, cond, nat_lt, nat_eq, List, [], ◌++◌}
use Rattle.sre_turns.proofs.Terms.{length, refl, subst, arith, ◌-◌, ◌&&◌, nat_le, ap, Option, Some, None, ◌∷◌, map}
use Rattle.sre_turns.proofs.Terms.{append-nil, nat_tests, at_number, SreAtCode, Test, Fold, Sign, Positive, Negative}
use Rattle.sre_turns.proofs.Terms.{Marks, set_mark, group, passes, holds_at, same_folded, Way, Body, here, item_ways}
use Rattle.sre_turns.proofs.Terms.{first, Word, Opcode, skip, JumpsTo, test_opcode, TestOperands, word, passes-below}
use Rattle.sre_turns.proofs.Terms.{Bounded, EachBetween, Frame, Instruction, spot_at, Stop, Go, Runs, turns, stops}
use Rattle.sre_turns.proofs.Terms.{goes, splits, Moves, enters, Comes, test_kind, test_role, reference_role, look_role}
use Rattle.sre_turns.proofs.Terms.{word_past, Costs, item_cost, ending, leb-true, and_parts, MayAsk, Asks, asks}
use Rattle.sre_turns.proofs.Terms.{reference_turn, condition_place, IsConfined, MarklessRegions, look, Subject}
use Rattle.sre_turns.proofs.Terms.{Alternatives, Spot, Move, Enter, closing_move, reference_ways, look_ways}
use Rattle.sre_turns.proofs.Terms.{reference_cost, condition_cost, look_cost, looked_cost, flat_map, ends, zero}
use Rattle.sre_turns.proofs.Terms.{GreedyRun, LazyRun, PossessiveRun, unlimited, run_length, longest_run, RunOperands}
use Rattle.sre_turns.proofs.Terms.{longest_run-fits, goes_on, Shorter, Longer, falling, rising, run_ways}
use Rattle.sre_turns.proofs.Terms.{longest_goes_on, longest_stops, least_there, least_short, shorter_cost, run_cost}
use Rattle.sre_turns.proofs.Terms.{longer_cost, lazy_run_cost, longest_run_cost}
use Rattle.sre_model.specs.Tree.{One, At, Mark}
use Rattle.sre_model.specs.Grammar.{reference_opcode, look_opcode}
use Rattle.sre_model.specs.Cost.{atomic_cost}
use Rattle.sre_turns.specs.declared.Region.TheVariants.{AtomicGroup}
use Rattle.sre_model.specs.Roles.{ToTest, ToCheckPosition, ToMark, ToJump, ToRefer, ToCheckGroup, ToGroupAtomically}
use Rattle.sre_model.specs.Roles.{ToLook, ToEnd}
use Rattle.sre_chars.specs.declared.constants.SreOpcode.TheVariants as opcode
use Rattle.sre_turns.specs.Machine.{Point, End}
use Rattle.sre_turns.proofs.semantics.Moving.{at_instruction}
use Rattle.sre_turns.proofs.semantics.StepsInRuns.{greedy_stops, greedy_splits, lazy_none, lazy_splits, longer_none}
use Rattle.sre_turns.proofs.semantics.StepsInRuns.{longer_splits}
use Rattle.sre_turns.proofs.semantics.StepsInPossessiveRuns.{longest_runs, longest_none}

-- The outcomes at a point, where what follows is known.

-- what follows each of some ways
abbrev pub followed : Body → List Way → List Way
followed K os = flat_map (λ (w : Way). K w.stop w.marks) os

-- from each position from p on the outcomes are K and the turns C
abbrev pub Follows : List ℕ → Subject → ℕ → Point → List Frame → Body → Costs → Type 0
Follows ws s p pt fs K C = (q : ℕ) (m : Marks) → p ≤ q → q ≤ s.end → Runs ws s (spot_at pt fs q m) (K q m) (C q m)

-- from a point the outcomes are the ways W and what follows each of them at j
abbrev pub Ran : List ℕ → Subject → Point → ℕ → Body → (Costs → Costs) → Type 0
Ran ws s pt j W counted =
    (fs : List Frame) (K : Body) (C : Costs) (p : ℕ) (m : Marks) → p ≤ s.end → Follows ws s p (Instruction j) fs K C
    → Runs ws s (spot_at pt fs p m) (followed K (W p m)) (counted C p m)

pub moved : {ws : List ℕ} {s : Subject} {fs : List Frame} {p n i j : ℕ} {m : Marks} {os : List Way} → j ≡ i
    → Runs ws s (spot_at (Instruction j) fs p m) os n → Runs ws s (spot_at (Instruction i) fs p m) os n
moved {ws} {s} {fs} {p} {n} {i} {j} {m} {os} e h = subst (λ x. Runs ws s (spot_at (Instruction x) fs p m) os n) e h

-- one way alone
pub alone : {ws : List ℕ} {s : Subject} {x : Spot} {n : ℕ} {os : List Way} → Runs ws s x os n → Runs ws s x (os ++ []) n
alone h = rw append-nil h

singles : (os : List Way) → followed here os ≡ os
singles [] = refl
singles (w ∷ os) = ap (λ l. w ∷ l) (singles os)

-- a region, whose last word is SUCCESS
pub region : (ws : List ℕ) (s : Subject) (i k : ℕ) (W : Body) (counted : Costs → Costs)
    → Ran ws s (Instruction i) k W counted → Opcode ws k opcode.SUCCESS → (fs : List Frame) (p : ℕ) (m : Marks)
    → p ≤ s.end → Runs ws s (spot_at (Instruction i) fs p m) (W p m) (counted ending p m)
region ws s i k W counted r w fs p m e =
    subst (λ x. Runs ws s (spot_at (Instruction i) fs p m) x (counted ending p m)) (singles (W p m))
    (r fs here ending p m e (λ q l _ _. turns End (at_instruction opcode.SUCCESS ToEnd refl w refl) ends))

-- a step that goes on where a test holds, and else comes to nothing
tested : {ws : List ℕ} {s : Subject} {x : Spot} {j q : ℕ} {fs : List Frame} {m : Marks} (K : Body) (C : Costs)
    (y : Bool) → Moves ws s x (cond y (Go (spot_at (Instruction j) fs q m)) Stop)
    → (y ≡ true → Runs ws s (spot_at (Instruction j) fs q m) (K q m) (C q m))
    → Runs ws s x (followed K (cond y (here q m) [])) (cond y (suc (C q m)) 1)
tested K C true h d = turns _ h (goes (alone (d refl)))
tested K C false h d = turns Stop h stops

pub one-ran : (ws : List ℕ) (s : Subject) (i j : ℕ) (t : Test) → Opcode ws i (test_opcode t) → TestOperands ws i j t
    → Ran ws s (Instruction i) j (λ p m. item_ways s (One t) p m) (λ C p m. item_cost s (One t) C p m)
one-ran ws s i j t w h fs K C p m e f =
    tested K C (passes s t p)
    (at_instruction (test_opcode t) (ToTest (test_kind t)) (test_role t) w
    (record { end = j; test = t; stands = record { code = w; operands = h }; is = refl }))
    (λ y. f (p + 1) m (omega arith) (omega (arith, passes-below s t p y)))

pub at-ran : (ws : List ℕ) (s : Subject) (i j : ℕ) (a : SreAtCode) → Opcode ws i opcode.AT
    → Word ws (i + 1) (at_number a) → j ≡ i + 2
    → Ran ws s (Instruction i) j (λ p m. item_ways s (At a) p m) (λ C p m. item_cost s (At a) C p m)
at-ran ws s i j a w h l fs K C p m e f =
    tested K C (holds_at s a p)
    (at_instruction opcode.AT ToCheckPosition refl w (record { code = a; there = h; is = refl }))
    (λ y. moved l (f p m (omega arith) e))

-- an alternative, and those behind it
pub alternative-ran : (ws : List ℕ) (s : Subject) (q v n₁ n₂ : ℕ) (fs : List Frame) (p : ℕ) (m : Marks)
    (os₁ os₂ : List Way)
    → Word ws q v → 0 < v → Runs ws s (spot_at (Instruction (q + 1)) fs p m) os₁ n₁
    → Runs ws s (spot_at (Alternatives (q + v)) fs p m) os₂ n₂
    → Runs ws s (spot_at (Alternatives q) fs p m) (os₁ ++ os₂) (suc (suc (n₁ + n₂)))
alternative-ran ws s q v n₁ n₂ fs p m os₁ os₂ w l x y =
    let more : nat_eq v 0 ≡ false = grind (arith, nat_tests) in
    turns _ (record { value = v; there = w; is = rw more refl }) (splits x y)

-- the last alternative has no other behind it
pub last_alternative : (ws : List ℕ) (s : Subject) (q v n : ℕ) (fs : List Frame) (p : ℕ) (m : Marks) (os : List Way)
    → Word ws q v → 0 < v → Word ws (q + v) 0 → Runs ws s (spot_at (Instruction (q + 1)) fs p m) os n
    → Runs ws s (spot_at (Alternatives q) fs p m) os (suc (suc (n + 1)))
last_alternative ws s q v n fs p m os w l z h =
    subst (λ x. Runs ws s (spot_at (Alternatives q) fs p m) x (suc (suc (n + 1)))) (append-nil os)
    (alternative-ran ws s q v n 1 fs p m os [] w l h (turns Stop (record { value = 0; there = z; is = refl }) stops))

-- a skip word that leads on is there
pub skip_there : (ws : List ℕ) (q : ℕ) → q < skip ws q → q < length ws
skip_there ws q l = grind (arith, word_past ws q)

pub jump-ran : (ws : List ℕ) (s : Subject) (k j : ℕ) → k + 1 < j → JumpsTo ws k j
    → (fs : List Frame) (K : Body) (C : Costs) (q : ℕ) (m : Marks)
    → Runs ws s (spot_at (Instruction j) fs q m) (K q m) (C q m)
    → Runs ws s (spot_at (Instruction k) fs q m) (K q m) (suc (C q m))
jump-ran ws s k j l h fs K C q m r =
    turns (Go (spot_at (Instruction j) fs q m)) (at_instruction opcode.JUMP ToJump refl h.0 (record {
      there = skip_there ws (k + 1) (omega (arith, h.1));
      is = rw (← h.1) refl;
    })) (goes r)

pub mark-ran : (ws : List ℕ) (s : Subject) (i j n : ℕ) → Opcode ws i opcode.MARK → Word ws (i + 1) n → j ≡ i + 2
    → Ran ws s (Instruction i) j (λ p m. item_ways s (Mark n) p m) (λ C p m. item_cost s (Mark n) C p m)
mark-ran ws s i j n w h l fs K C p m e f =
    turns _ (at_instruction opcode.MARK ToMark refl w (record { number = n; there = h; is = refl }))
    (goes (moved l (alone (f p (set_mark m n p) (omega arith) e))))

pub reference-ran : (ws : List ℕ) (s : Subject) (i j g : ℕ) (f : Fold) → MayAsk ws g
    → Opcode ws i (reference_opcode f) → Word ws (i + 1) g → j ≡ i + 2
    → Ran ws s (Instruction i) j (λ p m. reference_ways s f g p m) (λ C p m. reference_cost s f (group m g) C p m)
reference-ran ws s i j g f may w there l fs K C p m e after = from (group m g) refl
  where
    asked : Asks ws g
    asked = (
      may,
      record {
        place = i;
        opcode = reference_opcode f;
        code = w;
        asks = ap (λ o. asks o) (reference_role f);
        there = there;
      },
    )

    x : Spot
    x = spot_at (Instruction i) fs p m

    move : (mv : Move) → mv ≡ reference_turn s f g (i + 2) x → Moves ws s x mv
    move mv is =
        at_instruction (reference_opcode f) ToRefer (reference_role f) w
        (record { fold = f; number = g; asked = asked; code = w; there = there; is = is })

    from : (o : Option (ℕ × ℕ)) → group m g ≡ o
        → Runs ws s x
        (followed K (elim o [
          | None ↦ []
          | (Some u) ↦
              cond (nat_le (p + (u.1 - u.0)) s.end && same_folded s f (u.1 - u.0) u.0 p) (here (p + (u.1 - u.0)) m) []
        ])) (reference_cost s f o C p m)
    from None known = turns Stop (move Stop (rw (known, reference_turn) refl)) stops
    from (Some u) known =
        let n : ℕ = u.1 - u.0 in
        tested K C (nat_le (p + n) s.end && same_folded s f n u.0 p) (move _ (rw (known, reference_turn) refl))
        (λ y.
        let inside = leb-true (p + n) s.end (and_parts (nat_le (p + n) s.end) (same_folded s f n u.0 p) y).0 in
        moved l (after (p + n) m (omega arith) inside))

-- what follows the part that is taken
pub present-followed : (K : Body) (o : Option (ℕ × ℕ)) (present absent : List Way)
    → followed K (elim o [ None ↦ absent | (Some _) ↦ present ])
    ≡ elim o [ None ↦ followed K absent | (Some _) ↦ followed K present ]
present-followed K None present absent = refl
present-followed K (Some u) present absent = refl

-- a condition, where its parts are known: what follows the yes part ends with a JUMP if there is a no part
module _ (ws : List ℕ) (s : Subject) (i g : ℕ) (may : MayAsk ws g) (w : Opcode ws i opcode.GROUPREF_EXISTS)
    (there : Word ws (i + 1) g) (skips : i + 2 < length ws) where
  asked : Asks ws g
  asked = (
    may,
    record { place = i; opcode = opcode.GROUPREF_EXISTS; code = w; asks = refl; there = there },
  )

  pub condition-ran : (fs : List Frame) (p : ℕ) (m : Marks) (present absent : List Way) (yes_ no_ : ℕ)
      → Runs ws s (spot_at (Instruction (i + 3)) fs p m) present yes_
      → Runs ws s (spot_at (Instruction (i + 1 + word ws (i + 2))) fs p m) absent no_
      → Runs ws s (spot_at (Instruction i) fs p m) (elim (group m g) [ None ↦ absent | (Some _) ↦ present ])
      (condition_cost (group m g) yes_ no_)
  condition-ran fs p m present absent yes_ no_ h k = from (group m g) refl
    where
      x : Spot
      x = spot_at (Instruction i) fs p m

      leads : (t : ℕ) → t ≡ condition_place ws i g m → Moves ws s x (Go (spot_at (Instruction t) fs p m))
      leads t e =
          at_instruction opcode.GROUPREF_EXISTS ToCheckGroup refl w
          (record {
            number = g;
            asked = asked;
            there = there;
            skips = skips;
            is = ap (λ q. Go (spot_at (Instruction q) fs p m)) e;
          })

      from : (o : Option (ℕ × ℕ)) → group m g ≡ o
          → Runs ws s x (elim o [ None ↦ absent | (Some _) ↦ present ]) (condition_cost o yes_ no_)
      from None known =
          turns _ (leads _ (rw (known, condition_place) refl)) (goes k)
      from (Some u) known =
          turns (Go (spot_at (Instruction (i + 3)) fs p m)) (leads (i + 3) (rw (known, condition_place) refl)) (goes h)

-- an atomic group, where its body has some ways
atomic-closed : (ws : List ℕ) (s : Subject) (x : Spot) (j : ℕ) (K : Body) (C : Costs) (os : List Way)
    → EachBetween s x.position os → Follows ws s x.position (Instruction j) x.frames K C
    → Comes ws s x (closing_move (AtomicGroup j) x os) (followed K (first os)) (atomic_cost C os)
atomic-closed ws s x j K C [] b f = stops
atomic-closed ws s x j K C (w ∷ os) b f = goes (alone (f w.stop w.marks b.0.0 b.0.1))

-- what a look has where its body has some ways
abbrev looked : Sign → ℕ → Marks → List Way → List Way
looked Positive p m os = map (λ (w : Way). record { stop = p; marks = w.marks }) (first os)
looked Negative p m os = elim os [ [] ↦ here p m | (w ∷ _) ↦ [] ]

looked_is : (sign : Sign) (back : ℕ) (W : Body) (p : ℕ) (m : Marks)
    → looked sign p m (cond (nat_lt p back) [] (W (p - back) m)) ≡ look_ways sign back W p m
looked_is sign back W p m = go sign (nat_lt p back) refl
  where
    go : (sign : Sign) (y : Bool) → nat_lt p back ≡ y
        → looked sign p m (cond (nat_lt p back) [] (W (p - back) m)) ≡ look_ways sign back W p m
    go Positive true e = rw e refl
    go Positive false e = rw e refl
    go Negative true e = rw e refl
    go Negative false e = rw e refl

look-closed : (ws : List ℕ) (s : Subject) (x : Spot) (j : ℕ) (K : Body) (C : Costs) (sign : Sign) (os : List Way)
    → x.position ≤ s.end → Follows ws s x.position (Instruction j) x.frames K C
    → Comes ws s x (closing_move (look sign j) x os) (followed K (looked sign x.position x.marks os))
    (look_cost sign C x.position x.marks os)
look-closed ws s x j K C Positive [] e f = stops
look-closed ws s x j K C Positive (w ∷ os) e f = goes (alone (f x.position w.marks (omega arith) e))
look-closed ws s x j K C Negative [] e f = goes (alone (f x.position x.marks (omega arith) e))
look-closed ws s x j K C Negative (w ∷ os) e f = stops

module _ (ws : List ℕ) (s : Subject) (i j k : ℕ) (W : Body) (counted : Costs → Costs)
    (r : Ran ws s (Instruction k) (j - 1) W counted) (ends : Opcode ws (j - 1) opcode.SUCCESS)
    (leads : j ≡ skip ws (i + 1)) (lies : MarklessRegions ws → IsConfined ws (Instruction k) []) where
  pub atomic-ran : Opcode ws i opcode.ATOMIC_GROUP → i + 1 < length ws → k ≡ i + 2 → Bounded s W
      → Ran ws s (Instruction i) j (λ p m. first (W p m)) (λ C p m. suc (counted ending p m + atomic_cost C (W p m)))
  atomic-ran w there at b fs K C p m e f =
      let x : Spot = spot_at (Instruction i) fs p m in
      let body : Spot = spot_at (Instruction k) [] p m in
      let move : Moves ws s x (Enter (AtomicGroup j) x body) =
      at_instruction opcode.ATOMIC_GROUP ToGroupAtomically refl w
      (record { there = there; is = rw (leads, at) refl }) in
      turns (Enter (AtomicGroup j) x body) move
      (enters lies (region ws s k (j - 1) W counted r ends [] p m e) (atomic-closed ws s x j K C (W p m) (b p m e) f))

  module _ (back : ℕ) (there : Word ws (i + 2) back) (at : k ≡ i + 3) where
    -- a look is entered, or comes too early
    pub look-ran : (sign : Sign) → Opcode ws i (look_opcode sign)
        → Ran ws s (Instruction i) j (λ p m. look_ways sign back W p m)
        (λ C p m. looked_cost sign back counted W C p m)
    look-ran sign w fs K C p m e f =
        subst (λ os. Runs ws s x (followed K os) (looked_cost sign back counted W C p m)) (looked_is sign back W p m)
        (go (nat_lt p back) refl)
      where
        x : Spot
        x = spot_at (Instruction i) fs p m

        early_or_entered : (y : Bool) → nat_lt p back ≡ y → Moves ws s x
            (cond y (closing_move (look sign j) x []) (Enter (look sign j) x (spot_at (Instruction k) [] (p - back) m)))
        early_or_entered y e =
            at_instruction (look_opcode sign) (ToLook sign) (look_role sign) w
            (record { back = back; there = there; is = rw (← leads, at, e) refl })

        go : (y : Bool) → nat_lt p back ≡ y
            → Runs ws s x (followed K (looked sign p m (cond y [] (W (p - back) m))))
            (cond y (look_cost sign C p m [])
            (suc (counted ending (p - back) m + look_cost sign C p m (W (p - back) m))))
        go true y =
            turns (closing_move (look sign j) x []) (early_or_entered true y) (look-closed ws s x j K C sign [] e f)
        go false y =
            turns (Enter (look sign j) x (spot_at (Instruction k) [] (p - back) m)) (early_or_entered false y)
            (enters lies (region ws s k (j - 1) W counted r ends [] (p - back) m (omega arith))
            (look-closed ws s x j K C sign (W (p - back) m) e f))

-- The bytecode of a single-character repeat has its match paths.

shorter-ran : (ws : List ℕ) (s : Subject) (j low n : ℕ) (fs : List Frame) (K : Body) (C : Costs) (p : ℕ) (m : Marks)
    → p + (low + n) ≤ s.end → Follows ws s p (Instruction j) fs K C
    → Runs ws s (spot_at (Shorter j n) fs (p + (low + n)) m)
    (followed K (map (λ c. record { stop = p + c; marks = m }) (falling low n))) (shorter_cost C low n p m)
shorter-ran ws s j low zero fs K C p m e f = turns Stop (record { past = omega arith; is = refl }) stops
shorter-ran ws s j low (suc n) fs K C p m e f =
    let before : p + (low + suc n) - 1 ≡ p + (low + n) = omega arith in
    let less : suc n - 1 ≡ n = omega arith in
    let more : nat_eq (suc n) 0 ≡ false = grind (arith, nat_tests) in
    turns _ (record { past = omega arith; is = rw (more, before, less) refl })
    (splits (f (p + (low + n)) m (omega arith) (omega arith)) (shorter-ran ws s j low n fs K C p m (omega arith) f))

pub run-ran : (ws : List ℕ) (s : Subject) (i j low high : ℕ) (t : Test)
    → Opcode ws i opcode.REPEAT_ONE → j ≡ skip ws (i + 1) → RunOperands ws i low high (j - 1) t
    → Ran ws s (Instruction i) j (λ p m. run_ways s GreedyRun low high t p m)
    (λ C p m. run_cost low (longest_run s t high p) C p m)
run-ran ws s i j low high t w tail o fs K C p m e f = go (nat_lt (longest_run s t high p) low) refl
  where
    k : ℕ
    k = longest_run s t high p

    fits : p + longest_run s t high p ≤ s.end
    fits = longest_run-fits s t high p e

    go : (y : Bool) → nat_lt k low ≡ y
        → Runs ws s (spot_at (Instruction i) fs p m)
        (followed K (map (λ n. record { stop = p + n; marks = m }) (falling low (k + 1 - low))))
        (cond y 1 (suc (suc (C (p + k) m + shorter_cost C low (k - low) p m))))
    go true y =
        let l : k < low = grind (arith, nat_tests) in let z : k + 1 - low ≡ 0 = omega arith in
        rw z (turns Stop (greedy_stops o w refl l) stops)
    go false y =
        let l : low ≤ k = grind (arith, nat_tests) in
        let d : k + 1 - low ≡ suc (k - low) = omega arith in
        let b : low + (k - low) ≡ k = omega arith in
        let others : Runs ws s (spot_at (Shorter j (k - low)) fs (p + k) m)
        (followed K (map (λ c. record { stop = p + c; marks = m }) (falling low (k - low))))
        (shorter_cost C low (k - low) p m) =
        rw b at (shorter-ran ws s j low (k - low) fs K C p m (omega (arith, fits)) f) in
        rw (d, b)
        (turns _ (greedy_splits o w tail refl l refl)
        (splits (f (p + k) m (omega arith) fits) others))

-- the longer counts of a lazy run, behind c characters of it
longer-ran : (ws : List ℕ) (s : Subject) (i j low high : ℕ) (t : Test) (n c : ℕ) (fs : List Frame) (K : Body)
    (C : Costs) (p : ℕ) (m : Marks)
    → j ≡ skip ws (i + 1) → RunOperands ws i low high (j - 1) t → p ≤ s.end → c + n ≡ longest_run s t high p
    → Follows ws s p (Instruction j) fs K C
    → Runs ws s (spot_at (Longer i c) fs (p + c) m)
    (followed K (map (λ d. record { stop = p + d; marks = m }) (rising (c + 1) n))) (longer_cost C c n p m)
longer-ran ws s i j low high t zero c fs K C p m tail o e k f =
    let all : longest_run s t high p ≡ c = omega (arith, k) in
    let last : goes_on s t high c (p + c) ≡ false = rw all at (longest_stops s t high p e) in
    turns Stop (longer_none o (omega arith) last) stops
longer-ran ws s i j low high t (suc n) c fs K C p m tail o e k f =
    let more : goes_on s t high c (p + c) ≡ true = longest_goes_on s t high p e c (omega (arith, k)) in
    let fits : p + longest_run s t high p ≤ s.end = longest_run-fits s t high p e in
    turns _ (longer_splits o tail (omega arith) more (omega arith))
    (splits (f (p + (c + 1)) m (omega arith) (omega (arith, k, fits)))
    (longer-ran ws s i j low high t n (c + 1) fs K C p m tail o e (omega (arith, k)) f))

pub lazy-run-ran : (ws : List ℕ) (s : Subject) (i j low high : ℕ) (t : Test) → Opcode ws i opcode.MIN_REPEAT_ONE
    → j ≡ skip ws (i + 1) → RunOperands ws i low high (j - 1) t → low ≤ high
    → Ran ws s (Instruction i) j (λ p m. run_ways s LazyRun low high t p m)
    (λ C p m. lazy_run_cost low (longest_run s t high p) C p m)
lazy-run-ran ws s i j low high t w tail o le fs K C p m e f = go (nat_lt (longest_run s t high p) low) refl
  where
    k : ℕ
    k = longest_run s t high p

    go : (y : Bool) → nat_lt k low ≡ y
        → Runs ws s (spot_at (Instruction i) fs p m)
        (followed K (map (λ n. record { stop = p + n; marks = m }) (rising low (k + 1 - low))))
        (cond y 1 (suc (suc (C (p + low) m + longer_cost C low (k - low) p m))))
    go true y =
        let l : k < low = grind (arith, nat_tests) in
        let z : k + 1 - low ≡ 0 = omega arith in
        let short : run_length s t low p ≡ k = least_short s t high p e low le l in
        let few : run_length s t low p < low = omega (arith, short, l) in
        rw z (turns Stop (lazy_none o w few) stops)
    go false y =
        let l : low ≤ k = grind (arith, nat_tests) in
        let d : k + 1 - low ≡ suc (k - low) = omega arith in
        let fits : p + k ≤ s.end = longest_run-fits s t high p e in
        let there : run_length s t low p ≡ low = least_there s t high p e low l in
        rw d
        (turns _ (lazy_splits o w tail there refl)
        (splits (f (p + low) m (omega arith) (omega (arith, fits)))
        (longer-ran ws s i j low high t (k - low) low fs K C p m tail o e (omega (arith, l)) f)))

-- of a possessive run, in one turn with a greatest count, and else turn by turn
pub longest-run-ran : (ws : List ℕ) (s : Subject) (i j low high : ℕ) (t : Test)
    → Opcode ws i opcode.POSSESSIVE_REPEAT_ONE → j ≡ skip ws (i + 1) → RunOperands ws i low high (j - 1) t
    → Ran ws s (Instruction i) j (λ p m. run_ways s PossessiveRun low high t p m)
    (λ C p m. longest_run_cost low high (longest_run s t high p) C p m)
longest-run-ran ws s i j low high t w tail o fs K C p m e f = go (nat_lt k low) refl
  where
    k : ℕ
    k = longest_run s t high p

    go : (y : Bool) → nat_lt k low ≡ y
        → Runs ws s (spot_at (Instruction i) fs p m)
        (followed K (map (λ n. record { stop = p + n; marks = m }) (cond (nat_le low k) (k ∷ []) [])))
        (cond y 1 (cond (nat_eq high unlimited) (k - low) 0 + suc (C (p + k) m)))
    go true y =
        let few : nat_le low k ≡ false = grind (arith, nat_tests) in
        let short : k < low = grind (arith, nat_tests) in
        rw few (turns Stop (longest_none ws s i low high (j - 1) t fs m w o p short) stops)
    go false y =
        let enough : nat_le low k ≡ true = grind (arith, nat_tests) in
        rw enough
        (alone (longest_runs ws s i low high (j - 1) t fs m w o p (K (p + k) m) (C (p + k) m) (grind (arith, nat_tests))
        (moved tail (f (p + k) m (omega arith) (longest_run-fits s t high p e)))))
