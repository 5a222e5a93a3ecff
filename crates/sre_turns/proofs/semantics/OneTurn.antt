-- What a step does, in one of ten forms: the only file of laws of steps with a row for each role. A form is of two
-- steps at one point and position, under any loops and captures. That steps are determined, how far they reach, and
-- that equivalent configurations make equivalent steps follow from it.
use Rattle.sre_turns.proofs.Terms.{◌≡◌, ℕ, ◌+◌, List, ◌∷◌, refl, sym, ◌∙◌, subst, Marks, group, Way, Word, same_word}
use Rattle.sre_turns.proofs.Terms.{Point, Spot, Move, LoopMove, Moves, Runs, turns, Comes, Subject, Frame, Bool, true}
use Rattle.sre_turns.proofs.Terms.{false, cond, nat_lt, Some, Order, Greedy, Lazy, may_repeat, first, skip, Owed}
use Rattle.sre_turns.proofs.Terms.{Further, Split, at_body, behind, in_order, enter_body, UntilMove, AgainMove, Go, ◌-◌}
use Rattle.sre_turns.proofs.Terms.{◌<◌, ◌≤◌, ◌&&◌, ◌||◌, nat_eq, nat_le, length, [], Option, None, ap, arith, nat_tests}
use Rattle.sre_turns.proofs.Terms.{leb-true, and_parts, true≢false, SreOpcode, Test, RunKind, GreedyRun, LazyRun}
use Rattle.sre_turns.proofs.Terms.{PossessiveRun, Sign, Positive, Negative, Fold, set_mark, passes, holds_at}
use Rattle.sre_turns.proofs.Terms.{same_folded, unlimited, longest_run, run_length, Opcode, word, Role, role}
use Rattle.sre_turns.proofs.Terms.{TestStands, longest_run-fits, passes-below, run_passes, run_none, test_same}
use Rattle.sre_turns.proofs.Terms.{same_opcode, word_of, word_within, Region, Alternatives, Shorter, Longer, Again}
use Rattle.sre_turns.proofs.Terms.{least_from, End, Enter, closing_move, RunOperands, run_turn, first_frame, look, Asks}
use Rattle.sre_turns.proofs.Terms.{asks, reference_turn, condition_place, InRole, MovesAt, goes_behind, Instruction}
use Rattle.sre_turns.proofs.Terms.{spot_at, Stop, TestKind, same_reference_fold, same_at}
use Rattle.sre_turns.specs.declared.Region.TheVariants.{AtomicGroup}
use Rattle.sre_model.specs.Roles.{ToFail, ToEnd, ToTest, ToCheckPosition, ToMark, ToBranch, ToJump, ToRun, ToRepeat}
use Rattle.sre_model.specs.Roles.{ToLoop, ToRepeatPossessively, ToGroupAtomically, ToLook, ToRefer, ToCheckGroup}
use Rattle.sre_model.specs.Roles.{ToNothing}

-- from an instruction of a role and a position one goes on at others, under the loops in progress: the control flow
pub data GoesOn (ws : List ℕ) (s : Subject) (i p : ℕ) : Role → Point → ℕ → Type 0 where
  behind_test : {kind : TestKind} {j : ℕ} {t : Test} → TestStands ws i j t → passes s t p ≡ true
      → GoesOn ws s i p (ToTest kind) (Instruction j) (p + 1)
  behind_check : GoesOn ws s i p ToCheckPosition (Instruction (i + 2)) p
  behind_reference : {q : ℕ} → GoesOn ws s i p ToRefer (Instruction (i + 2)) q
  behind_jump : GoesOn ws s i p ToJump (Instruction (skip ws (i + 1))) p
  behind_look : {sign : Sign} → GoesOn ws s i p (ToLook sign) (Instruction (skip ws (i + 1))) p
  behind_run : {low high end q : ℕ} {test : Test} → RunOperands ws i low high end test
      → (passes s test p ≡ false → (low ≡ 0) × (q ≡ p))
      → GoesOn ws s i p (ToRun PossessiveRun) (Instruction (skip ws (i + 1))) q
  run_on : {low high end : ℕ} {test : Test} → RunOperands ws i low high end test → (passes s test p ≡ false → ⊥)
      → GoesOn ws s i p (ToRun PossessiveRun) (Instruction i) (p + 1)
  alternatives : GoesOn ws s i p ToBranch (Alternatives (i + 1)) p
  group_there : GoesOn ws s i p ToCheckGroup (Instruction (i + 3)) p
  group_missing : GoesOn ws s i p ToCheckGroup (Instruction (i + 1 + word ws (i + 2))) p

-- from a point and a position one goes on at two, the first of them an instruction
pub data Forks (ws : List ℕ) (s : Subject) (p : ℕ) : Point → Point → Point → ℕ → Type 0 where
  greedy_run : {i low high end : ℕ} {test : Test} (o : SreOpcode) → Opcode ws i o → role o ≡ ToRun GreedyRun
      → RunOperands ws i low high end test → nat_lt (longest_run s test high p) low ≡ false
      → Forks ws s p (Instruction i) (Instruction (skip ws (i + 1)))
      (Shorter (skip ws (i + 1)) (longest_run s test high p - low)) (p + longest_run s test high p)
  lazy_run : {i low high end : ℕ} {test : Test} (o : SreOpcode) → Opcode ws i o → role o ≡ ToRun LazyRun
      → RunOperands ws i low high end test → nat_lt (run_length s test low p) low ≡ false
      → Forks ws s p (Instruction i) (Instruction (skip ws (i + 1))) (Longer i low) (p + low)
  next_alternative : {q : ℕ} → q < length ws → nat_eq (word ws q) 0 ≡ false
      → Forks ws s p (Alternatives q) (Instruction (q + 1)) (Alternatives (skip ws q)) p
  next_shorter : {t k : ℕ} → 1 ≤ k → Forks ws s p (Shorter t k) (Instruction t) (Shorter t (k - 1)) (p - 1)
  next_longer : {i n low high end : ℕ} {test : Test} → RunOperands ws i low high end test → n ≤ p
      → (nat_eq high unlimited || nat_lt n high) ≡ true → passes s test p ≡ true
      → Forks ws s p (Longer i n) (Instruction (skip ws (i + 1))) (Longer i (n + 1)) (p + 1)

-- a point and a position where one goes on from an instruction alone: no further back, and in the range
pub record Next (ws : List ℕ) (s : Subject) (i p : ℕ) : Type 0 where
  pub point : Point
  pub position : ℕ
  pub code : SreOpcode
  pub there : Opcode ws i code
  pub goes : GoesOn ws s i p (role code) point position
  pub onward : p ≤ least_from point position
  pub inside : p ≤ s.end → position ≤ s.end

abbrev pub next_spot : {ws : List ℕ} {s : Subject} {i p : ℕ} → Next ws s i p → List Frame → Marks → Spot
next_spot x fs m = spot_at x.point fs x.position m

-- an instruction of a role begins a loop, with which one goes on there
pub data Begins (ws : List ℕ) (i : ℕ) : Role → Point → Type 0 where
  plain_loop : Begins ws i ToRepeat (Instruction (skip ws (i + 1)))
  possessive_loop : Begins ws i ToRepeatPossessively Again

-- one of a role enters an atomic scope, whose body begins so far back, at an instruction
pub data Enters (ws : List ℕ) (i : ℕ) : Role → ℕ → ℕ → Region → Type 0 where
  atomic_group : Enters ws i ToGroupAtomically 0 (i + 2) (AtomicGroup (skip ws (i + 1)))
  lookaround : {sign : Sign} {back : ℕ} → Word ws (i + 2) back
      → Enters ws i (ToLook sign) back (i + 3) (look sign (skip ws (i + 1)))

-- two steps at a point and a position, under these loops and those, with these captures and those
pub data Turned (ws : List ℕ) (s : Subject) (p : ℕ) (fs gs : List Frame) (m n : Marks)
    : Point → Move → Move → Type 0 where
  stopped : {pt : Point} → Turned ws s p fs gs m n pt Stop Stop
  ended : {i : ℕ} (o : SreOpcode) → Opcode ws i o → role o ≡ ToEnd → Turned ws s p fs gs m n (Instruction i) End End
  went : {i : ℕ} (x : Next ws s i p)
      → Turned ws s p fs gs m n (Instruction i) (Go (next_spot x fs m)) (Go (next_spot x gs n))
  forked : {pt first rest : Point} {q : ℕ} → Forks ws s p pt first rest q → least_from pt p ≤ least_from first q
      → least_from pt p ≤ least_from rest q → (p ≤ s.end → q ≤ s.end)
      → Turned ws s p fs gs m n pt (Split (spot_at first fs q m) (spot_at rest fs q m))
      (Split (spot_at first gs q n) (spot_at rest gs q n))
  marked : {i k : ℕ} (o : SreOpcode) → Opcode ws i o → role o ≡ ToMark → Word ws (i + 1) k
      → Turned ws s p fs gs m n (Instruction i) (Go (spot_at (Instruction (i + 2)) fs p (set_mark m k p)))
      (Go (spot_at (Instruction (i + 2)) gs p (set_mark n k p)))
  grouped : {i g : ℕ} (o : SreOpcode) → Opcode ws i o → asks (role o) ≡ true → Asks ws g → Word ws (i + 1) g
      → (v w : Option (ℕ × ℕ) → Move)
      → ((span : Option (ℕ × ℕ)) → Turned ws s p fs gs m n (Instruction i) (v span) (w span))
      → Turned ws s p fs gs m n (Instruction i) (v (group m g)) (w (group n g))
  begun : {i : ℕ} {pt : Point} (o : SreOpcode) → Opcode ws i o → Begins ws i (role o) pt → least_from pt p ≡ p
      → Turned ws s p fs gs m n (Instruction i) (Go (spot_at pt (first_frame i ∷ fs) p m))
      (Go (spot_at pt (first_frame i ∷ gs) p n))
  entered : {i back j q : ℕ} {g : Region} (o : SreOpcode) → Opcode ws i o → Enters ws i (role o) back j g → q ≤ p
      → p ≤ q + back → (goes_behind g ≡ true → p ≤ q)
      → Turned ws s p fs gs m n (Instruction i)
      (Enter g (spot_at (Instruction i) fs p m) (spot_at (Instruction j) [] q m))
      (Enter g (spot_at (Instruction i) gs p n) (spot_at (Instruction j) [] q n))
  looped : {u : ℕ} {v w : Move} (o : SreOpcode) (order : Order) → Opcode ws u o → role o ≡ ToLoop order
      → UntilMove ws order u (spot_at (Instruction u) fs p m) v
      → UntilMove ws order u (spot_at (Instruction u) gs p n) w → Turned ws s p fs gs m n (Instruction u) v w
  repeated : {v w : Move} → AgainMove ws (spot_at Again fs p m) v → AgainMove ws (spot_at Again gs p n) w
      → Turned ws s p fs gs m n Again v w

-- where no character passes none is owed
pub none_owed : (k low : ℕ) → k ≡ 0 → nat_lt k low ≡ false → low ≡ 0
none_owed k low none e = grind (arith, nat_tests)

module _ (s : Subject) where
  -- so many characters stand before the range's end where a run has them
  least_fits : (t : Test) (low p : ℕ) → p ≤ s.end → nat_lt (run_length s t low p) low ≡ false → p + low ≤ s.end
  least_fits t low p l e = go (nat_lt 0 low) refl
    where
      full : low ≤ run_length s t low p
      full = grind (arith, nat_tests)

      go : (b : Bool) → nat_lt 0 low ≡ b → p + low ≤ s.end
      go true y =
          let some : 0 < low = grind (arith, nat_tests) in
          let last : passes s t (p + (low - 1)) ≡ true = run_passes s t low p (low - 1) (omega (arith, full)) in
          omega (arith, passes-below s t (p + (low - 1)) last)
      go false y = let none : low ≤ 0 = grind (arith, nat_tests) in omega arith

  reference_fits : (fold : Fold) (p n x : ℕ) → (nat_le (p + n) s.end && same_folded s fold n x p) ≡ true
      → p + n ≤ s.end
  reference_fits fold p n x e =
      leb-true (p + n) s.end (and_parts (nat_le (p + n) s.end) (same_folded s fold n x p) e).0

module _ (ws : List ℕ) (s : Subject) (p : ℕ) (fs gs : List Frame) (m n : Marks) where
  abbrev Both : Point → Move → Move → Type 0
  Both pt v w = Turned ws s p fs gs m n pt v w

  when : {pt : Point} (b : Bool) {v v' w w' : Move} → (b ≡ true → Both pt v w) → (b ≡ false → Both pt v' w')
      → Both pt (cond b v v') (cond b w w')
  when true h k = h refl
  when false h k = k refl

  both : {pt : Point} {v w v' w' : Move} → Both pt v' w' → v ≡ v' → w ≡ w' → Both pt v w
  both {pt} {v} {w} {v'} {w'} t e f = rw (e, f) t

  -- at an instruction
  module _ (i : ℕ) (o : SreOpcode) (here : Opcode ws i o) where
    on : {f : Role} {pt : Point} {q : ℕ} → role o ≡ f → GoesOn ws s i p f pt q → GoesOn ws s i p (role o) pt q
    on {f} {pt} {q} e g = subst (λ r. GoesOn ws s i p r pt q) (sym e) g

    abbrev to : (pt : Point) (q : ℕ) → GoesOn ws s i p (role o) pt q → p ≤ least_from pt q → (p ≤ s.end → q ≤ s.end)
        → Next ws s i p
    to pt q goes onward inside =
        record { point = pt; position = q; code = o; there = here; goes = goes; onward = onward; inside = inside }

    abbrev stay : (j : ℕ) → GoesOn ws s i p (role o) (Instruction j) p → Next ws s i p
    stay j goes = to (Instruction j) p goes (omega arith) (λ l. l)

    run_turned : (kind : RunKind) (low high end : ℕ) (test : Test) → role o ≡ ToRun kind
        → RunOperands ws i low high end test
        → Both (Instruction i) (run_turn kind s i (skip ws (i + 1)) low high test (spot_at (Instruction i) fs p m))
        (run_turn kind s i (skip ws (i + 1)) low high test (spot_at (Instruction i) gs p n))
    run_turned GreedyRun low high end test e operands =
        when (nat_lt (longest_run s test high p) low) (λ y. stopped)
        (λ y. forked (greedy_run o here e operands y) (omega arith) (omega arith)
        (λ l. longest_run-fits s test high p l))
    run_turned LazyRun low high end test e operands =
        when (nat_lt (run_length s test low p) low) (λ y. stopped)
        (λ y. forked (lazy_run o here e operands y) (omega arith) (omega arith) (λ l. least_fits s test low p l y))
    run_turned PossessiveRun low high end test e operands =
        let k : ℕ = longest_run s test high p in
        let tail : Point = Instruction (skip ws (i + 1)) in
        when (nat_eq high unlimited)
        (λ y. when (nat_lt (run_length s test low p) low) (λ y. stopped)
        (λ y. when (passes s test (p + low))
        (λ z. went (to (Instruction i) (p + 1)
        (on e (run_on operands (λ missed.
        let free = none_owed (run_length s test low p) low (run_none s test low p missed) y in
        let here : passes s test p ≡ true = subst (λ n. passes s test n ≡ true) (omega (arith, free)) z in
        true≢false (sym here ∙ missed)))) (omega arith)
        (λ l. let inside = passes-below s test (p + low) z in omega (arith, inside))))
        (λ z. went (to tail (p + low) (on e (behind_run operands (λ missed.
        let free = none_owed (run_length s test low p) low (run_none s test low p missed) y in
        (free, omega (arith, free))))) (omega arith) (λ l. least_fits s test low p l y)))))
        (λ y. when (nat_lt k low) (λ y. stopped)
        (λ y. went (to tail (p + k) (on e (behind_run operands (λ missed.
        let none : k ≡ 0 = run_none s test _ p missed in
        (none_owed k low none y, omega (arith, none))))) (omega arith)
        (λ l. longest_run-fits s test high p l))))

    abbrev look_turn : Sign → ℕ → List Frame → Marks → Move
    look_turn sign back ks l =
        let g : Region = look sign (skip ws (i + 1)) in
        cond (nat_lt p back) (closing_move g (spot_at (Instruction i) ks p l) [])
        (Enter g (spot_at (Instruction i) ks p l) (spot_at (Instruction (i + 3)) [] (p - back) l))

    look_turned : (sign : Sign) (back : ℕ) → role o ≡ ToLook sign → Word ws (i + 2) back
        → Both (Instruction i) (look_turn sign back fs m) (look_turn sign back gs n)
    look_turned sign back e there =
        when (nat_lt p back) (λ y. without sign e) (λ y.
        entered o here
        (subst (λ r. Enters ws i r back (i + 3) (look sign (skip ws (i + 1)))) (sym e) (lookaround there)) (omega arith)
        (omega arith) (stays sign))
      where
        without : (sign : Sign) → role o ≡ ToLook sign → Both (Instruction i)
            (closing_move (look sign (skip ws (i + 1))) (spot_at (Instruction i) fs p m) [])
            (closing_move (look sign (skip ws (i + 1))) (spot_at (Instruction i) gs p n) [])
        without Positive e = stopped
        without Negative e = went (stay (skip ws (i + 1)) (on e behind_look))

        stays : (sign : Sign) → goes_behind (look sign (skip ws (i + 1))) ≡ true → p ≤ p - back
        stays Positive e = absurd (cc)
        stays Negative e = absurd (cc)

    referred : (fold : Fold) (g : ℕ) → role o ≡ ToRefer → Asks ws g → Word ws (i + 1) g
        → Both (Instruction i) (reference_turn s fold g (i + 2) (spot_at (Instruction i) fs p m))
        (reference_turn s fold g (i + 2) (spot_at (Instruction i) gs p n))
    referred fold g e asked there =
        grouped o here (ap asks e) asked there (λ span. turn span fs m) (λ span. turn span gs n) each
      where
        turn : Option (ℕ × ℕ) → List Frame → Marks → Move
        turn span ks l = elim span [
          | None ↦ Stop
          | (Some x) ↦
              cond (nat_le (p + (x.1 - x.0)) s.end && same_folded s fold (x.1 - x.0) x.0 p)
              (Go (spot_at (Instruction (i + 2)) ks (p + (x.1 - x.0)) l)) Stop
        ]

        each : (span : Option (ℕ × ℕ)) → Both (Instruction i) (turn span fs m) (turn span gs n)
        each None = stopped
        each (Some x) =
            let k : ℕ = x.1 - x.0 in
            when (nat_le (p + k) s.end && same_folded s fold k x.0 p)
            (λ y. went (to (Instruction (i + 2)) (p + k) (on e behind_reference) (omega arith)
            (λ l. reference_fits s fold p k x.0 y)))
            (λ y. stopped)

    checked : (g : ℕ) → role o ≡ ToCheckGroup → Asks ws g → Word ws (i + 1) g
        → Both (Instruction i) (Go (spot_at (Instruction (condition_place ws i g m)) fs p m))
        (Go (spot_at (Instruction (condition_place ws i g n)) gs p n))
    checked g e asked there =
        grouped o here (ap asks e) asked there (λ span. Go (spot_at (Instruction (place span)) fs p m))
        (λ span. Go (spot_at (Instruction (place span)) gs p n)) each
      where
        place : Option (ℕ × ℕ) → ℕ
        place span = elim span [ None ↦ i + 1 + word ws (i + 2) | (Some _) ↦ i + 3 ]

        each : (span : Option (ℕ × ℕ)) → Both (Instruction i) (Go (spot_at (Instruction (place span)) fs p m))
            (Go (spot_at (Instruction (place span)) gs p n))
        each None = went (stay (i + 1 + word ws (i + 2)) (on e group_missing))
        each (Some x) = went (stay (i + 3) (on e group_there))

    role_turned : (f : Role) (v w : Move) → role o ≡ f → InRole ws s f i (spot_at (Instruction i) fs p m) v
        → InRole ws s f i (spot_at (Instruction i) gs p n) w → Both (Instruction i) v w
    role_turned ToFail v w e h k = both stopped h k
    role_turned ToEnd v w e h k = both (ended o here e) h k
    role_turned (ToTest kind) v w e h k =
        let same =
        test_same k.test h.test ws i k.end h.end k.stands.code k.stands.operands h.stands.code h.stands.operands in
        let other : w ≡ cond (passes s h.test p) (Go (spot_at (Instruction h.end) gs (p + 1) n)) Stop =
        rw (← same.0, ← same.1) k.is in
        both (when (passes s h.test p) (λ y. went
        (to (Instruction h.end) (p + 1) (on e (behind_test h.stands y)) (omega arith)
        (λ l. omega (arith, l, passes-below s h.test p y)))) (λ y. stopped)) h.is other
    role_turned ToCheckPosition v w e h k =
        let other : w ≡ cond (holds_at s h.code p) (Go (spot_at (Instruction (i + 2)) gs p n)) Stop =
        rw (same_at ws (i + 1) h.code k.code h.there k.there) k.is in
        both (when (holds_at s h.code p) (λ y. went (stay (i + 2) (on e behind_check))) (λ y. stopped)) h.is other
    role_turned ToMark v w e h k =
        let other : w ≡ Go (spot_at (Instruction (i + 2)) gs p (set_mark n h.number p)) =
        rw (same_word ws (i + 1) h.number k.number h.there k.there) k.is in
        both (marked o here e h.there) h.is other
    role_turned ToBranch v w e h k =
        both (went (to (Alternatives (i + 1)) p (on e alternatives) (omega arith) (λ l. l))) h k
    role_turned ToJump v w e h k = both (went (stay (skip ws (i + 1)) (on e behind_jump))) h.is k.is
    role_turned (ToRun kind) v w e h k =
        let a : RunOperands ws i h.low h.high h.end h.test = h.operands in
        let b : RunOperands ws i k.low k.high k.end k.test = k.operands in
        let low : k.low ≡ h.low = same_word ws (i + 2) k.low h.low b.lowest a.lowest in
        let high : k.high ≡ h.high = same_word ws (i + 3) k.high h.high b.highest a.highest in
        let test : k.test ≡ h.test =
        (test_same k.test h.test ws (i + 4) k.end h.end b.stands.code b.stands.operands a.stands.code
        a.stands.operands).0 in
        let turn = λ (low high : ℕ) (t : Test). run_turn kind s i (skip ws (i + 1)) low high t
        (spot_at (Instruction i) gs p n) in
        both (run_turned kind h.low h.high h.end h.test e a) h.is
        (k.is ∙ ap (λ x. turn x k.high k.test) low ∙ ap (λ x. turn h.low x k.test) high ∙ ap (turn h.low h.high) test)
    role_turned ToRepeat v w e h k =
        both (begun o here (subst (λ r. Begins ws i r (Instruction (skip ws (i + 1)))) (sym e) plain_loop) refl) h.is
        k.is
    role_turned (ToLoop order) v w e h k = looped o order here e h k
    role_turned ToRepeatPossessively v w e h k =
        both (begun o here (subst (λ r. Begins ws i r Again) (sym e) possessive_loop) refl) h k
    role_turned ToGroupAtomically v w e h k =
        both (entered o here
        (subst (λ r. Enters ws i r 0 (i + 2) (AtomicGroup (skip ws (i + 1)))) (sym e) atomic_group) (omega arith)
        (omega arith) (λ y. omega arith)) h.is k.is
    role_turned (ToLook sign) v w e h k =
        let other : w ≡ look_turn sign h.back gs n = rw (same_word ws (i + 2) h.back k.back h.there k.there) k.is in
        both (look_turned sign h.back e h.there) h.is other
    role_turned ToRefer v w e h k =
        let turn = λ (f : Fold) (g : ℕ). reference_turn s f g (i + 2) (spot_at (Instruction i) gs p n) in
        let other : w ≡ turn h.fold h.number =
        k.is ∙ ap (λ f. turn f k.number) (same_reference_fold ws i k.fold h.fold k.code h.code)
        ∙ ap (turn h.fold) (same_word ws (i + 1) k.number h.number k.there h.there) in
        both (referred h.fold h.number e h.asked h.there) h.is other
    role_turned ToCheckGroup v w e h k =
        let other : w ≡ Go (spot_at (Instruction (condition_place ws i h.number n)) gs p n) =
        rw (same_word ws (i + 1) h.number k.number h.there k.there) k.is in
        both (checked h.number e h.asked h.there) h.is other
    role_turned ToNothing v w e h k = absurd h

  -- at any point
  pub point_turned : (pt : Point) (v w : Move) → MovesAt ws s pt (spot_at pt fs p m) v
      → MovesAt ws s pt (spot_at pt gs p n) w → Both pt v w
  point_turned (Instruction i) v w h k =
      let same : role k.0 ≡ role h.0 = ap (λ o. role o) (same_opcode ws i k.0 h.0 k.1 h.1) in
      role_turned i h.0 h.1 (role h.0) v w refl h.2
      (subst (λ f. InRole ws s f i (spot_at (Instruction i) gs p n) w) same k.2)
  point_turned (Alternatives q) v w h k =
      let one : v ≡ cond (nat_eq (word ws q) 0) Stop
      (Split (spot_at (Instruction (q + 1)) fs p m) (spot_at (Alternatives (skip ws q)) fs p m)) =
      rw (word_of ws q h.value h.there) h.is in
      let other : w ≡ cond (nat_eq (word ws q) 0) Stop
      (Split (spot_at (Instruction (q + 1)) gs p n) (spot_at (Alternatives (skip ws q)) gs p n)) =
      rw (word_of ws q k.value k.there) k.is in
      both (when (nat_eq (word ws q) 0) (λ y. stopped) (λ y.
      forked (next_alternative (word_within ws q h.value h.there) y) (omega arith) (omega arith) (λ l. l))) one other
  point_turned (Shorter t c) v w h k =
      both (when (nat_eq c 0) (λ y. stopped) (λ y.
      let some : 1 ≤ c = grind (arith, nat_tests) in
      forked (next_shorter some) (omega arith) (omega arith) (λ l. omega (arith, l)))) h.is k.is
  point_turned (Longer i c) v w h k =
      let a : RunOperands ws i h.low h.high h.end h.test = h.operands in
      let b : RunOperands ws i k.low k.high k.end k.test = k.operands in
      let high : h.high ≡ k.high = same_word ws (i + 3) h.high k.high a.highest b.highest in
      let test : h.test ≡ k.test =
      (test_same h.test k.test ws (i + 4) h.end k.end a.stands.code a.stands.operands b.stands.code
      b.stands.operands).0 in
      let other : w ≡ cond ((nat_eq h.high unlimited || nat_lt c h.high) && passes s h.test p)
      (Split (spot_at (Instruction (skip ws (i + 1))) gs (p + 1) n) (spot_at (Longer i (c + 1)) gs (p + 1) n)) Stop =
      rw (high, test) k.is in
      both (when ((nat_eq h.high unlimited || nat_lt c h.high) && passes s h.test p) (λ y.
      let parts = and_parts (nat_eq h.high unlimited || nat_lt c h.high) (passes s h.test p) y in
      forked (next_longer a h.past parts.0 parts.1) (omega arith) (omega arith)
      (λ l. let inside = passes-below s h.test p parts.1 in omega (arith, inside)))
      (λ y. stopped)) h.is other
  point_turned Again v w h k = repeated h k
  point_turned pt v w h k = absurd h

-- A step is determined: no configuration has two moves, so its outcomes come of its one step.
module _ (ws : List ℕ) where
  -- a turn of a loop whose frame is known
  pub loop_opened : {turn : ℕ → ℕ → Frame → List Frame → Move} {x : Spot} {mv : Move} {f : Frame} {outer : List Frame}
      → LoopMove ws turn x mv → x.frames ≡ f ∷ outer
      → (low : ℕ) × (high : ℕ) × Word ws (f.repeat + 2) low × Word ws (f.repeat + 3) high × (mv ≡ turn low high f outer)
  loop_opened {f = f} {outer = outer} h e =
      let frames : h.frame ∷ h.outer ≡ f ∷ outer = sym h.inside ∙ e in
      let frame : h.frame ≡ f = cc in
      let rest : h.outer ≡ outer = cc in (
        h.low,
        h.high,
        subst (λ (g : Frame). Word ws (g.repeat + 2) h.low) frame h.lowest,
        subst (λ (g : Frame). Word ws (g.repeat + 3) h.high) frame h.highest,
        rw (← frame, ← rest) h.is,
      )

  pub loop_move : {turn : ℕ → ℕ → Frame → List Frame → Move} {x : Spot} {mv : Move} {f : Frame} {outer : List Frame}
      {low high : ℕ} → x.frames ≡ f ∷ outer → Word ws (f.repeat + 2) low → Word ws (f.repeat + 3) high
      → mv ≡ turn low high f outer → LoopMove ws turn x mv
  loop_move {f = f} {outer = outer} {low = low} {high = high} inside wl wh is = record {
    frame = f;
    outer = outer;
    low = low;
    high = high;
    inside = inside;
    lowest = wl;
    highest = wh;
    is = is;
  }

  same_loop : {turn : ℕ → ℕ → Frame → List Frame → Move} {x : Spot} {v w : Move} → LoopMove ws turn x v
      → LoopMove ws turn x w → v ≡ w
  same_loop {turn} h k =
      let o = loop_opened h k.inside in
      let low : o.0 ≡ k.low = same_word ws (k.frame.repeat + 2) o.0 k.low o.2 k.lowest in
      let high : o.1 ≡ k.high = same_word ws (k.frame.repeat + 3) o.1 k.high o.3 k.highest in
      o.4 ∙ rw (low, high) (sym k.is)

  -- two steps at one configuration are the same
  same_turn : {s : Subject} {p : ℕ} {fs : List Frame} {m : Marks} {pt : Point} {v w : Move}
      → Turned ws s p fs fs m m pt v w → v ≡ w
  same_turn stopped = refl
  same_turn (ended o here e) = refl
  same_turn (went x) = refl
  same_turn (forked f a b on) = refl
  same_turn (marked o here e there) = refl
  same_turn {m = m} (grouped {g = g} o here e asked there v w each) = same_turn (each (group m g))
  same_turn (begun o here e at) = refl
  same_turn (entered o here e l k on) = refl
  same_turn (looped o order here e h k) = same_loop h k
  same_turn (repeated h k) = same_loop h k

-- a step is determined
pub moves_same : (ws : List ℕ) (s : Subject) (x : Spot) (a b : Move) → Moves ws s x a → Moves ws s x b → a ≡ b
moves_same ws s x a b h k =
    same_turn ws (point_turned ws s x.position x.frames x.frames x.marks x.marks x.point a b h k)

-- so what comes of a configuration comes of the one step there
pub comes : {ws : List ℕ} {s : Subject} {x : Spot} {os : List Way} {n : ℕ} (mv : Move) → Moves ws s x mv
    → Runs ws s x os n → Comes ws s x mv os n
comes {ws} {s} {x} {os} {n} mv h (turns mv' h' d) =
    subst (λ z. Comes ws s x z os n) (moves_same ws s x mv' mv h' h) d

-- What holds of each turn that a loop in progress may make holds of its turn: of a body, of the loop's end, and of both
-- in either order.

module _ (Q : Move → Type 0) where
  by_test : (b : Bool) {v w : Move} → Q v → Q w → Q (cond b v w)
  by_test true h k = h
  by_test false h k = k

  either_order : (o : Order) {y z : Spot} → Q (Split y z) → Q (Split z y) → Q (in_order o y z)
  either_order Greedy h k = h
  either_order Lazy h k = k

  -- at what ends a body
  pub until_holds : {ws : List ℕ} (o : Order) (u : ℕ) {x : Spot} {v : Move} (h : UntilMove ws o u x v)
      → Q (Go (at_body h.frame h.frame.last h.outer x))
      → Q (Split (at_body h.frame (Some x.position) h.outer x) (behind u h.outer x))
      → Q (Split (behind u h.outer x) (at_body h.frame (Some x.position) h.outer x))
      → Q (Go (behind u h.outer x)) → Q v
  until_holds o u {x} h owed first last end =
      rw h.is (by_test (nat_lt h.frame.count h.low) owed
      (by_test (may_repeat h.high h.frame.count h.frame.last x.position) (either_order o first last) end))

  -- at a possessive loop
  pub again_holds : {ws : List ℕ} {x : Spot} {v : Move} (h : AgainMove ws x v)
      → Q (enter_body Owed h.frame h.frame.last h.outer x)
      → Q (enter_body (Further (skip ws (h.frame.repeat + 1) + 1)) h.frame (Some x.position) h.outer x)
      → Q (Go (behind (skip ws (h.frame.repeat + 1)) h.outer x)) → Q v
  again_holds {x = x} h owed more end =
      rw h.is (by_test (nat_lt h.frame.count h.low) owed
      (by_test (may_repeat h.high h.frame.count h.frame.last x.position) more end))
