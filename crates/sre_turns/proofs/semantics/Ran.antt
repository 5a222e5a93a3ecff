-- The bytecode of a tree has the tree's match paths.
use Rattle.sre_turns.proofs.Terms.{◌≡◌, ℕ, suc, ◌+◌, ◌-◌, ◌<◌, ◌≤◌, true, false, ◌||◌, List, [], length, refl, sym}
use Rattle.sre_turns.proofs.Terms.{arith, or_left, or_right, or_parts, flat_map-append, Tree, Empty, Then, Item}
use Rattle.sre_turns.proofs.Terms.{GreedyRun, Trees, Only, Or, LazyRun, PossessiveRun, refers, by_references}
use Rattle.sre_turns.proofs.Terms.{asked_from, asked_to, of_item, of_branch, Marks, group, Way, Body, here, ways}
use Rattle.sre_turns.proofs.Terms.{item_ways, marks_in_regions, by_marked_regions, word, skip, Opcode, Reads, ReadsItem}
use Rattle.sre_turns.proofs.Terms.{ReadsBranch, AreWords, IsConfined, MarklessRegions, MayAsk, Frame, Instruction}
use Rattle.sre_turns.proofs.Terms.{spot_at, Stop, Go, Subject, Runs, turns, stops, goes, flat_map-flat_map}
use Rattle.sre_turns.proofs.Terms.{opcode_within, reads_within, Costs, cost, item_cost, Alternatives, by_groups}
use Rattle.sre_turns.proofs.Terms.{by_last_groups, branch_ways, sets_mark, ways-bounded, word_there, alternative_long}
use Rattle.sre_turns.proofs.Terms.{branch_past, zero, ◌⊎◌, inl, inr, Bool, cond, ◌&&◌, not, nat_lt, nat_eq, min, Option}
use Rattle.sre_turns.proofs.Terms.{Some, None, ◌∷◌, ◌++◌, ap, ◌∙◌, subst, flat_map, append-nil, nat_tests, Order}
use Rattle.sre_turns.proofs.Terms.{Greedy, Lazy, unlimited, may_repeat, first, Word, until_opcode, in_order, until_move}
use Rattle.sre_turns.proofs.Terms.{again_move, Moves, splits, enters, Comes, until_role, Bounded, EachBetween}
use Rattle.sre_turns.proofs.Terms.{word_within, ending, Again, Owed, Further, Spot, Move, Split, Enter, closing_move}
use Rattle.sre_turns.proofs.Terms.{within, ordered, more, least, loop_ways, possessive_more, possessive_ways}
use Rattle.sre_turns.proofs.Terms.{within-all, Between, stays, least_cost, more_cost, owed_cost, further_cost}
use Rattle.sre_turns.proofs.Terms.{possessive_cost, first_of_body, or_here, first-bounded, first_of_body-all, RunKind}
use Rattle.sre_turns.proofs.Terms.{Test, Operands, RunOperands}
use Rattle.sre_model.specs.Roles.{ToFail, ToBranch, ToRepeat, ToLoop, ToRepeatPossessively}
use Rattle.sre_chars.specs.declared.constants.SreOpcode.TheVariants as opcode
use Rattle.sre_model.specs.Tree.{Run, Atomic, Look, Fail, One, At, Mark, Branch, Loop, PossessiveLoop, Reference}
use Rattle.sre_model.specs.Tree.{Exists, ExistsElse}
use Rattle.sre_model.specs.Cost.{branch_cost, atomic_cost}
use Rattle.sre_turns.proofs.semantics.Moving.{at_instruction}
use Rattle.sre_turns.proofs.bound.NestedMoves.{begins}
use Rattle.sre_turns.proofs.semantics.RanAtItems.{followed, Follows, Ran, moved, alone, one-ran, at-ran, mark-ran}
use Rattle.sre_turns.proofs.semantics.RanAtItems.{alternative-ran, last_alternative, skip_there, jump-ran, atomic-ran}
use Rattle.sre_turns.proofs.semantics.RanAtItems.{look-ran, reference-ran, condition-ran, present-followed, run-ran}
use Rattle.sre_turns.proofs.semantics.RanAtItems.{lazy-run-ran, longest-run-ran, region}
use Rattle.sre_turns.proofs.semantics.OneTurn.{loop_move}

-- The bytecode of a loop has its match paths, and that of a possessive loop.

-- counts that are held at the greatest word decide alike
pub may_repeat-held : (high n c p : ℕ) (last : Option ℕ) → high ≤ unlimited → n ≡ min c unlimited
    → may_repeat high n last p ≡ may_repeat high c last p
may_repeat-held high n c p last h e = go last (ap (λ b. nat_eq high unlimited || b) same)
  where
    same : nat_lt n high ≡ nat_lt c high
    same = grind (arith, nat_tests)

    go : (last : Option ℕ) → (nat_eq high unlimited || nat_lt n high) ≡ (nat_eq high unlimited || nat_lt c high)
        → may_repeat high n last p ≡ may_repeat high c last p
    go None e = e
    go (Some l) e = ap (λ b. b && not (nat_eq l p)) e

-- fuel that reaches past the window's end, or a body that stayed
abbrev pub Room : Subject → ℕ → ℕ → Option ℕ → Type 0
Room s fuel p last = (s.end + 1 ≤ p + fuel) ⊎ (last ≡ Some p)

pub room_left : (s : Subject) (high fuel c p q : ℕ) (last : Option ℕ) → p ≤ q → Room s (suc fuel) p last
    → may_repeat high c last p ≡ true → Room s fuel q (Some p)
room_left s high fuel c p q last l (inr same) t =
    let no_ : may_repeat high c last p ≡ false = rw same (stays high c p p refl) in
    absurd (cc)
room_left s high fuel c p q last l (inl room) t = go (nat_lt p q) refl
  where
    go : (y : Bool) → nat_lt p q ≡ y → Room s fuel q (Some p)
    go true y = let k : p < q = grind (arith, nat_tests) in inl (omega arith)
    go false y = let k : p ≡ q = grind (arith, nat_tests) in inr (ap (λ z. Some z) k)

ordered_all : (K : Body) (o : Order) (a b : List Way)
    → followed K (ordered o a b) ≡ ordered o (followed K a) (followed K b)
ordered_all K Greedy a b = flat_map-append (λ (w : Way). K w.stop w.marks) a b
ordered_all K Lazy a b = flat_map-append (λ (w : Way). K w.stop w.marks) b a

ordered_same : (o : Order) (a b x y : List Way) → a ≡ x → b ≡ y → ordered o a b ≡ ordered o x y
ordered_same o a b x y e f = rw (e, f) refl

ordered_none : (o : Order) (os : List Way) → ordered o [] (os ++ []) ≡ os
ordered_none Greedy os = append-nil os
ordered_none Lazy os = append-nil (os ++ []) ∙ append-nil os

-- two spots in a loop's order
in_order-ran : (ws : List ℕ) (s : Subject) (o : Order) (x body end : Spot) (os₁ os₂ : List Way) (n₁ n₂ : ℕ)
    → Moves ws s x (in_order o body end) → Runs ws s body os₁ n₁ → Runs ws s end os₂ n₂
    → Runs ws s x (ordered o os₁ os₂) (suc (suc (n₁ + n₂)))
in_order-ran ws s Greedy x body end os₁ os₂ n₁ n₂ h d e = turns (Split body end) h (splits d e)
in_order-ran ws s Lazy x body end os₁ os₂ n₁ n₂ h d e =
    let same : suc (suc (n₂ + n₁)) ≡ suc (suc (n₁ + n₂)) = omega arith in
    subst (λ n. Runs ws s x (os₂ ++ os₁) n) same (turns (Split end body) h (splits e d))

-- a loop in progress
abbrev frame : ℕ → ℕ → Option ℕ → Frame
frame i n last = record { repeat = i; count = n; last = last }

module _ (ws : List ℕ) (s : Subject) (i u low high : ℕ) (o : Order) (W : Body) (counted : Costs → Costs)
    (b : Bounded s W) (highest : high ≤ unlimited) (counts : low ≤ high) (wl : Word ws (i + 2) low)
    (wh : Word ws (i + 3) high) (r : Ran ws s (Instruction (i + 4)) u W counted)
    (wu : Opcode ws u (until_opcode o)) where
  abbrev in_loop : ℕ → Option ℕ → List Frame → ℕ → Marks → Spot
  in_loop n last fs p m = spot_at (Instruction u) (frame i n last ∷ fs) p m

  abbrev tried : ℕ → ℕ → ℕ → Marks → List Way
  tried fuel c p m = flat_map (λ (w : Way). more s o high W fuel (c + 1) (Some p) w.stop w.marks) (within s p (W p m))

  tried_is : (K : Body) (fuel c p : ℕ) (m : Marks) → p ≤ s.end
      → followed K (tried fuel c p m) ≡ followed (λ q k. followed K (more s o high W fuel (c + 1) (Some p) q k)) (W p m)
  tried_is K fuel c p m e =
      rw (within-all s p (W p m) (b p m e)) (flat_map-flat_map (λ (w : Way). K w.stop w.marks)
      (λ (w : Way). more s o high W fuel (c + 1) (Some p) w.stop w.marks) (W p m))

  -- a turn at the loop's end
  until_turn : (n : ℕ) (last : Option ℕ) (fs : List Frame) (p : ℕ) (m : Marks) (mv : Move)
      → mv ≡ until_move o low high u (frame i n last) fs (in_loop n last fs p m) → Moves ws s (in_loop n last fs p m) mv
  until_turn n last fs p m mv e =
      at_instruction (until_opcode o) (ToLoop o) (until_role o) wu (loop_move ws refl wl wh e)

  until_ends : (n : ℕ) (last : Option ℕ) (fs : List Frame) (p : ℕ) (m : Marks) (os : List Way) (k : ℕ) → low ≤ n
      → may_repeat high n last p ≡ false → Runs ws s (spot_at (Instruction (u + 1)) fs p m) os k
      → Runs ws s (in_loop n last fs p m) os (suc k)
  until_ends n last fs p m os k l y d =
      let beyond : nat_lt n low ≡ false = grind (arith, nat_tests) in
      turns _ (until_turn n last fs p m (Go (spot_at (Instruction (u + 1)) fs p m)) (rw (beyond, y) refl)) (goes d)

  more_step : (fuel n c p : ℕ) (last : Option ℕ) (m : Marks) (fs : List Frame) (K : Body) (C : Costs)
      → n ≡ min c unlimited → low ≤ c → p ≤ s.end → Follows ws s p (Instruction (u + 1)) fs K C
      → (may_repeat high c last p ≡ true
      → Follows ws s p (Instruction u) (frame i (min (n + 1) unlimited) (Some p) ∷ fs)
      (λ q k. followed K (more s o high W fuel (c + 1) (Some p) q k))
      (λ q k. more_cost high counted C fuel (c + 1) (Some p) q k))
      → (x : Bool) → may_repeat high c last p ≡ x
      → Runs ws s (in_loop n last fs p m) (followed K (ordered o (cond x (tried fuel c p m) []) (here p m))) (cond x
      (suc (suc (counted (λ q k. more_cost high counted C fuel (c + 1) (Some p) q k) p m + C p m))) (suc (C p m)))
  more_step fuel n c p last m fs K C en l e f ih true x =
      let K' : Body = λ q k. followed K (more s o high W fuel (c + 1) (Some p) q k) in
      let C' : Costs = λ q k. more_cost high counted C fuel (c + 1) (Some p) q k in
      let beyond : nat_lt n low ≡ false = grind (arith, nat_tests) in
      let allowed : may_repeat high n last p ≡ true = may_repeat-held high n c p last highest en ∙ x in
      let eq : followed K (ordered o (tried fuel c p m) (here p m)) ≡ ordered o (followed K' (W p m)) (K p m) =
      ordered_all K o (tried fuel c p m) (here p m)
      ∙ ordered_same o _ _ _ _ (tried_is K fuel c p m e) (append-nil (K p m)) in
      let body : Spot = spot_at (Instruction (i + 4)) (frame i (min (n + 1) unlimited) (Some p) ∷ fs) p m in
      let end : Spot = spot_at (Instruction (u + 1)) fs p m in
      let move : Moves ws s (in_loop n last fs p m) (in_order o body end) =
      until_turn n last fs p m (in_order o body end) (rw (beyond, allowed) refl) in
      rw eq
      (in_order-ran ws s o (in_loop n last fs p m) body end _ _ _ _ move
      (r (frame i (min (n + 1) unlimited) (Some p) ∷ fs) K' C' p m e (ih x)) (f p m (omega arith) e))
  more_step fuel n c p last m fs K C en l e f ih false x =
      let eq : followed K (ordered o [] (here p m)) ≡ K p m = ordered_all K o [] (here p m) ∙ ordered_none o (K p m) in
      rw eq
      (until_ends n last fs p m (K p m) (C p m) (omega arith) (may_repeat-held high n c p last highest en ∙ x)
      (f p m (omega arith) e))

  more-ran : (fuel n c p : ℕ) (last : Option ℕ) (m : Marks) (fs : List Frame) (K : Body) (C : Costs)
      → n ≡ min c unlimited → low ≤ c → p ≤ s.end → Room s fuel p last → Follows ws s p (Instruction (u + 1)) fs K C
      → Runs ws s (in_loop n last fs p m) (followed K (more s o high W fuel c last p m))
      (more_cost high counted C fuel c last p m)
  more-ran zero n c p last m fs K C en l e room f =
      let same : last ≡ Some p = elim room [ inl x ↦ absurd (omega arith) | inr x ↦ x ] in
      let no_ : may_repeat high n last p ≡ false = rw same (stays high n p p refl) in
      until_ends n last fs p m (K p m ++ []) (C p m) (omega arith) no_ (alone (f p m (omega arith) e))
  more-ran (suc fuel) n c p last m fs K C en l e room f =
      more_step fuel n c p last m fs K C en l e f
      (λ t q k l' g'. more-ran fuel (min (n + 1) unlimited) (c + 1) q (Some p) k fs K C (omega arith) (omega arith) g'
      (room_left s high fuel c p q last l' room t) (λ q' k' l'' g''. f q' k' (omega arith) g''))
      (may_repeat high c last p) refl

  abbrev rest : Body
  rest q k = more s o high W (s.end + 1 - q) low None q k

  abbrev rest_cost : Costs → Costs
  rest_cost C q k = more_cost high counted C (s.end + 1 - q) low None q k

  least-ran : (left n p : ℕ) (m : Marks) (fs : List Frame) (K : Body) (C : Costs) → n + left ≡ low → p ≤ s.end
      → Follows ws s p (Instruction (u + 1)) fs K C
      → Runs ws s (in_loop n None fs p m) (followed K (least s W (λ q k. rest q k) left p m))
      (least_cost counted (λ q k. rest_cost C q k) left p m)
  least-ran zero n p m fs K C en e f =
      more-ran (s.end + 1 - p) n low p None m fs K C (omega arith) (omega arith) e (inl (omega arith)) f
  least-ran (suc left) n p m fs K C en e f =
      let K' : Body = λ q k. followed K (least s W (λ q k. rest q k) left q k) in
      let C' : Costs = λ q k. least_cost counted (λ q k. rest_cost C q k) left q k in
      let eq : followed K (least s W (λ q k. rest q k) (suc left) p m) ≡ followed K' (W p m) =
      rw (within-all s p (W p m) (b p m e)) (flat_map-flat_map (λ (w : Way). K w.stop w.marks)
      (λ (w : Way). least s W (λ q k. rest q k) left w.stop w.marks) (W p m)) in
      let below : nat_lt n low ≡ true = grind (arith, nat_tests) in
      let body : Spot = spot_at (Instruction (i + 4)) (frame i (min (n + 1) unlimited) None ∷ fs) p m in
      rw eq
      (turns (Go body) (until_turn n None fs p m (Go body) (rw below refl))
      (goes (r (frame i (min (n + 1) unlimited) None ∷ fs) K' C' p m e (λ q k l' g'. least-ran left
      (min (n + 1) unlimited) q k fs K C (omega arith) g' (λ q' k' l'' g''. f q' k' (omega arith) g'')))))

  pub loop-ran : Opcode ws i opcode.REPEAT → u ≡ skip ws (i + 1)
      → Ran ws s (Instruction i) (u + 1) (λ p m. loop_ways s o low high W p m)
      (λ C p m. suc (least_cost counted (λ q k. rest_cost C q k) low p m))
  loop-ran w lu fs K C p m e f =
      let move : Moves ws s (spot_at (Instruction i) fs p m) (Go (in_loop 0 None fs p m)) =
      at_instruction opcode.REPEAT ToRepeat refl w
      (record { there = omega (arith, word_within ws (i + 2) low wl); is = rw (← lu) refl }) in
      turns (Go (in_loop 0 None fs p m)) move (goes (least-ran low 0 p m fs K C (omega arith) e f))

module _ (ws : List ℕ) (s : Subject) (i u low high : ℕ) (W : Body) (counted : Costs → Costs) (b : Bounded s W)
    (highest : high ≤ unlimited) (counts : low ≤ high) (wl : Word ws (i + 2) low) (wh : Word ws (i + 3) high)
    (r : Ran ws s (Instruction (i + 4)) u W counted) (wu : Opcode ws u opcode.SUCCESS)
    (leads : u ≡ skip ws (i + 1)) (lies : MarklessRegions ws → IsConfined ws (Instruction (i + 4)) []) where
  abbrev at_loop : ℕ → Option ℕ → List Frame → ℕ → Marks → Spot
  at_loop n last fs p m = spot_at Again (frame i n last ∷ fs) p m

  -- a turn at the loop
  loop_turn : (n : ℕ) (last : Option ℕ) (fs : List Frame) (p : ℕ) (m : Marks) (mv : Move)
      → mv ≡ again_move low high u (frame i n last) fs (at_loop n last fs p m)
      → Moves ws s (at_loop n last fs p m) mv
  loop_turn n last fs p m mv e =
      let x : Spot = at_loop n last fs p m in
      loop_move ws refl wl wh (e ∙ ap (λ v. again_move low high v (frame i n last) fs x) leads)

  loop_ends : (n : ℕ) (last : Option ℕ) (fs : List Frame) (p : ℕ) (m : Marks) (os : List Way) (k : ℕ) → low ≤ n
      → may_repeat high n last p ≡ false → Runs ws s (spot_at (Instruction (u + 1)) fs p m) os k
      → Runs ws s (at_loop n last fs p m) os (suc k)
  loop_ends n last fs p m os k l y d =
      let beyond : nat_lt n low ≡ false = grind (arith, nat_tests) in
      let end : Spot = spot_at (Instruction (u + 1)) fs p m in
      turns (Go end) (loop_turn n last fs p m (Go end) (rw (beyond, y) refl)) (goes d)

  -- a further body, where it has some ways
  further-closed : (fs : List Frame) (f : Frame) (K K' : Body) (C C' : Costs) (p : ℕ) (m : Marks) (os : List Way)
      → EachBetween s p os → Runs ws s (spot_at (Instruction (u + 1)) fs p m) (K p m) (C p m)
      → ((w : Way) → Between s p w
      → Runs ws s (spot_at Again (f ∷ fs) w.stop w.marks) (followed K (K' w.stop w.marks)) (C' w.stop w.marks))
      → Comes ws s (spot_at Again (f ∷ fs) p m) (closing_move (Further (u + 1)) (spot_at Again (f ∷ fs) p m) os)
      (followed K (or_here K' p m (first os))) (further_cost C C' p m os)
  further-closed fs f K K' C C' p m [] bs d ih = goes (alone d)
  further-closed fs f K K' C C' p m (w ∷ os) bs d ih = goes (ih w bs.0)

  -- one that is owed
  owed-closed : (fs : List Frame) (f : Frame) (K K' : Body) (C' : Costs) (p : ℕ) (m : Marks) (os : List Way)
      → EachBetween s p os
      → ((w : Way) → Between s p w
      → Runs ws s (spot_at Again (f ∷ fs) w.stop w.marks) (followed K (K' w.stop w.marks)) (C' w.stop w.marks))
      → Comes ws s (spot_at Again (f ∷ fs) p m) (closing_move Owed (spot_at Again (f ∷ fs) p m) os)
      (followed K (flat_map (λ (w : Way). K' w.stop w.marks) (first os))) (atomic_cost C' os)
  owed-closed fs f K K' C' p m [] bs ih = stops
  owed-closed fs f K K' C' p m (w ∷ os) bs ih = goes (rw append-nil (ih w bs.0))

  further_step : (fuel n c p : ℕ) (last : Option ℕ) (m : Marks) (fs : List Frame) (K : Body) (C : Costs)
      → n ≡ min c unlimited → low ≤ c → p ≤ s.end → Follows ws s p (Instruction (u + 1)) fs K C
      → (may_repeat high c last p ≡ true → (w : Way) → Between s p w
      → Runs ws s (spot_at Again (frame i (min (n + 1) unlimited) (Some p) ∷ fs) w.stop w.marks)
      (followed K (possessive_more s high W fuel (c + 1) (Some p) w.stop w.marks))
      (possessive_cost high counted W C fuel (c + 1) (Some p) w.stop w.marks))
      → (x : Bool) → may_repeat high c last p ≡ x
      → Runs ws s (at_loop n last fs p m)
      (followed K
      (or_here (λ q k. possessive_more s high W fuel (c + 1) (Some p) q k) p m (cond x (first_of_body s W p m) [])))
      (cond x (suc (counted ending p m
      + further_cost C (λ q k. possessive_cost high counted W C fuel (c + 1) (Some p) q k) p m (W p m))) (suc (C p m)))
  further_step fuel n c p last m fs K C en l e f ih true x =
      let K' : Body = λ q k. possessive_more s high W fuel (c + 1) (Some p) q k in
      let C' : Costs = λ q k. possessive_cost high counted W C fuel (c + 1) (Some p) q k in
      let g : Frame = frame i (min (n + 1) unlimited) (Some p) in
      let beyond : nat_lt n low ≡ false = grind (arith, nat_tests) in
      let allowed : may_repeat high n last p ≡ true = may_repeat-held high n c p last highest en ∙ x in
      let entered : Spot = spot_at Again (g ∷ fs) p m in
      let body : Spot = spot_at (Instruction (i + 4)) [] p m in
      let mv : Move = Enter (Further (u + 1)) entered body in
      let move : Moves ws s (at_loop n last fs p m) mv = loop_turn n last fs p m mv (rw (beyond, allowed) refl) in
      let behind : Comes ws s entered (closing_move (Further (u + 1)) entered (W p m))
      (followed K (or_here K' p m (first (W p m)))) (further_cost C C' p m (W p m)) =
      further-closed fs g K K' C C' p m (W p m) (b p m e) (f p m (omega arith) e) (ih x) in
      rw (first_of_body-all s W p m b e)
      (turns mv move (enters lies (region ws s (i + 4) u W counted r wu [] p m e) behind))
  further_step fuel n c p last m fs K C en l e f ih false x =
      loop_ends n last fs p m (followed K (here p m)) (C p m) (omega arith)
      (may_repeat-held high n c p last highest en ∙ x) (alone (f p m (omega arith) e))

  further-ran : (fuel n c p : ℕ) (last : Option ℕ) (m : Marks) (fs : List Frame) (K : Body) (C : Costs)
      → n ≡ min c unlimited → low ≤ c → p ≤ s.end → Room s fuel p last → Follows ws s p (Instruction (u + 1)) fs K C
      → Runs ws s (at_loop n last fs p m) (followed K (possessive_more s high W fuel c last p m))
      (possessive_cost high counted W C fuel c last p m)
  further-ran zero n c p last m fs K C en l e room f =
      let same : last ≡ Some p = elim room [ inl x ↦ absurd (omega arith) | inr x ↦ x ] in
      let no_ : may_repeat high n last p ≡ false = rw same (stays high n p p refl) in
      loop_ends n last fs p m (followed K (here p m)) (C p m) (omega arith) no_ (alone (f p m (omega arith) e))
  further-ran (suc fuel) n c p last m fs K C en l e room f =
      further_step fuel n c p last m fs K C en l e f
      (λ t w between.
      further-ran fuel (min (n + 1) unlimited) (c + 1) w.stop (Some p) w.marks fs K C (omega arith) (omega arith)
      between.1
      (room_left s high fuel c p w.stop last between.0 room t) (λ q k from to. f q k (omega arith) to))
      (may_repeat high c last p) refl

  abbrev later_ways : Body
  later_ways q k = possessive_more s high W (s.end + 1 - q) low None q k

  abbrev later_cost : Costs → Costs
  later_cost C q k = possessive_cost high counted W C (s.end + 1 - q) low None q k

  owed-ran : (left n p : ℕ) (m : Marks) (fs : List Frame) (K : Body) (C : Costs) → n + left ≡ low → p ≤ s.end
      → Follows ws s p (Instruction (u + 1)) fs K C
      → Runs ws s (at_loop n None fs p m) (followed K (least s (first_of_body s W) (λ q k. later_ways q k) left p m))
      (owed_cost counted W (λ q k. later_cost C q k) left p m)
  owed-ran zero n p m fs K C en e f =
      further-ran (s.end + 1 - p) n low p None m fs K C (omega arith) (omega arith) e (inl (omega arith)) f
  owed-ran (suc left) n p m fs K C en e f =
      let K' : Body = λ q k. least s (first_of_body s W) (λ a d. later_ways a d) left q k in
      let C' : Costs = λ q k. owed_cost counted W (λ a d. later_cost C a d) left q k in
      let g : Frame = frame i (min (n + 1) unlimited) None in
      let below : nat_lt n low ≡ true = grind (arith, nat_tests) in
      let entered : Spot = spot_at Again (g ∷ fs) p m in
      let body : Spot = spot_at (Instruction (i + 4)) [] p m in
      let mv : Move = Enter Owed entered body in
      let move : Moves ws s (at_loop n None fs p m) mv = loop_turn n None fs p m mv (rw below refl) in
      let ih : (w : Way) → Between s p w
      → Runs ws s (spot_at Again (g ∷ fs) w.stop w.marks) (followed K (K' w.stop w.marks)) (C' w.stop w.marks) =
      λ w between. owed-ran left (min (n + 1) unlimited) w.stop w.marks fs K C (omega arith) between.1
      (λ q k from to. f q k (omega arith) to) in
      let firsts : within s p (first_of_body s W p m) ≡ first (W p m) =
      within-all s p (first_of_body s W p m) (first-bounded s W p m e) ∙ first_of_body-all s W p m b e in
      rw firsts
      (turns mv move (enters lies (region ws s (i + 4) u W counted r wu [] p m e)
      (owed-closed fs g K K' C' p m (W p m) (b p m e) ih)))

  pub possessive-ran : Opcode ws i opcode.POSSESSIVE_REPEAT
      → Ran ws s (Instruction i) (u + 1) (λ p m. possessive_ways s low high W p m)
      (λ C p m. suc (owed_cost counted W (λ q k. later_cost C q k) low p m))
  possessive-ran w fs K C p m e f =
      turns (Go (at_loop 0 None fs p m)) (at_instruction opcode.POSSESSIVE_REPEAT ToRepeatPossessively refl w refl)
      (goes (owed-ran low 0 p m fs K C (omega arith) e f))

-- what a part of the words asks for, the words do, and where no region of the words sets a mark none of the part does
abbrev pub PartOf : List ℕ → Tree → Type 0
PartOf ws t =
    ((g : ℕ) → refers t ≡ true → asked_from t ≤ g → g ≤ asked_to t → MayAsk ws g)
    × (MarklessRegions ws → marks_in_regions t ≡ false)

abbrev PartOfItem : List ℕ → Item → Type 0
PartOfItem ws x =
    ((g : ℕ) → of_item by_references x ≡ true → of_item by_groups x ≤ g → g ≤ of_item by_last_groups x
    → MayAsk ws g)
    × (MarklessRegions ws → of_item by_marked_regions x ≡ false)

abbrev PartOfBranch : List ℕ → Trees → Type 0
PartOfBranch ws ts =
    ((g : ℕ) → of_branch by_references ts ≡ true → of_branch by_groups ts ≤ g → g ≤ of_branch by_last_groups ts
    → MayAsk ws g)
    × (MarklessRegions ws → of_branch by_marked_regions ts ≡ false)

-- the body of a region sets no mark there, and begins at its first word
body_lies : (ws : List ℕ) (i j : ℕ) (t : Tree) → Reads ws i j t → Opcode ws j opcode.SUCCESS
    → (MarklessRegions ws → (sets_mark t || marks_in_regions t) ≡ false) → MarklessRegions ws
    → IsConfined ws (Instruction i) []
body_lies ws i j t r w none markless = (
  record {
    start = i;
    end = j;
    tree = t;
    reads = r;
    ends = w;
    is = (or_parts (sets_mark t) (marks_in_regions t) (none markless)).0;
  },
  begins ws i j t r [],
)

-- and it is a part of the words
body_part : (ws : List ℕ) (t : Tree)
    → ((g : ℕ) → refers t ≡ true → asked_from t ≤ g → g ≤ asked_to t → MayAsk ws g)
    → (MarklessRegions ws → (sets_mark t || marks_in_regions t) ≡ false) → PartOf ws t
body_part ws t has none = (has, λ e. (or_parts (sets_mark t) (marks_in_regions t) (none e)).1)

-- what is read of a repeat of one test is there
run_operands : {ws : List ℕ} {i j low high : ℕ} {t : Test} (kind : RunKind) → Operands ws i j (Run kind low high t)
    → RunOperands ws i low high (j - 1) t
run_operands kind b = record { lowest = b.1; highest = b.2; stands = record { code = b.4; operands = b.5 } }

mutual
  pub ran : (ws : List ℕ) (s : Subject) (i j : ℕ) (t : Tree) → AreWords ws → PartOf ws t
      → Reads ws i j t
      → Ran ws s (Instruction i) j (λ p m. ways s t p m) (λ C p m. cost s t C p m)
  ran ws s i j Empty v has h fs K C p m e f = moved (sym h) (alone (f p m (omega arith) e))
  ran ws s i j (Then item rest) v has h fs K C p m e f =
      rw (flat_map-flat_map (λ (w : Way). K w.stop w.marks)
      (λ (w : Way). ways s rest w.stop w.marks) (item_ways s item p m))
      (item-ran ws s i h.0 item v (
        λ g y l k. has.0 g (or_left (of_item by_references item) (refers rest) y) (omega (arith, l)) (omega (arith, k)),
        λ e. (or_parts (of_item by_marked_regions item) (marks_in_regions rest) (has.1 e)).0,
      ) h.1 fs
      (λ q k. followed K (ways s rest q k)) (λ q k. cost s rest C q k) p m e
      (λ q k l g. ran ws s h.0 j rest v (
        λ g y l k. has.0 g (or_right (of_item by_references item) (refers rest) y) (omega (arith, l))
            (omega (arith, k)),
        λ e. (or_parts (of_item by_marked_regions item) (marks_in_regions rest) (has.1 e)).1,
      ) h.2 fs K C q k g
      (λ q' k' l' g'. f q' k' (omega arith) g')))

  pub item-ran : (ws : List ℕ) (s : Subject) (i j : ℕ) (x : Item) → AreWords ws
      → PartOfItem ws x → ReadsItem ws i j x
      → Ran ws s (Instruction i) j (λ p m. item_ways s x p m) (λ C p m. item_cost s x C p m)
  item-ran ws s i j Fail v has h fs K C p m e f = turns Stop (at_instruction opcode.FAILURE ToFail refl h.0 refl) stops
  item-ran ws s i j (One t) v has h fs K C p m e f = one-ran ws s i j t h.0 h.1 fs K C p m e f
  item-ran ws s i j (At a) v has h fs K C p m e f = at-ran ws s i j a h.0 h.1.0 h.1.1 fs K C p m e f
  item-ran ws s i j (Mark n) v has h fs K C p m e f = mark-ran ws s i j n h.0 h.1.0 h.1.1 fs K C p m e f
  item-ran ws s i j (Branch ts) v has h fs K C p m e f =
      turns (Go (spot_at (Alternatives (i + 1)) fs p m)) (at_instruction opcode.BRANCH ToBranch refl h.0 refl)
      (goes (branch-ran ws s (i + 1) j ts v has h.1 fs K C p m e f))
  item-ran ws s i j (Run GreedyRun low high t) v has h fs K C p m e f =
      run-ran ws s i j low high t h.0 h.1.0 (run_operands GreedyRun h.1) fs K C p m e f
  item-ran ws s i j (Loop o low high body) v has h fs K C p m e f =
      loop-ran ws s i (skip ws (i + 1)) low high o (λ q k. ways s body q k) (λ D q k. cost s body D q k)
      (ways-bounded s body) (v.fits (i + 3) high h.1.1) h.1.2 h.1.0 h.1.1
      (ran ws s (i + 4) (skip ws (i + 1)) body v has h.1.3) h.1.4 h.0 refl fs K C p m e
      (λ q' k' l' g'. moved h.1.5 (f q' k' l' g'))
  item-ran ws s i j (PossessiveLoop low high body) v has h fs K C p m e f =
      possessive-ran ws s i (skip ws (i + 1)) low high (λ q k. ways s body q k) (λ D q k. cost s body D q k)
      (ways-bounded s body) (v.fits (i + 3) high h.1.1) h.1.2 h.1.0 h.1.1
      (ran ws s (i + 4) (skip ws (i + 1)) body v (body_part ws body has.0 has.1) h.1.3)
      h.1.4 refl (body_lies ws (i + 4) (skip ws (i + 1)) body h.1.3 h.1.4 has.1) h.0 fs K C p m e
      (λ q' k' l' g'. moved h.1.5 (f q' k' l' g'))
  item-ran ws s i j (Run LazyRun low high t) v has h fs K C p m e f =
      lazy-run-ran ws s i j low high t h.0 h.1.0 (run_operands LazyRun h.1) h.1.3 fs K C p m e f
  item-ran ws s i j (Run PossessiveRun low high t) v has h fs K C p m e f =
      longest-run-ran ws s i j low high t h.0 h.1.0 (run_operands PossessiveRun h.1) fs K C p m e f
  item-ran ws s i j (Atomic body) v has h fs K C p m e f =
      let b = h.1 in
      let there : i + 1 < length ws =
      omega (arith, reads_within body ws (i + 2) (j - 1) b.1, opcode_within ws (j - 1) opcode.SUCCESS b.2) in
      atomic-ran ws s i j (i + 2) (λ q k. ways s body q k) (λ D q k. cost s body D q k)
      (ran ws s (i + 2) (j - 1) body v (body_part ws body has.0 has.1) b.1) b.2 b.0
      (body_lies ws (i + 2) (j - 1) body b.1 b.2 has.1) h.0 there refl (ways-bounded s body) fs K C p m e f
  item-ran ws s i j (Look sign back body) v has h fs K C p m e f =
      let b = h.1 in
      look-ran ws s i j (i + 3) (λ q k. ways s body q k) (λ D q k. cost s body D q k)
      (ran ws s (i + 3) (j - 1) body v (body_part ws body has.0 has.1) b.2) b.3 b.0
      (body_lies ws (i + 3) (j - 1) body b.2 b.3 has.1) back b.1 refl sign h.0 fs K C p m e f
  item-ran ws s i j (Reference fold g) v has h fs K C p m e f =
      reference-ran ws s i j g fold (has.0 g refl (omega arith) (omega arith)) h.0 h.1.0 h.1.1 fs K C p m e f
  item-ran ws s i j (Exists g there) v has h fs K C p m e f =
      let inside = reads_within there ws (i + 3) j h.1.2 in
      rw (present-followed K (group m g) (ways s there p m) (here p m))
      (condition-ran ws s i g (has.0 g refl (omega arith) (omega arith)) h.0 h.1.0
      (skip_there ws (i + 2) (omega (arith, inside, h.1.1))) fs p m _ _ _ _
      (ran ws s (i + 3) j there v ((λ k _ _ l. has.0 k refl (omega arith) (omega (arith, l))), has.1) h.1.2 fs K C p m
      e f)
      (moved h.1.1 (alone (f p m (omega arith) e))))
  item-ran ws s i j (ExistsElse g there absent) v has h fs K C p m e f =
      let yes = reads_within there ws (i + 3) (i + 1 + word ws (i + 2) - 2) h.1.1 in
      let no_ = reads_within absent ws (i + 1 + word ws (i + 2)) j h.1.3 in
      rw (present-followed K (group m g) (ways s there p m) (ways s absent p m))
      (condition-ran ws s i g (has.0 g refl (omega arith) (omega arith)) h.0 h.1.0
      (skip_there ws (i + 2) (omega (arith, yes))) fs p m _ _ _ _
      (ran ws s (i + 3) (i + 1 + word ws (i + 2) - 2) there v (
        (λ k _ _ l. has.0 k refl (omega arith) (omega (arith, l))),
        λ e. (or_parts (marks_in_regions there) (marks_in_regions absent) (has.1 e)).0,
      ) h.1.1 fs K
      (λ a b. suc (C a b)) p m e
      (λ q' k' l' g'. jump-ran ws s (i + 1 + word ws (i + 2) - 2) j (omega (arith, yes, no_)) h.1.2 fs K C q' k'
      (f q' k' l' g')))
      (ran ws s (i + 1 + word ws (i + 2)) j absent v (
        (λ k _ _ l. has.0 k refl (omega arith) (omega (arith, l))),
        λ e. (or_parts (marks_in_regions there) (marks_in_regions absent) (has.1 e)).1,
      ) h.1.3 fs K C p m e f))

  pub branch-ran : (ws : List ℕ) (s : Subject) (q j : ℕ) (ts : Trees) → AreWords ws
      → PartOfBranch ws ts → ReadsBranch ws q j ts
      → (fs : List Frame) (K : Body) (C : Costs) (p : ℕ) (m : Marks) → p ≤ s.end → Follows ws s p (Instruction j) fs K C
      → Runs ws s (spot_at (Alternatives q) fs p m) (followed K (branch_ways s ts p m))
      (branch_cost s ts (λ a b. suc (C a b)) p m)
  branch-ran ws s q j (Only t) v has h fs K C p m e f =
      let l : q + 3 ≤ skip ws q = alternative_long ws q j (Only t) h in
      last_alternative ws s q (word ws q) _ fs p m _ (word_there ws q (skip_there ws q (omega arith))) (omega arith) h.2
      (ran ws s (q + 1) (skip ws q - 2) t v has h.0 fs K (λ a b. suc (C a b)) p m e
      (λ q' k' l' g'. jump-ran ws s (skip ws q - 2) j (omega (arith, h.3)) h.1 fs K C q' k' (f q' k' l' g')))
  branch-ran ws s q j (Or t ts) v has h fs K C p m e f =
      let l : q + 3 ≤ skip ws q = alternative_long ws q j (Or t ts) h in
      rw (flat_map-append (λ (w : Way). K w.stop w.marks) (ways s t p m) (branch_ways s ts p m))
      (alternative-ran ws s q (word ws q) _ _ fs p m _ _ (word_there ws q (skip_there ws q (omega arith))) (omega arith)
      (ran ws s (q + 1) (skip ws q - 2) t v (
        λ g y l k. has.0 g (or_left (refers t) (of_branch by_references ts) y) (omega (arith, l)) (omega (arith, k)),
        λ e. (or_parts (marks_in_regions t) (of_branch by_marked_regions ts) (has.1 e)).0,
      ) h.0 fs K
      (λ a b. suc (C a b)) p m e (λ q' k' l' g'. jump-ran ws s
      (skip ws q - 2) j (omega (arith, branch_past ts ws (skip ws q) j h.2)) h.1 fs K C q' k' (f q' k' l' g')))
      (branch-ran ws s (skip ws q) j ts v (
        λ g y l k. has.0 g (or_right (refers t) (of_branch by_references ts) y) (omega (arith, l)) (omega (arith, k)),
        λ e. (or_parts (marks_in_regions t) (of_branch by_marked_regions ts) (has.1 e)).1,
      ) h.2 fs K C p m e f))
