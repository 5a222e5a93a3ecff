-- Each step of a configuration in the bytecode of a tree leads to configurations there.
-- That the step bound suffices (`enough` of sre_engine) rests on this.
use Rattle.sre_turns.proofs.Terms.{◌≡◌, ℕ, ◌+◌, ◌-◌, inl, inr, false, nat_eq, List, [], ◌∷◌, refl, ap, ◌∙◌, subst}
use Rattle.sre_turns.proofs.Terms.{arith, nat_tests, SreOpcode, Tree, Empty, Then, Item, RunKind, GreedyRun, LazyRun}
use Rattle.sre_turns.proofs.Terms.{Order, Sign, Positive, Negative, Marks, group, word, skip, Opcode, Reads, ReadsItem}
use Rattle.sre_turns.proofs.Terms.{Operands, until_opcode, Role, role, same_opcode, word_of, test_same, item_role}
use Rattle.sre_turns.proofs.Terms.{until_role, Region, Alternatives, Shorter, Longer, Again, Point, Spot, Move, Moves}
use Rattle.sre_turns.proofs.Terms.{repeats, LiesIn, LiesInItem, LeadsTo, ClosesAt, Subject, Frame, Instruction}
use Rattle.sre_turns.proofs.Terms.{item_opcode, role_same, Trees, Test, Folding, of_tree, of_item, of_parts, HasRole}
use Rattle.sre_turns.proofs.Terms.{role_here}
use Rattle.sre_model.specs.Roles.{ToEnd, ToMark, ToJump, ToRun, ToRepeat, ToLoop, ToRepeatPossessively}
use Rattle.sre_model.specs.Roles.{ToGroupAtomically, ToLook}
use Rattle.sre_chars.specs.declared.constants.SreOpcode.TheVariants as opcode
use Rattle.sre_model.specs.Tree.{Run, Fail, One, At, Mark, Branch, Loop, PossessiveLoop, Atomic, Look, Reference}
use Rattle.sre_model.specs.Tree.{Exists, ExistsElse}
pub use Rattle.sre_turns.proofs.semantics.Parts.{begins}
use Rattle.sre_turns.proofs.semantics.Parts.{branch_begins, Own, Ends, Law, lies_law, alternative, no_more, shorter}
use Rattle.sre_turns.proofs.semantics.Parts.{longer, possessive, with_item, jump, until, success}
use Rattle.sre_turns.proofs.semantics.OneTurn.{GoesOn, behind_test, behind_check, behind_reference, behind_jump}
use Rattle.sre_turns.proofs.semantics.OneTurn.{behind_look, behind_run, run_on, alternatives, group_there}
use Rattle.sre_turns.proofs.semantics.OneTurn.{group_missing, Forks, greedy_run, lazy_run, next_alternative}
use Rattle.sre_turns.proofs.semantics.OneTurn.{next_shorter, next_longer, Begins, plain_loop, possessive_loop, Enters}
use Rattle.sre_turns.proofs.semantics.OneTurn.{atomic_group, lookaround, Turned, stopped, ended, went, forked, marked}
use Rattle.sre_turns.proofs.semantics.OneTurn.{grouped, begun, entered, looped, repeated, point_turned, until_holds}
use Rattle.sre_turns.proofs.semantics.OneTurn.{again_holds}

module _ (ws : List ℕ) (s : Subject) (p : ℕ) where
  -- where a step at an instruction of a role leads, under loops: to which points, under which loops
  data RoleLeads (i : ℕ) : Role → List ℕ → Point → List ℕ → Type 0 where
    goes_on : {f : Role} {q : ℕ} {js : List ℕ} {pt : Point} → GoesOn ws s i p f pt q → RoleLeads i f js pt js
    behind_mark : {js : List ℕ} → RoleLeads i ToMark js (Instruction (i + 2)) js
    run_end : {kind : RunKind} {js : List ℕ} → RoleLeads i (ToRun kind) js (Instruction (skip ws (i + 1))) js
    run_shorter : {k : ℕ} {js : List ℕ} → RoleLeads i (ToRun GreedyRun) js (Shorter (skip ws (i + 1)) k) js
    run_longer : {n : ℕ} {js : List ℕ} → RoleLeads i (ToRun LazyRun) js (Longer i n) js
    loop_begun : {js : List ℕ} → RoleLeads i ToRepeat js (Instruction (skip ws (i + 1))) (i ∷ js)
    possessive_begun : {js : List ℕ} → RoleLeads i ToRepeatPossessively js Again (i ∷ js)
    into_group : {js : List ℕ} → RoleLeads i ToGroupAtomically js (Instruction (i + 2)) []
    behind_group : {js : List ℕ} → RoleLeads i ToGroupAtomically js (Instruction (skip ws (i + 1))) js
    into_look : {sign : Sign} {js : List ℕ} → RoleLeads i (ToLook sign) js (Instruction (i + 3)) []
    past_look : {sign : Sign} {js : List ℕ} → RoleLeads i (ToLook sign) js (Instruction (skip ws (i + 1))) js
    loop_body : {o : Order} {q : ℕ} {js : List ℕ} → RoleLeads i (ToLoop o) (q ∷ js) (Instruction (q + 4)) (q ∷ js)
    loop_end : {o : Order} {q : ℕ} {js : List ℕ} → RoleLeads i (ToLoop o) (q ∷ js) (Instruction (i + 1)) js

  -- and one at any point
  data LeadsOn : Point → List ℕ → Point → List ℕ → Type 0 where
    by_role : {i : ℕ} {js ks : List ℕ} {pt : Point} (o : SreOpcode) → Opcode ws i o → RoleLeads i (role o) js pt ks
        → LeadsOn (Instruction i) js pt ks
    to_alternative :
        {q : ℕ} {js : List ℕ} → nat_eq (word ws q) 0 ≡ false → LeadsOn (Alternatives q) js (Instruction (q + 1)) js
    to_others :
        {q : ℕ} {js : List ℕ} → nat_eq (word ws q) 0 ≡ false
        → LeadsOn (Alternatives q) js (Alternatives (skip ws q)) js
    behind_shorter : {t k : ℕ} {js : List ℕ} → LeadsOn (Shorter t k) js (Instruction t) js
    next_count : {t k n : ℕ} {js : List ℕ} → LeadsOn (Shorter t k) js (Shorter t n) js
    behind_longer : {i n : ℕ} {js : List ℕ} → LeadsOn (Longer i n) js (Instruction (skip ws (i + 1))) js
    one_longer : {i n k : ℕ} {js : List ℕ} → LeadsOn (Longer i n) js (Longer i k) js
    once_more : {q : ℕ} {js : List ℕ} → LeadsOn Again (q ∷ js) Again (q ∷ js)
    into_body : {q : ℕ} {js : List ℕ} → LeadsOn Again (q ∷ js) (Instruction (q + 4)) []
    behind_loop : {q : ℕ} {js : List ℕ} → LeadsOn Again (q ∷ js) (Instruction (skip ws (q + 1) + 1)) js

  fork_leads : {pt first rest : Point} {q : ℕ} {js : List ℕ} → Forks ws s p pt first rest q
      → LeadsOn pt js first js × LeadsOn pt js rest js
  fork_leads {js = js} (greedy_run {i = i} o w e operands full) =
      (by_role o w (rw e run_end), by_role o w (rw e run_shorter))
  fork_leads (lazy_run o w e operands full) = (by_role o w (rw e run_end), by_role o w (rw e run_longer))
  fork_leads (next_alternative inside some) = (to_alternative some, to_others some)
  fork_leads (next_shorter some) = (behind_shorter, next_count)
  fork_leads (next_longer operands past more passed) = (behind_longer, one_longer)

  begin_leads : {i : ℕ} {f : Role} {pt : Point} {js : List ℕ} → Begins ws i f pt → RoleLeads i f js pt (i ∷ js)
  begin_leads plain_loop = loop_begun
  begin_leads possessive_loop = possessive_begun

  until_leads : {u q : ℕ} {js : List ℕ} {order : Order} (o : SreOpcode) → Opcode ws u o → role o ≡ ToLoop order
      → LeadsOn (Instruction u) (q ∷ js) (Instruction (q + 4)) (q ∷ js)
      × LeadsOn (Instruction u) (q ∷ js) (Instruction (u + 1)) js
  until_leads o w e = (by_role o w (rw e loop_body), by_role o w (rw e loop_end))

  -- a kind of points under loops
  module _ (P : Point → List ℕ → Type 0) where
    -- all to which a step at a point leads are such
    abbrev From : Point → List ℕ → Type 0
    From pt js = (at : Point) (ks : List ℕ) → LeadsOn pt js at ks → P at ks

    enter_leads : {i back j : ℕ} {f : Role} {g : Region} (o : SreOpcode) (fs : List Frame) → Opcode ws i o → role o ≡ f
        → Enters ws i f back j g → From (Instruction i) (repeats fs)
        → P (Instruction j) [] × ClosesAt P g fs
    enter_leads o fs w e atomic_group f =
        (f _ _ (by_role o w (rw e into_group)), f _ _ (by_role o w (rw e behind_group)))
    enter_leads o fs w e (lookaround {sign = Positive} there) f =
        (f _ _ (by_role o w (rw e into_look)), f _ _ (by_role o w (rw e past_look)))
    enter_leads o fs w e (lookaround {sign = Negative} there) f =
        (f _ _ (by_role o w (rw e into_look)), f _ _ (by_role o w (rw e past_look)))

    -- so is each to which a step leads there
    turn_leads : {fs gs : List Frame} {m n : Marks} {pt : Point} {v w : Move} → Turned ws s p fs gs m n pt v w
        → From pt (repeats fs) → LeadsTo P v
    turn_leads stopped f = tt
    turn_leads (ended o w e) f = tt
    turn_leads (went x) f = f _ _ (by_role x.code x.there (goes_on x.goes))
    turn_leads (forked k a b on) f = (f _ _ (fork_leads k).0, f _ _ (fork_leads k).1)
    turn_leads (marked o w e number) f = f _ _ (by_role o w (rw e behind_mark))
    turn_leads {m = m} (grouped {g = g} o at e asked number v w each) f = turn_leads (each (group m g)) f
    turn_leads (begun o w b same) f = f _ _ (by_role o w (begin_leads b))
    turn_leads {fs} (entered o w b l far on) f = enter_leads o fs w refl b f
    turn_leads {fs} (looped {u = u} o order w e h k) f =
        let js : repeats fs ≡ h.frame.repeat ∷ repeats h.outer = ap (λ gs. repeats gs) h.inside in
        let body : P (Instruction (h.frame.repeat + 4)) (h.frame.repeat ∷ repeats h.outer) =
        f _ _ (rw js (until_leads o w e).0) in
        let end : P (Instruction (u + 1)) (repeats h.outer) = f _ _ (rw js (until_leads o w e).1) in
        until_holds (LeadsTo P) order u h body (body, end) (end, body) end
    turn_leads {fs} (repeated h k) f =
        let js : repeats fs ≡ h.frame.repeat ∷ repeats h.outer = ap (λ gs. repeats gs) h.inside in
        let more_ : P Again (h.frame.repeat ∷ repeats h.outer) = f _ _ (rw js once_more) in
        let body : P (Instruction (h.frame.repeat + 4)) [] = f _ _ (rw js into_body) in
        let end : P (Instruction (skip ws (h.frame.repeat + 1) + 1)) (repeats h.outer) = f _ _ (rw js behind_loop) in
        again_holds (LeadsTo P) h (body, more_) (body, (more_, end)) end

    -- what lies in words
    abbrev Known : (i j : ℕ) (t : Tree) → Reads ws i j t → List ℕ → Type 0
    Known i j t r js = (pt : Point) (ks : List ℕ) → LiesIn ws i j t r js pt ks → P pt ks

    abbrev KnownInside : (i j : ℕ) (x : Item) → Operands ws i j x → List ℕ → Type 0
    KnownInside i j x r js = (pt : Point) (ks : List ℕ) → LiesInItem ws i j x r js pt ks → P pt ks

    -- the end of a tree's words lies there
    finishes : (i j : ℕ) (t : Tree) (r : Reads ws i j t) (js : List ℕ) → LiesIn ws i j t r js (Instruction j) js
    finishes i j Empty r js = (refl, refl)
    finishes i j (Then x rest) r js = inr (inr (finishes r.0 j rest r.2 js))

    -- at the first word of an item
    item_leads : (i j : ℕ) (x : Item) (r : ReadsItem ws i j x) (js : List ℕ) → P (Instruction i) js
        → P (Instruction j) js → KnownInside i j x r.1 js → {at : Point} {ks : List ℕ}
        → RoleLeads i (item_role x) js at ks → P at ks
    item_leads i j (One t) r js own end f (goes_on (behind_test {j = q} {t = u} stands passed)) =
        let e : q ≡ j = (test_same u t ws i q j stands.code stands.operands r.0 r.1).1 in rw e end
    item_leads i j (At a) r js own end f (goes_on behind_check) = rw (← r.1.1) end
    item_leads i j (Mark n) r js own end f behind_mark = rw (← r.1.1) end
    item_leads i j (Branch ts) r js own end f (goes_on alternatives) = f _ _ (branch_begins ws (i + 1) j ts r.1 js)
    item_leads i j (Loop o low high body) r js own end f loop_begun =
        f _ _ (finishes (i + 4) (skip ws (i + 1)) body r.1.3 (i ∷ js))
    item_leads i j (Run kind low high t) r js own end f (goes_on (behind_run operands missed)) = rw (← r.1.0) end
    item_leads i j (Run kind low high t) r js own end f (goes_on (run_on operands more)) = own
    item_leads i j (Run kind low high t) r js own end f run_end = rw (← r.1.0) end
    item_leads i j (Run kind low high t) r js own end f (run_shorter {k = k}) =
        rw (← r.1.0) (f _ _ (inl (k, (refl, refl))))
    item_leads i j (Run kind low high t) r js own end f (run_longer {n = n}) = f _ _ (inr (n, (refl, refl)))
    item_leads i j (PossessiveLoop low high body) r js own end f possessive_begun = f _ _ (inl (refl, refl))
    item_leads i j (Atomic body) r js own end f into_group = f _ _ (begins ws (i + 2) (j - 1) body r.1.1 [])
    item_leads i j (Atomic body) r js own end f behind_group = rw (← r.1.0) end
    item_leads i j (Look sign back body) r js own end f into_look = f _ _ (begins ws (i + 3) (j - 1) body r.1.2 [])
    item_leads i j (Look sign back body) r js own end f past_look = rw (← r.1.0) end
    item_leads i j (Look sign back body) r js own end f (goes_on behind_look) = rw (← r.1.0) end
    item_leads i j (Reference fold g) r js own end f (goes_on behind_reference) = rw (← r.1.1) end
    item_leads i j (Exists g a) r js own end f (goes_on group_there) = f _ _ (begins ws (i + 3) j a r.1.2 js)
    item_leads i j (Exists g a) r js own end f (goes_on group_missing) = rw (← r.1.1) end
    item_leads i j (ExistsElse g a b) r js own end f (goes_on group_there) =
        f _ _ (inl (begins ws (i + 3) (i + 1 + word ws (i + 2) - 2) a r.1.1 js))
    item_leads i j (ExistsElse g a b) r js own end f (goes_on group_missing) =
        f _ _ (inr (begins ws (i + 1 + word ws (i + 2)) j b r.1.3 js))
    item_leads i j Fail r js own end f (goes_on g) = elim g [ ]
    item_leads i j (Mark n) r js own end f (goes_on g) = elim g [ ]
    item_leads i j (Loop o low high body) r js own end f (goes_on g) = elim g [ ]
    item_leads i j (PossessiveLoop low high body) r js own end f (goes_on g) = elim g [ ]
    item_leads i j (Atomic body) r js own end f (goes_on g) = elim g [ ]

    -- at an instruction whose role is known
    role_leads : {i : ℕ} {f : Role} {js : List ℕ} {at : Point} {ks : List ℕ} (c : SreOpcode) → Opcode ws i c
        → role c ≡ f → LeadsOn (Instruction i) js at ks → RoleLeads i f js at ks
    role_leads {i} {js = js} {at = at} {ks = ks} c w e (by_role o v l) =
        subst (λ f. RoleLeads i f js at ks) (ap (λ z. role z) (same_opcode ws i o c v w) ∙ e) l

    -- at the first address of a tree
    first_leads : (i j : ℕ) (t : Tree) (r : Reads ws i j t) (js : List ℕ) → Known i j t r js → From (Instruction j) js
        → From (Instruction i) js
    first_leads i j Empty r js f end at ks l = end at ks (rw r at l)
    first_leads i j (Then x rest) r js f end at ks l =
        item_leads i r.0 x r.1 js (f _ _ (inl (refl, refl))) (f _ _ (inr (inr (begins ws r.0 j rest r.2 js))))
        (λ pt ls z. f pt ls (inr (inl z))) (role_leads (item_opcode x) r.1.0 (role_same x) l)

    -- at an item's own points
    own_leads : {i j : ℕ} {js : List ℕ} {x : Item} {r : Operands ws i j x} {pt : Point} {ks : List ℕ}
        → Own ws i j js x r pt ks → KnownInside i j x r js → P (Instruction j) js → From pt ks
    own_leads (alternative q y z) f end at ks (to_alternative some) = f _ _ y
    own_leads (alternative q y z) f end at ks (to_others some) = f _ _ z
    own_leads (no_more q w) f end at ks (to_alternative some) =
        let none = word_of ws q 0 w in absurd (grind (arith, nat_tests))
    own_leads (no_more q w) f end at ks (to_others some) =
        let none = word_of ws q 0 w in absurd (grind (arith, nat_tests))
    own_leads (shorter k) f end at ks behind_shorter = end
    own_leads (shorter k) f end at ks (next_count {n = n}) = f _ _ (inl (n, (refl, refl)))
    own_leads (longer {r = r} n) f end at ks behind_longer = rw (← r.0) end
    own_leads (longer n) f end at ks (one_longer {k = k}) = f _ _ (inr (k, (refl, refl)))
    own_leads possessive f end at ks once_more = f _ _ (inl (refl, refl))
    own_leads {i = i} (possessive {body = body} {r = r}) f end at ks into_body =
        f _ _ (inr (begins ws (i + 4) (skip ws (i + 1)) body r.3 []))
    own_leads (possessive {r = r}) f end at ks behind_loop = rw (← r.5) end

    success_leads : {i : ℕ} {js : List ℕ} → Opcode ws i opcode.SUCCESS → From (Instruction i) js
    success_leads w at ks l = go (role_leads opcode.SUCCESS w refl l)
      where
        go : {i : ℕ} {js ks : List ℕ} {at : Point} → RoleLeads i ToEnd js at ks → P at ks
        go (goes_on g) = elim g [ ]

    -- where a part ends
    end_leads : {i j : ℕ} {js : List ℕ} {x : Item} {a b : ℕ} {t : Tree} {ls : List ℕ} → Ends ws i j js x a b t ls
        → P (Instruction a) ls → P (Instruction j) js → From (Instruction j) js → From (Instruction b) ls
    end_leads with_item start out end at ks l = end at ks l
    end_leads {j = j} (jump w) start out end at ks l = go (role_leads opcode.JUMP w.0 refl l) (rw w.1 at out)
      where
        go : {d : ℕ} {js ks : List ℕ} {at : Point} → RoleLeads d ToJump js at ks → P (Instruction (skip ws (d + 1))) js
            → P at ks
        go (goes_on behind_jump) out = out
    end_leads (until {o = o} l h w next) start out end at ks k =
        go (role_leads (until_opcode o) w (until_role o) k) start (rw next at out)
      where
        go : {d q : ℕ} {o : Order} {js ks : List ℕ} {at : Point} → RoleLeads d (ToLoop o) (q ∷ js) at ks
            → P (Instruction (q + 4)) (q ∷ js) → P (Instruction (d + 1)) js → P at ks
        go loop_body start out = start
        go loop_end start out = out
        go (goes_on g) start out = elim g [ ]
    end_leads (success w last) start out end at ks l = success_leads w at ks l

    abbrev Led : (i j : ℕ) (t : Tree) → Reads ws i j t → List ℕ → Point → List ℕ → Type 0
    Led i j t r js pt ks = Known i j t r js → From (Instruction j) js → From pt ks

    led : Law ws Led
    led = record {
      end = λ i j r js f end. end;
      first = λ i j x rest r js f end. first_leads i j (Then x rest) r js f end;
      own = λ i j x rest r js pt ks o f end.
          own_leads o (λ qt ls z. f qt ls (inr (inl z))) (f _ _ (inr (inr (begins ws r.0 j rest r.2 js))));
      rest = λ i j x rest r js pt ks y k f end. k (λ qt ls z. f qt ls (inr (inr z))) end;
      part = λ i j x rest r js a b t reads ls p pt ks y k f end.
          k (λ qt ms z. f qt ms (inr (inl (p.2 qt ms z))))
          (end_leads p.1 (f _ _ (inr (inl (p.2 _ _ (begins ws a b t reads ls)))))
          (f _ _ (inr (inr (begins ws r.0 j rest r.2 js))))
          (first_leads r.0 j rest r.2 js (λ qt ms z. f qt ms (inr (inr z))) end));
    }

-- so in words that are a tree's, up to a SUCCESS: the whole, or the body of a region
pub body_moves : (ws : List ℕ) (s : Subject) (i j : ℕ) (t : Tree) (r : Reads ws i j t) → Opcode ws j opcode.SUCCESS
    → (x : Spot) (mv : Move) → LiesIn ws i j t r [] x.point (repeats x.frames) → Moves ws s x mv
    → LeadsTo (λ pt ks. LiesIn ws i j t r [] pt ks) mv
body_moves ws s i j t r w x mv y h =
    let P : Point → List ℕ → Type 0 = λ pt ks. LiesIn ws i j t r [] pt ks in
    turn_leads ws s x.position P
    (point_turned ws s x.position x.frames x.frames x.marks x.marks x.point mv mv h h)
    (lies_law ws (Led ws s x.position P) (led ws s x.position P) i j t r [] x.point (repeats x.frames) y (λ pt ks z. z)
    (success_leads ws s x.position P w))

-- What holds of each point in a tree's bytecode, where the tree is good by a fold.

module _ (ws : List ℕ) {V : Type 0} (f : Folding V) (Good : V → Type 0) (P : Point → List ℕ → Type 0) where
  -- parts of what is good are, and it holds of points by the items that begin there, and of all others, whatever loops
  -- are in progress; of a possessive loop it holds under that loop
  pub record HoldsInGood : Type 0 where
    pub first : (a b : V) → Good (f.both a b) → Good a
    pub second : (a b : V) → Good (f.both a b) → Good b
    pub parts : (x : Item) → Good (of_item f x) → Good (of_parts f x)
    pub item : (i j : ℕ) (x : Item) → ReadsItem ws i j x → Good (of_item f x) → (ks : List ℕ) → P (Instruction i) ks
    pub success : (i : ℕ) → HasRole ws i ToEnd → (ks : List ℕ) → P (Instruction i) ks
    pub jump : (i : ℕ) → HasRole ws i ToJump → (ks : List ℕ) → P (Instruction i) ks
    pub until :
        (i : ℕ) (o : Order) (low high : ℕ) (body : Tree) → Good (of_item f (Loop o low high body))
        → HasRole ws i (ToLoop o) → (ks : List ℕ) → P (Instruction i) ks
    pub alternatives : (ts : Trees) → Good (of_item f (Branch ts)) → (q : ℕ) (ks : List ℕ) → P (Alternatives q) ks
    pub shorter :
        (kind : RunKind) (low high : ℕ) (t : Test) → Good (of_item f (Run kind low high t)) → (j k : ℕ)
        (ks : List ℕ) → P (Shorter j k) ks
    pub longer :
        (kind : RunKind) (low high : ℕ) (t : Test) → Good (of_item f (Run kind low high t)) → (i n : ℕ)
        (ks : List ℕ) → P (Longer i n) ks
    pub again :
        (i j low high : ℕ) (body : Tree) → Operands ws i j (PossessiveLoop low high body)
        → Good (of_item f (PossessiveLoop low high body)) → (js : List ℕ) → P Again (i ∷ js)

  module _ (h : HoldsInGood) where
    -- the first point of a good tree
    first_holds : (i j : ℕ) (t : Tree) → Reads ws i j t → Good (of_tree f t) → (js : List ℕ) → P (Instruction j) js
        → P (Instruction i) js
    first_holds i j Empty r g js p = rw r p
    first_holds i j (Then x rest) r g js p = h.item i r.0 x r.1 (h.first (of_item f x) (of_tree f rest) g) js

    own_holds : {i j : ℕ} {js : List ℕ} {x : Item} {r : Operands ws i j x} {pt : Point} {ks : List ℕ}
        → Own ws i j js x r pt ks → Good (of_item f x) → P pt ks
    own_holds {js = js} (alternative {ts = ts} q y z) g = h.alternatives ts g q js
    own_holds {js = js} (no_more {ts = ts} q w) g = h.alternatives ts g q js
    own_holds {j = j} {js = js} (shorter {kind = kind} {low = low} {high = high} {t = t} k) g =
        h.shorter kind low high t g j k js
    own_holds {i = i} {js = js} (longer {kind = kind} {low = low} {high = high} {t = t} n) g =
        h.longer kind low high t g i n js
    own_holds {i = i} {j = j} {js = js} (possessive {low = low} {high = high} {body = body} {r = r}) g =
        h.again i j low high body r g js

    -- the end of a part of a good item
    end_holds : {i j : ℕ} {js : List ℕ} {x : Item} {a b : ℕ} {t : Tree} {ls : List ℕ} → Ends ws i j js x a b t ls
        → Good (of_item f x) → P (Instruction j) js → P (Instruction b) ls
    end_holds with_item g p = p
    end_holds {js = js} {b = b} (jump w) g p = h.jump b (role_here ws b opcode.JUMP ToJump w.0 refl) js
    end_holds {i = i} {js = js} {b = b} (until {o = o} {low = low} {high = high} {body = body} l m w e) g p =
        h.until b o low high body g (role_here ws b (until_opcode o) (ToLoop o) w (until_role o)) (i ∷ js)
    end_holds {b = b} (success w e) g p = h.success b (role_here ws b opcode.SUCCESS ToEnd w refl) []

    abbrev Held : (i j : ℕ) (t : Tree) → Reads ws i j t → List ℕ → Point → List ℕ → Type 0
    Held i j t r js pt ks = Good (of_tree f t) → P (Instruction j) js → P pt ks

    held : Law ws Held
    held = record {
      end = λ i j r js g p. p;
      first = λ i j x rest r js g p. first_holds i j (Then x rest) r g js p;
      own = λ i j x rest r js pt ks o g p. own_holds o (h.first (of_item f x) (of_tree f rest) g);
      rest = λ i j x rest r js pt ks y k g p. k (h.second (of_item f x) (of_tree f rest) g) p;
      part = λ i j x rest r js a b t s ls part pt ks y k g p.
          let here : Good (of_item f x) = h.first (of_item f x) (of_tree f rest) g in
          k (part.3 V f Good h.first h.second (h.parts x here))
          (end_holds part.1 here (first_holds r.0 j rest r.2 (h.second (of_item f x) (of_tree f rest) g) js p));
    }

    -- where a good tree stands before a point of which it holds, it holds of each of its points
    pub tree_holds : (i j : ℕ) (t : Tree) (r : Reads ws i j t) (js : List ℕ) (pt : Point) (ks : List ℕ)
        → Good (of_tree f t) → P (Instruction j) js → LiesIn ws i j t r js pt ks → P pt ks
    tree_holds i j t r js pt ks g p y = lies_law ws Held held i j t r js pt ks y g p
