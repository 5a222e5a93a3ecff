-- Dataflow analyses over addresses: the FIRST set of an instruction, from those of its successors; and a list of the
-- captures that may be live at each address, which stays right where fewer are listed for one.
-- Branches skip alternatives that fail by the first, and the machine's list of live captures is filled by the second.
-- Nothing in this crate rests on them.
use Rattle.sre_turns.proofs.Terms.{◌≡◌, ℕ, ◌+◌, ◌-◌, ◌<◌, ◌&&◌, ◌||◌, Bool, true, false, cond, nat_eq, nat_lt, List, []}
use Rattle.sre_turns.proofs.Terms.{◌∷◌, Some, None, refl, sym, ◌∙◌, ap, subst, arith, ⊤, nat_tests, true≢false}
use Rattle.sre_turns.proofs.Terms.{and_parts, SreOpcode, Test, Order, Greedy, Lazy, Positive, Negative, holds, Marks}
use Rattle.sre_turns.proofs.Terms.{group, char_at, passes, Way, unlimited, may_repeat, longest_run, run_length, Word}
use Rattle.sre_turns.proofs.Terms.{Opcode, word, skip, until_opcode, Role, role, TestStands, Region, Owed, Further}
use Rattle.sre_turns.proofs.Terms.{Shorter, Longer, Again, Point, Spot, Move, End, Split, Enter, closing_move}
use Rattle.sre_turns.proofs.Terms.{RunOperands, first_frame, next_frame, UntilMove, again_move, AgainMove, in_order}
use Rattle.sre_turns.proofs.Terms.{InRole, Moves, Runs, turns, Comes, stops, goes, splits, enters, until_role, run_none}
use Rattle.sre_turns.proofs.Terms.{word_of, same_opcode, Subject, Frame, Instruction, spot_at, Stop, Go, ◌⊎◌, inl, inr}
use Rattle.sre_turns.proofs.Terms.{Asks, Within, PlacesAsk, GroupLies, AsksAt, AskedByPlace, rules, MarkRange}
use Rattle.sre_turns.proofs.Terms.{AlternativesAsk, GroupAsked}
use Rattle.sre_turns.specs.declared.Region.TheVariants.{AtomicGroup}
use Rattle.sre_model.specs.Roles.{ToLoop, ToTest, ToMark, ToBranch}
use Rattle.sre_turns.specs.Admitting.{NextOutside, AdmitsOnly, TestsOnly, HasAll, RepeatsOnly, RunsOnly, LeadsOnly}
use Rattle.sre_turns.proofs.semantics.OneTurn.{GoesOn, behind_test, behind_reference, behind_run, run_on, group_there}
use Rattle.sre_turns.proofs.semantics.OneTurn.{group_missing, Forks, greedy_run, lazy_run, Begins, plain_loop}
use Rattle.sre_turns.proofs.semantics.OneTurn.{possessive_loop, Enters, atomic_group, lookaround, Turned, stopped}
use Rattle.sre_turns.proofs.semantics.OneTurn.{ended, went, forked, marked, grouped, begun, entered, looped, none_owed}
use Rattle.sre_turns.proofs.semantics.OneTurn.{point_turned, loop_opened}

-- a step after which nothing comes
module _ (ws : List ℕ) (s : Subject) where
  abbrev Barren : Spot → Type 0
  Barren x = (os : List Way) (n : ℕ) → Runs ws s x os n → os ≡ []

  -- where no atomic scope is entered
  abbrev BarrenOnto : Move → Type 0
  BarrenOnto Stop = ⊤
  BarrenOnto End = ⊥
  BarrenOnto (Go y) = Barren y
  BarrenOnto (Split y z) = Barren y × Barren z
  BarrenOnto (Enter g y z) = ⊥

  -- and where one may be
  abbrev BarrenAfter : Move → Type 0
  BarrenAfter (Enter g y z) = (now : List Way) (n : ℕ) → Runs ws s z now n → BarrenOnto (closing_move g y now)
  BarrenAfter a = BarrenOnto a

  onto_nothing : {x : Spot} {os : List Way} {n : ℕ} (a : Move) → BarrenOnto a → Comes ws s x a os n → os ≡ []
  onto_nothing Stop h stops = refl
  onto_nothing End h d = absurd h
  onto_nothing (Go y) h (goes e) = h _ _ e
  onto_nothing (Split y z) h (splits {os₁ = os₁} {os₂ = os₂} e f) = rw (h.0 os₁ _ e, h.1 os₂ _ f) refl
  onto_nothing (Enter g y z) h d = absurd h

  after_nothing : {x : Spot} {os : List Way} {n : ℕ} (a : Move) → BarrenAfter a → Comes ws s x a os n → os ≡ []
  after_nothing (Enter g y z) h (enters {now = now} lies e f) = onto_nothing (closing_move g y now) (h now _ e) f
  after_nothing a h d = onto_nothing a h d

  barren_turn : (x : Spot) → ((a : Move) → Moves ws s x a → BarrenAfter a) → Barren x
  barren_turn x h os n (turns a m d) = after_nothing a (h a m) d

  cond_barren : (b : Bool) (x y : Move) → (b ≡ true → BarrenAfter x) → (b ≡ false → BarrenAfter y)
      → BarrenAfter (cond b x y)
  cond_barren true x y h k = h refl
  cond_barren false x y h k = k refl

  order_barren : (o : Order) (body end : Spot) → Barren body → Barren end → BarrenAfter (in_order o body end)
  order_barren Greedy body end h k = (h, k)
  order_barren Lazy body end h k = (k, h)

-- where a character outside a set comes next, or the range ends
module _ (ws : List ℕ) (s : Subject) (set : ℕ → Bool) (p : ℕ) (o : NextOutside s set p) where
  admitted_nowhere : {X : Type 0} → HasAll set → X
  admitted_nowhere h =
      let has : true ≡ false = sym (h.each o.character o.outside.0) ∙ o.outside.1 in
      absurd (cc)

  test_fails : (i j : ℕ) (t : Test) → TestsOnly ws i set → TestStands ws i j t → passes s t p ≡ false
  test_fails i j t only stands = go (nat_lt p s.end) refl
    where
      go : (b : Bool) → nat_lt p s.end ≡ b → (b && holds s.table t (char_at s p)) ≡ false
      go true e =
          let inside : p < s.end = grind (arith, nat_tests) in
          subst (λ c. holds s.table t c ≡ false) (o.next inside) (only.none o.character o.outside s.table j t stands)
      go false e = refl

  -- what is told of an opcode that is there is so of its role
  led : (i : ℕ) {f : Role} (c : SreOpcode) → Opcode ws i c → LeadsOnly ws set (role c) i → (d : SreOpcode)
      → Opcode ws i d → role d ≡ f → LeadsOnly ws set f i
  led i c w h d v is =
      subst (λ f. LeadsOnly ws set f i) (ap (λ x. role x) (same_opcode ws i c d w v) ∙ is) h

  module _ (fs : List Frame) (m : Marks) where
    abbrev Nothing : Point → Type 0
    Nothing pt = (q : ℕ) → q ≡ p → Barren ws s (spot_at pt fs q m)

    there : (pt : Point) → AdmitsOnly ws pt set → Nothing pt
    there pt h q e = subst (λ n. Barren ws s (spot_at pt fs n m)) (sym e) (h.none s p o fs m)

    -- no counts are left, or no further character is taken
    no_shorter : (t k q : ℕ) → k ≡ 0 → Barren ws s (spot_at (Shorter t k) fs q m)
    no_shorter t k q e =
        barren_turn ws s (spot_at (Shorter t k) fs q m)
        (λ a h. subst (BarrenAfter ws s) (sym h.is)
        (cond_barren ws s (nat_eq k 0) Stop _ (λ y. tt) (λ y. absurd (grind (arith, nat_tests)))))

    no_longer : (i n : ℕ) → TestsOnly ws (i + 4) set → Nothing (Longer i n)
    no_longer i n only q e =
        barren_turn ws s (spot_at (Longer i n) fs q m)
        (λ a h. subst (BarrenAfter ws s) (sym h.is)
        (let missed : passes s h.test q ≡ false =
        subst (λ n. passes s h.test n ≡ false) (sym e)
        (test_fails (i + 4) h.end h.test only h.operands.stands) in
        cond_barren ws s ((nat_eq h.high unlimited || nat_lt n h.high) && passes s h.test q) _ Stop
        (λ y.
        let parts = and_parts (nat_eq h.high unlimited || nat_lt n h.high) (passes s h.test q) y in
        absurd (true≢false (sym parts.1 ∙ missed))) (λ y. tt)))

    tail : {i low high end : ℕ} {t : Test} → RunsOnly ws i set → RunOperands ws i low high end t → low ≡ 0
        → Nothing (Instruction (skip ws (i + 1)))
    tail {i} {low} h operands free =
        there (Instruction (skip ws (i + 1))) (h.behind (word_of ws (i + 2) low operands.lowest ∙ free))

    -- where an instruction goes on, no further character is taken
    goes_on_barren : {i q : ℕ} {f : Role} {pt : Point} → LeadsOnly ws set f i → GoesOn ws s i p f pt q
        → Barren ws s (spot_at pt fs q m)
    goes_on_barren {i} h (behind_test {t = t} stands passed) =
        absurd (true≢false (sym passed ∙ test_fails i _ t h stands))
    goes_on_barren h behind_reference = admitted_nowhere h
    goes_on_barren {i} h (run_on {test = t} operands more) =
        absurd (more (test_fails (i + 4) _ t h.test operands.stands))
    goes_on_barren {i} {q} h (behind_run {test = t} operands missed) =
        let free = missed (test_fails (i + 4) _ t h.test operands.stands) in tail h operands free.0 q free.1
    goes_on_barren h group_there = h.0.none s p o fs m
    goes_on_barren h group_missing = h.1.none s p o fs m
    goes_on_barren h on = h.none s p o fs m

    -- nor where it forks
    forks_barren : {i q : ℕ} {first rest : Point} (c : SreOpcode) → Opcode ws i c → LeadsOnly ws set (role c) i
        → Forks ws s p (Instruction i) first rest q
        → Barren ws s (spot_at first fs q m) × Barren ws s (spot_at rest fs q m)
    forks_barren {i} c w h (greedy_run {low = low} {high = high} {test = t} d v is operands full) =
        let only : RunsOnly ws i set = led i c w h d v is in
        let none : longest_run s t high p ≡ 0 =
        run_none s t _ p (test_fails (i + 4) _ t only.test operands.stands) in
        let free : low ≡ 0 = none_owed (longest_run s t high p) low none full in (
          tail only operands free _ (omega (arith, none)),
          no_shorter (skip ws (i + 1)) (longest_run s t high p - low) _ (omega (arith, none)),
        )
    forks_barren {i} c w h (lazy_run {low = low} {test = t} d v is operands full) =
        let only : RunsOnly ws i set = led i c w h d v is in
        let none : run_length s t low p ≡ 0 =
        run_none s t low p (test_fails (i + 4) _ t only.test operands.stands) in
        let free : low ≡ 0 = none_owed (run_length s t low p) low none full in
        (tail only operands free _ (omega (arith, free)), no_longer i low only.test _ (omega (arith, free)))

    -- where a region closes whose body has no outcome, or is a lookaround
    enters_barren : {i back j q : ℕ} {f : Role} {g : Region} → LeadsOnly ws set f i → Enters ws i f back j g
        → (back ≡ 0 → q ≡ p)
        → BarrenAfter ws s (Enter g (spot_at (Instruction i) fs p m) (spot_at (Instruction j) [] q m))
    enters_barren {i} h atomic_group same now n d =
        closed i (skip ws (i + 1)) now (h.none s p o [] m now n
        (subst (λ r. Runs ws s (spot_at (Instruction (i + 2)) [] r m) now n) (same refl) d))
      where
        closed : (i t : ℕ) (now : List Way) → now ≡ []
            → BarrenOnto ws s (closing_move (AtomicGroup t) (spot_at (Instruction i) fs p m) now)
        closed i t [] e = tt
        closed i t (v ∷ os) e = absurd (cc)
    enters_barren h (lookaround {sign = Positive} back) same [] n d = tt
    enters_barren h (lookaround {sign = Positive} back) same (w ∷ os) n d = h.none s p o fs w.marks
    enters_barren h (lookaround {sign = Negative} back) same [] n d = h.none s p o fs m
    enters_barren h (lookaround {sign = Negative} back) same (w ∷ os) n d = tt

  -- a loop that has had no body, at what ends its bodies
  module _ (i : ℕ) (outer : List Frame) (m : Marks) (h : RepeatsOnly ws i set) where
    again_barren : (low high : ℕ) (fs : List Frame) → Word ws (i + 2) low
        → BarrenAfter ws s (again_move low high (skip ws (i + 1)) (first_frame i) outer (spot_at Again fs p m))
    again_barren low high fs w =
        cond_barren ws s (nat_lt 0 low) _ _ (λ y now n d.
        owed (next_frame (first_frame i) None) now (h.body.none s p o [] m now n d)) (λ y.
        let free : word ws (i + 2) ≡ 0 = word_of ws (i + 2) low w ∙ grind (arith, nat_tests) in
        cond_barren ws s (may_repeat high 0 None p) _ _
        (λ z now n d.
        further (h.behind free) (next_frame (first_frame i) (Some p)) now (h.body.none s p o [] m now n d))
        (λ z. (h.behind free).none s p o outer m))
      where
        owed : (f : Frame) (now : List Way) → now ≡ []
            → BarrenOnto ws s (closing_move Owed (spot_at Again (f ∷ outer) p m) now)
        owed f [] e = tt
        owed f (v ∷ os) e = absurd (cc)

        further : AdmitsOnly ws (Instruction (skip ws (i + 1) + 1)) set → (f : Frame) (now : List Way) → now ≡ []
            → BarrenOnto ws s (closing_move (Further (skip ws (i + 1) + 1)) (spot_at Again (f ∷ outer) p m) now)
        further k f [] e = k.none s p o outer m
        further k f (v ∷ os) e = absurd (cc)

  -- whatever the roles of opcodes are
  until_after : (i u : ℕ) (order : Order) (outer : List Frame) (m : Marks) (a : Move) → RepeatsOnly ws i set
      → u ≡ skip ws (i + 1) → UntilMove ws order u (spot_at (Instruction u) (first_frame i ∷ outer) p m) a
      → BarrenAfter ws s a
  until_after i u order outer m a h e k =
      let l = loop_opened ws k refl in
      rw l.4 (cond_barren ws s (nat_lt 0 l.0) _ _ (λ y. h.body.none s p o _ m) (λ y.
      let free : word ws (i + 2) ≡ 0 = word_of ws (i + 2) l.0 l.2 ∙ grind (arith, nat_tests) in
      let out : Barren ws s (spot_at (Instruction (u + 1)) outer p m) =
      subst (λ v. Barren ws s (spot_at (Instruction (v + 1)) outer p m)) (sym e) ((h.behind free).none s p o outer m) in
      cond_barren ws s (may_repeat l.1 0 None p) _ _ (λ z. order_barren ws s order _ _ (h.body.none s p o _ m) out)
      (λ z. out)))

  again_after : (i : ℕ) (outer : List Frame) (m : Marks) (a : Move) → RepeatsOnly ws i set
      → AgainMove ws (spot_at Again (first_frame i ∷ outer) p m) a → BarrenAfter ws s a
  again_after i outer m a h k =
      let l = loop_opened ws k refl in rw l.4 (again_barren i outer m h l.0 l.1 (first_frame i ∷ outer) l.2)

  until_there : (i u : ℕ) (order : Order) (outer : List Frame) (m : Marks) → RepeatsOnly ws i set
      → u ≡ skip ws (i + 1) → Opcode ws u (until_opcode order)
      → Barren ws s (spot_at (Instruction u) (first_frame i ∷ outer) p m)
  until_there i u order outer m h e w =
      let x : Spot = spot_at (Instruction u) (first_frame i ∷ outer) p m in
      barren_turn ws s x (λ a k.
      let same : role k.0 ≡ ToLoop order =
      ap (λ z. role z) (same_opcode ws u k.0 (until_opcode order) k.1 w) ∙ until_role order in
      until_after i u order outer m a h e (subst (λ f. InRole ws s f u x a) same k.2))

  -- a step of an instruction
  turn_barren : {fs : List Frame} {m : Marks} {i : ℕ} {v w : Move} (c : SreOpcode) → Opcode ws i c
      → LeadsOnly ws set (role c) i → Turned ws s p fs fs m m (Instruction i) v w → BarrenAfter ws s v
  turn_barren c w h stopped = tt
  turn_barren {i = i} c w h (ended d v is) = admitted_nowhere (led i c w h d v is)
  turn_barren {fs} {m} {i} c w h (went x) =
      goes_on_barren fs m (led i c w h x.code x.there refl) x.goes
  turn_barren {fs} {m} c w h (forked f one other on) = forks_barren fs m c w h f
  turn_barren {fs} {i = i} c w h (marked d v is number) = (led i c w h d v is).none s p o fs _
  turn_barren {m = m} c w h (grouped {g = g} d v is asked number a b each) = turn_barren c w h (each (group m g))
  turn_barren {fs} {m} {i} c w h (begun {pt = pt} d v b same) = begins (role d) (led i c w h d v refl) b
    where
      begins : (f : Role) {pt : Point} → LeadsOnly ws set f i → Begins ws i f pt
          → Barren ws s (spot_at pt (first_frame i ∷ fs) p m)
      begins f h plain_loop = until_there i (skip ws (i + 1)) h.0.0 fs m h.1 refl h.0.1
      begins f h possessive_loop =
          barren_turn ws s (spot_at Again (first_frame i ∷ fs) p m) (λ b y. again_after i fs m b h y)
  turn_barren {fs} {m} {i} c w h (entered d v b l far on) =
      enters_barren fs m (led i c w h d v refl) b (λ none. omega (arith, none, l, far))
  turn_barren {i = i} c w h (looped d order v is x y) = admitted_nowhere (led i c w h d v is)

-- so an instruction admits only what is admitted where it goes on
pub leads_admit : (ws : List ℕ) (i : ℕ) (o : SreOpcode) (set : ℕ → Bool) → Opcode ws i o
    → LeadsOnly ws set (role o) i → AdmitsOnly ws (Instruction i) set
leads_admit ws i o set w h = record {
  none = λ s p out fs m.
      barren_turn ws s (spot_at (Instruction i) fs p m) (λ a k.
      turn_barren ws s set p out o w h (point_turned ws s p fs fs m m (Instruction i) a a k k));
}

-- no more is told of any place
pub record IsNarrower (b a : PlacesAsk) : Type 0 where
  pub instruction : (i : ℕ) → Within (b.instruction i) (a.instruction i)
  pub alternatives : (q : ℕ) → Within (b.alternatives q) (a.alternatives q)

-- the same is told of all places but one
pub record IsSameBut (p : ℕ) (b a : PlacesAsk) : Type 0 where
  pub instruction : (i : ℕ) → (i ≡ p) ⊎ (b.instruction i ≡ a.instruction i)
  pub alternatives : (q : ℕ) → (q ≡ p) ⊎ (b.alternatives q ≡ a.alternatives q)

-- a range that has what is asked for where an instruction goes on has it where no more is told of the places
module _ (base : ℕ → Type 0) (ws : List ℕ) (a b : PlacesAsk) (less : IsNarrower b a) (own : MarkRange) where
  still : (i : ℕ) → Within (a.instruction i) own → Within (b.instruction i) own
  still i h = λ k l. h k (less.instruction i k l)

  still_alternatives : (q : ℕ) → Within (a.alternatives q) own → Within (b.alternatives q) own
  still_alternatives q h = λ k l. h k (less.alternatives q k l)

  pub still_asks : (f : Role) (i : ℕ) → AsksAt base ws a own f i → AsksAt base ws b own f i
  still_asks (ToTest kind) i h = record { each = λ j t s. still j (h.each j t s) }
  still_asks ToMark i h = record { each = λ v w k l. h.each v w k (less.instruction (i + 2) k l) }
  still_asks ToBranch i h = still_alternatives (i + 1) h
  still_asks f i h =
      let leads : (i : ℕ) → Within (a.instruction i) own → Within (b.instruction i) own = still in search rules

  pub alternatives_still_ask : (q : ℕ) → AlternativesAsk ws a own q → AlternativesAsk ws b own q
  alternatives_still_ask q h = record {
    first = λ some. still (q + 1) (h.first some);
    others = λ some. still_alternatives (skip ws q) (h.others some);
  }

-- so what is told of a place is replaced by a part of it that has what is asked for there
pub one_place_told : (base : ℕ → Type 0) (ws : List ℕ) (a b : PlacesAsk) (p : ℕ) → AskedByPlace base ws a
    → IsNarrower b a → IsSameBut p b a
    → ((o : SreOpcode) → Opcode ws p o → AsksAt base ws a (b.instruction p) (role o) p)
    → AlternativesAsk ws a (b.alternatives p) p → AskedByPlace base ws b
one_place_told base ws a b p told less same here alternatives = record {
  instruction = λ i o w.
      still_asks base ws a b less (b.instruction i) (role o) i (elim (same.instruction i) [
        | (inl e) ↦
            let P : ℕ → Type 0 = λ n.
            (x : SreOpcode) → Opcode ws n x → AsksAt base ws a (b.instruction n) (role x) n in
            subst P (sym e) here o w
        | (inr e) ↦ subst (λ r. AsksAt base ws a r (role o) i) (sym e) (told.instruction i o w)
      ]);
  alternatives = λ q.
      alternatives_still_ask base ws a b less (b.alternatives q) q (elim (same.alternatives q) [
        | (inl e) ↦ subst (λ n. AlternativesAsk ws a (b.alternatives n) n) (sym e) alternatives
        | (inr e) ↦ subst (λ r. AlternativesAsk ws a r q) (sym e) (told.alternatives q)
      ]);
}

-- a range has what any instruction asks for, if what is told of the places lies in it, and the marks of all groups that
-- are asked for do
module _ (base : ℕ → Type 0) (ws : List ℕ) (a : PlacesAsk) (whole : MarkRange)
    (inside : (i : ℕ) → Within (a.instruction i) whole) (others : (q : ℕ) → Within (a.alternatives q) whole)
    (groups : (i g : ℕ) → Asks ws g → Word ws i g → GroupLies base whole g) where
  asked : (i : ℕ) → GroupAsked base ws whole i
  asked i = record { each = groups (i + 1) }

  all_asks : (f : Role) (i : ℕ) → AsksAt base ws a whole f i
  all_asks (ToTest kind) i = record { each = λ j t s. inside j }
  all_asks ToMark i = record { each = λ v w k l. inl (inside (i + 2) k l) }
  all_asks f i = let named : (i : ℕ) → GroupAsked base ws whole i = asked in search rules

-- and if the marks of all groups that words name do
pub whole_asks : (base : ℕ → Type 0) (ws : List ℕ) (a : PlacesAsk) (whole : MarkRange)
    → ((i : ℕ) → Within (a.instruction i) whole) → ((q : ℕ) → Within (a.alternatives q) whole)
    → ((i g : ℕ) → Word ws i g → GroupLies base whole g) → (f : Role) (i : ℕ) → AsksAt base ws a whole f i
whole_asks base ws a whole inside others groups = all_asks base ws a whole inside others (λ i g asked w. groups i g w)

-- so it is told rightly of every place
pub told_alike : (base : ℕ → Type 0) (ws : List ℕ) (a : PlacesAsk) (whole : MarkRange)
    → ((i : ℕ) → a.instruction i ≡ whole) → ((q : ℕ) → a.alternatives q ≡ whole)
    → ((i g : ℕ) → Asks ws g → Word ws i g → GroupLies base whole g) → AskedByPlace base ws a
told_alike base ws a whole same others groups = record {
  instruction = λ i o w.
      subst (λ r. AsksAt base ws a r (role o) i) (sym (same i))
      (all_asks base ws a whole inside inside_others groups (role o) i);
  alternatives = λ q.
      subst (λ r. AlternativesAsk ws a r q) (sym (others q))
      (record { first = λ some. inside (q + 1); others = λ some. inside_others (skip ws q) });
}
  where
    inside : (i : ℕ) → Within (a.instruction i) whole
    inside i = subst (λ r. Within r whole) (sym (same i)) (λ k l. l)

    inside_others : (q : ℕ) → Within (a.alternatives q) whole
    inside_others q = subst (λ r. Within r whole) (sym (others q)) (λ k l. l)

pub told_everywhere : (base : ℕ → Type 0) (ws : List ℕ) (a : PlacesAsk) (whole : MarkRange)
    → ((i : ℕ) → a.instruction i ≡ whole) → ((q : ℕ) → a.alternatives q ≡ whole)
    → ((i g : ℕ) → Word ws i g → GroupLies base whole g) → AskedByPlace base ws a
told_everywhere base ws a whole same others groups =
    told_alike base ws a whole same others (λ i g asked w. groups i g w)
