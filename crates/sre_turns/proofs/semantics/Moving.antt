-- A step of the machine, whatever the opcode: what it comes to, and that the accepted outcomes begin as they did.
use Rattle.sre_turns.proofs.Terms.{◌≡◌, ℕ, suc, ◌+◌, ◌<◌, ◌≤◌, List, [], ◌∷◌, ◌++◌, length, refl, sym, ap, ◌∙◌, subst}
use Rattle.sre_turns.proofs.Terms.{arith, true, append-nil, SreOpcode, Marks, Way, first, Opcode, Choice, Else, Keep}
use Rattle.sre_turns.proofs.Terms.{Trying, choice, from_region, Region, Inside, Tried, TriedAgain, Point, Spot, Move}
use Rattle.sre_turns.proofs.Terms.{End, Split, Enter, Limit, earlier, raised, pool, CodeAt, FaresAt, Stage, Coming}
use Rattle.sre_turns.proofs.Terms.{Going, Splitting, spare, share, FaresBoth, price_of, toll, toll_by, split_toll}
use Rattle.sre_turns.proofs.Terms.{Counted, StandsConfined, BothConfined, Placed, InRole, Moves, MovesAt, Runs, turns}
use Rattle.sre_turns.proofs.Terms.{Comes, stops, ends, goes, splits, enters, Waits, outermost, otherwise, kept, tried}
use Rattle.sre_turns.proofs.Terms.{Goes, Arrives, Tries, GoesBoth, Later, spot, HasRun, GoesWith, Refuses, Skips}
use Rattle.sre_turns.proofs.Terms.{SkipsBoth, Exhausted, Continues, Advances, Chooses, Role, role, begins_test}
use Rattle.sre_turns.proofs.Terms.{same_opcode, opcode_within, some_test, MarklessRegions, StringCursor, Subject}
use Rattle.sre_turns.proofs.Terms.{BoardValue, Frame, Instruction, spot_at, Stop, Go, repeats, Run, TestMove}
use Rattle.sre_model.specs.Roles.{ToTest}
use Rattle.sre_turns.proofs.memoization.Bodies.{turn_confined, goes_confined, splits_confined, first_confined}
use Rattle.sre_turns.proofs.memoization.Bodies.{first_left, second_left}
use Rattle.sre_turns.proofs.bound.Faring.{FreeOfToll, turn_leaves, fares_less, first_waits, first_alone, second_alone}
use Rattle.sre_turns.proofs.bound.Faring.{second_goes, run_code, with_credits, run_place, place_left, share_more}
use Rattle.sre_turns.specs.Machine.{IsAt}
use Rattle.sre_turns.specs.declared.Next.TheVariants as next
use Rattle.sre_turns.proofs.semantics.OneTurn.{comes}
use Rattle.sre_turns.proofs.semantics.AfterSteps.{has_run, stopped, went, parted}

-- what stands at an instruction
pub in_role : {ws : List ℕ} {s : Subject} {i p n : ℕ} {fs : List Frame} {m : Marks} {os : List Way} (o : SreOpcode)
    (f : Role) → role o ≡ f → Opcode ws i o → Runs ws s (spot_at (Instruction i) fs p m) os n
    → (mv : Move) × InRole ws s f i (spot_at (Instruction i) fs p m) mv
in_role {ws} {s} {i} {p} {n} {fs} {m} o f e w (turns mv h d) = (
  mv,
  subst (λ z. InRole ws s z i (spot_at (Instruction i) fs p m) mv)
      (ap (λ z. role z) (same_opcode ws i h.0 o h.1 w) ∙ e) h.2,
)

-- a step at an instruction whose role is known
pub at_instruction : {ws : List ℕ} {s : Subject} {i : ℕ} {x : Spot} {mv : Move} (o : SreOpcode) (f : Role)
    → role o ≡ f → Opcode ws i o → InRole ws s f i x mv → MovesAt ws s (Instruction i) x mv
at_instruction {ws} {s} {i} {x} {mv} o f e w h = (o, w, subst (λ z. InRole ws s z i x mv) (sym e) h)

-- the same of a test, whose kind is not looked at
pub in_test : {ws : List ℕ} {s : Subject} {i p n : ℕ} {fs : List Frame} {m : Marks} {os : List Way} (o : SreOpcode)
    → begins_test o ≡ true → Opcode ws i o → Runs ws s (spot_at (Instruction i) fs p m) os n
    → (mv : Move) × TestMove ws s i (spot_at (Instruction i) fs p m) mv
in_test o e w x = let k = some_test o e in in_role o (ToTest k.0) k.1 w x

pub at_test : {ws : List ℕ} {s : Subject} {i : ℕ} {x : Spot} {mv : Move} (o : SreOpcode) → begins_test o ≡ true
    → Opcode ws i o → TestMove ws s i x mv → MovesAt ws s (Instruction i) x mv
at_test o e w h = let k = some_test o e in at_instruction o (ToTest k.0) k.1 w h

pub run_nothing : {ws : List ℕ} {s : Subject} {x : Spot} {os : List Way} {n : ℕ} → Moves ws s x Stop
    → Runs ws s x os n → os ≡ []
run_nothing h d = (stopped h d).0

pub on_board : (r : Run) (pt : Point) (c : StringCursor) (b : BoardValue) → IsAt r pt c b → HasRun r pt c
on_board r pt c b x = has_run r pt c x.stands x.runs

-- an instruction that is reached is one of the words
pub reached_within : (r : Run) (i : ℕ) (c : StringCursor) → HasRun r (Instruction i) c → i < length r.words
reached_within r i c x =
    let code = run_code r (spot_at (Instruction i) x.frames c.position x.marks) x.runs in
    opcode_within r.words i code.0 code.1

-- what waits for so many steps waits for fewer
pub sooner : {r : Run} {cs : List Choice} {now all : List Way} {k : ℕ} (u v : ℕ) → v ≤ u → Waits r cs u now all k
    → Waits r cs v now all k
sooner u v l (outermost begins) = outermost begins
sooner u v l (otherwise {n = n} there placed d wt) =
    otherwise there placed d (sooner (u + n + 1) (v + n + 1) (omega arith) wt)
sooner u v l (kept {pt = pt} {n = n} there placed d wt) =
    kept {pt = pt} there placed d (sooner (u + n) (v + n) (omega arith) wt)
sooner u v l (tried there placed d most same wt) = tried there placed d (omega arith) same (sooner u v l wt)

-- the machine stands at a configuration of which these outcomes come, by what waits: that has as much to spare
pub standing : {r : Run} {all now os : List Way} {more : Limit} {pt : Point} {c : StringCursor} {b : BoardValue}
    {cs : List Choice} {u k later : ℕ} (stage : Stage) → Waits r cs u now all later → b.choices ≡ cs → now ≡ os
    → Runs r.words r.subject (spot pt c b) os k → k + spare stage ≤ u → k + later ≤ more.turns
    → r.stands c c.position → Placed r.subject b.marks
    → ((pl : Counted r) (o : SreOpcode) → CodeAt r.words pt o
    → FaresAt r pl more (share stage r.words r.subject.end o (spot pt c b)) (spot pt c b) cs)
    → (MarklessRegions r.words → StandsConfined r.words (spot pt c b) cs) → GoesWith stage r all more pt c b
standing {r} {all} {now} {os} {more} {pt} {c} {b} {cs} {u} {k} {later} stage waits e same runs enough within there
    placed fares confined = record {
      now = os;
      turns = k;
      later = later;
      stands = there;
      placed = placed;
      runs = runs;
      waits = sooner u (k + spare stage) enough (rw (e, ← same) waits);
      within = within;
      fares = rw e fares;
      confined = rw e confined;
    }

-- the same at two configurations
pub both_standing : {r : Run} {all now os us : List Way} {limit : Limit} {x y : Spot} {c : StringCursor}
    {cs : List Choice} {u n k later : ℕ} → Waits r cs u now all later → now ≡ os ++ us → Runs r.words r.subject x os n
    → Runs r.words r.subject y us k → n + k + 2 ≤ u → n + k + later + 2 ≤ limit.turns
    → r.stands c c.position → Placed r.subject x.marks → Placed r.subject y.marks
    → ((pl : Counted r) → FaresBoth r pl limit x y cs) → (MarklessRegions r.words → BothConfined r.words x y cs)
    → GoesBoth r all limit x y c cs
both_standing {os = os} {us = us} {u = u} {n = n} {k = k} {later = later} waits both one other enough within there px py
    fares confined = record {
      now = os;
      next = us;
      turns = n;
      further = k;
      later = later;
      stands = there;
      placed = px;
      others_placed = py;
      runs = one;
      others = other;
      waits = sooner u (n + k + 2) enough (rw (← both) waits);
      within = within;
      fares = fares;
      confined = confined;
    }

-- a point has the credits of its opcode, whichever of them is read
same_tolls : (ws : List ℕ) (e : ℕ) (pt : Point) (ks : List ℕ) (o p : SreOpcode) → CodeAt ws pt o → CodeAt ws pt p
    → toll ws e o pt ks ≡ toll ws e p pt ks
same_tolls ws e (Instruction i) ks o p w v = ap (λ q. toll_by ws e i ks (role q)) (same_opcode ws i o p w v)
same_tolls ws e pt ks o p w v = refl

module _ {r : Run} {all : List Way} {limit : Limit} {pt : Point} {c : StringCursor} {b : BoardValue} where
  -- what is reached is under way, where no more has to be spared, with what it may still take
  under_way : (stage : Stage) (more_ : Limit) → spare stage ≤ 1 → more_.turns ≡ limit.turns
      → ((pl : Counted r) (o : SreOpcode) → CodeAt r.words pt o
      → FaresAt r pl limit (share Coming r.words r.subject.end o (spot pt c b)) (spot pt c b) b.choices
      → FaresAt r pl more_ (share stage r.words r.subject.end o (spot pt c b)) (spot pt c b) b.choices)
      → Arrives r all limit pt c b → GoesWith stage r all more_ pt c b
  under_way stage more_ l same fares g =
      standing stage g.waits refl refl g.runs (omega (arith, l)) (omega (arith, same, g.within)) g.stands g.placed
      (λ pl o w. fares pl o w (g.fares pl o w)) g.confined

  -- it is executed, for nothing
  pub arrived : FreeOfToll pt → Arrives r all limit pt c b → Goes r all limit pt c b
  arrived free =
      under_way Going limit (omega arith) refl (λ pl o w f. record {
        here = f.here;
        fares =
            fares_less r pl limit b.choices (pool r.words r.subject.end o pt (repeats b.frames) c.position) _
            (omega (arith, free.same r.words r.subject.end c.position o (repeats b.frames))) f.fares;
      })

  -- a point is executed, for its credits
  pub arrived_at : (o : SreOpcode) → CodeAt r.words pt o → Arrives r all limit pt c b
      → Goes r all (raised (toll r.words r.subject.end o pt (repeats b.frames)) limit) pt c b
  arrived_at o w =
      let x : Spot = spot pt c b in
      let ks : List ℕ = repeats b.frames in
      under_way Going (raised (toll r.words r.subject.end o pt ks) limit) (omega arith) refl (λ pl o' w' f.
      subst (λ k. FaresAt r pl (raised k limit) (pool r.words r.subject.end o' pt ks c.position) x b.choices)
      (same_tolls r.words r.subject.end pt ks o' o w' w) (with_credits r pl limit _ _ x b.choices f))

  -- or for those of a repeat that is split
  pub arrived_once : Arrives r all limit pt c b → Tries r all (raised (split_toll r.words pt) limit) pt c b
  arrived_once =
      under_way Splitting (raised (split_toll r.words pt) limit) (omega arith) refl
      (λ pl o w. with_credits r pl limit _ _ (spot pt c b) b.choices)

-- each run takes a step
pub some_turns : {ws : List ℕ} {s : Subject} {x : Spot} {os : List Way} {n : ℕ} → Runs ws s x os n → 1 ≤ n
some_turns {ws} {s} (turns mv h d) = go d
  where
    go : {x : Spot} {mv : Move} {os : List Way} {n : ℕ} → Comes ws s x mv os n → 1 ≤ n
    go stops = omega arith
    go ends = omega arith
    go (goes e) = omega arith
    go (splits e f) = omega arith
    go (enters lies e f) = omega arith

-- what one step keeps
module _ (r : Run) (pt : Point) (c : StringCursor) (b : BoardValue) where
  -- the machine backtracks where what waits waits for nothing, too
  pub back_from : {stage : Stage} (all : List Way) (limit : Limit) (g : GoesWith stage r all limit pt c b)
      → Waits r b.choices (g.turns + spare stage) [] all g.later → Later r all limit next.Back b
  back_from {stage} all limit g waits = (
    omega (arith, some_turns g.runs, g.within),
    record {
      later = g.later;
      waits = sooner (g.turns + spare stage) 0 (omega arith) waits;
      within = omega (arith, some_turns g.runs, g.within);
      fares = λ pl.
          let x : Spot = spot pt c b in
          let code = run_code r x g.runs in
          place_left r pl limit _ x b.choices (run_place r x g.runs) (share_more stage r.words r.subject.end code.0 x)
          (g.fares pl code.0 code.1);
      confined = λ none. (g.confined none).others;
    },
  )

  -- as where nothing comes of it
  pub turn_stops : {stage : Stage} → Moves r.words r.subject (spot pt c b) Stop → (all : List Way) (limit : Limit)
      → GoesWith stage r all limit pt c b → Later r all limit next.Back b
  turn_stops h all limit g = back_from all limit g (rw (run_nothing h g.runs) at g.waits)

  pub exhausted_back : Exhausted r pt c.position → Advances r pt c b next.Back b
  exhausted_back none all limit g =
      back_from all limit g (rw (none b.frames b.marks g.now g.turns g.runs) at g.waits)

  pub turn_ends : Moves r.words r.subject (spot pt c b) End → Advances r pt c b (next.Done c) b
  turn_ends h all limit g = go (comes End h g.runs) g.waits g.within
    where
      go : {os : List Way} {n k : ℕ} → Comes r.words r.subject (spot pt c b) End os n
          → Waits r b.choices (n + 0) os all k → n + k ≤ limit.turns → Later r all limit (next.Done c) b
      go ends wt l = (
        omega arith,
        record {
          later = _;
          stands = g.stands;
          placed = g.placed;
          waits = sooner (2 + 0) 0 (omega arith) wt;
          within = omega arith;
          fares = λ pl. turn_leaves r pl limit b.choices (spot pt c b) End h (g.fares pl);
          confined = λ none. (g.confined none).others;
        },
      )

  pub turn_goes : (pt' : Point) (c' : StringCursor) (b' : BoardValue)
      → Moves r.words r.subject (spot pt c b) (Go (spot pt' c' b')) → r.stands c' c'.position
      → Placed r.subject b'.marks → b'.choices ≡ b.choices
      → (all : List Way) (limit : Limit) → Goes r all limit pt c b
      → (1 ≤ limit.turns) × Arrives r all (earlier limit) pt' c' b'
  turn_goes pt' c' b' h there placed e all limit g =
      let d = went h g.runs in (
        omega (arith, d.1, g.within),
        standing Coming g.waits e refl d.2 (omega (arith, d.1)) (omega (arith, d.1, g.within)) there placed
            (λ pl o w. turn_leaves r pl limit b.choices (spot pt c b) (Go (spot pt' c' b')) h (g.fares pl))
            (λ none.
            goes_confined r.words r.subject (spot pt c b) (spot pt' c' b') b.choices h (g.confined none)),
      )

  -- two configurations come of it, at another cursor perhaps
  pub turn_splits : (y z : Spot) (c' : StringCursor) → Moves r.words r.subject (spot pt c b) (Split y z)
      → r.stands c' c'.position → y.marks ≡ b.marks → z.marks ≡ b.marks → (all : List Way) (limit : Limit)
      → Goes r all limit pt c b → GoesBoth r all limit y z c' b.choices
  turn_splits y z c' h there ey ez all limit g =
      let p = parted h g.runs in
      both_standing g.waits p.both p.runs p.others (omega (arith, p.sum)) (omega (arith, p.sum, g.within)) there
      (rw ey g.placed) (rw ez g.placed)
      (λ pl. turn_leaves r pl limit b.choices (spot pt c b) (Split y z) h (g.fares pl))
      (λ none. splits_confined r.words r.subject (spot pt c b) y z b.choices h (g.confined none))

-- of two configurations, the first comes to nothing
pub both_pass : (r : Run) (i : ℕ) (second : Point) (c : StringCursor) (b : BoardValue) → FreeOfToll second
    → Refuses r i c.position → (all : List Way) (limit : Limit)
    → GoesBoth r all limit (spot (Instruction i) c b) (spot second c b) c b.choices
    → Goes r all limit second c b
both_pass r i second c b free no_ all limit g =
    let x : Spot = spot (Instruction i) c b in
    let y : Spot = spot second c b in
    standing Going g.waits refl (ap (λ us. us ++ g.next) (no_ b.frames b.marks g.now g.turns g.runs)) g.others
    (omega arith) (omega (arith, g.within)) g.stands g.others_placed
    (λ pl o w. second_goes r pl limit x y b.choices (g.fares pl) o free)
    (λ none. second_left r.words x y b.choices (g.confined none))

pub both_skips : (r : Run) (pt : Point) (start : StringCursor) (i : ℕ) (second : Point) (c : StringCursor)
    → FreeOfToll second → Refuses r i c.position → SkipsBoth r pt start (Instruction i) second c
    → Skips r pt start second c
both_skips r pt start i second c free none s b all limit g =
    both_pass r i second c b free none all limit (s.skips b all limit g)

-- what a point comes to without a step comes to two
pub skips_then : (r : Run) (pt pt' first second : Point) (c c' c'' : StringCursor) → Skips r pt c pt' c'
    → SkipsBoth r pt' c' first second c'' → SkipsBoth r pt c first second c''
skips_then r pt pt' first second c c' c'' skips s =
    record { runs = s.runs; others = s.others; skips = λ b all limit g. s.skips b all limit (skips b all limit g) }

-- the second waits on the backtrack stack, at a cursor of its own, and the machine goes on at the first
pub both_wait_there : (r : Run) (i : ℕ) (z : Spot) (c d : StringCursor) (b b' : BoardValue) (cs : List Choice)
    → z.position ≡ d.position → r.stands d d.position → b'.choices ≡ Else z.point z.frames d z.marks ∷ cs
    → (all : List Way) (limit : Limit)
    → GoesBoth r all limit (spot (Instruction i) c b') z c cs → Later r all limit (next.At i c) b'
both_wait_there r i z c d b b' cs same_place stands eb all limit g =
    let x : Spot = spot (Instruction i) c b' in
    let others : Runs r.words r.subject (spot_at z.point z.frames d.position z.marks) g.next g.further =
    subst (λ p. Runs r.words r.subject (spot_at z.point z.frames p z.marks) g.next g.further) same_place g.others in (
      omega (arith, g.within),
      standing Coming
          (otherwise stands g.others_placed others
          (sooner (g.turns + g.further + 2) (g.turns + 1 + g.further + 1) (omega arith) g.waits))
          eb refl g.runs (omega arith) (omega (arith, g.within)) g.stands g.placed
          (λ pl o w. first_waits r pl limit x z cs (g.fares pl) d same_place)
          (λ none. first_confined r.words x z d cs (g.confined none)),
    )

-- the second is any point; nobody stands inside an atomic scope
pub both_choose : (r : Run) (i : ℕ) (second : Point) (c : StringCursor) (b b' : BoardValue)
    → b' ≡ record b { choices = choice second b.frames c b.marks ∷ b.choices }
    → Chooses r (Instruction i) second c b (next.At i c) b'
both_choose r i (Inside h) c b b' eb all limit g = absurd (run_place r (spot (Inside h) c b) g.others)
both_choose r i (Tried j) c b b' eb all limit g = absurd (run_place r (spot (Tried j) c b) g.others)
both_choose r i TriedAgain c b b' eb all limit g = absurd (run_place r (spot TriedAgain c b) g.others)
both_choose r i second c b b' eb all limit g =
    rw eb
    (both_wait_there r i (spot second c b) c c b
    (record b { choices = Else second b.frames c b.marks ∷ b.choices }) b.choices refl g.stands refl all limit g)

-- a configuration of which nothing comes
abbrev pub Barren : Run → Spot → Type 0
Barren r x = (os : List Way) (n : ℕ) → Runs r.words r.subject x os n → os ≡ []

-- nothing comes of the first of two configurations, or of the second: the machine goes on at the other
pub both_second : (r : Run) (y : Spot) (i : ℕ) (c : StringCursor) (b : BoardValue) (cs : List Choice) → Barren r y
    → b.choices ≡ cs → (all : List Way) (limit : Limit) → GoesBoth r all limit y (spot (Instruction i) c b) c cs
    → Later r all limit (next.At i c) b
both_second r y i c b cs none e all limit g =
    let x : Spot = spot (Instruction i) c b in (
      omega (arith, g.within),
      standing Coming g.waits e (ap (λ us. us ++ g.next) (none g.now g.turns g.runs)) g.others (omega arith)
          (omega (arith, g.within)) g.stands g.others_placed
          (λ pl o w. second_alone r pl limit y x cs (g.fares pl))
          (λ none. second_left r.words y x cs (g.confined none)),
    )

pub both_first : (r : Run) (z : Spot) (i : ℕ) (c : StringCursor) (b : BoardValue) (cs : List Choice) → Barren r z
    → b.choices ≡ cs → (all : List Way) (limit : Limit) → GoesBoth r all limit (spot (Instruction i) c b) z c cs
    → Later r all limit (next.At i c) b
both_first r z i c b cs none e all limit g =
    let x : Spot = spot (Instruction i) c b in (
      omega (arith, g.within),
      standing Coming g.waits e (ap (λ us. g.now ++ us) (none g.next g.further g.others) ∙ append-nil g.now) g.runs
          (omega arith) (omega (arith, g.within)) g.stands g.placed
          (λ pl o w. first_alone r pl limit x z cs (g.fares pl))
          (λ none. first_left r.words x z cs (g.confined none)),
    )

-- where the second can make no step but the last
pub both_last : (r : Run) (i : ℕ) (z : Spot) (c : StringCursor) (b : BoardValue) → Moves r.words r.subject z Stop
    → (all : List Way) (limit : Limit) → GoesBoth r all limit (spot (Instruction i) c b) z c b.choices
    → Later r all limit (next.At i c) b
both_last r i z c b none = both_first r z i c b b.choices (λ os n x. run_nothing none x) refl

module _ (r : Run) (pt pt' : Point) (c c' : StringCursor) (on : Continues r pt c pt' c') where
  continues_fares : (pl : Counted r) (limit : Limit) (b : BoardValue) (n k : ℕ)
      → price_of r.words r.subject.end (spot pt c b) ≤ n → k ≤ price_of r.words r.subject.end (spot pt' c' b)
      → FaresAt r pl limit n (spot pt c b) b.choices → FaresAt r pl limit k (spot pt' c' b) b.choices
  continues_fares pl limit b n k l m f =
      let x = on.fares pl limit.start b.choices b.frames b.marks f.here in
      record { here = x.0; fares = fares_less r pl limit b.choices k n (omega (arith, l, m, x.1)) f.fares }

  continues_confined : (b : BoardValue) → StandsConfined r.words (spot pt c b) b.choices
      → StandsConfined r.words (spot pt' c' b) b.choices
  continues_confined b f = record { here = λ inside. on.confines b.frames (f.here inside); others = f.others }

  continues_with : (stage : Stage) (b : BoardValue) (all : List Way) (limit : Limit)
      → GoesWith stage r all limit pt c b → ((pl : Counted r) (o : SreOpcode) → CodeAt r.words pt' o
      → FaresAt r pl limit (share stage r.words r.subject.end o (spot pt' c' b)) (spot pt' c' b) b.choices)
      → GoesWith stage r all limit pt' c' b
  continues_with stage b all limit g fares =
      let x = on.runs b.frames b.marks g.now g.turns g.runs in
      standing stage g.waits refl refl x.2 (omega (arith, x.1)) (omega (arith, g.within, x.1)) on.stands g.placed fares
      (λ none. continues_confined b (g.confined none))

  pub continues_goes : FreeOfToll pt → FreeOfToll pt' → (b : BoardValue) (all : List Way) (limit : Limit)
      → Goes r all limit pt c b → Goes r all limit pt' c' b
  continues_goes free free' b all limit g =
      continues_with Going b all limit g (λ pl o w.
      let old = run_code r (spot pt c b) g.runs in
      let ks : List ℕ = repeats b.frames in
      continues_fares pl limit b _ _ (omega (arith, free.same r.words r.subject.end c.position old.0 ks))
      (omega (arith, free'.same r.words r.subject.end c'.position o ks)) (g.fares pl old.0 old.1))

  pub continues_arrives : (b : BoardValue) (all : List Way) (limit : Limit) → Arrives r all limit pt c b
      → Arrives r all limit pt' c' b
  continues_arrives b all limit g =
      continues_with Coming b all limit g (λ pl o w.
      let old = run_code r (spot pt c b) g.runs in
      continues_fares pl limit b _ _ (omega arith) (omega arith) (g.fares pl old.0 old.1))

  pub continues_run : HasRun r pt c → HasRun r pt' c'
  continues_run h =
      let x = on.runs h.frames h.marks h.outcomes h.turns h.runs in
      has_run r pt' c' on.stands x.2

  pub continues_exhausted : Exhausted r pt' c'.position → Exhausted r pt c.position
  continues_exhausted none fs m os n d = let x = on.runs fs m os n d in none fs m os x.0 x.2

  pub continues_then : (pt'' : Point) (c'' : StringCursor) → Continues r pt' c' pt'' c'' → Continues r pt c pt'' c''
  continues_then pt'' c'' then =
      record {
        stands = then.stands;
        runs = λ fs m os n d.
            let x = on.runs fs m os n d in
            let y = then.runs fs m os x.0 x.2 in (y.0, omega (arith, x.1, y.1), y.2);
        fares = λ pl start cs fs m h.
            let x = on.fares pl start cs fs m h in
            let y = then.fares pl start cs fs m x.0 in (y.0, omega (arith, x.1, y.1));
        confines = λ fs l. then.confines fs (on.confines fs l);
      }

-- the machine goes on at an instruction: at where that continues
pub later_continues : (r : Run) (i j : ℕ) (c c' : StringCursor) (b : BoardValue)
    → Continues r (Instruction i) c (Instruction j) c' → (all : List Way) (limit : Limit)
    → Later r all limit (next.At i c) b → Later r all limit (next.At j c') b
later_continues r i j c c' b on all limit l =
    (l.0, continues_arrives r (Instruction i) (Instruction j) c c' on b all (earlier limit) l.1)

-- the second of two points continues at another point, or nothing comes of it
pub both_continue : (r : Run) (y : Spot) (pt pt' : Point) (c : StringCursor) (b : BoardValue)
    → Continues r pt c pt' c → (all : List Way) (limit : Limit) → GoesBoth r all limit y (spot pt c b) c b.choices
    → GoesBoth r all limit y (spot pt' c b) c b.choices
both_continue r y pt pt' c b on all limit g =
    let x = on.runs b.frames b.marks g.next g.further g.others in
    both_standing g.waits refl g.runs x.2 (omega (arith, x.1)) (omega (arith, g.within, x.1)) g.stands g.placed
    g.others_placed
    (λ pl.
    let f = g.fares pl in
    let z = on.fares pl limit.start b.choices b.frames b.marks f.second in
    record {
      first = f.first;
      second = z.0;
      fares = fares_less r pl limit b.choices _ _ (omega (arith, z.1)) f.fares;
    })
    (λ none.
    let f = g.confined none in
    record { first = f.first; second = λ inside. on.confines b.frames (f.second inside); others = f.others })

pub both_exhausted : (r : Run) (i : ℕ) (pt : Point) (c : StringCursor) (b : BoardValue) → Exhausted r pt c.position
    → Chooses r (Instruction i) pt c b (next.At i c) b
both_exhausted r i pt c b none =
    both_first r (spot pt c b) i c b b.choices (λ os n d. none b.frames b.marks os n d) refl

-- an atomic scope is entered: what comes of it waits on the backtrack stack, and the machine goes on at its body
pub turn_enters : (r : Run) (pt : Point) (fs : List Frame) (j : ℕ) (g : Region) (c c' : StringCursor)
    (b b' : BoardValue)
    → Moves r.words r.subject (spot pt c b) (Enter g (spot_at pt fs c.position b.marks) (spot (Instruction j) c' b'))
    → r.stands c' c'.position → b'.choices ≡ Keep g fs c b.marks ∷ b.choices → b'.marks ≡ b.marks
    → Advances r pt c b (next.At j c') b'
turn_enters r pt fs j g c c' b b' h there e em all limit st = go (comes (Enter g y z) h st.runs) st.waits st.within
  where
    y : Spot
    y = spot_at pt fs c.position b.marks

    z : Spot
    z = spot (Instruction j) c' b'

    go : {os : List Way} {n k : ℕ} → Comes r.words r.subject (spot pt c b) (Enter g y z) os n
        → Waits r b.choices (n + 0) os all k → n + k ≤ limit.turns → Later r all limit (next.At j c') b'
    go {os} {n} {k} (enters {now = now} {n₁ = n₁} {n₂ = n₂} lies d f) wt l =
        let behind : Waits r (Keep g fs c b.marks ∷ b.choices) (n₁ + 1) now all (n₂ + k) =
        kept {pt = pt} st.stands st.placed f (sooner (suc (n₁ + n₂) + 0) (n₁ + 1 + n₂) (omega arith) wt) in (
          omega arith,
          standing Coming behind e refl d (omega arith) (omega arith) there
              (subst (λ m. Placed r.subject m) (sym em) st.placed)
              (λ pl o w. turn_leaves r pl limit b.choices (spot pt c b) (Enter g y z) h (st.fares pl) c refl)
              (λ none.
              let f = turn_confined r.words r.subject (spot pt c b) (Enter g y z) b.choices h (st.confined none) in
              record { here = λ inside. lies none; others = record { each = (f.0.1, f.1.each) } }),
        )

-- of an atomic scope that has an outcome, the other choices inside it do not matter
pub cut_waits : (r : Run) (cs rest : List Choice) (g : Region) (fs : List Frame) (c : StringCursor) (m : Marks)
    (w : Way) (ws all : List Way) (k : ℕ)
    → from_region cs ≡ Keep g fs c m ∷ rest → Waits r cs 0 (w ∷ ws) all k
    → (us : List Way) × (j : ℕ) × (j ≤ k) × Waits r (Keep g fs c m ∷ rest) 0 (w ∷ us) all j
cut_waits r [] rest g fs c m w ws all k e wt = absurd (cc)
cut_waits r (Else pt gs d l ∷ cs) rest g fs c m w ws all k e (otherwise {n = n} {k = k'} {os = os} there placed x wt) =
    let u = cut_waits r cs rest g fs c m w (ws ++ os) all k' e (sooner (0 + n + 1) 0 (omega arith) wt) in
    (u.0, u.1, omega (arith, u.2), u.3)
cut_waits r (Trying pt gs d l ∷ cs) rest g fs c m w ws all k e (tried there placed x most same wt) =
    cut_waits r cs rest g fs c m w ws all k e wt
cut_waits r (Keep h gs d l ∷ cs) rest g fs c m w ws all k e wt =
    (ws, k, omega arith, subst (λ x. Waits r x 0 (w ∷ ws) all k) e wt)
