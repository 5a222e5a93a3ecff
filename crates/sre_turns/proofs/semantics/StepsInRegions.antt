-- Steps at an atomic scope: ATOMIC_GROUP, the lookarounds, POSSESSIVE_REPEAT, and the end of a body.
use Rattle.sre_turns.proofs.Terms.{◌≡◌, ℕ, ◌+◌, ◌-◌, ◌<◌, ◌≤◌, true, false, nat_lt, List, [], ◌∷◌, length, drop, refl}
use Rattle.sre_turns.proofs.Terms.{sym, subst, arith, nat_tests, Sign, Positive, Negative, Word, Opcode, Keep, look}
use Rattle.sre_turns.proofs.Terms.{MarklessRegions, ConfinedInside, AllConfined, is_inside, repeats, ClosesAt}
use Rattle.sre_turns.proofs.Terms.{point_behind, Limit, earlier, without_open, FaresAt, FaresBack, FaresEnd, Coming}
use Rattle.sre_turns.proofs.Terms.{price, price_of, Instruction, spot_at, Stop, Go, Run, StringCursor, Moves, Comes}
use Rattle.sre_turns.proofs.Terms.{stops, goes, Waits, kept, Arrives, Placed, Ends, Later, spot, HasRun}
use Rattle.sre_turns.proofs.Terms.{without_outcome, without_loop, Advances, look_role, word_of, word_within, BoardValue}
use Rattle.sre_turns.proofs.Terms.{Point, Region, Ahead, NotAhead, Further, Spot, closing_move, Counted, Marks, Way}
use Rattle.sre_turns.proofs.Terms.{Cuts, after_outcome, Option, Some, ap, may_repeat, place_under, place_of}
use Rattle.sre_turns.proofs.Terms.{first_frame, next_frame, enter_body, again_move, Frame, Runs, turns, Again, Owed}
use Rattle.sre_turns.proofs.Terms.{Move}
use Rattle.sre_model.specs.Grammar.{look_opcode}
use Rattle.sre_turns.specs.declared.Region.TheVariants.{AtomicGroup}
use Rattle.sre_model.specs.Roles.{ToGroupAtomically, ToLook, ToRepeatPossessively}
use Rattle.sre_chars.specs.declared.constants.SreOpcode.TheVariants as opcode
use Rattle.sre_turns.proofs.memoization.Bodies.{region_confined}
use Rattle.sre_turns.proofs.bound.FaringInRegions.{cut_fares, region_on, region_off, loop_left}
use Rattle.sre_turns.specs.declared.Next.TheVariants as next
use Rattle.sre_turns.proofs.semantics.Moving.{in_role, at_instruction, turn_stops, turn_goes, turn_enters, cut_waits}
use Rattle.sre_turns.proofs.semantics.Moving.{sooner, standing}
use Rattle.sre_turns.proofs.bound.HereMoves.{closes_behind}
use Rattle.sre_turns.specs.Machine.{IsAt}
use Rattle.sre_turns.proofs.semantics.OneTurn.{loop_opened, loop_move}

-- ATOMIC_GROUP
pub atomic_operand : (r : Run) (i : ℕ) (c : StringCursor) → Opcode r.words i opcode.ATOMIC_GROUP
    → HasRun r (Instruction i) c → i + 1 < length r.words
atomic_operand r i c w x = (in_role opcode.ATOMIC_GROUP ToGroupAtomically refl w x.runs).1.there

-- an atomic scope is entered at a cursor, and the loops are put aside
abbrev pub entered : Region → StringCursor → BoardValue → BoardValue
entered g c b = record b { frames = []; choices = Keep g b.frames c b.marks ∷ b.choices }

pub atomic_step : (r : Run) (i v : ℕ) (c : StringCursor) (b b' : BoardValue) → Opcode r.words i opcode.ATOMIC_GROUP
    → Word r.words (i + 1) v → b' ≡ entered (AtomicGroup (i + 1 + v)) c b
    → Advances r (Instruction i) c b (next.At (i + 2) c) b'
atomic_step r i v c b b' w wv eb all limit g =
    rw eb
    (turn_enters r (Instruction i) b.frames (i + 2) (AtomicGroup (i + 1 + v)) c c b _
    (at_instruction opcode.ATOMIC_GROUP ToGroupAtomically refl w
    (record { there = word_within r.words (i + 1) v wv; is = rw (word_of r.words (i + 1) v wv) refl }))
    g.stands refl refl all limit g)

-- ASSERT, ASSERT_NOT
pub look_operand : (r : Run) (sign : Sign) (i : ℕ) (c : StringCursor) → Opcode r.words i (look_opcode sign)
    → HasRun r (Instruction i) c → i + 2 < length r.words
look_operand r sign i c w x =
    let h = (in_role (look_opcode sign) (ToLook sign) (look_role sign) w x.runs).1 in
    word_within r.words (i + 2) h.back h.there

-- what is at a lookaround
pub record AtLook (r : Run) (sign : Sign) (i v back : ℕ) : Type 0 where
  pub code : Opcode r.words i (look_opcode sign)
  pub leads : Word r.words (i + 1) v
  pub there : Word r.words (i + 2) back

-- fewer characters stand before
look_early : (r : Run) (sign : Sign) (i v back : ℕ) (c : StringCursor) (b : BoardValue) → AtLook r sign i v back
    → c.position < back
    → Moves r.words r.subject (spot (Instruction i) c b)
    (closing_move (look sign (i + 1 + v)) (spot (Instruction i) c b) [])
look_early r sign i v back c b h l =
    let early : nat_lt c.position back ≡ true = grind (arith, nat_tests) in
    at_instruction (look_opcode sign) (ToLook sign) (look_role sign) h.code
    (record { back = back; there = h.there; is = rw (word_of r.words (i + 1) v h.leads, early) refl })

pub ahead_early : (r : Run) (i v back : ℕ) (c : StringCursor) (b : BoardValue) → AtLook r Positive i v back
    → c.position < back → Advances r (Instruction i) c b next.Back b
ahead_early r i v back c b h l = turn_stops r (Instruction i) c b (look_early r Positive i v back c b h l)

pub not_ahead_early : (r : Run) (i v back : ℕ) (c : StringCursor) (b : BoardValue) → AtLook r Negative i v back
    → c.position < back → Advances r (Instruction i) c b (next.At (i + 1 + v) c) b
not_ahead_early r i v back c b h l all limit g =
    turn_goes r (Instruction i) c b (Instruction (i + 1 + v)) c b
    (look_early r Negative i v back c b h l) g.stands g.placed refl all limit g

-- else its body is tried
pub look_step : (r : Run) (sign : Sign) (i v back : ℕ) (c c' : StringCursor) (b b' : BoardValue)
    → AtLook r sign i v back → back ≤ c.position → c'.position ≡ c.position - back → r.stands c' c'.position
    → b' ≡ entered (look sign (i + 1 + v)) c b → Advances r (Instruction i) c b (next.At (i + 3) c') b'
look_step r sign i v back c c' b b' h l place there eb all limit g =
    let late : nat_lt c.position back ≡ false = grind (arith, nat_tests) in
    rw eb
    (turn_enters r (Instruction i) b.frames (i + 3) (look sign (i + 1 + v)) c c' b _
    (at_instruction (look_opcode sign) (ToLook sign) (look_role sign) h.code
    (record { back = back; there = h.there; is = rw (word_of r.words (i + 1) v h.leads, late, place) refl }))
    there refl refl all limit g)

-- an atomic scope is left on a board
module _ (r : Run) (b' : BoardValue) {all : List Way} (limit : Limit) where
  -- nothing comes of it
  stop : ((pl : Counted r) → FaresBack r pl (earlier limit) b'.choices)
      → (MarklessRegions r.words → AllConfined r.words b'.choices)
      → {x : Spot} {os : List Way} {n k : ℕ} → Comes r.words r.subject x Stop os n
      → Waits r b'.choices (0 + n) os all k → n + k ≤ limit.turns → Later r all limit next.Back b'
  stop left lies stops wt l = (
    omega arith,
    record {
      later = _;
      waits = sooner (0 + 1) 0 (omega arith) wt;
      within = omega arith;
      fares = left;
      confined = λ none. record { each = lies none };
    },
  )

  -- it goes on at a cursor
  goes_on : (pt : Point) (at : StringCursor)
      → ((pl : Counted r) → FaresAt r pl (earlier limit) (price_of r.words r.subject.end (spot pt at b'))
      (spot pt at b') b'.choices)
      → (MarklessRegions r.words
      → ConfinedInside r.words (is_inside b'.choices) pt (repeats b'.frames) × AllConfined r.words b'.choices)
      → r.stands at at.position → Placed r.subject b'.marks → {x : Spot} {os : List Way} {n k : ℕ}
      → Comes r.words r.subject x (Go (spot pt at b')) os n → Waits r b'.choices (0 + n) os all k
      → n + k ≤ limit.turns → (1 ≤ limit.turns) × Arrives r all (earlier limit) pt at b'
  goes_on pt at left lies there placed (goes {n = n'} e) wt l = (
    omega arith,
    standing Coming wt refl refl e (omega arith) (omega arith) there placed (λ pl o w. left pl)
        (λ none. let f = lies none in record { here = f.0; others = record { each = f.1 } }),
  )

-- a body has an outcome at a cursor: what comes of the atomic scope that is cut
module _ (r : Run) (c d : StringCursor) (b b' : BoardValue) where
  abbrev Inside : Point → List ℕ → Type 0
  Inside pt ks = ConfinedInside r.words (is_inside b'.choices) pt ks

  -- where it goes on, and what waits, as the atomic scope told it
  abbrev Closing : Region → Type 0
  Closing g = MarklessRegions r.words → ClosesAt Inside g b'.frames × AllConfined r.words b'.choices

  -- what is left where the atomic scope is in progress, and where its body ends
  abbrev Ending : Limit → Region → Marks → Type 0
  Ending limit g m = (pl : Counted r) → FaresEnd r pl limit c.position (Keep g b'.frames d m ∷ b'.choices)

  -- it goes on behind the atomic scope from a position
  ends_on : (limit : Limit) (g : Region) (m : Marks) → Ending limit g m → (pl : Counted r) (q : ℕ) → d.position ≤ q
      → q ≤ r.subject.end
      → FaresAt r pl (earlier limit) (price r.words r.subject.end (point_behind g) q)
      (spot_at (point_behind g) b'.frames q b'.marks) b'.choices
  ends_on limit g m left pl q = region_on r pl limit g b'.frames d m b'.choices (left pl).fares q b'.marks

  region_ends : (g : Region) → Closing g → (m : Marks) (us all : List Way) (limit : Limit) (j : ℕ)
      → Ending limit g m → r.stands c c.position → Placed r.subject b'.marks
      → Waits r (Keep g b'.frames d m ∷ b'.choices) 0 (record { stop = c.position; marks = b'.marks } ∷ us) all j
      → j ≤ limit.turns → Later r all limit (after_outcome g c d) b'
  region_ends (Ahead t) lies m us all limit j left there placed (kept at _ f wt) l =
      goes_on r b' limit (Instruction t) d
      (λ pl. ends_on limit (Ahead t) m left pl d.position (omega arith) (left pl).fares.settled.0.inside) lies at placed
      f wt (omega (arith, l))
  region_ends (NotAhead t) lies m us all limit j left there placed (kept at _ f wt) l =
      stop r b' limit (λ pl. region_off r pl limit (NotAhead t) b'.frames d m b'.choices (left pl).fares)
      (λ none. (lies none).1) f wt (omega (arith, l))
  region_ends g lies m us all limit j left there placed (kept at _ f wt) l =
      goes_on r b' limit (point_behind g) c
      (λ pl. ends_on limit g m left pl c.position ((left pl).at.0 refl) (left pl).at.1)
      (λ none. let k = lies none in (closes_behind Inside g b'.frames k.0, k.1)) there placed f wt (omega (arith, l))

  pub region_closes : (g : Region) → Cuts b g d b' → (all : List Way) (limit : Limit) → Ends r all limit c b
      → Later r all (without_open b.choices limit) (after_outcome g c d) b'
  region_closes g cut all limit e =
      let u = cut_waits r b.choices b'.choices g b'.frames d cut.entered
      (record { stop = c.position; marks = b.marks }) [] all e.later cut.region e.waits in
      region_ends g
      (λ none. subst (λ x. AllConfined r.words x) cut.region (region_confined r.words b.choices (e.confined none).each))
      cut.entered u.0 all (without_open b.choices limit) u.1
      (λ pl. cut_fares r pl limit c.position b.choices b'.choices cut.region (e.fares pl)) e.stands
      (subst (λ ms. Placed r.subject ms) (sym cut.marks) e.placed)
      (subst (λ ms. Waits r (Keep g b'.frames d cut.entered ∷ b'.choices) 0
      (record { stop = c.position; marks = ms } ∷ u.0) all u.1) (sym cut.marks) u.3) (omega (arith, u.2, e.within))

-- a body has no outcome
module _ (r : Run) (c : StringCursor) (b' : BoardValue) where
  -- what is left where the atomic scope is in progress
  abbrev Going : Limit → Region → Type 0
  Going limit g = (pl : Counted r) → FaresBack r pl limit (Keep g b'.frames c b'.marks ∷ b'.choices)

  pub region_back : (g : Region)
      → (MarklessRegions r.words → AllConfined r.words (Keep g b'.frames c b'.marks ∷ b'.choices))
      → (all : List Way) (limit : Limit) (k : ℕ) → Going limit g
      → Waits r (Keep g b'.frames c b'.marks ∷ b'.choices) 0 [] all k → k ≤ limit.turns
      → Later r all limit (without_outcome g c) (without_loop g b')
  region_back (NotAhead t) lies all limit k left (kept at placed f wt) l =
      goes_on r b' limit (Instruction t) c
      (λ pl. region_on r pl limit (NotAhead t) b'.frames c b'.marks b'.choices (left pl) c.position b'.marks
      (omega arith) (left pl).settled.0.inside) lies at placed f wt l
  region_back (Further t) lies all limit k left (kept at placed f wt) l =
      goes_on r (record b' { frames = drop 1 b'.frames }) limit (Instruction t) c
      (λ pl. loop_left r pl limit t b'.frames c b'.marks b'.choices (left pl) b'.marks)
      (λ none. ((lies none).0.1, (lies none).1)) at placed f wt l
  region_back g lies all limit k left (kept at _ f wt) l =
      stop r b' limit (λ pl. region_off r pl limit g b'.frames c b'.marks b'.choices (left pl))
      (λ none. (lies none).1) f wt l

-- POSSESSIVE_REPEAT
pub possessive_step : (r : Run) (i : ℕ) (c : StringCursor) (b b' : BoardValue)
    → Opcode r.words i opcode.POSSESSIVE_REPEAT → b' ≡ record b { frames = first_frame i ∷ b.frames }
    → Advances r (Instruction i) c b (next.Again c) b'
possessive_step r i c b b' w eb all limit g =
    rw eb
    (turn_goes r (Instruction i) c b Again c _
    (at_instruction opcode.POSSESSIVE_REPEAT ToRepeatPossessively refl w refl) g.stands g.placed refl all limit g)

-- the innermost loop, and its counts
pub record InPossessiveLoop (r : Run) (v low high : ℕ) (b : BoardValue) (f : Frame) : Type 0 where
  pub inside : b.frames ≡ f ∷ drop 1 b.frames
  pub leads : Word r.words (f.repeat + 1) v
  pub lowest : Word r.words (f.repeat + 2) low
  pub highest : Word r.words (f.repeat + 3) high

-- and its operands are there
pub again_operands : (r : Run) (c : StringCursor) (b : BoardValue) (f : Frame) → IsAt r Again c b
    → b.frames ≡ f ∷ drop 1 b.frames → f.repeat + 3 < length r.words
again_operands r c b f x e = go x.runs
  where
    go : {os : List Way} {n : ℕ} → Runs r.words r.subject (spot Again c b) os n → f.repeat + 3 < length r.words
    go (turns mv h d) = let l = loop_opened r.words h e in word_within r.words (f.repeat + 3) l.1 l.3

-- so it has a place within the words
pub again_place : (r : Run) (c : StringCursor) (b : BoardValue) {os : List Way} {n : ℕ}
    → Runs r.words r.subject (spot Again c b) os n
    → (place : ℕ) × (place_of (spot Again c b) ≡ Some place) × (place < length r.words)
again_place r c b (turns mv h d) =
    let high = word_within r.words (h.frame.repeat + 3) h.high h.highest in (
      h.frame.repeat + 1,
      ap (λ fs. place_under Again (repeats fs)) h.inside,
      omega (arith, high),
    )

-- a body is entered, counted on the board, and the loops are put aside
abbrev begun : Region → Frame → Option ℕ → StringCursor → BoardValue → BoardValue
begun k f last c b = record b {
  frames = [];
  choices = Keep k (next_frame f last ∷ drop 1 b.frames) c b.marks ∷ b.choices;
}

module _ (r : Run) (v low high : ℕ) (c : StringCursor) (b : BoardValue) where
  again_at : (f : Frame) (mv : Move) → InPossessiveLoop r v low high b f
      → mv ≡ again_move low high (f.repeat + 1 + v) f (drop 1 b.frames) (spot Again c b)
      → Moves r.words r.subject (spot Again c b) mv
  again_at f mv h e =
      loop_move r.words h.inside h.lowest h.highest (rw (word_of r.words (f.repeat + 1) v h.leads) e)

  -- the loop ends where no further body may be tried
  pub again_done : (b' : BoardValue) (f : Frame) → InPossessiveLoop r v low high b f → low ≤ f.count
      → may_repeat high f.count f.last c.position ≡ false → b' ≡ record b { frames = drop 1 b.frames }
      → Advances r Again c b (next.At (f.repeat + 1 + v + 1) c) b'
  again_done b' f h l no_ eb all limit g =
      let beyond : nat_lt f.count low ≡ false = grind (arith, nat_tests) in
      rw eb
      (turn_goes r Again c b (Instruction (f.repeat + 1 + v + 1)) c _ (again_at f _ h (rw (beyond, no_) refl))
      g.stands g.placed refl all limit g)

  again_enters : (k : Region) (last : Option ℕ) (b' : BoardValue) (f : Frame) → InPossessiveLoop r v low high b f
      → enter_body k f last (drop 1 b.frames) (spot Again c b)
      ≡ again_move low high (f.repeat + 1 + v) f (drop 1 b.frames) (spot Again c b)
      → b' ≡ begun k f last c b → Advances r Again c b (next.At (f.repeat + 4) c) b'
  again_enters k last b' f h is eb all limit g =
      rw eb
      (turn_enters r Again (next_frame f last ∷ drop 1 b.frames) (f.repeat + 4) k c c b _ (again_at f _ h is) g.stands
      refl refl all limit g)

  -- below the least count one is owed
  pub again_owed : (b' : BoardValue) (f : Frame) → InPossessiveLoop r v low high b f → f.count < low
      → b' ≡ begun Owed f f.last c b → Advances r Again c b (next.At (f.repeat + 4) c) b'
  again_owed b' f h l =
      let below : nat_lt f.count low ≡ true = grind (arith, nat_tests) in
      again_enters Owed f.last b' f h (rw below refl)

  -- from it on a further one is tried
  pub again_further : (b' : BoardValue) (f : Frame) → InPossessiveLoop r v low high b f → low ≤ f.count
      → may_repeat high f.count f.last c.position ≡ true
      → b' ≡ begun (Further (f.repeat + 1 + v + 1)) f (Some c.position) c b
      → Advances r Again c b (next.At (f.repeat + 4) c) b'
  again_further b' f h l y =
      let beyond : nat_lt f.count low ≡ false = grind (arith, nat_tests) in
      again_enters (Further (f.repeat + 1 + v + 1)) (Some c.position) b' f h (rw (beyond, y) refl)

-- the board, as it is changed
pub begun_board : (b left counted saved : BoardValue) (k : Region) (f g : Frame) (last : Option ℕ) (c : StringCursor)
    → left ≡ record b { frames = drop 1 b.frames } → counted ≡ record left { frames = g ∷ left.frames }
    → saved ≡ record counted { frames = []; choices = Keep k counted.frames c counted.marks ∷ counted.choices }
    → g ≡ next_frame f last → saved ≡ begun k f last c b
begun_board b left counted saved k f g last c el ec es eg = rw (es, ec, el, eg) refl
