-- What a step leaves of the potential, in a search over bytecode whose steps are counted.
use Rattle.sre_turns.proofs.Terms.{◌≡◌, ℕ, ◌+◌, ◌≤◌, List, [], ◌∷◌, drop, true, refl, sym, ap, ◌∙◌, subst, arith}
use Rattle.sre_turns.proofs.Terms.{SreOpcode, Marks, Way, begins_test, some_test, Choice, Else, Keep, Trying}
use Rattle.sre_turns.proofs.Terms.{Alternatives, Shorter, Longer, Point, Spot, Move, End, Split, Enter, price, price_of}
use Rattle.sre_turns.proofs.Terms.{toll, toll_by, Covers, Counted, Attempt, Limit, earlier, raised, pool, CodeAt}
use Rattle.sre_turns.proofs.Terms.{tried_spots, Fares, FaresAt, FaresBack, FaresEnd, HereIn, Reopens, Settling}
use Rattle.sre_turns.proofs.Terms.{end_share, FaresBoth, Wider, Stage, share, Coming, is_inside, InBody, StringCursor}
use Rattle.sre_turns.proofs.Terms.{Run, Frame, Instruction, spot_at, Stop, Go, repeats, MovesAt, Moves, Runs, turns}
use Rattle.sre_chars.specs.declared.constants.SreOpcode.TheVariants as opcode
use Rattle.sre_turns.proofs.bound.HereMoves.{OntoHere, here_moves}
use Rattle.sre_turns.proofs.bound.Prices.{enters_at, step_covered, IsPlace, is_place, some_price}

-- an instruction has an opcode, and another point needs none
pub code_at : (r : Run) (x : Spot) (mv : Move) → Moves r.words r.subject x mv
    → (o : SreOpcode) × CodeAt r.words x.point o
code_at r x mv h = go x.point h
  where
    go : (pt : Point) → MovesAt r.words r.subject pt x mv → (o : SreOpcode) × CodeAt r.words pt o
    go (Instruction i) h = (h.0, h.1)
    go pt h = (opcode.FAILURE, tt)

-- the price of a configuration, with the credits of its point, is enough for its step
pub spends : (r : Run) (x : Spot) (mv : Move) (o : SreOpcode) → Moves r.words r.subject x mv → CodeAt r.words x.point o
    → Covers (enters_at o x.point) r.words r.subject.end
    (pool r.words r.subject.end o x.point (repeats x.frames) x.position) mv
spends r x mv o h w = step_covered r.words r.subject x.point x.frames x.position x.marks o mv w h

-- what is left where a step leads; of an atomic scope that is entered, whatever the cursor is
abbrev pub Leaving : (r : Run) → Counted r → Limit → Spot → List Choice → Move → Type 0
Leaving r pl limit x cs Stop = FaresBack r pl (earlier limit) cs
Leaving r pl limit x cs End = FaresEnd r pl (earlier limit) x.position cs
Leaving r pl limit x cs (Go y) = FaresAt r pl (earlier limit) (price_of r.words r.subject.end y) y cs
Leaving r pl limit x cs (Split y z) = FaresBoth r pl limit y z cs
Leaving r pl limit x cs (Enter g y z) =
    (c : StringCursor) → c.position ≡ y.position
    → FaresAt r pl (earlier limit) (price_of r.words r.subject.end z) z (Keep g y.frames c y.marks ∷ cs)

module _ (r : Run) (pl : Counted r) (limit : Limit) (cs : List Choice) where
  -- with less left
  pub fares_less : (n k : ℕ) → n ≤ k → Fares r pl limit k cs → Fares r pl limit n cs
  fares_less n k l f = record { settled = f.settled; trying = f.trying; left = omega (arith, l, f.left) }

  -- a step later
  pub fares_earlier : (n k : ℕ) → n + 1 ≤ k → Fares r pl limit k cs → Fares r pl (earlier limit) n cs
  fares_earlier n k l f = record { settled = f.settled; trying = f.trying; left = omega (arith, l, f.left) }

-- where an atomic scope ends no more is needed
end_few : (n : ℕ) (cs : List Choice) → end_share n cs ≤ n
end_few n [] = omega arith
end_few n (Else pt fs c m ∷ cs) = end_few n cs
end_few n (Keep g fs c m ∷ cs) = omega arith
end_few n (Trying pt fs c m ∷ cs) = end_few n cs

inside_free : (n : ℕ) (cs : List Choice) → is_inside cs ≡ true → end_share n cs ≡ 0
inside_free n [] e = absurd (cc)
inside_free n (Else pt fs c m ∷ cs) e = inside_free n cs e
inside_free n (Keep g fs c m ∷ cs) e = refl
inside_free n (Trying pt fs c m ∷ cs) e = inside_free n cs e

module _ (r : Run) (pl : Counted r) (limit : Limit) (cs : List Choice) (x : Spot) (o : SreOpcode) where
  abbrev pooled : ℕ
  pooled = pool r.words r.subject.end o x.point (repeats x.frames) x.position

  leaving : (mv : Move) → Covers (enters_at o x.point) r.words r.subject.end pooled mv
      → OntoHere r pl limit.start cs x mv → FaresAt r pl limit pooled x cs → Leaving r pl limit x cs mv
  leaving Stop l on f = fares_earlier r pl limit cs 0 pooled (omega (arith, l)) f.fares
  leaving End l on f = record {
    at = on;
    fares = fares_earlier r pl limit cs (end_share 1 cs) pooled (omega (arith, l, end_few 1 cs)) f.fares;
  }
  leaving (Go y) l on f = record { here = on; fares = fares_earlier r pl limit cs _ pooled l f.fares }
  leaving (Split y z) l on f =
      record { first = on.0; second = on.1; fares = fares_less r pl limit cs _ pooled l f.fares }
  leaving (Enter g y z) l on f = λ c same. record {
    here = subst (λ p. InBody r pl limit.start g p z) (sym same) on.1;
    fares = record {
      settled = (subst (λ p. Reopens r pl limit.start g y.frames p cs) (sym same) on.0, f.fares.settled);
      trying = f.fares.trying;
      left = omega (arith, l.1, f.fares.left);
    };
  }

pub turn_leaves : (r : Run) (pl : Counted r) (limit : Limit) (cs : List Choice) (x : Spot) (mv : Move)
    → Moves r.words r.subject x mv
    → ((o : SreOpcode) → CodeAt r.words x.point o
    → FaresAt r pl limit (pool r.words r.subject.end o x.point (repeats x.frames) x.position) x cs)
    → Leaving r pl limit x cs mv
turn_leaves r pl limit cs x mv h f =
    let code = code_at r x mv h in
    let at = f code.0 code.1 in
    leaving r pl limit cs x code.0 mv (spends r x mv code.0 h code.1)
    (here_moves r pl limit.start cs x mv at.here h) at

-- what is reached is executed for nothing, but for an instruction
pub record FreeOfToll (pt : Point) : Type 0 where
  pub same : (ws : List ℕ) (e p : ℕ) (o : SreOpcode) (ks : List ℕ) → pool ws e o pt ks p ≡ price ws e pt p

pub alternatives_free : {q : ℕ} → FreeOfToll (Alternatives q)
alternatives_free = record { same = λ ws e p o ks. omega arith }

pub shorter_free : {t k : ℕ} → FreeOfToll (Shorter t k)
shorter_free = record { same = λ ws e p o ks. omega arith }

pub longer_free : {i n : ℕ} → FreeOfToll (Longer i n)
longer_free = record { same = λ ws e p o ks. omega arith }

-- of two configurations, what is left where the first is reached and the second waits, or where one of them is reached
-- alone
module _ (r : Run) (pl : Counted r) (limit : Limit) (x y : Spot) (cs : List Choice)
    (f : FaresBoth r pl limit x y cs) where
  pub first_waits : (c : StringCursor) → y.position ≡ c.position
      → FaresAt r pl (earlier limit) (price_of r.words r.subject.end x) x (Else y.point y.frames c y.marks ∷ cs)
  first_waits c same = record {
    here = f.first;
    fares = record {
      settled = (
        subst (λ p. HereIn r pl limit.start cs (spot_at y.point y.frames p y.marks)) same f.second,
        f.fares.settled,
      );
      trying = f.fares.trying;
      left =
          let there : price r.words r.subject.end y.point c.position ≡ price_of r.words r.subject.end y =
          ap (λ p. price r.words r.subject.end y.point p) (sym same) in
          omega (arith, there, f.fares.left);
    };
  }

  pub first_alone : FaresAt r pl (earlier limit) (price_of r.words r.subject.end x) x cs
  first_alone = record {
    here = f.first;
    fares = fares_earlier r pl limit cs (price_of r.words r.subject.end x) _ (omega arith) f.fares;
  }

  pub second_alone : FaresAt r pl (earlier limit) (price_of r.words r.subject.end y) y cs
  second_alone = record {
    here = f.second;
    fares = fares_earlier r pl limit cs (price_of r.words r.subject.end y) _ (omega arith) f.fares;
  }

  pub second_goes : (o : SreOpcode) → FreeOfToll y.point
      → FaresAt r pl limit (pool r.words r.subject.end o y.point (repeats y.frames) y.position) y cs
  second_goes o free = record {
    here = f.second;
    fares =
        fares_less r pl limit cs (pool r.words r.subject.end o y.point (repeats y.frames) y.position) _
        (omega (arith, free.same r.words r.subject.end y.position o (repeats y.frames))) f.fares;
  }

-- of what comes to something, the opcode
pub run_code : (r : Run) (x : Spot) {os : List Way} {n : ℕ} → Runs r.words r.subject x os n
    → (o : SreOpcode) × CodeAt r.words x.point o
run_code r x (turns mv h d) = code_at r x mv h

pub run_place : (r : Run) (x : Spot) {os : List Way} {n : ℕ} → Runs r.words r.subject x os n → IsPlace x.point
run_place r x (turns mv h d) = is_place r.words r.subject x.point x mv h

-- what is left within a limit is left within a wider one
pub fares_wider : (r : Run) (pl : Counted r) (limit more : Limit) (n : ℕ) (cs : List Choice) → Wider limit more
    → Fares r pl limit n cs → Fares r pl more n cs
fares_wider r pl limit more n cs l f = record {
  settled = subst (λ start. Settling r pl start cs) l.start f.settled;
  trying = f.trying ∙ l.trying;
  left =
      omega (arith, l.taken, l.granted, f.left, l.tolls);
}

pub fares_at_wider : (r : Run) (pl : Counted r) (limit more : Limit) (n : ℕ) (x : Spot) (cs : List Choice)
    → Wider limit more → FaresAt r pl limit n x cs → FaresAt r pl more n x cs
fares_at_wider r pl limit more n x cs l f = record {
  here = subst (λ start. HereIn r pl start cs x) l.start f.here;
  fares = fares_wider r pl limit more n cs l f.fares;
}

-- the newest choice is taken
pub choice_taken : (r : Run) (pl : Counted r) (limit : Limit) (pt : Point) (fs : List Frame) (c : StringCursor)
    (m : Marks) (cs : List Choice) → FaresBack r pl limit (Else pt fs c m ∷ cs)
    → FaresAt r pl (earlier limit) (price r.words r.subject.end pt c.position) (spot_at pt fs c.position m) cs
choice_taken r pl limit pt fs c m cs f = record {
  here = f.settled.0;
  fares = record {
    settled = f.settled.1;
    trying = f.trying;
    left = omega (arith, f.left);
  };
}

-- where a step leads to two configurations, the second has no more potential; nor has the one to which a step goes from
-- an instruction that brings no credits
module _ (r : Run) (pl : Counted r) (start : ℕ) (cs : List Choice) (x : Spot) where
  abbrev NoMore : Spot → Type 0
  NoMore y = HereIn r pl start cs y × (price_of r.words r.subject.end y ≤ price_of r.words r.subject.end x)

  pub second_less : (y z : Spot) → FreeOfToll x.point → Moves r.words r.subject x (Split y z) → HereIn r pl start cs x
      → NoMore z
  second_less y z free h at =
      let code = code_at r x (Split y z) h in
      let on = here_moves r pl start cs x (Split y z) at h in
      let l = spends r x (Split y z) code.0 h code.1 in
      (on.1, omega (arith, l, free.same r.words r.subject.end x.position code.0 (repeats x.frames)))

  pub next_less : (y : Spot) (o : SreOpcode) → CodeAt r.words x.point o
      → pool r.words r.subject.end o x.point (repeats x.frames) x.position ≤ price_of r.words r.subject.end x
      → Moves r.words r.subject x (Go y) → HereIn r pl start cs x → NoMore y
  next_less y o w less h at =
      let on = here_moves r pl start cs x (Go y) at h in
      let l = spends r x (Go y) o h w in
      (on, omega (arith, l, less))

-- a test brings no credits
pub test_pool : (r : Run) (i p : ℕ) (o : SreOpcode) (ks : List ℕ) → begins_test o ≡ true
    → pool r.words r.subject.end o (Instruction i) ks p ≤ price r.words r.subject.end (Instruction i) p
test_pool r i p o ks e =
    let kind = some_test o e in
    let none : toll r.words r.subject.end o (Instruction i) ks ≡ 0 =
    ap (λ f. toll_by r.words r.subject.end i ks f) kind.1 in
    omega (arith, none)

-- of a configuration at which the machine has come, with credits: of its point, or of a repeat that is split
pub with_credits : (r : Run) (pl : Counted r) (limit : Limit) (n credits : ℕ) (x : Spot) (cs : List Choice)
    → FaresAt r pl limit n x cs → FaresAt r pl (raised credits limit) (n + credits) x cs
with_credits r pl limit n credits x cs f = record {
  here = f.here;
  fares = record { settled = f.fares.settled; trying = f.fares.trying; left = omega (arith, f.fares.left) };
}

-- a configuration has its price, however it was come to
pub share_more : (stage : Stage) (ws : List ℕ) (e : ℕ) (o : SreOpcode) (x : Spot)
    → price_of ws e x ≤ share stage ws e o x
share_more Coming ws e o x = omega arith
share_more stage ws e o x = omega arith

-- a configuration is left at once, for what waits or where the innermost atomic scope ends
module _ (r : Run) (pl : Counted r) (limit : Limit) (n : ℕ) (x : Spot) (cs : List Choice) (at : IsPlace x.point)
    (l : price_of r.words r.subject.end x ≤ n) (f : FaresAt r pl limit n x cs) where
  some : 1 ≤ n
  some = omega (arith, some_price r.words r.subject.end x.point x.position at, l)

  pub place_left : FaresBack r pl (earlier limit) cs
  place_left = fares_earlier r pl limit cs 0 n (omega (arith, some)) f.fares

  pub place_ended : is_inside cs ≡ true → Fares r pl (earlier limit) (end_share 1 cs) cs
  place_ended inside =
      fares_earlier r pl limit cs (end_share 1 cs) n (omega (arith, some, inside_free 1 cs inside)) f.fares

-- nothing waits: nothing is tried, and no more steps were taken than the potential allows
pub nothing_waits : (r : Run) (pl : Counted r) (limit : Limit) (cs : List Choice) → cs ≡ [] → FaresBack r pl limit cs
    → (limit.trying ≡ []) × (limit.taken ≤ limit.granted + limit.tolls)
nothing_waits r pl limit cs none f =
    (sym f.trying ∙ ap (λ xs. tried_spots xs) none, omega (arith, f.left))

-- the newest that is tried is that of the newest mark
pub newest_tried : (r : Run) (pl : Counted r) (limit : Limit) (n : ℕ) (x : Attempt) (cs rest : List Choice)
    → Fares r pl limit n cs → tried_spots cs ≡ x ∷ tried_spots rest → limit.trying ≡ x ∷ drop 1 limit.trying
newest_tried r pl limit n x cs rest f e =
    let all : limit.trying ≡ x ∷ tried_spots rest = sym f.trying ∙ e in
    all ∙ ap (λ xs. x ∷ drop 1 xs) (sym all)
