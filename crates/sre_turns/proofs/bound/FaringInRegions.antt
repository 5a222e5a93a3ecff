-- What is left of the potential where an atomic scope is left, in a search over bytecode whose steps are counted: the
-- saved alternatives above it go, with what is tried inside.
-- That the step bound suffices (`enough` of sre_engine) rests on this.
use Rattle.sre_turns.proofs.Terms.{◌≡◌, ℕ, ◌≤◌, length, List, [], ◌∷◌, drop, true, refl, sym, ap, ◌∙◌, ◌++◌, subst}
use Rattle.sre_turns.proofs.Terms.{arith, true≢false, Marks, Attempt, Choice, Else, Keep, Trying, from_region, Limit}
use Rattle.sre_turns.proofs.Terms.{earlier, without_open, Reopens, Settling, Fares, FaresAt, FaresBack, FaresEnd}
use Rattle.sre_turns.proofs.Terms.{EndsIn, end_share, tried_spots, is_inside, price, open_spots, Counted, point_behind}
use Rattle.sre_turns.proofs.Terms.{Point, Region, Further, StringCursor, Run, spot_at, Frame, Instruction}
use Rattle.sre_turns.specs.Limits.{waiting, open_attempts}
use Rattle.sre_turns.proofs.bound.Faring.{fares_earlier}
use Rattle.sre_turns.proofs.bound.Prices.{behind_covered}

-- above the innermost atomic scope there are choices that are settled, and what is tried
module _ (rest : List Choice) (g : Region) (fs : List Frame) (c : StringCursor) (m : Marks) where
  abbrev kept : List Choice
  kept = Keep g fs c m ∷ rest

  -- what holds of choices, and of those below each that is no atomic scope, holds from there on
  cut : (P : List Choice → Type 0)
      → ((pt : Point) (gs : List Frame) (d : StringCursor) (j : Marks) (cs : List Choice)
      → (P (Else pt gs d j ∷ cs) → P cs) × (P (Trying pt gs d j ∷ cs) → P cs)) → (cs : List Choice)
      → from_region cs ≡ kept → P cs → P kept
  cut P below [] e h = absurd (cc)
  cut P below (Else pt gs d j ∷ cs) e h = cut P below cs e ((below pt gs d j cs).0 h)
  cut P below (Keep k gs d j ∷ cs) e h = subst P e h
  cut P below (Trying pt gs d j ∷ cs) e h = cut P below cs e ((below pt gs d j cs).1 h)

-- so where it ends the same is left without them
pub cut_fares : (r : Run) (pl : Counted r) (limit : Limit) (p : ℕ) (cs rest : List Choice) {g : Region}
    {fs : List Frame} {c : StringCursor} {m : Marks} → from_region cs ≡ Keep g fs c m ∷ rest
    → FaresEnd r pl limit p cs → FaresEnd r pl (without_open cs limit) p (Keep g fs c m ∷ rest)
cut_fares r pl limit p cs rest {g} {fs} {c} {m} e f = record {
  at =
      cut rest g fs c m (λ x. EndsIn r x p) (λ pt gs d j xs. (λ h. h, λ h. h)) cs e f.at;
  fares = record {
    settled =
        cut rest g fs c m (λ x. Settling r pl limit.start x) (λ pt gs d j xs. (λ h. h.1, λ h. h.1)) cs e
        f.fares.settled;
    trying =
        sym (cut rest g fs c m
        (λ x. drop (length (open_spots cs)) (tried_spots cs) ≡ drop (length (open_spots x)) (tried_spots x))
        (λ pt gs d j xs. (λ h. h, λ h. h)) cs e refl)
        ∙ ap (λ xs. drop (length (open_spots cs)) xs) f.fares.trying;
    left = omega (
      arith,
      f.fares.left,
      cut rest g fs c m
          (λ x. waiting r.words r.subject.end x ≤ waiting r.words r.subject.end cs)
          (λ pt gs d j xs. (λ h. omega (arith, h), λ h. h)) cs e (omega arith),
      cut rest g fs c m (λ x. end_share 1 cs ≡ end_share 1 x) (λ pt gs d j xs. (λ h. h, λ h. h)) cs e refl,
    );
  };
}

-- what is tried in an atomic scope is the newest of all that is tried
pub opened_first : (cs : List Choice) → is_inside cs ≡ true
    → tried_spots cs ≡ open_attempts cs ++ drop (length (open_spots cs)) (tried_spots cs)
opened_first [] e = absurd (true≢false (sym e))
opened_first (Else pt fs c m ∷ cs) e = opened_first cs e
opened_first (Keep g fs c m ∷ cs) e = refl
opened_first (Trying pt fs c m ∷ cs) e =
    let x : Attempt = record { inside = true; spot = spot_at pt fs c.position m } in
    rw e (ap (λ (xs : List Attempt). x ∷ xs) (opened_first cs e))

-- where no atomic scope is in progress an end may be refused
outside_share : (n : ℕ) (cs : List Choice) → from_region cs ≡ [] → end_share n cs ≡ n
outside_share n [] e = refl
outside_share n (Else pt fs c m ∷ cs) e = outside_share n cs e
outside_share n (Keep g fs c m ∷ cs) e = absurd (cc)
outside_share n (Trying pt fs c m ∷ cs) e = outside_share n cs e

-- the machine backtracks from an end that is not accepted, where no atomic scope is in progress
pub end_refused : (r : Run) (pl : Counted r) (limit : Limit) (p : ℕ) (cs : List Choice) → from_region cs ≡ []
    → FaresEnd r pl limit p cs → FaresBack r pl (earlier limit) cs
end_refused r pl limit p cs e f =
    fares_earlier r pl limit cs 0 (end_share 1 cs) (omega (arith, outside_share 1 cs e)) f.fares

module _ (r : Run) (pl : Counted r) (limit : Limit) (g : Region) (fs : List Frame) (d : StringCursor) (m : Marks)
    (rest : List Choice) (f : Fares r pl limit 0 (Keep g fs d m ∷ rest)) where
  abbrev reopens : Reopens r pl limit.start g fs d.position rest
  reopens = f.settled.0

  -- the machine goes on behind it
  pub region_on : (q : ℕ) (n : Marks) → d.position ≤ q → q ≤ r.subject.end
      → FaresAt r pl (earlier limit) (price r.words r.subject.end (point_behind g) q)
      (spot_at (point_behind g) fs q n) rest
  region_on q n l e = record {
    here = reopens.behind q n l e;
    fares = record {
      settled = f.settled.1;
      trying = f.trying;
      left = omega (arith, f.left, behind_covered r.words r.subject.end q g);
    };
  }

  -- or backtracks
  pub region_off : FaresBack r pl (earlier limit) rest
  region_off = record {
    settled = f.settled.1;
    trying = f.trying;
    left = omega (arith, f.left, behind_covered r.words r.subject.end d.position g);
  }

-- a possessive loop is left of which a further body has no outcome
pub loop_left : (r : Run) (pl : Counted r) (limit : Limit) (t : ℕ) (fs : List Frame) (d : StringCursor) (m : Marks)
    (rest : List Choice) → Fares r pl limit 0 (Keep (Further t) fs d m ∷ rest)
    → (n : Marks) → FaresAt r pl (earlier limit) (price r.words r.subject.end (Instruction t) d.position)
    (spot_at (Instruction t) (drop 1 fs) d.position n) rest
loop_left r pl limit t fs d m rest f n = record {
  here = f.settled.0.without t n refl;
  fares = record { settled = f.settled.1; trying = f.trying; left = omega (arith, f.left) };
}
