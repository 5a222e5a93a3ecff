-- How a run begins, and how it ends.
use Rattle.sre_turns.proofs.Terms.{◌≡◌, ℕ, ◌-◌, ◌≤◌, ◌++◌, Bool, true, false, List, [], ◌∷◌, refl, sym, ap, ◌∙◌, subst}
use Rattle.sre_turns.proofs.Terms.{arith, length, zero, suc, or_right, or_parts, true≢false, Tree, Empty, Then, refers}
use Rattle.sre_turns.proofs.Terms.{by_references, asked_from, asked_to, of_item, marks_in_regions, by_marked_regions}
use Rattle.sre_turns.proofs.Terms.{behind_items, no_marks, Way, first, ways, Opcode, Reads, WholeItems, AreWords}
use Rattle.sre_turns.proofs.Terms.{Choice, Else, Keep, Trying, from_region, SameFruit, is_inside, MayAsk, price}
use Rattle.sre_turns.proofs.Terms.{Counted, SettledIn, Instruction, spot_at, Run, StringCursor, Waits, outermost}
use Rattle.sre_turns.proofs.Terms.{otherwise, tried, Arrives, Ends, Stands, Later, Next, cost, ending, items_same}
use Rattle.sre_turns.proofs.Terms.{BoardValue, bare, Limit, SaysAccepted, outcomes, Item}
use Rattle.sre_chars.specs.declared.constants.SreOpcode.TheVariants as opcode
use Rattle.sre_turns.proofs.bound.FaringInRegions.{end_refused}
use Rattle.sre_turns.specs.declared.Next.TheVariants as next
use Rattle.sre_turns.proofs.semantics.RanAtItems.{region}
use Rattle.sre_turns.proofs.semantics.StepsAtItems.{none_placed}
use Rattle.sre_turns.proofs.semantics.Ran.{ran, PartOf}
use Rattle.sre_turns.proofs.semantics.FirstOutcomes.{fruit_waits}

-- what holds of a tree holds of what is behind some of its items, if it holds of what is behind one
behind_law : (P : Tree → Type 0) → ((x : Item) (rest : Tree) → P (Then x rest) → P rest) → (n : ℕ) (t : Tree) → P t
    → P (behind_items n t)
behind_law P one zero t h = h
behind_law P one (suc n) Empty h = h
behind_law P one (suc n) (Then x rest) h = behind_law P one n rest (one x rest h)

-- a reference behind some items is one of the whole, and it asks for no group before those of the whole, nor for one
-- behind them
abbrev AsksNoMore : Tree → Tree → Type 0
AsksNoMore t u = (refers u ≡ true → refers t ≡ true) × (asked_from t ≤ asked_from u) × (asked_to u ≤ asked_to t)

behind_asked : (n : ℕ) (t : Tree) → AsksNoMore t (behind_items n t)
behind_asked n t =
    behind_law (AsksNoMore t)
    (λ x rest h. (
      λ e. h.0 (or_right (of_item by_references x) (refers rest) e),
      omega (arith, h.1),
      omega (arith, h.2),
    )) n t ((λ e. e), omega arith, omega arith)

-- so the words do
behind_asks : (ws : List ℕ) (n : ℕ) (t : Tree) → WholeItems ws t → (g : ℕ) → refers (behind_items n t) ≡ true
    → asked_from (behind_items n t) ≤ g → g ≤ asked_to (behind_items n t) → MayAsk ws g
behind_asks ws n t w g e l k =
    let asked = behind_asked n t in (
      λ u w'. subst (λ x. refers x ≡ true) (items_same ws t u w w') (asked.0 e),
      λ u w'. subst (λ x. (asked_from x ≤ g) × (g ≤ asked_to x)) (items_same ws t u w w')
          (omega (arith, l, asked.1), omega (arith, k, asked.2)),
    )

-- an atomic scope behind some items is one of the whole
behind_markless : (n : ℕ) (t : Tree) → marks_in_regions t ≡ false → marks_in_regions (behind_items n t) ≡ false
behind_markless =
    behind_law (λ t. marks_in_regions t ≡ false)
    (λ x rest e. (or_parts (of_item by_marked_regions x) (marks_in_regions rest) e).1)

pub behind_has : (ws : List ℕ) (n : ℕ) (t : Tree) → WholeItems ws t → PartOf ws (behind_items n t)
behind_has ws n t w = (λ g e l k. behind_asks ws n t w g e l k, λ markless. behind_markless n t (markless.none t w))

-- the limit of a run of a tree from an address and a cursor, in a range from a start on
abbrev pub first_limit : Run → ℕ → Tree → StringCursor → ℕ → Limit
first_limit r i t c start = record {
  turns = cost r.subject t ending c.position no_marks;
  taken = 0;
  granted = price r.words r.subject.end (Instruction i) c.position;
  tolls = 0;
  trying = [];
  start = start;
}

-- a run from a cursor and an address has the accepted ways of the tree whose words are those from there on
pub started : (r : Run) (i : ℕ) (t : Tree) (c : StringCursor) (b : BoardValue) (start : ℕ) → AreWords r.words
    → PartOf r.words t
    → Reads r.words i (length r.words - 1) t → Opcode r.words (length r.words - 1) opcode.SUCCESS
    → r.stands c c.position → c.position ≤ r.subject.end → b ≡ bare no_marks
    → ((pl : Counted r) → SettledIn r pl start (spot_at (Instruction i) [] c.position no_marks))
    → Arrives r (outcomes r t c.position) (first_limit r i t c start) (Instruction i) c b
started r i t c b start v has reads ends stands inside fresh settled =
    rw fresh
    (record {
      now = ways r.subject t c.position no_marks;
      turns = cost r.subject t ending c.position no_marks;
      later = 0;
      stands = stands;
      placed = none_placed r.subject;
      runs =
          region r.words r.subject i _ (λ q k. ways r.subject t q k) (λ C q k. cost r.subject t C q k)
          (ran r.words r.subject i _ t v has reads) ends [] c.position no_marks inside;
      waits = outermost refl;
      within = omega arith;
      fares = λ pl o w. record {
        here = settled pl;
        fares = record { settled = tt; trying = refl; left = omega arith };
      };
      confined = λ none. record { here = λ inside. absurd (true≢false (sym inside)); others = record { each = tt } };
    })

-- what waits outside all atomic scopes is not inside one
pub none_inside : (cs : List Choice) → from_region cs ≡ [] → is_inside cs ≡ false
none_inside cs e = ap (λ (rest : List Choice). elim rest [ [] ↦ false | (c ∷ others) ↦ true ]) e

-- outside all atomic scopes the first outcome, if it is accepted, is the first of all
first_waits : (r : Run) (cs : List Choice) (w : Way) (rest : List Way) {all : List Way} {u k : ℕ} → from_region cs ≡ []
    → r.accepts w ≡ true → Waits r cs u (w ∷ rest) all k → (others : List Way) × (all ≡ w ∷ others)
first_waits r [] w rest {all = all} none y (outermost begins) =
    begun_by all (rw y at begins)
  where
    begun_by : (all : List Way) → first all ≡ w ∷ [] → (others : List Way) × (all ≡ w ∷ others)
    begun_by [] e = absurd (cc)
    begun_by (v ∷ others) e = (others, cc)
first_waits r (Else pt fs c m ∷ cs) w rest none y (otherwise {os = os} there placed d wt) =
    first_waits r cs w (rest ++ os) none y wt
first_waits r (Trying pt fs c m ∷ cs) w rest none y (tried there placed d most same wt) =
    first_waits r cs w rest none y wt
first_waits r (Keep g fs c m ∷ cs) w rest none y wt = absurd (cc)

-- and else it is passed over
pub refused_waits : (r : Run) (cs : List Choice) (w : Way) (rest : List Way) {all : List Way} {u k : ℕ}
    → from_region cs ≡ [] → r.accepts w ≡ false → Waits r cs u (w ∷ rest) all k → Waits r cs u rest all k
refused_waits r cs w rest none n =
    fruit_waits r cs (w ∷ rest) rest
    (subst (λ i. SameFruit r i (w ∷ rest) rest) (sym (none_inside cs none)) (rw n refl))

-- the machine stands at the end of the whole
module _ (r : Run) (all : List Way) (limit : Limit) (p : ℕ) (n : Next) (c : StringCursor) (old b : BoardValue)
    (accepted : Bool)
    (done : n ≡ next.Done c) (at : p ≡ c.position) (says : SaysAccepted r p accepted)
    (outside : (from_region old.choices ≡ []) × (b ≡ old)) (stands : Stands r all limit n old) where
  ends : Ends r all limit c b
  ends =
      let done_ : Ends r all limit c old = subst (λ x. Stands r all limit x old) done stands in
      subst (λ x. Ends r all limit c x) (sym outside.1) done_

  none : from_region b.choices ≡ []
  none = ap (λ (x : BoardValue). from_region x.choices) outside.1 ∙ outside.0

  said : accepted ≡ r.accepts (record { stop = c.position; marks = b.marks })
  said = subst (λ x. SaysAccepted r x accepted) at says b.marks

  -- an outcome that is accepted is the first
  pub accepted_first : accepted ≡ true
      → r.stands c c.position × ((rest : List Way) × (all ≡ record { stop = c.position; marks = b.marks } ∷ rest))
  accepted_first taken = (ends.stands, first_waits r b.choices _ [] none (sym said ∙ taken) ends.waits)

  -- one that is not is passed over
  pub refused_over : accepted ≡ false → Later r all limit next.Back b
  refused_over left = (
    omega (arith, ends.within),
    record {
      later = ends.later;
      waits = refused_waits r b.choices _ [] none (sym said ∙ left) ends.waits;
      within = omega (arith, ends.within);
      fares = λ pl. end_refused r pl limit c.position b.choices none (ends.fares pl);
      confined = ends.confined;
    },
  )
