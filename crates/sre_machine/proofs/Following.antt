-- Steps one after the other, as the machine's loop counts them: what they cost at most, where all credits that are
-- granted are paid.
use Rattle.sre_machine.proofs.Terms.{◌≡◌, ℕ, ◌+◌, ◌*◌, ◌≤◌, ◌⊎◌, inl, inr, true, false, Bool, List, [], Result, Ok, Err}
use Rattle.sre_machine.proofs.Terms.{IfOk, refl, sym, ap, ◌∙◌, subst, arith, true≢false, Refused, Ghosts, StringCursor}
use Rattle.sre_machine.proofs.Terms.{Tree, Way, Run, BoardValue, bare, Limit, Grants, earlier, raised, Stands, spot}
use Rattle.sre_machine.proofs.Terms.{outcomes, Next, Instruction, Again, run_code, Request, start_of, end_of, code_of}
use Rattle.sre_machine.proofs.Terms.{asked_of, words_of, Code, whole_items, Whole, refers, run_of, MemoValue, Recalls}
use Rattle.sre_machine.proofs.Terms.{left_of, Pays, Remembering, rows_from, TurnsSoFar, first_limit, no_marks}
use Rattle.sre_machine.proofs.Terms.{behind_items, AreWords, tree_of, Proceeds, ◌/◌, mul-le-mul, add-mul, one-mul, max}
use Rattle.sre_machine.proofs.Terms.{Counted, most_paid, kept_of, account_few, account_none, longest_lookbehind}
use Rattle.sre_machine.proofs.Terms.{KeepsEndsOf, KeepsFrom, is_limited, Stops, Settles, Waited, Allowance, steps}
use Rattle.sre_machine.proofs.Terms.{most_steps, most_each, turn_spent, HoldsBits, run_cost, each_of, RunStops}
use Rattle.sre_machine.proofs.Terms.{RunSettles, AnewStops, AnewSettles, started, behind_has, settled_behind}
use Rattle.sre_machine.proofs.Terms.{ReadsBehind, WholeItems, ◌-◌, Later, StandsWithin, Advances, Arrives, toll, Point}
use Rattle.sre_machine.proofs.Terms.{arrived_at, repeats}
use Rattle.sre_turns.specs.declared.Next.TheVariants as next
use Rattle.sre_machine.specs.Paying.{Within}
use Rattle.sre_machine.proofs.Paying.{unless_refused, pays_nothing, pays_then, pays_raised, pays_less, held}

module _ (r : Run) (all : List Way) (limit turned counted : ℕ) (old new : BoardValue) (n : Next)
    (one : counted ≡ turned + 1) where
  -- it was one of those that may be taken
  abbrev pub TurnCounted : Type 0
  TurnCounted = (counted ≤ limit) × StandsWithin r all (limit - counted) n new

  counts : (l : Limit) → l.turns ≡ limit - turned → Later r all l n new → TurnCounted
  counts l e x =
      (omega (arith, e, x.0, one), record { limit = _; turns_left = omega (arith, e, one); stands = x.1 })

  -- at a point that was reached
  pub point_taken : (pt : Point) (c : StringCursor) (m at : Next) → m ≡ at
      → ((l : Limit) → Stands r all l at old → Arrives r all l pt c old) → Advances r pt c old n new
      → StandsWithin r all (limit - turned) m old → TurnCounted
  point_taken pt c m at is reached turn x =
      let y = reached x.limit (subst (λ z. Stands r all x.limit z old) is x.stands) in
      let code = run_code r (spot pt c old) y.runs in
      let more : Limit = raised (toll r.words r.subject.end code.0 pt (repeats old.frames)) x.limit in
      counts more x.turns_left (turn all more (arrived_at code.0 code.1 y))

  -- where more may be granted before it, and is paid in some way
  pub proceeds_taken : (m : Next) (P : Limit → Limit → Type 0)
      → ((l : Limit) → Stands r all l m old → Proceeds r all l n new (λ more. P l more))
      → StandsWithin r all (limit - turned) m old → TurnCounted
  proceeds_taken m P turn x =
      let y = turn x.limit x.stands in
      counts y.0 (omega (arith, y.1.turns, x.turns_left)) y.2

  -- where nothing is granted
  pub later_taken : (m : Next) → ((l : Limit) → Stands r all l m old → Later r all l n new)
      → StandsWithin r all (limit - turned) m old → TurnCounted
  later_taken m turn x = counts x.limit x.turns_left (turn x.limit x.stands)

-- wherever the machine stands, no more steps were taken than the potential allows
pub stands_within : (r : Run) (all : List Way) (l : Limit) (n : Next) (b : BoardValue) → Counted r
    → Stands r all l n b → Within r l
stands_within r all l (next.At i c) b pl x =
    let code = run_code r (spot (Instruction i) c b) x.runs in
    omega (arith, (x.fares pl code.0 code.1).fares.left)
stands_within r all l (next.Again c) b pl x =
    let code = run_code r (spot Again c b) x.runs in omega (arith, (x.fares pl code.0 code.1).fares.left)
stands_within r all l next.Back b pl x = omega (arith, (x.fares pl).left)
stands_within r all l (next.Done c) b pl x = omega (arith, (x.fares pl).fares.left)

-- the machine stands where it is known to stand, on a backtrack stack that is the same
pub stands_there : (r : Run) (all : List Way) (l : Limit) (n n' : Next) (b b' : BoardValue) → n ≡ n' → b' ≡ b
    → Stands r all l n b → Stands r all l n' b'
stands_there r all l n n' b b' next board x =
    subst (λ z. Stands r all l z b') next (subst (λ z. Stands r all l n z) (sym board) x)

-- a step without a scan
pub unscanned : {M S : Type 0} {text : Ghosts S} (r : Request S text) (all : List Way) (n : Next) (b : BoardValue)
    (m m' : MemoValue) (l : Limit) → Proceeds (run_of r) all l n b (λ more. Pays M r m l m' more)
    → Proceeds (run_of r) all l n b (λ more. Pays M r m l m' (raised 0 more))
unscanned r all n b m m' l z = (z.0, z.1, z.2, pays_less r m m' l z.0 (raised 0 z.0) refl (omega arith) z.3)

-- a memo that waits less keeps what it kept
pays_waited : {M S : Type 0} {text : Ghosts S} (r : Request S text) (m' m₁ : MemoValue) (l : Limit)
    → m₁ ≡ record m' { waits = m₁.waits } → Pays M r m' l m₁ l
pays_waited r m' m₁ l same =
    pays_nothing r m' m₁ l l (ap (λ (k : MemoValue). k.kept) same) (
      ap (λ (k : MemoValue). k.ends) same,
      ap (λ (k : MemoValue). k.keeps_ends) same,
      ap (λ (k : MemoValue). k.first) same,
    ) (λ h. ap (λ (k : MemoValue). k.is_open) same ∙ h) refl refl

-- so many steps cost no more than the potential and the credits, with what scans are charged
cost_of : {S : Type 0} {text : Ghosts S} (r : Request S text) (before : ℕ) (pl : Remembering r) (limit more : Limit)
    (turned left left' scans : ℕ) → limit.granted ≡ more.granted
    → limit.taken ≡ before → more.taken + before ≡ limit.taken + turned → Within (run_of r) more
    → left ≤ left' + (turned + 1) * each_of r pl + scans
    → left ≤ left' + (limit.granted + (more.tolls + scans) + 1) * each_of r pl
cost_of r before pl limit more turned left left' scans granted none same within spent =
    let steps : (turned + 1 + scans) * each_of r pl ≤ (limit.granted + (more.tolls + scans) + 1) * each_of r pl =
    mul-le-mul (omega (arith, granted, none, same, within)) (omega arith) in
    let parts : (turned + 1 + scans) * each_of r pl ≡ (turned + 1) * each_of r pl + scans * each_of r pl =
    add-mul (turned + 1) scans (each_of r pl) in
    let whole : scans * 1 ≤ scans * each_of r pl = mul-le-mul (omega arith) (omega arith) in
    omega (arith, steps, parts, whole, spent)

-- a step that was waited for
pub waited_on : (m m' m₁ m'' : MemoValue) (given left left' due : ℕ) → Waited m m' given left
    → m₁ ≡ record m' { waits = m₁.waits } → m₁.waits + due ≤ m'.waits → left ≤ left' + due
    → (m₁.is_open ≡ false → (m''.is_open ≡ m₁.is_open) × (m''.waits ≡ m₁.waits)) → Waited m m'' given left'
waited_on m m' m₁ m'' given left left' due x same fewer spent still =
    let closed : m₁.is_open ≡ false = ap (λ (k : MemoValue). k.is_open) same ∙ x.closed in
    let y = still closed in
    record { closed = y.0 ∙ closed; turns = omega (arith, x.turns, y.1, fewer, spent) }

-- a memo that is the same, or keeps more, waits as long
pub same_memo : (m m' : MemoValue) → m' ≡ m → (m'.is_open ≡ m.is_open) × (m'.waits ≡ m.waits)
same_memo m m' e = (ap (λ (k : MemoValue). k.is_open) e, ap (λ (k : MemoValue). k.waits) e)

pub kept_memo : (m m' : MemoValue) → m' ≡ record m { kept = m'.kept; marked = m'.marked }
    → (m'.is_open ≡ m.is_open) × (m'.waits ≡ m.waits)
kept_memo m m' e = (ap (λ (k : MemoValue). k.is_open) e, ap (λ (k : MemoValue). k.waits) e)

-- the loop so far, and the charge of one step more
module _ {M S : Type 0} {text : Ghosts S} {r : Request S text} {all : List Way} {most : ℕ} {first n : Next}
    {b b' : BoardValue} {m m' : MemoValue} {before turned due pending : ℕ} {a a' : Allowance} {waits : Bool}
    (x : TurnsSoFar M r all most first n b b' m m' before turned a a' waits pending) (m₁ : MemoValue) (a₁ : Allowance)
    (few : m'.is_open ≡ true → (pl : Remembering r) → due ≤ each_of r pl + pending)
    (spent : left_of a' ≤ left_of a₁ + due) (fewer : waits ≡ true → m₁.waits + due ≤ m'.waits) where
  -- what it costs while failures are memoized
  spent_more : m.is_open ≡ true → Refused M ⊎ ((m'.is_open ≡ true)
      × ((pl : Remembering r) → left_of a ≤ left_of a₁ + (turned + 1) * each_of r pl + x.scans))
  spent_more keeps = unless_refused (x.counts keeps) (λ y. inr (
    y.0,
    λ pl.
        let one : (turned + 1) * each_of r pl ≡ turned * each_of r pl + each_of r pl =
        add-mul turned 1 (each_of r pl) ∙ ap (λ k. turned * each_of r pl + k) (one-mul (each_of r pl)) in
        omega (arith, y.1 pl, few y.0 pl, spent, one),
  ))

  -- however the loop ends then
  pub turns_stop : (m.is_open ≡ false → waits ≡ true) → Stops M r all first b m before (left_of a) (left_of a₁)
  turns_stop told = record {
    cost = λ pl keeps limit z start none k h.
        let y = x.each limit z in
        unless_refused (y.5.paid pl keeps start k h) (λ p.
        unless_refused (spent_more keeps) (λ more.
        let few_bits : p.0 ≤ most_paid (run_of r) pl.plain (rows_from r pl) =
        account_few (run_of r) pl.plain (rows_from r pl) m'.kept m'.ends y.0.trying p.0 p.1.account in
        inr (
          y.0.tolls + x.scans,
          omega (arith, p.3, few_bits),
          cost_of r before pl limit y.0 turned (left_of a) (left_of a₁) x.scans y.2 none y.4
              (stands_within (run_of r) all y.0 n b' pl.plain y.1) (more.1 pl),
        )));
    waited = λ closed. let w = told closed in omega (arith, (x.waited w).turns, spent, fewer w);
  }

  module _ {b₁ : BoardValue} {m'' : MemoValue} {at : Next} (same : m₁ ≡ record m' { waits = m₁.waits })
      (board : b₁ ≡ b') (is : n ≡ at)
      (still : m₁.is_open ≡ false → (m''.is_open ≡ m₁.is_open) × (m''.waits ≡ m₁.waits)) where
    -- the memo stays closed while steps are waited for
    waits_still : waits ≡ true → Waited m m'' (left_of a) (left_of a₁)
    waits_still w =
        waited_on m m' m₁ m'' (left_of a) (left_of a') (left_of a₁) due (x.waited w) same (fewer w) spent still

    -- the whole is decided, with no outcome
    pub turns_settle : ((l : Limit) → Stands (run_of r) all l at b₁
        → (more : Limit) × Grants l more × Pays M r m₁ l m'' more
        × (Counted (run_of r) → (more.trying ≡ []) × Within (run_of r) more)) → (m.is_open ≡ false → waits ≡ true)
        → Settles M r all first b m m'' before (left_of a) (left_of a₁)
    turns_settle last told = record {
      cost = λ pl keeps limit z start none k h.
          let y = x.each limit z in
          let w = last y.0 (stands_there (run_of r) all y.0 n at b' b₁ is board y.1) in
          let all_ = pays_raised r x.scans m m' m'' limit y.0 w.0 y.3 y.5
          (pays_then r m' m₁ m'' y.0 y.0 w.0 refl (pays_waited r m' m₁ y.0 same) w.2) in
          let ends = w.3 pl.plain in
          unless_refused (all_.paid pl keeps start k h) (λ p. unless_refused (spent_more keeps) (λ more. inr (
            w.0.tolls + x.scans,
            p.0,
            p.3,
            held r pl m'' m'' w.0.trying [] p.0 refl (refl, refl, refl) (sym ends.0) p.1,
            p.2,
            cost_of r before pl limit w.0 turned (left_of a) (left_of a₁) x.scans (y.2 ∙ w.1.granted) none
                (omega (arith, y.4, w.1.taken)) ends.1 (more.1 pl),
          )));
      waited = λ closed. waits_still (told closed);
    }

    -- the step is taken
    pub turns_on : {b'' : BoardValue} {counted scan : ℕ} {n' : Next} → due ≤ most_each (asked_of r)
        → is_limited a₁ ≡ is_limited a' → left_of a₁ ≤ left_of a' → counted ≡ turned + 1
        → ((l : Limit) → Stands (run_of r) all l at b₁
        → Proceeds (run_of r) all l n' b'' (λ more. Pays M r m₁ l m'' (raised scan more)))
        → (m₁.is_open ≡ true → (m''.is_open ≡ true) ⊎ Refused M) → Recalls (run_of r) m''
        → TurnsSoFar M r all most first n' b b'' m m'' before counted a a₁ waits scan
    turns_on {b''} {counted} {scan} {n'} least limited less one step stays recalls =
        let turn = λ (l : Limit) (z : Stands (run_of r) all l n b').
        step l (stands_there (run_of r) all l n at b' b₁ is board z) in
        let t = proceeds_taken (run_of r) all most turned counted b' b'' n' one n
        (λ l more. Pays M r m₁ l m'' (raised scan more)) turn x.stands in
        record {
          stands = t.1;
          scans = x.scans + scan;
          each = λ limit z.
              let y = x.each limit z in
              let w = turn y.0 y.1 in
              let last : Limit = raised scan (earlier w.0) in (
                earlier w.0,
                w.2.1,
                y.2 ∙ w.1.granted,
                y.3 ∙ w.1.start,
                omega (arith, y.4, w.1.taken, one),
                pays_less r m m'' limit (raised x.scans last) (raised (x.scans + scan) (earlier w.0)) refl (omega arith)
                    (pays_raised r x.scans m m' m'' limit y.0 last y.3 y.5
                    (pays_then r m' m₁ m'' y.0 y.0 last refl (pays_waited r m' m₁ y.0 same)
                    (record { paid = w.3.paid }))),
              );
          within = t.0;
          limited = limited ∙ x.limited;
          fewer = omega (arith, x.fewer, less);
          spent = rw one (turn_spent (left_of a) (left_of a') (left_of a₁) turned (most_each (asked_of r)) x.spent
              (omega (arith, spent, least)));
          counts = λ keeps. unless_refused (spent_more keeps) (λ more. elim (stays (ap (λ (k : MemoValue). k.is_open)
              same ∙ more.0)) [
                | inl still ↦ inr (still, λ pl. rw one (omega (arith, more.1 pl)))
                | inr refused ↦ inl refused
              ]);
          waited = waits_still;
          remembers = recalls;
        }

-- a run from its first instruction on
module _ {S : Type 0} {text : Ghosts S} (r : Request S text) (all : List Way) (i : ℕ) (t : Tree) (start : StringCursor)
    (b : BoardValue) (m : MemoValue) (left left' : ℕ)
    (stands : (first : ℕ) → first ≤ start.position
    → Stands (run_of r) all (first_limit (run_of r) i t start first) (next.At i start) b)
    (few_steps : (pl : Remembering r) → steps (run_of r).words i ≤ most_steps pl.plain.tree) where
  few_first : (pl : Remembering r) (tolls : ℕ) → left ≤ left' + (steps (run_of r).words i + tolls + 1) * each_of r pl
      → left ≤ left' + run_cost r pl tolls
  few_first pl tolls spent =
      let l : (steps (run_of r).words i + tolls + 1) * each_of r pl ≤ run_cost r pl tolls =
      mul-le-mul (omega (arith, few_steps pl)) (omega arith) in
      omega (arith, l, spent)

  pub run_stops : {M : Type 0} → Stops M r all (next.At i start) b m 0 left left' → RunStops M r start m left left'
  run_stops g = record {
    keeping = λ pl from keeps n h.
        let limit = first_limit (run_of r) i t start (start_of r) in
        let cost = g.cost pl keeps limit (stands (start_of r) from) refl refl n h in
        unless_refused cost (λ z. inr (z.0, omega (arith, z.1), few_first pl z.0 z.2));
    closed = λ pl from closed. inr (0, omega arith, omega (arith, g.waited closed));
  }

  pub run_settles : {M : Type 0} (m' : MemoValue) → Settles M r all (next.At i start) b m m' 0 left left'
      → RunSettles M r start m m' left left'
  run_settles m' g = record {
    keeping = λ pl from keeps n h.
        let limit = first_limit (run_of r) i t start (start_of r) in
        let cost = g.cost pl keeps limit (stands (start_of r) from) refl refl n h in
        unless_refused cost (λ z. inr (z.0, z.1, omega (arith, z.2), z.3, z.4, few_first pl z.0 z.5));
    closed = λ pl from closed. let w = g.waited closed in inr (inl (w.closed, w.turns));
  }

-- a run with no outcome, where a refusal is not kept beyond it
pub rested : {M S : Type 0} {text : Ghosts S} (r : Request S text) (start : StringCursor) (m m' m'' : MemoValue)
    (left left' : ℕ) → m'' ≡ record m' { stopped = false } → RunSettles M r start m m' left left'
    → RunSettles M r start m m'' left left'
rested r start m m' m'' left left' same run = rw same (record { keeping = run.keeping; closed = run.closed })

-- a run that begins again with failures memoized, of which there are none yet
module _ {S : Type 0} {text : Ghosts S} (r : Request S text) (start : StringCursor) (m : MemoValue) (left : ℕ)
    (keeps : m.is_open ≡ true) (empty : m.kept ≡ kept_of [] [] []) (first : KeepsFrom r m)
    (ends : KeepsEndsOf r m) where
  -- nothing is taken in
  none_held : (pl : Remembering r) → HoldsBits r pl m 0
  none_held pl = record {
    account = account_none (run_of r) pl.plain (rows_from r pl) m.kept m.ends empty;
    first = first pl.plain.tree pl.plain.whole pl.plain.no_reference;
    ends = λ forked. ends pl.plain.tree pl.plain.whole pl.plain.no_reference (pl.unmarked forked);
    forked = tt;
  }

  pub anew_stops : {M : Type 0} (left' : ℕ) → RunStops M r start m left left' → AnewStops M r start left left'
  anew_stops left' g = record {
    cost = λ pl from.
        unless_refused (g.keeping pl from keeps 0 (none_held pl)) (λ z. inr (z.0, omega (arith, z.1), z.2));
  }

  pub anew_settles : {M : Type 0} (m' : MemoValue) (left' : ℕ) → RunSettles M r start m m' left left'
      → AnewSettles M r start m' left left'
  anew_settles m' left' g = record {
    cost = λ pl from.
        let cost = g.keeping pl from keeps 0 (none_held pl) in
        unless_refused cost (λ z. inr (z.0, z.1, omega (arith, z.2), z.3, z.4, z.5));
  }

-- and what that says of the whole: the run before it was waited for
module _ {S : Type 0} {text : Ghosts S} (r : Request S text) (start : StringCursor) (m : MemoValue)
    (given stood left : ℕ) (closed : m.is_open ≡ false) (waited : given ≤ stood + m.waits) where
  pub again_stops : {M : Type 0} → AnewStops M r start stood left → RunStops M r start m given left
  again_stops g = record {
    keeping = λ pl from kept n h. absurd (true≢false (sym kept ∙ closed));
    closed = λ pl from c. unless_refused (g.cost pl from) (λ z. inr (z.0, z.1, omega (arith, z.2, waited)));
  }

  pub again_settles : {M : Type 0} (m' : MemoValue) → AnewSettles M r start m' stood left
      → RunSettles M r start m m' given left
  again_settles m' g = record {
    keeping = λ pl from kept n h. absurd (true≢false (sym kept ∙ closed));
    closed = λ pl from c.
        unless_refused (g.cost pl from) (λ z. inr (inr (z.0, z.1, z.2, z.3, z.4, omega (arith, z.5, waited))));
  }

-- how it begins, whatever the range's start is, up to there
pub begins_run : (r : Run) (literals : ℕ) (start : StringCursor) (b : BoardValue) → AreWords r.words
    → WholeItems r.words (tree_of r.words)
    → ((t : Tree) → WholeItems r.words t → ReadsBehind r.words literals t) → r.stands start start.position
    → start.position ≤ r.subject.end → b ≡ bare no_marks → (first : ℕ) → first ≤ start.position
    → Stands r (outcomes r (behind_items literals (tree_of r.words)) start.position)
    (first_limit r (2 * literals) (behind_items literals (tree_of r.words)) start first)
    (next.At (2 * literals) start) b
begins_run r literals start b v whole behind stands inside fresh first from =
    started r (2 * literals) (behind_items literals (tree_of r.words)) start b first v
    (behind_has r.words literals (tree_of r.words) whole) (behind (tree_of r.words) whole) whole.1 stands inside fresh
    (λ pl. settled_behind r.words r.subject pl.tree pl.whole first literals start.position no_marks v
    (behind pl.tree pl.whole) from inside)

-- what follows where a result is none
pub if_ok : {T E : Type 0} {A B : T → Type 0} (x : Result T E) → ((t : T) → x ≡ Ok t → A t → B t) → IfOk x A → IfOk x B
if_ok (Ok t) f h = f t refl h
if_ok (Err e) f h = h

-- what a step goes over while failures are memoized counts for so much, beside its scan
pub each_most : {S : Type 0} {text : Ghosts S} (r : Request S text) (code : Code)
    (longest scan window passed counted : ℕ) → code ≡ code_of r
    → ((t : Tree) → Whole (words_of code) t → refers t ≡ false → longest ≡ longest_lookbehind t)
    → window ≤ end_of r → passed ≤ window → counted ≤ passed / 8 → counted ≤ max (longest / 8) scan
    → (pl : Remembering r) → 1 + counted ≤ each_of r pl + scan
each_most r code longest scan window passed counted same tells inside short few less pl =
    let w : Whole (words_of (code_of r)) pl.plain.tree = whole_items (code_of r) pl.plain.tree pl.plain.whole in
    let is : longest ≡ longest_lookbehind pl.plain.tree =
    tells pl.plain.tree (subst (λ k. Whole (words_of k) pl.plain.tree) (sym same) w) pl.plain.no_reference in
    omega (arith, is, inside, short, few, less)
