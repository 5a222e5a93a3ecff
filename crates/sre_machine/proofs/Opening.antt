-- An instruction that may branch, or a possessive loop, is tried: it is paid by a bit that the memo takes in, unless an
-- allocation failed.
use Rattle.sre_machine.proofs.Terms.{◌≡◌, ℕ, ◌+◌, ◌-◌, ◌*◌, ◌<◌, ◌≤◌, ◌⊎◌, inl, inr, Bool, true, false, List, ◌∷◌}
use Rattle.sre_machine.proofs.Terms.{length, Some, refl, sym, subst, ap, ◌∙◌, arith, AllByRecursion, true≢false}
use Rattle.sre_machine.proofs.Terms.{SreOpcode, Ghosts, StringCursor, Refused, backs, has_forked_region, Run, Way}
use Rattle.sre_machine.proofs.Terms.{BoardValue, Trying, is_inside, Attempt, Limit, Grants, attempt, raised, Runs}
use Rattle.sre_machine.proofs.Terms.{Arrives, Goes, Tries, spot, Spot, Instruction, Again, Point, run_code, here_forked}
use Rattle.sre_machine.proofs.Terms.{RefersToGroups, ForksThere, NoEndTold, RunsOnAt, scan_at, toll, no_reference}
use Rattle.sre_machine.proofs.Terms.{arrived_at, HasReference, HasBit, right_stays, Request, start_of, end_of, run_of}
use Rattle.sre_machine.proofs.Terms.{MemoValue, RecallsOf, Pays, Remembering, Holds, Holding, rows_from, Alike, CodeAt}
use Rattle.sre_machine.proofs.Terms.{with_tried, FaresAt, repeats, place_of, SettledIn, here_settled, StraightPoint}
use Rattle.sre_machine.proofs.Terms.{forks_never, BringsNoTolls, toll_few, split_few, no_toll, no_scan, price_of}
use Rattle.sre_machine.proofs.Terms.{split_toll, scan_toll, arrived_once, none_tried, again_place, trying_goes}
use Rattle.sre_machine.proofs.Terms.{trying_tries, opcode_within, toll_at, HoldsEnd, Entry, IsOpen, account_opens}
use Rattle.sre_machine.proofs.Terms.{end_told_before, no_end_outside, account_prepared, bit_prepared, MakesRoom}
use Rattle.sre_chars.specs.declared.constants.SreOpcode.TheVariants as opcode
use Rattle.sre_machine.proofs.Paying.{pays_refused, pays_unless, pays_nothing, pays_left}

-- failures are memoized still, or an allocation failed
pub open_or_refused : (M : Type 0) (m m' : MemoValue) → m.is_open ≡ true →
    (m'.stopped ≡ false → m' ≡ record m { kept = m'.kept })
    → (m'.stopped ≡ true → Refused M) → (m'.is_open ≡ true) ⊎ Refused M
open_or_refused M m m' keeps same refused = go m'.stopped refl
  where
    go : (stopped : Bool) → m'.stopped ≡ stopped → (m'.is_open ≡ true) ⊎ Refused M
    go true e = inr (refused e)
    go false e = inl (ap (λ (k : MemoValue). k.is_open) (same e) ∙ keeps)

-- where a point forks no straight point is
pub forks_here : {S : Type 0} {text : Ghosts S} (r : Request S text) (point : Point) → ForksThere r point
    → StraightPoint (run_of r).words point → ⊥
forks_here r (Instruction place) forks straight = forks_never (run_of r).words place forks straight
forks_here r Again forks straight = straight
forks_here r point forks straight = forks

-- nor one without credits
pub forks_not : {S : Type 0} {text : Ghosts S} (r : Request S text) (point : Point) → ForksThere r point
    → BringsNoTolls r point → ⊥
forks_not r (Instruction place) forks none = true≢false (sym forks.forks ∙ none forks.code forks.there)
forks_not r Again forks none = true≢false (none opcode.FAILURE tt)
forks_not r point forks none = forks

-- a repeat without a greatest count forks
pub run_forks : {S : Type 0} {text : Ghosts S} (r : Request S text) (point : Point) → RunsOnAt (run_of r).words point
    → ForksThere r point
run_forks r (Instruction place) on = elim on.code [
  | inl w ↦ record { code = opcode.REPEAT_ONE; there = w; forks = refl }
  | inr (inl w) ↦ record { code = opcode.MIN_REPEAT_ONE; there = w; forks = refl }
  | inr (inr w) ↦ record { code = opcode.POSSESSIVE_REPEAT_ONE; there = w; forks = refl }
]
run_forks r point on = absurd on

-- where a point forks, it has an address within the words
forking_place : {S : Type 0} {text : Ghosts S} (r : Request S text) (point : Point) (cursor : StringCursor)
    (b : BoardValue) → ForksThere r point → {os : List Way} {n : ℕ}
    → Runs (run_of r).words (run_of r).subject (spot point cursor b) os n
    → (place : ℕ) × (place_of (spot point cursor b) ≡ Some place) × (place < length (run_of r).words)
forking_place r (Instruction place) cursor b forks runs =
    let code = run_code (run_of r) (spot (Instruction place) cursor b) runs in
    (place, refl, opcode_within (run_of r).words place code.0 code.1)
forking_place r Again cursor b forks runs = again_place (run_of r) cursor b runs
forking_place r point cursor b forks runs = absurd forks

-- a point with its scan brings no more than its bit pays for, but for a repeat without a greatest count
few_tolls : (r : Run) (point : Point) (cursor : StringCursor) (b : BoardValue) (o : SreOpcode)
    → CodeAt r.words point o → (RunsOnAt r.words point → ⊥) → {os : List Way} {n : ℕ}
    → Runs r.words r.subject (spot point cursor b) os n
    → toll r.words r.subject.end o point (repeats b.frames) + scan_toll r.words r.subject.end point
    ≤ toll_at r (spot point cursor b)
few_tolls r (Instruction place) cursor b o code counted runs =
    toll_few r.words r.subject.end place (repeats b.frames) o code counted runs
few_tolls r point cursor b o code counted runs = omega arith

-- nor does a repeat that is split
few_split : (r : Run) (point : Point) (cursor : StringCursor) (b : BoardValue)
    → split_toll r.words point + scan_toll r.words r.subject.end point ≤ toll_at r (spot point cursor b)
few_split r (Instruction place) cursor b = split_few r.words r.subject.end place (repeats b.frames)
few_split r point cursor b = omega arith

-- the address of a point was prepared under the loops of a backtrack stack
pub record PreparedAt (M : Type 0) {S : Type 0} {text : Ghosts S} (r : Request S text) (point : Point) (b : BoardValue)
    (m m' : MemoValue) : Type 0 where
  pub makes : MakesRoom (run_of r).words m.first (end_of r) point (repeats b.frames) m m'
  pub same : m'.stopped ≡ false → m' ≡ record m { kept = m'.kept }
  pub refused : m'.stopped ≡ true → Refused M

-- an instruction, or a possessive loop, that was reached
module _ {S : Type 0} {text : Ghosts S} (r : Request S text) (point : Point) (cursor : StringCursor) (b : BoardValue)
    (all : List Way) (limit : Limit) (x : Arrives (run_of r) all limit point cursor b) where
  abbrev here : Spot
  here = spot point cursor b

  -- what is tried there
  abbrev there : Attempt
  there = attempt b.choices here

  abbrev code : (o : SreOpcode) × CodeAt (run_of r).words point o
  code = run_code (run_of r) here x.runs

  abbrev own : ℕ
  own = toll (run_of r).words (run_of r).subject.end code.0 point (repeats b.frames)

  -- its mark was made, or none was
  module _ (c : BoardValue) (made : Bool)
      (marked : made ≡ true → c ≡ record b { choices = Trying point b.frames cursor b.marks ∷ b.choices })
      (left : made ≡ false → c ≡ b) where
    -- some credits are granted, which are paid in some way
    granted : (Goes : Limit → BoardValue → Type 0) (Paid : Limit → Type 0) (k : ℕ) → Goes (raised k limit) b
        → (c ≡ record b { choices = Trying point b.frames cursor b.marks ∷ b.choices } → Goes (raised k limit) b
        → Goes (with_tried there (raised k limit)) c)
        → (made ≡ true → Paid (with_tried there (raised k limit))) → (made ≡ false → Paid (raised k limit))
        → (more : Limit) × Grants limit more × Goes more c × Paid more
    granted Goes Paid k goes tries paid unpaid = go made refl
      where
        go : (told : Bool) → made ≡ told → (more : Limit) × Grants limit more × Goes more c × Paid more
        go true e = (
          with_tried there (raised k limit),
          record { turns = refl; taken = refl; granted = refl; start = refl },
          tries (marked e) goes,
          paid e,
        )
        go false e = (
          raised k limit,
          record { turns = refl; taken = refl; granted = refl; start = refl },
          subst (λ z. Goes (raised k limit) z) (sym (left e)) goes,
          unpaid e,
        )

    -- so it is executed
    goes_paid : (Paid : Limit → Type 0) → (made ≡ true → Paid (with_tried there (raised own limit)))
        → (made ≡ false → Paid (raised own limit))
        → (more : Limit) × Grants limit more × Goes (run_of r) all more point cursor c × Paid more
    goes_paid Paid =
        granted (λ l d. Goes (run_of r) all l point cursor d) Paid own (arrived_at code.0 code.1 x)
        (λ e y. trying_goes (run_of r) point cursor b c e all (raised own limit) y)

    -- so is a repeat that is split
    tries_paid : (Paid : Limit → Type 0)
        → (made ≡ true → Paid (with_tried there (raised (split_toll (run_of r).words point) limit)))
        → (made ≡ false → Paid (raised (split_toll (run_of r).words point) limit))
        → (more : Limit) × Grants limit more × Tries (run_of r) all more point cursor c × Paid more
    tries_paid Paid =
        granted (λ l d. Tries (run_of r) all l point cursor d) Paid (split_toll (run_of r).words point) (arrived_once x)
        (λ e y. trying_tries (run_of r) point cursor b c e all (raised (split_toll (run_of r).words point) limit) y)

    -- where words have a reference nothing is paid
    module _ {M : Type 0} (m m' : MemoValue) (has : HasReference (run_of r).words) where
      pub goes_marked : (more : Limit) × Grants limit more × Goes (run_of r) all more point cursor c
          × ((RunsOnAt (run_of r).words point → ⊥) → Pays M r m limit m' (raised (scan_at r point) more))
      goes_marked =
          goes_paid (λ more. (RunsOnAt (run_of r).words point → ⊥) → Pays M r m limit m' (raised (scan_at r point)
          more))
          (λ _ _. pays_left r m m' limit _ (λ _. has)) (λ _ _. pays_left r m m' limit _ (λ _. has))

      pub tries_marked : (more : Limit) × Grants limit more × Tries (run_of r) all more point cursor c
          × Pays M r m limit m' (raised (scan_at r point) more)
      tries_marked =
          tries_paid (λ more. Pays M r m limit m' (raised (scan_at r point) more))
          (λ _. pays_left r m m' limit _ (λ _. has)) (λ _. pays_left r m m' limit _ (λ _. has))

  -- an instruction is executed, where it brings no credits
  pub goes_freely : {M : Type 0} (m : MemoValue) → BringsNoTolls r point
      → (more : Limit) × Grants limit more × Goes (run_of r) all more point cursor b
      × ((RunsOnAt (run_of r).words point → ⊥) → Pays M r m limit m (raised (scan_at r point) more))
  goes_freely m free =
      let none : own ≡ 0 = no_toll (run_of r).words (run_of r).subject.end code.0 point (repeats b.frames)
      (free code.0 code.1) in
      let free_scan : scan_at r point ≡ 0 = no_scan (run_of r).words (run_of r).subject.end code.0 point code.1
      (free code.0 code.1) in (
        raised own limit,
        record { turns = refl; taken = refl; granted = refl; start = refl },
        arrived_at code.0 code.1 x,
        λ counted.
            pays_nothing r m m limit (raised (scan_at r point) (raised own limit)) refl (refl, refl, refl) (λ h. h) refl
            (omega (arith, none, free_scan)),
      )

  -- and where failures are not memoized
  pub goes_forgetting : {M : Type 0} (m m' : MemoValue) → (m.is_open ≡ true → HasReference (run_of r).words)
      → (more : Limit) × Grants limit more × Goes (run_of r) all more point cursor b
      × ((RunsOnAt (run_of r).words point → ⊥) → Pays M r m limit m' (raised (scan_at r point) more))
  goes_forgetting m m' left = (
    raised own limit,
    record { turns = refl; taken = refl; granted = refl; start = refl },
    arrived_at code.0 code.1 x,
    λ counted. pays_left r m m' limit (raised (scan_at r point) (raised own limit)) left,
  )

  -- and where room was made for its failures
  module _ {M : Type 0} (m m' : MemoValue) (p : PreparedAt M r point b m m') (forks : ForksThere r point) where
    faring : (pl : Remembering r)
        → FaresAt (run_of r) pl.plain limit (price_of (run_of r).words (run_of r).subject.end here) here b.choices
    faring pl = x.fares pl.plain code.0 code.1

    -- it is settled, in an atomic scope, too
    settled_at : (pl : Remembering r) → limit.start ≡ start_of r → SettledIn (run_of r) pl.plain (rows_from r pl) here
    settled_at pl at =
        subst (λ n. SettledIn (run_of r) pl.plain (n - backs pl.plain.tree) here) at
        (here_settled (run_of r) pl.plain limit.start b.choices here (faring pl).here)

    in_forked : (pl : Remembering r) → is_inside b.choices ≡ true → has_forked_region pl.plain.tree ≡ true
    in_forked pl inside =
        here_forked (run_of r) pl.plain limit.start b.choices here (faring pl).here (forks_here r point forks) inside

    stands_in : (place : ℕ) × (place_of here ≡ Some place) × (place < length (run_of r).words)
    stands_in = forking_place r point cursor b forks x.runs

    -- room was made from there on
    makes : (pl : Remembering r) (n : ℕ) → Holding r pl m limit n
        → MakesRoom (run_of r).words (rows_from r pl) (end_of r) point (repeats b.frames) m m'
    makes pl n h =
        subst (λ first. MakesRoom (run_of r).words first (end_of r) point (repeats b.frames) m m') h.first p.makes

    -- what was taken in is held still, unless an allocation failed
    holds : (pl : Remembering r) → limit.start ≡ start_of r → (n : ℕ) → Holding r pl m limit n → m'.stopped ≡ false
        → Holding r pl m' limit n
    holds pl at n h going = subst (λ (k : MemoValue). Holds r pl k limit.trying n) (sym (p.same going)) (record {
      account =
          account_prepared (run_of r) pl.plain (rows_from r pl) m.kept m'.kept m.ends here stands_in.0 limit.trying n
          pl.room (settled_at pl at) stands_in.1 stands_in.2 (makes pl n h).rows p.makes.grows.stay p.makes.grows.bits
          p.makes.laid (makes pl n h).roomy h.account;
      first = h.first;
      ends = h.ends;
      forked = h.forked;
    })

    has_bit : (pl : Remembering r) → limit.start ≡ start_of r → (n : ℕ) → Holding r pl m limit n → m'.stopped ≡ false
        → (inside : Bool) → HasBit m'.kept (run_of r).words inside here
    has_bit pl at n h going side =
        bit_prepared (run_of r) pl.plain (rows_from r pl) m.kept m'.kept m.ends here stands_in.0 limit.trying n pl.room
        (settled_at pl at) stands_in.1 stands_in.2 (makes pl n h).rows p.makes.grows.stay p.makes.grows.bits
        p.makes.laid
        (makes pl n h).roomy h.account side ((makes pl n h).there going stands_in.0 stands_in.1)

    -- failures are memoized still
    stays_open : m.is_open ≡ true → m'.stopped ≡ false → m'.is_open ≡ true
    stays_open keeps e = ap (λ (k : MemoValue). k.is_open) (p.same e) ∙ keeps

    -- nothing is granted
    pub pays_prepared : Pays M r m limit m' limit
    pays_prepared = pays_unless r m m' limit limit p.refused (λ e. record {
      paid = λ pl keeps at n h. inr (n, holds pl at n h e, stays_open keeps e, omega arith);
    })

    others : (pl : Remembering r)
        → AllByRecursion (λ (y : Attempt). Alike (run_of r).words y.spot here → ⊥) limit.trying
    others pl =
        subst (λ ys. AllByRecursion (λ (y : Attempt). Alike (run_of r).words y.spot here → ⊥) ys) (faring
        pl).fares.trying
        (none_tried (run_of r)
        (no_reference (run_of r).words pl.plain.tree pl.plain.whole pl.plain.no_reference) all limit point
        cursor b x)

    -- no end is kept for its bit: outside of atomic scopes none ever is, and inside it would have been told
    module _ (recalls : RecallsOf r m) (untold : RefersToGroups r ⊎ NoEndTold r point cursor b m) where
      untold_here : Remembering r → NoEndTold r point cursor b m
      untold_here pl = elim untold [
        | inl has ↦
            absurd (no_reference (run_of r).words pl.plain.tree pl.plain.whole pl.plain.no_reference has)
        | inr none ↦ none
      ]

      no_end : (pl : Remembering r) (n : ℕ) → Holding r pl m limit n → (inside : Bool) → is_inside b.choices ≡ inside
          → (at bit : ℕ) → Entry m'.kept (run_of r).words inside here at bit → (c : StringCursor)
          → HoldsEnd m.ends (at * 64 + bit) c → ⊥
      no_end pl n h true told at bit entry c held =
          untold_here pl told (h.ends (in_forked pl told)) c
          (end_told_before (run_of r) m.kept m.ends recalls.ends m'.kept here at bit c p.makes.grows.stay
          p.makes.rows.stay p.makes.laid entry held)
      no_end pl n h false told at bit entry c held =
          no_end_outside (run_of r) m'.kept m.ends
          (right_stays (run_of r) m.kept m'.kept m.ends p.makes.grows.stay recalls.ends) here at bit c p.makes.laid
          entry
          held

      -- credits are granted, and the configuration's bit is taken in
      pays_tried : (k : ℕ) → k + scan_at r point ≤ toll_at (run_of r) here
          → IsOpen m'.kept (run_of r).words (is_inside b.choices) here
          → Pays M r m limit m' (raised (scan_at r point) (with_tried there (raised k limit)))
      pays_tried k few opened = pays_unless r m m' limit _ p.refused (λ e. record {
        paid = λ pl keeps at n h.
            let held = holds pl at n h e in
            let same : m'.ends ≡ m.ends = ap (λ (k : MemoValue). k.ends) (p.same e) in
            inr (
              n + toll_at (run_of r) here,
              record {
                account = account_opens (run_of r) pl.plain (rows_from r pl) m'.kept m'.ends there limit.trying n opened
                    (λ c held.
                    no_end pl n h (is_inside b.choices) refl opened.at opened.bit opened.entry c
                    (subst (λ es. HoldsEnd es (opened.at * 64 + opened.bit) c) same held))
                    (in_forked pl) (settled_at pl at).lies (others pl) held.account;
                first = held.first;
                ends = held.ends;
                forked = (in_forked pl, held.forked);
              },
              stays_open keeps e,
              omega (arith, few),
            );
      })

    -- a configuration has a bit, so of one that has none no credits are left to be paid
    pays_untried : (k : ℕ) → (HasBit m'.kept (run_of r).words (is_inside b.choices) here → ⊥)
        → Pays M r m limit m' (raised (scan_at r point) (raised k limit))
    pays_untried k none = pays_unless r m m' limit _ p.refused (λ e. record {
      paid = λ pl keeps at n h. absurd (none (has_bit pl at n h e (is_inside b.choices)));
    })

    -- an instruction without a bit is executed, and no mark is made
    module _ (none : HasBit m'.kept (run_of r).words (is_inside b.choices) here → ⊥) where
      pub goes_untried : (more : Limit) × Grants limit more × Goes (run_of r) all more point cursor b
          × ((RunsOnAt (run_of r).words point → ⊥) → Pays M r m limit m' (raised (scan_at r point) more))
      goes_untried = (
        raised own limit,
        record { turns = refl; taken = refl; granted = refl; start = refl },
        arrived_at code.0 code.1 x,
        λ counted. pays_untried own none,
      )

      -- the same for a repeat that is split
      pub tries_untried : (more : Limit) × Grants limit more × Tries (run_of r) all more point cursor b
          × Pays M r m limit m' (raised (scan_at r point) more)
      tries_untried = (
        raised (split_toll (run_of r).words point) limit,
        record { turns = refl; taken = refl; granted = refl; start = refl },
        arrived_once x,
        pays_untried (split_toll (run_of r).words point) none,
      )

    module _ (recalls : RecallsOf r m) (untold : RefersToGroups r ⊎ NoEndTold r point cursor b m) (c : BoardValue)
        (made : Bool)
        (marked : made ≡ true → c ≡ record b { choices = Trying point b.frames cursor b.marks ∷ b.choices })
        (left : made ≡ false → c ≡ b) (none : made ≡ false → Refused M)
        (opened : IsOpen m'.kept (run_of r).words (is_inside b.choices) here) where
      -- the instruction is executed, where its mark was made; it was not where an allocation failed
      pub goes_tried : (more : Limit) × Grants limit more × Goes (run_of r) all more point cursor c
          × ((RunsOnAt (run_of r).words point → ⊥) → Pays M r m limit m' (raised (scan_at r point) more))
      goes_tried =
          goes_paid c made marked left
          (λ more. (RunsOnAt (run_of r).words point → ⊥) → Pays M r m limit m' (raised (scan_at r point) more))
          (λ _ counted. pays_tried recalls untold own
          (few_tolls (run_of r) point cursor b code.0 code.1 counted x.runs) opened)
          (λ e counted. pays_refused r m m' limit _ (none e))

      -- the same for a repeat that is split
      pub tries_tried : (more : Limit) × Grants limit more × Tries (run_of r) all more point cursor c
          × Pays M r m limit m' (raised (scan_at r point) more)
      tries_tried =
          tries_paid c made marked left (λ more. Pays M r m limit m' (raised (scan_at r point) more))
          (λ _. pays_tried recalls untold (split_toll (run_of r).words point) (few_split (run_of r) point cursor b)
          opened) (λ e. pays_refused r m m' limit _ (none e))
