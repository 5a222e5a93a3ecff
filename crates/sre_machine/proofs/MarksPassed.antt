-- The machine passes a marker of what was tried as it backtracks: it takes what is saved below, nothing is granted, and
-- what was tried there has failed, and is memoized.
use Rattle.sre_machine.proofs.Terms.{◌≡◌, ℕ, inr, List, [], ◌∷◌, drop, length, sym, ap, ◌∙◌, subst, arith, Ghosts}
use Rattle.sre_machine.proofs.Terms.{StringCursor, Way, BoardValue, Trying, Attempt, Limit, attempt, without_tried}
use Rattle.sre_machine.proofs.Terms.{Backs, spot, is_inside, spot_at, Point, Kept, HasBit, Request, end_of, run_of}
use Rattle.sre_machine.proofs.Terms.{MemoValue, Holds, HoldsTried, Pays, rows_from, append-nil, tried_spots}
use Rattle.sre_machine.proofs.Terms.{newest_tried, most_slots, BitsOf, KeepsSpot, Roomy, RowsStay, account_closes}
use Rattle.sre_machine.proofs.Terms.{no_new_row, rows_stay, Row, ◌≤◌, Bool, true, Marks, Run, earlier, Goes, Advances}
use Rattle.sre_machine.proofs.Terms.{Later, Next, asked_by_stop, later_again, asked_of, Recalls, GoesBack, choice}
use Rattle.sre_machine.proofs.Terms.{IsBack, Hopeless, MarksServe, tried_waits, tried_hopeless, Retreats}
use Rattle.sre_machine.proofs.Paying.{pays_then}

-- the first that is tried has a bit
first_bit : (k : Kept) (ws : List ℕ) (x : Attempt) (xs : List Attempt) (bs : List ℕ) → BitsOf k ws (x ∷ xs) bs
    → HasBit k ws x.inside x.spot
first_bit k ws x xs [] h = absurd h
first_bit k ws x xs (b ∷ bs) h = record { at = h.0.at; bit = h.0.bit; entry = h.0.entry }

-- no row and no word is new
stay_rows : (old new : Kept) → new.rows ≡ old.rows → new.shapes ≡ old.shapes → RowsStay old new
stay_rows old new rows shapes =
    rows_stay old new [] [] (rows ∙ sym (append-nil old.rows)) (shapes ∙ sym (append-nil old.shapes))

stay_roomy : (ws : List ℕ) (n first end : ℕ) (old new : Kept) → new.rows ≡ old.rows
    → length new.bits ≡ length old.bits → Roomy ws n first end old → Roomy ws n first end new
stay_roomy ws n first end old new rows words h =
    let same : length new.rows ≡ length old.rows = ap (λ (rs : List Row). length rs) rows in
    record { rows = omega (arith, same, h.rows); bits = rw (same, words) h.bits }

module _ {S : Type 0} {text : Ghosts S} (r : Request S text) (point : Point) (p q : ℕ) (b : BoardValue) (k k' : Kept)
    (ws : List ℕ) (same : ws ≡ (run_of r).words) (there : p ≡ q)
    (keeps : KeepsSpot ws (is_inside b.choices) (spot_at point b.frames p b.marks) k k') where
  -- what was tried is tried no more
  pub holds_tried : HoldsTried r (attempt b.choices (spot_at point b.frames q b.marks)) k k'
  holds_tried pl es xs n a =
      let x = attempt b.choices (spot_at point b.frames q b.marks) in
      let here : KeepsSpot (run_of r).words x.inside x.spot k k' = rw (same, there) at keeps in
      account_closes (run_of r) pl.plain (rows_from r pl) k k' es x xs n
      (here.set (first_bit k (run_of r).words x xs a.trying a.bits)) keeps.stay keeps.bits
      (stay_rows k k' keeps.rows keeps.shapes) (no_new_row k k' keeps.rows) keeps.laid
      (stay_roomy (run_of r).words (most_slots pl.plain.tree) (rows_from r pl) (end_of r) k k' keeps.rows keeps.words
      a.roomy) a

-- a mark is passed over, whose point is kept: nothing is granted
pub pays_kept : {M S : Type 0} {text : Ghosts S} (r : Request S text) (point : Point) (cursor : StringCursor)
    (b b' : BoardValue) (m m' : MemoValue) → b.choices ≡ Trying point b'.frames cursor b'.marks ∷ b'.choices
    → m' ≡ record m { kept = m'.kept; marked = m'.marked }
    → HoldsTried r (attempt b'.choices (spot point cursor b')) m.kept m'.kept
    → (all : List Way) (limit : Limit) → Backs (run_of r) all limit b → Pays M r m limit m' (without_tried limit)
pays_kept r point cursor b b' m m' marked same keeps all limit x = record {
  paid = λ pl keeps_them at n h.
      let f = x.fares pl.plain in
      let here = attempt b'.choices (spot point cursor b') in
      let trying = newest_tried (run_of r) pl.plain limit _ here b.choices b'.choices f
      (ap (λ cs. tried_spots cs) marked) in
      let was = subst (λ xs. Holds r pl m xs n) trying h in
      inr (
        n,
        subst (λ (k : MemoValue). Holds r pl k (drop 1 limit.trying) n) (sym same) (record {
          account = keeps pl m.ends (drop 1 limit.trying) n was.account;
          first = h.first;
          ends = h.ends;
          forked = was.forked.1;
        }),
        ap (λ (k : MemoValue). k.is_open) same ∙ keeps_them,
        omega arith,
      );
}

-- the step at the newest choice that is saved
pub choice_turned : {r : Run} {b b' : BoardValue} {pt : Point} {cursor : StringCursor} (n : Next) (c : BoardValue)
    → ((all : List Way) (limit : Limit) → Backs r all limit b
    → (1 ≤ limit.turns) × Goes r all (earlier limit) pt cursor b') → Advances r pt cursor b' n c
    → (all : List Way) (limit : Limit) → Backs r all limit b → Later r all limit n c
choice_turned {r} n c at turn all limit y =
    let s = at all limit y in later_again r all limit n c s.0 (turn all (earlier limit) s.1)

module _ {M Keeps S : Type 0} {text : Ghosts S} {r : Request S text} {first b : BoardValue} {m m' : MemoValue}
    (x : GoesBack M Keeps r first m b m') where
  -- the machine goes on from there
  pub retreats : (n : Next) (c : BoardValue) {keeps : Bool} → (keeps ≡ true → Keeps)
      → ((all : List Way) (limit : Limit) → Backs (run_of r) all limit b → Later (run_of r) all limit n c)
      → Retreats M r keeps first m n c m'
  retreats n c kept step all limit y =
      let z = x.backs all limit y in (z.0, z.1, step all z.0 z.2, λ keeps. z.3 (kept keeps))

  -- a marker is passed
  module _ (b' : BoardValue) (point : Point) {pt tried : Point} {cursor : StringCursor}
      (saved : b.choices ≡ choice pt b'.frames cursor b'.marks ∷ b'.choices) (is : pt ≡ tried)
      (tries : choice tried b'.frames cursor b'.marks ≡ Trying point b'.frames cursor b'.marks) where
    marked : b.choices ≡ Trying point b'.frames cursor b'.marks ∷ b'.choices
    marked =
        saved ∙ ap (λ p. choice p b'.frames cursor b'.marks ∷ b'.choices) is ∙ ap (λ z. z ∷ b'.choices) tries

    waits : (all : List Way) (limit : Limit) → Backs (run_of r) all limit b
        → Backs (run_of r) all (without_tried limit) b'
    waits = tried_waits (run_of r) point cursor b b' marked

    -- what was tried there has failed
    pub passed_failed : (ms : Marks) → MarksServe (run_of r).words ms (spot point cursor b')
        → Hopeless (run_of r) (is_inside b'.choices) ms (spot point cursor b')
    passed_failed ms serves =
        tried_hopeless (run_of r) (asked_by_stop (asked_of r)) point cursor b b' ms serves marked x.back.all
        x.back.limit x.back.backs

    passed_still : IsBack (run_of r) b'
    passed_still = record {
      all = x.back.all;
      limit = without_tried x.back.limit;
      backs = waits x.back.all x.back.limit x.back.backs;
    }

    -- its failure is memoized
    pub passed_kept : {m'' : MemoValue} → m'' ≡ record m' { kept = m''.kept; marked = m''.marked }
        → HoldsTried r (attempt b'.choices (spot point cursor b')) m'.kept m''.kept → Recalls (run_of r) m''
        → GoesBack M Keeps r first m b' m''
    passed_kept {m''} same keeps recalls = record {
      back = passed_still;
      backs = λ all limit y.
          let z = x.backs all limit y in (
            without_tried z.0,
            record { turns = z.1.turns; taken = z.1.taken; granted = z.1.granted; start = z.1.start },
            waits all z.0 z.2,
            λ kept. pays_then r m m' m'' limit z.0 (without_tried z.0) z.1.start (z.3 kept)
                (pays_kept r point cursor b b' m' m'' marked same keeps all z.0 z.2),
          );
      remembers = recalls;
      same = same ∙ ap (λ (k : MemoValue). record k { kept = m''.kept; marked = m''.marked }) x.same;
    }

    -- or it is not, where none are
    pub passed_unkept : (Keeps → ⊥) → GoesBack M Keeps r first m b' m'
    passed_unkept none = record {
      back = passed_still;
      backs = λ all limit y.
          let z = x.backs all limit y in (
            without_tried z.0,
            record { turns = z.1.turns; taken = z.1.taken; granted = z.1.granted; start = z.1.start },
            waits all z.0 z.2,
            λ kept. absurd (none kept),
          );
      remembers = x.remembers;
      same = x.same;
    }
