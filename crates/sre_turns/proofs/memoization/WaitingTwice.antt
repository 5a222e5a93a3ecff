-- What waits twice: where the newest saved alternative is to continue right where the machine continues, it may go. All
-- its outcomes come of continuing, too, and before.
use Rattle.sre_turns.proofs.Terms.{◌≡◌, inl, inr, ℕ, ◌+◌, ◌≤◌, Bool, true, false, List, [], ◌∷◌, ◌++◌, refl, sym, subst}
use Rattle.sre_turns.proofs.Terms.{arith, SameStops, Else, HasReference, AcceptsByStop, Instruction, Stop, Go, Run}
use Rattle.sre_turns.proofs.Terms.{StringCursor, Subject, Runs, turns, Comes, stops, ends, goes, splits, enters, Waits}
use Rattle.sre_turns.proofs.Terms.{otherwise, Arrives, Later, spot, Coming, BoardValue, SameFruit, is_inside, Spot}
use Rattle.sre_turns.proofs.Terms.{Move, End, Split, Enter, closing_move, Limit, earlier, Marks, Way, Dropped}
use Rattle.sre_turns.specs.declared.Next.TheVariants as next
use Rattle.sre_turns.proofs.semantics.FirstOutcomes.{SameFirsts, firsts_begin, firsts_again, fruit_waits}
use Rattle.sre_turns.proofs.semantics.Moving.{standing}
use Rattle.sre_turns.proofs.semantics.OneTurn.{comes}
use Rattle.sre_turns.proofs.memoization.SameComes.{marks_apart}

-- of outcomes that begin with the same under each test the first that counts is the same
fruit_alike : (r : Run) → AcceptsByStop r → (inside : Bool) (xs ys : List Way) → SameFirsts xs ys
    → SameFruit r inside xs ys
fruit_alike r told true xs ys h = firsts_begin xs ys h
fruit_alike r told false xs ys h = h r.accepts told

-- what comes of a spot is determined
module _ (ws : List ℕ) (s : Subject) where
  mutual
    pub runs_same : {x : Spot} {os us : List Way} {n k : ℕ} → Runs ws s x os n → Runs ws s x us k → os ≡ us
    runs_same {x} (turns mv h d) e = comes_same mv d (comes mv h e)

    comes_same : {x : Spot} {os us : List Way} {n k : ℕ} (mv : Move) → Comes ws s x mv os n → Comes ws s x mv us k
        → os ≡ us
    comes_same Stop stops stops = refl
    comes_same End ends ends = refl
    comes_same (Go y) (goes d) (goes e) = runs_same d e
    comes_same (Split y z) (splits d d') (splits e e') = rw (runs_same d e, runs_same d' e') refl
    comes_same {x} (Enter g y z) (enters {now = now} lies d d')
        (enters {now = after} {os = us} {n₂ = k₂} lies' e e') =
        comes_same (closing_move g y now) d'
        (subst (λ os. Comes ws s y (closing_move g y os) us k₂) (sym (runs_same d e)) e')

-- outcomes stop where they stop
stops_itself : (xs : List Way) → SameStops xs xs
stops_itself [] = tt
stops_itself (x ∷ xs) = (refl, stops_itself xs)

-- with the same marks the same comes of a spot, and with others what has the same stops, where no reference is
stops_again : (r : Run) (x : Spot) (m : Marks) (matter : Bool) → (matter ≡ true → m ≡ x.marks)
    → (matter ≡ false → HasReference r.words → ⊥) → {os us : List Way} {n k : ℕ} → Runs r.words r.subject x os n
    → Runs r.words r.subject (record x { marks = m }) us k → SameStops os us
stops_again r x m false same none d e = (marks_apart r.words r.subject (none refl) x m d e).0
stops_again r x m true same none {os} {us} {n} {k} d e =
    let here : Runs r.words r.subject x us k = rw (same refl) at e in
    subst (λ ws. SameStops os ws) (runs_same r.words r.subject d here) (stops_itself os)

-- the newest choice goes where the machine is come to
pub dropped_arrives : (r : Run) → AcceptsByStop r → (i : ℕ) (c : StringCursor) (matter : Bool) (b b' : BoardValue)
    (m : Marks)
    → (matter ≡ true → m ≡ b'.marks) → (matter ≡ false → HasReference r.words → ⊥)
    → b ≡ record b' { choices = Else (Instruction i) b'.frames c m ∷ b'.choices } → (all : List Way)
    (limit : Limit) → Arrives r all limit (Instruction i) c b → Arrives r all limit (Instruction i) c b'
dropped_arrives r told i c matter b b' m same none e all limit g =
    go (subst (λ x. Arrives r all limit (Instruction i) c x) e g)
  where
    both : BoardValue
    both = record b' { choices = Else (Instruction i) b'.frames c m ∷ b'.choices }

    go : Arrives r all limit (Instruction i) c both → Arrives r all limit (Instruction i) c b'
    go a = by_choice a.waits a.within
      where
        by_choice : {later : ℕ} → Waits r both.choices (a.turns + 1) a.now all later → a.turns + later ≤ limit.turns
            → Arrives r all limit (Instruction i) c b'
        by_choice (otherwise {n = n} {k = k} {os = os} there placed d wt) l =
            standing Coming
            (fruit_waits r b'.choices (a.now ++ os) a.now
            (fruit_alike r told (is_inside b'.choices) (a.now ++ os) a.now
            (firsts_again a.now os (stops_again r (spot (Instruction i) c b') m matter same none a.runs d))) wt)
            refl refl a.runs (omega arith) (omega (arith, l)) a.stands a.placed
            (λ pl o w.
            let f = a.fares pl o w in
            record {
              here = f.here;
              fares = record {
                settled = f.fares.settled.1;
                trying = f.fares.trying;
                left = omega (arith, f.fares.left);
              };
            })
            (λ none.
            let f = a.confined none in record { here = f.here; others = record { each = f.others.each.1 } })

-- a turn later, where it went or did not
pub later_dropped : (r : Run) → AcceptsByStop r → (i : ℕ) (c : StringCursor) (matter : Bool)
    → (matter ≡ false → HasReference r.words → ⊥) → (b b' : BoardValue) → Dropped i c matter b b'
    → (all : List Way) (limit : Limit) → Later r all limit (next.At i c) b → Later r all limit (next.At i c) b'
later_dropped r told i c matter none b b' (inl same) all limit l =
    subst (λ x. Later r all limit (next.At i c) x) (sym same) l
later_dropped r told i c matter none b b' (inr gone) all limit l =
    (l.0, dropped_arrives r told i c matter b b' gone.0 gone.1 none gone.2 all (earlier limit) l.1)
