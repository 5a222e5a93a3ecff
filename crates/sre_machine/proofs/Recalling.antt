-- Memoized configurations are hopeless, and memoized ends are right.
use Rattle.sre_machine.proofs.Terms.{◌≡◌, ℕ, ◌+◌, ◌*◌, ◌<◌, ◌⊎◌, inl, inr, List, Bool, true, refl, sym, ◌∙◌, subst}
use Rattle.sre_machine.proofs.Terms.{no_marks, Run, AreIdle, Asks, Kept, HoldsNoMore, Remembers, right_stays}
use Rattle.sre_machine.proofs.Terms.{remembers_still, MemoValue, Covers, Recalls, EndsStay, MarklessRegions, EndsTable}
use Rattle.sre_machine.proofs.Terms.{EndsRight, HoldsNoEnd, HoldsNone, BitsStay, Grows, right_none, remembers_none}
use Rattle.sre_machine.proofs.Terms.{MarkedValue, Recalled, MarkedStays}
use Rattle.sre_machine.proofs.Analyses.{covers_told}

-- nothing is kept
pub recalls_none : (r : Run) (k : Kept) (m : MarkedValue) (e : EndsTable) (h : Bool) → HoldsNone k → HoldsNone m.kept
    → Covers r.words m.end → AreIdle r.words m.idle → HoldsNoEnd e → (h ≡ true → MarklessRegions r.words)
    → Recalled r k m e h
recalls_none r k m e h none unmarked covers idle no_end markless = record {
  plain = remembers_none r no_marks k none;
  marked = remembers_none r m.marks m.kept unmarked;
  covers = covers;
  idle = idle;
  ends = right_none r k e no_end;
  markless = markless;
}

-- the ends are right still where bits stay
module _ (r : Run) (m m' : MemoValue) (same : EndsStay m m') (stay : BitsStay m.kept m'.kept) (recalls : Recalls r m)
  where
    pub ends_kept : EndsRight r m'.kept m'.ends
    ends_kept =
        subst (λ e. EndsRight r m'.kept e) (sym same.0) (right_stays r m.kept m'.kept m.ends stay recalls.ends)

    pub still_markless : m'.keeps_ends ≡ true → MarklessRegions r.words
    still_markless keeps = recalls.markless (sym same.1 ∙ keeps)

-- bits stay where what is kept does
pub bits_stay : (k k' : Kept) → k' ≡ k → BitsStay k k'
bits_stay k k' same = subst (λ l. BitsStay k l) (sym same) (λ ws inside x at bit entry. entry)

-- what was kept under marks is kept still, or is forgotten
pub recalls_met : (r : Run) (m m' : MemoValue) → m'.kept ≡ m.kept → EndsStay m m'
    → MarkedStays m.marked m'.marked ⊎ HoldsNone m'.marked.kept → (ws : List ℕ) → ws ≡ r.words
    → (m'.marked.end ≡ m.marked.end) ⊎ ((g : ℕ) → Asks ws g → 2 * g + 1 < m'.marked.end)
    → (m'.marked.idle ≡ m.marked.idle) ⊎ AreIdle ws m'.marked.idle → Recalls r m → Recalls r m'
recalls_met r m m' same ends met ws words told idle recalls = record {
  plain = subst (λ k. Remembers r no_marks k) (sym same) recalls.plain;
  marked = elim met [
    | inl e ↦ subst (λ k. Remembers r k m'.marked.kept) (sym e.0)
        (subst (λ k. Remembers r m.marked.marks k) (sym e.1) recalls.marked)
    | inr none ↦ remembers_none r m'.marked.marks m'.marked.kept none
  ];
  covers = covers_told r.words ws m.marked.end m'.marked.end words told recalls.covers;
  idle = elim idle [
    | inl e ↦ subst (λ list. AreIdle r.words list) (sym e) recalls.idle
    | inr told ↦ subst (λ us. AreIdle us m'.marked.idle) words told
  ];
  ends = ends_kept r m m' ends (bits_stay m.kept m'.kept same) recalls;
  markless = still_markless r m m' ends (bits_stay m.kept m'.kept same) recalls;
}

-- no more is kept under marks
pub recalls_still : (r : Run) (m m' : MemoValue) → m'.kept ≡ m.kept → EndsStay m m' → m'.marked.marks ≡ m.marked.marks
    → m'.marked.end ≡ m.marked.end → m'.marked.idle ≡ m.marked.idle → HoldsNoMore m.marked.kept m'.marked.kept
    → Recalls r m → Recalls r m'
recalls_still r m m' same ends marks end idle no_more recalls = record {
  plain = subst (λ k. Remembers r no_marks k) (sym same) recalls.plain;
  marked = subst (λ k. Remembers r k m'.marked.kept) (sym marks)
      (remembers_still r m.marked.marks m.marked.kept m'.marked.kept no_more recalls.marked);
  covers = subst (λ k. Covers r.words k) (sym end) recalls.covers;
  idle = subst (λ list. AreIdle r.words list) (sym idle) recalls.idle;
  ends = ends_kept r m m' ends (bits_stay m.kept m'.kept same) recalls;
  markless = still_markless r m m' ends (bits_stay m.kept m'.kept same) recalls;
}

-- what is kept under marks stays, whatever is kept where no mark is set
recalls_from : {r : Run} {k : Kept} {m : MarkedValue} {e : EndsTable} {h : Bool} (m' : MemoValue) → m'.marked ≡ m
    → Remembers r no_marks m'.kept → EndsRight r m'.kept m'.ends → (m'.keeps_ends ≡ true → MarklessRegions r.words)
    → Recalled r k m e h → Recalls r m'
recalls_from {r} m' same plain ends markless recalls =
    subst (λ x. Recalled r m'.kept x m'.ends m'.keeps_ends) (sym same) (record {
      plain = plain;
      marked = recalls.marked;
      covers = recalls.covers;
      idle = recalls.idle;
      ends = ends;
      markless = markless;
    })

-- no more is kept where no mark is set
pub recalls_prepared : (r : Run) (m m' : MemoValue) → m'.marked ≡ m.marked → EndsStay m m' → Grows m.kept m'.kept
    → Recalls r m → Recalls r m'
recalls_prepared r m m' same ends grows recalls =
    recalls_from m' same (remembers_still r no_marks m.kept m'.kept grows.no_more recalls.plain)
    (ends_kept r m m' ends grows.stay recalls) (still_markless r m m' ends grows.stay recalls) recalls

-- one more is kept where no mark is set
pub recalls_kept : (r : Run) (m m' : MemoValue) → m' ≡ record m { kept = m'.kept } → BitsStay m.kept m'.kept
    → Remembers r no_marks m'.kept → Recalls r m → Recalls r m'
recalls_kept r m m' same stay plain recalls =
    subst (λ (k : MemoValue). Recalls r k) (sym same) (recalls_from (record m { kept = m'.kept }) refl plain
    (right_stays r m.kept m'.kept m.ends stay recalls.ends) recalls.markless recalls)

-- other ends are kept, which are right
pub recalls_ended : (r : Run) (m m' : MemoValue) → m'.kept ≡ m.kept → m'.marked ≡ m.marked
    → m'.keeps_ends ≡ m.keeps_ends → EndsRight r m.kept m'.ends → Recalls r m → Recalls r m'
recalls_ended r m m' kept marked keeps ends recalls =
    recalls_from m' marked (subst (λ k. Remembers r no_marks k) (sym kept) recalls.plain)
    (subst (λ k. EndsRight r k m'.ends) (sym kept) ends) (λ h. recalls.markless (sym keeps ∙ h)) recalls

-- from now on failures are kept
pub recalls_begun : (r : Run) (m' : MemoValue) (k : Kept) (m : MarkedValue) (e : EndsTable) (h : Bool) → m'.kept ≡ k
    → m'.marked ≡ m → m'.ends ≡ e → (m'.keeps_ends ≡ true → MarklessRegions r.words) → Recalled r k m e h
    → Recalls r m'
recalls_begun r m' k m e h kept marked ends markless recalls =
    recalls_from m' marked (subst (λ l. Remembers r no_marks l) (sym kept) recalls.plain)
    (subst (λ l. EndsRight r l m'.ends) (sym kept) (subst (λ t. EndsRight r k t) (sym ends) recalls.ends)) markless
    recalls

-- as it is while turns are waited
pub recalls_waited : (r : Run) (m m' : MemoValue) → m' ≡ record m { waits = m'.waits } → Recalls r m → Recalls r m'
recalls_waited r m m' same recalls = subst (λ (x : MemoValue). Recalls r x) (sym same) recalls
