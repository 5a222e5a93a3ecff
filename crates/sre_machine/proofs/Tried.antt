-- A point is left or tried, by what is known of it. A point that is executed is paid, though a possessive repeat goes
-- over its characters at once inside an atomic scope whose ends are not memoized: such a code has no step bound.
use Rattle.sre_machine.proofs.Terms.{◌≡◌, ◌⊎◌, inl, List, ℕ, Bool, true, false, sym, ◌∙◌, subst, true≢false, Ghosts}
use Rattle.sre_machine.proofs.Terms.{MakesRoom, repeats, end_of, StringCursor, no_marks, BoardValue, is_inside, spot}
use Rattle.sre_machine.proofs.Terms.{spot_at, Point, Refused, HoldsNoMore, remembers_still, Request, run_of, MemoValue}
use Rattle.sre_machine.proofs.Terms.{RecallsOf, RefersToGroups, ForksThere, NoEndTold, GivesUp, GoesOn, TriesOn}
use Rattle.sre_machine.proofs.Terms.{LeavesOrStays, hopeless_left, Tells, Known, Failed, Open, NoBit, AlikeMarks}
use Rattle.sre_machine.proofs.Terms.{ServesThere, TriesKnown, ◌≢◌, inr, refl, Way, Limit, Arrives, Goes, run_code}
use Rattle.sre_machine.proofs.Terms.{here_forked, Pays, RunsOnAt, Unmarked, IsKeeping, RunsAtOnce, Keeping, Nothing}
use Rattle.sre_machine.proofs.Terms.{Idle, Marked}
use Rattle.sre_machine.proofs.Failing.{stays_tried}
use Rattle.sre_machine.proofs.Opening.{PreparedAt, pays_prepared, goes_untried, tries_untried, goes_tried, tries_tried}
use Rattle.sre_machine.proofs.Opening.{goes_marked, tries_marked, forks_here, run_forks}
use Rattle.sre_machine.proofs.Paying.{pays_left}

-- what is known of a point tells something of it
module _ {M : Type 0} {point : Point} {cursor : StringCursor} {told : Bool} {b c : BoardValue}
    (Says : Known → Type 0) where
  -- it is left
  left_known : (known : Known) → TriesKnown M known point cursor told b c → Says known
      → (Left : BoardValue → Type 0) → (Says Failed → Left b) → told ≡ true → Left c
  left_known Failed t k Left leaves e = subst Left (sym (t.left t.says.1)) (leaves k)
  left_known Open t k Left leaves e = absurd (true≢false (sym e ∙ t.says.0))
  left_known NoBit t k Left leaves e = absurd (true≢false (sym e ∙ t.says.0))

  -- or goes on, with its marker if it has a bit
  goes_known : (known : Known) (t : TriesKnown M known point cursor told b c) → Says known
      → (On : BoardValue → Type 0) → (Says Open → (t.made ≡ false → Refused M) → On c) → (Says NoBit → On b)
      → told ≡ false → On c
  goes_known Failed t k On tried untried e = absurd (true≢false (sym t.says.0 ∙ e))
  goes_known Open t k On tried untried e = tried k t.says.1
  goes_known NoBit t k On tried untried e = subst On (sym (t.left t.says.1)) (untried k)

module _ {M S : Type 0} {text : Ghosts S} (r : Request S text) {known : Known} {point : Point}
    {cursor : StringCursor} {told : Bool} {b c : BoardValue} (m m' : MemoValue) (ws : List ℕ) (q : ℕ)
    (t : TriesKnown M known point cursor told b c) (words : ws ≡ (run_of r).words) (there : q ≡ cursor.position) where
  -- room was made for its failures, and it is known from those that are memoized without marks
  module _ (end : ℕ) (stop : end ≡ end_of r) (makes : MakesRoom ws m.first end point (repeats b.frames) m m')
      (same : m'.stopped ≡ false → m' ≡ record m { kept = m'.kept }) (refused : m'.stopped ≡ true → Refused M)
      (forks : ForksThere r point) (recalls : RecallsOf r m)
      (untold : RefersToGroups r ⊎ NoEndTold r point cursor b m)
      (tells : Tells known m'.kept ws (is_inside b.choices) (spot_at point b.frames q b.marks)) where
    p : PreparedAt M r point b m m'
    p = record { makes = rw (words, stop) at makes; same = same; refused = refused }

    abbrev Plainly : Known → Type 0
    Plainly k = Tells k m'.kept (run_of r).words (is_inside b.choices) (spot point cursor b)

    plainly : Plainly known
    plainly = rw (words, there) at tells

    pub leaves_prepared : ServesThere r no_marks point cursor.position b → LeavesOrStays M r point cursor told b m c m'
    leaves_prepared serves = record {
      left = left_known Plainly known t plainly (λ d. GivesUp M r point cursor b m d m') (λ held all limit x. (
        hopeless_left (run_of r) point cursor b no_marks serves
            (remembers_still (run_of r) no_marks m.kept m'.kept p.makes.grows.no_more recalls.plain
            (is_inside b.choices) (spot point cursor b) held) all limit x,
        pays_prepared r point cursor b all limit x m m' p forks,
      ));
      stays = λ _. stays_tried (run_of r) point cursor b c t.made t.marked t.left;
      goes = goes_known Plainly known t plainly (λ d. GoesOn M r point cursor b m d m')
          (λ opened none all limit x. goes_tried r point cursor b all limit x m m' p forks recalls untold c t.made
          t.marked t.left none opened) (λ none all limit x. goes_untried r point cursor b all limit x m m' p forks
          none);
    }

    pub tries_prepared : told ≡ false → TriesOn M r point cursor b m c m'
    tries_prepared =
        goes_known Plainly known t plainly (λ d. TriesOn M r point cursor b m d m')
        (λ opened none all limit x. tries_tried r point cursor b all limit x m m' p forks recalls untold c t.made
        t.marked t.left none opened) (λ none all limit x. tries_untried r point cursor b all limit x m m' p forks none)

  -- it is known from failures under live captures
  module _ (refers : RefersToGroups r) where
    pub leaves_marked : Tells known m'.marked.kept ws (is_inside b.choices) (spot_at point b.frames q b.marks)
        → AlikeMarks r m.marked.marks b.marks → HoldsNoMore m.marked.kept m'.marked.kept → RecallsOf r m
        → LeavesOrStays M r point cursor told b m c m'
    leaves_marked tells alike no_more recalls = record {
      left = left_known
          (λ k. Tells k m'.marked.kept (run_of r).words (is_inside b.choices) (spot point cursor b)) known t
          (rw (words, there) at tells) (λ d. GivesUp M r point cursor b m d m') (λ held all limit x. (
            hopeless_left (run_of r) point cursor b m.marked.marks (inl alike)
                (remembers_still (run_of r) m.marked.marks m.marked.kept m'.marked.kept no_more recalls.marked
                (is_inside b.choices) (spot point cursor b) held) all limit x,
            pays_left r m m' limit limit (λ _. refers),
          ));
      stays = λ _. stays_tried (run_of r) point cursor b c t.made t.marked t.left;
      goes = λ _ all limit x. goes_marked r point cursor b all limit x c t.made t.marked t.left m m' refers;
    }

    pub tries_marked_on : TriesOn M r point cursor b m c m'
    tries_marked_on all limit x = tries_marked r point cursor b all limit x c t.made t.marked t.left m m' refers

module _ {S : Type 0} {text : Ghosts S} (r : Request S text) (point : Point) (cursor : StringCursor)
    (b c : BoardValue) (m m' : MemoValue) (keeping : Keeping) where
  -- a repeat that goes on inside an atomic scope whose ends are not memoized is in no code of which steps are counted
  at_once : {M : Type 0} → RunsAtOnce r point keeping c m' → keeping ≡ Unmarked → TriesOn M r point cursor b m c m' →
      (all : List Way)
      (l l' more : Limit) → Arrives (run_of r) all l point cursor b → Goes (run_of r) all l' point cursor c
      → Pays M r m l m' more
  at_once run unmarked tries all l l' more x y = record {
    paid = λ pl opened start n h.
        let here = spot point cursor c in
        let code = run_code (run_of r) here y.runs in
        let forked =
        here_forked (run_of r) pl.plain l'.start c.choices here (y.fares pl.plain code.0 code.1).here
        (forks_here r point (run_forks r point run.runs)) run.inside in
        elim ((tries all l x).3.paid pl opened start n h) [
          | inl refused ↦ inl refused
          | inr held ↦ absurd (true≢false (sym (held.1.ends forked) ∙ run.none unmarked))
        ];
  }

  -- so a point that is executed is paid, where failures are not memoized, where it is no repeat without a greatest
  -- count, and there
  pub paid_so : {M : Type 0} → IsKeeping r keeping point b m
      → (keeping ≢ Nothing → (RunsOnAt (run_of r).words point → ⊥) ⊎ RunsAtOnce r point keeping c m')
      → (keeping ≢ Nothing → RunsOnAt (run_of r).words point → TriesOn M r point cursor b m c m') → (all : List Way)
      (l l' more : Limit) → Arrives (run_of r) all l point cursor b → Goes (run_of r) all l' point cursor c
      → ((RunsOnAt (run_of r).words point → ⊥) → Pays M r m l m' more) → Pays M r m l m' more
  paid_so {M} is off tries all l l' more x y paid = go keeping refl
    where
      go : (k : Keeping) → keeping ≡ k → Pays M r m l m' more
      go Nothing e = pays_left r m m' l more (is.left e)
      go Marked e = pays_left r m m' l more (λ opened. is.refers e)
      go Idle e = pays_left r m m' l more (λ opened. is.refers_idly e)
      go Unmarked e =
          let keeps : keeping ≢ Nothing = λ nothing. cc in
          elim (off keeps) [
            | inl none ↦ paid none
            | inr run ↦ at_once run e (tries keeps run.runs) all l l' more x y
          ]
