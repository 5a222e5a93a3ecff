-- The descent, and the INFO block at the front.
use Rattle.sre_code.proofs.Terms.{ℕ, ◌+◌, ◌-◌, ◌≡◌, ◌≢◌, ◌<◌, List, [], ◌∷◌, length, Result, Ok, Err, refl, sym, ◌∙◌}
use Rattle.sre_code.proofs.Terms.{ap, subst, arith, Tree, Empty, Then, Reads, WholeItems, AreItems, capped, width}
use Rattle.sre_code.proofs.Terms.{item_width, IsFault, ItemAt, Closes, Exactly, Nowhere, IsEnd, IsInside, Leaves}
use Rattle.sre_code.proofs.Terms.{Unclosed, StackRest, Same, work, Fails, WholeFrom, HasWhole, CodeError, Memory, Part}
use Rattle.sre_code.proofs.Terms.{Step, Past, Opens, opcode_within, opcode_moved, reads_moved, width_held, drop, Table}
use Rattle.sre_code.proofs.Terms.{behind_block, Whole, IsCode, Confirmed, Hints, ◌++◌, reverse, length-append, Remains}
use Rattle.sre_code.proofs.Terms.{next, Fronts}
use Rattle.std.proofs.lemmas.List.{reverse-append}
use Rattle.sre_code.specs.Refusals.{place_of}
use Rattle.sre_code.specs.Descent.{opened, Rest, After, Never, Stacks, Pushes, StepsOn, ReadsOn}
use Rattle.sre_code.specs.declared.code.step.Part.TheVariants.{Whole as WholePart}
use Rattle.sre_code.specs.declared.code.step.Open.{Open}
use Rattle.sre_code.specs.declared.code.step.Reached.{Reached}
use Rattle.sre_growth.specs.Refusal.{Refused}
use Rattle.sre_chars.specs.declared.constants.SreOpcode.TheVariants as opcode

-- A step of the descent preserves what is left to read.

rest_moved : (ws : List ℕ) (i i2 d d2 : ℕ) (fs fs2 : List Open) → i ≡ i2 → d ≡ d2 → fs ≡ fs2
    → Same (Rest ws i d fs) (Rest ws i2 d2 fs2)
rest_moved ws i i2 d d2 fs fs2 e f g =
    subst (λ (xs : List Open). Same (Rest ws i d fs) (Rest ws i2 d2 xs)) g
    (subst (λ (n : ℕ). Same (Rest ws i d fs) (Rest ws i2 n fs)) f
    (subst (λ (n : ℕ). Same (Rest ws i d fs) (Rest ws n d fs)) e (record { to = λ W r. r; from = λ W r. r })))

after_from : (ws : List ℕ) (s : Step) (fs : List Open) (W j w : ℕ) → Remains ws s j w → Rest ws j w fs W
    → After ws s fs W
after_from ws (Past p v) fs W j w e r = (rest_moved ws j p w v fs fs e.0 e.1 refl).to W r
after_from ws (Opens part p) fs W j w m r = (j, w, m, r)

after_to : (ws : List ℕ) (s : Step) (fs : List Open) (W : ℕ) → After ws s fs W
    → (j : ℕ) × (w : ℕ) × Remains ws s j w × Rest ws j w fs W
after_to ws (Past p v) fs W r = (p, v, (refl, refl), r)
after_to ws (Opens part p) fs W r = r

-- the width of a part is that of its first items and that of the others
sums : (a v x : ℕ) → capped (a + capped (v + x)) ≡ capped (capped (a + v) + x)
sums a v x = omega arith

no_more : (n a : ℕ) → a ≡ capped n → capped (capped n + 0) ≡ a
no_more n a e = omega arith

closes_wide : (ws : List ℕ) (part : Part) (k u u2 j w : ℕ) → u ≡ u2 → Closes ws part k u j w → Closes ws part k u2 j w
closes_wide ws part k u u2 j w e c = subst (λ (n : ℕ). Closes ws part k n j w) e c

-- the item comes first, and then the rest of the part
item_first : (ws : List ℕ) (s : Step) (part : Part) (a : ℕ) (fs : List Open) (W i j w k : ℕ) (t : Tree)
    → IsInside ws part i → Exactly ws s (ItemAt ws i) → Reads ws i k t → Closes ws part k (capped (a + width t)) j w
    → Rest ws j w fs W → After ws s (record { part = part; width = a } ∷ fs) W
item_first ws s part a fs W i j w k Empty inside x r c rest =
    absurd (inside.none _ j w (subst (λ (n : ℕ). Closes ws part n (capped (a + 0)) j w) (sym r) c))
item_first ws s part a fs W i j w k (Then it t) inside x r c rest =
    after_from ws s (record { part = part; width = a } ∷ fs) W r.0 (item_width it)
    (x.complete r.0 (item_width it) (it, r.1, refl))
    (j, w, (k, (t, r.2, closes_wide ws part k _ _ j w (sums a (item_width it) (width t)) c)), rest)

item_turns : (ws : List ℕ) (s : Step) (a : ℕ) (top : Open) (d : ℕ) (fs : List Open) (i : ℕ)
    → a ≡ capped (top.width + d) → IsInside ws top.part i → Exactly ws s (ItemAt ws i)
    → Same (Rest ws i d (top ∷ fs)) (After ws s (record { part = top.part; width = a } ∷ fs))
item_turns ws s a top d fs i ae inside x = record {
  to = λ W r.
      item_first ws s top.part a fs W i r.0 r.1 r.2.0 r.2.1.0 inside x r.2.1.1
      (closes_wide ws top.part _ _ _ _ _ (ap (λ n. capped (n + width r.2.1.0)) (sym ae)) r.2.1.2) r.3;
  from = λ W y.
      let b = after_to ws s (record { part = top.part; width = a } ∷ fs) W y in
      let it = x.sound b.0 b.1 b.2 in
      let sum : capped (capped (a + b.1) + width b.3.2.1.0)
      ≡ capped (capped (top.width + d) + width (Then it.0 b.3.2.1.0)) =
      ap (λ n. capped (capped (a + n) + width b.3.2.1.0)) it.2 ∙ sym (sums a (item_width it.0) (width b.3.2.1.0))
      ∙ ap (λ n. capped (n + width (Then it.0 b.3.2.1.0))) ae in (
        b.3.0,
        b.3.1,
        (
          b.3.2.0,
          (Then it.0 b.3.2.1.0, (b.0, it.1, b.3.2.1.1), closes_wide ws top.part b.3.2.0 _ _ b.3.0 b.3.1 sum b.3.2.1.2),
        ),
        b.3.3,
      );
}

item_refuses : (ws : List ℕ) (part : Part) (i k u j w : ℕ) (t : Tree) → IsInside ws part i → Nowhere (ItemAt ws i)
    → Reads ws i k t → Closes ws part k u j w → ⊥
item_refuses ws part i k u j w Empty inside n r c =
    inside.none u j w (subst (λ (n : ℕ). Closes ws part n u j w) (sym r) c)
item_refuses ws part i k u j w (Then it t) inside n r c = n.none r.0 (item_width it) (it, r.1, refl)

item_stops : (ws : List ℕ) (top : Open) (d : ℕ) (fs : List Open) (i : ℕ) → IsInside ws top.part i
    → Nowhere (ItemAt ws i) → Never (Rest ws i d (top ∷ fs))
item_stops ws top d fs i inside n =
    record { none = λ W r. item_refuses ws top.part i r.2.0 _ r.0 r.1 r.2.1.0 inside n r.2.1.1 r.2.1.2 }

-- the part ends here, and its width is the sum so far
closed_here : (ws : List ℕ) (top : Open) (d a : ℕ) (fs : List Open) (W i : ℕ) → a ≡ capped (top.width + d)
    → IsEnd ws top.part i → Rest ws i d (top ∷ fs) W → (j : ℕ) × (w : ℕ) × Closes ws top.part i a j w × Rest ws j w fs W
closed_here ws top d a fs W i ae end r =
    let empty : r.2.1.0 ≡ Empty = end.only r.2.0 _ r.0 r.1 r.2.1.0 r.2.1.1 r.2.1.2 in
    let at : i ≡ r.2.0 = subst (λ (t : Tree). Reads ws i r.2.0 t) empty r.2.1.1 in
    let wide = ap (λ t. capped (capped (top.width + d) + width t)) empty ∙ no_more (top.width + d) a ae in (
      r.0,
      r.1,
      subst (λ (n : ℕ). Closes ws top.part n a r.0 r.1) (sym at)
          (closes_wide ws top.part r.2.0 _ a r.0 r.1 wide r.2.1.2),
      r.3,
    )

close_turns : (ws : List ℕ) (s : Step) (top : Open) (d a : ℕ) (fs : List Open) (i : ℕ) → a ≡ capped (top.width + d)
    → IsEnd ws top.part i → Exactly ws s (Closes ws top.part i a) → Same (Rest ws i d (top ∷ fs)) (After ws s fs)
close_turns ws s top d a fs i ae end x = record {
  to = λ W r.
      let here = closed_here ws top d a fs W i ae end r in
      after_from ws s fs W here.0 here.1 (x.complete here.0 here.1 here.2) here.3;
  from = λ W y. let b = after_to ws s fs W y in (
    b.0,
    b.1,
    (
      i,
      (
        Empty,
        refl,
        closes_wide ws top.part i a _ b.0 b.1 (sym (no_more (top.width + d) a ae)) (x.sound b.0 b.1 b.2),
      ),
    ),
    b.3,
  );
}

close_stops : (ws : List ℕ) (top : Open) (d a : ℕ) (fs : List Open) (i : ℕ) → a ≡ capped (top.width + d)
    → IsEnd ws top.part i → Nowhere (Closes ws top.part i a) → Never (Rest ws i d (top ∷ fs))
close_stops ws top d a fs i ae end n =
    record { none = λ W r. let here = closed_here ws top d a fs W i ae end r in n.none here.0 here.1 here.2 }

-- what a step leaves is on the stack
reverse_push : (fs : List Open) (f : Open) → reverse (fs ++ f ∷ []) ≡ f ∷ reverse fs
reverse_push fs f = reverse-append fs (f ∷ [])

pushed : (ws : List ℕ) (s : Step) (old new : List Open) (q : Reached) → Stacks s old new q
    → Same (After ws s (reverse old)) (StackRest ws q.place q.width new)
pushed ws (Past p v) old new q e =
    rest_moved ws p q.place v q.width (reverse old) (reverse new) (sym e.0) (sym e.1) (ap reverse (sym e.2))
pushed ws (Opens part p) old new q e =
    let same : reverse new ≡ opened part ∷ reverse old = ap reverse e.2 ∙ reverse_push old (opened part) in
    rest_moved ws p q.place 0 q.width (opened part ∷ reverse old) (reverse new) (sym e.0) (sym e.1) (sym same)

same_then : (A B C : ℕ → Type 0) → Same A B → Same B C → Same A C
same_then A B C x y = record { to = λ W a. y.to W (x.to W a); from = λ W d. x.from W (y.from W d) }

falls_closing : (ws : List ℕ) (s : Step) (i : ℕ) (q : Reached) (old new : List Open) → Leaves ws i s
    → Stacks s old new q → work ws q.place new < work ws i old + 1
falls_closing ws (Past p v) i q old new l e = omega (arith, ap length e.2)
falls_closing ws (Opens part p) i q old new l e = omega (arith, ap length e.2, length-append old (opened part ∷ []))

falls_item : (ws : List ℕ) (s : Step) (f : Open) (i : ℕ) (q : Reached) (old new : List Open) → i < next s
    → i < length ws → Stacks s (old ++ f ∷ []) new q → work ws q.place new < work ws i old + 1
falls_item ws (Past p v) f i q old new l there e = omega (arith, ap length e.2, length-append old (f ∷ []))
falls_item ws (Opens part p) f i q old new l there e =
    omega (arith, ap length e.2, length-append (old ++ f ∷ []) (opened part ∷ []), length-append old (f ∷ []))

memory : {M : Type 0} (ws : List ℕ) (A : ℕ → Type 0) (e : CodeError) → (e ≡ Memory) × Refused M → Fails M ws A e
memory ws A e m = record { never = λ ne. absurd (ne m.0); grows = λ _. m.1; within = omega (arith, ap place_of m.0) }

-- one turn
pub step_closes : (M : Type 0) (ws : List ℕ) (r : Reached) (a : ℕ) (top : Open) (s : Step) (old new : List Open)
    (q : Result Reached CodeError)
    → a ≡ capped (top.width + r.width) → IsEnd ws top.part r.place → Leaves ws r.place s
    → Exactly ws s (Closes ws top.part r.place a) → Pushes M s old new q → ReadsOn M ws r top old new q
step_closes M ws r a top s old new (Ok q) ae end l x e = (
  same_then _ _ _ (close_turns ws s top r.width a (reverse old) r.place ae end x) (pushed ws s old new q e),
  falls_closing ws s r.place q old new l e,
)
step_closes M ws r a top s old new (Err e) ae end l x m = memory ws _ e m

item_pushed : (ws : List ℕ) (s : Step) (f : Open) (old new : List Open) (q : Reached)
    → Stacks s (old ++ f ∷ []) new q → Same (After ws s (f ∷ reverse old)) (StackRest ws q.place q.width new)
item_pushed ws s f old new q e =
    subst (λ (xs : List Open). Same (After ws s xs) (StackRest ws q.place q.width new)) (reverse_push old f)
    (pushed ws s (old ++ f ∷ []) new q e)

pub step_reads : (M : Type 0) (ws : List ℕ) (r : Reached) (a : ℕ) (top : Open) (s : Step) (old new : List Open)
    (q : Result Reached CodeError)
    → a ≡ capped (top.width + r.width) → IsInside ws top.part r.place → r.place < length ws → r.place < next s
    → Exactly ws s (ItemAt ws r.place) → Pushes M s (old ++ record { part = top.part; width = a } ∷ []) new q
    → ReadsOn M ws r top old new q
step_reads M ws r a top s old new (Ok q) ae inside there lt x e = (
  same_then _ _ _ (item_turns ws s a top r.width (reverse old) r.place ae inside x)
      (item_pushed ws s (record { part = top.part; width = a }) old new q e),
  falls_item ws s (record { part = top.part; width = a }) r.place q old new lt there e,
)
step_reads M ws r a top s old new (Err e) ae inside there lt x m = memory ws _ e m

pub step_no_close : {M : Type 0} (ws : List ℕ) (i d a : ℕ) (top : Open) (old : List Open) (e : CodeError)
    → a ≡ capped (top.width + d) → Unclosed ws top.part i a e → Fails M ws (Rest ws i d (top ∷ reverse old)) e
step_no_close ws i d a top old e ae x =
    let stops = close_stops ws top d a (reverse old) i ae x.end x.nowhere in
    record { never = λ _. stops; grows = λ m. absurd (x.fault.1 m); within = x.fault.0 }

pub step_no_item : {M : Type 0} (ws : List ℕ) (i d : ℕ) (top : Open) (old : List Open) (e : CodeError)
    → IsInside ws top.part i → Nowhere (ItemAt ws i) → IsFault ws e → Fails M ws (Rest ws i d (top ∷ reverse old)) e
step_no_item ws i d top old e inside x f =
    let stops = item_stops ws top d (reverse old) i inside x in
    record { never = λ _. stops; grows = λ m. absurd (f.1 m); within = f.0 }

-- the descent
body_open : (ws : List ℕ) (i : ℕ) → Same (WholeFrom ws i) (Rest ws i 0 (opened WholePart ∷ []))
body_open ws i = record {
  to = λ W b.
      let last : length ws - 1 + 1 ≡ length ws = omega (arith, opcode_within ws (length ws - 1) opcode.SUCCESS b.1) in (
        length ws - 1 + 1,
        W,
        (length ws - 1, (b.0.0, b.0.1, (b.1, last, refl, omega (arith, b.0.2, width_held b.0.0)))),
        refl,
      );
  from = λ W r.
      let c = r.2.1.2 in
      let last : r.2.0 ≡ length ws - 1 = omega (arith, c.1) in (
        (
          r.2.1.0,
          reads_moved ws i i r.2.0 (length ws - 1) r.2.1.0 refl last r.2.1.1,
          omega (arith, c.3, r.3, width_held r.2.1.0),
        ),
        opcode_moved ws r.2.0 (length ws - 1) opcode.SUCCESS last c.0,
      );
}

pub descent_starts : (ws : List ℕ) (i : ℕ) (q : Reached) (items : List Open) → q.place ≡ i → q.width ≡ 0
    → items ≡ [] ++ opened WholePart ∷ [] → Same (WholeFrom ws i) (StackRest ws q.place q.width items)
descent_starts ws i q items p v e =
    same_then _ _ _ (body_open ws i) (rest_moved ws i q.place 0 q.width _ _ (sym p) (sym v) (sym (ap reverse e)))

popped : (ws : List ℕ) (i d : ℕ) (top : Open) (items old : List Open) → items ≡ old ++ top ∷ []
    → Same (StackRest ws i d items) (Rest ws i d (top ∷ reverse old))
popped ws i d top items old e = rest_moved ws i i d d _ _ refl refl (ap reverse e ∙ reverse_push old top)

pub descent_goes_on : (ws : List ℕ) (start : ℕ) (r q : Reached) (top : Open) (items old new : List Open)
    → Same (WholeFrom ws start) (StackRest ws r.place r.width items) → items ≡ old ++ top ∷ []
    → StepsOn ws r top old new q → Same (WholeFrom ws start) (StackRest ws q.place q.width new)
descent_goes_on ws start r q top items old new inv e t =
    same_then _ _ _ inv (same_then _ _ _ (popped ws r.place r.width top items old e) t.0)

pub descent_falls : (ws : List ℕ) (r q : Reached) (top : Open) (items old new : List Open) → items ≡ old ++ top ∷ []
    → StepsOn ws r top old new q → work ws q.place new < work ws r.place items
descent_falls ws r q top items old new e t = omega (arith, t.1, ap length e, length-append old (top ∷ []))

pub descent_stops : {M : Type 0} (ws : List ℕ) (start i d : ℕ) (top : Open) (items old : List Open) (e : CodeError)
    → Same (WholeFrom ws start) (StackRest ws i d items) → items ≡ old ++ top ∷ []
    → Fails M ws (Rest ws i d (top ∷ reverse old)) e → Fails M ws (WholeFrom ws start) e
descent_stops ws start i d top items old e inv same t =
    record {
      never = λ ne. record { none = λ W b. (t.never ne).none W ((popped ws i d top items old same).to W (inv.to W b)) };
      grows = t.grows;
      within = t.within;
    }

pub descent_ends : (ws : List ℕ) (start : ℕ) (r : Reached) (items : List Open)
    → Same (WholeFrom ws start) (StackRest ws r.place r.width items) → items ≡ [] → HasWhole ws start r.width
descent_ends ws start r items inv e = record {
  body = inv.from r.width ((rest_moved ws r.place r.place r.width r.width _ [] refl refl (ap reverse e)).from _ refl);
}

-- what the descent says of items
pub descent_items : (ws : List ℕ) (W : ℕ) → HasWhole ws 0 W → AreItems ws
descent_items ws W b = (b.body.0.0, (b.body.0.1, b.body.1))

pub descent_refused : {M : Type 0} (ws : List ℕ) (e : CodeError) (t : Tree) → Fails M ws (WholeFrom ws 0) e → e ≢ Memory
    → ¬ (WholeItems ws t)
descent_refused ws e t x ne w = (x.never ne).none (width t) ((t, w.0, refl), w.1)

-- what `read_on` and `descend` answer
pub ruleset read_on_laws = (step_closes, step_reads, step_no_close, step_no_item)

pub ruleset descend_laws = (descent_starts, descent_goes_on, descent_falls, descent_stops, descent_ends)

-- The INFO block at the front, and what a check says of bytecode whose items it has read.

-- what follows of the items for all the words
module _ (ws : List ℕ) (n : ℕ) (f : Fronts ws n) where
  pub front_code : (W : ℕ) → HasWhole (drop n ws) 0 W → IsCode ws
  front_code W h =
      let items = descent_items (drop n ws) W h in
      (items.0, (f.fits, subst (λ (xs : List ℕ). WholeItems xs items.0) f.behind items.1))

  behind : (t : Tree) → Whole ws t → WholeItems (drop n ws) t
  behind t w = subst (λ (xs : List ℕ). WholeItems xs t) (sym f.behind) w.1

  pub front_refused : {M : Type 0} (items : List ℕ) (e : CodeError) (t : Tree) → items ≡ drop n ws
      → Fails M items (WholeFrom items 0) e → e ≢ Memory → ¬ (Whole ws t)
  front_refused items e t same x ne w =
      descent_refused items e t x ne (subst (λ (xs : List ℕ). WholeItems xs t) (sym same) (behind t w))

  -- what is confirmed of a tree of that width is confirmed of the words' tree
  pub front_confirmed : (W : ℕ) (table : Table) (hints : Hints) → HasWhole (drop n ws) 0 W
      → ((t : Tree) → WholeItems (drop n ws) t → W ≡ width t → Confirmed ws table t hints)
      → ∥ ((t : Tree) × Whole ws t × Confirmed ws table t hints) ∥₁
  front_confirmed W table hints h each =
      let t = h.body.0.0 in
      let whole : WholeItems (behind_block ws) t =
      subst (λ (xs : List ℕ). WholeItems xs t) f.behind (h.body.0.1, h.body.1) in
      ∣ (t, (f.fits, whole), each t (h.body.0.1, h.body.1) h.body.0.2) ∣₁

-- what `check_in` answers
pub ruleset front_laws = (front_code, front_refused)
