-- Instructions and possessive loops that are known to fail, and those that are tried.
use Rattle.sre_machine.proofs.Terms.{◌≡◌, ℕ, Bool, true, false, List, ◌∷◌, Result, Ok, Err, IfOk, refl, subst, sym, ◌∙◌}
use Rattle.sre_machine.proofs.Terms.{◌<◌, ◌≤◌, ◌+◌, ◌*◌, min, arith, true≢false, Ghosts, StringCursor, Run, Marks}
use Rattle.sre_machine.proofs.Terms.{no_marks, Way, BoardValue, Trying, IsAt, Arrives, Goes, Limit, raised, Next}
use Rattle.sre_machine.proofs.Terms.{Instruction, Point, Tree, Whole, refers, tree_of, HasReference, Asks, words_of}
use Rattle.sre_machine.proofs.Terms.{items_of, Code, whole_of, whole_items, Request, code_of, run_of, GivesUp, GoesOn}
use Rattle.sre_machine.proofs.Terms.{TriesOn, LeavesOrStays, EndsThere, RunsOnAt, scan_at, Pays, is_inside, spot_at}
use Rattle.sre_machine.proofs.Terms.{Kept, Remembers, MemoValue, asked_from, asked_to, no_group, TurnAt, TurnOnce}
use Rattle.sre_machine.proofs.Terms.{Takes, StaysAt, Fails, HoldsOneMore, remembers_more, end_taken}
use Rattle.sre_turns.specs.declared.Next.TheVariants as next
use Rattle.sre_machine.proofs.Paying.{grants_nothing, pays_nothing, pays_less}

-- a mark was made, or none: the machine may stand there still
pub stays_tried : (r : Run) (point : Point) (cursor : StringCursor) (b c : BoardValue) (made : Bool)
    → (made ≡ true → c ≡ record b { choices = Trying point b.frames cursor b.marks ∷ b.choices })
    → (made ≡ false → c ≡ b) → IsAt r point cursor b → IsAt r point cursor c
stays_tried r point cursor b c true marked left x =
    subst (λ d. IsAt r point cursor d) (sym (marked refl))
    (record { outcomes = x.outcomes; turns = x.turns; stands = x.stands; placed = x.placed; runs = x.runs })
stays_tried r point cursor b c false marked left x =
    subst (λ d. IsAt r point cursor d) (sym (left refl)) x

-- an instruction is not left at once
pub stays_on : {M S : Type 0} {text : Ghosts S} (r : Request S text) (point : Point) (cursor : StringCursor)
    (b c : BoardValue) (m m' : MemoValue) → StaysAt r point cursor b c → GoesOn M r point cursor b m c m'
    → LeavesOrStays M r point cursor false b m c m'
stays_on r point cursor b c m m' stays goes = record {
  left = λ told. absurd (true≢false (sym told));
  stays = λ _. stays;
  goes = λ _. goes;
}

-- an instruction that is gone on with takes its turn, whose scan is charged no more than it may be
pub turn_goes_on : {M S : Type 0} {text : Ghosts S} {E : Type 0} (r : Request S text) (point : Point)
    (cursor : StringCursor) (b c d : BoardValue) (m m' : MemoValue) (result : Result Next E) (scan : ℕ)
    → scan ≤ scan_at r point → GoesOn M r point cursor b m c m'
    → ((all : List Way) (l l' more : Limit) → Arrives (run_of r) all l point cursor b
    → Goes (run_of r) all l' point cursor c
    → ((RunsOnAt (run_of r).words point → ⊥) → Pays M r m l m' more) → Pays M r m l m' more)
    → IfOk result (λ after. TurnAt r point cursor c after d)
    → IfOk result (λ after. Takes M scan r point cursor b m after d m')
turn_goes_on r point cursor b c d m m' (Ok after) scan few goes paid turn = λ all limit x.
    let g = goes all limit x in (
      g.0,
      g.1,
      turn all g.0 g.2,
      pays_less r m m' limit (raised (scan_at r point) g.0) (raised scan g.0) refl (omega (arith, few))
          (paid all limit g.0 (raised (scan_at r point) g.0) x g.2 g.3),
    )
turn_goes_on r point cursor b c d m m' (Err e) scan few goes paid turn = turn

-- the same with one toll
pub turn_tried : {M S : Type 0} {text : Ghosts S} {E : Type 0} (r : Request S text) (place : ℕ) (cursor : StringCursor)
    (b c d : BoardValue) (m m' : MemoValue) (result : Result Next E) (scan : ℕ) → scan ≤ scan_at r (Instruction place)
    → TriesOn M r (Instruction place) cursor b m c m' → IfOk result (λ after. TurnOnce r place cursor c after d)
    → IfOk result (λ after. Takes M scan r (Instruction place) cursor b m after d m')
turn_tried r place cursor b c d m m' (Ok after) scan few goes turn = λ all limit x.
    let g = goes all limit x in (
      g.0,
      g.1,
      turn all g.0 g.2,
      pays_less r m m' limit (raised (scan_at r (Instruction place)) g.0) (raised scan g.0) refl (omega (arith, few))
          g.3,
    )
turn_tried r place cursor b c d m m' (Err e) scan few goes turn = turn

-- where it is left, nothing is granted
pub turn_left : {M S : Type 0} {text : Ghosts S} (r : Request S text) (point : Point) (cursor : StringCursor)
    (b c : BoardValue) (m m' : MemoValue) → GivesUp M r point cursor b m c m'
    → Takes M 0 r point cursor b m next.Back c m'
turn_left r point cursor b c m m' left all limit x =
    let g = left all limit x in
    (limit, grants_nothing limit, g.0, pays_less r m m' limit limit (raised 0 limit) refl (omega arith) g.1)

-- and where the body that it is in is known to end, the machine goes there
pub turn_ended : {M S : Type 0} {text : Ghosts S} (r : Request S text) (point : Point) (cursor end : StringCursor)
    (b : BoardValue) (m : MemoValue) → EndsThere r point cursor b end → Takes M 0 r point cursor b m (next.Done end) b m
turn_ended r point cursor end b m e all limit x = (
  limit,
  grants_nothing limit,
  end_taken (run_of r) point cursor end b no_marks e.inside e.unmarked e.stands e.ends all limit x,
  pays_nothing r m m limit (raised 0 limit) refl (refl, refl, refl) (λ h. h) refl (omega arith),
)

-- the groups that the words ask for are those from the one on that their code tells
pub asked_few : {S : Type 0} {text : Ghosts S} (r : Request S text) (code : Code) (least : ℕ) → code ≡ code_of r
    → ((t : Tree) → Whole (words_of code) t → least ≡ asked_from t) → (g : ℕ) → Asks (run_of r).words g → least ≤ g
asked_few r code least same tells g asks =
    let asked : Asks (items_of code) g = subst (λ c. Asks (items_of c) g) (sym same) asks in
    let t = tree_of (items_of code) in
    let w = whole_of code in
    let is : least ≡ asked_from t = tells t (whole_items code t w) in
    omega (arith, is, (asked.0.1 t w).0)

-- and up to the one that it tells, unless that is no group
pub asked_last : (code : Code) (last : ℕ)
    → ((t : Tree) → Whole (words_of code) t → last ≡ min no_group (asked_to t)) → last < no_group
    → (g : ℕ) → Asks (items_of code) g → 2 * g + 1 < 2 * last + 2
asked_last code last tells few g asked =
    let t = tree_of (items_of code) in
    let w = whole_of code in
    let is : last ≡ min no_group (asked_to t) = tells t (whole_items code t w) in
    omega (arith, is, few, (asked.0.1 t w).1)

-- a code that says so has no reference
pub none_refers : (code : Code) (told : Bool) → ((t : Tree) → Whole (words_of code) t → told ≡ refers t) → told ≡ false
    → HasReference (items_of code) → ⊥
none_refers code told tells none has =
    let t = tree_of (items_of code) in
    let w = whole_of code in
    true≢false (sym (has t w) ∙ sym (tells t (whole_items code t w)) ∙ none)

-- so the words that are matched have none
pub plain_words : {S : Type 0} {text : Ghosts S} (r : Request S text) (code : Code) (told : Bool)
    → code ≡ code_of r → ((t : Tree) → Whole (words_of code) t → told ≡ refers t) → told ≡ false
    → HasReference (run_of r).words → ⊥
plain_words r code told same tells none =
    subst (λ c. HasReference (items_of c) → ⊥) same (none_refers code told tells none)

-- a code that says that it has a reference has one, and so have the words that are matched
pub referring_words : {S : Type 0} {text : Ghosts S} (r : Request S text) (code : Code) (told : Bool)
    → code ≡ code_of r → ((t : Tree) → Whole (words_of code) t → told ≡ refers t) → told ≡ true
    → HasReference (run_of r).words
referring_words r code told same tells told_so =
    subst (λ c. HasReference (items_of c)) same (λ t w. sym (tells t (whole_items code t w)) ∙ told_so)

-- one that fails may be kept
pub fails_kept : {S : Type 0} {text : Ghosts S} (r : Request S text) (m : Marks) (old new : Kept) (ws : List ℕ)
    (point : Point) (p q : ℕ) (b : BoardValue) → ws ≡ (run_of r).words → p ≡ q
    → HoldsOneMore ws (is_inside b.choices) (spot_at point b.frames p b.marks) old new
    → Fails r point q m b → Remembers (run_of r) m old → Remembers (run_of r) m new
fails_kept r m old new ws point p q b same there more fails remembers =
    remembers_more (run_of r) (is_inside b.choices) m (spot_at point b.frames q b.marks) old new
    (subst (λ z. HoldsOneMore (run_of r).words (is_inside b.choices) (spot_at point b.frames z b.marks)
    old new) there
    (subst (λ (us : List ℕ). HoldsOneMore us (is_inside b.choices) (spot_at point b.frames p b.marks)
    old new) same more))
    fails remembers
