-- Steps at tests, positions, MARKs, jumps, back-references, conditionals and branches, and at the ends of an atomic
-- scope.
use Rattle.sre_turns.proofs.Terms.{◌≡◌, ℕ, ◌+◌, ◌<◌, ◌≤◌, Bool, true, false, List, length, refl, ◌∙◌, arith, nat_tests}
use Rattle.sre_turns.proofs.Terms.{at_number, SreAtCode, SreOpcode, Test, Plain, Marks, set_mark, holds, passes}
use Rattle.sre_turns.proofs.Terms.{char_at, holds_at, Frame, Instruction, spot_at, Go, BoardValue, Run, StringCursor}
use Rattle.sre_turns.proofs.Terms.{Moves, HasRun, Refuses, Demands, Continues, Advances, TestStands, HasTest}
use Rattle.sre_turns.proofs.Terms.{begins_test, same_word, word_of, word_within, past_end, read_passes, Subject}
use Rattle.sre_turns.proofs.Terms.{repeats, Word, Opcode, ◌≢◌, sym, at_low, stands_at_own, is_literal, zero, suc, ◌⊎◌}
use Rattle.sre_turns.proofs.Terms.{inl, inr, ⊎_elim, [], ◌∷◌, slice_set, slice_index_or, Option, Some, None, mark_at}
use Rattle.sre_turns.proofs.Terms.{no_marks, lengthened, Placed, ◌-◌, nat_le, subst, Fold, group, same_folded, Asks}
use Rattle.sre_turns.proofs.Terms.{reference_turn, condition_place, role, Stop, Goes, spot, reference_role, same_opcode}
use Rattle.sre_turns.proofs.Terms.{Move, Limit, Way, nat_eq, Spot, Split, Runs, turns, GoesBoth, Exhausted}
use Rattle.sre_turns.proofs.Terms.{Alternatives, earlier, to_point}
use Rattle.sre_model.specs.Tree.{Literal}
use Rattle.sre_model.specs.Grammar.{reference_opcode}
use Rattle.sre_model.specs.Roles.{ToFail, ToEnd, ToCheckPosition, ToMark, ToJump, ToRefer, ToCheckGroup, ToBranch}
use Rattle.sre_chars.specs.declared.constants.SreOpcode.TheVariants as opcode
use Rattle.sre_turns.specs.declared.Next.TheVariants as next
use Rattle.sre_turns.proofs.memoization.Asked.{longer}
use Rattle.sre_turns.proofs.bound.Faring.{next_less, test_pool, second_less, alternatives_free}
use Rattle.sre_turns.proofs.semantics.Moving.{in_role, in_test, at_instruction, at_test, run_nothing, turn_stops}
use Rattle.sre_turns.proofs.semantics.Moving.{turn_ends, turn_goes, turn_splits, arrived}
use Rattle.sre_turns.proofs.memoization.Bodies.{turn_confines, confined_leads}
use Rattle.sre_turns.proofs.semantics.AfterSteps.{run_on, nothing_after, has_run, both_run, run_second}

-- Captured positions lie in the text.

-- an entry of a list of which one was set is that one, or was there before
set_entry : (raw : List (Option ℕ)) (n k v p : ℕ) → slice_index_or (slice_set raw n (Some v)) k None ≡ Some p
    → (v ≡ p) ⊎ (slice_index_or raw k None ≡ Some p)
set_entry [] n k v p e = inr e
set_entry (x ∷ raw) zero zero v p e = inl (cc)
set_entry (x ∷ raw) zero (suc k) v p e = inr e
set_entry (x ∷ raw) (suc n) zero v p e = inr e
set_entry (x ∷ raw) (suc n) (suc k) v p e = set_entry raw n k v p e

pub none_placed : (s : Subject) → Placed s no_marks
none_placed s = record { at = λ n p e. absurd (cc) }

pub set_placed : (s : Subject) (m : Marks) (n p : ℕ) → Placed s m → p ≤ length s.text → Placed s (set_mark m n p)
set_placed s m n p h l = record { at = at }
  where
    at : (k q : ℕ) → mark_at (set_mark m n p) k ≡ Some q → q ≤ length s.text
    at k q e = ⊎_elim (λ (same : p ≡ q). omega (arith, same, l))
        (λ (old : slice_index_or (lengthened n m.raw) k None ≡ Some q). h.at k q (sym (longer n m.raw k) ∙ old))
        (set_entry (lengthened n m.raw) n k p q e)

-- FAILURE
pub failure_step : (r : Run) (i : ℕ) (c : StringCursor) (b : BoardValue) → Opcode r.words i opcode.FAILURE
    → Advances r (Instruction i) c b next.Back b
failure_step r i c b w = turn_stops r (Instruction i) c b (at_instruction opcode.FAILURE ToFail refl w refl)

-- SUCCESS
pub success_step : (r : Run) (i : ℕ) (c : StringCursor) (b : BoardValue) → Opcode r.words i opcode.SUCCESS
    → Advances r (Instruction i) c b (next.Done c) b
success_step r i c b w = turn_ends r (Instruction i) c b (at_instruction opcode.SUCCESS ToEnd refl w refl)

-- a test of one character stands where its opcode does
pub test_there : (r : Run) (i : ℕ) (c : StringCursor) (o : SreOpcode) → Opcode r.words i o → begins_test o ≡ true
    → HasRun r (Instruction i) c → HasTest r.words i
test_there r i c o w f x =
    let h = (in_test o f w x.runs).1 in
    record { end = h.end; test = h.test; stands = h.stands }

module _ (r : Run) (i : ℕ) (c : StringCursor) (b : BoardValue) (o : SreOpcode) (w : Opcode r.words i o)
    (f : begins_test o ≡ true) (j : ℕ) (t : Test) (stands : TestStands r.words i j t) where
  test_taken : (after : StringCursor) → passes r.subject t c.position ≡ true → r.stands after after.position
      → after.position ≡ c.position + 1 → Advances r (Instruction i) c b (next.At j after) b
  test_taken after taken there moved_on all limit g =
      turn_goes r (Instruction i) c b (Instruction j) after b
      (at_test o f w (record { end = j; test = t; stands = stands; is = rw (taken, moved_on) refl }))
      there g.placed refl all limit g

  test_refused : passes r.subject t c.position ≡ false → Advances r (Instruction i) c b next.Back b
  test_refused left =
      turn_stops r (Instruction i) c b
      (at_test o f w (record { end = j; test = t; stands = stands; is = rw left refl }))

-- the same, for the character that was read
pub test_read : (r : Run) (i j ch : ℕ) (o : SreOpcode) (t : Test) (c after : StringCursor)
    (b : BoardValue) (takes : Bool)
    → Opcode r.words i o → begins_test o ≡ true → TestStands r.words i j t → c.position < r.subject.end
    → ch ≡ char_at r.subject c.position → takes ≡ holds r.subject.table t ch → r.stands after (c.position + 1)
    → after.position ≡ c.position + 1 → takes ≡ true → Advances r (Instruction i) c b (next.At j after) b
test_read r i j ch o t c after b takes w f st l e h there moved_on y =
    test_taken r i c b o w f j t st after (read_passes r.subject t c.position ch takes l e h ∙ y)
    (stands_at_own r.stands after (c.position + 1) moved_on there) moved_on

pub test_unlike : (r : Run) (i j ch : ℕ) (o : SreOpcode) (t : Test) (c : StringCursor) (b : BoardValue) (takes : Bool)
    → Opcode r.words i o → begins_test o ≡ true → TestStands r.words i j t → c.position < r.subject.end
    → ch ≡ char_at r.subject c.position → takes ≡ holds r.subject.table t ch → takes ≡ false
    → Advances r (Instruction i) c b next.Back b
test_unlike r i j ch o t c b takes w f st l e h n =
    test_refused r i c b o w f j t st (read_passes r.subject t c.position ch takes l e h ∙ n)

pub test_past : (r : Run) (i : ℕ) (o : SreOpcode) (c : StringCursor) (b : BoardValue) → Opcode r.words i o
    → begins_test o ≡ true → HasTest r.words i → r.subject.end ≤ c.position → Advances r (Instruction i) c b next.Back b
test_past r i o c b w f t l = test_refused r i c b o w f t.end t.test t.stands (past_end r.subject t.test c.position l)

-- AT
pub at_there : (r : Run) (i : ℕ) (c : StringCursor) → Opcode r.words i opcode.AT → HasRun r (Instruction i) c
    → (a : SreAtCode) × Word r.words (i + 1) (at_number a)
at_there r i c w x = let h = (in_role opcode.AT ToCheckPosition refl w x.runs).1 in (h.code, h.there)

pub at_operand : (r : Run) (i : ℕ) (c : StringCursor) → Opcode r.words i opcode.AT → HasRun r (Instruction i) c
    → i + 1 < length r.words
at_operand r i c w x = let a = at_there r i c w x in word_within r.words (i + 1) (at_number a.0) a.1

-- each position code is known
pub at_known : (r : Run) (i v : ℕ) (c : StringCursor) → Opcode r.words i opcode.AT → HasRun r (Instruction i) c
    → Word r.words (i + 1) v → 12 ≤ v → ⊥
at_known r i v c w x wv l =
    let a = at_there r i c w x in
    omega (arith, at_low a.0, same_word r.words (i + 1) v (at_number a.0) wv a.1)

module _ (r : Run) (i : ℕ) (a : SreAtCode) (c : StringCursor) (b : BoardValue) (w : Opcode r.words i opcode.AT)
    (wa : Word r.words (i + 1) (at_number a)) where
  pub at_step : holds_at r.subject a c.position ≡ true → Advances r (Instruction i) c b (next.At (i + 2) c) b
  at_step y all limit g =
      turn_goes r (Instruction i) c b (Instruction (i + 2)) c b
      (at_instruction opcode.AT ToCheckPosition refl w (record { code = a; there = wa; is = rw y refl }))
      g.stands g.placed refl all limit g

  pub at_refused : holds_at r.subject a c.position ≡ false → Advances r (Instruction i) c b next.Back b
  at_refused n =
      turn_stops r (Instruction i) c b
      (at_instruction opcode.AT ToCheckPosition refl w (record { code = a; there = wa; is = rw n refl }))

-- MARK
pub mark_operand : (r : Run) (i : ℕ) (c : StringCursor) → Opcode r.words i opcode.MARK → HasRun r (Instruction i) c
    → i + 1 < length r.words
mark_operand r i c w x =
    let h = (in_role opcode.MARK ToMark refl w x.runs).1 in
    word_within r.words (i + 1) h.number h.there

mark_moves : (r : Run) (i p v : ℕ) (fs : List Frame) (m : Marks) → Opcode r.words i opcode.MARK
    → Word r.words (i + 1) v → Moves r.words r.subject (spot_at (Instruction i) fs p m)
    (Go (spot_at (Instruction (i + 2)) fs p (set_mark m v p)))
mark_moves r i p v fs m w wv =
    at_instruction opcode.MARK ToMark refl w (record { number = v; there = wv; is = refl })

pub mark_step : (r : Run) (i v p : ℕ) (c : StringCursor) (b b' : BoardValue) → Opcode r.words i opcode.MARK
    → Word r.words (i + 1) v → p ≡ c.position → c.position ≤ length r.subject.text
    → b' ≡ record b { marks = set_mark b.marks v p } → Advances r (Instruction i) c b (next.At (i + 2) c) b'
mark_step r i v p c b b' w wv same_place inside eb all limit g =
    rw (eb, same_place)
    (turn_goes r (Instruction i) c b (Instruction (i + 2)) c _ (mark_moves r i c.position v b.frames b.marks w wv)
    g.stands (set_placed r.subject b.marks v c.position g.placed inside) refl all limit g)

-- JUMP
pub jump_operand : (r : Run) (i : ℕ) (c : StringCursor) → Opcode r.words i opcode.JUMP → HasRun r (Instruction i) c
    → i + 1 < length r.words
jump_operand r i c w x = (in_role opcode.JUMP ToJump refl w x.runs).1.there

pub jump_step : (r : Run) (i v : ℕ) (c : StringCursor) (b : BoardValue) → Opcode r.words i opcode.JUMP
    → Word r.words (i + 1) v → Advances r (Instruction i) c b (next.At (i + 1 + v) c) b
jump_step r i v c b w wv all limit g =
    turn_goes r (Instruction i) c b (Instruction (i + 1 + v)) c b
    (at_instruction opcode.JUMP ToJump refl w
    (record { there = word_within r.words (i + 1) v wv; is = rw (word_of r.words (i + 1) v wv) refl }))
    g.stands g.placed refl all limit g

pub jump_continues : (r : Run) (i v : ℕ) (c : StringCursor) → Opcode r.words i opcode.JUMP → Word r.words (i + 1) v
    → r.stands c c.position → Continues r (Instruction i) c (Instruction (i + 1 + v)) c
jump_continues r i v c w wv stands = record {
  stands = stands;
  runs = λ fs m os n d. run_on (spot_at (Instruction (i + 1 + v)) fs c.position m) (moves fs m) d;
  fares = λ pl start cs fs m h. next_less r pl start cs (spot_at (Instruction i) fs c.position m)
      (spot_at (Instruction (i + 1 + v)) fs c.position m) opcode.JUMP w (omega arith) (moves fs m) h;
  confines = turn_confines r.words r.subject (Instruction i) (Instruction (i + 1 + v)) c.position c.position moves;
}
  where
    moves : (fs : List Frame) (m : Marks) → Moves r.words r.subject (spot_at (Instruction i) fs c.position m)
        (Go (spot_at (Instruction (i + 1 + v)) fs c.position m))
    moves fs m =
        at_instruction opcode.JUMP ToJump refl w
        (record { there = word_within r.words (i + 1) v wv; is = rw (word_of r.words (i + 1) v wv) refl })

-- a LITERAL that is not the character, or that stands at the range's end
pub literal_there : (ws : List ℕ) (i v : ℕ) → Opcode ws i opcode.LITERAL → Word ws (i + 1) v
    → TestStands ws i (i + 2) (Literal Plain v)
literal_there ws i v w wv = record { code = w; operands = (wv, refl) }

pub literal_operand : (r : Run) (i : ℕ) (c : StringCursor) → Opcode r.words i opcode.LITERAL
    → HasRun r (Instruction i) c → i + 1 < length r.words
literal_operand r i c w x =
    let t = test_there r i c opcode.LITERAL w refl x in
    let l = is_literal r.words i t.end t.test (record { code = opcode.LITERAL; there = w; begins = refl })
    t.stands.code t.stands.operands in
    word_within r.words (i + 1) l.1 l.3.0

refuses_test : (r : Run) (i j p : ℕ) (t : Test) (o : SreOpcode) → Opcode r.words i o → begins_test o ≡ true
    → TestStands r.words i j t → passes r.subject t p ≡ false → Refuses r i p
refuses_test r i j p t o w f st n fs m os k x =
    run_nothing (at_test o f w (record { end = j; test = t; stands = st; is = rw n refl })) x

-- what was read tells whether nothing comes of a test, or what is behind it
module _ (r : Run) (i ch : ℕ) (o : SreOpcode) (takes : Bool) (c : StringCursor) (w : Opcode r.words i o)
    (f : begins_test o ≡ true) (there : HasTest r.words i) (inside : c.position < r.subject.end)
    (read : ch ≡ char_at r.subject c.position)
    (says : (j : ℕ) (t : Test) → TestStands r.words i j t → takes ≡ holds r.subject.table t ch) where
  passes_as_read : passes r.subject there.test c.position ≡ takes
  passes_as_read =
      read_passes r.subject there.test c.position ch takes inside read (says there.end there.test there.stands)

  pub test_misses : takes ≡ false → Refuses r i c.position
  test_misses n = refuses_test r i there.end c.position there.test o w f there.stands (passes_as_read ∙ n)

  pub test_continues : (end : ℕ) (after : StringCursor) → takes ≡ true
      → ((j : ℕ) (t : Test) → TestStands r.words i j t → end ≡ j) → after.position ≡ c.position + 1
      → r.stands after after.position → Continues r (Instruction i) c (Instruction end) after
  test_continues end after y ends moved_on stands = record {
    stands = stands;
    runs = λ fs m os n d. run_on (spot_at (Instruction end) fs after.position m) (moves fs m) d;
    fares = λ pl start cs fs m h. next_less r pl start cs (spot_at (Instruction i) fs c.position m)
        (spot_at (Instruction end) fs after.position m) o w (test_pool r i c.position o (repeats fs) f) (moves fs m) h;
    confines = turn_confines r.words r.subject (Instruction i) (Instruction end) c.position after.position moves;
  }
    where
      moves : (fs : List Frame) (m : Marks) → Moves r.words r.subject (spot_at (Instruction i) fs c.position m)
          (Go (spot_at (Instruction end) fs after.position m))
      moves fs m = at_test o f w (record {
        end = there.end;
        test = there.test;
        stands = there.stands;
        is = rw (passes_as_read ∙ y, moved_on, ends there.end there.test there.stands) refl;
      })

-- a literal demands its character, and nothing comes of a mark behind which nothing comes
pub literal_demands : (r : Run) (i v : ℕ) → Opcode r.words i opcode.LITERAL → Word r.words (i + 1) v → Demands r i v
literal_demands r i v w wv p n =
    refuses_test r i (i + 2) p (Literal Plain v) opcode.LITERAL w refl (literal_there r.words i v w wv) n

pub mark_refuses : (r : Run) (i p : ℕ) → Opcode r.words i opcode.MARK → Refuses r (i + 2) p → Refuses r i p
mark_refuses r i p w none fs m os n d =
    let h = (in_role opcode.MARK ToMark refl w d).1 in
    let set = set_mark m h.number p in
    nothing_after (spot_at (Instruction (i + 2)) fs p set) (mark_moves r i p h.number fs m w h.there)
    (λ os' n' e. none fs set os' n' e) d

pub mark_run : (r : Run) (i : ℕ) (c : StringCursor) → Opcode r.words i opcode.MARK → HasRun r (Instruction i) c
    → HasRun r (Instruction (i + 2)) c
mark_run r i c w x =
    let h = (in_role opcode.MARK ToMark refl w x.runs).1 in
    let after = set_mark x.marks h.number c.position in
    has_run r (Instruction (i + 2)) c x.stands
    (run_on (spot_at (Instruction (i + 2)) x.frames c.position after)
    (mark_moves r i c.position h.number x.frames x.marks w h.there) x.runs).2

-- a character that is read, inside the range or not, and is another one than a literal's
pub other_character : (s : Subject) (v ch p : ℕ) → ch ≡ char_at s p → ch ≢ v → passes s (Literal Plain v) p ≡ false
other_character s v ch p e unlike = grind (arith, nat_tests)

-- what is asked for is told by the word that names it
same_asked : (ws : List ℕ) (k n g : ℕ) → Word ws k n → Word ws k g → Asks ws n → Asks ws g
same_asked ws k n g w v asked = subst (λ x. Asks ws x) (sym (word_of ws k n w) ∙ word_of ws k g v) asked

-- GROUPREF and its foldings
pub reference_operand : (r : Run) (fold : Fold) (i : ℕ) (c : StringCursor) → Opcode r.words i (reference_opcode fold)
    → HasRun r (Instruction i) c → i + 1 < length r.words
reference_operand r fold i c w x =
    let h = (in_role (reference_opcode fold) ToRefer (reference_role fold) w x.runs).1 in
    word_within r.words (i + 1) h.number h.there

-- which folding it is
pub reference_there : (r : Run) (i : ℕ) (c : StringCursor) (o : SreOpcode) → Opcode r.words i o → role o ≡ ToRefer
    → HasRun r (Instruction i) c
    → (fold : Fold) × (o ≡ reference_opcode fold) × Opcode r.words i (reference_opcode fold)
reference_there r i c o w e x =
    let h = (in_role o ToRefer (e) w x.runs).1 in
    (h.fold, same_opcode r.words i o (reference_opcode h.fold) w h.code, h.code)

module _ (r : Run) (fold : Fold) (i g : ℕ) (c : StringCursor) (b : BoardValue)
    (w : Opcode r.words i (reference_opcode fold)) (there : Word r.words (i + 1) g) where
  -- a turn there: that it is at a reference is known of the run that stands there
  turn_there : (all : List Way) (limit : Limit) → Goes r all limit (Instruction i) c b → (mv : Move)
      → mv ≡ reference_turn r.subject fold g (i + 2) (spot (Instruction i) c b)
      → Moves r.words r.subject (spot (Instruction i) c b) mv
  turn_there all limit k mv is =
      let h = (in_role (reference_opcode fold) ToRefer (reference_role fold) w k.runs).1 in
      at_instruction (reference_opcode fold) ToRefer (reference_role fold) w
      (record {
        fold = fold;
        number = g;
        asked = same_asked r.words (i + 1) h.number g h.there there h.asked;
        code = w;
        there = there;
        is = is;
      })

  pub reference_missing : group b.marks g ≡ None → Advances r (Instruction i) c b next.Back b
  reference_missing known all limit k =
      turn_stops r (Instruction i) c b (turn_there all limit k Stop (rw (known, reference_turn) refl)) all limit k

  module _ (x y : ℕ) (known : group b.marks g ≡ Some (x, y)) where
    -- the group is longer than what is left of the window, or the window goes on otherwise
    pub reference_past : nat_le (c.position + (y - x)) r.subject.end ≡ false
        → Advances r (Instruction i) c b next.Back b
    reference_past past all limit k =
        turn_stops r (Instruction i) c b (turn_there all limit k Stop (rw (known, past, reference_turn) refl)) all limit
        k

    pub reference_unlike : nat_le (c.position + (y - x)) r.subject.end ≡ true
        → same_folded r.subject fold (y - x) x c.position ≡ false → Advances r (Instruction i) c b next.Back b
    reference_unlike inside unlike all limit k =
        turn_stops r (Instruction i) c b
        (turn_there all limit k Stop (rw (known, inside, unlike, reference_turn) refl)) all limit k

    pub reference_step : (after : StringCursor) → nat_le (c.position + (y - x)) r.subject.end ≡ true
        → same_folded r.subject fold (y - x) x c.position ≡ true → after.position ≡ c.position + (y - x)
        → r.stands after after.position → Advances r (Instruction i) c b (next.At (i + 2) after) b
    reference_step after inside alike place stands all limit k =
        turn_goes r (Instruction i) c b (Instruction (i + 2)) after b
        (turn_there all limit k (Go (spot (Instruction (i + 2)) after b))
        (rw (known, inside, alike, place, reference_turn) refl))
        stands k.placed refl all limit k

module _ (r : Run) (i g v : ℕ) (c : StringCursor) (b : BoardValue) (w : Opcode r.words i opcode.GROUPREF_EXISTS)
    (there : Word r.words (i + 1) g) (leads : Word r.words (i + 2) v) where
  -- it goes on behind its operands, or at the other part
  condition_step : (t : ℕ) → t ≡ condition_place r.words i g b.marks → Advances r (Instruction i) c b (next.At t c) b
  condition_step t e all limit k =
      let h = (in_role opcode.GROUPREF_EXISTS ToCheckGroup refl w k.runs).1 in
      turn_goes r (Instruction i) c b (Instruction t) c b
      (at_instruction opcode.GROUPREF_EXISTS ToCheckGroup refl w (record {
        number = g;
        asked = same_asked r.words (i + 1) h.number g h.there there h.asked;
        there = there;
        skips = word_within r.words (i + 2) v leads;
        is = rw e refl;
      })) k.stands k.placed refl all limit k

  pub condition_present : (u : ℕ × ℕ) → group b.marks g ≡ Some u → Advances r (Instruction i) c b (next.At (i + 3) c) b
  condition_present u known = condition_step (i + 3) (rw (known, condition_place) refl)

  pub condition_absent : group b.marks g ≡ None → Advances r (Instruction i) c b (next.At (i + 1 + v) c) b
  condition_absent known =
      condition_step (i + 1 + v) (rw (known, word_of r.words (i + 2) v leads, condition_place) refl)

pub positive : (n : ℕ) → (n ≡ 0 → ⊥) → 0 < n
positive zero no_ = absurd (no_ refl)
positive (suc n) no_ = omega arith

-- BRANCH
pub branch_moves : (ws : List ℕ) (s : Subject) (i : ℕ) (x : Spot) → x.point ≡ Instruction i → Opcode ws i opcode.BRANCH
    → Moves ws s x (Go (to_point x (Alternatives (i + 1))))
branch_moves ws s i x e w = rw e (at_instruction opcode.BRANCH ToBranch refl w refl)

pub branch_step : (r : Run) (i : ℕ) (c : StringCursor) (b : BoardValue)
    → Opcode r.words i opcode.BRANCH → (all : List Way) (limit : Limit) → Goes r all limit (Instruction i) c b
    → (1 ≤ limit.turns) × Goes r all (earlier limit) (Alternatives (i + 1)) c b
branch_step r i c b w all limit g =
    let s = turn_goes r (Instruction i) c b (Alternatives (i + 1)) c b
    (branch_moves r.words r.subject i (spot (Instruction i) c b) refl w) g.stands g.placed refl all limit g in
    (s.0, arrived alternatives_free s.1)

pub branch_run : (r : Run) (i : ℕ) (c : StringCursor) → Opcode r.words i opcode.BRANCH → HasRun r (Instruction i) c
    → HasRun r (Alternatives (i + 1)) c
branch_run r i c w x =
    has_run r (Alternatives (i + 1)) c x.stands (run_on _ (branch_moves r.words r.subject i _ refl w) x.runs).2

-- alternatives
pub alternatives_move : (ws : List ℕ) (s : Subject) (q v : ℕ) (x : Spot) → x.point ≡ Alternatives q → Word ws q v
    → 0 < v → Moves ws s x (Split (to_point x (Instruction (q + 1))) (to_point x (Alternatives (q + v))))
alternatives_move ws s q v x e w l =
    let more : nat_eq v 0 ≡ false = grind (arith, nat_tests) in
    rw e (record { value = v; there = w; is = rw more refl })

alternatives_stop : (ws : List ℕ) (s : Subject) (q v : ℕ) (x : Spot) → x.point ≡ Alternatives q → Word ws q v → v ≡ 0
    → Moves ws s x Stop
alternatives_stop ws s q v x e w z = rw e (record { value = v; there = w; is = rw z refl })

pub alternatives_there : (r : Run) (q : ℕ) (c : StringCursor) → HasRun r (Alternatives q) c → q < length r.words
alternatives_there r q c x = go x.runs
  where
    go : {os : List Way} {n : ℕ} → Runs r.words r.subject (spot_at (Alternatives q) x.frames c.position x.marks) os n
        → q < length r.words
    go (turns mv h d) = word_within r.words q h.value h.there

pub alternatives_none : (r : Run) (q : ℕ) (c : StringCursor) (b : BoardValue) {v : ℕ} → Word r.words q v → v ≡ 0
    → Advances r (Alternatives q) c b next.Back b
alternatives_none r q c b {v} w e =
    turn_stops r (Alternatives q) c b (alternatives_stop r.words r.subject q v (spot (Alternatives q) c b) refl w e)

pub alternatives_both : (r : Run) (q v : ℕ) (c : StringCursor) (b : BoardValue) → Word r.words q v → 0 < v
    → (all : List Way) (limit : Limit) → Goes r all limit (Alternatives q) c b
    → GoesBoth r all limit (spot (Instruction (q + 1)) c b) (spot (Alternatives (q + v)) c b) c b.choices
alternatives_both r q v c b w l all limit g =
    turn_splits r (Alternatives q) c b (spot (Instruction (q + 1)) c b) (spot (Alternatives (q + v)) c b) c
    (alternatives_move r.words r.subject q v (spot (Alternatives q) c b) refl w l) g.stands refl refl all limit g

pub alternatives_run : (r : Run) (q v : ℕ) (c : StringCursor) → Word r.words q v → 0 < v → HasRun r (Alternatives q) c
    → HasRun r (Instruction (q + 1)) c × HasRun r (Alternatives (q + v)) c
alternatives_run r q v c w l x =
    both_run r (Alternatives q) (Instruction (q + 1)) (Alternatives (q + v)) c c
    (λ fs m. alternatives_move r.words r.subject q v _ refl w l) x.stands x

pub alternatives_exhausted : (r : Run) (q v p : ℕ) → Word r.words q v → v ≡ 0 → Exhausted r (Alternatives q) p
alternatives_exhausted r q v p w e fs m os n d =
    run_nothing (alternatives_stop r.words r.subject q v (spot_at (Alternatives q) fs p m) refl w e) d

-- of an alternative of which nothing comes, the others are left
pub alternatives_pass : (r : Run) (q v : ℕ) (c : StringCursor) → Word r.words q v → 0 < v
    → r.stands c c.position → Refuses r (q + 1) c.position
    → Continues r (Alternatives q) c (Alternatives (q + v)) c
alternatives_pass r q v c w l stands none = record {
  stands = stands;
  runs = λ fs m os n d.
      run_second (spot_at (Instruction (q + 1)) fs c.position m) (spot_at (Alternatives (q + v)) fs c.position m)
      (alternatives_move r.words r.subject q v (spot_at (Alternatives q) fs c.position m) refl w l)
      (λ os' n' e. none fs m os' n' e) d;
  fares = λ pl start cs fs m h.
      second_less r pl start cs (spot_at (Alternatives q) fs c.position m)
      (spot_at (Instruction (q + 1)) fs c.position m) (spot_at (Alternatives (q + v)) fs c.position m)
      alternatives_free (alternatives_move r.words r.subject q v (spot_at (Alternatives q) fs c.position m) refl w l)
      h;
  confines = λ fs h.
      (confined_leads r.words r.subject (spot_at (Alternatives q) fs c.position no_marks) _
      (alternatives_move r.words r.subject q v (spot_at (Alternatives q) fs c.position no_marks) refl w l) h).1;
}
