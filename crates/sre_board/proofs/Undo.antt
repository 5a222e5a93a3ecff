-- Laws of the trail: undoing a change restores what was there before.
use Rattle.sre_board.proofs.Terms.{◌≡◌, ℕ, zero, suc, ◌+◌, ◌-◌, ◌<◌, List, [], ◌∷◌, ◌++◌, length, Option, Some, None}
use Rattle.sre_board.proofs.Terms.{slice_set, slice_index_or, refl, sym, ap, ◌∙◌, arith, get_or-append, set-get_or}
use Rattle.sre_board.proofs.Terms.{set-set, append-nil, Marks, no_marks, lengthened, set_mark, mark_at, Trail, states}
use Rattle.sre_board.proofs.Terms.{SetsMark, undo, undone, past_of, trail_of}
use Rattle.sre_board.specs.declared.marks.Change.{Change}

-- an entry that was there gets back what it had
pub back_inside : (n : ℕ) (raw : List (Option ℕ)) (value former : Option ℕ) → n < length raw
    → former ≡ slice_index_or raw n None → slice_set (slice_set (lengthened n raw) n value) n former ≡ raw
back_inside n raw value former h e =
    let none : n + 1 - length raw ≡ 0 = omega arith in
    rw (e, none, append-nil) (set-set raw n value (slice_index_or raw n None) ∙ set-get_or raw n None)

undone-push : (cs : List Change) (c : Change) (m : Marks) → undone (cs ++ c ∷ []) m ≡ undone cs (undo c m)
undone-push [] c m = refl
undone-push (d ∷ cs) c m = ap (undo d) (undone-push cs c m)

-- the marks before one more change
pub past-push : (cs : List Change) (c : Change) (m : Marks)
    → past_of (cs ++ c ∷ []) m ≡ past_of cs (undo c m) ++ undo c m ∷ []
past-push [] c m = refl
past-push (d ∷ cs) c m = rw (undone-push cs c m) (ap (λ l. undo d (undone cs (undo c m)) ∷ l) (past-push cs c m))

pub length-past : (cs : List Change) (m : Marks) → length (past_of cs m) ≡ length cs
length-past [] m = refl
length-past (c ∷ cs) m = ap suc (length-past cs m)

-- how many changes there are, by the trail's value
pub length-of : (t : Trail) (cs : List Change) (m : Marks) → trail_of cs m ≡ t → length t.past ≡ length cs
length-of t cs m e = ap (λ (x : Trail). length x.past) (sym e) ∙ length-past cs m

-- a mark is set
pub set_law : (t : Trail) (cs cs' : List Change) (m m' : Marks) (c : Change) (n p : ℕ) → trail_of cs m ≡ t
    → cs' ≡ cs ++ c ∷ [] → ((q : ℕ) → undo c (set_mark m n q) ≡ m) → m' ≡ set_mark m n p
    → trail_of cs' m' ≡ record { past = states t; now = set_mark t.now n p }
set_law t cs cs' m m' c n p e ec back em = rw (ec, em, past-push cs c (set_mark m n p), back p, ← e) refl

-- the newest change is taken back
pub undo_law : (t : Trail) (cs cs' : List Change) (m m' : Marks) (c : Change) → trail_of cs m ≡ t → cs ≡ cs' ++ c ∷ []
    → m' ≡ undo c m → states (trail_of cs' m') ≡ t.past
undo_law t cs cs' m m' c e ec em =
    rw em (sym (past-push cs' c m) ∙ ap (λ l. past_of l m) (sym ec) ∙ ap (λ (x : Trail). x.past) e)

-- a mark that is set is on the list
there : (raw : List (Option ℕ)) (n p : ℕ) → slice_index_or raw n None ≡ Some p → n < length raw
there [] n p e = absurd (cc)
there (x ∷ raw) zero p e = omega arith
there (x ∷ raw) (suc n) p e = omega (arith, there raw n p e)

-- where a mark stands already the list stays
raw_stays : (m : Marks) (n p : ℕ) → mark_at m n ≡ Some p → (set_mark m n p).raw ≡ m.raw
raw_stays m n p e =
    let within : n < length m.raw = there m.raw n p e in
    let none : n + 1 - length m.raw ≡ 0 = omega arith in
    rw (none, append-nil, ← e) (set-get_or m.raw n None)

-- what is taken back does not depend on the last index
undone_same : (c : Change) (cs : List Change) (m n : Marks) → n.raw ≡ m.raw → undone (c ∷ cs) n ≡ undone (c ∷ cs) m
undone_same c [] m n e = rw e refl
undone_same c (d ∷ cs) m n e = ap (undo c) (undone_same d cs m n e)

past_same : (cs : List Change) (m n : Marks) → n.raw ≡ m.raw → past_of cs n ≡ past_of cs m
past_same [] m n e = refl
past_same (c ∷ cs) m n e = rw (undone_same c cs m n e, past_same cs m n e) refl

-- where a mark stands already, nothing changes but the last index
pub set_odd : (t : Trail) (cs : List Change) (m m' : Marks) (n p k : ℕ) → trail_of cs m ≡ t → mark_at m n ≡ Some p
    → k < length t.past → m' ≡ set_mark m n p → SetsMark n p k t (trail_of cs m')
set_odd t cs m m' n p k e stands l em =
    let same : past_of cs m' ≡ past_of cs m =
    past_same cs m m' (ap (λ (x : Marks). x.raw) em ∙ raw_stays m n p stands) in
    rw (← e) (record {
      now = em;
      before = λ i h.
          let few : i < length (past_of cs m) = omega (arith, ap (λ (x : Trail). length x.past) e) in
          ap (λ xs. slice_index_or (xs ++ m' ∷ []) i no_marks) same
          ∙ get_or-append (past_of cs m) (m' ∷ []) no_marks i few
          ∙ sym (get_or-append (past_of cs m) (m ∷ []) no_marks i few);
    })
