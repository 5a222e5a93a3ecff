-- Laws of saved alternatives with one trail and one table of chains.
use Rattle.sre_board.proofs.Terms.{◌≡◌, ℕ, ◌+◌, ◌-◌, ◌<◌, ◌≤◌, List, [], ◌∷◌, ◌++◌, length, map, reverse, take, drop}
use Rattle.sre_board.proofs.Terms.{Bool, true, inr, Option, Some, slice_index_or, refl, sym, ap, ◌∙◌, subst, arith}
use Rattle.sre_board.proofs.Terms.{length-append, length-take-le, get_or-append, get_or-append_seam, Marks, no_marks}
use Rattle.sre_board.proofs.Terms.{set_mark, Trail, states, SetsMark, choice, BoardValue, StringCursor, Frame}
use Rattle.sre_board.proofs.Terms.{choice_of, board_of, Fits, regions_of, regions_in, Saved, get_or-take}
use Rattle.sre_board.proofs.Terms.{reverse-append, SameUpTo, Else, Dropped, Instruction}
use Rattle.std.specs.Option.{option_to_list}

abbrev pub Table : Type 0
Table = List (List Frame)

-- tables that agree below a number of chains
abbrev pub Agree : Table → Table → ℕ → Type 0
Agree a b n = (i : ℕ) → i < n → slice_index_or b i [] ≡ slice_index_or a i []

-- as one does with what is left when it is cut
pub agree_cut : (t : Table) (k : ℕ) → Agree t (take (k + 1) t) (k + 1)
agree_cut t k = λ i h. get_or-take (k + 1) t i [] h

-- a longer trail and a greater table hold what smaller ones do
pub fits-more : (ss : List Saved) (n n' c c' : ℕ) → n ≤ n' → c ≤ c' → Fits ss n c → Fits ss n' c'
fits-more [] n n' c c' h k f = tt
fits-more (s ∷ ss) n n' c c' h k f = (omega (arith, f.0), omega (arith, f.1), f.2, f.3)

pub same_choices : (ss : List Saved) (t u : Table) (a b : List Marks) (n c : ℕ) → Fits ss n c → Agree t u n
    → SameUpTo a b c → map (choice_of u b) ss ≡ map (choice_of t a) ss
same_choices [] t u a b n c f g h = refl
same_choices (s ∷ ss) t u a b n c f g h =
    let one : choice_of u b s ≡ choice_of t a s = rw (g s.frame (omega (arith, f.0, f.2)), h s.changes f.1) refl in
    let rest : map (choice_of u b) ss ≡ map (choice_of t a) ss =
    same_choices ss t u a b (s.chains + 1) s.changes f.3 (λ i l. g i (omega (arith, f.0)))
    (λ i l. h i (omega (arith, f.1))) in
    rw (one, rest) refl

-- a mark is set
pub set_held : (b : BoardValue) (t t' : Trail) (chains : Table) (frame : ℕ) (saved : List Saved) (n p k : ℕ)
    → board_of t chains frame saved ≡ b → Fits (reverse saved) (length chains) k → SetsMark n p k t t'
    → board_of t' chains frame saved ≡ record b { marks = set_mark b.marks n p }
set_held b t t' chains frame saved n p k e f s =
    let same = same_choices (reverse saved) chains chains (states t) (states t') (length chains) k f (λ i l. refl)
    s.before in
    rw (same, s.now, ← e) refl

-- a loop begins
pub enter_held : (b : BoardValue) (t : Trail) (chains chains' : Table) (frame frame' : ℕ) (saved : List Saved)
    (f : Frame)
    → board_of t chains frame saved ≡ b → Fits (reverse saved) (length chains) (length t.past)
    → chains' ≡ chains ++ (f ∷ slice_index_or chains frame []) ∷ [] → frame' ≡ length chains
    → board_of t chains' frame' saved ≡ record b { frames = f ∷ b.frames }
enter_held b t chains chains' frame frame' saved f e fit ec ef =
    let more : Table = chains ++ (f ∷ slice_index_or chains frame []) ∷ [] in
    let same = same_choices (reverse saved) chains more (states t) (states t) (length chains) (length t.past) fit
    (λ i h. get_or-append chains ((f ∷ slice_index_or chains frame []) ∷ []) [] i h) (λ i h. refl) in
    let new : slice_index_or more (length chains) [] ≡ f ∷ slice_index_or chains frame [] =
    get_or-append_seam chains (f ∷ slice_index_or chains frame []) [] [] in
    rw (ec, ef, ← e, same, new) refl

pub pushed_in : (t t' : Table) (x : List Frame) (id : ℕ) → id ≡ length t → t' ≡ t ++ x ∷ [] → id < length t'
pushed_in t t' x id e f = omega (arith, e, ap (λ (y : Table). length y) f, length-append t (x ∷ []))

-- a loop is left, and the later chains are forgotten
pub forget_held : (b : BoardValue) (t : Trail) (chains chains' : Table) (frame parent keep : ℕ) (saved : List Saved)
    (f : Frame)
    → board_of t chains frame saved ≡ b → slice_index_or chains frame [] ≡ f ∷ slice_index_or chains parent []
    → parent ≤ keep → chains' ≡ take (keep + 1) chains → Fits (reverse saved) (keep + 1) (length t.past)
    → board_of t chains' parent saved ≡ record b { frames = drop 1 b.frames }
forget_held b t chains chains' frame parent keep saved f e n l ec fit =
    let same = same_choices (reverse saved) chains (take (keep + 1) chains) (states t) (states t) (keep + 1)
    (length t.past) fit (agree_cut chains keep) (λ i h. refl) in
    rw (ec, ← e, same, agree_cut chains keep parent (omega arith), n) refl

reversed : (old new : List Saved) (s : Saved) → old ≡ new ++ s ∷ [] → reverse old ≡ s ∷ reverse new
reversed old new s e = ap (λ (x : List Saved). reverse x) e ∙ reverse-append new (s ∷ [])

-- the newest choice is within the trail and the table
fits_newest : (old new : List Saved) (s : Saved) (n c : ℕ) → old ≡ new ++ s ∷ [] → Fits (reverse old) n c
    → Fits (s ∷ reverse new) n c
fits_newest old new s n c e f = subst (λ (x : List Saved). Fits x n c) (reversed old new s e) f

length-back : (t t' : Trail) (k : ℕ) → k ≤ length t.past → states t' ≡ take (k + 1) (states t) → length t'.past ≡ k
length-back t t' k h e = omega (
  arith,
  length-append t.past (t.now ∷ []),
  length-append t'.past (t'.now ∷ []),
  ap (λ (x : List Marks). length x) e,
  length-take-le (k + 1) (states t),
)

-- the newest choice is taken
pub back_held : (b : BoardValue) (t t' : Trail) (chains chains' : Table) (frame : ℕ) (old new : List Saved) (s : Saved)
    → board_of t chains frame old ≡ b → Fits (reverse old) (length chains) (length t.past) → old ≡ new ++ s ∷ []
    → states t' ≡ take (s.changes + 1) (states t) → chains' ≡ take (s.chains + 1) chains
    → b.choices
    ≡ choice s.point (slice_index_or chains' s.frame []) s.cursor t'.now ∷ (board_of t' chains' s.frame new).choices
back_held b t t' chains chains' frame old new s e f eo et ec =
    let fits = fits_newest old new s (length chains) (length t.past) eo f in
    let same : SameUpTo (states t) (states t') s.changes =
    λ i h. ap (λ (x : List Marks). slice_index_or x i no_marks) et
    ∙ get_or-take (s.changes + 1) (states t) i no_marks (omega arith) in
    let now : slice_index_or (states t) s.changes no_marks ≡ t'.now =
    sym (same s.changes (omega arith))
    ∙ ap (λ i. slice_index_or (states t') i no_marks) (sym (length-back t t' s.changes fits.1 et))
    ∙ get_or-append_seam t'.past t'.now [] no_marks in
    let frames : slice_index_or (take (s.chains + 1) chains) s.frame [] ≡ slice_index_or chains s.frame [] =
    agree_cut chains s.chains s.frame (omega (arith, fits.2)) in
    let was : map (choice_of chains (states t)) (reverse old) ≡ b.choices = ap (λ (x : BoardValue). x.choices) e in
    sym was ∙ rw (
      ec,
      reversed old new s eo,
      frames,
      now,
      same_choices (reverse new) chains (take (s.chains + 1) chains) (states t) (states t') (s.chains + 1) s.changes
          fits.3 (agree_cut chains s.chains) same,
    ) refl

-- the newest choice goes, which is to go on with the loops as they are now, and with the marks where these matter
pub dropped_held : (b b' : BoardValue) (t : Trail) (chains : Table) (frame place : ℕ) (cursor : StringCursor)
    (matter : Bool) (old new : List Saved) (s : Saved)
    → board_of t chains frame old ≡ b → board_of t chains frame new ≡ b' → old ≡ new ++ s ∷ []
    → s.point ≡ Instruction place → s.cursor ≡ cursor → s.frame ≡ frame → (matter ≡ true → s.changes ≡ length t.past)
    → Dropped place cursor matter b b'
dropped_held b b' t chains frame place cursor matter old new s e e' eo point at loops marks =
    let m : Marks = slice_index_or (states t) s.changes no_marks in
    let one : choice_of chains (states t) s ≡ Else (Instruction place) (slice_index_or chains frame []) cursor m =
    rw (point, at, loops) refl in
    let now : matter ≡ true → m ≡ b'.marks =
    λ h. ap (λ i. slice_index_or (states t) i no_marks) (marks h) ∙ get_or-append_seam t.past t.now [] no_marks
    ∙ ap (λ (x : BoardValue). x.marks) e' in
    inr (m, now, rw (← e, ← e', reversed old new s eo, one) refl)

-- what was taken off a list is its last item
pub last_off : (old new : List Saved) (taken : Option Saved) (s : Saved) (m n : ℕ) → old ≡ new ++ option_to_list taken
    → ((d : Saved) → 0 < n → taken ≡ Some (slice_index_or old (n - 1) d)) → s ≡ slice_index_or old (m - 1) s → m ≡ n
    → 0 < n → old ≡ new ++ s ∷ []
last_off old new taken s m n e value is same some =
    let here : s ≡ slice_index_or old (n - 1) s = rw same at is in
    let found : taken ≡ Some s = value s some ∙ ap (λ x. Some x) (sym here) in
    e ∙ rw found refl

-- the choices that are left fit, and have no region less
pub dropped_fits : (old new : List Saved) (s : Saved) (place : ℕ) (n changes : ℕ) → old ≡ new ++ s ∷ []
    → s.point ≡ Instruction place → Fits (reverse old) n changes
    → Fits (reverse new) n changes × (regions_in (reverse old) ≡ regions_in (reverse new))
dropped_fits old new s place n changes e point f =
    let fits = fits_newest old new s n changes e f in (
      fits-more (reverse new) (s.chains + 1) n s.changes changes (omega (arith, fits.0)) fits.1 fits.3,
      omega (arith, ap (λ ss. regions_in ss) (reversed old new s e), ap (λ pt. regions_of pt) point),
    )
