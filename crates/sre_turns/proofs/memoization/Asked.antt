-- Equivalent captures stay so, and say the same of a group.
use Rattle.sre_turns.proofs.Terms.{◌≡◌, ℕ, zero, suc, ◌+◌, ◌-◌, ◌*◌, ◌<◌, ◌≤◌, List, [], ◌∷◌, ◌++◌, length, replicate}
use Rattle.sre_turns.proofs.Terms.{cond, slice_set, slice_index_or, Option, Some, None, refl, sym, ap, ◌∙◌, arith}
use Rattle.sre_turns.proofs.Terms.{nat_le, ◌⊎◌, inl, inr, Marks, lengthened, set_mark, mark_at, group, Way, SameStops}
use Rattle.sre_turns.proofs.Terms.{HasReference, Asks, MarksAgree, AskedMark, MarksAlike, OutcomesAlike, length-append}
use Rattle.sre_turns.proofs.Terms.{length-replicate, Unmarked}

-- one entry of a list
abbrev entry : List (Option ℕ) → ℕ → Option ℕ
entry raw k = slice_index_or raw k None

-- where an entry is the same in two lists, it is still where one is set in both
set_in_both : (xs ys : List (Option ℕ)) (n k v : ℕ) → n < length xs → n < length ys → entry xs k ≡ entry ys k
    → entry (slice_set xs n (Some v)) k ≡ entry (slice_set ys n (Some v)) k
set_in_both [] ys n k v l l' h = absurd (omega (arith, l))
set_in_both (x ∷ xs) [] n k v l l' h = absurd (omega (arith, l'))
set_in_both (x ∷ xs) (y ∷ ys) zero zero v l l' h = refl
set_in_both (x ∷ xs) (y ∷ ys) zero (suc k) v l l' h = h
set_in_both (x ∷ xs) (y ∷ ys) (suc n) zero v l l' h = h
set_in_both (x ∷ xs) (y ∷ ys) (suc n) (suc k) v l l' h =
    set_in_both xs ys n k v (omega (arith, l)) (omega (arith, l')) h

-- the entry that is set
set_here : (xs : List (Option ℕ)) (n v : ℕ) → n < length xs → entry (slice_set xs n (Some v)) n ≡ Some v
set_here [] n v l = absurd (omega (arith, l))
set_here (x ∷ xs) zero v l = refl
set_here (x ∷ xs) (suc n) v l = set_here xs n v (omega (arith, l))

abbrev absent : ℕ → List (Option ℕ)
absent more = replicate more None

none_entry : (more k : ℕ) → entry (absent more) k ≡ None
none_entry zero k = refl
none_entry (suc more) zero = refl
none_entry (suc more) (suc k) = none_entry more k

-- a list that is lengthened with absent entries has the same
longer_entry : (raw : List (Option ℕ)) (more k : ℕ)
    → entry (raw ++ absent more) k ≡ entry raw k
longer_entry [] more k = none_entry more k
longer_entry (x ∷ raw) more zero = refl
longer_entry (x ∷ raw) more (suc k) = longer_entry raw more k

long_enough : (n : ℕ) (raw : List (Option ℕ)) → n < length (lengthened n raw)
long_enough n raw =
    let more : ℕ = n + 1 - length raw in
    let all : length (raw ++ absent more) ≡ length raw + more =
    length-append raw (absent more) ∙ ap (λ k. length raw + k) (length-replicate more None) in
    omega (arith, all)

pub longer : (n : ℕ) (raw : List (Option ℕ)) (k : ℕ) → entry (lengthened n raw) k ≡ entry raw k
longer n raw k = longer_entry raw (n + 1 - length raw) k

-- a group by its two marks
abbrev of_marks : Option ℕ → Option ℕ → Option (ℕ × ℕ)
of_marks start end = elim start [
  | None ↦ None
  | (Some x) ↦ elim end [ None ↦ None | (Some y) ↦ cond (nat_le x y) (Some (x, y)) None ]
]

same_group : (a b c d : Option ℕ) → a ≡ b → c ≡ d → of_marks a c ≡ of_marks b d
same_group a b c d e f = rw (e, f) refl

-- a mark that is the same in both stays so where one is set to one position
mark_in_both : (m o : Marks) (n p k : ℕ) → mark_at m k ≡ mark_at o k
    → mark_at (set_mark m n p) k ≡ mark_at (set_mark o n p) k
mark_in_both m o n p k h =
    set_in_both (lengthened n m.raw) (lengthened n o.raw) n k p (long_enough n m.raw) (long_enough n o.raw)
    (longer n m.raw k ∙ h ∙ sym (longer n o.raw k))

-- and that mark is the same then, whatever it was
mark_set_in_both : (m o : Marks) (n p : ℕ) → mark_at (set_mark m n p) n ≡ mark_at (set_mark o n p) n
mark_set_in_both m o n p =
    set_here (lengthened n m.raw) n p (long_enough n m.raw)
    ∙ sym (set_here (lengthened n o.raw) n p (long_enough n o.raw))

-- behind its end a list has no marks
past_end : (raw : List (Option ℕ)) (k : ℕ) → length raw ≤ k → entry raw k ≡ None
past_end [] k l = refl
past_end (x ∷ raw) zero l = absurd (omega (arith, l))
past_end (x ∷ raw) (suc k) l = past_end raw k (omega (arith, l))

-- marks of which fewer matter
pub agree_less : (matters less : ℕ → Type 0) (m n : Marks) → ((k : ℕ) → less k → matters k) → MarksAgree matters m n
    → MarksAgree less m n
agree_less matters less m n fewer h = λ k x. h k (fewer k x)

-- where one is set in both, that one may matter, too
pub agree_set : (matters more : ℕ → Type 0) (m o : Marks) (n p : ℕ) → ((k : ℕ) → more k → matters k ⊎ (k ≡ n))
    → MarksAgree matters m o → MarksAgree more (set_mark m n p) (set_mark o n p)
agree_set matters more m o n p fewer h k x = go (fewer k x)
  where
    go : matters k ⊎ (k ≡ n) → mark_at (set_mark m n p) k ≡ mark_at (set_mark o n p) k
    go (inl y) = mark_in_both m o n p k (h k y)
    go (inr e) = rw e (mark_set_in_both m o n p)

-- marks that agree with the same ones
pub both_agree : (matters : ℕ → Type 0) (l m n : Marks) → MarksAgree matters l m → MarksAgree matters l n
    → MarksAgree matters m n
both_agree matters l m n h e = λ k x. sym (h k x) ∙ e k x

-- so a group is the same in both, where its marks matter
pub group_agrees : (matters : ℕ → Type 0) (m n : Marks) (g : ℕ) → matters (2 * g) → matters (2 * g + 1)
    → MarksAgree matters m n → group m g ≡ group n g
group_agrees matters m n g start end h =
    same_group (mark_at m (2 * g)) (mark_at n (2 * g)) (mark_at m (2 * g + 1)) (mark_at n (2 * g + 1))
    (h (2 * g) start) (h (2 * g + 1) end)

module _ (matters : ℕ → Type 0) where
  pub outcomes_appended : (xs ys us vs : List Way) → OutcomesAlike matters xs ys → OutcomesAlike matters us vs
      → OutcomesAlike matters (xs ++ us) (ys ++ vs)
  outcomes_appended [] [] us vs h k = k
  outcomes_appended (x ∷ xs) (y ∷ ys) us vs h k = (h.0, h.1, outcomes_appended xs ys us vs h.2 k)
  outcomes_appended xs ys us vs h k = absurd h

  pub stops_of : (xs ys : List Way) → OutcomesAlike matters xs ys → SameStops xs ys
  stops_of [] [] h = tt
  stops_of (x ∷ xs) (y ∷ ys) h = (h.0, stops_of xs ys h.2)
  stops_of xs ys h = absurd h

module _ (ws : List ℕ) where
  -- the marks of a group that is asked for
  pub start_asked : (g : ℕ) → Asks ws g → AskedMark ws (2 * g)
  start_asked g asked = record { group = g; asked = asked; of = inl refl }

  pub end_asked : (g : ℕ) → Asks ws g → AskedMark ws (2 * g + 1)
  end_asked g asked = record { group = g; asked = asked; of = inr refl }

  -- a mark of a group that is asked for lies where those of all such groups do
  asked_between : (k least most : ℕ) → ((g : ℕ) → Asks ws g → least ≤ g) → ((g : ℕ) → Asks ws g → 2 * g + 1 < most)
      → AskedMark ws k → (2 * least ≤ k) × (k < most)
  asked_between k least most from to x =
      let far : least ≤ x.group = from x.group x.asked in
      let few : 2 * x.group + 1 < most = to x.group x.asked in
      (omega (arith, far, x.of), omega (arith, few, x.of))

  -- where the words have no reference all marks are alike
  pub apart_alike : (HasReference ws → ⊥) → (m n : Marks) → MarksAlike ws m n
  apart_alike none m n = λ k x. absurd (none x.asked.0.0)

  -- marks that end before those of the first group that is asked for
  pub few_unmarked : (m : Marks) (least : ℕ) → ((g : ℕ) → Asks ws g → least ≤ g) → length m.raw ≤ 2 * least
      → Unmarked ws m
  few_unmarked m least from l = λ k x. sym (past_end m.raw k (behind k x))
    where
      behind : (k : ℕ) → AskedMark ws k → length m.raw ≤ k
      behind k x = omega (arith, from x.group x.asked, l, x.of)

  -- marks that are the same from the first group that is asked for up to the last
  pub from_alike : (m n : Marks) (least most : ℕ) → ((g : ℕ) → Asks ws g → least ≤ g)
      → ((g : ℕ) → Asks ws g → 2 * g + 1 < most)
      → ((k : ℕ) → 2 * least ≤ k → k < most → mark_at m k ≡ mark_at n k) → MarksAlike ws m n
  from_alike m n least most from to same = λ k x.
      let between = asked_between k least most from to x in same k between.0 between.1
