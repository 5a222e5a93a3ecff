-- What a tree's prefix says of its match paths, and what a search along its positions comes to.
use Rattle.sre_engine.proofs.Terms.{◌≡◌, ◌≤◌, ◌<◌, ◌+◌, ◌-◌, ◌*◌, ◌&&◌, ℕ, zero, suc, List, [], ◌∷◌, Bool, true, false}
use Rattle.sre_engine.proofs.Terms.{cond, length, slice_index, nat_lt, nat_eq, refl, sym, ap, ◌∙◌, subst, arith}
use Rattle.sre_engine.proofs.Terms.{and_parts, nat_tests, Tree, Then, Plain, Marks, set_mark, Subject, char_at, passes}
use Rattle.sre_engine.proofs.Terms.{Way, here, ways, Reads, NoWay, spells, behind_items, stands_at, how_many, EachFar}
use Rattle.sre_engine.proofs.Terms.{Fits, Stands, flat_map, append-nil, each-cond, Far, on-far, shorter, ways-far, ◌||◌}
use Rattle.sre_engine.proofs.Terms.{not, Option, Some, None, StringCursor, Empty, is_anchored, no_marks, width, Whole}
use Rattle.sre_engine.proofs.Terms.{Asked, Match, subject_of, is_accepted, at_start, found, Decides, outcomes, Run}
use Rattle.sre_engine.proofs.Terms.{is_empty, words_of, Code, none-found, IsPrefix, NoPlace, NoneBetween, filter}
use Rattle.sre_engine.proofs.Terms.{first_accepted, narrow_none}
use Rattle.sre_model.specs.Tree.{One, Mark, At, Literal}
use Rattle.sre_engine.proofs.LeadingStarts.{NoneBefore, none_joined}

-- Each match path of a tree begins with its prefix.

-- a mark is none of the first literals
marked_never : (k : ℕ) (b : Bool) → (nat_eq (suc k) 0 && b) ≡ true → ⊥
marked_never k b e =
    let y = (and_parts (nat_eq (suc k) 0) b e).0 in
    let z : suc k ≡ 0 = grind (arith, nat_tests) in
    omega (arith, z)

module _ (s : Subject) where
  -- where the words do not stand there is no way
  pub spelled_none : (k : ℕ) (t : Tree) (vs : List ℕ) (p : ℕ) → spells k t vs ≡ true → stands_at s vs p ≡ false
      → NoWay s t p
  spelled_none k t [] p e none = absurd (cc)
  spelled_none k (Then (One (Literal Plain u)) rest) (v ∷ vs) p e none =
      let parts = and_parts (nat_eq u v) (spells (k - 1) rest vs) e in
      by_test (passes s (Literal Plain u) p) refl (spelled_none (k - 1) rest vs (p + 1) parts.1)
    where
      same : u ≡ v
      same = let is = (and_parts (nat_eq u v) (spells (k - 1) rest vs) e).0 in grind (arith, nat_tests)

      by_test : (b : Bool) → passes s (Literal Plain u) p ≡ b
          → (stands_at s vs (p + 1) ≡ false → NoWay s rest (p + 1)) → NoWay s (Then (One (Literal Plain u)) rest) p
      by_test true y ih =
          let there : passes s (Literal Plain v) p ≡ true = subst (λ w. passes s (Literal Plain w) p ≡ true) same y in
          let later : stands_at s vs (p + 1) ≡ false = rw there at none in
          record { none = λ m. rw (y, (ih later).none m) refl }
      by_test false n ih = record { none = λ m. rw n refl }
  spelled_none k (Then (Mark n) rest) (v ∷ vs) p e none =
      let parts = and_parts (nat_eq k 0) (spells k rest (v ∷ vs)) e in
      let ih = spelled_none k rest (v ∷ vs) p parts.1 none in
      record { none = λ m. rw (ih.none (set_mark m n p)) refl }
  spelled_none k t (v ∷ vs) p e none = absurd (cc)

  -- each way is at least as long
  pub spelled_far : (k : ℕ) (t : Tree) (vs : List ℕ) (p : ℕ) (m : Marks) → spells k t vs ≡ true
      → EachFar (length vs) p (ways s t p m)
  spelled_far k t [] p m e = shorter s _ 0 p (omega arith) (ways s t p m) (ways-far s t p m)
  spelled_far k (Then (One (Literal Plain u)) rest) (v ∷ vs) p m e =
      let parts = and_parts (nat_eq u v) (spells (k - 1) rest vs) e in
      let one : List Way = cond (passes s (Literal Plain u) p) (here (p + 1) m) [] in
      shorter s (1 + length vs) (suc (length vs)) p (omega arith) (flat_map (λ w. ways s rest w.stop w.marks) one)
      (on-far s 1 (length vs) p (λ w. ways s rest w.stop w.marks)
      (λ w. spelled_far (k - 1) rest vs w.stop w.marks parts.1) one
      (each-cond (Far 1 p) (passes s (Literal Plain u) p) (here (p + 1) m) [] (λ _. (omega arith, tt)) (λ _. tt)))
  spelled_far k (Then (Mark n) rest) (v ∷ vs) p m e =
      let parts = and_parts (nat_eq k 0) (spells k rest (v ∷ vs)) e in
      let one : List Way = here p (set_mark m n p) in
      shorter s (0 + suc (length vs)) (suc (length vs)) p (omega arith)
      (flat_map (λ w. ways s rest w.stop w.marks) one)
      (on-far s 0 (suc (length vs)) p (λ w. ways s rest w.stop w.marks)
      (λ w. spelled_far k rest (v ∷ vs) w.stop w.marks parts.1) one (omega arith, tt))
  spelled_far k t (v ∷ vs) p m e = absurd (cc)

  -- where they stand the ways are those behind the first literals
  pub spelled_ways : (k : ℕ) (t : Tree) (vs : List ℕ) (p : ℕ) (m : Marks) → spells k t vs ≡ true → k ≤ length vs
      → stands_at s vs p ≡ true → ways s t p m ≡ ways s (behind_items k t) (p + k) m
  spelled_ways zero t vs p m e l stands =
      let at : p ≡ p + 0 = omega arith in ap (λ q. ways s t q m) at
  spelled_ways (suc k) t [] p m e l stands = absurd (omega (arith, l))
  spelled_ways (suc k) (Then (One (Literal Plain u)) rest) (v ∷ vs) p m e l stands =
      let parts = and_parts (nat_eq u v) (spells (suc k - 1) rest vs) e in
      let less : suc k - 1 ≡ k = omega arith in
      let on : spells k rest vs ≡ true = subst (λ n. spells n rest vs ≡ true) less parts.1 in
      let is = parts.0 in
      let same : v ≡ u = grind (arith, nat_tests) in
      let there = and_parts (passes s (Literal Plain v) p) (stands_at s vs (p + 1)) stands in
      let taken : passes s (Literal Plain u) p ≡ true =
      subst (λ w. passes s (Literal Plain w) p ≡ true) same there.0 in
      let ih = spelled_ways k rest vs (p + 1) m on (omega (arith, l)) there.1 in
      let at : p + 1 + k ≡ p + suc k = omega arith in
      rw taken (append-nil (ways s rest (p + 1) m) ∙ ih ∙ ap (λ q. ways s (behind_items k rest) q m) at)
  spelled_ways (suc k) (Then (Mark n) rest) (v ∷ vs) p m e l stands =
      absurd (marked_never k (spells (suc k) rest (v ∷ vs)) e)
  spelled_ways (suc k) t (v ∷ vs) p m e l stands = let never : false ≡ true = e in absurd (cc never)

  -- where characters are words they stand
  pub stand_fit : (vs : List ℕ) (p : ℕ) → p + length vs ≤ s.end → Fits s.text vs p (length vs)
      → stands_at s vs p ≡ true
  stand_fit [] p inside fits = refl
  stand_fit (v ∷ vs) p inside fits =
      let here : p + 0 ≡ p = omega arith in
      let first : char_at s p ≡ v = ap (slice_index s.text) (sym here) ∙ fits.same 0 (omega arith) in
      let taken : passes s (Literal Plain v) p ≡ true =
      let le : p < s.end = omega (arith, inside) in
      let y : nat_lt p s.end ≡ true = grind (arith, nat_tests) in
      let z : nat_eq v (char_at s p) ≡ true = grind (arith, nat_tests) in
      rw (y, z) refl in
      rw taken
      (stand_fit vs (p + 1) (omega (arith, inside)) (record {
        same = λ i less.
            let at : p + 1 + i ≡ p + suc i = omega arith in
            ap (slice_index s.text) at ∙ fits.same (suc i) (omega (arith, less));
      }))

  -- and the other way round
  one_more : (v : ℕ) (vs : List ℕ) (p : ℕ) → passes s (Literal Plain v) p ≡ true
      → Fits s.text vs (p + 1) (length vs) → Fits s.text (v ∷ vs) p (length (v ∷ vs))
  one_more v vs p here fits = record { same = by_place }
    where
      first : slice_index s.text (p + 0) ≡ v
      first =
          let e = (and_parts (nat_lt p s.end) (nat_eq v (char_at s p)) here).1 in
          let at : p + 0 ≡ p = omega arith in
          let is : char_at s p ≡ v = grind (arith, nat_tests) in
          ap (slice_index s.text) at ∙ is

      by_place : (i : ℕ) → i < length (v ∷ vs) → slice_index s.text (p + i) ≡ slice_index (v ∷ vs) i
      by_place zero less = first
      by_place (suc i) less =
          let at : p + suc i ≡ p + 1 + i = omega arith in
          ap (slice_index s.text) at ∙ fits.same i (omega (arith, less))

  stand_inside : (v p : ℕ) → passes s (Literal Plain v) p ≡ true → p < s.end
  stand_inside v p here =
      let e = (and_parts (nat_lt p s.end) (nat_eq v (char_at s p)) here).0 in grind (arith, nat_tests)

  fit_stand : (vs : List ℕ) (p : ℕ) → p ≤ s.end → stands_at s vs p ≡ true → Stands s.text vs s.end p
  fit_stand [] p inside stands =
      record { within = omega (arith, inside); fits = record { same = λ i less. absurd (omega (arith, less)) } }
  fit_stand (v ∷ vs) p inside stands =
      let there = and_parts (passes s (Literal Plain v) p) (stands_at s vs (p + 1)) stands in
      let ih = fit_stand vs (p + 1) (omega (arith, stand_inside v p there.0)) there.1 in
      record { within = omega (arith, ih.within); fits = one_more v vs p there.0 ih.fits }

  pub stand_parts : (vs : List ℕ) (p : ℕ) → 0 < length vs → stands_at s vs p ≡ true → Stands s.text vs s.end p
  stand_parts [] p some e = absurd (omega (arith, some))
  stand_parts (v ∷ vs) p some e =
      let here = (and_parts (passes s (Literal Plain v) p) (stands_at s vs (p + 1)) e).0 in
      fit_stand (v ∷ vs) p (omega (arith, stand_inside v p here)) e

-- the words behind the first literals
pub reads_behind : (ws : List ℕ) (k : ℕ) (t : Tree) (vs : List ℕ) (i j : ℕ) → spells k t vs ≡ true → k ≤ length vs
    → Reads ws i j t → Reads ws (i + 2 * k) j (behind_items k t)
reads_behind ws zero t vs i j e l r =
    let at : i ≡ i + 2 * 0 = omega arith in subst (λ n. Reads ws n j t) at r
reads_behind ws (suc k) t [] i j e l r = absurd (omega (arith, l))
reads_behind ws (suc k) (Then (One (Literal Plain u)) rest) (v ∷ vs) i j e l r =
    let parts = and_parts (nat_eq u v) (spells (suc k - 1) rest vs) e in
    let less : suc k - 1 ≡ k = omega arith in
    let on : spells k rest vs ≡ true = subst (λ n. spells n rest vs ≡ true) less parts.1 in
    let at : r.0 + 2 * k ≡ i + 2 * suc k = omega (arith, r.1.1.1) in
    subst (λ n. Reads ws n j (behind_items k rest)) at
    (reads_behind ws k rest vs r.0 j on (omega (arith, l)) r.2)
reads_behind ws (suc k) (Then (Mark n) rest) (v ∷ vs) i j e l r =
    absurd (marked_never k (spells (suc k) rest (v ∷ vs)) e)
reads_behind ws (suc k) t (v ∷ vs) i j e l r = let never : false ≡ true = e in absurd (cc never)

-- counting
module _ (test : ℕ → Bool) (a : ℕ) where
  -- two stretches, one behind the other
  pub how_many_add : (n k : ℕ) → how_many test a (n + k) ≡ how_many test a n + how_many test (a + n) k
  how_many_add n zero = let e : n + 0 ≡ n = omega arith in ap (how_many test a) e ∙ omega arith
  how_many_add n (suc k) =
      let e : n + suc k ≡ suc (n + k) = omega arith in
      let at : a + (n + k) ≡ a + n + k = omega arith in
      let bit : ℕ → ℕ = λ q. cond (test q) 1 0 in
      let last : bit (a + (n + k)) ≡ bit (a + n + k) = ap bit at in
      ap (how_many test a) e ∙ omega (arith, how_many_add n k, last)

  pub how_many_grows : (m n : ℕ) → m ≤ n → how_many test a m ≤ how_many test a n
  how_many_grows m n l =
      let e : m + (n - m) ≡ n = omega (arith, l) in omega (arith, how_many_add m (n - m), ap (how_many test a) e)

  pub how_many_here : (n : ℕ) → test (a + n) ≡ true → how_many test a n + 1 ≤ how_many test a (n + 1)
  how_many_here n holds =
      let e : n + 1 ≡ suc n = omega arith in
      let bit : Bool → ℕ = λ b. cond b 1 0 in
      let one : bit (test (a + n)) ≡ bit true = ap bit holds in
      omega (arith, ap (how_many test a) e, one)

-- What a search along the positions of a prefix comes to.

-- at a start where the least width does not fit there is no match
pub narrow_at : (a : Asked) (t : Tree) (w p : ℕ) → w ≤ width t → p ≤ a.end → a.end < p + w → at_start a t p ≡ None
narrow_at a t w p l inside narrow =
    let none = narrow_none (subject_of a) t w p no_marks l inside narrow in rw none refl

no_item : (t : Tree) → is_empty t ≡ true → t ≡ Empty
no_item Empty e = refl
no_item (Then x rest) e = absurd (cc)

-- more positions are counted
pub few_counted : (test : ℕ → Bool) (a n : ℕ) → how_many test a n ≤ n
few_counted test a zero = omega arith
few_counted test a (suc n) = by_test (test (a + n)) (few_counted test a n)
  where
    by_test : (b : Bool) → how_many test a n ≤ n → how_many test a n + cond b 1 0 ≤ suc n
    by_test true l = omega (arith, l)
    by_test false l = omega (arith, l)

pub none_in_window : (a : Asked) (t : Tree) → NoneBefore a t (a.end + 1) → found a t ≡ None
none_in_window a t before = none-found a t (λ s from to. before s from (omega (arith, to)))

-- with the words of a prefix
module _ (a : Asked) (code : Code) (vs : List ℕ) (k : ℕ) (whole : Bool) (is : IsPrefix code vs k whole)
    (some : 0 < length vs) where
  -- where they do not stand no match begins
  pub unplaced_between : (t : Tree) → Whole (words_of code) t → (p q : ℕ) → NoPlace a.text vs a.end p q
      → NoneBetween a t p q
  unplaced_between t w p q x s from to = by_test (stands_at (subject_of a) vs s) refl
    where
      by_test : (b : Bool) → stands_at (subject_of a) vs s ≡ b → at_start a t s ≡ None
      by_test true y = absurd (x.none s from to (stand_parts (subject_of a) vs s some y))
      by_test false n =
          let none = (spelled_none (subject_of a) k t vs s (is.spelled t w) n).none no_marks in rw none refl

  pub none_unplaced : (t : Tree) → Whole (words_of code) t → (p q : ℕ) → NoneBefore a t p
      → NoPlace a.text vs a.end p q → NoneBefore a t q
  none_unplaced t w p q before x = none_joined a t _ p q before (unplaced_between t w p q x)

  module _ (s : ℕ) (stands : Stands a.text vs a.end s) where
    -- where they stand the ways are those behind the first literals
    ways_behind : (t : Tree) → Whole (words_of code) t
        → ways (subject_of a) t s no_marks ≡ ways (subject_of a) (behind_items k t) (s + k) no_marks
    ways_behind t w =
        spelled_ways (subject_of a) k t vs s no_marks (is.spelled t w) is.few
        (stand_fit (subject_of a) vs s stands.within stands.fits)

    pub decided_behind : (r : Run) → r.subject ≡ subject_of a → (t : Tree) → Whole (words_of code) t → (p : ℕ)
        → p ≡ s + k → (d : Option StringCursor) (m : Marks)
        → Decides r (outcomes r (behind_items k t) p) d m → Decides r (outcomes r t s) d m
    decided_behind r same t w p at d m decides =
        let from : ways r.subject (behind_items k t) p no_marks ≡ ways r.subject t s no_marks =
        ap (λ x. ways x (behind_items k t) p no_marks) same
        ∙ ap (λ q. ways (subject_of a) (behind_items k t) q no_marks) at
        ∙ sym (ways_behind t w) ∙ ap (λ x. ways x t s no_marks) (sym same) in
        subst (λ ws. Decides r (filter r.accepts ws) d m) from decides

    -- and a match ends behind them
    pub far_end : (t : Tree) → Whole (words_of code) t → (m : Match) → at_start a t s ≡ Some m → s + length vs ≤ m.end
    far_end t w m e =
        by_ways (ways (subject_of a) t s no_marks) (spelled_far (subject_of a) k t vs s no_marks (is.spelled t w)) e
      where
        by_ways : (ws : List Way) → EachFar (length vs) s ws → first_accepted a s ws ≡ Some m → s + length vs ≤ m.end
        by_ways [] far e = absurd (cc)
        by_ways (x ∷ ws) far e = by_test (is_accepted a x) refl (by_ways ws far.1)
          where
            by_test : (c : Bool) → is_accepted a x ≡ c
                → (first_accepted a s ws ≡ Some m → s + length vs ≤ m.end) → s + length vs ≤ m.end
            by_test true y later =
                let same : Some (record { start = s; end = x.stop; marks = x.marks }) ≡ Some m = rw y at e in
                let ends : x.stop ≡ m.end = cc in
                omega (arith, ends, far.0)
            by_test false n later = later (rw n at e)

    -- where they are all, the place is the match, if its end is accepted
    pub whole_at : whole ≡ true → (t : Tree) → Whole (words_of code) t → (q : ℕ) → q ≡ s + length vs → a.start ≤ s
        → at_start a t s
        ≡ cond {A = Option Match} (not a.match_all || nat_eq q a.end)
        (Some (record { start = s; end = q; marks = no_marks })) None
    whole_at all t w q at from =
        ap (first_accepted a s) alone
        ∙ (let moved : nat_eq q a.start ≡ false = grind (arith, nat_tests, some) in
        by_flags (not a.match_all || nat_eq q a.end) a.must_advance (nat_eq q a.start) moved)
      where
        alone : ways (subject_of a) t s no_marks ≡ here q no_marks
        alone =
            let rest = is.rest all t w in
            let end : s + k ≡ q = omega (arith, rest.0, at) in
            ways_behind t w
            ∙ ap (λ u. ways (subject_of a) u (s + k) no_marks) (no_item (behind_items k t) rest.1)
            ∙ ap (λ p. here p no_marks) end

        match : Option Match
        match = Some (record { start = s; end = q; marks = no_marks })

        by_flags : (keeps advance starts : Bool) → starts ≡ false
            → cond (keeps && (not advance || not starts)) match None ≡ cond keeps match None
        by_flags true true false n = refl
        by_flags true false false n = refl
        by_flags false advance starts n = refl
        by_flags keeps advance true n = absurd (cc)

-- a tree with a prefix begins with no position code
pub anchored_never : (k : ℕ) (t : Tree) (vs : List ℕ) → spells k t vs ≡ true → 0 < length vs → is_anchored t ≡ true → ⊥
anchored_never k t [] e some is = omega (arith, some)
anchored_never k (Then (At a) rest) (v ∷ vs) e some is = let never : false ≡ true = e in absurd (cc never)
anchored_never k t (v ∷ vs) e some is = let never : false ≡ true = is in absurd (cc never)
