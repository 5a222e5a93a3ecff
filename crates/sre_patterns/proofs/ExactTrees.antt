-- Patterns that try the match paths of the parts of a tree in order, combined to one that tries those of the tree.
-- Their matches begin at a byte where a position is, unless they are empty.
use Rattle.sre_patterns.proofs.Terms.{◌≡◌, ℕ, zero, suc, ◌+◌, ◌-◌, ◌<◌, ◌≤◌, Bool, true, false, List, [], Option, Some}
use Rattle.sre_patterns.proofs.Terms.{None, sym, ap, ◌∙◌, ◌⊎◌, ⊎_elim, inl, inr, arith, slice_index, cases_lt}
use Rattle.sre_patterns.proofs.Terms.{len_utf8_bounds, Re, empty, byte_in, char_in, look, cat, alt, plus, Look, Rounds}
use Rattle.sre_patterns.proofs.Terms.{one_round, next_round, Matches, Subject, char_at, InBytes, InUtf8, IsPlace}
use Rattle.sre_patterns.proofs.Terms.{true≢false, Matches-IsSpan, min, cond, nat_lt, slice_get, refl, ap₂}
use Rattle.sre_patterns.proofs.Terms.{AllByRecursion, nat_tests, slice_get_past, IsScalar, IsMinLen, Table, SreAtCode}
use Rattle.sre_patterns.proofs.Terms.{Tree, Test, Order, Marks, holds, passes, holds_at, Body, here, unlimited, ways}
use Rattle.sre_patterns.proofs.Terms.{item_ways, loop_ways, branch_ways, each-cond, Between, Bounded, ways-bounded}
use Rattle.sre_patterns.proofs.Terms.{item-bounded, View, ExactBody, ExactTree, Rises, AreKept, repeated, is_greedy}
use Rattle.sre_patterns.proofs.Terms.{kind_of, exact_look, most_kept, option_or, option_or-None}
use Rattle.sre_model.specs.Tree.{Fail, One, At, Loop, Run}
use Rattle.regex_hir.proofs.TextLemmas.{char_at_fits, char_at_parts, char_at_past}
use Rattle.sre_patterns.specs.Covers.{AtPlaces, tried, Exact, ExactItem, ExactTest}
use Rattle.regex_hir.specs.Meaning.{optional, copies, up_to, at_least, repeat}
use Rattle.regex_class.specs.Ranges.{in_ranges}
use Rattle.sre_patterns.proofs.Edges.{IsLater, char-bytes, Sided, HoldAlike, look-agrees}
use Rattle.sre_patterns.proofs.OverBytes.{bytes-places}
use Rattle.regex_hir.specs.Re.{attempt}
use Rattle.regex_hir.specs.Text.{is_some_and}
use Rattle.sre_patterns.proofs.Composed.{Composes}
use Rattle.sre_patterns.proofs.InOrder.{tried-append, tried-flat, tried-here, tried-cond, one-exact, counted-exact}
use Rattle.sre_patterns.proofs.InOrder.{endless-exact, exact-moves, run-loop}
use Rattle.sre_patterns.proofs.OverUtf8.{utf8-apart}
use Rattle.regex_hir.specs.Text as bytes

module _ (s : Subject) (hay : List ℕ) (off : ℕ → ℕ) where
  abbrev P : Re → Type 0
  P = AtPlaces s hay off

  -- two steps, one after the other: where the first one stays, the second one begins there
  then-at : (i l j : ℕ) → (l ≡ i) ⊎ IsPlace s off i → (j ≡ l) ⊎ IsPlace s off l → (j ≡ i) ⊎ IsPlace s off i
  then-at i l j (inr at) second = inr at
  then-at i l j (inl stays) (inl same) = inl (same ∙ stays)
  then-at i l j (inl stays) (inr at) = inr (at.0, at.1, at.2 ∙ stays)

  pub empty-at : P empty
  empty-at i j m = inl m

  pub look-at : (l : Look) → P (look l)
  look-at l i j m = inl m.1

  pub none-at : P (byte_in [])
  unfolding in_ranges
  none-at i j m = absurd (true≢false (sym m.2))

  pub cat-at : (a b : Re) → P a → P b → P (cat a b)
  cat-at a b f g i j m = then-at i m.0 j (f i m.0 m.1) (g m.0 j m.2)

  pub alt-at : (a b : Re) → P a → P b → P (alt a b)
  alt-at a b f g i j m = ⊎_elim (f i j) (g i j) m

  rounds-at : (a : Re) → P a → (i j : ℕ) → Rounds (Matches hay a) i j → (j ≡ i) ⊎ IsPlace s off i
  rounds-at a f i j (one_round _ m) = f i j m
  rounds-at a f i j (next_round l _ front m) = then-at i l j (rounds-at a f i l front) (f l j m)

  plus-at : (g : Bool) (a : Re) → P a → P (plus g a)
  plus-at g a f i j m = rounds-at a f i j m

  optional-at : (g : Bool) (a : Re) → P a → P (optional g a)
  optional-at true a f = alt-at a empty f empty-at
  optional-at false a f = alt-at empty a empty-at f

  copies-at : (n : ℕ) (a b : Re) → P a → P b → P (copies n a b)
  copies-at zero a b f g = g
  copies-at (suc n) a b f g = cat-at a (copies n a b) f (copies-at n a b f g)

  up_to-at : (g : Bool) (n : ℕ) (a : Re) → P a → P (up_to g n a)
  up_to-at g zero a f = empty-at
  up_to-at g (suc n) a f = optional-at g (cat a (up_to g n a)) (cat-at a (up_to g n a) f (up_to-at g n a f))

  at_least-at : (g : Bool) (n : ℕ) (a : Re) → P a → P (at_least g n a)
  at_least-at g zero a f = optional-at g (plus g a) (plus-at g a f)
  at_least-at g (suc n) a f = copies-at n a (plus g a) f (plus-at g a f)

  pub repeat-at : (low : ℕ) (most : Option ℕ) (g : Bool) (a : Re) → P a → P (repeat low most g a)
  unfolding repeat
  repeat-at low None g a f = at_least-at g low a f
  repeat-at low (Some high) g a f = copies-at low a (up_to g (high - low) a) f (up_to-at g (high - low) a f)

  -- over bytes a position stands at each byte
  pub bytes-at : (bound : ℕ) → InBytes bound s hay off → (re : Re) → P re
  bytes-at bound v re i j m =
      let span = Matches-IsSpan hay re i j m in
      elim (cases_lt i j) [
        | (inl on) ↦
            let last = bytes-places bound s hay off v s.end (omega arith) in
            let inside : i ≤ s.end = omega (arith, span, on, v.ends, last) in
            inr (i, inside, bytes-places bound s hay off v i inside)
        | (inr past) ↦ inl (omega (arith, span, past))
      ]

-- each byte is one of some character
module _ (s : Subject) (hay : List ℕ) (off : ℕ → ℕ) (v : InUtf8 s hay off) where
  pub record Inside (i : ℕ) : Type 0 where
    pub position : ℕ
    pub within : position < s.end
    pub from : off position ≤ i
    pub to : i < off (position + 1)

  inside : (n i : ℕ) → n ≤ s.end → i < off n → Inside i
  inside zero i l h = absurd (omega (arith, h, v.starts))
  inside (suc n) i l h = elim (cases_lt i (off n)) [
    | (inl before) ↦ inside n i (omega arith) before
    | (inr from) ↦
        let one : suc n ≡ n + 1 = omega arith in
        record { position = n; within = omega arith; from = from; to = omega (arith, h, ap off one) }
  ]

  -- where a whole character stands a position does
  pub char-place : (i c : ℕ) → bytes.char_at hay i ≡ Some c → IsPlace s off i
  char-place i c found =
      let fits = char_at_fits hay i c found in
      let here = inside s.end i (omega arith) (omega (arith, fits, len_utf8_bounds c, v.ends)) in
      let p = here.position in
      elim (cases_lt (off p) i) [
        | (inl after) ↦ absurd (first-byte i c found
            ((char-bytes hay (off p) (char_at s p) (v.char p here.within)).later i after
            (omega (arith, here.to, v.next p here.within))))
        | (inr at) ↦ (p, omega (arith, here.within), omega (arith, at, here.from))
      ]
    where
      first-byte : (i c : ℕ) → bytes.char_at hay i ≡ Some c → IsLater (slice_index hay i) → ⊥
      first-byte i c found later =
          let all = char-bytes hay i c found in
          let low : c < 128 → slice_index hay i ≡ c = λ l. (all.one l).1 in
          grind (arith, all.first)

  pub char-at : (ranges : List (ℕ × ℕ)) → AtPlaces s hay off (char_in ranges)
  char-at ranges i j m = inr (char-place i m.0 m.1)

fail-exact : (s : Subject) (hay : List ℕ) (off : ℕ → ℕ) → Exact s hay off (byte_in []) (item_ways s Fail)
unfolding attempt in_ranges
fail-exact s hay off k p m h = by_byte (slice_get hay (off p))
  where
    by_byte : (b : Option ℕ) → cond (is_some_and b (in_ranges [])) (k (off p + 1)) None ≡ None
    by_byte None = refl
    by_byte (Some b) = refl

-- an alternative after which there is none
last-exact : (s : Subject) (hay : List ℕ) (off : ℕ → ℕ) (a : Re) (body : Body) → Exact s hay off a body
    → Exact s hay off (alt a (byte_in [])) body
unfolding attempt
last-exact s hay off a body f k p m h =
    ap₂ option_or (f k p m h) (fail-exact s hay off k p m h) ∙ option_or-None (tried off k (body p m))

module _ (V : View) (table : Table) where
  pub exact-parts : Composes (ExactBody V table)
  unfolding attempt
  exact-parts = record {
    nothing = record {
      tries = λ s hay off v same k p m h. sym (tried-here s hay off k p m);
      begins = λ s hay off v. empty-at s hay off;
    };
    joined = λ a b item rest f g. record {
      tries = λ s hay off v same k p m h.
          f.tries s hay off v same (attempt hay b k) p m h
          ∙ tried-flat s hay off (Between s p) (attempt hay b k) k (λ w. ways s rest w.stop w.marks)
          (item_ways s item p m) (item-bounded s item p m h) (λ w l. g.tries s hay off v same k w.stop w.marks l.1);
      begins = λ s hay off v. cat-at s hay off a b (f.begins s hay off v) (g.begins s hay off v);
    };
    failed = record { tries = λ s hay off v same. fail-exact s hay off; begins = λ s hay off v. none-at s hay off };
    marked = λ n. record {
      tries = λ s hay off v same k p m h. sym (tried-here s hay off k p m);
      begins = λ s hay off v. empty-at s hay off;
    };
    last = λ a t f. record {
      tries = λ s hay off v same. last-exact s hay off a (ways s t) (f.tries s hay off v same);
      begins = λ s hay off v. alt-at s hay off a (byte_in []) (f.begins s hay off v) (none-at s hay off);
    };
    either = λ a b t ts f g. record {
      tries = λ s hay off v same k p m h.
          ap₂ option_or (f.tries s hay off v same k p m h) (g.tries s hay off v same k p m h)
          ∙ sym (tried-append s hay off k (ways s t p m) (branch_ways s ts p m));
      begins = λ s hay off v. alt-at s hay off a b (f.begins s hay off v) (g.begins s hay off v);
    };
  }

  module _ (rises : Rises V) (kept : ℕ) (few : kept < unlimited) (low high : ℕ) (k : AreKept kept low high) (o : Order)
      (re : Re) where
    -- a loop whose body moves on, where its counts are kept
    repeated-exact : (body : Subject → Body) → ExactBody V table re body → ((s : Subject) → Bounded s (body s))
        → ((s : Subject) (hay : List ℕ) (off : ℕ → ℕ) → V s hay off → s.table ≡ table → (p : ℕ) (m : Marks)
        → p ≤ s.end → AllByRecursion (λ w. p < w.stop) (body s p m))
        → ExactBody V table (repeated kept low high (is_greedy o) re) (λ s. loop_ways s o low high (body s))
    repeated-exact body x bounded moves = record {
      tries = λ s hay off v same. tries s hay off v same k.2;
      begins = λ s hay off v.
          repeat-at s hay off (min low kept) (most_kept kept low high) (is_greedy o) re (x.begins s hay off v);
    }
      where
        least : min low kept ≡ low
        least = omega (arith, k.1)

        short : nat_lt kept low ≡ false
        short = let l : low ≤ kept = k.1 in grind (arith, nat_tests)

        tries : (s : Subject) (hay : List ℕ) (off : ℕ → ℕ) → V s hay off → s.table ≡ table
            → (high ≤ kept) ⊎ (high ≡ unlimited)
            → Exact s hay off (repeated kept low high (is_greedy o) re) (loop_ways s o low high (body s))
        tries s hay off v same (inl l) =
            let y : nat_lt kept high ≡ false = grind (arith, nat_tests) in
            rw (least, short, y)
            (counted-exact s hay off (rises s hay off v) o low high (body s) re (x.tries s hay off v same) (bounded s)
            (moves s hay off v same) k.0 (omega arith))
        tries s hay off v same (inr e) =
            let y : nat_lt kept high ≡ true = grind (arith, nat_tests) in
            rw (least, short, y)
            (endless-exact s hay off (rises s hay off v) o low high (body s) re (x.tries s hay off v same) (bounded s)
            (moves s hay off v same) (grind (arith, nat_tests)))

    -- a loop whose body reads a byte
    pub exact-loop : (body : Tree) → IsMinLen re 1 → ExactTree V table re body
        → ExactItem V table (repeated kept low high (is_greedy o) re) (Loop o low high body)
    exact-loop body least x =
        repeated-exact (λ s. ways s body) x (λ s. ways-bounded s body)
        (λ s hay off v same.
        exact-moves s hay off re (ways s body) (x.tries s hay off v same) least (ways-bounded s body))

    pub exact-run : (t : Test) → ExactTest V table re t
        → ExactItem V table (repeated kept low high (is_greedy o) re) (Run (kind_of o) low high t)
    exact-run t x =
        let loop = repeated-exact (λ s. item_ways s (One t)) x (λ s. item-bounded s (One t))
        (λ s hay off v same p m l. each-cond (λ w. p < w.stop) (passes s t p) (here (p + 1) m) []
        (λ _. (omega arith, tt)) (λ _. tt)) in
        record {
          tries = λ s hay off v same c p m h.
              loop.tries s hay off v same c p m h ∙ ap (tried off c) (run-loop s o t low high k.0 p m h);
          begins = loop.begins;
        }

-- a class that has the bytes that pass, and no others
pub bytes-exact : (bound : ℕ) (table : Table) (ranges : List (ℕ × ℕ)) (t : Test)
    → ((c : ℕ) → c < bound → in_ranges ranges c ≡ holds table t c)
    → ExactTest (InBytes bound) table (byte_in ranges) t
unfolding attempt
bytes-exact bound table ranges t each = record {
  tries = λ s hay off v same.
      one-exact s hay off (byte_in ranges) t
      (λ k p inside. rw (v.byte p inside, v.next p inside, each (char_at s p) (v.below p inside), same) refl)
      (λ k. rw (slice_get_past hay (off s.end) (omega (arith, v.ends))) refl);
  begins = λ s hay off v. bytes-at s hay off bound v (byte_in ranges);
}

-- a class that has the characters that pass, and no others
pub chars-exact : (table : Table) (ranges : List (ℕ × ℕ)) (t : Test)
    → ((c : ℕ) → IsScalar c → in_ranges ranges c ≡ holds table t c)
    → ExactTest InUtf8 table (char_in ranges) t
unfolding attempt
chars-exact table ranges t each = record {
  tries = λ s hay off v same.
      one-exact s hay off (char_in ranges) t
      (λ k p inside.
      let scalar = (char_at_parts hay (off p) (char_at s p) (v.char p inside)).0 in
      rw (v.char p inside, v.next p inside, each (char_at s p) scalar, same) refl)
      (λ k. rw (char_at_past hay (off s.end) (omega (arith, v.ends))) refl);
  begins = λ s hay off v. char-at s hay off v ranges;
}

-- the assertion that holds just where a position does, for one that holds at the same places
pub exact-at : (V : View) (table : Table)
    → ((s : Subject) (hay : List ℕ) (off : ℕ → ℕ) → V s hay off → Sided s hay off)
    → (a b : SreAtCode) → ((s : Subject) (hay : List ℕ) (off : ℕ → ℕ) → V s hay off → HoldAlike s a b)
    → (l : Look) → exact_look a ≡ Some l → ExactItem V table (look l) (At b)
unfolding attempt
exact-at V table sided a b alike l e = record {
  tries = λ s hay off v same k p m h.
      ap (λ y. cond y (k (off p)) None) (look-agrees s hay off (sided s hay off v) a l e p h ∙ alike s hay off v p h)
      ∙ tried-cond s hay off k p m (holds_at s b p);
  begins = λ s hay off v. look-at s hay off l;
}

pub bytes-rise : (bound : ℕ) → Rises (InBytes bound)
bytes-rise bound s hay off v p q l h =
    omega (arith, bytes-places bound s hay off v p (omega arith), bytes-places bound s hay off v q h)

pub utf8-rise : Rises InUtf8
utf8-rise s hay off v p q l h =
    let same : p + (q - p) ≡ q = omega arith in
    omega (arith, utf8-apart s hay off v (q - p) p (omega arith), ap off same)
