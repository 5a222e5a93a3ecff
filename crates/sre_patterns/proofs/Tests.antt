-- Classes that have what a test takes, or just that, and from which character on a set or a test gives one answer.
use Rattle.sre_patterns.proofs.Terms.{◌≡◌, ℕ, ◌+◌, ◌<◌, ◌≤◌, Bool, true, List, [], ◌∷◌, ◌++◌, sym, ap, ◌∙◌, arith, drop}
use Rattle.sre_patterns.proofs.Terms.{get_or, suc, false, ◌&&◌, nat_lt, refl, nat_tests, IsScalar, literal, byte_in}
use Rattle.sre_patterns.proofs.Terms.{char_in, Table, Word, Opcode, TestStands, char_at, Test, Plain, CoversTest}
use Rattle.sre_patterns.proofs.Terms.{InBytes, InUtf8, HasJust, holds, item_ways, Purpose, ServesBody, HasBelow, HasFor}
use Rattle.sre_patterns.proofs.Terms.{test_opcode, TestOperands, not, cond, nat_eq, ap₂, word, slice_get-get_or}
use Rattle.sre_patterns.proofs.Terms.{slice_range, category_number, Charset, set_same}
use Rattle.sre_model.specs.Tree.{One, Literal}
use Rattle.std.proofs.Math.Seq.{drop-cons}
use Rattle.regex_hir.proofs.TextLemmas.{has_bytes_at_from}
use Rattle.sre_model.proofs.Opcodes.{same_word, same_opcode}
use Rattle.std.proofs.lemmas.Option.{get_or_from_slice_get, slice_get_within}
use Rattle.regex_class.specs.Ranges.{in_range, in_ranges, HasExactly}
use Rattle.regex_class.proofs.RangesLemmas.{in_ranges-push}
use Rattle.sre_patterns.proofs.Composed.{covers-one}
use Rattle.sre_patterns.proofs.ExactTrees.{bytes-exact, chars-exact}
use Rattle.sre_patterns.proofs.OverBytes.{bytes-take}
use Rattle.sre_patterns.proofs.OverUtf8.{utf8-take}
use Rattle.sre_chars.specs.Categories.{category}
use Rattle.sre_chars.specs.Tables.{ascii_table, is_between}
use Rattle.sre_chars.specs.declared.constants.SreCatCode.{SreCatCode}
use Rattle.sre_model.specs.Characters.{item_holds, bit_of, verdict}
use Rattle.sre_model.specs.Standing.{HasSet, ItemSays}
use Rattle.sre_model.proofs.Members.{single_room, charset_room, category_there, range_room, single_says, range_says}
use Rattle.sre_model.proofs.Members.{category_says, charset_says, negated, nothing_left}
use Rattle.sre_patterns.specs.Settling.{SettledFrom, SettledSet, SettlesBehind}
use Rattle.sre_chars.specs.declared.constants.SreOpcode.TheVariants as opcode
use Rattle.sre_patterns.specs.declared.task.Purpose.TheVariants as purpose

pub scalar-most : (c : ℕ) → IsScalar c → c ≤ 1114111
scalar-most c s = grind (arith, nat_tests)

pub added : (xs : List (ℕ × ℕ)) (low high c : ℕ) → low ≤ c → c ≤ high → in_ranges (xs ++ (low, high) ∷ []) c ≡ true
unfolding in_range
added xs low high c l h = in_ranges-push xs (low, high) c ∙ grind (arith, nat_tests)

-- ranges with one more that has all characters from a number on
pub below-on : (test : ℕ → Bool) (xs : List (ℕ × ℕ)) (from last : ℕ) → HasBelow from test xs
    → HasBelow (last + 1) test (xs ++ (from, last) ∷ [])
unfolding in_range
below-on test xs from last h c l k =
    let before : c < from → in_ranges xs c ≡ true = λ m. h c m k in
    in_ranges-push xs (from, last) c ∙ grind (arith, nat_tests)

-- the one test that LITERAL begins
pub plain-literal : (ws : List ℕ) (i j v : ℕ) (t : Test) → Opcode ws i opcode.LITERAL → Word ws (i + 1) v
    → TestStands ws i j t
    → t ≡ Literal Plain v
plain-literal ws i j v t o w s = go t (same_opcode ws i opcode.LITERAL (test_opcode t) o s.code) s.operands
  where
    go : (u : Test) → opcode.LITERAL ≡ test_opcode u → TestOperands ws i j u → u ≡ Literal Plain v
    go (Literal Plain n) e r = ap (λ z. Literal Plain z) (same_word ws (i + 1) n v r.0 w)
    go u e r = absurd (grind arith)

-- a byte stands where its character does
pub bytes-literal : (bound : ℕ) (table : Table) (v : ℕ)
    → CoversTest (InBytes bound) table (literal (v ∷ [])) (Literal Plain v)
bytes-literal bound table v =
    covers-one (InBytes bound) table (literal (v ∷ [])) (Literal Plain v) (λ s hay off w p inside h.
    let is : v ≡ char_at s p = grind (arith, nat_tests) in
    let found = w.byte p inside in
    let first : get_or hay (off p) 0 ≡ v = get_or_from_slice_get hay (off p) (char_at s p) 0 found ∙ sym is in (
      has_bytes_at_from hay (off p) (v ∷ []) (drop (suc (off p)) hay)
          (drop-cons hay (off p) 0 (slice_get_within hay (off p) (char_at s p) found)
          ∙ ap (λ b. b ∷ drop (suc (off p)) hay) first),
      w.next p inside,
    ))

pub just-begun : (test : ℕ → Bool) → HasJust 0 test []
unfolding in_ranges
just-begun test c = let none : nat_lt c 0 ≡ false = grind (arith, nat_tests) in rw none refl

-- a test with one answer from the bound on, up to a greater one
module _ (test : ℕ → Bool) (xs : List (ℕ × ℕ)) (from count : ℕ) (h : HasJust from test xs) (up : from ≤ count) where
  -- where it passes one more range has these numbers
  pub just-on : (last : ℕ) → last + 1 ≡ count → ((c : ℕ) → from ≤ c → c < count → test c ≡ true)
      → HasJust count test (xs ++ (from, last) ∷ [])
  unfolding in_range
  just-on last is passes c =
      let before : in_ranges xs c ≡ (nat_lt c from && test c) = h c in
      let here : from ≤ c → c < count → test c ≡ true = passes c in
      in_ranges-push xs (from, last) c ∙ grind (arith, nat_tests)

  pub just-off : ((c : ℕ) → from ≤ c → c < count → test c ≡ false) → HasJust count test xs
  just-off fails c =
      let before : in_ranges xs c ≡ (nat_lt c from && test c) = h c in
      let here : from ≤ c → c < count → test c ≡ false = fails c in
      grind (arith, nat_tests)

-- a step over one number
pub at-one : (test : ℕ → Bool) (i : ℕ) (b : Bool) → test i ≡ b → (c : ℕ) → i ≤ c → c < i + 1 → test c ≡ b
at-one test i b t c l h = let same : c ≡ i = omega (arith, l, h) in ap test same ∙ t

-- below the bound the ranges answer as the test does
at-below : (bound : ℕ) (test : ℕ → Bool) (xs : List (ℕ × ℕ)) → HasJust bound test xs → (c : ℕ) → c < bound
    → in_ranges xs c ≡ test c
at-below bound test xs h c l = let a : nat_lt c bound ≡ true = grind (arith, nat_tests) in h c ∙ rw a refl

pub just-below : (bound : ℕ) (test : ℕ → Bool) (xs : List (ℕ × ℕ)) → HasJust bound test xs → HasBelow bound test xs
just-below bound test xs h c l t = at-below bound test xs h c l ∙ t

-- a literal below the bound, and one that no character is
pub just-no_literal : (bound v : ℕ) (table : Table) → bound ≤ v → HasJust bound (holds table (Literal Plain v)) []
unfolding in_ranges
just-no_literal bound v table l c = grind (arith, nat_tests)

pub just-literal : (bound v : ℕ) (table : Table) → v < bound
    → HasJust bound (holds table (Literal Plain v)) ((v, v) ∷ [])
unfolding in_ranges in_range
just-literal bound v table l c = grind (arith, nat_tests)

-- the class of what the ranges have, for each purpose
pub serves-bytes : (u : Purpose) (bound : ℕ) (table : Table) (t : Test) (xs ranges : List (ℕ × ℕ)) → bound ≤ 256
    → HasJust bound (holds table t) xs → HasExactly ranges (in_ranges xs)
    → ServesBody u (InBytes bound) table (byte_in ranges) (λ s. item_ways s (One t))
serves-bytes purpose.InOrder bound table t xs ranges few h e =
    bytes-exact bound table ranges t (λ c l. e c (omega arith) ∙ at-below bound (holds table t) xs h c l)
serves-bytes u bound table t xs ranges few h e =
    bytes-take bound table ranges t (λ c l k. e c (omega arith) ∙ at-below bound (holds table t) xs h c l ∙ k)

pub serves-chars : (u : Purpose) (table : Table) (t : Test) (xs ranges : List (ℕ × ℕ))
    → HasFor u 1114112 (holds table t) xs → HasExactly ranges (in_ranges xs)
    → ServesBody u InUtf8 table (char_in ranges) (λ s. item_ways s (One t))
serves-chars purpose.InOrder table t xs ranges h e =
    chars-exact table ranges t
    (λ c s. let most = scalar-most c s in e c most ∙ at-below 1114112 (holds table t) xs h c (omega arith))
serves-chars u table t xs ranges h e =
    utf8-take table ranges t (λ c s k. let most = scalar-most c s in e c most ∙ h c (omega arith) k)

-- a test that is false from a number on answers alike from there, and so does its opposite
none-past : (from : ℕ) (test : ℕ → Bool) → ((c : ℕ) → from ≤ c → test c ≡ false) → SettledFrom from test
none-past from test f c l = f c l ∙ sym (f from (omega arith))

-- an item that answers alike lets the rest of its set decide
pub item-settles : (ws : List ℕ) (i next from : ℕ) (h : Table → ℕ → Bool)
    → ((table : Table) (c : ℕ) → ItemSays ws table i c (h table c) next)
    → ((table : Table) → SettledFrom from (h table)) → i < next → SettlesBehind ws i next from
item-settles ws i next from h says settled later = record {
  later = later;
  there = λ stands.
      let rest = (says ascii_table 0).each stands.end stands.set stands.stands in
      record { end = stands.end; set = rest.0; stands = rest.1 };
  each = λ b l rest. record {
    each = λ table j set s taken c k.
        let here = (says table c).each j set s in
        let there = (says table b).each j set s in
        let same : here.0 ≡ there.0 = set_same here.0 there.0 ws next j here.1.items there.1.items in
        let holds : h table c ≡ h table b = settled table c (omega arith) ∙ sym (settled table b l) in
        here.2 taken
        ∙ ap₂ (λ x y. cond x taken y) holds
        (rest.each table j here.0 here.1 taken c k ∙ ap (λ r. verdict table taken r b) same)
        ∙ sym (there.2 taken);
  };
}

pub single-settles : (ws : List ℕ) (i v : ℕ) → Opcode ws i opcode.LITERAL → Word ws (i + 1) v
    → SettlesBehind ws i (i + 2) (v + 1)
single-settles ws i v w o =
    item-settles ws i (i + 2) (v + 1) (λ table c. nat_eq c v) (λ table c. single_says ws table i c v w o)
    (λ table. none-past (v + 1) (λ c. nat_eq c v) (λ c l. grind (arith, nat_tests))) (omega arith)

pub range-settles : (ws : List ℕ) (i high : ℕ) → Opcode ws i opcode.RANGE → Word ws (i + 2) high → HasSet ws i
    → SettlesBehind ws i (i + 3) (high + 1)
range-settles ws i high w oh h =
    let low = word ws (i + 1) in
    let ol : Word ws (i + 1) low = slice_get-get_or ws (i + 1) 0 (omega (arith, range_room ws i w h)) in
    item-settles ws i (i + 3) (high + 1) (λ table c. is_between low high c)
    (λ table c. range_says ws table i c low high (is_between low high c) w ol oh refl)
    (λ table. none-past (high + 1) (λ c. is_between low high c) (λ c l. grind (arith, nat_tests))) (omega arith)

pub category-settles : (ws : List ℕ) (i from : ℕ) (k : SreCatCode) → Opcode ws i opcode.CATEGORY
    → Word ws (i + 1) (category_number k) → ((table : Table) → SettledFrom from (category table (category_number k)))
    → SettlesBehind ws i (i + 2) from
category-settles ws i from k w o f =
    item-settles ws i (i + 2) from (λ table c. category table (category_number k) c)
    (λ table c. category_says ws table i c (category table (category_number k) c) k w o refl) f (omega arith)

pub charset-settles : (ws : List ℕ) (i : ℕ) → Opcode ws i opcode.CHARSET → SettlesBehind ws i (i + 9) 256
charset-settles ws i w =
    let bits = slice_range ws (i + 1) (i + 9) in
    item-settles ws i (i + 9) 256 (λ table c. item_holds table (Charset bits) c)
    (λ table c. charset_says ws table i c (item_holds table (Charset bits) c) w refl)
    (λ table. none-past 256 (λ c. item_holds table (Charset bits) c) (λ c l. past bits c l)) (omega arith)
  where
    past : (bits : List ℕ) (c : ℕ) → 256 ≤ c → (nat_lt c 256 && bit_of bits c) ≡ false
    past bits c l =
        let far : nat_lt c 256 ≡ false = grind (arith, nat_tests) in
        ap (λ x. x && bit_of bits c) far

pub negate-settles : (ws : List ℕ) (i : ℕ) → Opcode ws i opcode.NEGATE → SettlesBehind ws i (i + 1) 0
negate-settles ws i w = record {
  later = omega arith;
  there = λ stands.
      let rest = negated ws i stands.end stands.set w stands.stands in
      record { end = stands.end; set = rest.0; stands = rest.1 };
  each = λ b l rest. record {
    each = λ table j set s taken c k.
        let f = negated ws i j set w s in
        ap (λ x. verdict table taken x c) f.2
        ∙ rest.each table j f.0 f.1 (not taken) c k
        ∙ ap (λ x. verdict table taken x b) (sym f.2);
  };
}

-- for items of a set
pub ruleset item_laws = (
  single_room,
  range_room,
  category_there,
  charset_room,
  single-settles,
  range-settles,
  category-settles,
  charset-settles,
  negate-settles,
)

-- at FAILURE nothing is left
pub failure-settles : (ws : List ℕ) (i b : ℕ) → Opcode ws i opcode.FAILURE → SettledSet ws i b
failure-settles ws i b w = record {
  each = λ table j set s taken c k.
      let none = nothing_left ws i j set w s in
      ap (λ x. verdict table taken x c) none ∙ ap (λ x. verdict table taken x b) (sym none);
}

-- what is left at a place decides of the whole set
pub record LeftSettled (ws : List ℕ) (start place from : ℕ) : Type 0 where
  pub there : HasSet ws place
  pub each : (b : ℕ) → from ≤ b → SettledSet ws place b → SettledSet ws start b

pub settled-ended : (ws : List ℕ) (start place from : ℕ) → LeftSettled ws start place from
    → Opcode ws place opcode.FAILURE → SettledSet ws start from
settled-ended ws start place from left w = left.each from (omega arith) (failure-settles ws place from w)
