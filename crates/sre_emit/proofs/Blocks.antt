-- A block before the code words of a tree: its rows, that they are still the tree's, and that its claims are confirmed.
use Rattle.sre_emit.proofs.Terms.{ℕ, zero, suc, ◌+◌, ◌*◌, ◌-◌, ◌/◌, ◌%◌, ◌≡◌, ◌<◌, ◌≤◌, Bool, true, false, cond, nat_eq}
use Rattle.sre_emit.proofs.Terms.{nat_lt, nat_le, List, [], ◌∷◌, ◌++◌, length, take, drop, Some, is_some, refl, sym}
use Rattle.sre_emit.proofs.Terms.{◌∙◌, ap, subst, arith, length-append, ◌≢◌, drop-append_seam, take-append_seam}
use Rattle.sre_emit.proofs.Terms.{append_assoc, and_parts, nat_tests, Tree, Empty, Then, Only, Or, Plain, width}
use Rattle.sre_emit.proofs.Terms.{LawfulTree, leading, spread, has_literals_alone, Wrote}
use Rattle.sre_model.specs.Tree.{One, Mark, Branch, Literal}
use Rattle.sre_model.specs.Shown.{items, a, b, c, d}
use Rattle.sre_model.specs.Claims.{border_length, has_prefix, prefix_words, overlap_words, behind_spread}
use Rattle.sre_model.specs.Claims.{behind_literals, is_at_end, behind_prefix, confirmed_width, confirmed_prefix}
use Rattle.sre_model.proofs.CutOff.{no_block, none_behind, whole_items}
use Rattle.sre_model.proofs.OneToOne.{code_whole, whole_are}
use Rattle.sre_emit.specs.Emitting.{opcode_number, unlimited, has_block, behind_block, fits_block, WholeItems, Whole}
use Rattle.sre_emit.specs.Emitting.{AreWords, are_overlaps, code_words, is_all_literals, block_prefix, overlaps_from}
use Rattle.sre_emit.specs.Emitting.{block, prefix_part, prefixed, block_words, is_literal, front, Emits, Held}
use Rattle.sre_emit.proofs.Written.{wrote_equal, wrote_more}
use Rattle.sre_chars.specs.declared.constants.SreOpcode.TheVariants as opcode

letter : block_words (items (a ∷ [])) ≡ 14 ∷ 8 ∷ 3 ∷ 1 ∷ unlimited ∷ 1 ∷ 1 ∷ 97 ∷ 0 ∷ []
letter = refl

empty_or_letter : block_words (items (Branch (Or Empty (Only (items (a ∷ [])))) ∷ [])) ≡ 14 ∷ 4 ∷ 0 ∷ 0 ∷ unlimited ∷ []
empty_or_letter = refl

-- ab(cd)
marks_between : block_words (items (a ∷ b ∷ Mark 0 ∷ c ∷ d ∷ Mark 1 ∷ []))
    ≡ 14 ∷ 14 ∷ 1 ∷ 4 ∷ unlimited ∷ 4 ∷ 2 ∷ 97 ∷ 98 ∷ 99 ∷ 100 ∷ 0 ∷ 0 ∷ 0 ∷ 0 ∷ []
marks_between = refl

mark_behind : block_words (items (a ∷ Mark 0 ∷ [])) ≡ 14 ∷ 8 ∷ 1 ∷ 1 ∷ unlimited ∷ 1 ∷ 1 ∷ 97 ∷ 0 ∷ []
mark_behind = refl

-- aab
overlapping : block_words (items (a ∷ a ∷ b ∷ []))
    ≡ 14 ∷ 12 ∷ 3 ∷ 3 ∷ unlimited ∷ 3 ∷ 3 ∷ 97 ∷ 97 ∷ 98 ∷ 0 ∷ 1 ∷ 0 ∷ []
overlapping = refl

nat_same : (n : ℕ) → nat_eq n n ≡ true
nat_same n = grind (arith, nat_tests)

-- Overlap words

pub overlaps_long : (p : List ℕ) (n k : ℕ) → length (overlaps_from p n k) ≡ k
overlaps_long p n zero = refl
overlaps_long p n (suc k) = omega (arith, overlaps_long p (n + 1) k)

overlaps_are : (p : List ℕ) (n k : ℕ) → are_overlaps p n (overlaps_from p n k) ≡ true
overlaps_are p n zero = refl
overlaps_are p n (suc k) = rw (nat_same (border_length (take n p)), overlaps_are p (n + 1) k) refl

-- there are no others
pub overlaps_same : (p o : List ℕ) (n : ℕ) → are_overlaps p n o ≡ true → o ≡ overlaps_from p n (length o)
overlaps_same p [] n e = refl
overlaps_same p (x ∷ xs) n e =
    let both = and_parts (nat_eq x (border_length (take n p))) (are_overlaps p (n + 1) xs) e in
    let first : x ≡ border_length (take n p) = grind (arith, nat_tests, both.0) in
    let more = overlaps_same p xs (n + 1) both.1 in cc

-- What the items begin with

-- a mark leaves what is to come
mark_past : (n : ℕ) (rest : Tree) (vs : List ℕ) → is_some (behind_spread vs rest) ≡ true
    → is_some (behind_spread vs (Then (Mark n) rest)) ≡ true
mark_past n rest [] h = refl
mark_past n rest (v ∷ vs) h = h

-- literals are passed, with marks between them
spread_left : (t : Tree) → is_some (behind_spread (spread t) t) ≡ true
spread_left Empty = refl
spread_left (Then (One (Literal Plain v)) rest) = rw (nat_same v) (spread_left rest)
spread_left (Then (Mark n) rest) = mark_past n rest (spread rest) (spread_left rest)
spread_left (Then x rest) = refl

-- the first of them one directly after the other
adjacent_left : (t : Tree) → is_some (behind_literals (leading t) (spread t) t) ≡ true
adjacent_left Empty = refl
adjacent_left (Then (One (Literal Plain v)) rest) = rw (nat_same v) (adjacent_left rest)
adjacent_left (Then (Mark n) rest) = mark_past n rest (spread rest) (spread_left rest)
adjacent_left (Then x rest) = refl

-- where there is nothing else, none is left, and each stands directly after the one before
alone_left : (t : Tree) → has_literals_alone t ≡ true
    → (is_at_end (behind_literals (leading t) (spread t) t) ≡ true) × (leading t ≡ length (spread t))
alone_left Empty h = (refl, refl)
alone_left (Then (One (Literal Plain v)) rest) h =
    let more = alone_left rest h in (rw (nat_same v) more.0, ap suc more.1)
alone_left (Then x rest) h = absurd (cc)

leading_least : (t : Tree) → leading t ≤ length (spread t)
leading_least Empty = omega arith
leading_least (Then (One (Literal Plain v)) rest) = omega (arith, leading_least rest)
leading_least (Then x rest) = omega arith

-- The words of a block

-- whatever a block claims, what is behind it stays
pub block_behind : (flags least : ℕ) (others ws : List ℕ) → behind_block (block flags least others ++ ws) ≡ ws
block_behind flags least others ws =
    let far : 1 + (length others + 4) ≡ length (block flags least others) = omega arith in
    ap (λ n. drop n (block flags least others ++ ws)) far ∙ drop-append_seam (block flags least others) ws

pub block_fits : (flags least : ℕ) (others ws : List ℕ) → fits_block (block flags least others ++ ws) ≡ true
block_fits flags least others ws = grind (arith, nat_tests)

-- a block before the words of a tree
pub block_whole : (t : Tree) (flags least : ℕ) (others : List ℕ) → LawfulTree t
    → Whole (block flags least others ++ code_words t) t
block_whole t flags least others h = (
  block_fits flags least others (code_words t),
  subst (λ (ws : List ℕ). WholeItems ws t) (sym (block_behind flags least others (code_words t))) (code_whole t h),
)

module _ (flags least k : ℕ) (ps os ws : List ℕ) where
  abbrev all : List ℕ
  all = block flags least (length ps ∷ k ∷ (ps ++ os)) ++ ws

  words_read : prefix_words all ≡ ps
  words_read =
      let far : 7 + length ps - 7 ≡ length ps = omega arith in
      rw (far, append_assoc ps os ws) (take-append_seam ps (os ++ ws))

  overlaps_read : length os ≡ length ps → overlap_words all ≡ os
  overlaps_read e =
      let far : 7 + length ps ≡ suc (suc (suc (suc (suc (suc (suc (length ps))))))) = omega arith in
      let many : 7 + 2 * length ps - (7 + length ps) ≡ length os = omega (arith, e) in
      let rest : drop (7 + length ps) all ≡ os ++ ws =
      ap (λ n. drop n all) far ∙ ap (drop (length ps)) (append_assoc ps os ws) ∙ drop-append_seam ps (os ++ ws) in
      rw (many, rest) (take-append_seam os ws)

  prefix_there : nat_eq (flags / 1 % 2) 1 ≡ true → 0 < length ps → k ≤ length ps → length os ≡ length ps
      → are_overlaps ps 1 os ≡ true → has_prefix all ≡ true
  prefix_there flag some few long right =
      let one : nat_lt 0 (length ps) ≡ true = grind (arith, nat_tests) in
      let two : nat_le k (length ps) ≡ true = grind (arith, nat_tests) in
      let three : nat_eq (1 + (length (length ps ∷ k ∷ (ps ++ os)) + 4)) (7 + 2 * length ps) ≡ true =
      grind (arith, nat_tests, long, length-append ps os) in
      rw (flag, one, two, three, words_read, overlaps_read long, right) refl

-- the flags of a block with a prefix say so
flagged : (alone : Bool) → nat_eq (cond alone 3 1 / 1 % 2) 1 ≡ true
flagged true = refl
flagged false = refl

-- what a block claims of the words behind it is confirmed
module _ (t : Tree) where
  abbrev behind_one : ℕ → List ℕ → List ℕ
  behind_one flags others = block flags (width t) others ++ code_words t

  width_confirmed : (flags : ℕ) (others : List ℕ) → confirmed_width (behind_one flags others) t ≡ Some (width t)
  width_confirmed flags others =
      let least : nat_le (width t) (width t) ≡ true = grind (arith, nat_tests) in
      rw least refl

  module _ (some : nat_lt 0 (leading t) ≡ true) where
    abbrev words : List ℕ
    words = behind_one (cond (has_literals_alone t) 3 1) (prefix_part (spread t) (leading t))

    there : has_prefix words ≡ true
    there =
        let ps = spread t in
        let least : leading t ≤ length ps = leading_least t in
        let first : 0 < leading t = grind (arith, nat_tests) in
        prefix_there (cond (has_literals_alone t) 3 1) (width t) (leading t) ps (overlaps_from ps 1 (length ps))
        (code_words t) (flagged (has_literals_alone t)) (omega (arith, least, first)) least
        (overlaps_long ps 1 (length ps)) (overlaps_are ps 1 (length ps))

    left_is : behind_prefix words t ≡ behind_literals (leading t) (spread t) t
    left_is =
        let ps = spread t in
        let read : prefix_words words ≡ ps =
        words_read (cond (has_literals_alone t) 3 1) (width t) (leading t) ps (overlaps_from ps 1 (length ps))
        (code_words t) in
        rw (there, read) refl

    prefix_confirmed : confirmed_prefix words t ≡ block_prefix t
    prefix_confirmed = rw (left_is, adjacent_left t, some) refl

    literal_confirmed : is_literal words t ≡ is_all_literals t
    literal_confirmed = by (has_literals_alone t) refl
      where
        by : (b : Bool) → has_literals_alone t ≡ b → is_literal words t ≡ is_all_literals t
        by true e =
            let each = alone_left t e in
            let size : nat_eq (leading t) (length (spread t)) ≡ true = grind (arith, nat_tests, each.1) in
            rw (left_is, e, some, size, each.0) refl
        by false e = rw (e, some) refl

  module _ (h : LawfulTree t) where
    claims : (flags : ℕ) (others : List ℕ) → block_words t ≡ block flags (width t) others
        → AreWords (behind_one flags others) → confirmed_prefix (behind_one flags others) t ≡ block_prefix t
        → is_literal (behind_one flags others) t ≡ is_all_literals t → Emits true t (behind_one flags others)
    claims flags others e a p l =
        let rest : behind_block (behind_one flags others) ≡ code_words t =
        block_behind flags (width t) others (code_words t) in
        record {
          tree = block_whole t flags (width t) others h;
          words = a;
          block = refl;
          in_front = cc (e, rest);
          only = λ vs k n w. whole_are vs t k n w ∙ sym rest;
          least = width_confirmed flags others;
          prefix = p;
          literal = l;
        }

    without : AreWords (code_words t) → Emits false t (code_words t)
    without a =
        let none : has_block (code_words t) ≡ false = no_block (code_words t) t (code_whole t h) in
        let same : behind_block (code_words t) ≡ code_words t = (none_behind (code_words t) none).1 in
        record {
          tree = whole_items (code_words t) t (code_whole t h);
          words = a;
          block = none;
          in_front = sym same;
          only = λ vs k n w. whole_are vs t k n w ∙ sym same;
          least = rw none refl;
          prefix = rw none refl;
          literal = rw none refl;
        }

    with_words : AreWords (block_words t ++ code_words t) → Emits true t (block_words t ++ code_words t)
    with_words = by (nat_lt 0 (leading t)) refl
      where
        short : List ℕ
        short = block 0 (width t) []

        by : (b : Bool) → nat_lt 0 (leading t) ≡ b → AreWords (cond b (prefixed t) short ++ code_words t)
            → Emits true t (cond b (prefixed t) short ++ code_words t)
        by true e a =
            claims (cond (has_literals_alone t) 3 1) (prefix_part (spread t) (leading t))
            (ap (λ c. cond c (prefixed t) short) e) a (prefix_confirmed e) (literal_confirmed e)
        by false e a =
            let none : confirmed_prefix (behind_one 0 []) t ≡ block_prefix t = rw e refl in
            let no_literal : is_literal (behind_one 0 []) t ≡ is_all_literals t = rw e refl in
            claims 0 [] (ap (λ c. cond c (prefixed t) short) e) a none no_literal

pub emits : (with_block : Bool) (t : Tree) → LawfulTree t → AreWords (front with_block t ++ code_words t)
    → Emits with_block t (front with_block t ++ code_words t)
emits false t h a = without t h a
emits true t h a = with_words t h a

-- Writing a block

some_leading : (t : Tree) (k : ℕ) → k ≡ leading t → k ≢ 0 → block_words t ≡ prefixed t
some_leading t k count some =
    let first : nat_lt 0 (leading t) ≡ true = grind (arith, nat_tests) in
    ap (λ c. cond c (prefixed t) (block 0 (width t) [])) first

pub some_words : (t : Tree) (k : ℕ) (ws : List ℕ) → k ≡ leading t → k ≢ 0 → ws ≡ spread t → 0 < length ws
some_words t k ws count some e = omega (arith, count, some, ap length e, leading_least t)

-- one whose skip would be no word
pub long_block : (t : Tree) (k : ℕ) (ws : List ℕ) → k ≡ leading t → k ≢ 0 → ws ≡ spread t → 2147483644 < length ws
    → AreWords (block_words t) → ⊥
long_block t k ws count some same long h =
    let words : AreWords (prefixed t) = subst AreWords (some_leading t k count some) h in
    let skip_fits : length (prefix_part (spread t) (leading t)) + 4 ≤ unlimited = words.fits 1 _ refl in
    let lengths = overlaps_long (spread t) 1 (length (spread t)) in
    let sum = length-append (spread t) (overlaps_from (spread t) 1 (length (spread t))) in
    omega (arith, skip_fits, ap length same, lengths, sum)

-- one with a prefix
pub full_block : (t : Tree) (k least flags : ℕ) (b : Bool) (ws os : List ℕ) → k ≡ leading t → k ≢ 0 → ws ≡ spread t
    → are_overlaps ws 1 os ≡ true → length os ≡ length ws → least ≡ width t → flags ≡ cond b 3 1
    → b ≡ has_literals_alone t → block flags least (length ws ∷ k ∷ (ws ++ os)) ≡ block_words t
full_block t k least flags b ws os count some words right long w f alone =
    let overlaps : os ≡ overlaps_from ws 1 (length ws) =
    overlaps_same ws os 1 right ∙ ap (overlaps_from ws 1) long in
    let same : block flags least (length ws ∷ k ∷ (ws ++ os)) ≡ prefixed t = cc in
    same ∙ sym (some_leading t k count some)

-- a block with a prefix, from the last word to the first
pub prefix_written : {M : Type 0} {a b c d e f g h : Held} (flags least k n m : ℕ) (ws os : List ℕ)
    → n ≡ length ws + length os + 6 → m ≡ length ws → Wrote M a b os → Wrote M b c ws → Wrote M c d (k ∷ [])
    → Wrote M d e (m ∷ []) → Wrote M e f (flags ∷ least ∷ unlimited ∷ []) → Wrote M f g (n ∷ [])
    → Wrote M g h (opcode_number opcode.INFO ∷ [])
    → Wrote M a h (block flags least (length ws ∷ k ∷ (ws ++ os)))
prefix_written flags least k n m ws os size many p q r s t u v =
    let skip : length (length ws ∷ k ∷ (ws ++ os)) + 4 ≡ n = omega (arith, size, length-append ws os) in
    let same : opcode_number opcode.INFO ∷ n ∷ flags ∷ least ∷ unlimited ∷ m ∷ k ∷ (ws ++ os)
    ≡ block flags least (length ws ∷ k ∷ (ws ++ os)) = cc in
    wrote_equal same (wrote_more (wrote_more (wrote_more (wrote_more (wrote_more (wrote_more p q) r) s) t) u) v)

-- what the writing of a block is to know
pub ruleset block_laws = (long_block, some_words)
