-- Positions between characters, as positions between bytes: where a position code holds an assertion does. What is at
-- both edges of a character.
use Rattle.sre_patterns.proofs.Terms.{◌≡◌, ℕ, zero, suc, ◌+◌, ◌-◌, ◌<◌, ◌≤◌, Bool, true, false, cond, not, ◌&&◌, ◌||◌}
use Rattle.sre_patterns.proofs.Terms.{nat_eq, nat_lt, List, length, Option, None, Some, slice_get, refl, sym, ap, ap₂}
use Rattle.sre_patterns.proofs.Terms.{◌∙◌, subst, inl, inr, arith, slice_index, and_parts, cases_lt, nat_tests}
use Rattle.sre_patterns.proofs.Terms.{slice_get_past, slice_get-get_or, look, Look, Table, SreAtCode, Subject, char_at}
use Rattle.sre_patterns.proofs.Terms.{holds_at, View, CoversItem, InBytes, InUtf8, exact_look, len_utf8_bounds}
use Rattle.sre_patterns.proofs.Terms.{len_utf8, look_of, in_ascii, is_boundary, is_on_nothing, bars_non_boundary}
use Rattle.sre_model.specs.Tree.{At}
use Rattle.regex_hir.proofs.TextLemmas.{char_at_fits, byte_before-zero, byte_before-add-one}
use Rattle.std.proofs.Common.{◌==◌, is_some}
use Rattle.ucd_perl.specs.Perl.{is_word_byte}
use Rattle.regex_hir.specs.declared.look.Look.TheVariants.{EndLf, WordAsciiNegate}
use Rattle.sre_chars.specs.Tables.{is_ascii_alphanumeric, is_scalar, is_in_ranges}
use Rattle.sre_chars.specs.Categories.{is_word, is_unicode_word, is_linebreak}
use Rattle.sre_patterns.proofs.Composed.{covers-position}
use Rattle.regex_hir.proofs.Utf8Lemmas.{char_at_cases}
use Rattle.sre_chars.specs.declared.constants.SreAtCode.TheVariants as position
use Rattle.regex_hir.specs.Text as bytes
use Rattle.regex_hir.specs.Looks as looks

-- a byte at an edge of a character: an ASCII character itself, and no ASCII byte else
pub record Alike (b c : ℕ) : Type 0 where
  pub ascii : c < 128 → b ≡ c
  pub other : 128 ≤ c → 128 ≤ b

-- what stands at both edges of each character
pub record Sided (s : Subject) (hay : List ℕ) (off : ℕ → ℕ) : Type 0 where
  pub starts : off 0 ≡ 0
  pub ends : off s.end ≡ length hay
  pub first : (p : ℕ) → p < s.end → (b : ℕ) × (slice_get hay (off p) ≡ Some b) × Alike b (char_at s p)
  pub last : (p : ℕ) → p < s.end → (b : ℕ) × (bytes.byte_before hay (off (p + 1)) ≡ Some b) × Alike b (char_at s p)

pub bytes-sided : (bound : ℕ) (s : Subject) (hay : List ℕ) (off : ℕ → ℕ) → InBytes bound s hay off → Sided s hay off
bytes-sided bound s hay off v =
    let itself : (c : ℕ) → Alike c c = λ c. record { ascii = λ l. refl; other = λ l. l } in
    record {
      starts = v.starts;
      ends = v.ends;
      first = λ p inside. (char_at s p, v.byte p inside, itself (char_at s p));
      last = λ p inside. (
        char_at s p,
        ap (bytes.byte_before hay) (v.next p inside) ∙ byte_before-add-one hay (off p) ∙ v.byte p inside,
        itself (char_at s p),
      );
    }

-- what stands on one side of a position: nothing, where a test of the position fails, or else a byte like a character
data Beside (c : ℕ) : Option ℕ → Bool → Type 0 where
  nothing : Beside c None false
  something : (b : ℕ) → Alike b c → Beside c (Some b) true

-- tests agree on an ASCII character itself, and on each other one and the bytes at its edges
abbrev Agree : (ℕ → Bool) → (ℕ → Bool) → Type 0
Agree T U = ((c : ℕ) → c < 128 → T c ≡ U c) × ((b c : ℕ) → 128 ≤ b → 128 ≤ c → T b ≡ U c)

line : Agree (λ b. b == 10) is_linebreak
line = ((λ c l. refl), (λ b c k l. grind (arith, nat_tests)))

word : Agree is_word_byte is_word
word = ((λ c l. grind (arith, nat_tests)), (λ b c k l. grind (arith, nat_tests)))

tested : {c : ℕ} {o : Option ℕ} {x : Bool} {T U : ℕ → Bool} → Agree T U → Beside c o x
    → bytes.is_some_and o T ≡ (x && U c)
tested g nothing = refl
tested {c = c} {T = T} g (something b a) = elim (cases_lt c 128) [
  | (inl low) ↦ ap T (a.ascii low) ∙ g.0 c low
  | (inr high) ↦ g.1 b c (a.other high) high
]

edge : {c : ℕ} {o : Option ℕ} {x : Bool} → Beside c o x → not (is_some o) ≡ not x
edge nothing = refl
edge (something b a) = refl

module _ (s : Subject) (hay : List ℕ) (off : ℕ → ℕ) (v : Sided s hay off) where
  before-beside : (p : ℕ) → p ≤ s.end → Beside (char_at s (p - 1)) (bytes.byte_before hay (off p)) (nat_lt 0 p)
  before-beside zero l = rw (v.starts, byte_before-zero hay) nothing
  before-beside (suc q) l =
      let x = v.last q (omega arith) in
      let one : suc q ≡ q + 1 = omega arith in
      let back : q + 1 - 1 ≡ q = omega arith in
      let past : nat_lt 0 (q + 1) ≡ true = grind (arith, nat_tests) in
      rw one (rw (x.1, past, back) (something x.0 x.2))

  after-beside : (p : ℕ) → p ≤ s.end → Beside (char_at s p) (slice_get hay (off p)) (nat_lt p s.end)
  after-beside p l = by_test (nat_lt p s.end) refl
    where
      by_test : (y : Bool) → nat_lt p s.end ≡ y → Beside (char_at s p) (slice_get hay (off p)) y
      by_test true e = let x = v.first p (grind (arith, nat_tests)) in rw x.1 (something x.0 x.2)
      by_test false e =
          let at : p ≡ s.end = grind (arith, nat_tests) in
          rw (slice_get_past hay (off p) (omega (arith, ap off at, v.ends))) nothing

  -- the tests of both sides of a position
  starts : (p : ℕ) → p ≤ s.end → not (is_some (bytes.byte_before hay (off p))) ≡ nat_eq p 0
  starts p l = let same : not (nat_lt 0 p) ≡ nat_eq p 0 = grind (arith, nat_tests) in edge (before-beside p l) ∙ same

  ends : (p : ℕ) → p ≤ s.end → not (is_some (slice_get hay (off p))) ≡ nat_eq p s.end
  ends p l =
      let same : not (nat_lt p s.end) ≡ nat_eq p s.end = grind (arith, nat_tests) in edge (after-beside p l) ∙ same

  boundary : (p : ℕ) → p ≤ s.end
      → cond (bytes.is_some_and (bytes.byte_before hay (off p)) is_word_byte)
      (not (bytes.is_some_and (slice_get hay (off p)) is_word_byte))
      (bytes.is_some_and (slice_get hay (off p)) is_word_byte) ≡ is_boundary s is_word p
  boundary p l =
      ap₂ (λ x y. cond x (not y) y) (tested word (before-beside p l)) (tested word (after-beside p l))

  -- on nothing no boundary is anyway
  some-boundary : (T : ℕ → Bool) (p : ℕ) → is_boundary s T p ≡ (not (is_on_nothing s p) && is_boundary s T p)
  some-boundary T p = grind (arith, nat_tests)

  -- an assertion, if there is one, that holds just where a position does
  abbrev Agrees : SreAtCode → Option Look → Type 0
  Agrees a None = Unit {0}
  Agrees a (Some l) = (p : ℕ) → p ≤ s.end → looks.holds l hay (off p) ≡ holds_at s a p

  agrees : (a : SreAtCode) → Agrees a (exact_look a)
  unfolding looks.holds looks.holds_between
  agrees position.BEGINNING = starts
  agrees position.BEGINNING_LINE = λ p l. ap₂ (λ x y. x || y) (starts p l) (tested line (before-beside p l))
  agrees position.BEGINNING_STRING = starts
  agrees position.BOUNDARY = λ p l. boundary p l ∙ some-boundary is_word p
  agrees position.END_LINE = λ p l. ap₂ (λ x y. x || y) (ends p l) (tested line (after-beside p l))
  agrees position.END_STRING = ends
  agrees position.LOC_BOUNDARY = λ p l. boundary p l ∙ some-boundary is_word p
  agrees a = tt

  pub look-agrees : (a : SreAtCode) (l : Look) → exact_look a ≡ Some l → Agrees a (Some l)
  look-agrees a l e = subst (Agrees a) e (agrees a)

  -- and one that holds at least where it does
  abbrev Implies : SreAtCode → Option Look → Type 0
  Implies a None = Unit {0}
  Implies a (Some l) = (p : ℕ) → p ≤ s.end → holds_at s a p ≡ true → looks.holds l hay (off p) ≡ true

  end : Implies position.END (Some EndLf)
  end p l h = agrees position.END_LINE p l ∙ grind (arith, nat_tests)

  non_boundary : Implies position.NON_BOUNDARY (Some WordAsciiNegate)
  unfolding looks.holds looks.holds_between
  non_boundary p l h =
      ap not (boundary p l) ∙ (and_parts (not (bars_non_boundary s p)) (not (is_boundary s is_word p)) h).1

  implies : (a : SreAtCode) → Implies a (look_of a)
  implies position.END = end
  implies position.NON_BOUNDARY = non_boundary
  implies position.LOC_NON_BOUNDARY = non_boundary
  implies position.UNI_BOUNDARY = tt
  implies position.UNI_NON_BOUNDARY = tt
  implies a = λ p l h. agrees a p l ∙ h

  look-implies : (a : SreAtCode) (l : Look) → look_of a ≡ Some l → Implies a (Some l)
  look-implies a l e = subst (Implies a) e (implies a)

-- two positions that hold at the same places of the window
abbrev pub HoldAlike : Subject → SreAtCode → SreAtCode → Type 0
HoldAlike s a b = (p : ℕ) → p ≤ s.end → holds_at s a p ≡ holds_at s b p

-- a position is covered by the assertion of one that holds at the same places
pub covers-look_of : (V : View) (table : Table)
    → ((s : Subject) (hay : List ℕ) (off : ℕ → ℕ) → V s hay off → Sided s hay off)
    → (a b : SreAtCode) → ((s : Subject) (hay : List ℕ) (off : ℕ → ℕ) → V s hay off → HoldAlike s a b)
    → (l : Look) → look_of a ≡ Some l → CoversItem V table (look l) (At b)
covers-look_of V table sided a b alike l e =
    covers-position V table (look l) b (λ s hay off v p i h. (
      look-implies s hay off (sided s hay off v) a l e p i (alike s hay off v p i ∙ h),
      refl,
    ))

-- in ASCII each table has the same words
module _ (s : Subject) (hay : List ℕ) (off : ℕ → ℕ) (v : InBytes 128 s hay off) where
  ascii-word : (p : ℕ) → p < s.end → is_word (char_at s p) ≡ is_unicode_word s.table (char_at s p)
  ascii-word p inside =
      let small : nat_lt (char_at s p) 128 ≡ true = let below = v.below p inside in grind (arith, nat_tests) in
      ap (λ y. char_at s p == 95 || cond y (is_ascii_alphanumeric (char_at s p))
      (is_scalar (char_at s p) && is_in_ranges s.table.alnum (char_at s p))) (sym small)

  same-boundary : (T U : ℕ → Bool) → ((p : ℕ) → p < s.end → T (char_at s p) ≡ U (char_at s p)) → (p : ℕ)
      → p ≤ s.end → is_boundary s T p ≡ is_boundary s U p
  same-boundary T U same p l =
      let here : p < s.end → T (char_at s p) ≡ U (char_at s p) = same p in
      let back : 0 < p → T (char_at s (p - 1)) ≡ U (char_at s (p - 1)) = λ k. same (p - 1) (omega arith) in
      grind (arith, nat_tests)

  ascii-boundary : (p : ℕ) → p ≤ s.end → is_boundary s is_word p ≡ is_boundary s (is_unicode_word s.table) p
  ascii-boundary = same-boundary is_word (is_unicode_word s.table) ascii-word

  pub ascii-alike : (a : SreAtCode) → HoldAlike s (in_ascii a) a
  ascii-alike position.UNI_BOUNDARY p l = ap (λ y. not (is_on_nothing s p) && y) (ascii-boundary p l)
  ascii-alike position.UNI_NON_BOUNDARY p l = ap (λ y. not (bars_non_boundary s p) && not y) (ascii-boundary p l)
  ascii-alike a p l = refl

-- a byte inside a character
abbrev pub IsLater : ℕ → Type 0
IsLater b = (128 ≤ b) × (b < 192)

-- a character that stands at i is its own byte, or else its first byte is none of those inside a character
pub record CharBytes (hay : List ℕ) (i c : ℕ) : Type 0 where
  pub one : c < 128 → (len_utf8 c ≡ 1) × (slice_index hay i ≡ c)
  pub first : 128 ≤ c → 192 ≤ slice_index hay i
  pub later : (k : ℕ) → i < k → k < i + len_utf8 c → IsLater (slice_index hay k)

pub char-bytes : (hay : List ℕ) (i c : ℕ) → bytes.char_at hay i ≡ Some c → CharBytes hay i c
char-bytes hay i c found =
    let cases = (char_at_cases hay i c found).1 in
    record {
      one = λ l. grind (arith, nat_tests);
      first = λ l. grind (arith, nat_tests);
      later = λ k after before.
          let second : k ≡ i + 1 → slice_index hay k ≡ slice_index hay (i + 1) = λ e. ap (slice_index hay) e in
          let third : k ≡ i + 2 → slice_index hay k ≡ slice_index hay (i + 2) = λ e. ap (slice_index hay) e in
          let fourth : k ≡ i + 3 → slice_index hay k ≡ slice_index hay (i + 3) = λ e. ap (slice_index hay) e in
          grind (arith, nat_tests);
    }

pub utf8-sided : (s : Subject) (hay : List ℕ) (off : ℕ → ℕ) → InUtf8 s hay off → Sided s hay off
utf8-sided s hay off v = record {
  starts = v.starts;
  ends = v.ends;
  first = λ p inside. edge p inside (off p) (omega arith) (omega (arith, len_utf8_bounds (char_at s p)));
  last = λ p inside.
      let n = len_utf8 (char_at s p) in
      let some : 1 ≤ n = omega (arith, len_utf8_bounds (char_at s p)) in
      let back : off p + n ≡ off p + n - 1 + 1 = omega arith in
      let x = edge p inside (off p + n - 1) (omega arith) (omega arith) in (
        x.0,
        ap (bytes.byte_before hay) (v.next p inside ∙ back) ∙ byte_before-add-one hay (off p + n - 1) ∙ x.1,
        x.2,
      );
}
  where
    -- each byte of a character is like it
    edge : (p : ℕ) → p < s.end → (k : ℕ) → off p ≤ k → k < off p + len_utf8 (char_at s p)
        → (b : ℕ) × (slice_get hay k ≡ Some b) × Alike b (char_at s p)
    edge p inside k from to =
        let found = v.char p inside in
        let all = char-bytes hay (off p) (char_at s p) found in (
          slice_index hay k,
          slice_get-get_or hay k 0 (omega (arith, to, char_at_fits hay (off p) (char_at s p) found)),
          record {
            ascii = λ l.
                let at : k ≡ off p = omega (arith, from, to, all.one l) in
                ap (slice_index hay) at ∙ (all.one l).1;
            other = λ l.
                let same : k ≡ off p → slice_index hay k ≡ slice_index hay (off p) = λ e. ap (slice_index hay) e in
                let later : off p < k → 128 ≤ slice_index hay k = λ h. (all.later k h to).0 in
                let high = all.first l in grind arith;
          },
        )
