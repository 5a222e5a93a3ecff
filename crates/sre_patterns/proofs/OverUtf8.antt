-- Texts of UTF-8 are seen as their bytes, in which each character is whole.
use Rattle.sre_patterns.proofs.Terms.{◌≡◌, ℕ, zero, suc, ◌+◌, ◌<◌, ◌≤◌, true, refl, ap, sym, ◌∙◌, arith, List, [], ◌∷◌}
use Rattle.sre_patterns.proofs.Terms.{◌++◌, length, take, drop, get_or, Some, and_parts, nat_tests, get_or-take}
use Rattle.sre_patterns.proofs.Terms.{length-take-le, len_utf8_bounds, IsScalar, len_utf8, in_ranges, literal, char_in}
use Rattle.sre_patterns.proofs.Terms.{cat, Matches, Table, Test, Plain, holds, Subject, char_at, InUtf8, CoversTest}
use Rattle.sre_patterns.proofs.Terms.{length-append, take-take, append_assoc, encode_utf8, read_utf8}
use Rattle.sre_model.specs.Tree.{Literal}
use Rattle.std.proofs.Math.Seq.{drop-cons, take-suc}
use Rattle.regex_hir.proofs.TextLemmas.{char_at_parts, has_bytes_at_from, char_at_from, has_bytes_at_parts}
use Rattle.std.proofs.lemmas.Str.{encodes-append, scalars-chars, chars_from_encodes, length-encode, IsUtf8-take}
use Rattle.std.specs.Str.{chars, IsUtf8}
use lib.Utf8.{scalars, scalar, encodes, encode}
use Rattle.sre_chars.specs.Texts.{offset_of}
use Rattle.sre_chars.proofs.TextPlaces.{take_offset, drop_offset, offset_boundary}
use Rattle.sre_patterns.proofs.Composed.{covers-one}

scalar-at : (cs : List ℕ) (p : ℕ) → scalars cs ≡ true → p < length cs → scalar (get_or cs p 0) ≡ true
scalar-at [] p s l = absurd (omega arith)
scalar-at (c ∷ cs) zero s l = (and_parts (scalar c) (scalars cs) s).0
scalar-at (c ∷ cs) (suc p) s l = scalar-at cs p (and_parts (scalar c) (scalars cs) s).1 (omega arith)

-- the bytes up to a place are UTF-8, of the characters up to it
cut-utf8 : (bs : List ℕ) (e : ℕ) → IsUtf8 bs → IsUtf8 (read_utf8 bs e)
cut-utf8 bs e u = IsUtf8-take bs (offset_of bs e) u (offset_boundary bs e u)

cut-chars : (bs : List ℕ) (e : ℕ) → IsUtf8 bs → take e (chars bs) ≡ chars (read_utf8 bs e)
cut-chars bs e u = chars_from_encodes (take e (chars bs)) (read_utf8 bs e) (cut-utf8 bs e u) (sym (take_offset bs e u))

-- places up to it are the same in both
cut-offset : (bs : List ℕ) (e p : ℕ) → IsUtf8 bs → p ≤ e → offset_of (read_utf8 bs e) p ≡ offset_of bs p
cut-offset bs e p u l =
    ap (λ cs. length (encodes (take p cs))) (sym (cut-chars bs e u))
    ∙ ap (λ cs. length (encodes cs)) (take-take p e (chars bs) l)

offset-next : (bs : List ℕ) (p : ℕ) → p < length (chars bs)
    → offset_of bs (p + 1) ≡ offset_of bs p + len_utf8 (get_or (chars bs) p 0)
offset-next bs p l =
    let c = get_or (chars bs) p 0 in
    let one : p + 1 ≡ suc p = omega arith in
    let grown : encodes (take (suc p) (chars bs)) ≡ encodes (take p (chars bs)) ++ (encode c ++ []) =
    ap encodes (take-suc (chars bs) p 0 l) ∙ encodes-append (take p (chars bs)) (c ∷ []) in
    ap (offset_of bs) one
    ∙ ap length grown
    ∙ omega (
      arith,
      length-append (encodes (take p (chars bs))) (encode c ++ []),
      length-append (encode c) [],
      length-encode c,
    )

pub utf8-seen : (bs : List ℕ) (s : Subject) → IsUtf8 bs → s.text ≡ chars bs → s.end ≤ length (chars bs)
    → InUtf8 s (read_utf8 bs s.end) (offset_of bs)
utf8-seen bs s u same fits =
    let hay = read_utf8 bs s.end in
    let cs = chars bs in
    let cut : take s.end cs ≡ chars hay = cut-chars bs s.end u in
    let long : length (chars hay) ≡ s.end = ap length (sym cut) ∙ length-take-le s.end cs fits in
    record {
      starts = refl;
      ends = ap length (sym (take_offset bs s.end u));
      char = λ p inside.
          let c = get_or (chars hay) p 0 in
          let is : c ≡ char_at s p =
          ap (λ l. get_or l p 0) (sym cut) ∙ get_or-take s.end cs p 0 inside ∙ ap (λ l. get_or l p 0) (sym same) in
          let within : p < length (chars hay) = omega (arith, long) in
          let here : drop (offset_of hay p) hay ≡ encode c ++ encodes (drop (suc p) (chars hay)) =
          drop_offset hay p (cut-utf8 bs s.end u) ∙ ap encodes (drop-cons (chars hay) p 0 within) in
          let at : drop (offset_of bs p) hay ≡ encode c ++ encodes (drop (suc p) (chars hay)) =
          ap (λ n. drop n hay) (sym (cut-offset bs s.end p u (omega arith))) ∙ here in
          char_at_from hay (offset_of bs p) c (encodes (drop (suc p) (chars hay)))
          (scalar-at (chars hay) p (scalars-chars hay (cut-utf8 bs s.end u)) within) at
          ∙ ap (λ x. Some x) is;
      next = λ p inside.
          offset-next bs p (omega arith) ∙ ap (λ l. offset_of bs p + len_utf8 (get_or l p 0)) (sym same);
    }

-- any class that has each character that passes
pub utf8-take : (table : Table) (ranges : List (ℕ × ℕ)) (t : Test)
    → ((c : ℕ) → IsScalar c → holds table t c ≡ true → in_ranges ranges c ≡ true)
    → CoversTest InUtf8 table (char_in ranges) t
utf8-take table ranges t each =
    covers-one InUtf8 table (char_in ranges) t (λ s hay off v p inside h.
    let found = v.char p inside in
    let scalar = (char_at_parts hay (off p) (char_at s p) found).0 in
    (char_at s p, found, each (char_at s p) scalar h, v.next p inside))

-- a literal character, by its bytes
pub utf8-literal : (table : Table) (v : ℕ) → CoversTest InUtf8 table (literal (encode_utf8 v)) (Literal Plain v)
utf8-literal table v =
    covers-one InUtf8 table (literal (encode_utf8 v)) (Literal Plain v) (λ s hay off w p inside h.
    let is : v ≡ char_at s p = grind (arith, nat_tests) in
    let stands = (char_at_parts hay (off p) (char_at s p) (w.char p inside)).1 in (
      has_bytes_at_from hay (off p) (encode_utf8 v) (drop (off p + len_utf8 (char_at s p)) hay)
          (stands ∙ ap (λ c. encode_utf8 c ++ drop (off p + len_utf8 (char_at s p)) hay) (sym is)),
      w.next p inside ∙ omega (arith, length-encode v, ap len_utf8 is),
    ))

-- positions are no further apart than their bytes
pub utf8-apart : (s : Subject) (hay : List ℕ) (off : ℕ → ℕ) → InUtf8 s hay off → (n p : ℕ) → p + n ≤ s.end
    → off p + n ≤ off (p + n)
utf8-apart s hay off v zero p l = let same : p + zero ≡ p = omega arith in omega (arith, ap off same)
utf8-apart s hay off v (suc n) p l =
    let same : p + suc n ≡ p + 1 + n = omega arith in
    let later = utf8-apart s hay off v n (p + 1) (omega arith) in
    omega (arith, ap off same, later, v.next p (omega arith), len_utf8_bounds (char_at s p))

-- literals, one after the other, are one
pub literals-joined : (a b : List ℕ) (hay : List ℕ) (i j : ℕ) → Matches hay (cat (literal a) (literal b)) i j
    → Matches hay (literal (a ++ b)) i j
literals-joined a b hay i j m =
    let front = has_bytes_at_parts hay i a m.1.0 in
    let at : drop m.0 hay ≡ b ++ drop (m.0 + length b) hay = has_bytes_at_parts hay m.0 b m.2.0 in
    let whole : drop i hay ≡ (a ++ b) ++ drop (m.0 + length b) hay =
    front ∙ ap (λ n. a ++ drop n hay) (sym m.1.1) ∙ ap (λ l. a ++ l) at
    ∙ sym (append_assoc a b (drop (m.0 + length b) hay)) in (
      has_bytes_at_from hay i (a ++ b) (drop (m.0 + length b) hay) whole,
      omega (arith, length-append a b, m.1.1, m.2.1),
    )
