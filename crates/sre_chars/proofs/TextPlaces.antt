-- Positions in UTF-8 text: a step past a character goes to the end of its bytes, a step back to their start.
use Rattle.sre_chars.proofs.Terms.{◌≡◌, ℕ, zero, suc, add-one, ◌+◌, ◌-◌, ◌<◌, ◌≤◌, true, refl, ap, sym, ◌∙◌, arith}
use Rattle.sre_chars.proofs.Terms.{List, [], ◌∷◌, ◌++◌, length, take, drop, get_or, length-append, take-append_seam}
use Rattle.sre_chars.proofs.Terms.{drop-append_seam, take-suc, drop-cons, drop-nil, take-append-drop, append-nil}
use Rattle.sre_chars.proofs.Terms.{same_from_push, and_parts, encodes-append, encodes-chars, scalars-chars}
use Rattle.sre_chars.proofs.Terms.{IsCharBoundary-at_seam, cons_from_encodes, encodes_same, length-encode}
use Rattle.sre_chars.proofs.Terms.{len_utf8_bounds, length-le-encodes, chars, IsUtf8, IsCharBoundary, encodes}
use Rattle.sre_chars.proofs.Terms.{offset_of}
use lib.Utf8.{scalars, scalar, encode}

-- the text is the bytes of its first p characters, and then those of the rest
text_at : (bs : List ℕ) (p : ℕ) → IsUtf8 bs → bs ≡ encodes (take p (chars bs)) ++ encodes (drop p (chars bs))
text_at bs p u =
    sym (encodes-chars bs u)
    ∙ ap encodes (sym (take-append-drop p (chars bs)))
    ∙ encodes-append (take p (chars bs)) (drop p (chars bs))

pub take_offset : (bs : List ℕ) (p : ℕ) → IsUtf8 bs → take (offset_of bs p) bs ≡ encodes (take p (chars bs))
take_offset bs p u =
    let xs = encodes (take p (chars bs)) in
    ap (take (length xs)) (text_at bs p u) ∙ take-append_seam xs _

pub drop_offset : (bs : List ℕ) (p : ℕ) → IsUtf8 bs → drop (offset_of bs p) bs ≡ encodes (drop p (chars bs))
drop_offset bs p u =
    let xs = encodes (take p (chars bs)) in
    ap (drop (length xs)) (text_at bs p u) ∙ drop-append_seam xs _

-- no character takes less than a byte
pub length-chars_le : (bs : List ℕ) → IsUtf8 bs → length (chars bs) ≤ length bs
length-chars_le bs u = omega (arith, ap length (encodes-chars bs u), length-le-encodes (chars bs))

scalars-drop : (cs : List ℕ) (p : ℕ) → scalars cs ≡ true → scalars (drop p cs) ≡ true
scalars-drop [] p s = rw drop-nil refl
scalars-drop (c ∷ cs) zero s = s
scalars-drop (c ∷ cs) (suc p) s = scalars-drop cs p (and_parts (scalar c) (scalars cs) s).1

-- a text may be cut between characters
pub offset_boundary : (bs : List ℕ) (p : ℕ) → IsUtf8 bs → IsCharBoundary bs (offset_of bs p)
offset_boundary bs p u =
    IsCharBoundary-at_seam
    bs
    (encodes (take p (chars bs)))
    (encodes (drop p (chars bs)))
    (text_at bs p u)
    (drop p (chars bs), (scalars-drop (chars bs) p (scalars-chars bs u), refl))

-- before the end there is a character to read
pub some_after : (bs : List ℕ) (p : ℕ) → IsUtf8 bs → p < length (chars bs) → 0 < length (drop (offset_of bs p) bs)
some_after bs p u h =
    let c = get_or (chars bs) p 0 in
    rw (drop_offset bs p u, drop-cons (chars bs) p 0 h)
    (omega (arith, length-append (encode c) (encodes (drop (suc p) (chars bs))), length-encode c, len_utf8_bounds c))

-- it is the one that begins what is left, and what follows it begins at the next place
pub past_char : (bs : List ℕ) (p c : ℕ) (rest : List ℕ) → IsUtf8 bs → p < length (chars bs)
    → drop (offset_of bs p) bs ≡ encode c ++ rest
    → (c ≡ get_or (chars bs) p 0) × (length bs - length rest ≡ offset_of bs (p + 1))
past_char bs p c rest u h e =
    let r = cons_from_encodes (drop p (chars bs)) rest c (sym (drop_offset bs p u) ∙ e) in
    let d = drop-cons (chars bs) p 0 h in
    let same : drop (suc p) (chars bs) ≡ r.0 = cc (r.1, d) in
    let after : rest ≡ encodes (drop (suc p) (chars bs)) = sym r.2 ∙ ap encodes (sym same) in
    let whole = ap length (text_at bs (suc p) u) in
    let parts = length-append (encodes (take (suc p) (chars bs))) (encodes (drop (suc p) (chars bs))) in
    (cc (r.1, d), rw add-one (omega (arith, ap length after, whole, parts)))

-- past the start there is a character before
pub some_before : (bs : List ℕ) (p : ℕ) → IsUtf8 bs → 0 < p → p ≤ length (chars bs)
    → 0 < length (take (offset_of bs p) bs)
some_before bs zero u h l = absurd (omega arith)
some_before bs (suc q) u h l =
    let x = get_or (chars bs) q 0 in
    let parts = length-append (encodes (take q (chars bs))) (encode x ++ []) in
    rw (take_offset bs (suc q) u, take-suc (chars bs) q 0 (omega arith), encodes-append (take q (chars bs)) (x ∷ []))
    (omega (arith, parts, length-append (encode x) [], length-encode x, len_utf8_bounds x))

-- it is the one that ends what is before, and begins at the place before
pub before_char : (bs : List ℕ) (p c : ℕ) (es : List ℕ) → IsUtf8 bs → 0 < p → p ≤ length (chars bs)
    → take (offset_of bs p) bs ≡ encodes es ++ encode c
    → (c ≡ get_or (chars bs) (p - 1) 0) × (length (encodes es) ≡ offset_of bs (p - 1))
before_char bs zero c es u h l e = absurd (omega arith)
before_char bs (suc q) c es u h l e =
    let x = get_or (chars bs) q 0 in
    let whole = encodes-append es (c ∷ []) ∙ ap (λ t. encodes es ++ t) (append-nil (encode c)) in
    let same : take (suc q) (chars bs) ≡ es ++ c ∷ [] =
    encodes_same _ _ (sym (take_offset bs (suc q) u) ∙ e ∙ sym whole)
    in
    let ends = same_from_push (take q (chars bs)) es x c (sym (take-suc (chars bs) q 0 (omega arith)) ∙ same) in
    let back : suc q - 1 ≡ q = omega arith in
    rw back (sym ends.1, ap (λ t. length (encodes t)) (sym ends.0))
