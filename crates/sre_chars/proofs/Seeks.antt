-- A search for a character among bytes: an ASCII one is where its byte is, and no other character has that byte.
use Rattle.sre_chars.proofs.Terms.{◌≡◌, ℕ, suc, ◌+◌, ◌-◌, ◌<◌, ◌≤◌, inl, inr, refl, ap, sym, ◌∙◌, true, arith, List}
use Rattle.sre_chars.proofs.Terms.{◌∷◌, ◌++◌, length, take, drop, get_or, count_by, length-append, take-add, drop-cons}
use Rattle.sre_chars.proofs.Terms.{cases_lt, get_or-take, length-drop, length-take-le, encode_ascii, encodes-append}
use Rattle.sre_chars.proofs.Terms.{length-le-encodes, chars, IsUtf8, encodes, encode, begins_char, begun, offset_of}
use Rattle.sre_chars.proofs.Terms.{NoneIs, ◌≢◌, get_or-drop, count_by-le-length, IsCharBoundary-before_ascii, Sought}
use Rattle.sre_chars.proofs.AsciiSteps.{ascii_after}
use Rattle.sre_chars.proofs.Beginnings.{begun_block, begun_grows, place_at, place_in, some_begin}
use Rattle.sre_chars.proofs.TextPlaces.{drop_offset, offset_boundary}

-- n characters on are no less than n bytes on
offset_ahead : (bs : List ℕ) (p n : ℕ) → p + n ≤ length (chars bs) → offset_of bs p + n ≤ offset_of bs (p + n)
offset_ahead bs p n h =
    let some = take n (drop p (chars bs)) in
    let whole : offset_of bs (p + n) ≡ offset_of bs p + length (encodes some) =
    ap (λ cs. length (encodes cs)) (take-add p n (chars bs))
    ∙ ap length (encodes-append (take p (chars bs)) some)
    ∙ length-append (encodes (take p (chars bs))) (encodes some)
    in
    let long : length some ≡ n =
    length-take-le n (drop p (chars bs)) (omega (arith, length-drop p (chars bs)))
    in
    omega (arith, whole, length-le-encodes some, long)

-- and there are as many bytes
pub room_ahead : (bs : List ℕ) (p n : ℕ) → IsUtf8 bs → p + n ≤ length (chars bs) → offset_of bs p + n ≤ length bs
room_ahead bs p n u h = omega (arith, offset_ahead bs p n h, (offset_boundary bs (p + n) u).0)

-- where an ASCII character stands, its byte does
ascii_at : (bs : List ℕ) (q c : ℕ) → IsUtf8 bs → q < length (chars bs) → get_or (chars bs) q 0 ≡ c → c < 128
    → get_or bs (offset_of bs q) 0 ≡ c
ascii_at bs q c u h e l =
    let rest = drop (suc q) (chars bs) in
    let first : drop (offset_of bs q) bs ≡ c ∷ encodes rest =
    drop_offset bs q u
    ∙ ap encodes (drop-cons (chars bs) q 0 h)
    ∙ ap (λ x. encode x ++ encodes rest) e
    ∙ ap (λ x. x ++ encodes rest) (encode_ascii c l)
    in
    let o = offset_of bs q in
    let here : o ≡ o + 0 = omega arith in
    ap (λ i. get_or bs i 0) here ∙ sym (get_or-drop o bs 0 0) ∙ ap (λ x. get_or x 0 0) first

-- what stands in the first bytes from a place on stands so much further on
in_part : (bs : List ℕ) (o near i : ℕ) → i < near → get_or (take near (drop o bs)) i 0 ≡ get_or bs (o + i) 0
in_part bs o near i h = get_or-take near (drop o bs) i 0 h ∙ get_or-drop o bs i 0

-- what is not among the first n bytes from a place on is at no offset there
not_at : (bs : List ℕ) (c o near n i : ℕ) → n ≤ near → NoneIs (take near (drop o bs)) c 0 n → o ≤ i → i < o + n
    → get_or bs i 0 ≢ c
not_at bs c o near n i few none from to = λ is.
    let at : o + (i - o) ≡ i = omega arith in
    let same = in_part bs o near (i - o) (omega arith) ∙ ap (λ k. get_or bs k 0) at in
    none (i - o) (omega arith) (omega arith) (same ∙ is)

part_long : (bs : List ℕ) (from end : ℕ) → end ≤ length bs → length (take (end - from) (drop from bs)) ≡ end - from
part_long bs from end h = length-take-le (end - from) (drop from bs) (omega (arith, length-drop from bs))

-- a search of the bytes from one place up to another is one of all bytes
pub none_between : (bs : List ℕ) (c from end : ℕ) → end ≤ length bs
    → NoneIs (take (end - from) (drop from bs)) c 0 (length (take (end - from) (drop from bs))) → NoneIs bs c from end
none_between bs c from end h none = λ q lo hi.
    let long = part_long bs from end h in
    let part = λ (k : ℕ) (a : 0 ≤ k) (b : k < end - from). none k a (omega (arith, b, long)) in
    not_at bs c from (end - from) (end - from) q (omega arith) part lo (omega (arith, hi))

pub first_between : (bs : List ℕ) (c from end first : ℕ) → end ≤ length bs
    → first < length (take (end - from) (drop from bs)) → get_or (take (end - from) (drop from bs)) first 0 ≡ c
    → NoneIs (take (end - from) (drop from bs)) c 0 first → Sought bs c from end true (from + first + 1)
first_between bs c from end first h less is none =
    let inside : first < end - from = omega (arith, less, part_long bs from end h) in
    let back : from + first + 1 - 1 ≡ from + first = omega arith in
    rw back (
      omega arith,
      omega (arith, inside),
      sym (in_part bs from (end - from) first inside) ∙ is,
      λ q lo hi. not_at bs c from (end - from) first q (omega (arith, inside)) none lo hi,
    )

-- where none of the first n bytes from a place on is the character's, no character that begins there is it
none_there : (bs : List ℕ) (c p end near n : ℕ) → IsUtf8 bs → c < 128 → end ≤ length (chars bs) → n ≤ near
    → NoneIs (take near (drop (offset_of bs p) bs)) c 0 n
    → ((q : ℕ) → p ≤ q → q < end → offset_of bs q < offset_of bs p + n)
    → NoneIs (chars bs) c p end
none_there bs c p end near n u l h few none before = λ q from to is.
    let ahead = offset_ahead bs p (q - p) (omega arith) in
    let same : p + (q - p) ≡ q = omega arith in
    let at : offset_of bs p ≤ offset_of bs q = omega (arith, ap (offset_of bs) same, ahead) in
    not_at bs c (offset_of bs p) near n (offset_of bs q) few none at (before q from to)
    (ascii_at bs q c u (omega arith) is l)

-- none up to a position, and none from there on
pub none_on : (text : List ℕ) (c from mid to : ℕ) → NoneIs text c from mid → NoneIs text c mid to
    → NoneIs text c from to
none_on text c from mid to before behind = λ q lo hi. elim (cases_lt q mid) [
  | inl l ↦ before q lo l
  | inr h ↦ behind q h hi
]

-- where as many bytes as there are characters up to `end` do not have the character, none of those is it that begin
-- there, which are some, and no more than up to `end`
pub none_begins : (bs rest : List ℕ) (c p end left : ℕ) → IsUtf8 bs → c < 128 → p < end → end ≤ length (chars bs)
    → rest ≡ drop (offset_of bs p) bs → left ≡ end - p → NoneIs (take left rest) c 0 (length (take left rest))
    → (p < begun bs (offset_of bs p + left))
    × (begun bs (offset_of bs p + left) ≤ end)
    × NoneIs (chars bs) c p (begun bs (offset_of bs p + left))
none_begins bs rest c p end left u l some h cut left_is none =
    let o = offset_of bs p in
    let from = place_in bs bs o p refl u refl (omega (arith, some, h)) in
    let room = room_ahead bs p left u (omega (arith, left_is, some, h)) in
    let long : length (take left rest) ≡ left =
    length-take-le left rest (omega (arith, ap length cut, length-drop o bs, room))
    in
    let part : NoneIs (take left (drop o bs)) c 0 left =
    rw (← cut) (λ q lo hi. none q lo (omega (arith, long, hi)))
    in
    let few = count_by-le-length begins_char (take left (drop o bs)) in
    let most = ap (λ r. length (take left r)) cut in
    let upto : begun bs (o + left) ≤ end =
    omega (arith, begun_block bs o left, from.begun_before, few, most, long, left_is)
    in (
      omega (arith, some_begin bs o left from.boundary (omega (arith, left_is, some)) room, from.begun_before),
      upto,
      none_there bs c p (begun bs (o + left)) left left u l (omega (arith, upto, h)) (omega arith) part
          (λ q _ to. elim (cases_lt (offset_of bs q) (o + left)) [
            | inl less ↦ less
            | inr past ↦
                let there = place_in bs bs (offset_of bs q) q refl u refl (omega (arith, to, upto, h)) in
                absurd (omega (arith, begun_grows bs (o + left) (offset_of bs q) past, there.begun_before, to))
          ]),
    )

-- the first of these bytes that is the character's is that of the first such character, behind as many as begin before
pub first_begins : (bs rest : List ℕ) (c p end left passed count : ℕ) → IsUtf8 bs → c < 128 → p < end
    → end ≤ length (chars bs) → rest ≡ drop (offset_of bs p) bs → left ≡ end - p → passed < length (take left rest)
    → get_or (take left rest) passed 0 ≡ c → NoneIs (take left rest) c 0 passed
    → count ≡ count_by begins_char (take passed rest)
    → (p + count < end)
    × (get_or (chars bs) (p + count) 0 ≡ c)
    × (offset_of bs p + passed + 1 ≡ offset_of bs (p + count + 1))
    × NoneIs (chars bs) c p (p + count)
first_begins bs rest c p end left passed count u l some h cut left_is inside is none many =
    let o = offset_of bs p in
    let from = place_in bs bs o p refl u refl (omega (arith, some, h)) in
    let room = room_ahead bs p left u (omega (arith, left_is, some, h)) in
    let long : length (take left rest) ≡ left =
    length-take-le left rest (omega (arith, ap length cut, length-drop o bs, room))
    in
    let less : passed < left = omega (arith, inside, long) in
    let byte : c ≡ get_or bs (o + passed) 0 =
    sym is
    ∙ ap (λ r. get_or (take left r) passed 0) cut
    ∙ in_part bs o left passed less
    in
    let begun_there : begun bs (o + passed) ≡ p + count =
    begun_block bs o passed
    ∙ omega (arith, from.begun_before, many, ap (λ r. count_by begins_char (take passed r)) cut)
    in
    let boundary = IsCharBoundary-before_ascii bs (o + passed) (omega (arith, less, room)) (rw (← byte) l) in
    let place = place_at bs bs (o + passed) (p + count) refl u boundary begun_there in
    let part : NoneIs (take left (drop o bs)) c 0 passed = rw (← cut) none in
    let few = count_by-le-length begins_char (take passed rest) in
    let within : passed ≤ length rest = omega (arith, less, long, ap length cut, length-drop o bs, room) in
    let before : p + count < end = omega (arith, many, few, length-take-le passed rest within, less, left_is) in
    let step = ascii_after bs (p + count) c u (omega (arith, before, h)) (byte ∙ ap (λ i. get_or bs i 0) place.0) l in (
      before,
      sym step.0,
      omega (arith, place.0, step.1),
      none_there bs c p (p + count) left passed u l place.1 (omega arith) part (λ q _ to.
          let ahead = offset_ahead bs q (p + count - q) (omega (arith, place.1)) in
          let same : q + (p + count - q) ≡ p + count = omega arith in
          omega (arith, ap (offset_of bs) same, ahead, place.0)),
    )
