-- How bytes and UTF-8 are seen, and the order of positions there.
use Rattle.sre_finder.proofs.Terms.{◌≡◌, ◌≤◌, ◌<◌, ◌+◌, ℕ, List, length, take, refl, sym, ap, ◌∙◌, subst, arith, inl}
use Rattle.sre_finder.proofs.Terms.{inr, cases_lt, length-take-le, offset_of, SeenAs, chars, IsUtf8, begun, ascii_table}
use Rattle.std.proofs.Common.{◌-◌, Fits, w8, get_or}
use Rattle.sre_chars.proofs.Beginnings.{place_in, begun_block}
use Rattle.sre_chars.specs.declared.constants.EmptyRule.TheVariants.{Never}
use Rattle.sre_model.specs.Subject.{Subject, char_at}
use Rattle.sre_patterns.specs.declared.encoding.Encoding.TheVariants.{Bytes, Ascii, Utf8}
use Rattle.sre_patterns.specs.Covers.{InBytes, InUtf8, read_utf8}
use Rattle.sre_patterns.proofs.OverBytes.{bytes-seen, bytes-places}
use Rattle.sre_patterns.proofs.OverUtf8.{utf8-seen}
use Rattle.sre_patterns.proofs.SidesSeen.{ascii-of-utf8}

-- bytes up to a position
pub bytes_seen : (text hay : List ℕ) (end : ℕ) → ((i : ℕ) → Fits w8 (get_or text i 0)) → end ≤ length text
    → hay ≡ take end text → SeenAs Bytes text (λ p. p) end hay
bytes_seen text hay end small inside is = record {
  seen = λ s same at.
      let fits : s.end ≤ length s.text = subst (λ t. s.end ≤ length t) (sym same) (omega (arith, inside, at)) in
      let below : (p : ℕ) → p < s.end → char_at s p < 256 =
      (λ p _. subst (λ t. get_or t p 0 < 256) (sym same) (omega (arith, small p))) in
      let bytes : take s.end s.text ≡ hay =
      ap (λ t. take s.end t) same ∙ ap (λ n. take n text) at ∙ sym is in
      subst (λ h. InBytes 256 s h (λ p. p)) bytes (bytes-seen 256 s fits below);
  order = λ p q l _. l;
  whole = sym (ap length is ∙ length-take-le end text inside);
}

-- in UTF-8 further positions stand at further bytes
pub offset_order : (text : List ℕ) (p q : ℕ) → IsUtf8 text → p ≤ length (chars text) → q ≤ length (chars text)
    → offset_of text p ≤ offset_of text q → p ≤ q
offset_order text p q u inside within l =
    let first = place_in text text (offset_of text p) p refl u refl inside in
    let second = place_in text text (offset_of text q) q refl u refl within in
    let gap : ℕ = offset_of text q - offset_of text p in
    let whole : offset_of text p + gap ≡ offset_of text q = omega (arith, l) in
    let more = ap (begun text) (sym whole) ∙ begun_block text (offset_of text p) gap in
    omega (arith, more, first.begun_before, second.begun_before)

pub offset_less : (text : List ℕ) (p q : ℕ) → IsUtf8 text → p < q → q ≤ length (chars text)
    → offset_of text p < offset_of text q
offset_less text p q u l within = elim (cases_lt (offset_of text p) (offset_of text q)) [
  | (inl less) ↦ less
  | (inr more) ↦ absurd (omega (arith, l, offset_order text q p u within (omega (arith, l, within)) more))
]

pub offset_grows : (text : List ℕ) (p q : ℕ) → IsUtf8 text → p ≤ q → q ≤ length (chars text)
    → offset_of text p ≤ offset_of text q
offset_grows text p q u l within = elim (cases_lt p q) [
  | (inl less) ↦ omega (arith, offset_less text p q u less within)
  | (inr more) ↦
      let same : p ≡ q = omega (arith, l, more) in omega (arith, ap (offset_of text) same)
]

-- UTF-8 up to a position
pub utf8_seen : (text hay : List ℕ) (end : ℕ) → IsUtf8 text → end ≤ length (chars text)
    → hay ≡ take (offset_of text end) text → SeenAs Utf8 (chars text) (offset_of text) end hay
utf8_seen text hay end u inside is = record {
  seen = λ s same at.
      let fits : s.end ≤ length (chars text) = omega (arith, inside, at) in
      let bytes : read_utf8 text s.end ≡ hay =
      ap (λ n. take (offset_of text n) text) at ∙ sym is in
      subst (λ h. InUtf8 s h (offset_of text)) bytes (utf8-seen text s u same fits);
  order = λ p q l within. offset_grows text p q u l (omega (arith, within, inside));
  whole =
      let place = place_in text text (offset_of text end) end refl u refl inside in
      sym (ap length is ∙ length-take-le (offset_of text end) text place.in_bounds);
}

-- UTF-8 with as many bytes as characters up to a position is ASCII
pub ascii_seen : (text hay : List ℕ) (place : ℕ → ℕ) (end : ℕ) → SeenAs Utf8 text place end hay → place end ≡ end
    → SeenAs Ascii text place end hay
ascii_seen text hay place end seen same = record {
  seen = λ s is at. ascii-of-utf8 s hay place (seen.seen s is at) (ap place at ∙ same ∙ sym at);
  order = seen.order;
  whole = seen.whole;
}

-- a position behind which no more bytes are is inside the text's bytes
pub offset_inside : (text : List ℕ) (p : ℕ) → IsUtf8 text → p ≤ length (chars text) → offset_of text p ≤ length text
offset_inside text p u inside = (place_in text text (offset_of text p) p refl u refl inside).in_bounds

-- where up to a position are as many bytes as characters, each position stands at the byte of its number
pub alike : (text : List ℕ) (end p : ℕ) → IsUtf8 text → end ≤ length (chars text) → offset_of text end ≡ end
    → p ≤ end → offset_of text p ≡ p
alike text end p u inside same l =
    let s : Subject = record { text = chars text; end = end; table = ascii_table; empty_rule = Never } in
    bytes-places 128 s (read_utf8 text end) (offset_of text)
    (ascii-of-utf8 s (read_utf8 text end) (offset_of text) (utf8-seen text s u refl inside) same) p l
