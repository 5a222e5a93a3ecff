-- Positions in each kind of text: what is on both sides of them, which of them hold equally, and their order.
use Rattle.sre_patterns.proofs.Terms.{ℕ, List, refl, SreAtCode, Subject, Rises, view_of, position_in, ◌≡◌, ◌+◌, ◌-◌}
use Rattle.sre_patterns.proofs.Terms.{◌<◌, ◌≤◌, Some, ap, ◌∙◌, arith, nat_tests, len_utf8, char_at, InBytes, InUtf8}
use Rattle.sre_patterns.proofs.Edges.{Sided, HoldAlike, bytes-sided, ascii-alike, utf8-sided}
use Rattle.sre_patterns.proofs.ExactTrees.{bytes-rise, utf8-rise}
use Rattle.sre_patterns.specs.declared.encoding.Encoding as encoding_type
use Rattle.sre_patterns.specs.declared.encoding.Encoding.TheVariants as encoding
use Rattle.sre_patterns.proofs.OverUtf8.{utf8-apart}

pub sided : (e : encoding_type.Encoding) (s : Subject) (hay : List ℕ) (off : ℕ → ℕ) → view_of e s hay off
    → Sided s hay off
sided encoding.Bytes s hay off v = bytes-sided 256 s hay off v
sided encoding.Ascii s hay off v = bytes-sided 128 s hay off v
sided encoding.Utf8 s hay off v = utf8-sided s hay off v

pub alike : (e : encoding_type.Encoding) (a : SreAtCode) (s : Subject) (hay : List ℕ) (off : ℕ → ℕ)
    → view_of e s hay off → HoldAlike s (position_in e a) a
alike encoding.Bytes a s hay off v = λ p l. refl
alike encoding.Ascii a s hay off v = ascii-alike s hay off v a
alike encoding.Utf8 a s hay off v = λ p l. refl

pub rises : (e : encoding_type.Encoding) → Rises (view_of e)
rises encoding.Bytes = bytes-rise 256
rises encoding.Ascii = bytes-rise 128
rises encoding.Utf8 = utf8-rise

-- a character of one byte is that byte
one-byte : (c : ℕ) → len_utf8 c ≡ 1 → c < 128
one-byte c e = grind (arith, nat_tests)

module _ (s : Subject) (hay : List ℕ) (off : ℕ → ℕ) (v : InUtf8 s hay off) (same : off s.end ≡ s.end) where
  at-place : (p : ℕ) → p ≤ s.end → off p ≡ p
  at-place p inside =
      let from : 0 + p ≡ p = omega arith in
      let to : p + (s.end - p) ≡ s.end = omega arith in
      let before = utf8-apart s hay off v p 0 (omega arith) in
      let behind = utf8-apart s hay off v (s.end - p) p (omega arith) in
      omega (arith, before, behind, ap off from, ap off to, v.starts, same)

  small : (p : ℕ) → p < s.end → char_at s p < 128
  small p inside =
      let here = at-place p (omega (arith, inside)) in
      let there = at-place (p + 1) (omega (arith, inside)) in
      one-byte (char_at s p) (omega (arith, here, there, v.next p inside))

  pub ascii-of-utf8 : InBytes 128 s hay off
  ascii-of-utf8 = record {
    starts = v.starts;
    ends = v.ends;
    byte = λ p inside.
        let first = (utf8-sided s hay off v).first p inside in
        first.1 ∙ ap (λ b. Some b) (first.2.ascii (small p inside));
    next = λ p inside.
        omega (arith, at-place p (omega (arith, inside)), at-place (p + 1) (omega (arith, inside)));
    below = small;
  }
