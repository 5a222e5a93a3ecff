-- Texts of bytes are seen as their bytes, and a class has each byte that passes.
use Rattle.sre_patterns.proofs.Terms.{◌≡◌, ℕ, zero, suc, ◌+◌, ◌<◌, ◌≤◌, true, List, length, take, Some, refl, sym, ap}
use Rattle.sre_patterns.proofs.Terms.{◌∙◌, arith, slice_get-get_or, get_or-take, length-take-le, in_ranges, byte_in}
use Rattle.sre_patterns.proofs.Terms.{Table, Test, holds, Subject, char_at, InBytes, CoversTest, place, read_bytes}
use Rattle.sre_patterns.proofs.Composed.{covers-one}

-- a text of bytes up to the window's end
pub bytes-seen : (bound : ℕ) (s : Subject) → s.end ≤ length s.text → ((p : ℕ) → p < s.end → char_at s p < bound)
    → InBytes bound s (read_bytes s) place
bytes-seen bound s fits below =
    let short : length (take s.end s.text) ≡ s.end = length-take-le s.end s.text fits in
    record {
      starts = refl;
      ends = sym short;
      byte = λ p inside. slice_get-get_or (take s.end s.text) p 0 (omega (arith, short))
          ∙ ap (λ b. Some b) (get_or-take s.end s.text p 0 inside);
      next = λ p inside. refl;
      below = below;
    }

-- a position stands at the byte of its number
pub bytes-places : (bound : ℕ) (s : Subject) (hay : List ℕ) (off : ℕ → ℕ) → InBytes bound s hay off → (p : ℕ)
    → p ≤ s.end → off p ≡ p
bytes-places bound s hay off v zero inside = v.starts
bytes-places bound s hay off v (suc p) inside =
    let one : suc p ≡ p + 1 = omega arith in
    let before = bytes-places bound s hay off v p (omega arith) in
    omega (arith, ap off one, v.next p (omega arith), before)

-- any class that has each byte below the bound that passes
pub bytes-take : (bound : ℕ) (table : Table) (ranges : List (ℕ × ℕ)) (t : Test)
    → ((c : ℕ) → c < bound → holds table t c ≡ true → in_ranges ranges c ≡ true)
    → CoversTest (InBytes bound) table (byte_in ranges) t
bytes-take bound table ranges t each =
    covers-one (InBytes bound) table (byte_in ranges) t (λ s hay off v p inside h. (
      char_at s p,
      v.byte p inside,
      each (char_at s p) (v.below p inside) h,
      v.next p inside,
    ))
