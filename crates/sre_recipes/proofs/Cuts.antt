-- Where a text is cut: the bytes between the offsets of two positions are the characters between these.
use Rattle.sre_recipes.proofs.Terms.{◌≡◌, ℕ, ◌+◌, ◌-◌, ◌<◌, ◌≤◌, List, [], ◌++◌, length, take, ap, sym, ◌∙◌, arith, ◌≢◌}
use Rattle.sre_recipes.proofs.Terms.{slice_range, chars, IsUtf8, offset_of, drop, length-append, take-append-drop}
use Rattle.sre_recipes.proofs.Terms.{encodes-append, encodes-chars, drop_offset, some_after, length-drop, take_all}
use Rattle.std.proofs.Math.Seq.{take-add, take-append_seam}
use lib.Utf8.{encodes}

-- the bytes up to a place are those up to an earlier one, and those of the characters between
offset_between : (bs : List ℕ) (p n : ℕ)
    → offset_of bs (p + n) ≡ offset_of bs p + length (encodes (take n (drop p (chars bs))))
offset_between bs p n = rw (take-add p n (chars bs), encodes-append, length-append)

-- a later place has no lesser offset
pub offset_order : (bs : List ℕ) (p q : ℕ) → p ≤ q → offset_of bs p ≤ offset_of bs q
offset_order bs p q h =
    let there : p + (q - p) ≡ q = omega arith in
    omega (arith, offset_between bs p (q - p), ap (offset_of bs) there)

-- the bytes between two places are those of the characters between
pub slice_encodes : (bs : List ℕ) (p q : ℕ) → IsUtf8 bs → p ≤ q
    → slice_range bs (offset_of bs p) (offset_of bs q) ≡ encodes (slice_range (chars bs) p q)
slice_encodes bs p q u h =
    let there : p + (q - p) ≡ q = omega arith in
    let cs = take (q - p) (drop p (chars bs)) in
    let long : offset_of bs q - offset_of bs p ≡ length (encodes cs) =
    omega (arith, offset_between bs p (q - p), ap (offset_of bs) there) in
    let rest : drop (offset_of bs p) bs ≡ encodes cs ++ encodes (drop (q - p) (drop p (chars bs))) =
    drop_offset bs p u
    ∙ ap encodes (sym (take-append-drop (q - p) (drop p (chars bs))))
    ∙ encodes-append cs (drop (q - p) (drop p (chars bs))) in
    rw (long, rest) (take-append_seam (encodes cs) _)

-- no character follows exactly where no byte does
pub none_after : (bs : List ℕ) (p : ℕ) → IsUtf8 bs → offset_of bs p ≡ length bs → length (chars bs) ≤ p
none_after bs p u e = grind (arith, length-drop, some_after bs p u)

pub some_before_end : (bs : List ℕ) (p : ℕ) → IsUtf8 bs → p ≤ length (chars bs) → offset_of bs p ≢ length bs
    → p < length (chars bs)
some_before_end bs p u h e = grind (arith, take_all, encodes-chars bs u)

-- where the end is not behind the start there is nothing between
pub nothing_between : (cs : List ℕ) (from to : ℕ) → to ≤ from → slice_range cs from to ≡ []
nothing_between cs from to behind =
    let none : to - from ≡ 0 = omega arith in ap (λ (n : ℕ). take n (drop from cs)) none
