-- Lists that are cut at the first element of a kind.
use Rattle.sre_lines.proofs.Terms.{◌≡◌, ◌≢◌, ◌==◌, ◌<◌, ℕ, List, [], ◌∷◌, ◌++◌, true, false, length, get_or, refl, sym}
use Rattle.sre_lines.proofs.Terms.{ap, ◌∙◌, arith, rules, All, Contains, eqb-true, get_or_default, parts_at}
use Rattle.sre_lines.proofs.Terms.{length-slice_split, Decides-eqb, append_cancel_left, Contains-append_right}
use Rattle.std.proofs.lemmas.List.Splits.{slice_split_at, slice_split_none}
use Rattle.std.proofs.lemmas.Slice.Eq.{slice_eq-Decides}
use Rattle.std.proofs.lemmas.Bool.{false_from_ne_true}
use lib.Pointwise.{pointwise}
use lib.Dec.{eqb}

abbrev pub Lacks : List ℕ → ℕ → Type 0
Lacks xs at = ¬ (Contains xs at)

no_byte : (at : ℕ) (xs : List ℕ) → Lacks xs at → All (λ b. (b == at) ≡ false) xs
no_byte at xs none k d within =
    false_from_ne_true (get_or xs k d == at)
    (λ test. none (k, within, get_or_default xs k at d within ∙ eqb-true (get_or xs k d) at test))

-- its first part, or the only one
pub first_part_at : (at : ℕ) (xs first others : List ℕ) → first ++ at ∷ others ≡ xs → Lacks first at
    → parts_at at xs ≡ first ∷ parts_at at others
first_part_at at xs first others cut none =
    rw (sym cut) (slice_split_at (λ b. b == at) first at others (no_byte at first none) (same at))
  where
    same : (n : ℕ) → (n == n) ≡ true
    same n = search rules

pub only_part_at : (at : ℕ) (xs : List ℕ) → Lacks xs at → parts_at at xs ≡ xs ∷ []
only_part_at at xs none = slice_split_none (λ b. b == at) xs (no_byte at xs none)

-- one before others
pub parts_on : (at : ℕ) (xs first others : List ℕ) (parts : List (List ℕ)) → first ++ at ∷ others ≡ xs
    → Lacks first at → parts_at at others ≡ parts → parts_at at xs ≡ first ∷ parts
parts_on at xs first others parts cut none more =
    first_part_at at xs first others cut none ∙ ap (λ ps. first ∷ ps) more

pub some_part : (at : ℕ) (xs : List ℕ) → 0 < length (parts_at at xs)
some_part at xs = omega (arith, length-slice_split (λ b. b == at) xs)

-- the parts before and after the first such element are the same
pub cut_once : (at : ℕ) (xs ys zs ws : List ℕ) → Lacks xs at → Lacks zs at → xs ++ at ∷ ys ≡ zs ++ at ∷ ws
    → (xs ≡ zs) × (ys ≡ ws)
cut_once at xs ys zs ws none none' is =
    let same : xs ≡ zs =
    cc (
      first_part_at at (xs ++ at ∷ ys) xs ys refl none,
      first_part_at at (zs ++ at ∷ ws) zs ws refl none',
      ap (parts_at at) is,
    ) in
    let tails = append_cancel_left xs (at ∷ ys) (at ∷ ws) (is ∙ ap (λ l. l ++ at ∷ ws) (sym same)) in (same, cc tails)

-- a list that lacks the element is not cut
pub uncut : (at : ℕ) (xs ys zs : List ℕ) → Lacks zs at → xs ++ at ∷ ys ≢ zs
uncut at xs ys zs none is = none (rw is at (Contains-append_right xs (at ∷ ys) at (0, omega arith, refl)))

-- what a test of two lists found unequal
pub unequal : (xs ys zs : List ℕ) → false ≡ pointwise eqb xs ys → ys ≡ zs → xs ≢ zs
unequal xs ys zs test is same =
    let equal : false ≡ true = (slice_eq-Decides Decides-eqb xs ys false test).1 (same ∙ sym is) in cc
