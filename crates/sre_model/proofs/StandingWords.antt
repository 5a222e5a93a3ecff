-- Words that are at a position of a list.
use Rattle.sre_model.proofs.Terms.{refl, ℕ, zero, suc, ◌+◌, ◌-◌, ◌≡◌, ◌<◌, ◌≤◌, List, [], ◌∷◌, ◌++◌, length, drop}
use Rattle.sre_model.proofs.Terms.{slice_index, slice_range, sym, ◌∙◌, subst, arith, length-append, get_or-take}
use Rattle.sre_model.proofs.Terms.{get_or-drop, length-take-le, ext_get_or, Word}
use Rattle.std.proofs.Common.{length-drop}
use Rattle.sre_model.proofs.Opcodes.{word_moved, word_of, word_there}

-- the words from place i on are those of xs
pub record Stands (ws : List ℕ) (i : ℕ) (xs : List ℕ) : Type 0 where
  pub at : (k v : ℕ) → Word xs k v → Word ws (i + k) v
  pub within : i + length xs ≤ length ws

-- a list stands at its own front
pub stands_whole : (ws : List ℕ) → Stands ws 0 ws
stands_whole ws = record { at = λ k v w. word_moved ws k (0 + k) v (omega arith) w; within = omega arith }

pub stands_moved : {ws xs : List ℕ} {i : ℕ} (k : ℕ) → i ≡ k → Stands ws i xs → Stands ws k xs
stands_moved {ws} {xs} k e s = let P : ℕ → Type 0 = λ n. Stands ws n xs in subst P e s

pub in_front : (xs ys : List ℕ) (k v : ℕ) → Word xs k v → Word (xs ++ ys) k v
in_front [] ys k v w = absurd (cc)
in_front (x ∷ xs) ys zero v w = w
in_front (x ∷ xs) ys (suc k) v w = in_front xs ys k v w

pub in_back : (xs ys : List ℕ) (k v : ℕ) → Word ys k v → Word (xs ++ ys) (length xs + k) v
in_back [] ys k v w = word_moved ys k (0 + k) v (omega arith) w
in_back (x ∷ xs) ys k v w =
    word_moved (x ∷ (xs ++ ys)) (suc (length xs + k)) (suc (length xs) + k) v (omega arith) (in_back xs ys k v w)

-- the first of the words
pub head : {ws xs : List ℕ} {i x : ℕ} → Stands ws i (x ∷ xs) → Word ws i x
head {ws} {i} {x} s = word_moved ws (i + 0) i x (omega arith) (s.at 0 x refl)

pub stands_front : {ws : List ℕ} {i : ℕ} (xs ys : List ℕ) → Stands ws i (xs ++ ys) → Stands ws i xs
stands_front xs ys s = record {
  at = λ k v w. s.at k v (in_front xs ys k v w);
  within = omega (arith, s.within, length-append xs ys);
}

pub stands_behind : {ws ys : List ℕ} {i : ℕ} (xs : List ℕ) → Stands ws i (xs ++ ys) → Stands ws (i + length xs) ys
stands_behind {ws} {ys} {i} xs s = record {
  at = λ k v w. word_moved ws (i + (length xs + k)) (i + length xs + k) v (omega arith)
      (s.at (length xs + k) v (in_back xs ys k v w));
  within = omega (arith, s.within, length-append xs ys);
}

-- a part of a list at k
pub part_at : (ws : List ℕ) (a b k : ℕ) → a + k < b → slice_index (slice_range ws a b) k ≡ slice_index ws (a + k)
part_at ws a b k l = get_or-take (b - a) (drop a ws) k 0 (omega arith) ∙ get_or-drop a ws k 0

pub range_long : (ws : List ℕ) (i j : ℕ) → j ≤ length ws → length (slice_range ws i j) ≡ j - i
range_long ws i j room =
    length-take-le (j - i) (drop i ws) (omega (arith, length-drop i ws))

pub stands_range : {ws : List ℕ} {i : ℕ} (j : ℕ) (xs : List ℕ) → Stands ws i xs → j ≡ i + length xs
    → xs ≡ slice_range ws i j
stands_range {ws} {i} j xs s e =
    let long : length (slice_range ws i j) ≡ j - i = range_long ws i j (omega (arith, s.within)) in
    ext_get_or 0 xs (slice_range ws i j) (omega (arith, long)) (λ k l.
    let there : slice_index ws (i + k) ≡ slice_index xs k =
    word_of ws (i + k) (slice_index xs k) (s.at k (slice_index xs k) (word_there xs k l)) in
    sym (part_at ws i j k (omega arith) ∙ there))
