-- Borders of fronts: how the next one is found, and that overlap words are border lengths.
use Rattle.sre_code.proofs.Terms.{ℕ, zero, suc, ◌+◌, ◌-◌, ◌≡◌, ◌≢◌, ◌<◌, ◌≤◌, ◌⊎◌, List, [], ◌∷◌, length, slice_index}
use Rattle.sre_code.proofs.Terms.{take, drop, Bool, true, false, cond, nat_eq, ⊎_elim, refl, sym, ◌∙◌, ap, subst, arith}
use Rattle.sre_code.proofs.Terms.{slice_set, and_parts, nat_tests, Border, Longest, RightUpTo, Right}
use Rattle.std.proofs.lemmas.List.{get_or-take, get_or-drop, length-take, length-drop, ext_get_or, get_or-set_other}
use Rattle.std.proofs.lemmas.List.{get_or-set_same}
use Rattle.std.proofs.lemmas.Slice.Eq.{bytes_eq-Decides}
use Rattle.sre_model.specs.Claims.{is_border, border_up_to, border_length, are_overlaps}

-- a shorter border is a border of a longer one
shorter : (p : List ℕ) (n k m : ℕ) → Border p n k → Border p n m → m < k → Border p k m
shorter p n k m a b lt = record {
  below = lt;
  same = λ i li.
      let e : n - k + (k - m + i) ≡ n - m + i = omega (arith, a.below) in
      b.same i li ∙ sym (a.same (k - m + i) (omega arith) ∙ ap (slice_index p) e);
}

-- and a border of a border is one
through : (p : List ℕ) (n k m : ℕ) → Border p n k → Border p k m → Border p n m
through p n k m a b = record {
  below = omega (arith, a.below, b.below);
  same = λ i li.
      let e : n - k + (k - m + i) ≡ n - m + i = omega (arith, a.below, b.below) in
      b.same i li ∙ a.same (k - m + i) (omega (arith, b.below)) ∙ ap (slice_index p) e;
}

empty_border : (p : List ℕ) (n : ℕ) → 0 < n → Border p n 0
empty_border p n lt = record { below = lt; same = λ i li. absurd (omega arith) }

below_or : (i k : ℕ) → i < k + 1 → (i < k) ⊎ (i ≡ k)
below_or i k lt = grind arith

-- one word more
grown : (p : List ℕ) (n k : ℕ) → Border p n k → slice_index p k ≡ slice_index p n → Border p (n + 1) (k + 1)
grown p n k a e = record {
  below = omega (arith, a.below);
  same = λ i li. ⊎_elim
      (λ (lt : i < k).
      let at : n - k + i ≡ n + 1 - (k + 1) + i = omega arith in
      a.same i lt ∙ ap (slice_index p) at)
      (λ (same : i ≡ k).
      let at : n ≡ n + 1 - (k + 1) + i = omega (arith, a.below) in
      ap (slice_index p) same ∙ e ∙ ap (slice_index p) at)
      (below_or i k li);
}

shrunk : (p : List ℕ) (n k : ℕ) → Border p (n + 1) (k + 1) → Border p n k × (slice_index p k ≡ slice_index p n)
shrunk p n k a =
    let at : n + 1 - (k + 1) + k ≡ n = omega (arith, a.below) in (
      record {
        below = omega (arith, a.below);
        same = λ i li.
            let e : n + 1 - (k + 1) + i ≡ n - k + i = omega arith in
            a.same i (omega arith) ∙ ap (slice_index p) e;
      },
      a.same k (omega arith) ∙ ap (slice_index p) at,
    )

-- each border that grows is at most k
pub record Most (p : List ℕ) (n k : ℕ) : Type 0 where
  pub most : (m : ℕ) → Border p n m → slice_index p m ≡ slice_index p n → m ≤ k

most_of : (p : List ℕ) (n k : ℕ) → Most p n k → (m : ℕ) → Border p (n + 1) m → m ≤ k + 1
most_of p n k most zero b = omega arith
most_of p n k most (suc m) b =
    let s = shrunk p n m (subst (Border p (n + 1)) (omega arith) b) in
    omega (arith, most.most m s.0 s.1)

pub one_longer : (p : List ℕ) (n k : ℕ) → Border p n k → Most p n k → slice_index p k ≡ slice_index p n
    → Longest p (n + 1) (k + 1)
one_longer p n k a most e = record { border = grown p n k a e; most = λ m b. most_of p n k most m b }

none_of : (p : List ℕ) (n k : ℕ) → Most p n k → slice_index p k ≢ slice_index p n → k ≡ 0 → (m : ℕ)
    → Border p (n + 1) m → m ≤ 0
none_of p n k most ne z zero b = omega arith
none_of p n k most ne z (suc m) b =
    let s = shrunk p n m (subst (Border p (n + 1)) (omega arith) b) in
    let at : k ≡ m = omega (arith, most.most m s.0 s.1) in
    absurd (ne (ap (slice_index p) at ∙ s.1))

pub none_longer : (p : List ℕ) (n k : ℕ) → Most p n k → slice_index p k ≢ slice_index p n → k ≡ 0 → Longest p (n + 1) 0
none_longer p n k most ne z = record {
  border = empty_border p (n + 1) (omega arith);
  most = λ m b. none_of p n k most ne z m b;
}

less_or : (m k : ℕ) → m ≤ k → (m < k) ⊎ (m ≡ k)
less_or m k le = grind arith

strictly : (p : List ℕ) (n k m : ℕ) → Most p n k → Border p n m → slice_index p m ≡ slice_index p n
    → slice_index p k ≢ slice_index p n → m < k
strictly p n k m most b e ne = ⊎_elim
    (λ (lt : m < k). lt) (λ (same : m ≡ k). absurd (ne (ap (slice_index p) (sym same) ∙ e)))
    (less_or m k (most.most m b e))

-- the search for it
pub starts : (p : List ℕ) (o : List ℕ) (n : ℕ) → 0 < n → RightUpTo p o n → Border p n (slice_index o (n - 1))
starts p o n lt r =
    subst (λ (x : ℕ). Border p x (slice_index o (n - 1))) (omega arith) (r.each (n - 1) (omega arith)).border

pub starts_most : (p : List ℕ) (o : List ℕ) (n : ℕ) → 0 < n → RightUpTo p o n → Most p n (slice_index o (n - 1))
starts_most p o n lt r =
    record { most = λ m b e. (r.each (n - 1) (omega arith)).most m (subst (λ (x : ℕ). Border p x m) (omega arith) b) }

pub goes_down : (p : List ℕ) (o : List ℕ) (n k : ℕ) → Border p n k → 0 < k → RightUpTo p o n
    → Border p n (slice_index o (k - 1))
goes_down p o n k a lt r =
    let next = (r.each (k - 1) (omega (arith, a.below))).border in
    through p n k (slice_index o (k - 1)) a (subst (λ (x : ℕ). Border p x (slice_index o (k - 1))) (omega arith) next)

pub goes_down_most : (p : List ℕ) (o : List ℕ) (n k : ℕ) → Border p n k → Most p n k → 0 < k
    → slice_index p k ≢ slice_index p n → RightUpTo p o n → Most p n (slice_index o (k - 1))
goes_down_most p o n k a most lt ne r = record {
  most = λ m b e.
      let less = shorter p n k m a b (strictly p n k m most b e ne) in
      (r.each (k - 1) (omega (arith, a.below))).most m (subst (λ (x : ℕ). Border p x m) (omega arith) less);
}

pub falls : (p : List ℕ) (o : List ℕ) (n k : ℕ) → Border p n k → 0 < k → RightUpTo p o n → slice_index o (k - 1) < k
falls p o n k a lt r = omega (arith, (r.each (k - 1) (omega (arith, a.below))).border.below)

-- all overlap words
longest_same : (p : List ℕ) (n k m : ℕ) → Longest p n k → Longest p n m → k ≡ m
longest_same p n k m a b = omega (arith, a.most m b.border, b.most k a.border)

one_front : (p : List ℕ) → Longest p 1 0
one_front p = record { border = empty_border p 1 (omega arith); most = λ m b. omega (arith, b.below) }

first_front : (p o : List ℕ) (j : ℕ) → slice_index o 0 ≡ 0 → j ≡ 0 → Longest p (j + 1) (slice_index o j)
first_front p o j e z =
    subst (λ (x : ℕ). Longest p (x + 1) (slice_index o x)) (sym z) (subst (Longest p 1) (sym e) (one_front p))

pub first_right : (p o : List ℕ) → slice_index o 0 ≡ 0 → RightUpTo p o 1
first_right p o e = record { each = λ j lt. first_front p o j e (omega arith) }

pub first_wrong : (p o : List ℕ) → 0 < length p → slice_index o 0 ≢ 0 → Right p o → ⊥
first_wrong p o lt ne r = ne (longest_same p 1 (slice_index o 0) 0 (r.each 0 lt) (one_front p))

pub more_right : (p o : List ℕ) (n k : ℕ) → RightUpTo p o n → Longest p (n + 1) k → slice_index o n ≡ k
    → RightUpTo p o (n + 1)
more_right p o n k r l e = record {
  each = λ j lt. ⊎_elim
      (λ (less : j < n). r.each j less)
      (λ (same : j ≡ n).
      subst (λ (x : ℕ). Longest p (x + 1) (slice_index o x)) (sym same) (subst (Longest p (n + 1)) (sym e) l))
      (below_or j n lt);
}

pub more_wrong : (p o : List ℕ) (n k : ℕ) → n < length p → Longest p (n + 1) k → slice_index o n ≢ k → Right p o → ⊥
more_wrong p o n k lt l ne r = ne (longest_same p (n + 1) (slice_index o n) k (r.each n lt) l)

pub all_right : (p o : List ℕ) (n : ℕ) → RightUpTo p o n → length p ≤ n → Right p o
all_right p o n r le = record { each = λ j lt. r.each j (omega arith) }

-- The border length is the longest border

module _ (p : List ℕ) (n : ℕ) (le : n ≤ length p) where
  front_long : length (take n p) ≡ n
  front_long = omega (arith, length-take n p)

  in_front : (i : ℕ) → i < n → slice_index (take n p) i ≡ slice_index p i
  in_front i lt = get_or-take n p i 0 lt

  border_sound : (k : ℕ) → k < n → is_border (take n p) k ≡ true → Border p n k
  border_sound k lt h = record {
    below = lt;
    same = λ i li.
        let l = take n p in
        let e : take k l ≡ drop (length l - k) l = (bytes_eq-Decides (take k l) (drop (length l - k) l)).0 h in
        let at : length l - k + i ≡ n - k + i = omega (arith, front_long) in
        sym (in_front i (omega arith)) ∙ sym (get_or-take k l i 0 li) ∙ ap (λ x. slice_index x i) e
        ∙ get_or-drop (length l - k) l i 0 ∙ ap (slice_index l) at ∙ in_front (n - k + i) (omega arith);
  }

  border_complete : (k : ℕ) → Border p n k → is_border (take n p) k ≡ true
  border_complete k b =
      let l = take n p in
      let lengths : length (take k l) ≡ length (drop (length l - k) l) =
      omega (arith, front_long, b.below, length-take k l, length-drop (length l - k) l) in
      (bytes_eq-Decides (take k l) (drop (length l - k) l)).1
      (ext_get_or 0 (take k l) (drop (length l - k) l) lengths
      (λ i li.
      let less : i < k = omega (arith, length-take k l) in
      let at : length l - k + i ≡ n - k + i = omega (arith, front_long) in
      get_or-take k l i 0 less ∙ in_front i (omega (arith, b.below)) ∙ b.same i less
      ∙ sym (in_front (n - k + i) (omega (arith, b.below))) ∙ ap (slice_index l) (sym at)
      ∙ sym (get_or-drop (length l - k) l i 0)))

  -- the greatest border up to m
  up_to : (m : ℕ) → m < n → Border p n (border_up_to (take n p) m)
      × ((k : ℕ) → k ≤ m → Border p n k → k ≤ border_up_to (take n p) m)
  up_to zero lt = (empty_border p n (omega arith), λ k kl b. kl)
  up_to (suc m) lt = by_test (is_border (take n p) (suc m)) refl (up_to m (omega arith))
    where
      by_test : (b : Bool) → is_border (take n p) (suc m) ≡ b
          → (Border p n (border_up_to (take n p) m)
          × ((k : ℕ) → k ≤ m → Border p n k → k ≤ border_up_to (take n p) m))
          → (Border p n (cond b (suc m) (border_up_to (take n p) m))
          × ((k : ℕ) → k ≤ suc m → Border p n k → k ≤ cond b (suc m) (border_up_to (take n p) m)))
      by_test true e ih = (border_sound (suc m) lt e, λ k kl b. kl)
      by_test false e ih = (
        ih.0,
        λ k kl b. ⊎_elim (λ (less : k < suc m). ih.1 k (omega arith) b)
            (λ (same : k ≡ suc m).
            let there : is_border (take n p) (suc m) ≡ true =
            subst (λ x. is_border (take n p) x ≡ true) same (border_complete k b) in
            absurd (cc))
            (less_or k (suc m) kl),
      )

  longest_of : 0 < n → Longest p n (border_length (take n p))
  longest_of lt =
      let g = up_to (n - 1) (omega arith) in
      let at : n - 1 ≡ length (take n p) - 1 = omega (arith, front_long) in
      subst (λ m. Longest p n (border_up_to (take n p) m)) at
      (record { border = g.0; most = λ k b. g.1 k (omega (arith, b.below)) b })

  longest_is : (k : ℕ) → 0 < n → Longest p n k → k ≡ border_length (take n p)
  longest_is k lt l = longest_same p n k (border_length (take n p)) l (longest_of lt)

-- overlap words, one by one
overlaps_sound : (p o : List ℕ) (n : ℕ) → are_overlaps p n o ≡ true
    → (j : ℕ) → j < length o → slice_index o j ≡ border_length (take (n + j) p)
overlaps_sound p [] n h j lt = absurd (omega arith)
overlaps_sound p (x ∷ xs) n h zero lt =
    let first = (and_parts (nat_eq x (border_length (take n p))) (are_overlaps p (n + 1) xs) h).0 in
    let same : x ≡ border_length (take n p) = grind (arith, nat_tests) in
    let at : n ≡ n + 0 = omega arith in
    same ∙ ap (λ m. border_length (take m p)) at
overlaps_sound p (x ∷ xs) n h (suc j) lt =
    let rest = (and_parts (nat_eq x (border_length (take n p))) (are_overlaps p (n + 1) xs) h).1 in
    let at : n + 1 + j ≡ n + suc j = omega arith in
    overlaps_sound p xs (n + 1) rest j (omega arith) ∙ ap (λ m. border_length (take m p)) at

overlaps_complete : (p o : List ℕ) (n : ℕ)
    → ((j : ℕ) → j < length o → slice_index o j ≡ border_length (take (n + j) p)) → are_overlaps p n o ≡ true
overlaps_complete p [] n f = refl
overlaps_complete p (x ∷ xs) n f =
    let at : n + 0 ≡ n = omega arith in
    let same : x ≡ border_length (take n p) = f 0 (omega arith) ∙ ap (λ m. border_length (take m p)) at in
    let first : nat_eq x (border_length (take n p)) ≡ true = grind (arith, nat_tests) in
    let rest : are_overlaps p (n + 1) xs ≡ true = overlaps_complete p xs (n + 1) (λ j lt.
    let on : n + suc j ≡ n + 1 + j = omega arith in
    f (suc j) (omega arith) ∙ ap (λ m. border_length (take m p)) on) in
    rw (first, rest) refl

-- overlap words that are right
pub overlaps_right : (p o : List ℕ) → length o ≡ length p → are_overlaps p 1 o ≡ true → Right p o
overlaps_right p o long e = record {
  each = λ j lt.
      let at : 1 + j ≡ j + 1 = omega arith in
      let same : slice_index o j ≡ border_length (take (j + 1) p) =
      overlaps_sound p o 1 e j (omega arith) ∙ ap (λ m. border_length (take m p)) at in
      subst (λ k. Longest p (j + 1) k) (sym same) (longest_of p (j + 1) (omega arith) (omega arith));
}

-- what the check of overlap words says, in terms of border lengths
pub overlaps_told : (p o : List ℕ) (r : Bool) → length o ≡ length p → (r ≡ true → Right p o) → (Right p o → r ≡ true)
    → r ≡ are_overlaps p 1 o
overlaps_told p o true long f g =
    sym (overlaps_complete p o 1 (λ j lt.
    let at : j + 1 ≡ 1 + j = omega arith in
    longest_is p (j + 1) (omega arith) (slice_index o j) (omega arith) ((f refl).each j (omega arith))
    ∙ ap (λ m. border_length (take m p)) at))
overlaps_told p o false long f g = by_test (are_overlaps p 1 o) refl
  where
    by_test : (b : Bool) → are_overlaps p 1 o ≡ b → false ≡ b
    by_test false e = refl
    by_test true e = absurd (let wrong : false ≡ true = g (overlaps_right p o long e) in cc)

-- a further overlap word leaves those before it
pub set_right : (p o : List ℕ) (n k : ℕ) → RightUpTo p o n → Longest p (n + 1) k → n < length o
    → RightUpTo p (slice_set o n k) (n + 1)
set_right p o n k r l lt = more_right p (slice_set o n k) n k (record {
  each = λ j less.
      let there : slice_index (slice_set o n k) j ≡ slice_index o j =
      get_or-set_other o n j k 0 (λ e. omega (arith, e, less)) in
      subst (λ x. Longest p (j + 1) x) (sym there) (r.each j less);
}) l (get_or-set_same o n k 0 lt)

-- words that are the border lengths
pub lengths_right : (p o : List ℕ) → length o ≡ length p → Right p o → are_overlaps p 1 o ≡ true
lengths_right p o long r = sym (overlaps_told p o true long (λ _. r) (λ _. refl))

-- what `are_borders` and `border_lengths` answer
pub ruleset overlaps_laws = (first_right, first_wrong, more_right, more_wrong, all_right)

pub ruleset lengths_laws = (first_right, set_right, lengths_right, all_right)
