-- A set is read from its own words alone, and sets are the same where their words are.
use Rattle.sre_model.proofs.Terms.{ℕ, ◌+◌, ◌*◌, ◌-◌, ◌≡◌, ◌<◌, ◌≤◌, List, [], ◌∷◌, ◌++◌, length, take, drop}
use Rattle.sre_model.proofs.Terms.{slice_range, refl, sym, ◌∙◌, ap, arith, get_or-take, get_or-drop, SetItem, Single}
use Rattle.sre_model.proofs.Terms.{Range, RangeUniIgnore, Category, Charset, BigCharset, Negate, Word, word, bytes_of}
use Rattle.sre_model.proofs.Terms.{BlocksBelow, ReadsSet, AreWords, SetStands, set_words}
use Rattle.std.proofs.lemmas.List.{drop-drop, drop-take, take-take, length-take, length-drop}
use Rattle.std.proofs.Common.{flat_map}
use Rattle.sre_model.proofs.Opcodes.{word_at, word_of, word_within}
use Rattle.sre_model.proofs.TreeOf.{set_within, set_same}
use Rattle.sre_model.proofs.StandingWords.{range_long}
use Rattle.sre_model.proofs.WrittenWords.{read_set, spell_then, spell_last, spelled_range}

-- the n words from i on, as a list of their own
module _ (ws : List ℕ) (i n : ℕ) (le : i + n ≤ length ws) where
  abbrev own : List ℕ
  own = take n (drop i ws)

  own_long : length own ≡ n
  own_long = omega (arith, length-take n (drop i ws), length-drop i ws)

  own_word : (q a : ℕ) → q ≡ i + a → a < n → word own a ≡ word ws q
  own_word q a e lt = get_or-take n (drop i ws) a 0 lt ∙ get_or-drop i ws a 0 ∙ ap (word ws) (sym e)

  carried : (q a v : ℕ) → q ≡ i + a → a < n → Word ws q v → Word own a v
  carried q a v e lt w = word_at own a v (omega (arith, own_long)) (own_word q a e lt ∙ word_of ws q v w)

  own_range : (q r a b : ℕ) → q ≡ i + a → r ≡ i + b → a ≤ b → b ≤ n → slice_range ws q r ≡ slice_range own a b
  own_range q r a b e f ab bn =
      let room : n ≡ a + (n - a) = omega arith in
      let same : b - a ≡ r - q = omega arith in
      let inside : drop a own ≡ take (n - a) (drop q ws) =
      ap (λ m. drop a (take m (drop i ws))) room ∙ drop-take a (n - a) (drop i ws)
      ∙ ap (take (n - a)) (drop-drop a i ws ∙ ap (λ m. drop m ws) (sym e)) in
      let part = take-take (b - a) (n - a) (drop q ws) (omega arith) in
      sym (ap (take (b - a)) inside ∙ part ∙ ap (λ m. take m (drop q ws)) same)

  pub own_set : (s : List SetItem) (q r a b : ℕ) → q ≡ i + a → r ≡ i + b → b ≤ n → ReadsSet ws q r s
      → ReadsSet own a b s
  own_set [] q r a b e f l x = omega arith
  own_set (Single v ∷ rest) q r a b e f l x =
      let w : q + 2 ≤ r = set_within ws (q + 2) r rest x.2 in
      let after = own_set rest (q + 2) r (a + 2) b (omega arith) f l x.2 in
      (carried q a 16 e (omega arith) x.0, carried (q + 1) (a + 1) v (omega arith) (omega arith) x.1, after)
  own_set (Range low high ∷ rest) q r a b e f l x =
      let w : q + 3 ≤ r = set_within ws (q + 3) r rest x.3 in
      let from = carried (q + 1) (a + 1) low (omega arith) (omega arith) x.1 in
      let to = carried (q + 2) (a + 2) high (omega arith) (omega arith) x.2 in
      (carried q a 22 e (omega arith) x.0, from, to, own_set rest (q + 3) r (a + 3) b (omega arith) f l x.3)
  own_set (RangeUniIgnore low high ∷ rest) q r a b e f l x =
      let w : q + 3 ≤ r = set_within ws (q + 3) r rest x.3 in
      let from = carried (q + 1) (a + 1) low (omega arith) (omega arith) x.1 in
      let to = carried (q + 2) (a + 2) high (omega arith) (omega arith) x.2 in
      (carried q a 42 e (omega arith) x.0, from, to, own_set rest (q + 3) r (a + 3) b (omega arith) f l x.3)
  own_set (Category c ∷ rest) q r a b e f l x =
      let w : q + 2 ≤ r = set_within ws (q + 2) r rest x.2 in
      let after = own_set rest (q + 2) r (a + 2) b (omega arith) f l x.2 in
      (carried q a 8 e (omega arith) x.0, carried (q + 1) (a + 1) _ (omega arith) (omega arith) x.1, after)
  own_set (Charset bits ∷ rest) q r a b e f l x =
      let w : q + 9 ≤ r = set_within ws (q + 9) r rest x.3 in (
        carried q a 9 e (omega arith) x.0,
        x.1 ∙ own_range (q + 1) (q + 9) (a + 1) (a + 9) (omega arith) (omega arith) (omega arith) (omega arith),
        omega (arith, own_long),
        own_set rest (q + 9) r (a + 9) b (omega arith) f l x.3,
      )
  own_set (BigCharset numbers bits ∷ rest) q r a b e f l x =
      let w : q + 66 + word ws (q + 1) * 8 ≤ r = set_within ws (q + 66 + word ws (q + 1) * 8) r rest x.5 in
      let c : word own (a + 1) ≡ word ws (q + 1) = own_word (q + 1) (a + 1) (omega arith) (omega arith) in
      let blocks : slice_range ws (q + 2) (q + 66) ≡ slice_range own (a + 2) (a + 66) =
      own_range (q + 2) (q + 66) (a + 2) (a + 66) (omega arith) (omega arith) (omega arith) (omega arith) in
      let below : BlocksBelow (word own (a + 1)) (slice_range own (a + 2) (a + 66)) = rw (c, ← blocks) x.2 in (
        carried q a 10 e (omega arith) x.0,
        x.1 ∙ ap (flat_map bytes_of) blocks,
        below,
        x.3
            ∙ own_range (q + 66) (q + 66 + word ws (q + 1) * 8) (a + 66) (a + 66 + word own (a + 1) * 8) (omega arith)
            (omega arith) (omega arith) (omega arith),
        omega (arith, own_long),
        own_set rest (q + 66 + word ws (q + 1) * 8) r (a + 66 + word own (a + 1) * 8) b (omega arith) f l x.5,
      )
  own_set (Negate ∷ rest) q r a b e f l x =
      let w : q + 1 ≤ r = set_within ws (q + 1) r rest x.1 in
      (carried q a 21 e (omega arith) x.0, own_set rest (q + 1) r (a + 1) b (omega arith) f l x.1)

-- the words of a set with its FAILURE
spelled : (ws : List ℕ) (i j : ℕ) (s : List SetItem) → AreWords ws → SetStands ws i j s
    → set_words s ++ 0 ∷ [] ≡ slice_range ws i (j + 1)
spelled ws i j s h a =
    let items = read_set s ws i j h a.items (omega (arith, word_within ws j 0 a.ends)) in
    spelled_range (spell_then items (spell_last a.ends refl))

-- sets with their FAILURE
module _ (ws vs : List ℕ) (i j k l : ℕ) (s t : List SetItem) (a : SetStands ws i j s) (b : SetStands vs k l t) where
  -- are the same where their words are
  pub same_words_set : slice_range ws i (j + 1) ≡ slice_range vs k (l + 1) → s ≡ t
  same_words_set e =
      let fi : i ≤ j = set_within ws i j s a.items in
      let fk : k ≤ l = set_within vs k l t b.items in
      let wi : j < length ws = word_within ws j 0 a.ends in
      let wk : l < length vs = word_within vs l 0 b.ends in
      let x : ReadsSet (slice_range ws i (j + 1)) 0 (j - i) s =
      own_set ws i (j + 1 - i) (omega arith) s i j 0 (j - i) (omega arith) (omega arith) (omega arith) a.items in
      let y : ReadsSet (slice_range vs k (l + 1)) 0 (l - k) t =
      own_set vs k (l + 1 - k) (omega arith) t k l 0 (l - k) (omega arith) (omega arith) (omega arith) b.items in
      let long = range_long ws i (j + 1) (omega arith) in
      let as_long = range_long vs k (l + 1) (omega arith) in
      let ends : l - k ≡ j - i = omega (arith, ap length e, long, as_long) in
      set_same s t (slice_range ws i (j + 1)) 0 (j - i) x (rw (e, ← ends) y)

  -- and have the same words where they are
  pub same_set_words : AreWords ws → AreWords vs → s ≡ t → slice_range ws i (j + 1) ≡ slice_range vs k (l + 1)
  same_set_words ww wv e =
      sym (spelled ws i j s ww a) ∙ ap (λ u. set_words u ++ 0 ∷ []) e ∙ spelled vs k l t wv b
