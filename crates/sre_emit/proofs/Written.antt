-- What a writer does, step after step.
use Rattle.sre_emit.proofs.Terms.{ℕ, zero, suc, ◌+◌, ◌*◌, ◌/◌, ◌-◌, ◌≡◌, ◌<◌, ◌≤◌, List, [], ◌∷◌, ◌++◌, reverse, drop}
use Rattle.sre_emit.proofs.Terms.{map, slice_index, slice_index_or, Option, Some, None, refl, sym, ◌∙◌, ap, length}
use Rattle.sre_emit.proofs.Terms.{subst, arith, length-append, length-drop, drop-cons, append_assoc, get_or_default}
use Rattle.sre_emit.proofs.Terms.{packed, Memory, set_item_of, Wrote}
use Rattle.std.proofs.lemmas.List.{reverse-append, append-nil, length-reverse}
use Rattle.sre_model.specs.Tree.{SetItem, BigCharset}
use Rattle.sre_model.proofs.StandingWords.{in_front, in_back}
use Rattle.sre_emit.specs.Emitting.{opcode_number, unlimited, Word, AreWords, set_item_words, set_words, EmitError}
use Rattle.sre_emit.specs.Emitting.{TooLong, Held, Stops, closed, guarded}
use Rattle.sre_chars.specs.declared.constants.SreOpcode.TheVariants as opcode
use Rattle.sre_emit.specs.declared.part.SetItem as part

-- words of which all are words
front_words : (xs ys : List ℕ) → AreWords (xs ++ ys) → AreWords xs
front_words xs ys h = record { fits = λ i v w. h.fits i v (in_front xs ys i v w) }

pub back_words : (xs ys : List ℕ) → AreWords (xs ++ ys) → AreWords ys
back_words xs ys h = record { fits = λ i v w. h.fits (length xs + i) v (in_back xs ys i v w) }

more_words : (xs ys : List ℕ) → AreWords xs → AreWords ys → AreWords (xs ++ ys)
more_words xs ys h k = record { fits = fits xs h.fits }
  where
    fits : (xs : List ℕ) → ((i v : ℕ) → Word xs i v → v ≤ unlimited) → (i v : ℕ) → Word (xs ++ ys) i v
        → v ≤ unlimited
    fits [] f i v w = k.fits i v w
    fits (x ∷ xs) f zero v w = f zero v w
    fits (x ∷ xs) f (suc i) v w = fits xs (λ j u z. f (suc j) u z) i v w

pub one_word : (x : ℕ) → x ≤ unlimited → AreWords (x ∷ [])
one_word x l = record { fits = fits }
  where
    fits : (i v : ℕ) → Word (x ∷ []) i v → v ≤ unlimited
    fits zero v w = let e : x ≡ v = cc in omega (arith, l, e)
    fits (suc i) v w = absurd (cc)

-- what stops some words stops more
stops_up : (M : Type 0) (xs ys : List ℕ) → (AreWords ys → AreWords xs) → (e : EmitError) → Stops M xs e
    → Stops M ys e
stops_up M xs ys f Memory s = s
stops_up M xs ys f TooLong s = λ h. s (f h)
stops_up M xs ys f e s = s

failed_once : (d e : EmitError) (f : Option EmitError) → f ≡ Some d → f ≡ Some e → d ≡ e
failed_once d e f p q = cc

-- nothing was written
pub wrote_nothing : {M : Type 0} (a : Held) → Wrote M a a []
wrote_nothing a = record {
  kept = λ e k. k;
  done = λ p q. (sym (append-nil a.words), record { fits = λ i v w. absurd (cc) });
  stops = λ p e q. absurd (cc);
  grows = omega arith;
}

-- the same words
pub wrote_equal : {M : Type 0} {a b : Held} {xs ys : List ℕ} → xs ≡ ys → Wrote M a b xs → Wrote M a b ys
wrote_equal {M} {a} {b} e w = subst (λ zs. Wrote M a b zs) e w

-- a failure, behind which nothing more is written
wrote_past : {M : Type 0} (a b c : Held) (xs ys zs : List ℕ) (d : EmitError) → b.failure ≡ Some d → Wrote M a b xs
    → Wrote M b c ys → Wrote M a c (zs ++ xs)
wrote_past {M} a b c xs ys zs d p v w = record {
  kept = λ e k. w.kept e (v.kept e k);
  done = λ k q. let l : c.failure ≡ Some d = w.kept d p in absurd (cc);
  stops = λ k e q. stops_up M xs (zs ++ xs) (back_words zs xs) e
      (subst (λ x. Stops M xs x) (failed_once d e c.failure (w.kept d p) q) (v.stops k d p));
  grows = omega (arith, v.grows, w.grows);
}

-- words, and then words in front of them
pub wrote_more : {M : Type 0} {a b c : Held} {xs ys : List ℕ} → Wrote M a b xs → Wrote M b c ys → Wrote M a c (ys ++ xs)
wrote_more {M} {a} {b} {c} {xs} {ys} v w = by b.failure refl
  where
    by : (m : Option EmitError) → b.failure ≡ m → Wrote M a c (ys ++ xs)
    by None p = record {
      kept = λ e k. w.kept e (v.kept e k);
      done = λ k q. (
        (w.done p q).0 ∙ ap (λ l. l ++ reverse ys) (v.done k p).0 ∙ append_assoc a.words (reverse xs) (reverse ys)
            ∙ ap (λ l. a.words ++ l) (sym (reverse-append ys xs)),
        more_words ys xs (w.done p q).1 (v.done k p).1,
      );
      stops = λ k e q. stops_up M ys (ys ++ xs) (front_words ys xs) e (w.stops p e q);
      grows = omega (arith, v.grows, w.grows);
    }
    by (Some d) p = wrote_past a b c xs ys ys d p v w

-- what is no word
pub long_word : (n : ℕ) (xs : List ℕ) → unlimited < n → AreWords (n ∷ xs) → ⊥
long_word n xs l h = omega (arith, l, h.fits 0 n refl)

-- Lists, from the last element to the first

-- what is left of a list at a place: the element there, and those behind it
pub at_place : {X : Type 0} (xs : List X) (x : X) (k n : ℕ) → n ≡ k + 1 → k < length xs → x ≡ slice_index_or xs k x
    → drop k xs ≡ x ∷ drop n xs
at_place xs x k n e l same =
    let next : suc k ≡ n = omega (arith, e) in
    drop-cons xs k x l ∙ ap (λ y. y ∷ drop (suc k) xs) (sym same) ∙ ap (λ m. x ∷ drop m xs) next

-- F has the words of some elements
module _ {X : Type 0} (F : List X → List ℕ) {M : Type 0} where
  pub written_more : {a b c : Held} {ws : List ℕ} (xs : List X) (x : X) (n : ℕ) → 0 < n → n ≤ length xs
      → x ≡ slice_index_or xs (n - 1) x → ws ++ F (drop n xs) ≡ F (x ∷ drop n xs) → Wrote M a b (F (drop n xs))
      → Wrote M b c ws → Wrote M a c (F (drop (n - 1) xs))
  written_more xs x n some l same step v w =
      rw (at_place xs x (n - 1) n (omega (arith, some)) (omega (arith, some, l)) same, ← step) (wrote_more v w)

  pub written_all : {a b : Held} (xs : List X) (k : ℕ) → k ≤ 0 → Wrote M a b (F (drop k xs)) → Wrote M a b (F xs)
  written_all xs k e w =
      let zero_is : k ≡ 0 = omega (arith, e) in
      wrote_equal (ap (λ n. F (drop n xs)) zero_is) w

-- block numbers, four a word
pub no_four : {M : Type 0} (a : Held) (ns : List ℕ) → Wrote M a a (packed (drop (4 * (length ns / 4)) ns))
no_four a ns =
    wrote_equal (sym (short _ (omega (arith, length-drop (4 * (length ns / 4)) ns)))) (wrote_nothing a)
  where
    short : (xs : List ℕ) → length xs < 4 → packed xs ≡ []
    short (x ∷ y ∷ z ∷ w ∷ xs) l = absurd (omega (arith, l))
    short xs l = refl

pub wrote_four : {M : Type 0} {a b c : Held} (ns : List ℕ) (k n w : ℕ) → n ≡ k + 1 → 4 * n ≤ length ns
    → w ≡ slice_index ns (4 * k) + 256 * slice_index ns (4 * k + 1) + 65536 * slice_index ns (4 * k + 2)
    + 16777216 * slice_index ns (4 * k + 3)
    → Wrote M a b (packed (drop (4 * n) ns)) → Wrote M b c (w ∷ []) → Wrote M a c (packed (drop (4 * k) ns))
wrote_four ns k n w e l same v x =
    let one = at (4 * k) (4 * k + 1) refl (omega (arith, e, l)) in
    let two = at (4 * k + 1) (4 * k + 2) (omega arith) (omega (arith, e, l)) in
    let three = at (4 * k + 2) (4 * k + 3) (omega arith) (omega (arith, e, l)) in
    let four = at (4 * k + 3) (4 * n) (omega (arith, e)) (omega (arith, e, l)) in
    rw (one, two, three, four, ← same) (wrote_more v x)
  where
    at : (i j : ℕ) → j ≡ i + 1 → i < length ns → drop i ns ≡ slice_index ns i ∷ drop j ns
    at i j e l = at_place ns (slice_index ns i) i j e l (get_or_default ns i 0 _ l)

-- sets
pub set_cons : (x : SetItem) (xs : List SetItem) → set_item_words x ++ set_words xs ≡ set_words (x ∷ xs)
set_cons (BigCharset numbers bits) xs =
    ap (λ l. opcode_number opcode.BIGCHARSET ∷ (length bits / 8) ∷ l)
    (append_assoc (packed numbers) bits (set_words xs))
set_cons x xs = refl

abbrev pub set_items_words : List part.SetItem → List ℕ
set_items_words xs = set_words (map set_item_of xs)

-- Words in which the number of others is

-- how many words a writer has
wrote_length : {M : Type 0} (a b : Held) (xs : List ℕ) → Wrote M a b xs → b.failure ≡ None
    → length b.words ≡ length a.words + length xs
wrote_length a b xs w q = by a.failure refl
  where
    by : (f : Option EmitError) → a.failure ≡ f → length b.words ≡ length a.words + length xs
    by None p =
        omega (arith, ap length (w.done p q).0, length-append a.words (reverse xs), length-reverse xs)
    by (Some e) p = let k : b.failure ≡ Some e = w.kept e p in absurd (cc)

-- words, and then some in front of them, with their number, which is that of the words since the start
pub wrote_counted : {M : Type 0} {a b c : Held} {xs : List ℕ} (start : ℕ) (f : ℕ → List ℕ) → start ≡ length a.words
    → Wrote M a b xs → Wrote M b c (f (length b.words - start)) → Wrote M a c (f (length xs) ++ xs)
wrote_counted {M} {a} {b} {c} {xs} start f e v w = by b.failure refl
  where
    by : (g : Option EmitError) → b.failure ≡ g → Wrote M a c (f (length xs) ++ xs)
    by None p =
        let count : length b.words - start ≡ length xs = omega (arith, e, wrote_length a b xs v p) in
        wrote_equal (ap (λ k. f k ++ xs) count) (wrote_more v w)
    by (Some d) p = wrote_past a b c xs _ (f (length xs)) d p v w

-- what ends a body, the body, and in front of it an opcode, a skip and operands
pub wrote_closed : {M : Type 0} {a b c d e : Held} {code end : ℕ} {os xs : List ℕ} (start extra : ℕ)
    → start ≡ length b.words → Wrote M a b (end ∷ []) → Wrote M b c xs
    → Wrote M c d ((length c.words - start + extra) ∷ os) → Wrote M d e (code ∷ [])
    → Wrote M a e (closed code extra os xs end)
wrote_closed {end} {os} {xs} start extra same u v w x =
    rw (← append_assoc os xs (end ∷ []))
    (wrote_more (wrote_more u (wrote_counted start (λ k. (k + extra) ∷ os) same v w)) x)

-- a JUMP over what is behind it, a part, and its length
pub wrote_guarded : {M : Type 0} {a b c d e : Held} {xs : List ℕ} (rest start extra : ℕ) → start ≡ length c.words
    → Wrote M a b ((rest + 1) ∷ []) → Wrote M b c (opcode_number opcode.JUMP ∷ []) → Wrote M c d xs
    → Wrote M d e ((length d.words - start + extra) ∷ []) → Wrote M a e (guarded extra xs rest)
wrote_guarded rest start extra same u v w x =
    wrote_more (wrote_more u v) (wrote_counted start (λ k. (k + extra) ∷ []) same w x)

-- the same behind words
pub wrote_before : {M : Type 0} {a b c : Held} {xs : List ℕ} (start extra : ℕ) (ts : List ℕ) → start ≡ length a.words
    → Wrote M a b xs → Wrote M b c (guarded extra ts (length b.words - start))
    → Wrote M a c ((length ts + extra) ∷ (ts ++ (opcode_number opcode.JUMP ∷ (length xs + 1) ∷ xs)))
wrote_before {xs} start extra ts same u v =
    rw (← append_assoc ts (opcode_number opcode.JUMP ∷ (length xs + 1) ∷ []) xs)
    (wrote_counted start (guarded extra ts) same u v)
