-- Counter states of loops: what a number says of the loops in progress, and how shapes are added.
use Rattle.sre_board.proofs.Terms.{◌≡◌, ℕ, zero, suc, ◌<◌, ◌⊎◌, inl, inr, List, [], ◌∷◌, ◌++◌, length, Some, slice_get}
use Rattle.sre_board.proofs.Terms.{refl, ap, ◌∙◌, arith, slice_get_within, ◌+◌, ◌-◌, Point, Spot, repeats, Lies}
use Rattle.sre_board.proofs.Terms.{WordsThere, Reads, Operands, WholeItems, ◌↔◌, ◌*◌, ◌≤◌, ◌^◌, sym, subst, Frame}
use Rattle.sre_board.proofs.Terms.{HasSlot, AreRead, IsPassed, radix, digit, Bool, true, false, Option, None, cond}
use Rattle.sre_board.proofs.Terms.{nat_tests, same_from_place, get_or_from_slice_get, same_Some, Word, FramesAlike}
use Rattle.sre_board.proofs.Terms.{LoopsAlike, min, word, counted_to, is_last, counted_at, take, length-append}
use Rattle.sre_board.proofs.Terms.{append_assoc, append-nil, take-append_seam, mul_assoc, mul-le-mul_left, slots}
use Rattle.sre_board.proofs.Terms.{HasShape}
use Rattle.sre_model.specs.Tree.{Tree, Item}
use Rattle.sre_turns.proofs.semantics.Parts.{Own, Ends, Law, lies_law, possessive, until, success}
use Rattle.std.proofs.Math.Nat.{one-le-mul}

-- the items before the end of a list are those of a longer one
pub got_before : {X : Type 0} (xs ys : List X) (i : ℕ) → i < length xs → slice_get (xs ++ ys) i ≡ slice_get xs i
got_before [] ys i h = absurd (omega arith)
got_before (x ∷ xs) ys zero h = refl
got_before (x ∷ xs) ys (suc i) h = got_before xs ys i (omega arith)

-- what stands in a list stands there in a longer one
pub got_still : {X : Type 0} (xs ys : List X) (i : ℕ) (v : X) → slice_get xs i ≡ Some v
    → slice_get (xs ++ ys) i ≡ Some v
got_still xs ys i v e = got_before xs ys i (slice_get_within xs i v e) ∙ e

-- what stands behind a list
pub got_next : {X : Type 0} (xs : List X) (y : X) (ys : List X) → slice_get (xs ++ y ∷ ys) (length xs) ≡ Some y
got_next [] y ys = refl
got_next (x ∷ xs) y ys = got_next xs y ys

-- an item of a list with one more is one of the list, or that one
pub got_more : {X : Type 0} (xs : List X) (y : X) (i : ℕ) (v : X) → slice_get (xs ++ y ∷ []) i ≡ Some v
    → (slice_get xs i ≡ Some v) ⊎ ((i ≡ length xs) × (y ≡ v))
got_more [] y zero v e = inr (refl, cc)
got_more [] y (suc i) v e = inl e
got_more (x ∷ xs) y zero v e = inl e
got_more (x ∷ xs) y (suc i) v e = elim (got_more xs y i v e) [ inl l ↦ inl l | inr r ↦ inr (ap suc r.0, r.1) ]

module _ (ws : List ℕ) where
  own_words : {i j : ℕ} {js : List ℕ} {x : Item} {r : Operands ws i j x} {pt : Point} {ks : List ℕ}
      → Own ws i j js x r pt ks → WordsThere ws js → WordsThere ws ks
  own_words {i = i} (possessive {high = high} {r = r}) w = (slice_get_within ws (i + 3) high r.1, w)
  own_words o w = w

  part_words : {i j : ℕ} {js : List ℕ} {x : Item} {a b : ℕ} {t : Tree} {ks : List ℕ} → Ends ws i j js x a b t ks
      → WordsThere ws js → WordsThere ws ks
  part_words {i = i} (until {high = high} low most end next) w = (slice_get_within ws (i + 3) high most, w)
  part_words (success end last) w = tt
  part_words e w = w

  abbrev Told : (i j : ℕ) (t : Tree) → Reads ws i j t → List ℕ → Point → List ℕ → Type 0
  Told i j t r js pt ks = WordsThere ws js → WordsThere ws ks

  told : Law ws Told
  told = record {
    end = λ i j r js w. w;
    first = λ i j x rest r js w. w;
    own = λ i j x rest r js pt ks o w. own_words o w;
    rest = λ i j x rest r js pt ks y k w. k w;
    part = λ i j x rest r js a b t s ls p pt ks y k w. k (part_words p.1 w);
  }

pub lies_words : (ws : List ℕ) (t : Tree) (w : WholeItems ws t) (x : Spot) → Lies ws t w x
    → WordsThere ws (repeats x.frames)
lies_words ws t w x y = lies_law ws (Told ws) (told ws) 0 (length ws - 1) t w.0 [] x.point (repeats x.frames) y tt

-- with each loop the number grows
slot_grows : (ws : List ℕ) (p : ℕ) (shapes : List ℕ) (j i before : ℕ) (fs : List Frame) (s : ℕ)
    → HasSlot ws p shapes j i before fs s → before ≤ s
slot_grows ws p shapes j i before [] s h = omega (arith, h.1)
slot_grows ws p shapes j i before (f ∷ fs) s h =
    let more : before ≤ before * radix ws f.repeat + digit ws p f = omega arith in
    omega (arith, more, slot_grows ws p shapes j (i + 1) (before * radix ws f.repeat + digit ws p f) fs s h.2)

-- the loops' words are there, and the loops have a slot
abbrev pub Slotted : List ℕ → ℕ → List ℕ → ℕ → ℕ → ℕ → List Frame → ℕ → Type 0
Slotted ws p shapes j i before fs s = AreRead ws fs × HasSlot ws p shapes j i before fs s

-- the newest loop is that of a frame
module _ (ws : List ℕ) (p : ℕ) (shapes : List ℕ) (j i before : ℕ) (all : List Frame) (f g : Frame) (fs : List Frame)
    (is : all ≡ f ∷ fs) (same : g ≡ f) where
  one : all ≡ g ∷ fs
  one = is ∙ ap (λ (h : Frame). h ∷ fs) (sym same)

  pub no_slot_with : (g.repeat + 3 < length ws → IsPassed g.last p → 2 ^ 24 ≤ before * radix ws g.repeat + digit ws p g)
      → (s : ℕ) → s < 2 ^ 24 → Slotted ws p shapes j i before all s → ⊥
  no_slot_with far s few h =
      let there = subst (λ (gs : List Frame). Slotted ws p shapes j i before gs s) one h in
      omega (
        arith,
        few,
        far there.0.0 there.1.1,
        slot_grows ws p shapes j (i + 1) (before * radix ws g.repeat + digit ws p g) fs s there.1.2,
      )

  pub slot_with : (next : ℕ) → g.repeat + 3 < length ws → slice_get shapes i ≡ Some g.repeat → IsPassed g.last p
      → next ≡ before * radix ws g.repeat + digit ws p g → (s : ℕ)
      → Slotted ws p shapes j (i + 1) next fs s ↔ Slotted ws p shapes j i before all s
  slot_with next read here passed e s =
      rw (one, e) (λ h. ((read, h.0), (here, passed, h.1)), λ h. (h.0.1, h.1.2))

-- a test as a number
abbrev pub one_if : Bool → ℕ
one_if b = cond b 1 0

pub one_if_few : (b : Bool) → one_if b ≤ 1
one_if_few true = omega arith
one_if_few false = omega arith

pub one_if_same : (b c : Bool) → one_if b ≡ one_if c → b ≡ c
one_if_same true true e = refl
one_if_same false false e = refl
one_if_same true false e = absurd (omega arith)
one_if_same false true e = absurd (omega arith)

-- a number and a test, from their pair
pub same_pair : (m n : ℕ) (b c : Bool) → m * 2 + one_if b ≡ n * 2 + one_if c → (m ≡ n) × (b ≡ c)
same_pair m n b c e =
    let same : m ≡ n = omega (arith, one_if_few b, one_if_few c) in
    (same, one_if_same b c (omega (arith, same)))

-- what a word is that is there
word_at : (ws : List ℕ) (i v : ℕ) → Word ws i v → word ws i ≡ v
word_at ws i v e = get_or_from_slice_get ws i v 0 e

pub digit_below : (ws : List ℕ) (p : ℕ) (f : Frame) → digit ws p f < radix ws f.repeat
digit_below ws p f = below (min f.count (counted_at ws f.repeat)) (is_last f.last p) (omega arith)
  where
    below : (n : ℕ) (b : Bool) → n ≤ counted_at ws f.repeat → n * 2 + one_if b < (counted_at ws f.repeat + 1) * 2
    below n b h = omega (arith, one_if_few b)

-- positions that were passed are alike from there on where they are alike there
last_alike : (m n : Option ℕ) (p q : ℕ) → p ≤ q → IsPassed m p → IsPassed n p → is_last m p ≡ is_last n p
    → is_last m q ≡ is_last n q
last_alike None None p q h a b e = refl
last_alike None (Some y) p q h a b e = grind (arith, nat_tests)
last_alike (Some x) None p q h a b e = grind (arith, nat_tests)
last_alike (Some x) (Some y) p q h a b e = grind (arith, nat_tests)

frames_alike : (ws : List ℕ) (p : ℕ) (f g : Frame) → f.repeat ≡ g.repeat → IsPassed f.last p → IsPassed g.last p
    → digit ws p f ≡ digit ws p g → FramesAlike ws p f g
frames_alike ws p f g er a b e =
    let moved : digit ws p f ≡ min g.count (counted_at ws f.repeat) * 2 + one_if (is_last g.last p) =
    e ∙ ap (λ q. min g.count (counted_at ws q) * 2 + one_if (is_last g.last p)) (sym er) in
    let parts = same_pair (min f.count (counted_at ws f.repeat)) (min g.count (counted_at ws f.repeat))
    (is_last f.last p) (is_last g.last p) moved in
    record {
      repeat = er;
      count = λ low high el eh.
          let is : counted_at ws f.repeat ≡ counted_to low high =
          rw (word_at ws (f.repeat + 2) low el, word_at ws (f.repeat + 3) high eh) refl in
          subst (λ n. min f.count n ≡ min g.count n) is parts.0;
      last = λ q h. last_alike f.last g.last p q h a b parts.1;
    }

-- a shape has as many loops as are in progress
pub slot_length : (ws : List ℕ) (p : ℕ) (shapes : List ℕ) (j i a : ℕ) (fs : List Frame) (s : ℕ)
    → HasSlot ws p shapes j i a fs s → i + length fs ≡ j
slot_length ws p shapes j i a [] s h = omega (arith, h.0)
slot_length ws p shapes j i a (f ∷ fs) s h =
    omega (arith, slot_length ws p shapes j (i + 1) (a * radix ws f.repeat + digit ws p f) fs s h.2)

pub loops_alike : (ws : List ℕ) (p : ℕ) (shapes : List ℕ) (j i a b : ℕ) (fs gs : List Frame) (s : ℕ)
    → HasSlot ws p shapes j i a fs s → HasSlot ws p shapes j i b gs s → (a ≡ b) × LoopsAlike ws p fs gs
loops_alike ws p shapes j i a b [] [] s h k = (sym h.1 ∙ k.1, tt)
loops_alike ws p shapes j i a b [] (g ∷ gs) s h k =
    absurd (omega (arith, h.0, slot_length ws p shapes j i b (g ∷ gs) s k))
loops_alike ws p shapes j i a b (f ∷ fs) [] s h k =
    absurd (omega (arith, k.0, slot_length ws p shapes j i a (f ∷ fs) s h))
loops_alike ws p shapes j i a b (f ∷ fs) (g ∷ gs) s h k =
    let er : f.repeat ≡ g.repeat = same_Some f.repeat g.repeat (sym h.0 ∙ k.0) in
    let ih = loops_alike ws p shapes j (i + 1) (a * radix ws f.repeat + digit ws p f)
    (b * radix ws g.repeat + digit ws p g) fs gs s h.2 k.2 in
    let one : a * radix ws f.repeat + digit ws p f ≡ b * radix ws f.repeat + digit ws p g =
    ih.0 ∙ ap (λ q. b * radix ws q + digit ws p g) (sym er) in
    let below : digit ws p g < radix ws f.repeat =
    subst (λ q. digit ws p g < radix ws q) (sym er) (digit_below ws p g) in
    let parts = same_from_place a (digit ws p f) b (digit ws p g) (radix ws f.repeat) (digit_below ws p f) below one in
    (parts.0, (frames_alike ws p f g er h.1 k.1 parts.1, ih.1))

-- one place more
pub place_more : (start now new : List ℕ) (f : Frame) (fs gs hs : List Frame)
    → now ++ repeats gs ≡ start ++ repeats hs → gs ≡ f ∷ fs → new ≡ now ++ f.repeat ∷ []
    → new ++ repeats fs ≡ start ++ repeats hs
place_more start now new f fs gs hs was chain e =
    ap (λ (xs : List ℕ). xs ++ repeats fs) e ∙ append_assoc now (f.repeat ∷ []) (repeats fs)
    ∙ ap (λ (xs : List Frame). now ++ repeats xs) (sym chain) ∙ was

some_radix : (ws : List ℕ) (q : ℕ) → 1 ≤ radix ws q
some_radix ws q = omega arith

pub some_slots : (ws js : List ℕ) → 1 ≤ slots ws js
some_slots ws [] = omega arith
some_slots ws (q ∷ qs) = one-le-mul (some_radix ws q) (some_slots ws qs)

-- that the slots so far and those of the loops that are left are all of them, where these are few
abbrev pub SlotsLeft : List ℕ → ℕ → List Frame → List Frame → Type 0
SlotsLeft ws n left all = WordsThere ws (repeats all) → slots ws (repeats all) ≤ 2 ^ 24
    → WordsThere ws (repeats left) × (n * slots ws (repeats left) ≡ slots ws (repeats all))

pub slots_more : (ws : List ℕ) (n m : ℕ) (f : Frame) (fs gs hs : List Frame) → SlotsLeft ws n gs hs → gs ≡ f ∷ fs
    → (f.repeat + 3 < length ws → n * radix ws f.repeat ≤ 2 ^ 24 → m ≡ n * radix ws f.repeat) → SlotsLeft ws m fs hs
slots_more ws n m f fs gs hs was chain more words few =
    let now = subst (λ (xs : List Frame). WordsThere ws (repeats xs)
    × (n * slots ws (repeats xs) ≡ slots ws (repeats hs))) chain (was words few) in
    let all : n * radix ws f.repeat * slots ws (repeats fs) ≡ slots ws (repeats hs) =
    mul_assoc n (radix ws f.repeat) (slots ws (repeats fs)) ∙ now.1 in
    let least : n * radix ws f.repeat * 1 ≤ n * radix ws f.repeat * slots ws (repeats fs) =
    mul-le-mul_left (n * radix ws f.repeat) (some_slots ws (repeats fs)) in
    let is : m ≡ n * radix ws f.repeat = more now.0.0 (omega (arith, all, least, few)) in
    (now.0.1, ap (λ k. k * slots ws (repeats fs)) is ∙ all)

-- so where there are none, there are not few
pub none_few : (ws : List ℕ) (n m : ℕ) (f : Frame) (fs gs hs : List Frame) → SlotsLeft ws n gs hs → gs ≡ f ∷ fs
    → (f.repeat + 3 < length ws → n * radix ws f.repeat ≤ 2 ^ 24 → m ≡ n * radix ws f.repeat) → m ≡ 0
    → WordsThere ws (repeats hs) → slots ws (repeats hs) ≤ 2 ^ 24 → 0 ≡ slots ws (repeats hs)
none_few ws n m f fs gs hs was chain more none words few =
    let all = (slots_more ws n m f fs gs hs was chain more words few).1 in
    let nothing : 0 * slots ws (repeats fs) ≡ slots ws (repeats hs) = rw none at all in omega (arith, nothing)

-- a list that is cut back to what it had
pub cut_back : (old now new more : List ℕ) (n : ℕ) → now ≡ old ++ more → new ≡ take n now → n ≡ length old
    → new ≡ old ++ []
cut_back old now new more n grown cut held =
    cut ∙ rw (held, grown, take-append_seam old more) (sym (append-nil old))

-- the places at the end of a list are a shape
pub shape_at_end : (zs start qs : List ℕ) → zs ≡ start ++ qs → HasShape zs (length zs) (length start) qs
shape_at_end zs start [] e = sym (ap (λ (xs : List ℕ). length xs) (e ∙ append-nil start))
shape_at_end zs start (q ∷ qs) e = (
  ap (λ (xs : List ℕ). slice_get xs (length start)) e ∙ got_next start q qs,
  subst (λ n. HasShape zs (length zs) n qs) (length-append start (q ∷ []))
      (shape_at_end zs (start ++ q ∷ []) qs (e ∙ sym (append_assoc start (q ∷ []) qs))),
)

-- the places are a shape, where none is left
pub shape_whole : (zs start : List ℕ) (gs hs : List Frame) → gs ≡ [] → zs ++ repeats gs ≡ start ++ repeats hs
    → HasShape zs (length zs) (length start) (repeats hs)
shape_whole zs start gs hs none e =
    shape_at_end zs start (repeats hs)
    (sym (append-nil zs) ∙ ap (λ (xs : List Frame). zs ++ repeats xs) (sym none) ∙ e)

-- what was a shape is one in a longer list
pub shape_still : (shapes more : List ℕ) (j i : ℕ) (qs : List ℕ) → HasShape shapes j i qs
    → HasShape (shapes ++ more) j i qs
shape_still shapes more j i [] h = h
shape_still shapes more j i (q ∷ qs) h =
    (got_still shapes more i q h.0, shape_still shapes more j (i + 1) qs h.1)
