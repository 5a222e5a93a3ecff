-- What the confirmed search hints of a code imply for its tree.
use Rattle.sre_engine.proofs.Terms.{◌≡◌, ◌≤◌, ◌<◌, ◌+◌, ◌-◌, ◌*◌, ◌&&◌, ℕ, zero, suc, List, [], ◌∷◌, Bool, true, false}
use Rattle.sre_engine.proofs.Terms.{cond, length, slice_range, nat_eq, nat_lt, nat_le, Option, Some, None, refl, sym}
use Rattle.sre_engine.proofs.Terms.{ap, ◌∙◌, subst, arith, length-drop, and_parts, leb-true, nat_tests, Tree, Empty}
use Rattle.sre_engine.proofs.Terms.{Then, Plain, width, word, skip, behind_block, Whole, spells, behind_items, is_empty}
use Rattle.sre_engine.proofs.Terms.{prefix_of, overlaps_of, opcode_within, ◌/◌, ◌%◌, take, drop, is_some, has_block}
use Rattle.sre_engine.proofs.Terms.{has_flag, has_prefix, prefix_length, prefix_skip, prefix_words, overlap_words}
use Rattle.sre_engine.proofs.Terms.{are_overlaps, behind_adjacent, behind_spread, then_spread, behind_literals}
use Rattle.sre_engine.proofs.Terms.{behind_prefix, confirmed_prefix, is_literal, is_at_end, ◌^◌, inl, inr, cases_lt}
use Rattle.sre_engine.proofs.Terms.{IsCode, Asked, found, words_of, hints_of, Code, code_tree, code_confirmed, IsPrefix}
use Rattle.sre_engine.proofs.Terms.{FitsAt, IsLast, Overlapping, SomeIff, length-take, overlaps_right}
use Rattle.sre_model.specs.Tree.{One, Mark, Literal}
use Rattle.sre_chars.specs.declared.constants.SreOpcode.TheVariants as opcode
use Rattle.sre_engine.proofs.Steps.{overlapping}
use Rattle.sre_engine.proofs.LeadingStarts.{NoneBefore, none_joined}
use Rattle.sre_engine.proofs.PrefixWays.{narrow_at, none_in_window}

-- What a confirmed claim implies for the tree.

-- Lists of words and trees

-- what is there only where a test holds
cond_some : {A : Type 0} (b : Bool) (o : Option A) {x : A} → cond b o None ≡ Some x → (b ≡ true) × (o ≡ Some x)
cond_some true o e = (refl, e)
cond_some false o e = absurd (cc e)

cond_there : {A : Type 0} (has : Option A → Bool) (b : Bool) (o : Option A) → has None ≡ false
    → has (cond b o None) ≡ true → (b ≡ true) × (has o ≡ true)
cond_there has true o none e = (refl, e)
cond_there has false o none e = absurd (let never : false ≡ true = sym none ∙ e in cc never)

spread_spells : (vs : List ℕ) (t : Tree) → is_some (behind_spread vs t) ≡ true → spells 0 t vs ≡ true
spread_spells [] t h = refl
spread_spells (v ∷ vs) (Then (One (Literal Plain u)) rest) h =
    let both = cond_there is_some (nat_eq u v) (behind_spread vs rest) refl h in
    rw both.0 (spread_spells vs rest both.1)
spread_spells (v ∷ vs) (Then (Mark n) rest) h = spread_spells (v ∷ vs) rest h
spread_spells (v ∷ vs) t h = absurd (let never : false ≡ true = h in cc never)

adjacent_spells : (k : ℕ) (vs : List ℕ) (t : Tree)
    → is_some (then_spread (drop k vs) (behind_adjacent (take k vs) t)) ≡ true → spells k t vs ≡ true
adjacent_spells zero vs t h = spread_spells vs t h
adjacent_spells (suc k) [] t h = refl
adjacent_spells (suc k) (v ∷ vs) (Then (One (Literal Plain u)) rest) h =
    let both = cond_there (λ o. is_some (then_spread (drop k vs) o)) (nat_eq u v)
    (behind_adjacent (take k vs) rest) refl h in
    let less : k ≡ suc k - 1 = omega arith in
    rw both.0 (subst (λ n. spells n rest vs ≡ true) less (adjacent_spells k vs rest both.1))
adjacent_spells (suc k) (v ∷ vs) t h = absurd (let never : false ≡ true = h in cc never)

adjacent_behind : (k : ℕ) (vs : List ℕ) (t r : Tree) → k ≤ length vs → behind_adjacent (take k vs) t ≡ Some r
    → behind_items k t ≡ r
adjacent_behind zero vs t r l e = let same : Some t ≡ Some r = e in cc
adjacent_behind (suc k) [] t r l e = absurd (omega (arith, l))
adjacent_behind (suc k) (v ∷ vs) (Then (One (Literal Plain u)) rest) r l e =
    adjacent_behind k vs rest r (omega (arith, l)) (cond_some (nat_eq u v) (behind_adjacent (take k vs) rest) e).1
adjacent_behind (suc k) (v ∷ vs) t r l e = absurd (let never : None ≡ Some r = e in cc never)

nothing_left : (vs : List ℕ) (o : Option Tree) → length vs ≡ 0 → is_at_end (then_spread vs o) ≡ true → o ≡ Some Empty
nothing_left [] (Some Empty) l e = refl
nothing_left [] (Some (Then x rest)) l e = absurd (let never : false ≡ true = e in cc never)
nothing_left [] None l e = absurd (let never : false ≡ true = e in cc never)
nothing_left (v ∷ vs) o l e = absurd (omega (arith, l))

-- The prefix

five_true : (a b c d e : Bool) → (a && b && c && d && e) ≡ true
    → (a ≡ true) × (b ≡ true) × (c ≡ true) × (d ≡ true) × (e ≡ true)
five_true true true true true true h = (refl, refl, refl, refl, refl)
five_true a b c d e h = absurd (let never : false ≡ true = h in cc never)

-- what is claimed and confirmed
record Claimed (ws : List ℕ) (t : Tree) (l k : ℕ) : Type 0 where
  is : ◌≡◌ {A = ℕ × ℕ} (prefix_length ws, prefix_skip ws) (l, k)
  has : has_prefix ws ≡ true
  left : is_some (behind_literals (prefix_skip ws) (prefix_words ws) t) ≡ true

claim : (ws : List ℕ) (t : Tree) (l k : ℕ) → confirmed_prefix ws t ≡ Some (l, k) → Claimed ws t l k
claim ws t l k e =
    let told = cond_some {A = ℕ × ℕ} (is_some (behind_prefix ws t)) (Some (prefix_length ws, prefix_skip ws)) e in
    let both = cond_there is_some (has_prefix ws) (behind_literals (prefix_skip ws) (prefix_words ws) t) refl told.0 in
    record { is = cc told.1; has = both.0; left = both.1 }

-- where none is confirmed, none is all of the code
pub claim_none : (ws : List ℕ) (t : Tree) → confirmed_prefix ws t ≡ None → is_literal ws t ≡ false
claim_none ws t e = by_left (behind_prefix ws t) (has_flag 2 ws) (nat_eq (prefix_skip ws) (prefix_length ws)) e
  where
    by_left : (o : Option Tree) (flag all : Bool)
        → cond {A = Option (ℕ × ℕ)} (is_some o) (Some (prefix_length ws, prefix_skip ws)) None ≡ None
        → (flag && all && is_at_end o) ≡ false
    by_left (Some t) flag all e = absurd (cc e)
    by_left None true true e = refl
    by_left None true false e = refl
    by_left None false all e = refl

-- the length of a part
range_long : (ws : List ℕ) (i n : ℕ) → i + n ≤ length ws → length (slice_range ws i (i + n)) ≡ n
range_long ws i n l = search (arith, length-take, length-drop)

module _ (ws : List ℕ) (t : Tree) (l k : ℕ) (w : Whole ws t) (c : Claimed ws t l k) where
  parts : (has_flag 1 ws ≡ true) × (nat_lt 0 (prefix_length ws) ≡ true)
      × (nat_le (prefix_skip ws) (prefix_length ws) ≡ true)
      × (nat_eq (skip ws 1) (7 + 2 * prefix_length ws) ≡ true)
      × (are_overlaps (prefix_words ws) 1 (overlap_words ws) ≡ true)
  parts = five_true _ _ _ _ _ c.has

  claim_some : 0 < prefix_length ws
  claim_some = let is = parts.1 in grind (arith, nat_tests)

  claim_few : prefix_skip ws ≤ prefix_length ws
  claim_few = leb-true (prefix_skip ws) (prefix_length ws) parts.2

  claim_room : 7 + prefix_length ws + prefix_length ws ≤ length ws
  claim_room =
      let is = parts.3 in
      let to : skip ws 1 ≡ 7 + 2 * prefix_length ws = grind (arith, nat_tests) in
      let some = opcode_within (behind_block ws) (length (behind_block ws) - 1) opcode.SUCCESS w.1.1 in
      let block = (and_parts (has_block ws) (nat_eq (word ws 2 / 1 % 2) 1) parts.0).0 in
      let at : cond (has_block ws) (skip ws 1) 0 ≡ skip ws 1 = rw block refl in
      let long = length-drop (cond (has_block ws) (skip ws 1) 0) ws in
      omega (arith, some, long, at, to)

  claim_overlaps : are_overlaps (prefix_of ws (prefix_length ws)) 1 (overlaps_of ws (prefix_length ws)) ≡ true
  claim_overlaps =
      let n : ℕ = prefix_length ws in
      let twice : 7 + 2 * n ≡ 7 + n + n = omega arith in
      subst (λ e. are_overlaps (slice_range ws 7 (7 + n)) 1 (slice_range ws (7 + n) e) ≡ true) twice parts.4

  claim_spells : spells (prefix_skip ws) t (prefix_of ws (prefix_length ws)) ≡ true
  claim_spells = adjacent_spells (prefix_skip ws) (prefix_words ws) t c.left

  prefix_long : length (prefix_of ws (prefix_length ws)) ≡ prefix_length ws
  prefix_long = range_long ws 7 (prefix_length ws) (omega (arith, claim_room))

  overlaps_long : length (overlaps_of ws (prefix_length ws)) ≡ length (prefix_of ws (prefix_length ws))
  overlaps_long = range_long ws (7 + prefix_length ws) (prefix_length ws) claim_room ∙ sym prefix_long

  claim_overlapping : Overlapping (prefix_of ws (prefix_length ws)) (overlaps_of ws (prefix_length ws))
  claim_overlapping =
      overlapping (prefix_of ws (prefix_length ws)) (overlaps_of ws (prefix_length ws))
      (omega (arith, prefix_long, claim_some)) overlaps_long
      (overlaps_right (prefix_of ws (prefix_length ws)) (overlaps_of ws (prefix_length ws)) overlaps_long
      claim_overlaps)

  -- and it is the whole
  claim_whole : is_literal ws t ≡ true
      → (prefix_skip ws ≡ prefix_length ws) × (is_empty (behind_items (prefix_skip ws) t) ≡ true)
  claim_whole e =
      let three = and_parts (has_flag 2 ws && nat_eq (prefix_skip ws) (prefix_length ws)) (is_at_end (behind_prefix ws
      t)) e in
      let is = (and_parts (has_flag 2 ws) (nat_eq (prefix_skip ws) (prefix_length ws)) three.0).1 in
      let same : prefix_skip ws ≡ prefix_length ws = grind (arith, nat_tests) in
      let words : length (prefix_words ws) ≡ prefix_length ws = prefix_long in
      let ended : is_at_end (behind_literals (prefix_skip ws) (prefix_words ws) t) ≡ true =
      subst (λ b. is_at_end (cond b (behind_literals (prefix_skip ws) (prefix_words ws) t) None) ≡ true) c.has three.1
      in
      let none : length (drop (prefix_skip ws) (prefix_words ws)) ≡ 0 =
      omega (arith, length-drop (prefix_skip ws) (prefix_words ws), words, same) in
      let left = nothing_left (drop (prefix_skip ws) (prefix_words ws))
      (behind_adjacent (take (prefix_skip ws) (prefix_words ws)) t) none ended in
      let rest = adjacent_behind (prefix_skip ws) (prefix_words ws) t Empty (omega (arith, words, same)) left in
      (same, ap is_empty rest)

module _ (code : Code) (l k : ℕ) (e : (hints_of code).prefix ≡ Some (l, k)) where
  claimed : (t : Tree) → Whole (words_of code) t → Claimed (words_of code) t l k
  claimed t w = claim (words_of code) t l k (sym (code_confirmed code t w).prefix ∙ e)

  tree : IsCode (words_of code)
  tree = code_tree (words_of code) (hints_of code) code.checked

  there : Claimed (words_of code) tree.0 l k
  there = claimed tree.0 tree.1

  pub prefix_room : 7 + l + l ≤ length (words_of code)
  prefix_room =
      subst (λ (x : ℕ × ℕ). 7 + x.0 + x.0 ≤ length (words_of code)) there.is
      (claim_room (words_of code) tree.0 l k tree.1 there)

  pub prefix_overlaps : Overlapping (prefix_of (words_of code) l) (overlaps_of (words_of code) l)
  prefix_overlaps =
      subst (λ (x : ℕ × ℕ). Overlapping (prefix_of (words_of code) x.0) (overlaps_of (words_of code) x.0)) there.is
      (claim_overlapping (words_of code) tree.0 l k tree.1 there)

  pub prefix_is : (whole : Bool) → whole ≡ (hints_of code).literal → length (words_of code) < 2 ^ 64
      → IsPrefix code (prefix_of (words_of code) l) k whole
  prefix_is whole all small =
      let ws : List ℕ = words_of code in
      let long = prefix_long ws tree.0 l k tree.1 there in
      let few = claim_few ws tree.0 l k tree.1 there in
      let room = claim_room ws tree.0 l k tree.1 there in
      subst (λ (x : ℕ × ℕ). IsPrefix code (prefix_of ws x.0) x.1 whole) there.is (record {
        hint = e ∙ ap Some (sym there.is) ∙ ap (λ n. Some (n, prefix_skip ws)) (sym long);
        all = all;
        is = ap (prefix_of ws) (sym long);
        few = omega (arith, long, few);
        small = omega (arith, small, few, room);
        spelled = λ t w. claim_spells ws t l k w (claimed t w);
        rest = λ y t w.
            let literal = sym (code_confirmed code t w).literal ∙ sym all ∙ y in
            let is = claim_whole ws t l k w (claimed t w) literal in
            (is.0 ∙ sym long, is.1);
      })

-- a tree is at least as wide as its hint says
wide : (code : Code) (t : Tree) → Whole (words_of code) t → (w : ℕ) → (hints_of code).width ≡ Some w → w ≤ width t
wide code t whole w e =
    let ws = words_of code in
    let told = cond_some (has_block ws && nat_le (word ws 3) (width t)) (Some (word ws 3))
    (sym (code_confirmed code t whole).width ∙ e) in
    let le = leb-true (word ws 3) (width t) (and_parts (has_block ws) (nat_le (word ws 3) (width t)) told.0).1 in
    let is : word ws 3 ≡ w = cc told.1 in
    omega (arith, le, is)

-- the last start at which a width fits
pub last_none : (a : Asked) (code : Code) → (hints_of code).width ≡ None → IsLast a code (Some a.end)
last_none a code none = record {
  fits = λ s l w e. let never : None ≡ Some w = sym none ∙ e in absurd (cc);
  narrow = λ t whole s past inside. absurd (past inside);
}

pub last_if : (a : Asked) (code : Code) (w e : ℕ) (last : Option ℕ) → e ≡ a.end → (hints_of code).width ≡ Some w
    → SomeIff last (w ≤ e) (e - w) → IsLast a code last
last_if a code w e None end some narrow = record {
  fits = λ s never v is. absurd never;
  narrow = λ t whole s past inside. elim (cases_lt e w) [
    | (inl less) ↦ narrow_at a t w s (wide code t whole w some) inside (omega (arith, end, less))
    | (inr wide) ↦ absurd (narrow wide)
  ];
}
last_if a code w e (Some last) end some fits = record {
  fits = λ s l v is.
      let same : Some w ≡ Some v = sym some ∙ is in
      let one : w ≡ v = cc in
      omega (arith, end, fits.0, fits.1, l, one);
  narrow = λ t whole s past inside. elim (cases_lt last s) [
    | (inl behind) ↦
        narrow_at a t w s (wide code t whole w some) inside (omega (arith, end, fits.0, fits.1, behind))
    | (inr up) ↦ absurd (past up)
  ];
}

-- what is past the last start stays past it
later_past : (last : Option ℕ) (p s : ℕ) → p ≤ s → ¬ (FitsAt last p) → ¬ (FitsAt last s)
later_past None p s l past = λ never. past never
later_past (Some n) p s l past = λ fits. past (omega (arith, l, fits))

-- so no start is left there
pub past_none : (a : Asked) (code : Code) (last : Option ℕ) (t : Tree) (p : ℕ) → IsLast a code last
    → Whole (words_of code) t → ¬ (FitsAt last p) → NoneBefore a t p → found a t ≡ None
past_none a code last t p is w past before =
    none_in_window a t (none_joined a t _ p (a.end + 1) before
    (λ s from to. is.narrow t w s (later_past last p s from past) (omega (arith, to))))
