-- The prefix of the INFO block, and what is confirmed of the block.
use Rattle.sre_code.proofs.Terms.{cases_lt, le-ltb, inl, inr, ℕ, ◌+◌, ◌-◌, ◌≡◌, ◌≢◌, ◌<◌, ◌≤◌, Bool, true, false, cond}
use Rattle.sre_code.proofs.Terms.{nat_eq, List, ◌∷◌, length, Option, Some, None, slice_index, take, drop, refl, sym}
use Rattle.sre_code.proofs.Terms.{◌∙◌, ap, subst, arith, nat_tests, SreOpcode, Tree, Empty, Then, Plain, role, is_end}
use Rattle.sre_code.proofs.Terms.{Word, word, Opcode, Reads, ReadsItem, behind_marks, behind_adjacent, behind_spread}
use Rattle.sre_code.proofs.Terms.{behind_literals, word_there, word_at, word_of, word_within, same_opcode, opcode_moved}
use Rattle.sre_code.proofs.Terms.{reads_moved, item_same, Ends, MarksPassed, LeftAt, NoneLeft, LeftBehind, ◌*◌, ◌/◌}
use Rattle.sre_code.proofs.Terms.{◌%◌, nat_lt, nat_le, ◌&&◌, slice_range, Decides, Table, skip, WholeItems}
use Rattle.sre_code.proofs.Terms.{opcode_within, operands_past, reads_within, has_flag, are_overlaps, HasFirstSet}
use Rattle.sre_code.proofs.Terms.{HasBlock, Confirmed, IsLiteralAt, has_block}
use Rattle.sre_model.specs.Tree.{One, Mark, Literal}
use Rattle.std.proofs.lemmas.List.{at_drop_more, at_drop_all}
use Rattle.sre_model.specs.Claims.{then_spread, prefix_length, prefix_skip, prefix_words, overlap_words, has_prefix}
use Rattle.sre_model.specs.Claims.{behind_prefix, is_at_end, confirmed_width, is_literal}
use Rattle.std.specs.Prelude.{is_some}
use Rattle.sre_chars.specs.declared.constants.SreOpcode.TheVariants as opcode

-- What is left of a tree after MARKs and literals, by the code words there.

-- Single words

pub literal_there : (ws : List ℕ) (i v : ℕ) → i + 1 < length ws → word ws i ≡ 16 → word ws (i + 1) ≡ v
    → IsLiteralAt ws i v
literal_there ws i v lt e f = (word_at ws i 16 (omega arith) e, word_at ws (i + 1) v lt f)

pub literal_words : (ws : List ℕ) (i v : ℕ) → IsLiteralAt ws i v
    → (i + 1 < length ws) × (word ws i ≡ 16) × (word ws (i + 1) ≡ v)
literal_words ws i v l = (word_within ws (i + 1) v l.1, word_of ws i 16 l.0, word_of ws (i + 1) v l.1)

-- no item begins where a part ends
pub not_at_end : (ws : List ℕ) (end : ℕ) (o p : SreOpcode) → Opcode ws end o → is_end (role o) ≡ true → Opcode ws end p
    → is_end (role p) ≡ true
not_at_end ws end o p a e b = subst (λ x. is_end (role x) ≡ true) (same_opcode ws end o p a b) e

-- Marks

-- the items of a part behind some of its marks
pub record SameMarks (ws : List ℕ) (i p : ℕ) : Type 0 where
  pub each : (end : ℕ) (t : Tree) (o : SreOpcode) → Reads ws i end t → Opcode ws end o → is_end (role o) ≡ true
      → (rest : Tree) × Reads ws p end rest × (behind_marks rest ≡ behind_marks t)

pub marks_start : (ws : List ℕ) (i : ℕ) → SameMarks ws i i
marks_start ws i = record { each = λ end t o r w e. (t, r, refl) }

pub marks_more : (ws : List ℕ) (i p : ℕ) → SameMarks ws i p → p + 1 < length ws → word ws p ≡ 17
    → SameMarks ws i (p + 2)
marks_more ws i p s lt e = record {
  each = λ end t o r w h.
      let f = s.each end t o r w h in
      let g = go end o f.0 w h f.1 in
      (g.0, g.1, sym g.2 ∙ f.2);
}
  where
    mark : Opcode ws p opcode.MARK
    mark = word_at ws p 17 (omega arith) e

    go : (end : ℕ) (o : SreOpcode) (t : Tree) → Opcode ws end o → is_end (role o) ≡ true → Reads ws p end t
        → (rest : Tree) × Reads ws (p + 2) end rest × (behind_marks t ≡ behind_marks rest)
    go end o Empty w h r =
        let at : is_end (role opcode.MARK) ≡ true =
        not_at_end ws end o opcode.MARK w h (opcode_moved ws p end opcode.MARK r mark) in
        absurd (cc)
    go end o (Then x rest) w h r =
        let own : ReadsItem ws p (p + 2) (Mark (word ws (p + 1))) = (mark, (word_there ws (p + 1) lt, refl)) in
        let f = item_same x (Mark (word ws (p + 1))) ws p r.0 (p + 2) r.1 own in
        (rest, reads_moved ws r.0 (p + 2) end end rest f.1 refl r.2, ap (λ y. behind_marks (Then y rest)) f.0)

pub marks_end : (ws : List ℕ) (i p : ℕ) → SameMarks ws i p → p ≤ length ws
    → (p + 1 < length ws → word ws p ≢ 17) → MarksPassed ws i p
marks_end ws i p s le none = record {
  within = le;
  each = λ end t o r w h.
      let f = s.each end t o r w h in
      subst (λ u. Reads ws p end u) (go end f.0 f.1 ∙ f.2) f.1;
}
  where
    go : (end : ℕ) (t : Tree) → Reads ws p end t → t ≡ behind_marks t
    go end Empty r = refl
    go end (Then (Mark n) rest) r =
        absurd (none (word_within ws (p + 1) n r.1.1.0) (word_of ws p 17 r.1.0))
    go end (Then x rest) r = refl

-- what `behind_marks` answers
pub ruleset marks_laws = (marks_start, marks_more, marks_end)

-- Literals

-- a tree whose items begin with a literal
pub literal_tree : (ws : List ℕ) (i end v : ℕ) (o : SreOpcode) (t : Tree) → Opcode ws end o → is_end (role o) ≡ true
    → IsLiteralAt ws i v → Reads ws i end t
    → (rest : Tree) × (t ≡ Then (One (Literal Plain v)) rest) × Reads ws (i + 2) end rest
literal_tree ws i end v o Empty w h l r =
    let at : is_end (role opcode.LITERAL) ≡ true =
    not_at_end ws end o opcode.LITERAL w h (opcode_moved ws i end opcode.LITERAL r l.0) in
    absurd (cc)
literal_tree ws i end v o (Then x rest) w h l r =
    let f = item_same x (One (Literal Plain v)) ws i r.0 (i + 2) r.1 (l.0, (l.1, refl)) in
    (rest, ap (λ y. Then y rest) f.0, reads_moved ws r.0 (i + 2) end end rest f.1 refl r.2)

same_value : (v : ℕ) → nat_eq v v ≡ true
same_value v = grind (arith, nat_tests)

other_value : (ws : List ℕ) (i u v : ℕ) → Opcode ws i opcode.LITERAL → Word ws (i + 1) u → ¬ (IsLiteralAt ws i v)
    → nat_eq u v ≡ false
other_value ws i u v w r none =
    let ne : u ≢ v = λ e. none (w, subst (λ n. Word ws (i + 1) n) e r) in
    grind (arith, nat_tests)

adjacent_none : (ws : List ℕ) (i end v : ℕ) (vs : List ℕ) (t : Tree) → ¬ (IsLiteralAt ws i v) → Reads ws i end t
    → behind_adjacent (v ∷ vs) t ≡ None
adjacent_none ws i end v vs Empty none r = refl
adjacent_none ws i end v vs (Then (One (Literal Plain u)) rest) none r =
    ap (λ b. cond b (behind_adjacent vs rest) None) (other_value ws i u v r.1.0 r.1.1.0 none)
adjacent_none ws i end v vs (Then x rest) none r = refl

abbrev begins_marked : Tree → Bool
begins_marked (Then (Mark n) rest) = true
begins_marked t = false

unmarked : (t : Tree) → begins_marked (behind_marks t) ≡ false
unmarked Empty = refl
unmarked (Then (Mark n) rest) = unmarked rest
unmarked (Then x rest) = refl

spread_none : (ws : List ℕ) (i end v : ℕ) (vs : List ℕ) (t : Tree) → begins_marked t ≡ false → ¬ (IsLiteralAt ws i v)
    → Reads ws i end t → behind_spread (v ∷ vs) t ≡ None
spread_none ws i end v vs Empty m none r = refl
spread_none ws i end v vs (Then (One (Literal Plain u)) rest) m none r =
    ap (λ b. cond b (behind_spread vs rest) None) (other_value ws i u v r.1.0 r.1.1.0 none)
spread_none ws i end v vs (Then (Mark n) rest) m none r = absurd (cc)
spread_none ws i end v vs (Then x rest) m none r = refl

marks_spread : (v : ℕ) (vs : List ℕ) (t : Tree) → behind_spread (v ∷ vs) t ≡ behind_spread (v ∷ vs) (behind_marks t)
marks_spread v vs Empty = refl
marks_spread v vs (Then (Mark n) rest) = marks_spread v vs rest
marks_spread v vs (Then x rest) = refl

-- Loops over literals

-- of the tree whose items begin at i one is left at p, of which the same is left
pub record SameLeft (ws : List ℕ) (i p : ℕ) (all some : Tree → Option Tree) : Type 0 where
  pub each : (t : Tree) → Reads ws i (length ws - 1) t
      → (rest : Tree) × (all t ≡ some rest) × Reads ws p (length ws - 1) rest

pub left_start : (ws : List ℕ) (i : ℕ) (all : Tree → Option Tree) → SameLeft ws i i all all
left_start ws i all = record { each = λ t r. (t, refl, r) }

module _ (ws : List ℕ) (ends : Ends ws) (i p : ℕ) (all : Tree → Option Tree) (vs : List ℕ) (n : ℕ)
    (lt : n < length vs) where
  adjacent_first : behind_adjacent (drop n vs) ≡ behind_adjacent (slice_index vs n ∷ drop (n + 1) vs)
  adjacent_first = at_drop_more behind_adjacent vs n 0 lt

  -- a literal more, by what is left of the tree at q
  literal_more : (left : List ℕ → Tree → Option Tree) (q : ℕ)
      → ((v : ℕ) (us : List ℕ) (t : Tree)
      → left (v ∷ us) (Then (One (Literal Plain v)) t) ≡ cond (nat_eq v v) (left us t) None)
      → ((t : Tree) → Reads ws i (length ws - 1) t → (u : Tree)
      × (all t ≡ left (slice_index vs n ∷ drop (n + 1) vs) u) × Reads ws q (length ws - 1) u)
      → IsLiteralAt ws q (slice_index vs n) → SameLeft ws i (q + 2) all (left (drop (n + 1) vs))
  literal_more left q step s l = record {
    each = λ t r.
        let v : ℕ = slice_index vs n in
        let us : List ℕ = drop (n + 1) vs in
        let f = s t r in
        let g = literal_tree ws q (length ws - 1) v opcode.SUCCESS f.0 ends refl l f.2 in
        let passed = step v us g.0 ∙ ap (λ b. cond b (left us g.0) None) (same_value v) in
        (g.0, f.1 ∙ ap (left (v ∷ us)) g.1 ∙ passed, g.2);
  }

  pub adjacent_more : SameLeft ws i p all (behind_adjacent (drop n vs)) → IsLiteralAt ws p (slice_index vs n)
      → SameLeft ws i (p + 2) all (behind_adjacent (drop (n + 1) vs))
  adjacent_more s = literal_more behind_adjacent p (λ v us t. refl)
      (λ t r. let f = s.each t r in (f.0, f.1 ∙ ap (λ q. q f.0) adjacent_first, f.2))

  pub adjacent_stops : SameLeft ws i p all (behind_adjacent (drop n vs)) → ¬ (IsLiteralAt ws p (slice_index vs n))
      → NoneLeft ws i all
  adjacent_stops s none = record {
    none = λ t r.
        let f = s.each t r in
        f.1 ∙ ap (λ q. q f.0) adjacent_first
        ∙ adjacent_none ws p (length ws - 1) (slice_index vs n) (drop (n + 1) vs) f.0 none f.2;
  }

  spread_first : behind_spread (drop n vs) ≡ behind_spread (slice_index vs n ∷ drop (n + 1) vs)
  spread_first = at_drop_more behind_spread vs n 0 lt

  pub spread_more : (q : ℕ) → SameLeft ws i p all (behind_spread (drop n vs)) → MarksPassed ws p q
      → IsLiteralAt ws q (slice_index vs n) → SameLeft ws i (q + 2) all (behind_spread (drop (n + 1) vs))
  spread_more q s m = literal_more behind_spread q (λ v us t. refl) (λ t r.
      let f = s.each t r in (
        behind_marks f.0,
        f.1 ∙ ap (λ h. h f.0) spread_first ∙ marks_spread (slice_index vs n) (drop (n + 1) vs) f.0,
        m.each (length ws - 1) f.0 opcode.SUCCESS f.2 ends refl,
      ))

  pub spread_stops : (q : ℕ) → SameLeft ws i p all (behind_spread (drop n vs)) → MarksPassed ws p q
      → ¬ (IsLiteralAt ws q (slice_index vs n)) → NoneLeft ws i all
  spread_stops q s m none = record {
    none = λ t r.
        let f = s.each t r in
        let there = m.each (length ws - 1) f.0 opcode.SUCCESS f.2 ends refl in
        f.1 ∙ ap (λ h. h f.0) spread_first ∙ marks_spread (slice_index vs n) (drop (n + 1) vs) f.0
        ∙ spread_none ws q (length ws - 1) (slice_index vs n) (drop (n + 1) vs) (behind_marks f.0) (unmarked f.0) none
        there;
  }

module _ (ws : List ℕ) (i p : ℕ) (all : Tree → Option Tree) (vs : List ℕ) (n : ℕ) (le : length vs ≤ n)
    (within : p ≤ length ws) where
  pub adjacent_end : SameLeft ws i p all (behind_adjacent (drop n vs)) → LeftAt ws i p all
  adjacent_end s = record {
    within = within;
    each = λ t r.
        let f = s.each t r in
        (f.0, f.1 ∙ ap (λ q. q f.0) (at_drop_all behind_adjacent vs n le), f.2);
  }

  pub spread_end : SameLeft ws i p all (behind_spread (drop n vs)) → LeftAt ws i p all
  spread_end s = record {
    within = within;
    each = λ t r.
        let f = s.each t r in
        (f.0, f.1 ∙ ap (λ q. q f.0) (at_drop_all behind_spread vs n le), f.2);
  }

-- what `behind_adjacent` and `behind_spread` answer
pub ruleset adjacent_laws = (left_start, adjacent_more, adjacent_stops, adjacent_end, literal_words)

pub ruleset spread_laws = (left_start, spread_more, spread_stops, spread_end, literal_words)

-- both, one after the other
module _ (ws : List ℕ) (k : ℕ) (prefix : List ℕ) where
  pub literals_none : NoneLeft ws 0 (behind_adjacent (take k prefix)) → NoneLeft ws 0 (behind_literals k prefix)
  literals_none x = record { none = λ t r. ap (then_spread (drop k prefix)) (x.none t r) }

  pub literals_left : (p : ℕ) (result : Option ℕ) → LeftAt ws 0 p (behind_adjacent (take k prefix))
      → LeftBehind ws p (behind_spread (drop k prefix)) result → LeftBehind ws 0 (behind_literals k prefix) result
  literals_left p None x y = record {
    none = λ t r.
        let f = x.each t r in
        ap (then_spread (drop k prefix)) f.1 ∙ y.none f.0 f.2;
  }
  literals_left p (Some q) x y = record {
    within = y.within;
    each = λ t r.
        let f = x.each t r in
        let g = y.each f.0 f.2 in
        (g.0, ap (then_spread (drop k prefix)) f.1 ∙ g.1, g.2);
  }

-- what `behind_literals` answers
pub ruleset literals_laws = (literals_none, literals_left)

-- What the INFO block claims, by its words, and what is confirmed of it.

false_right : (x y : Bool) → y ≡ false → (x && y) ≡ false
false_right true y e = e
false_right false y e = refl

-- a bit of the flags
pub flag_set : (ws : List ℕ) (n bit : ℕ) → HasBlock ws n → word ws 2 / bit % 2 ≡ 1 → has_flag bit ws ≡ true
flag_set ws n bit h e =
    let set : nat_eq (word ws 2 / bit % 2) 1 ≡ true = grind (arith, nat_tests) in
    ap (λ b. b && nat_eq (word ws 2 / bit % 2) 1) h.there ∙ set

pub flag_clear : (ws : List ℕ) (bit : ℕ) → word ws 2 / bit % 2 ≢ 1 → has_flag bit ws ≡ false
flag_clear ws bit ne =
    let clear : nat_eq (word ws 2 / bit % 2) 1 ≡ false = grind (arith, nat_tests) in
    false_right (has_block ws) (nat_eq (word ws 2 / bit % 2) 1) clear

no_flag : (ws : List ℕ) (bit : ℕ) → has_block ws ≡ false → has_flag bit ws ≡ false
no_flag ws bit e = rw e refl

pub by_one : (a : ℕ) → a / 1 ≡ a
by_one a = omega arith

-- The prefix that fills the block

module _ (ws : List ℕ) where
  -- the conditions, the first one or more of them
  abbrev some : Bool
  some = nat_lt 0 (prefix_length ws)

  abbrev skips : Bool
  skips = nat_le (prefix_skip ws) (prefix_length ws)

  abbrev fills : Bool
  fills = nat_eq (skip ws 1) (7 + 2 * prefix_length ws)

  abbrev borders : Bool
  borders = are_overlaps (prefix_words ws) 1 (overlap_words ws)

  not_flagged : has_flag 1 ws ≡ false → has_prefix ws ≡ false
  not_flagged e = rw e refl

  not_some : some ≡ false → has_prefix ws ≡ false
  not_some e = rw (e, false_right (has_flag 1 ws) false refl) refl

  not_skips : skips ≡ false → has_prefix ws ≡ false
  not_skips e = rw (e, false_right (has_flag 1 ws && some) false refl) refl

  not_fills : fills ≡ false → has_prefix ws ≡ false
  not_fills e = rw (e, false_right (has_flag 1 ws && some && skips) false refl) refl

  not_borders : borders ≡ false → has_prefix ws ≡ false
  not_borders e = false_right (has_flag 1 ws && some && skips && fills) borders e

  pub no_prefix_flag : word ws 2 % 2 ≡ 0 → has_prefix ws ≡ false
  no_prefix_flag e = not_flagged (flag_clear ws 1 (omega (arith, by_one (word ws 2))))

  pub no_prefix_short : (n : ℕ) → HasBlock ws n → n < 9 → has_prefix ws ≡ false
  no_prefix_short n h lt = elim (cases_lt 0 (prefix_length ws)) [
    | inl l ↦
        let ne : skip ws 1 ≢ 7 + 2 * prefix_length ws = omega (arith, h.skips) in
        not_fills (grind (arith, nat_tests))
    | inr m ↦ not_some (le-ltb 0 (prefix_length ws) m)
  ]

  pub no_prefix_skip : prefix_length ws < prefix_skip ws → has_prefix ws ≡ false
  no_prefix_skip lt = not_skips (grind (arith, nat_tests))

  pub no_prefix_fill : (n : ℕ) → HasBlock ws n → n ≢ 7 + 2 * prefix_length ws → has_prefix ws ≡ false
  no_prefix_fill n h ne =
      let other : skip ws 1 ≢ 7 + 2 * prefix_length ws = omega (arith, h.skips) in
      not_fills (grind (arith, nat_tests))

  overlaps_cut : (n : ℕ) → n ≡ 7 + 2 * prefix_length ws
      → are_overlaps (slice_range ws 7 (7 + prefix_length ws)) 1 (slice_range ws (7 + prefix_length ws) n) ≡ borders
  overlaps_cut n e =
      ap (λ m. are_overlaps (slice_range ws 7 (7 + prefix_length ws)) 1 (slice_range ws (7 + prefix_length ws) m)) e

  pub no_prefix_borders : (n : ℕ) → n ≡ 7 + 2 * prefix_length ws
      → are_overlaps (slice_range ws 7 (7 + prefix_length ws)) 1 (slice_range ws (7 + prefix_length ws) n) ≡ false
      → has_prefix ws ≡ false
  no_prefix_borders n e f = not_borders (sym (overlaps_cut n e) ∙ f)

  pub prefix_there : (n : ℕ) → HasBlock ws n → word ws 2 % 2 ≢ 0 → 9 ≤ n → prefix_skip ws ≤ prefix_length ws
      → n ≡ 7 + 2 * prefix_length ws
      → are_overlaps (slice_range ws 7 (7 + prefix_length ws)) 1 (slice_range ws (7 + prefix_length ws) n) ≡ true
      → has_prefix ws ≡ true
  prefix_there n h flag long le e f =
      let a : has_flag 1 ws ≡ true = flag_set ws n 1 h (omega (arith, by_one (word ws 2))) in
      let lt : 0 < prefix_length ws = omega arith in
      let b : some ≡ true = grind (arith, nat_tests) in
      let c : skips ≡ true = grind (arith, nat_tests) in
      let same : skip ws 1 ≡ 7 + 2 * prefix_length ws = sym h.skips ∙ e in
      let d : fills ≡ true = grind (arith, nat_tests) in
      let g : borders ≡ true = sym (overlaps_cut n e) ∙ f in
      rw (a, b, c, d, g) refl

-- what `prefix_words` answers
pub ruleset prefix_laws =
    (no_prefix_flag, no_prefix_short, no_prefix_skip, no_prefix_fill, no_prefix_borders, prefix_there)

-- What is left behind it

pub behind_none : (ws items : List ℕ) → has_prefix ws ≡ false → NoneLeft items 0 (behind_prefix ws)
behind_none ws items e =
    record { none = λ t r. ap (λ b. cond b (behind_literals (prefix_skip ws) (prefix_words ws) t) None) e }

pub behind_some : (ws items prefix : List ℕ) (k : ℕ) (result : Option ℕ) → has_prefix ws ≡ true
    → prefix ≡ prefix_words ws → k ≡ prefix_skip ws → LeftBehind items 0 (behind_literals k prefix) result
    → LeftBehind items 0 (behind_prefix ws) result
behind_some ws items prefix k result e p s =
    go result
  where
    same : (t : Tree) → behind_prefix ws t ≡ behind_literals k prefix t
    same t =
        ap (λ b. cond b (behind_literals (prefix_skip ws) (prefix_words ws) t) None) e
        ∙ ap (λ n. behind_literals n (prefix_words ws) t) (sym s) ∙ ap (λ l. behind_literals k l t) (sym p)

    go : (r : Option ℕ) → LeftBehind items 0 (behind_literals k prefix) r → LeftBehind items 0 (behind_prefix ws) r
    go None x = record { none = λ t r. same t ∙ x.none t r }
    go (Some q) x = record {
      within = x.within;
      each = λ t r.
          let f = x.each t r in
          (f.0, same t ∙ f.1, f.2);
    }

-- what `behind` answers
pub ruleset behind_laws = (behind_none, behind_some)

-- What is confirmed

at_end : (items : List ℕ) (p : ℕ) (rest : Tree) → Ends items → Reads items p (length items - 1) rest
    → is_at_end (Some rest) ≡ nat_eq (p + 1) (length items)
at_end items p Empty ends r =
    let some : length items - 1 < length items = opcode_within items (length items - 1) opcode.SUCCESS ends in
    let same : p + 1 ≡ length items = omega arith in
    let test : nat_eq (p + 1) (length items) ≡ true = grind (arith, nat_tests) in
    sym test
at_end items p (Then x rest) ends r =
    let past : p < r.0 = operands_past x items p r.0 r.1.1 in
    let within : r.0 ≤ length items - 1 = reads_within rest items r.0 (length items - 1) r.2 in
    let ne : p + 1 ≢ length items = omega arith in
    let test : nat_eq (p + 1) (length items) ≡ false = grind (arith, nat_tests) in
    sym test

pub no_literal_flag : (ws : List ℕ) (t : Tree) → word ws 2 / 2 % 2 ≡ 0 → false ≡ is_literal ws t
no_literal_flag ws t e = rw (flag_clear ws 2 (omega arith)) refl

pub no_literal_skip : (ws : List ℕ) (t : Tree) → prefix_length ws ≢ prefix_skip ws → false ≡ is_literal ws t
no_literal_skip ws t ne =
    let other : nat_eq (prefix_skip ws) (prefix_length ws) ≡ false = grind (arith, nat_tests) in
    rw (other, false_right (has_flag 2 ws) false refl) refl

pub literal_end : (ws items : List ℕ) (n p : ℕ) (t : Tree) → HasBlock ws n → word ws 2 / 2 % 2 ≢ 0
    → prefix_length ws ≡ prefix_skip ws → LeftAt items 0 p (behind_prefix ws) → WholeItems items t
    → nat_eq (p + 1) (length items) ≡ is_literal ws t
literal_end ws items n p t h flag same left whole =
    let f = left.each t whole.0 in
    let set : has_flag 2 ws ≡ true = flag_set ws n 2 h (omega arith) in
    let skips : nat_eq (prefix_skip ws) (prefix_length ws) ≡ true = grind (arith, nat_tests) in
    let ends : is_at_end (behind_prefix ws t) ≡ nat_eq (p + 1) (length items) =
    ap is_at_end f.1 ∙ at_end items p f.0 whole.1 f.2 in
    sym (ap (λ b. b && nat_eq (prefix_skip ws) (prefix_length ws) && is_at_end (behind_prefix ws t)) set
    ∙ ap (λ b. b && is_at_end (behind_prefix ws t)) skips ∙ ends)

-- what `is_literal` answers
pub ruleset literal_laws = (no_literal_flag, no_literal_skip, literal_end)

pub none_confirmed : (ws : List ℕ) (table : Table) (t : Tree) → has_block ws ≡ false
    → Confirmed ws table t (record { width = None; prefix = None; literal = false; first_set = false })
none_confirmed ws table t e =
    let none : has_prefix ws ≡ false = not_flagged ws (no_flag ws 1 e) in
    let nothing : behind_prefix ws t ≡ None =
    ap (λ b. cond b (behind_literals (prefix_skip ws) (prefix_words ws) t) None) none in record {
      width = rw e refl;
      prefix = sym (ap (λ o. cond (is_some o) (Some (prefix_length ws, prefix_skip ws)) None) nothing);
      literal = rw (no_flag ws 2 e) refl;
      first_set = (
        λ y. absurd (cc),
        λ x.
            let clear : has_flag 4 ws ≡ false = no_flag ws 4 e in
            let set : has_flag 4 ws ≡ true = x.flag in
            absurd (cc),
      );
    }

-- where something is left behind the prefix, it is claimed
prefix_flagged : (ws : List ℕ) (t rest : Tree) → behind_prefix ws t ≡ Some rest → has_flag 1 ws ≡ true
prefix_flagged ws t rest e = go (has_flag 1 ws) refl
  where
    go : (b : Bool) → has_flag 1 ws ≡ b → has_flag 1 ws ≡ true
    go true f = f
    go false f =
        let none : behind_prefix ws t ≡ None =
        ap (λ b. cond b (behind_literals (prefix_skip ws) (prefix_words ws) t) None) (not_flagged ws f) in
        absurd (cc)

pub prefix_confirmed : (ws items : List ℕ) (table : Table) (p : ℕ) (w : Option ℕ) (l : Bool) (t : Tree)
    → w ≡ confirmed_width ws t → LeftAt items 0 p (behind_prefix ws) → l ≡ is_literal ws t → WholeItems items t
    → Confirmed ws table t
    (record { width = w; prefix = Some (word ws 5, word ws 6); literal = l; first_set = false })
prefix_confirmed ws items table p w l t e left f whole =
    let some = left.each t whole.0 in
    let flag : has_flag 1 ws ≡ true = prefix_flagged ws t some.0 some.1 in record {
      width = e;
      prefix = sym (ap (λ o. cond (is_some o) (Some (prefix_length ws, prefix_skip ws)) None) some.1);
      literal = f;
      first_set = (
        λ y. absurd (cc),
        λ x.
            let clear : has_flag 1 ws ≡ false = x.no_prefix in
            absurd (cc),
      );
    }

pub prefix_refused : (ws items : List ℕ) (table : Table) (w : Option ℕ) (b : Bool) (t : Tree) → w ≡ confirmed_width ws t
    → NoneLeft items 0 (behind_prefix ws) → Decides b (HasFirstSet ws table t) → WholeItems items t
    → Confirmed ws table t (record { width = w; prefix = None; literal = false; first_set = b })
prefix_refused ws items table w b t e left d whole =
    let nothing : behind_prefix ws t ≡ None = left.none t whole.0 in record {
      width = e;
      prefix = sym (ap (λ o. cond (is_some o) (Some (prefix_length ws, prefix_skip ws)) None) nothing);
      literal =
          sym (false_right (has_flag 2 ws && nat_eq (prefix_skip ws) (prefix_length ws))
          (is_at_end (behind_prefix ws t)) (ap is_at_end nothing));
      first_set = d;
    }

-- what `confirmed` answers
pub ruleset hints_laws = (none_confirmed, prefix_confirmed, prefix_refused)
