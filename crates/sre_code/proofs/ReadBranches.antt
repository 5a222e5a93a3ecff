-- Ends of parts, branches and conditionals: what the check reads of them is what the grammar says.
use Rattle.sre_code.proofs.Terms.{Part, ℕ, ◌+◌, ◌≡◌, ◌≢◌, false, List, length, refl, arith, opcode_number, SreOpcode}
use Rattle.sre_code.proofs.Terms.{Tree, Empty, Then, Opcode, item_opcode, Reads, IsFault, NoCode, Closes, Unclosed}
use Rattle.sre_code.proofs.Terms.{Exactly, IsEnd, IsInside, CodeError, Past, same_opcode, opcode_within, role, no_item}
use Rattle.sre_code.proofs.Terms.{◌-◌, ◌<◌, ◌≤◌, min, Result, Ok, Err, sym, ◌∙◌, ap, subst, inl, inr, Trees, Only, Or}
use Rattle.sre_code.proofs.Terms.{Word, word, skip, JumpsTo, ReadsBranch, capped, width, item_width, ItemAt, Nowhere}
use Rattle.sre_code.proofs.Terms.{Leaves, Step, Opens, word_of, word_within, word_past, word_at, reads_within}
use Rattle.sre_code.proofs.Terms.{alternative_long, reads_nothing, width_held, role_here, ⊎_elim, ReadsItem, word_there}
use Rattle.sre_code.proofs.Terms.{reads_moved, EndGives, MoreAt, More, TreesAt, BoundsExactly, NoTrees, Else}
use Rattle.sre_model.specs.Tree.{Branch, Exists, ExistsElse}
use Rattle.sre_model.specs.Roles.{ToBranch, ToCheckGroup}
use Rattle.sre_code.specs.declared.code.step.Part.TheVariants.{Whole, Alternative, There, Absent}
use Rattle.sre_model.proofs.Opcodes.{is_item_role, is_exists, is_branch}
use Rattle.sre_model.specs.Width.{least_width}
use Rattle.sre_code.specs.declared.code.step.Bounds.{Bounds}
use Rattle.sre_model.proofs.WideWays.{least_held}
use Rattle.sre_chars.specs.declared.constants.SreOpcode.TheVariants as opcode

-- What closes parts is what the grammar says.

-- a part that ends here, and that nothing closes
pub unclosed : {ws : List ℕ} {part : Part} {i u : ℕ} {e : CodeError} → IsEnd ws part i
    → ((j w : ℕ) → Closes ws part i u j w → ⊥) → IsFault ws e → Unclosed ws part i u e
unclosed end none fault = record { end = end; nowhere = record { none = none }; fault = fault }

-- where an opcode stands that begins no item, no item is read
pub none_first : (o : SreOpcode) → is_item_role (role o) ≡ false → (ws : List ℕ) (i k : ℕ) (t : Tree) → Opcode ws i o
    → Reads ws i k t → t ≡ Empty
none_first o e ws i k Empty h r = refl
none_first o e ws i k (Then x t) h r = absurd (no_item ws i r.0 x o h e r.1)

pub whole_end : (ws : List ℕ) (i : ℕ) → Opcode ws i opcode.SUCCESS → IsEnd ws Whole i
whole_end ws i h = record { only = λ k u j w t r c. none_first opcode.SUCCESS refl ws i k t h r }

-- where no opcode is, no item begins and nothing is closed
pub no_first : (ws : List ℕ) (i k : ℕ) (t : Tree) → NoCode opcode_number ws i → Reads ws i k t → t ≡ Empty
no_first ws i k Empty n r = refl
no_first ws i k (Then x t) n r = absurd (n.none (item_opcode x) r.1.0)

pub whole_cut : (ws : List ℕ) (u i : ℕ) (e : CodeError) → NoCode opcode_number ws i → IsFault ws e
    → Unclosed ws Whole i u e
whole_cut ws u i e n le =
    unclosed (record { only = λ k v j w t r c. no_first ws i k t n r }) (λ j w c. n.none opcode.SUCCESS c.0) le

-- what `whole` answers
pub ruleset whole_laws = (same_opcode, whole_end, opcode_within, whole_cut)

-- Branches: what the check reads of them is what the grammar says.

pub jump_moved : (ws : List ℕ) (k k2 j : ℕ) → k ≡ k2 → JumpsTo ws k j → JumpsTo ws k2 j
jump_moved ws k k2 j e r = subst (λ (n : ℕ). JumpsTo ws n j) e r

-- the two forms of what comes after an alternative
abbrev Last : List ℕ → ℕ → ℕ → ℕ → ℕ → Type 0
Last ws q tail least w = Word ws q 0 × (tail ≡ q + 1) × (w ≡ least)

abbrev Later : List ℕ → ℕ → ℕ → ℕ → ℕ → Type 0
Later ws q tail least w = (ts : Trees) × ReadsBranch ws q tail ts × (w ≡ min least (least_width ts))

after : {R : Type 0} (ws : List ℕ) (q tail least w : ℕ) → More ws q tail least w → (Last ws q tail least w → R)
    → (Later ws q tail least w → R) → R
after ws q tail least w (inl last) f g = f last
after ws q tail least w (inr later) f g = g later

more_moved : (ws : List ℕ) (q q2 j j2 least least2 w : ℕ) → q ≡ q2 → j ≡ j2 → least ≡ least2 → More ws q j least w
    → More ws q2 j2 least2 w
more_moved ws q q2 j j2 least least2 w e f g m =
    subst (λ (n : ℕ). More ws q2 j2 n w) g
    (subst (λ (n : ℕ). More ws q2 n least w) f (subst (λ (n : ℕ). More ws n j least w) e m))

-- alternatives are one that ends at k, its JUMP, and what comes after
abbrev Parted : List ℕ → ℕ → ℕ → ℕ → ℕ → ℕ → Type 0
Parted ws q k least j w =
    (t : Tree) × Reads ws (q + 1) k t × JumpsTo ws k j × More ws (skip ws q) j (min least (width t)) w

parted : (ws : List ℕ) (q least j w : ℕ) (ts : Trees) → ReadsBranch ws q j ts → w ≡ min least (least_width ts)
    → Parted ws q (skip ws q - 2) least j w
parted ws q least j w (Only t) r e = (t, r.0, r.1, inl (r.2, r.3, e))
parted ws q least j w (Or t ts) r e = (t, r.0, r.1, inr (ts, r.2, omega (arith, e)))

joined : (ws : List ℕ) (q least j w : ℕ) → Parted ws q (skip ws q - 2) least j w → TreesAt ws q least j w
joined ws q least j w p = after ws (skip ws q) j (min least (width p.0)) w p.3
    (λ last. (Only p.0, (p.1, p.2, last.0, last.1), last.2))
    (λ later. (Or p.0 later.0, (p.1, p.2, later.1), omega (arith, later.2)))

trees_exactly : (ws : List ℕ) (q e tail least : ℕ) → e ≡ skip ws q → q + 3 ≤ e → tail ≡ skip ws (e - 1)
    → Exactly ws (Opens (Alternative (e - 2) tail least) (q + 1)) (TreesAt ws q least)
trees_exactly ws q e tail least ee le te = record {
  sound = λ j w r.
      let t : Tree = r.1.0 in
      let c = r.1.2 in
      let P : ℕ → Type 0 = λ k. Reads ws (q + 1) k t × JumpsTo ws k j in
      let own : P (skip ws q - 2) = subst P (omega arith) (r.1.1, (c.1.0, c.3 ∙ c.1.1)) in
      let more = more_moved ws (r.0 + 2) (skip ws q) tail j (min least (capped (0 + width t))) (min least (width t)) w
      (omega arith) (sym c.3) (omega (arith, width_held t)) c.2 in
      joined ws q least j w (t, own.0, own.1, more);
  complete = λ j w x.
      let f = parted ws q least j w x.0 x.1 x.2 in
      let t : Tree = f.0 in
      let P : ℕ → Type 0 = λ k. Reads ws (q + 1) k t × JumpsTo ws k j in
      let own : P (e - 2) = subst P (omega arith) (f.1, f.2) in
      let at : e - 2 + 1 ≡ e - 1 = omega arith in
      let ends : j ≡ tail = own.1.1 ∙ (ap (λ n. n + word ws n) at ∙ sym te) in
      let more = more_moved ws (skip ws q) (e - 2 + 2) j tail (min least (width t)) (min least (capped (0 + width t))) w
      (omega arith) ends (omega (arith, width_held t)) f.3 in
      (e - 2, (t, own.0, (refl, (own.1.0, sym ends ∙ own.1.1), more, ends)));
}

pub bounds_exactly : (ws : List ℕ) (q e tail : ℕ) → e ≡ skip ws q → q + 3 ≤ e → tail ≡ skip ws (e - 1)
    → BoundsExactly ws q (record { end = e - 2; tail = tail })
bounds_exactly ws q e tail ee le te = record { opens = λ least. trees_exactly ws q e tail least ee le te }

pub alternative_there : (ws : List ℕ) (q j : ℕ) (ts : Trees) → ReadsBranch ws q j ts → skip ws q - 1 < length ws
alternative_there ws q j (Only t) r = omega (arith, reads_within t ws (q + 1) _ r.0, word_within ws (skip ws q) 0 r.2)
alternative_there ws q j (Or t ts) r = omega (
  arith,
  reads_within t ws (q + 1) _ r.0,
  alternative_there ws (skip ws q) j ts r.2,
  alternative_long ws (skip ws q) j ts r.2,
)

-- the item, by its alternatives
pub branch_exactly : (ws : List ℕ) (i : ℕ) (b : Bounds) → Opcode ws i opcode.BRANCH → BoundsExactly ws (i + 1) b
    → Exactly ws (Opens (Alternative b.end b.tail 4294967295) (i + 2)) (ItemAt ws i)
branch_exactly ws i b h x =
    let e = x.opens 4294967295 in
    subst (λ (n : ℕ). Exactly ws (Opens (Alternative b.end b.tail 4294967295) n) (ItemAt ws i)) (omega arith) (record {
      sound = λ j w r. let ts = e.sound j w r in (Branch ts.0, (h, ts.1), omega (arith, ts.2, least_held ts.0));
      complete = λ j w y. let f = is_branch ws i j y.0 (role_here ws i opcode.BRANCH ToBranch h refl) y.1 in
          let wide : w ≡ least_width f.0 = y.2 ∙ ap item_width f.1 in
          e.complete j w (f.0, f.2.1, omega (arith, wide, least_held f.0));
    })

pub branch_nowhere : (ws : List ℕ) (i : ℕ) → Opcode ws i opcode.BRANCH → NoTrees ws (i + 1) → Nowhere (ItemAt ws i)
branch_nowhere ws i h n = record {
  none = λ j w y.
      let f = is_branch ws i j y.0 (role_here ws i opcode.BRANCH ToBranch h refl) y.1 in n.none j f.0 f.2.1;
}

-- what comes after an alternative
pub more_short : (ws : List ℕ) (q tail least : ℕ) → length ws ≤ q → Nowhere (MoreAt ws q tail least)
more_short ws q tail least le = record {
  none = λ j w c. after ws q tail least w c.0
      (λ last. omega (arith, word_within ws q 0 last.0))
      (λ later. omega (arith, word_past ws q le, alternative_long ws q tail later.0 later.1));
}

pub more_last : (ws : List ℕ) (q tail least : ℕ) → q < length ws → word ws q ≡ 0 → tail ≡ q + 1
    → Exactly ws (Past tail least) (MoreAt ws q tail least)
more_last ws q tail least there z e = record {
  sound = λ j w r. (inl (word_at ws q 0 there z, e, r.1), r.0);
  complete = λ j w c. (
    c.1,
    after ws q tail least w c.0 (λ last. last.2)
        (λ later. absurd (omega (arith, alternative_long ws q tail later.0 later.1))),
  );
}

-- what comes after an alternative, where no 0 ends the branch
trees_left : (ws : List ℕ) (q tail least j w : ℕ) → word ws q ≢ 0 → MoreAt ws q tail least j w
    → TreesAt ws q least tail w
trees_left ws q tail least j w ne c =
    after ws q tail least w c.0 (λ last. absurd (ne (word_of ws q 0 last.0))) (λ later. later)

pub more_next : (ws : List ℕ) (q tail least : ℕ) (b : Bounds) → word ws q ≢ 0 → BoundsExactly ws q b → b.tail ≡ tail
    → Exactly ws (Opens (Alternative b.end tail least) (q + 1)) (MoreAt ws q tail least)
more_next ws q tail least b ne bounds same =
    let x =
    subst (λ (n : ℕ). Exactly ws (Opens (Alternative b.end n least) (q + 1)) (TreesAt ws q least)) same
    (bounds.opens least) in record {
      sound = λ j w r. (inr (subst (λ (n : ℕ). TreesAt ws q least n w) r.1.2.3 (x.sound j w r)), r.1.2.3);
      complete = λ j w c.
          let left = trees_left ws q tail least j w ne c in
          x.complete j w (subst (λ (n : ℕ). TreesAt ws q least n w) (sym c.1) left);
    }

pub more_nowhere : (ws : List ℕ) (q tail least : ℕ) → word ws q ≢ 0 → NoTrees ws q → Nowhere (MoreAt ws q tail least)
more_nowhere ws q tail least ne n =
    record { none = λ j w c. let x = trees_left ws q tail least j w ne c in n.none tail x.0 x.1 }

pub more_wrong : (ws : List ℕ) (q tail least : ℕ) (b : Bounds) → word ws q ≢ 0 → BoundsExactly ws q b → b.tail ≢ tail
    → Nowhere (MoreAt ws q tail least)
more_wrong ws q tail least b ne bounds unlike = record {
  none = λ j w c.
      let x = trees_left ws q tail least j w ne c in
      unlike (sym ((bounds.opens least).complete tail w x).1.2.3);
}

-- JUMP after an alternative
pub alternative_end : (ws : List ℕ) (e tail least i : ℕ) → i ≡ e → IsEnd ws (Alternative e tail least) i
alternative_end ws e tail least i same = record { only = λ k u j w t r c. reads_nothing ws i k t r (c.0 ∙ sym same) }

jump_exactly : (ws : List ℕ) (e tail least u i : ℕ) (s : Step) → i ≡ e → Opcode ws i opcode.JUMP
    → tail ≡ skip ws (i + 1) → Exactly ws s (MoreAt ws (i + 2) tail (min least u))
    → Exactly ws s (Closes ws (Alternative e tail least) i u)
jump_exactly ws e tail least u i s same h te x = record {
  sound = λ j y r. let m = x.sound j y r in (same, (h, te), m.0, m.1);
  complete = λ j y c. x.complete j y (c.2, c.3);
}

jump_nowhere : (ws : List ℕ) (e tail least u i : ℕ) → Nowhere (MoreAt ws (i + 2) tail (min least u))
    → Nowhere (Closes ws (Alternative e tail least) i u)
jump_nowhere ws e tail least u i n = record { none = λ j y c. n.none j y (c.2, c.3) }

pub jump_past : (ws : List ℕ) (e tail least u i : ℕ) → NoCode opcode_number ws i
    → Nowhere (Closes ws (Alternative e tail least) i u)
jump_past ws e tail least u i n = record { none = λ j y c. n.none opcode.JUMP c.1.0 }

pub jump_cut : (ws : List ℕ) (e tail least u i : ℕ) → length ws ≤ i + 1
    → Nowhere (Closes ws (Alternative e tail least) i u)
jump_cut ws e tail least u i le =
    jump_nowhere ws e tail least u i (more_short ws (i + 2) tail (min least u) (omega arith))

leaves_before : (ws : List ℕ) (i k : ℕ) (s : Step) → i ≤ k → Leaves ws k s → Leaves ws i s
leaves_before ws i k (Past p v) le l = omega arith
leaves_before ws i k (Opens part p) le l = (omega arith, omega arith)

pub jump_gives : (ws : List ℕ) (e tail least u m i : ℕ) (r : Result Step CodeError) → m ≡ min least u → i ≡ e
    → Opcode ws i opcode.JUMP → tail ≡ skip ws (i + 1) → EndGives ws (i + 2) (MoreAt ws (i + 2) tail m) r
    → EndGives ws i (Closes ws (Alternative e tail least) i u) r
jump_gives ws e tail least u m i (Ok s) me same h te x =
    let more = subst (λ (n : ℕ). Exactly ws s (MoreAt ws (i + 2) tail n)) me x.1 in
    (leaves_before ws i (i + 2) s (omega arith) x.0, jump_exactly ws e tail least u i s same h te more)
jump_gives ws e tail least u m i (Err f) me same h te x =
    (jump_nowhere ws e tail least u i (subst (λ (n : ℕ). Nowhere (MoreAt ws (i + 2) tail n)) me x.0), x.1)

-- what `bounds`, `another` and `jump` answer
pub ruleset bounds_laws = (bounds_exactly, alternative_long, alternative_there, word_past)

pub ruleset another_laws = (more_last, more_next, more_nowhere, more_wrong, more_short, alternative_long)

pub ruleset jump_laws = (jump_gives, jump_past, jump_cut, same_opcode)

-- Conditionals: what the check reads of them is what the grammar says.

-- the two ends of a yes part
abbrev Alone : ℕ → ℕ → ℕ → ℕ → Type 0
Alone tail k j w = (k ≡ tail) × (j ≡ tail) × (w ≡ 0)

abbrev Before : List ℕ → ℕ → ℕ → ℕ → ℕ → ℕ → Type 0
Before ws tail k u j w = (k + 2 ≡ tail) × JumpsTo ws k j × Else ws tail u j w

by_end : {R : Type 0} (ws : List ℕ) (tail k u j w : ℕ) → Closes ws (There tail) k u j w → (Alone tail k j w → R)
    → (Before ws tail k u j w → R) → R
by_end ws tail k u j w (inl a) alone before = alone a
by_end ws tail k u j w (inr b) alone before = before b

-- the two shapes of an item there
abbrev Short : List ℕ → ℕ → ℕ → ℕ → Type 0
Short ws i j w = (g : ℕ) × (a : Tree) × (w ≡ 0) × ReadsItem ws i j (Exists g a)

abbrev Long : List ℕ → ℕ → ℕ → ℕ → Type 0
Long ws i j w =
    (g : ℕ) × (a : Tree) × (b : Tree) × (w ≡ min (width a) (width b)) × ReadsItem ws i j (ExistsElse g a b)

by_shape : {R : Type 0} (ws : List ℕ) (i j w : ℕ) → Opcode ws i opcode.GROUPREF_EXISTS → ItemAt ws i j w
    → (Short ws i j w → R) → (Long ws i j w → R) → R
by_shape ws i j w h y short long = ⊎_elim
    (λ (f : (g : ℕ) × (a : Tree) × (y.0 ≡ Exists g a) × ReadsItem ws i j (Exists g a)).
    short (f.0, f.1, y.2 ∙ ap item_width f.2, f.3))
    (λ (f : (g : ℕ) × (a : Tree) × (b : Tree) × (y.0 ≡ ExistsElse g a b) × ReadsItem ws i j (ExistsElse g a b)).
    long (f.0, f.1, f.2, y.2 ∙ ap item_width f.3, f.4))
    (is_exists ws i j y.0 (role_here ws i opcode.GROUPREF_EXISTS ToCheckGroup h refl) y.1)

-- the least of both parts, as the descent adds it up
both : (a b : Tree) → min (capped (0 + width a)) (width b) ≡ min (width a) (width b)
both a b = omega (arith, width_held a)

-- GROUPREF_EXISTS
pub condition_exactly : (ws : List ℕ) (i tail : ℕ) → Opcode ws i opcode.GROUPREF_EXISTS → tail ≡ skip ws (i + 2) - 1
    → i + 2 < length ws → Exactly ws (Opens (There tail) (i + 3)) (ItemAt ws i)
condition_exactly ws i tail h leads there =
    let at : tail ≡ i + 1 + word ws (i + 2) = omega arith in
    let group = word_there ws (i + 1) (omega arith) in record {
      sound = λ j w f. by_end ws tail f.0 (capped (0 + width f.1.0)) j w f.1.2
          (λ c. (
            Exists (word ws (i + 1)) f.1.0,
            (h, (group, c.1 ∙ at, reads_moved ws (i + 3) (i + 3) f.0 j f.1.0 refl (c.0 ∙ sym c.1) f.1.1)),
            c.2,
          ))
          (λ c. let ends : f.0 ≡ i + 1 + word ws (i + 2) - 2 = omega (arith, c.0) in (
            ExistsElse (word ws (i + 1)) f.1.0 c.2.0,
            (
              h,
              (
                group,
                reads_moved ws (i + 3) (i + 3) f.0 _ f.1.0 refl ends f.1.1,
                jump_moved ws f.0 _ j ends c.1,
                reads_moved ws tail _ j j c.2.0 at refl c.2.1,
              ),
            ),
            c.2.2 ∙ both f.1.0 c.2.0,
          ));
      complete = λ j w y. by_shape ws i j w h y
          (λ s. (j, (s.1, s.3.1.2, inl (s.3.1.1 ∙ sym at, s.3.1.1 ∙ sym at, s.2))))
          (λ l.
          let k : ℕ = i + 1 + word ws (i + 2) - 2 in
          let ends : k + 2 ≡ tail = omega (arith, reads_within l.1 ws (i + 3) k l.4.1.1) in
          let absent = reads_moved ws _ tail j j l.2 (sym at) refl l.4.1.3 in
          (k, (l.1, l.4.1.1, inr (ends, l.4.1.2, (l.2, absent, l.3 ∙ sym (both l.1 l.2))))));
    }

pub condition_short : (ws : List ℕ) (i tail : ℕ) → Opcode ws i opcode.GROUPREF_EXISTS → tail ≡ skip ws (i + 2) - 1
    → tail < i + 3 → Nowhere (ItemAt ws i)
condition_short ws i tail h leads lt = record {
  none = λ j w y. by_shape ws i j w h y
      (λ s. omega (arith, s.3.1.1, reads_within s.1 ws (i + 3) j s.3.1.2))
      (λ l. omega (arith, reads_within l.1 ws (i + 3) (i + 1 + word ws (i + 2) - 2) l.4.1.1));
}

pub condition_cut : (ws : List ℕ) (i : ℕ) → Opcode ws i opcode.GROUPREF_EXISTS → length ws ≤ i + 2
    → Nowhere (ItemAt ws i)
condition_cut ws i h le =
    condition_short ws i (skip ws (i + 2) - 1) h refl (omega (arith, word_past ws (i + 2) le))

-- behind a yes part
pub there_goes_on : (ws : List ℕ) (tail i : ℕ) (o : SreOpcode) → i ≢ tail → Opcode ws i o → o ≢ opcode.JUMP
    → IsInside ws (There tail) i
there_goes_on ws tail i o ne h other = record {
  none = λ u j w c. by_end ws tail i u j w c (λ a. ne a.0) (λ b. other (same_opcode ws i o opcode.JUMP h b.1.0));
}

pub tail_end : (ws : List ℕ) (tail i : ℕ) → i ≡ tail → IsEnd ws (There tail) i
tail_end ws tail i same = record {
  only = λ k u j w t r c. by_end ws tail k u j w c
      (λ a. reads_nothing ws i k t r (a.0 ∙ sym same))
      (λ b. absurd (omega (arith, b.0, reads_within t ws i k r)));
}

pub there_cut : (ws : List ℕ) (tail i u : ℕ) (e : CodeError) → i ≢ tail → NoCode opcode_number ws i → IsFault ws e
    → Unclosed ws (There tail) i u e
there_cut ws tail i u e ne n le =
    unclosed (record { only = λ k v j w t r c. no_first ws i k t n r })
    (λ j w c. by_end ws tail i u j w c (λ a. ne a.0) (λ b. n.none opcode.JUMP b.1.0)) le

pub jump_end : (ws : List ℕ) (tail i : ℕ) → Opcode ws i opcode.JUMP → IsEnd ws (There tail) i
jump_end ws tail i h = record { only = λ k u j w t r c. none_first opcode.JUMP refl ws i k t h r }

-- JUMP behind a yes part, and the no part
pub else_exactly : (ws : List ℕ) (tail i u end : ℕ) → Opcode ws i opcode.JUMP → i + 2 ≡ tail → end ≡ skip ws (i + 1)
    → Exactly ws (Opens (Absent end u) tail) (Closes ws (There tail) i u)
else_exactly ws tail i u end h near leads = record {
  sound = λ j w r.
      let c = r.1.2 in
      inr (
        near,
        (h, c.1 ∙ leads),
        (
          r.1.0,
          reads_moved ws tail tail r.0 j r.1.0 refl (c.0 ∙ sym c.1) r.1.1,
          omega (arith, c.2, width_held r.1.0),
        ),
      );
  complete = λ j w c. by_end ws tail i u j w c
      (λ a. absurd (omega (arith, a.0)))
      (λ b. let ends : j ≡ end = b.1.1 ∙ sym leads in
      (j, (b.2.0, b.2.1, (ends, ends, omega (arith, b.2.2, width_held b.2.0)))));
}

pub else_short : (ws : List ℕ) (tail i u end : ℕ) → i + 2 ≡ tail → end ≡ skip ws (i + 1) → end < tail
    → Nowhere (Closes ws (There tail) i u)
else_short ws tail i u end near leads lt = record {
  none = λ j w c. by_end ws tail i u j w c
      (λ a. omega (arith, a.0))
      (λ b. omega (arith, b.1.1, reads_within b.2.0 ws tail j b.2.1));
}

pub else_cut : (ws : List ℕ) (tail i u : ℕ) → i + 2 ≡ tail → length ws ≤ i + 1 → Nowhere (Closes ws (There tail) i u)
else_cut ws tail i u near le =
    else_short ws tail i u (skip ws (i + 1)) near refl (omega (arith, word_past ws (i + 1) le))

pub there_unclosed : (ws : List ℕ) (tail i u : ℕ) (e : CodeError) → Opcode ws i opcode.JUMP
    → Nowhere (Closes ws (There tail) i u) → IsFault ws e → Unclosed ws (There tail) i u e
there_unclosed ws tail i u e h n le = record { end = jump_end ws tail i h; nowhere = n; fault = le }

-- what `condition`, `there` and `absent` answer
pub ruleset condition_laws = (condition_exactly, condition_short, condition_cut)

pub ruleset there_laws =
    (there_goes_on, tail_end, jump_end, there_unclosed)

pub ruleset absent_laws = (reads_nothing)
