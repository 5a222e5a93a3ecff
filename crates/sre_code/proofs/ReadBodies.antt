-- Bodies of loops and of regions: what the check reads of them is what the grammar says.
use Rattle.sre_code.proofs.Terms.{ℕ, ◌+◌, ◌*◌, ◌≡◌, ◌≢◌, ◌<◌, ◌≤◌, List, length, refl, sym, ◌∙◌, ap, subst, arith}
use Rattle.sre_code.proofs.Terms.{opcode_number, SreOpcode, Tree, Order, Word, Opcode, word, skip, until_opcode, Reads}
use Rattle.sre_code.proofs.Terms.{capped, width, item_width, NoCode, IsFault, ItemAt, Closes, Unclosed, Exactly, IsEnd}
use Rattle.sre_code.proofs.Terms.{CodeError, Part, Past, Opens, word_of, word_within, word_there, same_opcode}
use Rattle.sre_code.proofs.Terms.{reads_nothing, width_held, role_here, ◌-◌, Positive, Negative, opcode_within}
use Rattle.sre_code.proofs.Terms.{reads_within, IsUntil, LookAt, Nowhere}
use Rattle.sre_model.specs.Roles.{ToRepeat, ToRepeatPossessively, ToGroupAtomically, ToLook}
use Rattle.sre_model.specs.Grammar.{look_opcode}
use Rattle.std.proofs.lemmas.Option.{slice_get_within}
use Rattle.sre_model.specs.Tree.{Greedy, Lazy, Loop, PossessiveLoop, Atomic, Look}
use Rattle.sre_code.specs.declared.code.step.Part.TheVariants.{Body, Region}
use Rattle.sre_model.proofs.Opcodes.{is_loop, is_possessive, is_atomic, is_look, look_role}
use Rattle.sre_code.proofs.ReadBranches.{unclosed}
use Rattle.sre_code.proofs.ReadItems.{fail_exactly, only_tests, no_opcode, info_nowhere, folded_at, greedy_there}
use Rattle.sre_code.proofs.ReadItems.{lazy_there, possessive_there}
use Rattle.sre_chars.specs.declared.constants.SreOpcode.TheVariants as opcode

-- Bodies of loops: what the check reads of them is what the grammar says.

-- the width of a body, as the descent adds it up
body_width : (t : Tree) → capped (0 + width t) ≡ width t
body_width t = omega (arith, width_held t)

-- a loop at i, by what ends its body: its counts, its body, where these are, and its width
abbrev pub Looped : (ℕ → Type 0) → List ℕ → ℕ → ℕ → ℕ → Type 0
Looped Ends ws i j w =
    (low : ℕ) × (high : ℕ) × (body : Tree)
    × (Word ws (i + 2) low × Word ws (i + 3) high × (low ≤ high) × Reads ws (i + 4) (skip ws (i + 1)) body
    × Ends (skip ws (i + 1)) × (j ≡ skip ws (i + 1) + 1)) × (w ≡ capped (low * width body))

-- a loop is read whose part is closed by what ends its body
pub looped_exactly : (part : Part) (Ends : ℕ → Type 0) (ws : List ℕ) (i end low high : ℕ)
    → ((k u j w : ℕ) → Closes ws part k u j w → (k ≡ end) × Ends k × (j ≡ k + 1) × (w ≡ capped (low * u)))
    → ((k u j w : ℕ) → (k ≡ end) × Ends k × (j ≡ k + 1) × (w ≡ capped (low * u)) → Closes ws part k u j w)
    → ((j w : ℕ) → ItemAt ws i j w → Looped Ends ws i j w) → ((j w : ℕ) → Looped Ends ws i j w → ItemAt ws i j w)
    → end ≡ skip ws (i + 1) → low ≡ word ws (i + 2) → high ≡ word ws (i + 3) → i + 3 < length ws → low ≤ high
    → Exactly ws (Opens part (i + 4)) (ItemAt ws i)
looped_exactly part Ends ws i end low high opened closed form made ends lowest highest there le = record {
  sound = λ j w f.
      let c = opened _ _ j w f.1.2 in
      let t : Tree = f.1.0 in
      let P : ℕ → Type 0 = λ n. Reads ws (i + 4) n t × Ends n × (j ≡ n + 1) in
      let r = subst P (c.0 ∙ ends) (f.1.1, c.1, c.2) in
      made j w (
        word ws (i + 2),
        word ws (i + 3),
        t,
        (word_there ws (i + 2) (omega arith), word_there ws (i + 3) there, omega arith, r.0, r.1, r.2),
        c.3 ∙ ap (λ n. capped (n * capped (0 + width t))) lowest
            ∙ ap (λ n. capped (word ws (i + 2) * n)) (body_width t),
      );
  complete = λ j w y.
      let f = form j w y in
      let r = f.3 in
      let same : f.0 ≡ low = sym (word_of ws (i + 2) f.0 r.0) ∙ sym lowest in
      let wide = f.4 ∙ ap (λ n. capped (n * width f.2)) same ∙ ap (λ n. capped (low * n)) (sym (body_width f.2)) in
      (skip ws (i + 1), (f.2, r.3, closed _ _ j w (sym ends, r.4, r.5, wide)));
}

-- where each item is such a loop, there is none if its counts are cut off, or out of order
looped_cut : (Ends : ℕ → Type 0) (ws : List ℕ) (i : ℕ) → ((j w : ℕ) → ItemAt ws i j w → Looped Ends ws i j w)
    → length ws ≤ i + 3 → Nowhere (ItemAt ws i)
looped_cut Ends ws i form le = record {
  none = λ j w y. let f = form j w y in omega (arith, word_within ws (i + 3) f.1 f.3.1);
}

looped_wrong : (Ends : ℕ → Type 0) (ws : List ℕ) (i : ℕ) → ((j w : ℕ) → ItemAt ws i j w → Looped Ends ws i j w)
    → word ws (i + 3) < word ws (i + 2) → Nowhere (ItemAt ws i)
looped_wrong Ends ws i form lt = record {
  none = λ j w y.
      let f = form j w y in
      omega (arith, word_of ws (i + 2) f.0 f.3.0, word_of ws (i + 3) f.1 f.3.1, f.3.2);
}

-- REPEAT
pub loop_here : (ws : List ℕ) (i : ℕ) → Opcode ws i opcode.REPEAT → (j w : ℕ) → ItemAt ws i j w
    → Looped (IsUntil ws) ws i j w
loop_here ws i h j w y =
    let f = is_loop ws i j y.0 (role_here ws i opcode.REPEAT ToRepeat h refl) y.1 in
    let r = f.5.1 in
    (f.1, f.2, f.3, (r.0, r.1, r.2, r.3, (f.0, r.4), r.5), y.2 ∙ ap item_width f.4)

pub loop_cut : (ws : List ℕ) (i : ℕ) → Opcode ws i opcode.REPEAT → length ws ≤ i + 3 → Nowhere (ItemAt ws i)
loop_cut ws i h = looped_cut (IsUntil ws) ws i (loop_here ws i h)

pub loop_wrong : (ws : List ℕ) (i : ℕ) → Opcode ws i opcode.REPEAT → word ws (i + 3) < word ws (i + 2)
    → Nowhere (ItemAt ws i)
loop_wrong ws i h = looped_wrong (IsUntil ws) ws i (loop_here ws i h)

pub loop_exactly : (ws : List ℕ) (i end low high : ℕ) → Opcode ws i opcode.REPEAT → end ≡ skip ws (i + 1)
    → low ≡ word ws (i + 2) → high ≡ word ws (i + 3) → i + 3 < length ws → low ≤ high
    → Exactly ws (Opens (Body end low) (i + 4)) (ItemAt ws i)
loop_exactly ws i end low high h =
    looped_exactly (Body end low) (IsUntil ws) ws i end low high (λ k u j w c. c) (λ k u j w c. c) (loop_here ws i h)
    (λ j w f. let r = f.3 in (Loop r.4.0 f.0 f.1 f.2, (h, (r.0, r.1, r.2, r.3, r.4.1, r.5)), f.4))

-- MAX_UNTIL or MIN_UNTIL behind a body
pub body_end : (ws : List ℕ) (end least i : ℕ) → i ≡ end → IsEnd ws (Body end least) i
body_end ws end least i same = record { only = λ k u j w t r c. reads_nothing ws i k t r (c.0 ∙ sym same) }

body_exactly : (ws : List ℕ) (o : Order) (end least i u v : ℕ) → i ≡ end → Opcode ws i (until_opcode o)
    → v ≡ capped (least * u) → Exactly ws (Past (i + 1) v) (Closes ws (Body end least) i u)
body_exactly ws o end least i u v same h e =
    record { sound = λ j w r. (same, (o, h), r.0, r.1 ∙ e); complete = λ j w c. (c.2, c.3 ∙ sym e) }

pub body_max : (ws : List ℕ) (end least i u v : ℕ) → i ≡ end → Opcode ws i opcode.MAX_UNTIL → v ≡ capped (least * u)
    → IsEnd ws (Body end least) i × (i ≤ i + 1) × Exactly ws (Past (i + 1) v) (Closes ws (Body end least) i u)
body_max ws end least i u v same h e =
    (body_end ws end least i same, omega arith, body_exactly ws Greedy end least i u v same h e)

pub body_min : (ws : List ℕ) (end least i u v : ℕ) → i ≡ end → Opcode ws i opcode.MIN_UNTIL → v ≡ capped (least * u)
    → IsEnd ws (Body end least) i × (i ≤ i + 1) × Exactly ws (Past (i + 1) v) (Closes ws (Body end least) i u)
body_min ws end least i u v same h e =
    (body_end ws end least i same, omega arith, body_exactly ws Lazy end least i u v same h e)

pub no_until : (ws : List ℕ) (i : ℕ) (o : SreOpcode) → Opcode ws i o → o ≢ opcode.MAX_UNTIL → o ≢ opcode.MIN_UNTIL
    → (q : Order) → Opcode ws i (until_opcode q) → ⊥
no_until ws i o h max_ min_ Greedy w = max_ (same_opcode ws i o opcode.MAX_UNTIL h w)
no_until ws i o h max_ min_ Lazy w = min_ (same_opcode ws i o opcode.MIN_UNTIL h w)

pub body_cut : (ws : List ℕ) (end least i u : ℕ) (e : CodeError) → i ≡ end → NoCode opcode_number ws i → IsFault ws e
    → Unclosed ws (Body end least) i u e
body_cut ws end least i u e same n le =
    unclosed (body_end ws end least i same) (λ j w c. n.none (until_opcode c.1.0) c.1.1) le

-- what `repeat` and `until` answer
pub ruleset repeat_laws = (loop_exactly, loop_cut, loop_wrong, slice_get_within)

pub ruleset until_laws = (body_end, body_max, body_min, no_until, body_cut)

-- Bodies of possessive loops, atomic groups and lookarounds: what the check reads of them is what the grammar says.

-- SUCCESS behind a body
pub region_end : (ws : List ℕ) (end least i : ℕ) → i ≡ end → IsEnd ws (Region end least) i
region_end ws end least i same = record { only = λ k u j w t r c. reads_nothing ws i k t r (c.0 ∙ sym same) }

pub region_closed : (ws : List ℕ) (end least i u v : ℕ) → i ≡ end → Opcode ws i opcode.SUCCESS → v ≡ capped (least * u)
    → IsEnd ws (Region end least) i × (i ≤ i + 1) × Exactly ws (Past (i + 1) v) (Closes ws (Region end least) i u)
region_closed ws end least i u v same h e = (
  region_end ws end least i same,
  omega arith,
  record { sound = λ j w r. (same, h, r.0, r.1 ∙ e); complete = λ j w c. (c.2, c.3 ∙ sym e) },
)

pub region_cut : (ws : List ℕ) (end least i u : ℕ) (e : CodeError) → i ≡ end → NoCode opcode_number ws i
    → IsFault ws e → Unclosed ws (Region end least) i u e
region_cut ws end least i u e same n le =
    unclosed (region_end ws end least i same) (λ j w c. n.none opcode.SUCCESS c.1) le

-- POSSESSIVE_REPEAT
abbrev pub IsSuccess : List ℕ → ℕ → Type 0
IsSuccess ws k = Opcode ws k opcode.SUCCESS

pub possessive_here : (ws : List ℕ) (i : ℕ) → Opcode ws i opcode.POSSESSIVE_REPEAT → (j w : ℕ) → ItemAt ws i j w
    → Looped (IsSuccess ws) ws i j w
possessive_here ws i h j w y =
    let f = is_possessive ws i j y.0 (role_here ws i opcode.POSSESSIVE_REPEAT ToRepeatPossessively h refl) y.1 in
    (f.0, f.1, f.2, f.4.1, y.2 ∙ ap item_width f.3)

pub possessive_cut : (ws : List ℕ) (i : ℕ) → Opcode ws i opcode.POSSESSIVE_REPEAT → length ws ≤ i + 3
    → Nowhere (ItemAt ws i)
possessive_cut ws i h = looped_cut (IsSuccess ws) ws i (possessive_here ws i h)

pub possessive_wrong : (ws : List ℕ) (i : ℕ) → Opcode ws i opcode.POSSESSIVE_REPEAT
    → word ws (i + 3) < word ws (i + 2) → Nowhere (ItemAt ws i)
possessive_wrong ws i h = looped_wrong (IsSuccess ws) ws i (possessive_here ws i h)

pub possessive_exactly : (ws : List ℕ) (i end low high : ℕ) → Opcode ws i opcode.POSSESSIVE_REPEAT
    → end ≡ skip ws (i + 1) → low ≡ word ws (i + 2) → high ≡ word ws (i + 3) → i + 3 < length ws → low ≤ high
    → Exactly ws (Opens (Region end low) (i + 4)) (ItemAt ws i)
possessive_exactly ws i end low high h =
    looped_exactly (Region end low) (IsSuccess ws) ws i end low high (λ k u j w c. c) (λ k u j w c. c)
    (possessive_here ws i h) (λ j w f. (PossessiveLoop f.0 f.1 f.2, (h, f.3), f.4))

-- what `possessive_repeat` answers
pub ruleset possessive_repeat_laws = (possessive_exactly, possessive_cut, possessive_wrong, slice_get_within)

-- an item at i whose body stands behind n words, with a SUCCESS, and counts so many times for its width
abbrev pub Enclosed : List ℕ → ℕ → ℕ → ℕ → ℕ → ℕ → Type 0
Enclosed ws i n times j w =
    (body : Tree) × (j ≡ skip ws (i + 1)) × Reads ws (i + n) (j - 1) body × Opcode ws (j - 1) opcode.SUCCESS
    × (w ≡ capped (times * capped (0 + width body)))

module _ (ws : List ℕ) (i n times tail : ℕ) (form : (j w : ℕ) → ItemAt ws i j w → Enclosed ws i n times j w)
    (leads : tail ≡ skip ws (i + 1)) where
  enclosed_exactly : ((j w : ℕ) → Enclosed ws i n times j w → ItemAt ws i j w) → i + n + 1 ≤ tail
      → Exactly ws (Opens (Region (tail - 1) times) (i + n)) (ItemAt ws i)
  enclosed_exactly made long = record {
    sound = λ j w f.
        let c = f.1.2 in
        let P : ℕ → Type 0 = λ k. Reads ws (i + n) k f.1.0 × Opcode ws k opcode.SUCCESS in
        let r = subst P (omega (arith, c.2)) (f.1.1, c.1) in
        made j w (f.1.0, omega (arith, c.0, c.2), r.0, r.1, c.3);
    complete = λ j w y.
        let f = form j w y in
        (j - 1, (f.0, f.2, (omega (arith, f.1), f.3, omega (arith, f.1), f.4)));
  }

-- ATOMIC_GROUP: a body counts once for the group's width, as the descent adds it up
once : (t : Tree) → capped (1 * capped (0 + width t)) ≡ width t
once t = omega (arith, width_held t)

pub atomic_here : (ws : List ℕ) (i : ℕ) → Opcode ws i opcode.ATOMIC_GROUP → (j w : ℕ) → ItemAt ws i j w
    → Enclosed ws i 2 1 j w
atomic_here ws i h j w y =
    let f = is_atomic ws i j y.0 (role_here ws i opcode.ATOMIC_GROUP ToGroupAtomically h refl) y.1 in
    (f.0, f.2.1.0, f.2.1.1, f.2.1.2, y.2 ∙ ap item_width f.1 ∙ sym (once f.0))

pub atomic_exactly : (ws : List ℕ) (i tail : ℕ) → Opcode ws i opcode.ATOMIC_GROUP → tail ≡ skip ws (i + 1)
    → i + 3 ≤ tail → Exactly ws (Opens (Region (tail - 1) 1) (i + 2)) (ItemAt ws i)
atomic_exactly ws i tail h leads long =
    enclosed_exactly ws i 2 1 tail (atomic_here ws i h) leads
    (λ j w f. (Atomic f.0, (h, (f.1, f.2, f.3)), f.4 ∙ once f.0)) (omega arith)

-- ASSERT, ASSERT_NOT: a look has no width
pub assert_there : (ws : List ℕ) (i : ℕ) → Opcode ws i opcode.ASSERT → LookAt ws i
assert_there ws i h = record { sign = Positive; there = h }

pub assert_not_there : (ws : List ℕ) (i : ℕ) → Opcode ws i opcode.ASSERT_NOT → LookAt ws i
assert_not_there ws i h = record { sign = Negative; there = h }

never_counts : (n : ℕ) → capped (0 * n) ≡ 0
never_counts n = omega arith

pub look_here : (ws : List ℕ) (i : ℕ) → LookAt ws i → (j w : ℕ) → ItemAt ws i j w → Enclosed ws i 3 0 j w
look_here ws i h j w y =
    let f = is_look ws i j y.0 (role_here ws i (look_opcode h.sign) (ToLook h.sign) h.there (look_role h.sign)) y.1 in
    let r = f.3.1 in
    (f.1, r.0, r.2, r.3, y.2 ∙ ap item_width f.2 ∙ sym (never_counts (capped (0 + width f.1))))

pub look_exactly : (ws : List ℕ) (i tail : ℕ) → LookAt ws i → tail ≡ skip ws (i + 1) → i + 4 ≤ tail
    → Exactly ws (Opens (Region (tail - 1) 0) (i + 3)) (ItemAt ws i)
look_exactly ws i tail h leads long =
    enclosed_exactly ws i 3 0 tail (look_here ws i h) leads
    (λ j w f.
    let past : i + 3 ≤ j - 1 = reads_within f.0 ws (i + 3) (j - 1) f.2 in
    let there : i + 2 < length ws = omega (arith, opcode_within ws (j - 1) opcode.SUCCESS f.3) in (
      Look h.sign (word ws (i + 2)) f.0,
      (h.there, (f.1, word_there ws (i + 2) there, f.2, f.3)),
      f.4 ∙ never_counts (capped (0 + width f.0)),
    )) (omega arith)

-- what `atomic_group`, `look` and `end` answer
pub ruleset atomic_group_laws = (atomic_exactly, atomic_here, reads_within, opcode_within)

pub ruleset look_laws = (look_exactly, look_here, reads_within, opcode_within)

pub ruleset end_laws = (region_end, region_cut, same_opcode)

-- The result of reading an item, by its opcode.

-- what `item` answers
pub ruleset item_laws = (
  fail_exactly,
  no_opcode,
  info_nowhere,
  folded_at,
  only_tests,
  greedy_there,
  lazy_there,
  possessive_there,
  assert_there,
  assert_not_there,
)
