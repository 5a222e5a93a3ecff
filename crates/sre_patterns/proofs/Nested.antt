-- Items one after the other, alternatives and conditionals: what is read so far, and what is left.
use Rattle.sre_patterns.proofs.Terms.{⊎_elim, ◌≡◌, ℕ, ◌<◌, ◌≤◌, ◌⊎◌, List, length, refl, sym, subst, inl, inr, arith}
use Rattle.sre_patterns.proofs.Terms.{Re, empty, cat, Tree, Then, Item, Word, Opcode, Reads, ReadsItem, cat_onto}
use Rattle.sre_patterns.proofs.Terms.{no_item, ◌≢◌, ◌+◌, ◌-◌, [], ◌∷◌, ◌++◌, ap, ◌∙◌, byte_in, alt, skip, branch_ways}
use Rattle.sre_patterns.proofs.Terms.{uni_of, view_of, alt_onto, Serves, ServesItem, ServesBody, ReadsBranch, Table}
use Rattle.sre_patterns.proofs.Terms.{word, role_here, View, Covers, IsWider, OnlyCovers, item_opcode}
use Rattle.sre_patterns.specs.Patterns.{HasItems, HasItem, AtItems, AtItem, Stops, HasBranch, HasCondition}
use Rattle.sre_model.specs.Tree.{Empty, Trees, Only, Or, Branch, Exists, ExistsElse}
use Rattle.sre_model.proofs.Opcodes.{opcode_within, same_word, opcode_moved, word_within, word_of, is_exists}
use Rattle.sre_model.proofs.TreeOf.{reads_within, operands_past, alternative_long}
use Rattle.sre_patterns.specs.declared.task.Task.{Task}
use Rattle.sre_model.specs.Roles.{ToCheckGroup}
use Rattle.sre_patterns.proofs.Items.{PartRead, items-to, word-needed, at-item}
use Rattle.sre_patterns.proofs.Onto.{alt-last}
use Rattle.sre_patterns.proofs.Composed.{Composes, covers-exists, covers-either, covers-wider}
use Rattle.sre_patterns.proofs.Serving.{serves-parts, covered, serves-covered}
use Rattle.sre_chars.specs.declared.constants.SreOpcode.TheVariants as opcode

pub no-jump : (ws : List ℕ) (i v : ℕ) → Word ws i v → (v ≡ 15 → ⊥) → Opcode ws i opcode.JUMP → ⊥
no-jump ws i v w other o = other (same_word ws i v 15 w o)

-- an item has words
pub item-long : (ws : List ℕ) (place behind : ℕ) (P : Item → Type 0) → HasItem ws place → AtItem ws place behind P
    → place < behind
item-long ws place behind P h c =
    omega (arith, (c h.end h.item h.reads).0, operands_past h.item ws place h.end h.reads.1)

module _ (ws : List ℕ) (place end : ℕ) where
  -- before the end nothing is left only at a JUMP
  jump-there : (j : ℕ) → place ≡ j → Stops ws j end → place < end → Opcode ws place opcode.JUMP
  jump-there j same s before =
      ⊎_elim (λ e. absurd (omega arith)) (opcode_moved ws j place opcode.JUMP (sym same)) s.1

  -- where neither the end nor a JUMP is, an item is
  pub record Next (j : ℕ) (u : Tree) : Type 0 where
    pub item : Item
    pub rest : Tree
    pub is : u ≡ Then item rest
    pub behind : ℕ
    pub reads : ReadsItem ws place behind item
    pub more : Reads ws behind j rest

  pub next : (j : ℕ) (u : Tree) → Reads ws place j u → Stops ws j end → place < end
      → (Opcode ws place opcode.JUMP → ⊥) → Next j u
  next j Empty r s before none = absurd (none (jump-there j r s before))
  next j (Then x rest) r s before none =
      record { item = x; rest = rest; is = refl; behind = r.0; reads = r.1; more = r.2 }

  -- what stands before the end, unless it is a JUMP, is an item
  pub word-next : HasItems ws place end → place < end → place < length ws
  word-next h before = go h.tree h.reads
    where
      go : (u : Tree) → Reads ws place h.stop u → place < length ws
      go Empty r = opcode_within ws place opcode.JUMP (jump-there h.stop r h.stops before)
      go (Then x rest) r = opcode_within ws place _ r.1.0

  pub item-next : (v : ℕ) → HasItems ws place end → place < end → Word ws place v → (v ≡ 15 → ⊥) → HasItem ws place
  item-next v h before w other =
      let n = next h.stop h.tree h.reads h.stops before (no-jump ws place v w other) in
      record { end = n.behind; item = n.item; reads = n.reads }

-- a relation between patterns and trees, such as that one covers the other
module _ (T : Re → Tree → Type 0) (ws : List ℕ) (start end : ℕ) where
  -- the items from start on are those of the patterns, and then those from place on
  pub record Left (place : ℕ) (parts : List Re) (j : ℕ) (t : Tree) : Type 0 where
    pub rest : Tree
    pub reads : Reads ws place j rest
    pub holds : (b : Re) → T b rest → T (cat_onto parts b) t

  pub record SoFar (place : ℕ) (parts : List Re) : Type 0 where
    pub left : HasItems ws place end
    pub each : (j : ℕ) (t : Tree) → Reads ws start j t → Stops ws j end → Left place parts j t

  -- one more item
  pub more : (I : Item → Type 0) (place behind : ℕ) (parts after : List Re) (re : Re)
      → ((b : Re) (x : Item) (rest : Tree) → I x → T b rest → T (cat re b) (Then x rest))
      → ((b : Re) (t : Tree) → T (cat_onto parts (cat re b)) t → T (cat_onto after b) t)
      → SoFar place parts → place < end → (Opcode ws place opcode.JUMP → ⊥) → AtItem ws place behind I
      → SoFar behind after
  more I place behind parts after re join onto so before none c = record {
    left =
        let h = so.left in
        let n = next ws place end h.stop h.tree h.reads h.stops before none in
        record { stop = h.stop; tree = n.rest; reads = moved h.stop h.tree n; stops = h.stops };
    each = λ j t r s.
        let left = so.each j t r s in
        let n = next ws place end j left.rest left.reads s before none in
        record {
          rest = n.rest;
          reads = moved j left.rest n;
          holds = λ b d.
              onto b t (left.holds (cat re b)
              (subst (T (cat re b)) (sym n.is) (join b n.item n.rest (c n.behind n.item n.reads).1 d)));
        };
  }
    where
      moved : (j : ℕ) (u : Tree) (n : Next ws place end j u) → Reads ws behind j n.rest
      moved j u n = subst (λ k. Reads ws k j n.rest) (sym (c n.behind n.item n.reads).0) n.more

  -- at the end, or at a JUMP, nothing is left
  pub ended : (place : ℕ) (parts : List Re) (re : Re) → T empty Empty
      → ((t : Tree) → T (cat_onto parts empty) t → T re t)
      → SoFar place parts → (end ≤ place) ⊎ Opcode ws place opcode.JUMP → AtItems ws start end place (T re)
  ended place parts re none onto so at j t r s =
      let left = so.each j t r s in
      let nothing = go left.rest left.reads s at in
      (nothing.1, onto t (left.holds empty (subst (T empty) (sym nothing.0) none)))
    where
      go : (u : Tree) → Reads ws place j u → Stops ws j end → (end ≤ place) ⊎ Opcode ws place opcode.JUMP
          → (u ≡ Empty) × (place ≡ j)
      go Empty r s a = (refl, r)
      go (Then x rest) r s (inl past) =
          absurd (omega (arith, operands_past x ws place r.0 r.1.1, reads_within rest ws r.0 j r.2, s.0))
      go (Then x rest) r s (inr jump) = absurd (no_item ws place r.0 x opcode.JUMP jump refl r.1)

-- alternatives
module _ (s : Task) (ws : List ℕ) where
  abbrev B : Re → Trees → Type 0
  B re ts = ServesBody s.purpose (view_of s.encoding) (uni_of s.code) re (λ w. branch_ways w ts)

  parts-of : Composes (ServesBody s.purpose (view_of s.encoding) (uni_of s.code))
  parts-of = serves-parts (view_of s.encoding) (uni_of s.code) s.purpose

  -- what is left: some alternatives, or the zero behind the last one
  abbrev pub Rest : ℕ → ℕ → Type 0
  Rest at j = ((us : Trees) × ReadsBranch ws at j us) ⊎ (Word ws at 0 × (j ≡ at + 1))

  abbrev pub EndsIn : (at j : ℕ) → Rest at j → Re → Type 0
  EndsIn at j (inl left) b = B b left.0
  EndsIn at j (inr none) b = b ≡ byte_in []

  pub record BranchSoFar (i at : ℕ) (parts : List Re) : Type 0 where
    pub end : ℕ
    pub trees : Trees
    pub reads : ReadsItem ws i end (Branch trees)
    pub left : Rest at end
    pub holds : (b : Re) → EndsIn at end left b → B (alt_onto parts b) trees

  pub branch-begun : (i : ℕ) → HasBranch ws i → BranchSoFar i (i + 1) []
  branch-begun i h = record {
    end = h.end;
    trees = h.trees;
    reads = h.reads;
    left = inl (h.trees, h.reads.1);
    holds = λ b k. k;
  }

  -- the word at an alternative is there
  pub word-there : {i at : ℕ} {parts : List Re} → BranchSoFar i at parts → at < length ws
  word-there {at = at} so = elim so.left [
    | (inl left) ↦ word-needed ws at 2 (omega (arith, alternative_long ws at so.end left.0 left.1))
    | (inr none) ↦ word_within ws at 0 none.0
  ]

  first-of : (at j : ℕ) (ts : Trees) → ReadsBranch ws at j ts → (t : Tree) × Reads ws (at + 1) (skip ws at - 2) t
  first-of at j (Only t) r = (t, r.0)
  first-of at j (Or t ts) r = (t, r.0)

  -- what stands in an alternative
  pub record AlternativeRead (at v : ℕ) : Type 0 where
    pub items : HasItems ws (at + 1) (at + v - 2)
    pub long : 3 ≤ v

  pub alternative-read : {i at v : ℕ} {parts : List Re} → BranchSoFar i at parts → Word ws at v → v ≢ 0
      → AlternativeRead at v
  alternative-read {at = at} {v = v} so w some = elim so.left [
    | (inl left) ↦
        let first = first-of at so.end left.0 left.1 in
        let to : skip ws at ≡ at + v = ap (λ n. at + n) (word_of ws at v w) in
        record {
          items = items-to ws (at + 1) (skip ws at - 2) (at + v - 2) first.0 first.1 (ap (λ n. n - 2) to);
          long = omega (arith, alternative_long ws at so.end left.0 left.1, to);
        }
    | (inr none) ↦ absurd (some (same_word ws at v 0 w none.0))
  ]

  -- one more alternative
  pub alternative : (i at v e : ℕ) (parts after : List Re) (re : Re) → BranchSoFar i at parts → Word ws at v
      → v ≢ 0 → AtItems ws (at + 1) (at + v - 2) e (Serves s re) → after ≡ parts ++ re ∷ []
      → BranchSoFar i (at + v) after
  alternative i at v e parts after re so w some c same = record {
    end = so.end;
    trees = so.trees;
    reads = so.reads;
    left = (step so.end so.left).0;
    holds = λ b k.
        subst (λ z. B z so.trees) (moved b) (so.holds (alt re b) ((step so.end so.left).1 b k));
  }
    where
      to : skip ws at ≡ at + v
      to = ap (λ n. at + n) (word_of ws at v w)

      body : (t : Tree) → Reads ws (at + 1) (skip ws at - 2) t → Serves s re t
      body t r = (c (skip ws at - 2) t r (omega (arith, to), inl (ap (λ n. n - 2) to))).1

      moved : (b : Re) → alt_onto parts (alt re b) ≡ alt_onto after b
      moved b = sym (alt-last parts re b) ∙ ap (λ l. alt_onto l b) (sym same)

      step : (j : ℕ) (r : Rest at j)
          → (n : Rest (at + v) j) × ((b : Re) → EndsIn (at + v) j n b → EndsIn at j r (alt re b))
      step j (inl (Only t, r)) = (
        inr (subst (λ n. Word ws n 0) to r.2, r.3 ∙ ap (λ n. n + 1) to),
        λ b is. subst (λ z. B (alt re z) (Only t)) (sym is) (parts-of.last re t (body t r.0)),
      )
      step j (inl (Or t us, r)) = (
        inl (us, subst (λ n. ReadsBranch ws n j us) to r.2),
        λ b k. parts-of.either re b t us (body t r.0) k,
      )
      step j (inr none) = absurd (some (same_word ws at v 0 w none.0))

  -- behind the last one
  pub branches : (i at : ℕ) (parts : List Re) (whole : Re) → BranchSoFar i at parts → Word ws at 0
      → whole ≡ alt_onto parts (byte_in []) → AtItem ws i (at + 1) (ServesItem s whole)
  branches i at parts whole so w is =
      let k = go so.end so.left in
      at-item (ServesItem s whole) ws i (at + 1) so.end (Branch so.trees) k.0 so.reads
      (subst (λ z. B z so.trees) (sym is) (so.holds (byte_in []) k.1))
    where
      go : (j : ℕ) (r : Rest at j) → (at + 1 ≡ j) × EndsIn at j r (byte_in [])
      go j (inl left) = absurd (omega (arith, alternative_long ws at j left.0 left.1, word_of ws at 0 w))
      go j (inr none) = (sym none.1, refl)

-- conditionals: with a second part, which a JUMP announces, or without
module _ (ws : List ℕ) (i : ℕ) where
  -- where the second part begins, or what follows
  abbrev pub behind : ℕ
  behind = i + 1 + word ws (i + 2)

  -- one of the two forms
  abbrev pub OneOf : ℕ → Item → Type 0
  OneOf j x = ((g : ℕ) × (a : Tree) × (x ≡ Exists g a) × ReadsItem ws i j (Exists g a))
      ⊎ ((g : ℕ) × (a : Tree) × (b : Tree) × (x ≡ ExistsElse g a b) × ReadsItem ws i j (ExistsElse g a b))

  pub one-of : (h : HasCondition ws i) → OneOf h.end h.item
  one-of h =
      is_exists ws i h.end h.item (role_here ws i (item_opcode h.item) ToCheckGroup h.reads.0 h.is) h.reads

  pub condition-read : HasCondition ws i → PartRead ws (i + 3) behind (i + 2)
  condition-read h = elim (one-of h) [
    | (inl f) ↦
        let o = f.3.1 in
        let order = reads_within f.1 ws (i + 3) h.end o.2 in
        record {
          items = items-to ws (i + 3) h.end behind f.1 o.2 o.1;
          within = word-needed ws (i + 2) 1 (omega arith);
        }
    | (inr f) ↦
        let o = f.4.1 in
        let order = reads_within f.1 ws (i + 3) (behind - 2) o.1 in
        record {
          items = record { stop = behind - 2; tree = f.1; reads = o.1; stops = (omega arith, inr o.2.0) };
          within = word-needed ws (i + 2) 1 (omega arith);
        }
  ]

module _ (s : Task) (ws : List ℕ) (i : ℕ) (h : HasCondition ws i) (only : OnlyCovers s.purpose) (at : ℕ)
    (to : at ≡ behind ws i) (re : Re) (stop : ℕ) (c : AtItems ws (i + 3) at stop (Serves s re)) where
  abbrev V : View
  V = view_of s.encoding

  abbrev table : Table
  table = uni_of s.code

  -- the only part ends where the item does
  plain : (j g : ℕ) (a : Tree) → ReadsItem ws i j (Exists g a) → (stop ≡ at) × (at ≡ j) × Covers V table re a
  plain j g a r =
      let o = r.1 in
      let same : at ≡ j = to ∙ sym o.1 in
      let k = c j a o.2 (omega (arith, same), inl (sym same)) in
      (k.0 ∙ sym same, same, covered V table s.purpose re _ only k.1)

  -- the first part ends at the JUMP to the second one
  forked : (j g : ℕ) (a b : Tree) → ReadsItem ws i j (ExistsElse g a b)
      → (stop + 2 ≡ at) × (j ≡ skip ws (stop + 1)) × Reads ws at j b × Covers V table re a
  forked j g a b r =
      let o = r.1 in
      let order = reads_within a ws (i + 3) (behind ws i - 2) o.1 in
      let k = c (behind ws i - 2) a o.1 (omega (arith, to), inr o.2.0) in (
        omega (arith, k.0, to, order),
        o.2.1 ∙ ap (λ n. skip ws (n + 1)) (sym k.0),
        subst (λ n. Reads ws n j b) (sym to) o.3,
        covered V table s.purpose re _ only k.1,
      )

  pub without : (whole : Re) → stop ≡ at → IsWider (alt re empty) whole → AtItem ws i at (ServesItem s whole)
  without whole is wider = elim (one-of ws i h) [
    | (inl f) ↦
        let k = plain h.end f.0 f.1 f.3 in
        at-item (ServesItem s whole) ws i at h.end (Exists f.0 f.1) k.1 f.3
        (serves-covered V table s.purpose whole _ only
        (covers-wider V table (alt re empty) whole _ wider (covers-exists V table re f.0 f.1 k.2)))
    | (inr f) ↦ absurd (omega (arith, (forked h.end f.0 f.1 f.2 f.4).0, is))
  ]

  -- what stands behind a JUMP
  pub else-read : stop ≢ at → PartRead ws at (skip ws (stop + 1)) (stop + 1)
  else-read other = elim (one-of ws i h) [
    | (inl f) ↦ absurd (other (plain h.end f.0 f.1 f.3).0)
    | (inr f) ↦
        let k = forked h.end f.0 f.1 f.2 f.4 in
        let later = reads_within f.2 ws at h.end k.2 in
        record {
          items = items-to ws at h.end (skip ws (stop + 1)) f.2 k.2 k.1;
          within = word-needed ws (stop + 1) 0 (omega (arith, later, k.1, k.0));
        }
  ]

  pub with-else : (other whole : Re) (v e : ℕ) → stop ≢ at → e ≡ skip ws (stop + 1)
      → AtItems ws at e v (Serves s other) → IsWider (alt re other) whole
      → AtItem ws i e (ServesItem s whole)
  with-else other whole v e apart ends d wider = elim (one-of ws i h) [
    | (inl f) ↦ absurd (apart (plain h.end f.0 f.1 f.3).0)
    | (inr f) ↦
        let k = forked h.end f.0 f.1 f.2 f.4 in
        let same : e ≡ h.end = ends ∙ sym k.1 in
        let l = d h.end f.2 k.2 (omega (arith, same), inl (sym same)) in
        at-item (ServesItem s whole) ws i e h.end (ExistsElse f.0 f.1 f.2) same f.4
        (serves-covered V table s.purpose whole _ only
        (covers-wider V table (alt re other) whole _ wider
        (covers-either V table re other f.0 f.1 f.2 k.3 (covered V table s.purpose other _ only l.1))))
  ]
