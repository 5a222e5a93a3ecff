-- The configurations tried in the innermost atomic scope, one saved alternative after the other.
use Rattle.sre_board.proofs.Terms.{AllByRecursion, ◌≡◌, ℕ, zero, suc, ◌+◌, ◌-◌, ◌<◌, ◌≤◌, inl, inr, false, List, []}
use Rattle.sre_board.proofs.Terms.{◌∷◌, ◌++◌, drop, length, map, reverse, get_or, Some, slice_get, refl, sym, ap, ◌∙◌}
use Rattle.sre_board.proofs.Terms.{subst, arith, length-reverse, slice_get-get_or, slice_get_within}
use Rattle.sre_board.proofs.Terms.{get_or_from_slice_get, StringCursor, Marks, Choice, Trying, choice, Spot, spot_at}
use Rattle.sre_board.proofs.Terms.{Frame, Region, Point, Inside, Kept, Fits, Saved, EndsTable, HoldsEnd, HoldsOpenMore}
use Rattle.sre_board.proofs.Terms.{HasEnd, KeepsOpenEnds, option_map, append_assoc, drop_all, drop_more, get_or-reverse}
use Rattle.sre_board.proofs.Terms.{slice_get-map, Keep, open_spots, Tried, TriedAgain, is_tried, true≢false}
use Rattle.sre_board.proofs.Terms.{HoldsSpotMore, IsOpenSpot, KeepsSpotEnds, HoldsOpenEnds}
use Rattle.sre_board.proofs.EndsKept.{each_among}

-- a choice by how many are newer, as the board has it and as its value has it
module _ (items : List Saved) (depth : ℕ) (s : Saved) (l : depth < length items)
    (e : s ≡ get_or items (length items - 1 - depth) s) where
  pub newest_at : slice_get (reverse items) depth ≡ Some s
  newest_at =
      let there : slice_get (reverse items) depth ≡ Some (get_or (reverse items) depth s) =
      slice_get-get_or (reverse items) depth s (omega (arith, length-reverse items, l)) in
      let is : get_or (reverse items) depth s ≡ s = get_or-reverse items depth s l ∙ sym e in
      there ∙ ap (λ (x : Saved). Some x) is

  pub chosen_at : (f : Saved → Choice) → slice_get (map f (reverse items)) depth ≡ Some (f s)
  chosen_at f = slice_get-map f (reverse items) depth ∙ ap (option_map f) newest_at

-- each rests on a chain that is there
pub fits_at : (ss : List Saved) (n c depth : ℕ) (s : Saved) → Fits ss n c → slice_get ss depth ≡ Some s → s.frame < n
fits_at [] n c depth s fits e = absurd (cc)
fits_at (x ∷ ss) n c zero s fits e =
    let same : x ≡ s = cc in subst (λ (y : Saved). y.frame < n) same (omega (arith, fits.0, fits.2))
fits_at (x ∷ ss) n c (suc depth) s fits e =
    let below = fits_at ss (x.chains + 1) x.changes depth s fits.3 e in omega (arith, below, fits.0)

-- what is left of a list from an item on
from_item : {A : Type 0} (xs : List A) (i : ℕ) (x : A) → slice_get xs i ≡ Some x → drop i xs ≡ x ∷ drop (i + 1) xs
from_item xs i x e =
    drop_more xs i x (slice_get_within xs i x e)
    ∙ ap (λ z. z ∷ drop (i + 1) xs) (get_or_from_slice_get xs i x x e)

-- a choice that is neither a region nor the mark of what is tried
pub passed_over : (pt : Point) (fs : List Frame) (c : StringCursor) (m : Marks) (cs : List Choice)
    → ((g : Region) → pt ≡ Inside g → ⊥) → is_tried pt ≡ false
    → open_spots (choice pt fs c m ∷ cs) ≡ open_spots cs
passed_over (Inside g) fs c m cs region plain = absurd (region g refl)
passed_over (Tried i) fs c m cs region plain = absurd (true≢false plain)
passed_over TriedAgain fs c m cs region plain = absurd (true≢false plain)
passed_over pt fs c m cs region plain = refl

-- the spots from a depth on, where an end is kept for each of those above it that has a number
pub record GoneOver (k : Kept) (ws : List ℕ) (d : StringCursor) (t : EndsTable) (cs : List Choice) (depth : ℕ)
    : Type 0 where
  pub newer : List Spot
  pub all : open_spots cs ≡ newer ++ open_spots (drop depth cs)
  pub held : AllByRecursion (HasEnd k ws d t) newer

-- an end that is kept for spots is so where this one may be kept in its place, and for one spot more
one_more : (k : Kept) (ws : List ℕ) (d : StringCursor) (t u : EndsTable) (xs : List Spot) (y : Spot)
    → ((n : ℕ) → HoldsEnd t n d → HoldsEnd u n d) → HasEnd k ws d u y → AllByRecursion (HasEnd k ws d t) xs
    → AllByRecursion (HasEnd k ws d u) (xs ++ y ∷ [])
one_more k ws d t u [] y still has each = (has, tt)
one_more k ws d t u (x ∷ xs) y still has each =
    (λ n number. still n (each.0 n number), one_more k ws d t u xs y still has each.1)

-- none is left
none_left : (P : Spot → Type 0) (xs ys : List Spot) → ys ≡ [] → AllByRecursion P xs → AllByRecursion P (xs ++ ys)
none_left P [] ys none each = subst (AllByRecursion P) (sym none) tt
none_left P (x ∷ xs) ys none each = (each.0, none_left P xs ys none each.1)

module _ (k : Kept) (ws : List ℕ) (d : StringCursor) (t : EndsTable) (cs : List Choice) (depth : ℕ)
    (gone : GoneOver k ws d t cs depth) where
  -- past a choice that is another point
  pub gone_else : (x : Choice) → slice_get cs depth ≡ Some x
      → open_spots (x ∷ drop (depth + 1) cs) ≡ open_spots (drop (depth + 1) cs) → GoneOver k ws d t cs (depth + 1)
  gone_else x e same = record {
    newer = gone.newer;
    all = gone.all ∙ ap (λ ds. gone.newer ++ open_spots ds) (from_item cs depth x e)
        ∙ ap (λ xs. gone.newer ++ xs) same;
    held = gone.held;
  }

  -- all were gone over
  gone_all : open_spots (drop depth cs) ≡ [] → HoldsOpenEnds k ws cs d t
  gone_all none = λ x among.
      each_among (HasEnd k ws d t) among.newer among.older x
      (subst (AllByRecursion (HasEnd k ws d t)) (sym gone.all ∙ among.there)
      (none_left (HasEnd k ws d t) gone.newer (open_spots (drop depth cs)) none gone.held))

  -- so they were behind the last choice
  pub gone_to_end : length cs ≤ depth → HoldsOpenEnds k ws cs d t
  gone_to_end far = gone_all (ap open_spots (drop_all depth cs far))

  -- and at the region
  pub gone_to_region : (g : Region) (fs : List Frame) (c : StringCursor) (m : Marks)
      → slice_get cs depth ≡ Some (Keep g fs c m) → HoldsOpenEnds k ws cs d t
  gone_to_region g fs c m e = gone_all (ap open_spots (from_item cs depth (Keep g fs c m) e))

  module _ (pt : Point) (fs : List Frame) (c : StringCursor) (m : Marks)
      (e : slice_get cs depth ≡ Some (Trying pt fs c m)) where
    abbrev here : Spot
    here = spot_at pt fs c.position m

    rest : open_spots cs ≡ gone.newer ++ here ∷ open_spots (drop (depth + 1) cs)
    rest = gone.all ∙ ap (λ ds. gone.newer ++ open_spots ds) (from_item cs depth (Trying pt fs c m) e)

    is_open : IsOpenSpot cs here
    is_open = record {
      newer = gone.newer;
      older = open_spots (drop (depth + 1) cs);
      there = rest;
    }

    -- past what is tried
    pub gone_tried : (u : EndsTable) → KeepsSpotEnds k ws here d t u → HasEnd k ws d u here
        → GoneOver k ws d u cs (depth + 1)
    gone_tried u kept has = record {
      newer = gone.newer ++ here ∷ [];
      all = rest ∙ sym (append_assoc gone.newer (here ∷ []) (open_spots (drop (depth + 1) cs)));
      held = one_more k ws d t u gone.newer here
          (λ n h. elim (kept n d h) [ inl same ↦ same | inr it ↦ it.0 ]) has gone.held;
    }

    -- for which an end may have been kept
    pub more_tried : (old new : EndsTable) → HoldsOpenMore k ws cs d old t → HoldsSpotMore k ws here d t new
        → HoldsOpenMore k ws cs d old new
    more_tried old new before one = λ n b h.
        elim (one n b h) [ inl held ↦ before n b held | inr it ↦ inr (it.0, (here, is_open, it.1)) ]

    -- in place of one that was kept
    pub kept_tried : (old new : EndsTable) → KeepsOpenEnds k ws cs d old t → KeepsSpotEnds k ws here d t new
        → KeepsOpenEnds k ws cs d old new
    kept_tried old new before kept = λ n b h.
        elim (before n b h) [
          | inl held ↦
              elim (kept n b held) [ inl same ↦ inl same | inr it ↦ inr (it.0, (here, is_open, it.1)) ]
          | inr it ↦
              elim (kept n d it.0) [
                | inl same ↦ inr (same, it.1)
                | inr one ↦ inr (one.0, (here, is_open, one.1))
              ]
        ]
