-- The innermost atomic scope on a backtrack stack, and what is left when it ends.
use Rattle.sre_board.proofs.Terms.{◌≡◌, ℕ, ◌+◌, ◌-◌, ◌<◌, ◌≤◌, ◌⊎◌, inl, inr, List, [], ◌∷◌, length, map, reverse, take}
use Rattle.sre_board.proofs.Terms.{slice_index_or, refl, sym, ap, ◌∙◌, subst, arith, Bool, true, false, nat_tests}
use Rattle.sre_board.proofs.Terms.{length-reverse, length-take-le, Marks, no_marks, Trail, states, Choice, BoardValue}
use Rattle.sre_board.proofs.Terms.{Region, Inside, Point, choice_of, board_of, Fits, regions_of, regions_in}
use Rattle.sre_board.proofs.Terms.{down_to_region, Saved, not, nat_eq, from_region, Cuts}
use Rattle.sre_turns.specs.Fruit.{is_inside}
use Rattle.sre_board.proofs.Choosing.{Table, agree_cut, fits-more, same_choices}

-- from the innermost region on, as the board has it and as its value has it
module _ (t : Table) (ms : List Marks) where
  abbrev chosen : List Saved → List Choice
  chosen ss = map (choice_of t ms) ss

  down_step : (s : Saved) (ss : List Saved) → from_region (chosen ss) ≡ chosen (down_to_region ss) → (pt : Point)
      → s.point ≡ pt → from_region (chosen (s ∷ ss)) ≡ chosen (down_to_region (s ∷ ss))
  down_step s ss ih (Inside g) e = rw e refl
  down_step s ss ih pt e = rw e ih

  from_down : (ss : List Saved) → from_region (chosen ss) ≡ chosen (down_to_region ss)
  from_down [] = refl
  from_down (s ∷ ss) = down_step s ss (from_down ss) s.point refl

-- a choice is a region, or it is none
region_or_not : (pt : Point) → (regions_of pt ≡ 1) ⊎ (regions_of pt ≡ 0)
region_or_not (Inside g) = inl refl
region_or_not pt = inr refl

down_here : (s : Saved) (ss : List Saved) → regions_of s.point ≡ 1 → down_to_region (s ∷ ss) ≡ s ∷ ss
down_here s ss e = rw e refl

down_below : (s : Saved) (ss : List Saved) → regions_of s.point ≡ 0 → down_to_region (s ∷ ss) ≡ down_to_region ss
down_below s ss e = rw e refl

-- where none is counted there is none, and the other way round
down_none : (ss : List Saved) → (regions_in ss ≡ 0 → down_to_region ss ≡ [])
    × (down_to_region ss ≡ [] → regions_in ss ≡ 0)
down_none [] = (λ e. refl, λ e. refl)
down_none (s ∷ ss) = elim (region_or_not s.point) [
  | (inl k) ↦ (
    λ e. absurd (omega (arith, k)),
    λ e. let same : s ∷ ss ≡ [] = sym (down_here s ss k) ∙ e in absurd (cc),
  )
  | (inr k) ↦ (
    λ e. down_below s ss k ∙ (down_none ss).0 (omega (arith, k)),
    λ e. omega (arith, k, (down_none ss).1 (sym (down_below s ss k) ∙ e)),
  )
]

-- above the innermost region there is none, and what fits down to it fits from it on
down_law : (ss : List Saved) (t : Saved) (rest : List Saved) → down_to_region ss ≡ t ∷ rest
    → (regions_in ss ≡ regions_in rest + regions_of t.point)
    × ((n c : ℕ) → Fits ss n c → Fits (t ∷ rest) n c)
down_law [] t rest e = absurd (cc)
down_law (s ∷ ss) t rest e = elim (region_or_not s.point) [
  | (inl k) ↦
      let same : s ∷ ss ≡ t ∷ rest = sym (down_here s ss k) ∙ e in
      (ap (λ (xs : List Saved). regions_in xs) same, λ n c f. subst (λ (xs : List Saved). Fits xs n c) same f)
  | (inr k) ↦
      let law = down_law ss t rest (sym (down_below s ss k) ∙ e) in (
        omega (arith, k, law.0),
        λ n c f.
            fits-more (t ∷ rest) (s.chains + 1) n s.changes c (omega (arith, f.0)) f.1
            (law.1 (s.chains + 1) s.changes f.3),
      )
]

-- the board's value from the innermost region on
region_of : (b : BoardValue) (t : Trail) (chains : Table) (frame : ℕ) (saved : List Saved)
    → board_of t chains frame saved ≡ b
    → from_region b.choices ≡ map (choice_of chains (states t)) (down_to_region (reverse saved))
region_of b t chains frame saved e =
    ap (λ (x : BoardValue). from_region x.choices) (sym e) ∙ from_down chains (states t) (reverse saved)

-- what is left is within the trail and the table that the region needs
pub cut_fits : (old new : List Saved) (s : Saved) (n c : ℕ) → down_to_region (reverse old) ≡ s ∷ reverse new
    → Fits (reverse old) n c → Fits (s ∷ reverse new) n c
cut_fits old new s n c d f = (down_law (reverse old) s (reverse new) d).1 n c f

-- the innermost region ends
pub cut_held : (b : BoardValue) (t : Trail) (chains chains' : Table) (frame : ℕ) (old new : List Saved) (s : Saved)
    (g : Region) → board_of t chains frame old ≡ b → Fits (reverse old) (length chains) (length t.past)
    → s.point ≡ Inside g → down_to_region (reverse old) ≡ s ∷ reverse new → chains' ≡ take (s.chains + 1) chains
    → Cuts b g s.cursor (board_of t chains' s.frame new)
cut_held b t chains chains' frame old new s g e f es d ec =
    let fits = cut_fits old new s (length chains) (length t.past) d f in
    let frames : slice_index_or (take (s.chains + 1) chains) s.frame [] ≡ slice_index_or chains s.frame [] =
    agree_cut chains s.chains s.frame (omega (arith, fits.2)) in
    let same = same_choices (reverse new) chains (take (s.chains + 1) chains) (states t) (states t) (s.chains + 1)
    s.changes fits.3 (agree_cut chains s.chains) (λ i h. refl) in
    record {
      entered = slice_index_or (states t) s.changes no_marks;
      region =
          region_of b t chains frame old e ∙ ap (λ (xs : List Saved). map (choice_of chains (states t)) xs) d
          ∙ rw (ec, frames, same, es) refl;
      marks = ap (λ (x : BoardValue). x.marks) e;
    }

-- no region is there
pub no_region : (b : BoardValue) (t : Trail) (chains : Table) (frame : ℕ) (saved : List Saved)
    → board_of t chains frame saved ≡ b → regions_in (reverse saved) ≡ 0 → from_region b.choices ≡ []
no_region b t chains frame saved e z =
    region_of b t chains frame saved e
    ∙ ap (λ (xs : List Saved). map (choice_of chains (states t)) xs) ((down_none (reverse saved)).0 z)

regions_few : (pt : Point) → regions_of pt ≤ 1
regions_few (Inside g) = omega arith
regions_few pt = omega arith

-- there are no more regions than choices, with one choice more, too
regions_fit : (ss : List Saved) → regions_in ss ≤ length ss
regions_fit [] = omega arith
regions_fit (s ∷ ss) = omega (arith, regions_fit ss, regions_few s.point)

pub few_regions : (saved : List Saved) (pt : Point) → regions_in (reverse saved) + regions_of pt ≤ length saved + 1
few_regions saved pt = omega (arith, regions_fit (reverse saved), regions_few pt, length-reverse saved)

-- a board that counts a region has one
pub never_none : (saved : List Saved) (n : ℕ) → n ≡ regions_in (reverse saved) → (n ≡ 0 → ⊥)
    → down_to_region (reverse saved) ≡ [] → ⊥
never_none saved n e some none = some (e ∙ (down_none (reverse saved)).1 none)

pub cut_invariant : (old new : List Saved) (s : Saved) (g : Region) (chains chains' : Table) (c n : ℕ)
    → s.point ≡ Inside g → down_to_region (reverse old) ≡ s ∷ reverse new → Fits (reverse old) (length chains) c
    → chains' ≡ take (s.chains + 1) chains → n ≡ regions_in (reverse old) → (s.frame < length chains') × Fits
    (reverse new) (length chains') c × (n - 1 ≡ regions_in (reverse new))
cut_invariant old new s g chains chains' c n es d f ec en =
    let fits = cut_fits old new s (length chains) c d f in
    let long : length chains' ≡ s.chains + 1 =
    omega (arith, ap (λ (x : Table). length x) ec, length-take-le (s.chains + 1) chains, fits.0) in
    let one : regions_of s.point ≡ 1 = ap (λ p. regions_of p) es in (
      omega (arith, fits.2),
      fits-more (reverse new) (s.chains + 1) (length chains') s.changes c (omega arith) fits.1 fits.3,
      omega (arith, (down_law (reverse old) s (reverse new) d).0, one),
    )

-- whether there is one among them
abbrev there_is : List Choice → Bool
there_is cs = elim cs [ [] ↦ false | (c ∷ rest) ↦ true ]

-- is whether one is counted
counted : (t : Table) (ms : List Marks) (ss : List Saved)
    → not (nat_eq (regions_in ss) 0) ≡ there_is (map (choice_of t ms) (down_to_region ss))
counted t ms [] = refl
counted t ms (s ∷ ss) = elim (region_or_not s.point) [
  | (inl k) ↦ rw (down_here s ss k) (grind (arith, nat_tests, k))
  | (inr k) ↦ rw (down_below s ss k) (ap (λ n. not (nat_eq n 0)) (omega (arith, k)) ∙ counted t ms ss)
]

-- a board is inside a region where it counts one
pub inside_law : (b : BoardValue) (t : Trail) (chains : Table) (frame : ℕ) (saved : List Saved) (n : ℕ)
    → board_of t chains frame saved ≡ b → n ≡ regions_in (reverse saved) → not (nat_eq n 0) ≡ is_inside b.choices
inside_law b t chains frame saved n e is =
    ap (λ m. not (nat_eq m 0)) is ∙ counted chains (states t) (reverse saved)
    ∙ ap there_is (sym (region_of b t chains frame saved e))
