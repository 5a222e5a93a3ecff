-- Laws of the table of chains.
use Rattle.sre_board.proofs.Terms.{◌≡◌, ℕ, zero, suc, ◌+◌, ◌-◌, ◌<◌, ◌≤◌, List, [], ◌∷◌, ◌++◌, length, take, drop, Some}
use Rattle.sre_board.proofs.Terms.{slice_index_or, slice_get, refl, sym, ap, ◌∙◌, arith, length-append, append_assoc}
use Rattle.sre_board.proofs.Terms.{inl, inr, length-take-le, append-nil, get_or_past, take-append_seam}
use Rattle.sre_board.proofs.Terms.{get_or-append_seam, get_or-append, slice_get-get_or, slice_get_read, Frame, add-zero}
use Rattle.sre_board.proofs.Terms.{take-append-drop, cases_lt, slice_get_cases}
use Rattle.sre_board.specs.Choices.{frame_of, grown, table, Based}
use Rattle.sre_board.specs.declared.chains.Node.{Node}
use Rattle.sre_board.proofs.CounterStates.{got_more}

abbrev Table : Type 0
Table = List (List Frame)

abbrev with_node : Table → Node → Table
with_node t n = t ++ (frame_of n ∷ slice_index_or t n.parent []) ∷ []

length-with : (t : Table) (n : Node) → length (with_node t n) ≡ length t + 1
length-with t n = length-append t ((frame_of n ∷ slice_index_or t n.parent []) ∷ [])

pub length-grown : (ns : List Node) (t : Table) → length (grown t ns) ≡ length t + length ns
length-grown [] t = omega arith
length-grown (n ∷ ns) t = omega (arith, length-grown ns (with_node t n), length-with t n)

pub grown-append : (ns ms : List Node) (t : Table) → grown t (ns ++ ms) ≡ grown (grown t ns) ms
grown-append [] ms t = refl
grown-append (n ∷ ns) ms t = grown-append ns ms (with_node t n)

-- earlier chains stay
grown_more : (ns : List Node) (t : Table) → (rest : Table) × (grown t ns ≡ t ++ rest)
grown_more [] t = ([], sym (append-nil t))
grown_more (n ∷ ns) t =
    let ih = grown_more ns (with_node t n) in (
      (frame_of n ∷ slice_index_or t n.parent []) ∷ ih.0,
      ih.1 ∙ append_assoc t ((frame_of n ∷ slice_index_or t n.parent []) ∷ []) ih.0,
    )

pub grown_before : (ns : List Node) (t : Table) (i : ℕ) → i < length t
    → slice_index_or (grown t ns) i [] ≡ slice_index_or t i []
grown_before ns t i h = let m = grown_more ns t in rw m.1 (get_or-append t m.0 [] i h)

pub grown_taken : (k : ℕ) (ns : List Node) (t : Table) → k ≤ length ns
    → take (length t + k) (grown t ns) ≡ grown t (take k ns)
grown_taken k ns t h =
    let m = grown_more (drop k ns) (grown t (take k ns)) in
    let whole : grown t ns ≡ grown t (take k ns) ++ m.0 =
    ap (λ x. grown t x) (sym (take-append-drop k ns)) ∙ grown-append (take k ns) (drop k ns) t ∙ m.1 in
    let l : length t + k ≡ length (grown t (take k ns)) =
    omega (arith, length-grown (take k ns) t, length-take-le k ns h) in
    rw (whole, l) (take-append_seam (grown t (take k ns)) m.0)

-- the chain of a node
pub grown_at : (k : ℕ) (ns : List Node) (t : Table) (n : Node) → slice_get ns k ≡ Some n → n.parent < length t + k
    → slice_index_or (grown t ns) (length t + k) [] ≡ frame_of n ∷ slice_index_or (grown t ns) n.parent []
grown_at k [] t n e h = cc
grown_at zero (x ∷ ns) t n e h =
    let same : x ≡ n = cc in
    let below : n.parent < length t = omega arith in
    let l : length t < length (with_node t x) = omega (arith, length-with t x) in
    let a : slice_index_or (grown (with_node t x) ns) (length t) [] ≡ frame_of x ∷ slice_index_or t x.parent [] =
    grown_before ns (with_node t x) (length t) l
    ∙ get_or-append_seam t (frame_of x ∷ slice_index_or t x.parent []) [] [] in
    let b : slice_index_or (grown (with_node t x) ns) n.parent [] ≡ slice_index_or t n.parent [] =
    grown_before ns (with_node t x) n.parent (omega (arith, l)) ∙ get_or-append t _ [] n.parent below in
    rw (add-zero, b) (a ∙ ap (λ (y : Node). frame_of y ∷ slice_index_or t y.parent []) same)
grown_at (suc k) (x ∷ ns) t n e h =
    let l : length (with_node t x) + k ≡ length t + suc k = omega (arith, length-with t x) in
    rw (← l) (grown_at k ns (with_node t x) n e (omega (arith, l)))

pub get_some : {X : Type 0} (xs : List X) (k : ℕ) (d : X) → k < length xs
    → slice_get xs k ≡ Some (slice_index_or xs k d)
get_some xs k d h = slice_get-get_or xs k d h

-- the empty chain is the first, and the others are not empty
pub first_empty : (ns : List Node) (t : Table) (id : ℕ) → table ns ≡ t → id ≡ 0 → slice_index_or t id [] ≡ []
first_empty ns t id e z =
    let first : slice_index_or t 0 [] ≡ [] =
    ap (λ (x : Table). slice_index_or x 0 []) (sym e) ∙ grown_before ns ([] ∷ []) 0 (omega arith) in
    rw z first

pub count_law : (ns : List Node) (t : Table) → table ns ≡ t → length t ≡ length ns + 1
count_law ns t e = rw (← e) (omega (arith, length-grown ns ([] ∷ [])))

-- the chain of a number is that of its node
chain_of : (ns : List Node) (t : Table) (id : ℕ) (n : Node) → table ns ≡ t → Based ns → 1 ≤ id
    → slice_get ns (id - 1) ≡ Some n → slice_index_or t id [] ≡ frame_of n ∷ slice_index_or t n.parent []
chain_of ns t id n e b l found =
    let one : 1 + (id - 1) ≡ id = omega (arith, l) in
    rw (← e, ← one) (grown_at (id - 1) ns ([] ∷ []) n found (omega (arith, b (id - 1) n found)))

pub later_some : (ns : List Node) (t : Table) (id : ℕ) → table ns ≡ t → Based ns → 1 ≤ id → id < length t
    → 0 < length (slice_index_or t id [])
later_some ns t id e b l h = elim (slice_get_cases ns (id - 1)).1 [
  | inl at ↦ omega (arith, ap (λ (x : List Frame). length x) (chain_of ns t id at.0 e b l at.2))
  | inr far ↦ absurd (omega (arith, far.0, h, l, count_law ns t e))
]

pub in_table : (ns : List Node) (t : Table) (id : ℕ) → table ns ≡ t → 0 < length (slice_index_or t id [])
    → (1 ≤ id) × (id - 1 < length ns)
in_table ns t id e h = elim (cases_lt 0 id) [
  | inr zero_is ↦
      let none = first_empty ns t id e (omega (arith, zero_is)) in
      absurd (omega (arith, h, ap (λ (x : List Frame). length x) none))
  | inl later ↦ elim (cases_lt (id - 1) (length ns)) [
    | inl within ↦ (omega (arith, later), within)
    | inr far ↦
        let none : slice_index_or t id [] ≡ [] =
        get_or_past t id [] (omega (arith, far, later, count_law ns t e)) in
        absurd (omega (arith, h, ap (λ (x : List Frame). length x) none))
  ]
]

pub node_law : (ns : List Node) (t : Table) (id : ℕ) (n : Node) → table ns ≡ t → Based ns
    → 0 < length (slice_index_or t id []) → n ≡ slice_index_or ns (id - 1) n
    → (slice_index_or t id [] ≡ frame_of n ∷ slice_index_or t n.parent []) × (n.parent < id) × (id < length t)
node_law ns t id n e b h is =
    let at = in_table ns t id e h in
    let found : slice_get ns (id - 1) ≡ Some n = slice_get_read ns (length ns) (id - 1) n refl at.1 is in (
      chain_of ns t id n e b at.0 found,
      omega (arith, b (id - 1) n found, at.0),
      omega (arith, at.0, at.1, count_law ns t e),
    )

pub cut_law : (ns ms : List Node) (t : Table) (keep : ℕ) → table ns ≡ t → ms ≡ take keep ns → keep < length t
    → table ms ≡ take (keep + 1) t
cut_law ns ms t keep e m h =
    let l : keep ≤ length ns = omega (arith, h, count_law ns t e) in
    let one : 1 + keep ≡ keep + 1 = omega arith in
    rw (m, ← e, ← one) (sym (grown_taken keep ns ([] ∷ []) l))

pub push_law : (ns ms : List Node) (t : Table) (n : Node) (f : Frame) (p : ℕ) → table ns ≡ t → ms ≡ ns ++ n ∷ []
    → frame_of n ≡ f → n.parent ≡ p → table ms ≡ t ++ (f ∷ slice_index_or t p []) ∷ []
push_law ns ms t n f p e m ef ep = rw (m, ← e, ← ef, ← ep) (grown-append ns (n ∷ []) ([] ∷ []))

pub based_push : (ns ms : List Node) (t : Table) (n : Node) (p : ℕ) → table ns ≡ t → ms ≡ ns ++ n ∷ [] → Based ns
    → n.parent ≡ p → p < length t → Based ms
based_push ns ms t n p e m b ep h = λ k x g.
    elim (got_more ns n k x (ap (λ (l : List Node). slice_get l k) (sym m) ∙ g)) [
      | inl l ↦ b k x l
      | inr r ↦ omega (arith, r.0, h, ep, count_law ns t e, ap (λ (y : Node). y.parent) r.1)
    ]
