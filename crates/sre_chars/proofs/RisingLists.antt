-- Lists without a fault rise, and so a character is looked up at the last entry that begins at it or below.
use Rattle.sre_chars.proofs.Terms.{◌≡◌, ℕ, zero, suc, ◌+◌, ◌<◌, ◌≤◌, true, false, Option, Some, None, List, [], ◌∷◌}
use Rattle.sre_chars.proofs.Terms.{length, get_or, map, refl, arith, nat_le, IsNonDecreasingBy, nat_tests, Table}
use Rattle.sre_chars.proofs.Terms.{is_scalar, is_alphanumeric, last_of, entry_fault, list_fault, Listing, Map, Ranges}
use Rattle.sre_chars.proofs.Terms.{◌==◌, Bool, ◌&&◌, ◌||◌, if◌then◌else◌, unwrap_or, nat_lt, option_or, length-map}
use Rattle.sre_chars.proofs.Terms.{get_or-map, is_between, is_in_ranges, mapped, last_up_to, is_scalar_entry}
use Rattle.sre_chars.proofs.Terms.{table_fault, sym, take}

-- two searches that both find nothing
pub both_none : {T : Type 0} (a b : Option T) → option_or a b ≡ None → (a ≡ None) × (b ≡ None)
both_none None b h = (refl, h)
both_none (Some x) b h = absurd (cc)

-- what an entry without a fault keeps
pub record IsLawfulEntry (kind : Listing) (next : ℕ) (e : ℕ × ℕ) : Type 0 where
  pub scalar : is_scalar_entry kind e ≡ true
  pub past_ascii : 128 ≤ e.0
  pub above : next ≤ e.0
  pub rises : e.0 ≤ last_of kind e

pub lawful_entry : (kind : Listing) (next : ℕ) (e : ℕ × ℕ) → entry_fault kind next e ≡ None → IsLawfulEntry kind next e
lawful_entry kind next e h = record {
  scalar = grind (arith, nat_tests);
  past_ascii = grind (arith, nat_tests);
  above = grind (arith, nat_tests);
  rises = grind (arith, nat_tests);
}

-- what a list without a fault keeps, entry by entry
pub head_of : (kind : Listing) (next : ℕ) (e : ℕ × ℕ) (es : List (ℕ × ℕ)) → list_fault kind next (e ∷ es) ≡ None
    → IsLawfulEntry kind next e × (list_fault kind (last_of kind e + 1) es ≡ None)
head_of kind next e es h =
    let parts = both_none (entry_fault kind next e) (list_fault kind (last_of kind e + 1) es) h in
    (lawful_entry kind next e parts.0, parts.1)

-- no entry begins below what is taken up
pub first_at_least : (kind : Listing) (next : ℕ) (es : List (ℕ × ℕ)) → list_fault kind next es ≡ None
    → (i : ℕ) (d : ℕ × ℕ) → i < length es → next ≤ (get_or es i d).0
first_at_least kind next [] h i d l = absurd (omega arith)
first_at_least kind next (e ∷ es) h zero d l = (head_of kind next e es h).0.above
first_at_least kind next (e ∷ es) h (suc i) d l =
    let head = head_of kind next e es h in
    omega (arith, head.0.above, head.0.rises, first_at_least kind (last_of kind e + 1) es head.1 i d (omega arith))

pub non_decreasing : (kind : Listing) (next : ℕ) (es : List (ℕ × ℕ)) → list_fault kind next es ≡ None
    → IsNonDecreasingBy (λ e. e.0) es
non_decreasing kind next [] h i j d le l = absurd (omega arith)
non_decreasing kind next (e ∷ es) h zero zero d le l = omega arith
non_decreasing kind next (e ∷ es) h (suc i) zero d le l = absurd (omega arith)
non_decreasing kind next (e ∷ es) h zero (suc j) d le l =
    let head = head_of kind next e es h in
    omega (arith, head.0.rises, first_at_least kind (last_of kind e + 1) es head.1 j d (omega arith))
non_decreasing kind next (e ∷ es) h (suc i) (suc j) d le l =
    non_decreasing kind (last_of kind e + 1) es (head_of kind next e es h).1 i j d (omega arith) (omega arith)

-- below what the entries begin at there is none
pub none_up_to : (kind : Listing) (next : ℕ) (es : List (ℕ × ℕ)) (c : ℕ) → list_fault kind next es ≡ None → c < next
    → last_up_to es c ≡ None
none_up_to kind next [] c h l = refl
none_up_to kind next (e ∷ es) c h l = let above = (head_of kind next e es h).0.above in grind (arith, nat_tests)

-- where every entry begins above c there is none
pub last_up_to-none : {X : Type 0} (pair : X → ℕ × ℕ) (es : List X) (c : ℕ)
    → ((k : ℕ) (d : X) → k < length es → nat_le (pair (get_or es k d)).0 c ≡ false) → last_up_to (map pair es) c ≡ None
last_up_to-none pair [] c above = refl
last_up_to-none pair (e ∷ es) c above = rw (above 0 e (omega arith)) refl

-- where the entries up to place i begin at c or below, and the others above it, it is the one at i
pub last_up_to-at : {X : Type 0} (pair : X → ℕ × ℕ) (es : List X) (c i : ℕ) (d : X) → i < length es
    → ((k : ℕ) → k ≤ i → nat_le (pair (get_or es k d)).0 c ≡ true)
    → ((k : ℕ) (x : X) → i < k → k < length es → nat_le (pair (get_or es k x)).0 c ≡ false)
    → last_up_to (map pair es) c ≡ Some (pair (get_or es i d))
last_up_to-at pair [] c i d l below above = absurd (omega arith)
last_up_to-at pair (e ∷ es) c zero d l below above =
    let rest = last_up_to-none pair es c (λ k x h. above (suc k) x (omega arith) (omega arith)) in
    rw (below 0 (omega arith), rest) refl
last_up_to-at pair (e ∷ es) c (suc i) d l below above =
    let rest =
    last_up_to-at pair es c i d (omega arith) (λ k h. below (suc k) (omega arith))
    (λ k x h m. above (suc k) x (omega arith) (omega arith))
    in
    rw (below 0 (omega arith), rest) refl

-- pairs rise as what they are of does
pub non_decreasing-of_pairs : {X : Type 0} (pair : X → ℕ × ℕ) (es : List X)
    → IsNonDecreasingBy (λ e. e.0) (map pair es) → IsNonDecreasingBy (λ e. (pair e).0) es
non_decreasing-of_pairs pair es rises i j d le l =
    let at = rises i j (pair d) le (rw (length-map es pair) l) in
    rw (← get_or-map pair es i d, ← get_or-map pair es j d) at

-- what a character is mapped to by the entry where it is looked up
abbrev pub image_by : Option (ℕ × ℕ) → ℕ → ℕ
image_by None c = c
image_by (Some e) c = if e.0 == c then e.1 else c

-- whether a character lies in the range where it is looked up
abbrev pub reaches : Option (ℕ × ℕ) → ℕ → Bool
reaches None c = false
reaches (Some e) c = nat_le c e.1

image_of_both : (e : ℕ × ℕ) (es : List (ℕ × ℕ)) (c : ℕ) (o : Option (ℕ × ℕ))
    → mapped es c ≡ image_by o c → (c < e.0 + 1 → o ≡ None)
    → (if e.0 == c then e.1 else mapped es c) ≡ image_by (if nat_le e.0 c then Some (unwrap_or o e) else None) c
image_of_both e es c None rest beyond = grind (arith, nat_tests)
image_of_both e es c (Some x) rest beyond = grind (arith, nat_tests)

pub mapped-last_up_to : (next : ℕ) (es : List (ℕ × ℕ)) (c : ℕ) → list_fault Map next es ≡ None
    → mapped es c ≡ image_by (last_up_to es c) c
mapped-last_up_to next [] c h = refl
mapped-last_up_to next (e ∷ es) c h =
    let head = head_of Map next e es h in
    let rest = mapped-last_up_to (e.0 + 1) es c head.1 in
    let beyond : c < e.0 + 1 → last_up_to es c ≡ None = none_up_to Map (e.0 + 1) es c head.1 in
    image_of_both e es c (last_up_to es c) rest beyond

reach_of_both : (e : ℕ × ℕ) (es : List (ℕ × ℕ)) (c : ℕ) (o : Option (ℕ × ℕ))
    → is_in_ranges es c ≡ reaches o c → e.0 ≤ e.1 → (c < e.1 + 1 → o ≡ None)
    → (is_between e.0 e.1 c || is_in_ranges es c) ≡ reaches (if nat_le e.0 c then Some (unwrap_or o e) else None) c
reach_of_both e es c None rest rises beyond = grind (arith, nat_tests)
reach_of_both e es c (Some x) rest rises beyond = grind (arith, nat_tests)

pub is_in_ranges-last_up_to : (next : ℕ) (es : List (ℕ × ℕ)) (c : ℕ) → list_fault Ranges next es ≡ None
    → is_in_ranges es c ≡ reaches (last_up_to es c) c
is_in_ranges-last_up_to next [] c h = refl
is_in_ranges-last_up_to next (e ∷ es) c h =
    let head = head_of Ranges next e es h in
    let rest = is_in_ranges-last_up_to (e.1 + 1) es c head.1 in
    let beyond : c < e.1 + 1 → last_up_to es c ≡ None = none_up_to Ranges (e.1 + 1) es c head.1 in
    reach_of_both e es c (last_up_to es c) rest head.0.rises beyond

-- ranges without a fault have scalar values alone
pub is_scalar-in_ranges : (next : ℕ) (es : List (ℕ × ℕ)) (c : ℕ) → list_fault Ranges next es ≡ None
    → (is_scalar c && is_in_ranges es c) ≡ is_in_ranges es c
is_scalar-in_ranges next [] c h = grind (arith, nat_tests)
is_scalar-in_ranges next (e ∷ es) c h =
    let head = head_of Ranges next e es h in
    let rest = is_scalar-in_ranges (e.1 + 1) es c head.1 in
    let scalar = head.0.scalar in
    grind (arith, nat_tests)

-- the three lists of a table without a fault
pub record AreLawful (t : Table) : Type 0 where
  pub lower : list_fault Map 0 t.lower ≡ None
  pub upper : list_fault Map 0 t.upper ≡ None
  pub alnum : list_fault Ranges 0 t.alnum ≡ None

pub lawful_lists : (t : Table) → table_fault t ≡ None → AreLawful t
lawful_lists t h =
    let upper = list_fault Map 0 t.upper in
    let alnum = list_fault Ranges 0 t.alnum in
    let first = both_none (list_fault Map 0 t.lower) (option_or upper alnum) h in
    let second = both_none upper alnum first.1 in
    record { lower = first.0; upper = second.0; alnum = second.1 }

-- past ASCII the ranges alone decide
pub is_alphanumeric-past_ascii : (t : Table) (c : ℕ) → table_fault t ≡ None → 128 ≤ c
    → is_alphanumeric t c ≡ is_in_ranges t.alnum c
is_alphanumeric-past_ascii t c h l =
    let past : nat_lt c 128 ≡ false = grind (arith, nat_tests) in
    rw past (is_scalar-in_ranges 0 t.alnum c (lawful_lists t h).alnum)

-- where an entry of a rising list begins above c, those before it decide
pub last_up_to-take : {X : Type 0} (pair : X → ℕ × ℕ) (es : List X) (c k : ℕ) (d : X)
    → IsNonDecreasingBy (λ e. (pair e).0) es → k < length es → c < (pair (get_or es k d)).0
    → last_up_to (map pair (take k es)) c ≡ last_up_to (map pair es) c
last_up_to-take pair [] c k d rises l above = absurd (omega arith)
last_up_to-take pair (e ∷ es) c zero d rises l above =
    sym (last_up_to-none pair (e ∷ es) c
    (λ k x m. let at = rises 0 k x (omega arith) m in grind (arith, nat_tests)))
last_up_to-take pair (e ∷ es) c (suc k) d rises l above =
    rw (last_up_to-take pair es c k d (λ i j x le m. rises (suc i) (suc j) x (omega arith) (omega arith)) (omega arith)
    above) refl
