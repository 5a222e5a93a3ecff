-- Lists that grow at their end, by entries above all that they have, stay without a fault.
use Rattle.sre_chars.proofs.Terms.{◌≡◌, ℕ, ◌+◌, ◌<◌, ◌≤◌, inl, inr, true, refl, arith, Option, Some, None, List, []}
use Rattle.sre_chars.proofs.Terms.{◌∷◌, ◌++◌, nat_tests, is_scalar, last_of, entry_fault, list_fault, Listing, Map}
use Rattle.sre_chars.proofs.Terms.{Ranges, IfNone, IfSome, IsScalar, scalar_cases}
use Rattle.sre_chars.proofs.RisingLists.{both_none}

-- the first number above those that a list takes up
abbrev pub next_after : Listing → ℕ → List (ℕ × ℕ) → ℕ
next_after kind next [] = next
next_after kind next (e ∷ es) = next_after kind (last_of kind e + 1) es

-- a list without a fault that takes up no number from n on
pub record IsRisingBelow (kind : Listing) (es : List (ℕ × ℕ)) (n : ℕ) : Type 0 where
  pub lawful : list_fault kind 0 es ≡ None
  pub below : next_after kind 0 es ≤ n

-- a run of characters that may be a list's next range, up to n
abbrev pub IsRun : List (ℕ × ℕ) → ℕ → Option (ℕ × ℕ) → Type 0
IsRun es n None = Unit {0}
IsRun es n (Some r) = (entry_fault Ranges (next_after Ranges 0 es) r ≡ None) × (r.1 + 1 ≡ n)

next_after-append : (kind : Listing) (next : ℕ) (es : List (ℕ × ℕ)) (e : ℕ × ℕ)
    → next_after kind next (es ++ e ∷ []) ≡ last_of kind e + 1
next_after-append kind next [] e = refl
next_after-append kind next (x ∷ es) e = next_after-append kind (last_of kind x + 1) es e

list_fault-append : (kind : Listing) (next : ℕ) (es : List (ℕ × ℕ)) (e : ℕ × ℕ) → list_fault kind next es ≡ None
    → entry_fault kind (next_after kind next es) e ≡ None → list_fault kind next (es ++ e ∷ []) ≡ None
list_fault-append kind next [] e h k = rw k refl
list_fault-append kind next (x ∷ es) e h k =
    let parts = both_none (entry_fault kind next x) (list_fault kind (last_of kind x + 1) es) h in
    rw parts.0 (list_fault-append kind (last_of kind x + 1) es e parts.1 k)

-- one entry more
pub grown : (kind : Listing) (es : List (ℕ × ℕ)) (e : ℕ × ℕ) (n : ℕ) → list_fault kind 0 es ≡ None
    → entry_fault kind (next_after kind 0 es) e ≡ None → last_of kind e < n → IsRisingBelow kind (es ++ e ∷ []) n
grown kind es e n h k l = record {
  lawful = list_fault-append kind 0 es e h k;
  below = rw (next_after-append kind 0 es e) (omega arith);
}

-- a map's entry above all others
pub lawful_in_map : (next from to : ℕ) → is_scalar from ≡ true → is_scalar to ≡ true → 128 ≤ from → next ≤ from
    → entry_fault Map next (from, to) ≡ None
lawful_in_map next from to f t a l = grind (arith, nat_tests)

-- a range of one number, above all others
pub lawful_alone : (next code : ℕ) → is_scalar code ≡ true → 128 ≤ code → next ≤ code
    → entry_fault Ranges next (code, code) ≡ None
lawful_alone next code s a l = grind (arith, nat_tests)

-- a range with the number above its end
pub lawful_longer : (next low high code : ℕ) → entry_fault Ranges next (low, high) ≡ None → is_scalar code ≡ true
    → high + 1 ≡ code → entry_fault Ranges next (low, code) ≡ None
lawful_longer next low high code h s e = grind (arith, nat_tests)

-- the number of a `char`
pub scalar_char : (c : ℕ) → IsScalar c → is_scalar c ≡ true
scalar_char c h = elim (scalar_cases c h) [
  | inl low ↦ grind (arith, nat_tests)
  | inr high ↦ let least = high.0 in let most = high.1 in grind (arith, nat_tests)
]

-- a map's list with one entry more
pub grown_map : (es : List (ℕ × ℕ)) (from to : ℕ) → IsRisingBelow Map es from → is_scalar from ≡ true
    → is_scalar to ≡ true → 128 ≤ from → IsRisingBelow Map (es ++ (from, to) ∷ []) (from + 1)
grown_map es from to h f t a =
    let lawful = lawful_in_map (next_after Map 0 es) from to f t a h.below in
    grown Map es (from, to) (from + 1) h.lawful lawful (omega arith)

-- a run that is a list's next range
pub grown_ranges : (es : List (ℕ × ℕ)) (r : ℕ × ℕ) (n : ℕ) → IsRisingBelow Ranges es n → IsRun es n (Some r)
    → IsRisingBelow Ranges (es ++ r ∷ []) (n + 1)
grown_ranges es r n h run = let ends = run.1 in grown Ranges es r (n + 1) h.lawful run.0 (omega arith)

-- a run with one number more
pub longer_run : (es : List (ℕ × ℕ)) (n : ℕ) (run : Option (ℕ × ℕ)) (r : ℕ × ℕ) → IsRisingBelow Ranges es n
    → IsRun es n run → is_scalar n ≡ true → 128 ≤ n → IfNone run (r ≡ (n, n)) → IfSome run (λ range. r ≡ (range.0, n))
    → IsRun es (n + 1) (Some r)
longer_run es n None r h run s a alone longer = rw alone (lawful_alone (next_after Ranges 0 es) n s a h.below, refl)
longer_run es n (Some range) r h run s a alone longer =
    rw longer (lawful_longer (next_after Ranges 0 es) range.0 range.1 n run.0 s run.1, refl)
