-- A scan for the positions where the words of a prefix occur.
-- Definitions for the search's contracts; what sre_engine makes public does not rest on it.
use Rattle.std.specs.Prelude.{ℕ, ◌+◌, ◌-◌, ◌*◌, ◌≡◌, ◌≢◌, ◌<◌, ◌≤◌, ◌⊎◌, Bool, true, false, List, length, slice_index}
use Rattle.sre_engine.specs.Terms.{Ghosts, StringCursor, Tree, Whole, Asked, char_at, Run, words_of, Code, Request}
use Rattle.sre_engine.specs.Terms.{start_of, end_of, run_of}
use Rattle.sre_engine.specs.Starts.{NoneBetween}

-- the first k of the first n words are their last k, and k is below n
pub record Border (p : List ℕ) (n k : ℕ) : Type 0 where
  pub below : k < n
  pub same : (i : ℕ) → i < k → slice_index p i ≡ slice_index p (n - k + i)

-- k is the border length of the first n words
pub record Longest (p : List ℕ) (n k : ℕ) : Type 0 where
  pub border : Border p n k
  pub most : (m : ℕ) → Border p n m → m ≤ k

-- there are words, and an overlap word for each: the border length of the words up to it
pub record Overlapping (p o : List ℕ) : Type 0 where
  pub some : 0 < length p
  pub long : length o ≡ length p
  pub each : (j : ℕ) → j < length p → Longest p (j + 1) (slice_index o j)

-- the first k words are the characters from s on
pub record Fits (t p : List ℕ) (s k : ℕ) : Type 0 where
  pub same : (i : ℕ) → i < k → slice_index t (s + i) ≡ slice_index p i

-- the words stand at s, in a window that ends at e
pub record Stands (t p : List ℕ) (e s : ℕ) : Type 0 where
  pub within : s + length p ≤ e
  pub fits : Fits t p s (length p)

-- from a forward to b, which is left out, the words stand nowhere
pub record NoPlace (t p : List ℕ) (e a b : ℕ) : Type 0 where
  pub forward : a ≤ b
  pub none : (s : ℕ) → a ≤ s → s < b → Stands t p e s → ⊥

-- in the window from a to e the first i words end at q
pub record Front (t p : List ℕ) (a e q i : ℕ) : Type 0 where
  pub from : a + i ≤ q
  pub within : q ≤ e
  pub short : i ≤ length p
  pub fits : Fits t p (q - i) i

-- the scan of the window from a to e is at q, behind i matched words, after c comparisons
pub record Here (t p : List ℕ) (a e q i c : ℕ) : Type 0 where
  pub front : Front t p a e q i
  pub cost : c + (i - 1) + 2 * a ≤ 2 * q

-- the scan goes on from q, where no word is matched: on yes to r, behind j words, and else no place is left
pub record GoesTo (t p : List ℕ) (a e q : ℕ) (found : Bool) (r j c : ℕ) : Type 0 where
  pub here : Here t p a e r j c
  pub further : found ≡ true → (q < r) × NoPlace t p e q (r - j)
  pub none : found ≡ false → NoPlace t p e q (e + 1)

-- behind the first character from a cursor on that is a word, if there is one, else at the window's end
pub record FirstSame (r : Run) (word : ℕ) (start : StringCursor) (found : Bool) (cursor : StringCursor) : Type 0 where
  pub stands : r.stands cursor cursor.position
  pub from : start.position ≤ cursor.position
  pub inside : cursor.position ≤ r.subject.end
  pub others : (q : ℕ) → start.position ≤ q → q + 1 < cursor.position → char_at r.subject q ≢ word
  pub is : found ≡ true
      → (start.position < cursor.position) × (char_at r.subject (cursor.position - 1) ≡ word)
  pub none : found ≡ false
      → (cursor.position ≡ r.subject.end)
      × ((q : ℕ) → start.position ≤ q → q < cursor.position → char_at r.subject q ≢ word)

-- a scan at q behind i matched words goes on as it is, or from r on, where no word is matched
pub record MovesOn (q i r j : ℕ) : Type 0 where
  pub from : q ≤ r
  pub fewer : (j ≡ 0) ⊎ ((j ≡ i) × (r ≡ q))

-- no match of a code begins from p forward to q, which is left out
pub record NoMatch (a : Asked) (code : Code) (p q : ℕ) : Type 0 where
  pub forward : p ≤ q
  pub none : (t : Tree) → Whole (words_of code) t → NoneBetween a t p q

-- the scan of a request's window for words is at q, behind i matched ones, after c comparisons
abbrev pub ScanIsAt : {S : Type 0} {text : Ghosts S} → Request S text → List ℕ → ℕ → ℕ → ℕ → Type 0
ScanIsAt r p q i c = Here (run_of r).subject.text p (start_of r) (end_of r) q i c

-- it goes on from q, where no word is matched: on yes behind j words, and else no place is left
abbrev pub ScanGoesTo : {S : Type 0} {text : Ghosts S} → Request S text → List ℕ → ℕ → Bool → ℕ → ℕ → ℕ → Type 0
ScanGoesTo r p q found to j c = GoesTo (run_of r).subject.text p (start_of r) (end_of r) q found to j c

-- the words stand nowhere in its window from a forward to b, which is left out
abbrev pub NoPlaceBetween : {S : Type 0} {text : Ghosts S} → Request S text → List ℕ → ℕ → ℕ → Type 0
NoPlaceBetween r p a b = NoPlace (run_of r).subject.text p (end_of r) a b
