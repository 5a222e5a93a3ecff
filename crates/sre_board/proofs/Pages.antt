-- Pages of entries, one for each word of bits: the end of a number there, and what one more page, more entries and one
-- more end change.
use Rattle.sre_board.proofs.Terms.{◌≡◌, ◌≢◌, ℕ, zero, suc, ◌+◌, ◌-◌, ◌/◌, ◌%◌, ◌<◌, ◌≤◌, inl, inr, List, [], length}
use Rattle.sre_board.proofs.Terms.{Option, Some, None, slice_index_or, slice_set, refl, sym, ap, ◌∙◌, subst, arith}
use Rattle.sre_board.proofs.Terms.{eqb_tells, leb_tells, get_or_past, get_or-set_same, get_or-set_other, StringCursor}
use Rattle.sre_board.proofs.Terms.{EndsTable, page_at, HoldsNoEnd, table_of}
use Rattle.sre_board.specs.Ends.{end_in, IsPaged, SameEnds, PutsEnd, end_at}

abbrev Places : Type 0
Places = List (Option StringCursor)

-- the place of a number in its page
in_page : (es : Places) (p i : ℕ) → 0 < p → end_in es p i ≡ slice_index_or es (p - 1 + i) None
in_page es zero i h = absurd (omega (arith, h))
in_page es (suc b) i h =
    let e : b + i ≡ suc b - 1 + i = omega arith in
    ap (λ n. slice_index_or es n None) e

pub end_there : (t : EndsTable) (n p : ℕ) → p ≡ page_at t.pages (n / 64) → 0 < p
    → end_at t n ≡ slice_index_or t.ends (p - 1 + n % 64) None
unfolding end_at
end_there t n p e h = ap (λ q. end_in t.ends q (n % 64)) (sym e) ∙ in_page t.ends p (n % 64) h

-- a word without a page has no end
pub no_page : (t : EndsTable) (n p : ℕ) → p ≡ page_at t.pages (n / 64) → p ≡ 0 → end_at t n ≡ None
unfolding end_at
no_page t n p e h = ap (λ q. end_in t.ends q (n % 64)) (sym e ∙ h)

-- nor has one behind the last
pub past_pages : (t : EndsTable) (n : ℕ) → length t.pages ≤ n / 64 → end_at t n ≡ None
past_pages t n far = no_page t n 0 (sym (get_or_past t.pages (n / 64) 0 far)) refl

-- no pages have no ends
pub no_pages : (t : EndsTable) → t.pages ≡ [] → HoldsNoEnd t
no_pages t none = λ n c h.
    let e : end_at t n ≡ None = past_pages t n (omega (arith, ap length none)) in cc

-- without a place more or a page more
same_in : (es fs : Places) → ((i : ℕ) → slice_index_or fs i None ≡ slice_index_or es i None) → (p i : ℕ)
    → end_in fs p i ≡ end_in es p i
same_in es fs same zero i = refl
same_in es fs same (suc b) i = same (b + i)

-- the same pages and places without an end more keep all ends
pub same_ends : (t : EndsTable) (ps qs : List ℕ) (es fs : Places) → table_of ps es ≡ t
    → ((w : ℕ) → page_at qs w ≡ page_at ps w)
    → ((i : ℕ) → slice_index_or fs i None ≡ slice_index_or es i None) → SameEnds t (table_of qs fs)
unfolding end_at
same_ends t ps qs es fs is pages ends = subst (λ (x : EndsTable). SameEnds x (table_of qs fs)) is (record {
  same = λ n.
      ap (λ p. end_in fs p (n % 64)) (pages (n / 64)) ∙ same_in es fs ends (page_at ps (n / 64)) (n % 64);
})

pub same_then : (t u v : EndsTable) → SameEnds t u → SameEnds u v → SameEnds t v
same_then t u v a b = record { same = λ n. b.same n ∙ a.same n }

-- a page more, of a word that has none: it has no end yet where its places are behind those that there were
pub added_same : (t : EndsTable) (ps : List ℕ) (es fs : Places) (w page : ℕ) → table_of ps es ≡ t
    → page ≡ length es + 1 → ((i : ℕ) → slice_index_or fs i None ≡ slice_index_or es i None)
    → w < length t.pages → page_at t.pages w ≡ 0 → SameEnds t (table_of (slice_set ps w page) fs)
unfolding end_at
added_same t ps es fs w page is far same =
    let new : EndsTable = table_of (slice_set ps w page) fs in
    subst (λ (x : EndsTable). w < length x.pages → page_at x.pages w ≡ 0 → SameEnds x new) is
    (λ there none. record {
      same = λ n. elim (eqb_tells (n / 64) w) [
        | inl e ↦
            let p : page ≡ page_at new.pages (n / 64) =
            sym (ap (λ i. page_at new.pages i) e.1 ∙ get_or-set_same ps w page 0 there) in
            let past : length es ≤ page - 1 + n % 64 = omega (arith, far) in
            end_there new n page p (omega (arith, far)) ∙ same (page - 1 + n % 64)
            ∙ get_or_past es (page - 1 + n % 64) None past
            ∙ sym (no_page (table_of ps es) n 0 (sym (ap (λ i. page_at ps i) e.1 ∙ none)) refl)
        | inr e ↦
            ap (λ q. end_in fs q (n % 64)) (get_or-set_other ps w (n / 64) page 0 e.1)
            ∙ same_in es fs same (page_at ps (n / 64)) (n % 64)
      ];
    })

-- an end at the place of its number
module _ (ps : List ℕ) (es : Places) (n page : ℕ) (c : StringCursor) (is : page ≡ page_at ps (n / 64)) (some : 0 < page)
    (paged : IsPaged ps (length es)) where
  abbrev new : EndsTable
  new = table_of ps (slice_set es (page - 1 + n % 64) (Some c))

  -- another number has another place
  other_place : (m q : ℕ) → m ≢ n → q ≡ page_at ps (m / 64) → 0 < q → q - 1 + m % 64 ≢ page - 1 + n % 64
  other_place m q other e there = λ met.
      elim (leb_tells page q) [
        | inl below ↦
            let near : q < page + 64 = omega (arith, met, some, there) in
            let same = paged.apart (n / 64) (m / 64) (omega (arith, is, some)) (omega (arith, is, e, below.1))
            (omega (arith, is, e, near)) in
            met_at (ap (λ i. page_at ps i) same) same met
        | inr above ↦
            let near : page < q + 64 = omega (arith, met, some, there) in
            let same = paged.apart (m / 64) (n / 64) (omega (arith, e, there)) (omega (arith, is, e, above.1))
            (omega (arith, is, e, near)) in
            met_at (ap (λ i. page_at ps i) (sym same)) (sym same) met
      ]
    where
      met_at : page_at ps (n / 64) ≡ page_at ps (m / 64) → n / 64 ≡ m / 64
          → q - 1 + m % 64 ≡ page - 1 + n % 64 → ⊥
      met_at p w i = other (omega (arith, p, w, i, is, e, some, there))

  else_at : (m : ℕ) → m ≢ n → (q : ℕ) → q ≡ page_at ps (m / 64)
      → end_in new.ends q (m % 64) ≡ end_in es q (m % 64)
  else_at m other zero e = refl
  else_at m other (suc b) e =
      get_or-set_other es (page - 1 + n % 64) (b + m % 64) (Some c) None
      (λ met. other_place m (suc b) other e (omega arith) (omega (arith, met)))

  put_there : PutsEnd n c (table_of ps es) new
  unfolding end_at
  put_there =
      let within = paged.within (n / 64) (omega (arith, is, some)) in
      record {
        held =
            end_there new n page is some
            ∙ get_or-set_same es (page - 1 + n % 64) (Some c) None (omega (arith, is, some, within));
        same = λ m other. else_at m other (page_at ps (m / 64)) refl;
      }

pub end_put : (t : EndsTable) (ps : List ℕ) (es : Places) (n page : ℕ) (c : StringCursor) → table_of ps es ≡ t
    → 0 < page → IsPaged ps (length es) → page_at t.pages (n / 64) ≡ page
    → PutsEnd n c t (table_of ps (slice_set es (page - 1 + n % 64) (Some c)))
end_put t ps es n page c view some paged =
    subst (λ (x : EndsTable). page_at x.pages (n / 64) ≡ page
    → PutsEnd n c x (table_of ps (slice_set es (page - 1 + n % 64) (Some c)))) view
    (λ e. put_there ps es n page c (sym e) some paged)
