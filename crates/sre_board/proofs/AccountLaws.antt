-- How the account of the bits changes: an instruction is tried, it has failed, the body ends in which some were tried,
-- and the memo grows. And how many bits there are at most.
use Rattle.sre_board.proofs.Terms.{◌≡◌, ℕ, ◌+◌, ◌*◌, ◌<◌, ◌≤◌, ◌⊎◌, inl, inr, true, List, [], ◌∷◌, ◌++◌, Some}
use Rattle.sre_board.proofs.Terms.{slice_get, slice_index, refl, sym, ap, ◌∙◌, subst, arith, append_assoc, bit_at}
use Rattle.sre_board.proofs.Terms.{AllByRecursion, StringCursor, has_forked_region, Run, Alike, Attempt, Lies, Counted}
use Rattle.sre_board.proofs.Terms.{BitOf, IsOwned, RowLies, Account, toll_at, charge, IsIn, Apart, EndsTable, HoldsEnd}
use Rattle.sre_board.proofs.Terms.{BitsKept, Kept, kept_of, Sets, BitsStay, RowsStay, Laid, Row, IsSet, IsEnded}
use Rattle.sre_board.proofs.Terms.{StaysEnded, BitsOf, IsRoomy, most_paid, IsOpen}
use Rattle.sre_board.proofs.EndsKept.{one_number, number_stays}
use Rattle.sre_board.proofs.OneEntry.{one_entry}
use Rattle.sre_board.proofs.OwnedBits.{owned_bit, owned_still, few_charged}

-- no row is new
abbrev pub NoNewRow : Kept → Kept → Type 0
NoNewRow old new = (i : ℕ) (row : Row) → slice_get new.rows i ≡ Some row → slice_get old.rows i ≡ Some row

pub no_new_row : (old new : Kept) → new.rows ≡ old.rows → NoNewRow old new
no_new_row old new e i row there = ap (λ (rs : List Row). slice_get rs i) (sym e) ∙ there

-- what is in two lists, one behind the other, is in one of them
in_either : (b : ℕ) (xs ys : List ℕ) → IsIn b (xs ++ ys) → IsIn b xs ⊎ IsIn b ys
in_either b [] ys h = inr h
in_either b (x ∷ xs) ys h = elim h [
  | inl e ↦ inl (inl e)
  | inr h ↦ elim (in_either b xs ys h) [ inl l ↦ inl (inr l) | inr g ↦ inr g ]
]

in_first : (b : ℕ) (xs ys : List ℕ) → IsIn b xs → IsIn b (xs ++ ys)
in_first b [] ys h = absurd h
in_first b (x ∷ xs) ys h = elim h [ inl e ↦ inl e | inr h ↦ inr (in_first b xs ys h) ]

in_second : (b : ℕ) (xs ys : List ℕ) → IsIn b ys → IsIn b (xs ++ ys)
in_second b [] ys h = h
in_second b (x ∷ xs) ys h = inr (in_second b xs ys h)

-- what holds of all numbers of a list holds of one
of_one : (P : ℕ → Type 0) (xs : List ℕ) → AllByRecursion P xs → (b : ℕ) → IsIn b xs → P b
of_one P [] all b h = absurd h
of_one P (x ∷ xs) all b h = elim h [
  | inl e ↦ subst P (sym e) all.0
  | inr there ↦ of_one P xs all.1 b there
]

all_still : (P Q : ℕ → Type 0) → ((b : ℕ) → P b → Q b) → (xs : List ℕ) → AllByRecursion P xs → AllByRecursion Q xs
all_still P Q f [] all = tt
all_still P Q f (x ∷ xs) all = (f x all.0, all_still P Q f xs all.1)

-- a bit is that of one of those that are tried
of_attempt : (k : Kept) (ws : List ℕ) (P : Attempt → Type 0) (xs : List Attempt) (bs : List ℕ) → BitsOf k ws xs bs
    → AllByRecursion P xs → (b : ℕ) → IsIn b bs → (y : Attempt) × P y × BitOf k ws y b
of_attempt k ws P [] [] bits all b h = absurd h
of_attempt k ws P [] (c ∷ bs) bits all b h = absurd bits
of_attempt k ws P (x ∷ xs) [] bits all b h = absurd bits
of_attempt k ws P (x ∷ xs) (c ∷ bs) bits all b h = elim h [
  | inl e ↦ (x, all.0, subst (λ z. BitOf k ws x z) (sym e) bits.0)
  | inr there ↦ of_attempt k ws P xs bs bits.1 all.1 b there
]

-- a bit that is not set is none of those that are
not_set : (k : Kept) (at bit : ℕ) → bit < 64 → bit_at (slice_index k.bits at) bit ≡ 0 → IsSet k (at * 64 + bit) → ⊥
not_set k at bit small clear set =
    let word : at ≡ set.at = omega (arith, small, set.small, set.is) in
    let place : bit ≡ set.bit = omega (arith, small, set.small, set.is) in
    let one : bit_at (slice_index k.bits at) bit ≡ 1 =
    ap (λ m. bit_at (slice_index k.bits m) bit) word ∙ ap (λ i. bit_at (slice_index k.bits set.at) i) place
    ∙ set.set in
    omega (arith, clear, one)

-- nor, where it has no end, one of those that have
not_among : (k : Kept) (es : EndsTable) (at bit : ℕ) (fs ds : List ℕ) → bit < 64
    → bit_at (slice_index k.bits at) bit ≡ 0 → ((c : StringCursor) → HoldsEnd es (at * 64 + bit) c → ⊥)
    → AllByRecursion (λ (b : ℕ). IsSet k b) fs → AllByRecursion (λ (b : ℕ). IsEnded es b) ds
    → IsIn (at * 64 + bit) (fs ++ ds) → ⊥
not_among k es at bit fs ds small clear no_end set ends there =
    let b : ℕ = at * 64 + bit in
    elim (in_either b fs ds there) [
      | inl f ↦ not_set k at bit small clear (of_one (λ (c : ℕ). IsSet k c) fs set b f)
      | inr d ↦
          let ended : IsEnded es b = of_one (λ (c : ℕ). IsEnded es c) ds ends b d in
          no_end ended.0 ended.1
    ]

bits_stay : (old new : Kept) (ws : List ℕ) → BitsStay old new → (xs : List Attempt) (bs : List ℕ)
    → BitsOf old ws xs bs → BitsOf new ws xs bs
bits_stay old new ws stay (x ∷ xs) (b ∷ bs) bits =
    (number_stays old new ws x.inside x.spot b stay bits.0, bits_stay old new ws stay xs bs bits.1)
bits_stay old new ws stay xs bs bits = bits

set_still : (old new : Kept) → BitsKept old new → (bs : List ℕ) → AllByRecursion (λ (b : ℕ). IsSet old b) bs
    → AllByRecursion (λ (b : ℕ). IsSet new b) bs
set_still old new kept bs set =
    all_still (IsSet old) (IsSet new)
    (λ b s. record { at = s.at; bit = s.bit; small = s.small; is = s.is; set = kept s.at s.bit s.set }) bs set

-- the bit of an instruction that is tried is the one that was set
is_set : (old new : Kept) (ws : List ℕ) (x : Attempt) (b : ℕ) → Sets ws x.inside x.spot old new → BitsStay old new
    → Laid new → BitOf new ws x b → IsSet new b
is_set old new ws x b sets stay laid g =
    let here = stay ws x.inside x.spot sets.at sets.bit sets.entry in
    let same = one_entry new ws x.inside x.spot g.at g.bit sets.at sets.bit laid g.entry here in
    record {
      at = g.at;
      bit = g.bit;
      small = g.below;
      is = g.number;
      set =
          ap (λ m. bit_at (slice_index new.bits m) g.bit) same.0
          ∙ ap (λ i. bit_at (slice_index new.bits sets.at) i) same.1 ∙ sets.is_set;
    }

-- where numbers with an end keep one, those of the bits do
ends_stay : (old new : EndsTable) → StaysEnded old new → (bs : List ℕ)
    → AllByRecursion (λ (b : ℕ). IsEnded old b) bs → AllByRecursion (λ (b : ℕ). IsEnded new b) bs
ends_stay old new still bs ends =
    all_still (IsEnded old) (IsEnded new) (λ b e. still b e.0 e.1) bs ends

module _ (r : Run) (pl : Counted r) (first : ℕ) where
  -- some bits are those of addresses, none is there twice, and they are so many
  record TakenIn (k : Kept) (n : ℕ) (bs : List ℕ) : Type 0 where
    owned : AllByRecursion (λ (b : ℕ). IsOwned r pl first k b) bs
    apart : Apart bs
    count : charge r pl first k bs owned ≡ n

  taken_of : (k : Kept) (es : EndsTable) (xs : List Attempt) (n : ℕ) (a : Account r pl first k es xs n)
      → TakenIn k n (a.trying ++ (a.failed ++ a.ended))
  taken_of k es xs n a = record { owned = a.owned; apart = a.apart; count = a.count }

  -- the account of them: of what is tried, of what is set and of what has an end
  account_of : (k : Kept) (es : EndsTable) (xs : List Attempt) (n : ℕ) (os fs ds : List ℕ)
      → TakenIn k n (os ++ (fs ++ ds)) → BitsOf k r.words xs os → AllByRecursion (λ (b : ℕ). IsSet k b) fs
      → AllByRecursion (λ (b : ℕ). IsEnded es b) ds
      → ((i : ℕ) (row : Row) → slice_get k.rows i ≡ Some row → RowLies r pl first k row) → IsRoomy r pl first k
      → Laid k → Account r pl first k es xs n
  account_of k es xs n os fs ds taken bits set ends rows roomy laid = record {
    trying = os;
    failed = fs;
    ended = ds;
    bits = bits;
    set = set;
    ends = ends;
    owned = taken.owned;
    apart = taken.apart;
    count = taken.count;
    rows = rows;
    roomy = roomy;
    laid = laid;
  }

  -- a row is for what it was for where the rows stay
  pub lies_still : (old new : Kept) (row : Row) → RowsStay old new → RowLies r pl first old row
      → RowLies r pl first new row
  lies_still old new row stay l = record {
    spot = l.spot;
    place_is = l.place_is;
    kind = l.kind;
    lies = l.lies;
    place = l.place;
    is_for = stay.still r.words first r.subject.end _ row l.is_for;
  }

  -- an instruction is tried: its bit is none of those that were taken in
  pub account_opens : (k : Kept) (es : EndsTable) (x : Attempt) (xs : List Attempt) (n : ℕ)
      → (clear : IsOpen k r.words x.inside x.spot)
      → ((c : StringCursor) → HoldsEnd es (clear.at * 64 + clear.bit) c → ⊥)
      → (x.inside ≡ true → has_forked_region pl.tree ≡ true) → Lies r.words pl.tree pl.whole x.spot
      → AllByRecursion (λ (y : Attempt). Alike r.words y.spot x.spot → ⊥) xs
      → Account r pl first k es xs n → Account r pl first k es (x ∷ xs) (n + toll_at r x.spot)
  account_opens k es x xs n clear no_end forked lies others a =
      let b : ℕ = clear.at * 64 + clear.bit in
      let small : clear.bit < 64 = omega (arith, clear.entry.bit_is) in
      let own : BitOf k r.words x b =
      record { at = clear.at; bit = clear.bit; entry = clear.entry; below = small; number = refl } in
      account_of k es (x ∷ xs) (n + toll_at r x.spot) (b ∷ a.trying) a.failed a.ended
      (record {
        owned = (owned_bit r pl first k x b forked lies a.rows own, a.owned);
        apart = (
          λ there. elim (in_either b a.trying (a.failed ++ a.ended) there) [
            | inl l ↦
                let s = of_attempt k r.words (λ (y : Attempt). Alike r.words y.spot x.spot → ⊥) xs a.trying a.bits
                others b l in
                s.1 (one_number k r.words s.0.inside x.inside s.0.spot x.spot b a.laid s.2 own).1
            | inr g ↦ not_among k es clear.at clear.bit a.failed a.ended small clear.is_clear no_end a.set a.ends g
          ],
          a.apart,
        );
        count = omega (arith, a.count);
      })
      (own, a.bits) a.set a.ends a.rows a.roomy a.laid

  -- the memory is another one, with the same bits of the same configurations: each of its rows is told
  pub account_grows : (old new : Kept) (es : EndsTable) (xs : List Attempt) (n : ℕ) → BitsStay old new
      → BitsKept old new → RowsStay old new
      → ((i : ℕ) (row : Row) → slice_get new.rows i ≡ Some row → RowLies r pl first new row)
      → Laid new → IsRoomy r pl first new → Account r pl first old es xs n → Account r pl first new es xs n
  account_grows old new es xs n stay kept still rows laid roomy a =
      let stay_owned = owned_still r pl first old new still (a.trying ++ (a.failed ++ a.ended)) a.owned in
      account_of new es xs n a.trying a.failed a.ended
      (record {
        owned = stay_owned.0;
        apart = a.apart;
        count = stay_owned.1 ∙ a.count;
      })
      (bits_stay old new r.words stay xs a.trying a.bits) (set_still old new kept a.failed a.set) a.ends rows roomy
      laid

  -- so are they with the first behind others
  moved : (k : Kept) (n b : ℕ) (os ds : List ℕ) → TakenIn k n (b ∷ (os ++ ds)) → TakenIn k n (os ++ b ∷ ds)
  moved k n b [] ds c = c
  moved k n b (o ∷ os) ds c =
      let rest = moved k (charge r pl first k (b ∷ (os ++ ds)) (c.owned.0, c.owned.1.1)) b os ds (record {
        owned = (c.owned.0, c.owned.1.1);
        apart = (λ there. c.apart.0 (inr there), c.apart.1.1);
        count = refl;
      }) in
      record {
        owned = (c.owned.1.0, rest.owned);
        apart = (
          λ there. elim (in_either o os (b ∷ ds) there) [
            | inl l ↦ c.apart.1.0 (in_first o os ds l)
            | inr (inl e) ↦ c.apart.0 (inl (sym e))
            | inr (inr d) ↦ c.apart.1.0 (in_second o os ds d)
          ],
          rest.apart,
        );
        count = omega (arith, c.count, rest.count);
      }

  moved_further : (k : Kept) (n b : ℕ) (os fs ds : List ℕ) → TakenIn k n (b ∷ (os ++ (fs ++ ds)))
      → TakenIn k n (os ++ (fs ++ b ∷ ds))
  moved_further k n b os fs ds c =
      subst (λ (bs : List ℕ). TakenIn k n bs) (append_assoc os fs (b ∷ ds))
      (moved k n b (os ++ fs) ds (subst (λ (bs : List ℕ). TakenIn k n (b ∷ bs)) (sym (append_assoc os fs ds)) c))

  -- the innermost instruction that is tried has failed: its bit is set
  pub account_closes : (old new : Kept) (es : EndsTable) (x : Attempt) (xs : List Attempt) (n : ℕ)
      → Sets r.words x.inside x.spot old new → BitsStay old new → BitsKept old new → RowsStay old new
      → NoNewRow old new → Laid new → IsRoomy r pl first new → Account r pl first old es (x ∷ xs) n
      → Account r pl first new es xs n
  account_closes old new es x xs n sets stay kept rows none laid roomy a =
      parted c.trying c.bits (taken_of new es (x ∷ xs) n c)
    where
      c : Account r pl first new es (x ∷ xs) n
      c =
          account_grows old new es (x ∷ xs) n stay kept rows
          (λ i row there. lies_still old new row rows (a.rows i row (none i row there))) laid roomy a

      parted : (bs : List ℕ) → BitsOf new r.words (x ∷ xs) bs → TakenIn new n (bs ++ (c.failed ++ c.ended))
          → Account r pl first new es xs n
      parted [] bits all = absurd bits
      parted (b ∷ os) bits all =
          account_of new es xs n os (b ∷ c.failed) c.ended (moved new n b os (c.failed ++ c.ended) all) bits.1
          (is_set old new r.words x b sets stay laid bits.0, c.set) c.ends c.rows roomy laid

  -- the body of an atomic scope ends for what is tried inside: an end is kept for the number of each of these bits
  pub account_ends : (k : Kept) (es es' : EndsTable) (opened rest : List Attempt) (n : ℕ)
      → AllByRecursion (λ (x : Attempt). (b : ℕ) → BitOf k r.words x b → IsEnded es' b) opened → StaysEnded es es'
      → Account r pl first k es (opened ++ rest) n → Account r pl first k es' rest n
  account_ends k es es' opened rest n each still a =
      parted opened a.trying a.ended each a.bits (ends_stay es es' still a.ended a.ends)
      (taken_of k es (opened ++ rest) n a)
    where
      parted : (opened : List Attempt) (bs ds : List ℕ)
          → AllByRecursion (λ (x : Attempt). (b : ℕ) → BitOf k r.words x b → IsEnded es' b) opened
          → BitsOf k r.words (opened ++ rest) bs → AllByRecursion (λ (b : ℕ). IsEnded es' b) ds
          → TakenIn k n (bs ++ (a.failed ++ ds)) → Account r pl first k es' rest n
      parted [] bs ds each bits ends all =
          account_of k es' rest n bs a.failed ds all bits a.set ends a.rows a.roomy a.laid
      parted (x ∷ opened) [] ds each bits ends all = absurd bits
      parted (x ∷ opened) (b ∷ bs) ds each bits ends all =
          parted opened bs (b ∷ ds) each.1 bits.1 (each.0 b bits.0, ends) (moved_further k n b bs a.failed ds all)

  -- the table of ends is another one, in which each number with an end has one still
  pub account_same_ends : (k : Kept) (es es' : EndsTable) (xs : List Attempt) (n : ℕ) → StaysEnded es es'
      → Account r pl first k es xs n → Account r pl first k es' xs n
  account_same_ends k es es' xs n still a = account_ends k es es' [] xs n tt still a

  -- they pay for no more than the tree's instructions cost
  pub account_few : (k : Kept) (es : EndsTable) (xs : List Attempt) (n : ℕ) → Account r pl first k es xs n
      → n ≤ most_paid r pl first
  account_few k es xs n a =
      let all : List ℕ = a.trying ++ (a.failed ++ a.ended) in
      omega (arith, a.count, few_charged r pl first k a.laid all a.owned a.apart)

  -- at first nothing is taken in
  pub account_none : (k : Kept) (es : EndsTable) → k ≡ kept_of [] [] [] → Account r pl first k es [] 0
  account_none k es e = subst (λ (j : Kept). Account r pl first j es [] 0) (sym e) empty
    where
      empty : Account r pl first (kept_of [] [] []) es [] 0
      empty =
          account_of (kept_of [] [] []) es [] 0 [] [] [] (record { owned = tt; apart = tt; count = refl }) tt tt tt
          (λ i row there. absurd (cc)) (record { rows = omega arith; bits = omega arith })
          (record {
            within = λ i row there. absurd (cc);
            apart = λ i j row other less there other_there. absurd (cc);
            alone = λ i j row other there other_there same. absurd (cc);
            few = omega arith;
          })
