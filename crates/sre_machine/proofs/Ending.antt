-- The body of an atomic scope ends: what is tried inside is tried no more, and an end is memoized for the bit that was
-- taken in.
use Rattle.sre_machine.proofs.Terms.{◌≡◌, ℕ, inl, inr, true, false, List, [], ◌∷◌, ◌++◌, drop, length, refl, sym, ap}
use Rattle.sre_machine.proofs.Terms.{◌∙◌, subst, arith, AllByRecursion, Ghosts, StringCursor, has_forked_region, Way}
use Rattle.sre_machine.proofs.Terms.{Attempt, BoardValue, is_inside, Limit, Later, Spot, Next, no_reference, Request}
use Rattle.sre_machine.proofs.Terms.{run_of, MemoValue, Holds, Holding, Pays, Remembering, rows_from, KeepsBodyEnd}
use Rattle.sre_machine.proofs.Terms.{Proceeds, map, open_attempts, without_open, Ends, open_spots, opened_first, BitOf}
use Rattle.sre_machine.proofs.Terms.{IsEnded, StaysEnded, account_ends, account_same_ends, bit_numbered}
use Rattle.sre_machine.proofs.Paying.{grants_nothing, pays_unless}

-- what holds of all of two lists holds of those of the second
all_behind : {A : Type 0} (P : A → Type 0) (xs ys : List A) → AllByRecursion P (xs ++ ys) → AllByRecursion P ys
all_behind P [] ys all = all
all_behind P (x ∷ xs) ys all = all_behind P xs ys all.1

-- what holds of each configuration of a list, if that is true of it which is told of it inside an atomic scope, holds
-- of all of them
each_inside : (P Q : Attempt → Type 0) (xs : List Spot) (rest : List Attempt)
    → AllByRecursion P (map (λ (x : Spot). record { inside = true; spot = x }) xs ++ rest)
    → ((x : Spot) (newer older : List Spot) → xs ≡ newer ++ x ∷ older → P (record { inside = true; spot = x })
    → Q (record { inside = true; spot = x }))
    → AllByRecursion Q (map (λ (x : Spot). record { inside = true; spot = x }) xs)
each_inside P Q [] rest all f = tt
each_inside P Q (x ∷ xs) rest all f = (
  f x [] xs refl all.0,
  each_inside P Q xs rest all.1 (λ y newer older e p. f y (x ∷ newer) older (ap (λ zs. x ∷ zs) e) p),
)

module _ {M S : Type 0} {text : Ghosts S} (r : Request S text) (cursor : StringCursor) (b : BoardValue)
    (m m' : MemoValue) (keeps : KeepsBodyEnd M r cursor b m m') where
  -- failures are memoized still
  stays_open : m.is_open ≡ true → m'.stopped ≡ false → m'.is_open ≡ true
  stays_open opened e = ap (λ (k : MemoValue). k.is_open) (keeps.same e) ∙ opened

  -- each number with an end has one still
  still : StaysEnded m.ends m'.ends
  still n c held = elim (keeps.kept n c held) [ inl same ↦ (c, same) | inr other ↦ (cursor, other.0) ]

  -- where no atomic scope ends nothing is granted
  pays_kept_end : (l : Limit) → Pays M r m l m' l
  pays_kept_end l = pays_unless r m m' l l keeps.refused (λ e. record {
    paid = λ pl opened at n h.
        inr (
          n,
          subst (λ (k : MemoValue). Holds r pl k l.trying n) (sym (keeps.same e)) (record {
            account =
                account_same_ends (run_of r) pl.plain (rows_from r pl) m.kept m.ends m'.ends l.trying n still h.account;
            first = h.first;
            ends = h.ends;
            forked = h.forked;
          }),
          stays_open opened e,
          omega arith,
        );
  })

  -- where one ends, an end is kept for what was tried inside
  module _ (inside : is_inside b.choices ≡ true) (all : List Way) (l : Limit)
      (x : Ends (run_of r) all l cursor b) where
    abbrev left : List Attempt
    left = drop (length (open_spots b.choices)) l.trying

    trying : (pl : Remembering r) → l.trying ≡ open_attempts b.choices ++ left
    trying pl =
        let same = (x.fares pl.plain).fares.trying in
        sym same ∙ opened_first b.choices inside
        ∙ ap (λ xs. open_attempts b.choices ++ drop (length (open_spots b.choices)) xs) same

    abbrev Forked : Remembering r → Attempt → Type 0
    Forked pl a = a.inside ≡ true → has_forked_region pl.plain.tree ≡ true

    abbrev Ended : Attempt → Type 0
    Ended a = (bit : ℕ) → BitOf m.kept (run_of r).words a bit → IsEnded m'.ends bit

    ended : (pl : Remembering r) (n : ℕ) → m.is_open ≡ true → Holding r pl m l n → m'.stopped ≡ false
        → AllByRecursion Ended (open_attempts b.choices)
    ended pl n opened h e =
        each_inside (Forked pl) Ended (open_spots b.choices) left
        (subst (λ xs. AllByRecursion (Forked pl) xs) (trying pl) h.forked)
        (λ y newer older there forked bit at. (
          cursor,
          keeps.held
              (record {
                opened = opened;
                keeps = h.ends (forked refl);
                inside = inside;
                plain = no_reference (run_of r).words pl.plain.tree pl.plain.whole pl.plain.no_reference;
              })
              e y (record { newer = newer; older = older; there = there }) bit
              (bit_numbered m.kept (run_of r).words (record { inside = true; spot = y }) bit at),
        ))

    pays_ended : Pays M r m l m' (without_open b.choices l)
    pays_ended = pays_unless r m m' l (without_open b.choices l) keeps.refused (λ e. record {
      paid = λ pl opened at n h.
          let was = subst (λ xs. Holds r pl m xs n) (trying pl) h in
          inr (
            n,
            subst (λ (k : MemoValue). Holds r pl k left n) (sym (keeps.same e)) (record {
              account =
                  account_ends (run_of r) pl.plain (rows_from r pl) m.kept m.ends m'.ends (open_attempts b.choices) left
                  n (ended pl n opened h e) still was.account;
              first = h.first;
              ends = h.ends;
              forked = all_behind (Forked pl) (open_attempts b.choices) left was.forked;
            }),
            stays_open opened e,
            omega arith,
          );
    })

    -- so the step that leaves it is paid
    pub ended_then : (n' : Next) (c : BoardValue) → Later (run_of r) all (without_open b.choices l) n' c
        → Proceeds (run_of r) all l n' c (λ more. Pays M r m l m' more)
    ended_then n' c later = (
      without_open b.choices l,
      record { turns = refl; taken = refl; granted = refl; start = refl },
      later,
      pays_ended,
    )

  -- and one that leaves no atomic scope
  pub kept_then : (all : List Way) (l : Limit) (n' : Next) (c : BoardValue) → Later (run_of r) all l n' c
      → Proceeds (run_of r) all l n' c (λ more. Pays M r m l m' more)
  kept_then all l n' c later = (l, grants_nothing l, later, pays_kept_end l)
