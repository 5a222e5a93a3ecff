-- Credits that are paid one after the other.
use Rattle.sre_machine.proofs.Terms.{◌≡◌, ℕ, ◌≤◌, ◌⊎◌, inl, inr, Bool, true, false, List, refl, sym, ◌∙◌, arith, Ghosts}
use Rattle.sre_machine.proofs.Terms.{Refused, Limit, Grants, raised, Attempt, HasReference, no_reference, Request}
use Rattle.sre_machine.proofs.Terms.{run_of, MemoValue, EndsStay, Holds, Pays, Remembering}

-- what comes of a fact, unless an allocation failed
pub unless_refused : {R A B : Type 0} → R ⊎ A → (A → R ⊎ B) → R ⊎ B
unless_refused (inl refused) f = inl refused
unless_refused (inr a) f = f a

module _ {S : Type 0} {text : Ghosts S} (r : Request S text) where
  -- what was taken in is held by the same memory still
  pub held : (pl : Remembering r) (m m' : MemoValue) (xs xs' : List Attempt) (n : ℕ) → m'.kept ≡ m.kept
      → EndsStay m m' → xs' ≡ xs → Holds r pl m xs n → Holds r pl m' xs' n
  held pl m m' xs xs' n same ends trying h = rw (same, ends.0, ends.1, ends.2, trying) h

  -- none is granted
  pub pays_nothing : {M : Type 0} (m m' : MemoValue) (l l' : Limit) → m'.kept ≡ m.kept → EndsStay m m'
      → (m.is_open ≡ true → m'.is_open ≡ true) → l'.trying ≡ l.trying → l'.tolls ≡ l.tolls → Pays M r m l m' l'
  pays_nothing m m' l l' same ends stays trying tolls = record {
    paid = λ pl keeps start n h. inr (
      n,
      held pl m m' l.trying l'.trying n same ends trying h,
      stays keeps,
      omega (arith, tolls),
    );
  }

  -- one after the other
  pub pays_then : {M : Type 0} (m m' m'' : MemoValue) (l l' l'' : Limit) → l.start ≡ l'.start → Pays M r m l m' l'
      → Pays M r m' l' m'' l'' → Pays M r m l m'' l''
  pays_then m m' m'' l l' l'' start first second = record {
    paid = λ pl keeps at n h. unless_refused (first.paid pl keeps at n h) (λ x. unless_refused (second.paid pl x.2
        (sym start ∙ at) x.0 x.1) (λ y. inr (y.0, y.1, y.2, omega (arith, x.3, y.3))));
  }

  -- the same, where the first of them raised what is paid
  pub pays_raised : {M : Type 0} (k : ℕ) (m m' m'' : MemoValue) (l l' l'' : Limit) → l.start ≡ l'.start
      → Pays M r m l m' (raised k l') → Pays M r m' l' m'' l'' → Pays M r m l m'' (raised k l'')
  pays_raised k m m' m'' l l' l'' start first second = record {
    paid = λ pl keeps at n h. unless_refused (first.paid pl keeps at n h) (λ x. unless_refused (second.paid pl x.2
        (sym start ∙ at) x.0 x.1) (λ y. inr (y.0, y.1, y.2, omega (arith, x.3, y.3))));
  }

  -- what is paid pays for less
  pub pays_less : {M : Type 0} (m m' : MemoValue) (l l' l'' : Limit) → l''.trying ≡ l'.trying → l''.tolls ≤ l'.tolls
      → Pays M r m l m' l' → Pays M r m l m' l''
  pays_less m m' l l' l'' trying less paid = record {
    paid = λ pl keeps at n h. unless_refused (paid.paid pl keeps at n h) (λ x. inr (
      x.0,
      held pl m' m' l'.trying l''.trying x.0 refl (refl, refl, refl) trying x.1,
      x.2,
      omega (arith, x.3, less),
    ));
  }

  -- where memory was refused nothing is owed, nor where failures are not kept
  pub pays_refused : {M : Type 0} (m m' : MemoValue) (l l' : Limit) → Refused M → Pays M r m l m' l'
  pays_refused m m' l l' refused = record { paid = λ pl keeps start n h. inl refused }

  -- so it is where the memo stopped meanwhile
  pub pays_unless : {M : Type 0} (m m' : MemoValue) (l l' : Limit) → (m'.stopped ≡ true → Refused M)
      → (m'.stopped ≡ false → Pays M r m l m' l') → Pays M r m l m' l'
  pays_unless {M} m m' l l' refused pays = go m'.stopped refl
    where
      go : (stopped : Bool) → m'.stopped ≡ stopped → Pays M r m l m' l'
      go true e = pays_refused m m' l l' (refused e)
      go false e = pays e

  -- where words have a reference nothing is promised
  pub pays_left : {M : Type 0} (m m' : MemoValue) (l l' : Limit) → (m.is_open ≡ true → HasReference (run_of r).words)
      → Pays M r m l m' l'
  pays_left m m' l l' left = record {
    paid = λ pl keeps start n h.
        absurd (no_reference (run_of r).words pl.plain.tree pl.plain.whole pl.plain.no_reference (left keeps));
  }

pub grants_nothing : (l : Limit) → Grants l l
grants_nothing l = record { turns = refl; taken = refl; granted = refl; start = refl }
