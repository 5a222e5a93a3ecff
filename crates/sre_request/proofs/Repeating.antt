-- How far the characters of a group are repeated.
use Rattle.sre_request.proofs.Terms.{ℕ, zero, suc, ◌+◌, ◌-◌, ◌≡◌, ◌≢◌, ◌<◌, ◌≤◌, true, false, nat_eq, refl, ◌∙◌, ap}
use Rattle.sre_request.proofs.Terms.{arith, SreOpcode, StringCursor, Table, Fold, folded, ◌&&◌}
use Rattle.sre_model.specs.Grammar.{reference_opcode}
use Rattle.std.proofs.lemmas.Bool.Decides.{nat_tests}
use Rattle.sre_model.specs.Runs.{Run}
use Rattle.sre_model.specs.Subject.{Subject, char_at, same_folded}
use Rattle.sre_model.proofs.Passing.{stands_at_own}

-- a group's first characters are repeated, and a cursor stands behind them in the group and another behind the repeat
pub record Repeated (r : Run) (o : SreOpcode) (count : ℕ) (start cursor grouped here : StringCursor) (passed : ℕ)
    : Type 0 where
  pub within : passed ≤ count
  pub in_group : grouped.position ≡ start.position + passed
  pub position : here.position ≡ cursor.position + passed
  pub group_stands : r.stands grouped grouped.position
  pub stands : r.stands here here.position
  pub each : (f : Fold) → o ≡ reference_opcode f
      → same_folded r.subject f count start.position cursor.position
      ≡ same_folded r.subject f (count - passed) grouped.position here.position

-- v is c as the folding of an opcode shows it
abbrev pub Shows : Table → SreOpcode → ℕ → ℕ → Type 0
Shows t o c v = (f : Fold) → o ≡ reference_opcode f → v ≡ folded t f c

-- the first characters of both, and the others
same_first : (s : Subject) (f : Fold) (n x p : ℕ) → 0 < n → same_folded s f n x p
    ≡ (nat_eq (folded s.table f (char_at s x)) (folded s.table f (char_at s p))
    && same_folded s f (n - 1) (x + 1) (p + 1))
same_first s f zero x p l = absurd (omega arith)
same_first s f (suc n) x p l = let e : suc n - 1 ≡ n = omega arith in rw e refl

-- one more character of both is read of a text with its table, and shown as an opcode's folding shows it
module _ {r : Run} {o : SreOpcode} {table : Table} {count passed b c v w : ℕ}
    {start cursor grouped here : StringCursor} (k : Repeated r o count start cursor grouped here passed)
    (l : passed < count) (t : table ≡ r.subject.table) (eb : b ≡ char_at r.subject grouped.position)
    (ec : c ≡ char_at r.subject here.position) (hb : Shows table o b v) (hc : Shows table o c w) where
  next_shown : (f : Fold) → o ≡ reference_opcode f
      → same_folded r.subject f count start.position cursor.position
      ≡ (nat_eq v w
      && same_folded r.subject f (count - passed - 1) (grouped.position + 1) (here.position + 1))
  next_shown f x =
      let both = same_first r.subject f (count - passed) grouped.position here.position (omega arith) in
      rw (k.each f x, both, shown b v grouped.position eb hb, shown c w here.position ec hc) refl
    where
      shown : (a y p : ℕ) → a ≡ char_at r.subject p → Shows table o a y
          → y ≡ folded r.subject.table f (char_at r.subject p)
      shown a y p e h = h f x ∙ ap (λ u. folded u f a) t ∙ ap (λ z. folded r.subject.table f z) e

  -- behind it, where both are alike
  pub repeated_more : (behind after : StringCursor) → v ≡ w → behind.position ≡ grouped.position + 1
      → r.stands behind (grouped.position + 1) → after.position ≡ here.position + 1
      → r.stands after (here.position + 1) → Repeated r o count start cursor behind after (passed + 1)
  repeated_more behind after same at there moved moved_there = record {
    within = omega arith;
    in_group = omega (arith, k.in_group);
    position = omega (arith, k.position);
    group_stands = stands_at_own r.stands behind (grouped.position + 1) at there;
    stands = stands_at_own r.stands after (here.position + 1) moved moved_there;
    each = λ f x.
        let one : count - passed - 1 ≡ count - (passed + 1) = omega arith in
        let alike : nat_eq v w ≡ true = grind (arith, nat_tests) in
        rw (next_shown f x, alike, one, at, moved) refl;
  }

  -- and where they are not
  pub repeated_not : v ≢ w → (f : Fold) → o ≡ reference_opcode f
      → false ≡ same_folded r.subject f count start.position cursor.position
  repeated_not other f x =
      let apart : nat_eq v w ≡ false = grind (arith, nat_tests) in rw (next_shown f x, apart) refl
