-- The credits of an instruction, with what its scan is charged, are no more than what a memoized failure there pays
-- for, but for a repeat without a greatest count. Where there is one way to go on, there are none.
-- That the step bound suffices (`enough` of sre_engine) rests on this.
use Rattle.sre_turns.proofs.Terms.{◌≡◌, ℕ, ◌+◌, ◌*◌, ◌≤◌, ◌⊎◌, inl, inr, false, List, refl, subst, sym, ap, ◌∙◌, arith}
use Rattle.sre_turns.proofs.Terms.{add-mul, one-mul, mul-le-mul_right, nat_tests, SreOpcode, RunKind, GreedyRun}
use Rattle.sre_turns.proofs.Terms.{LazyRun, PossessiveRun, Way, unlimited, word, Opcode, Word, Role, role, other_ends}
use Rattle.sre_turns.proofs.Terms.{word_of, CodeAt, Frame, Instruction, spot_at, Subject, Runs, toll, toll_by, bit_by}
use Rattle.sre_turns.proofs.Terms.{bit_toll, end_price, ends_beside, split_toll, split_by, role_at, forking, Point}
use Rattle.sre_turns.proofs.Terms.{Again, Marks, has_toll, scan_by, scan_toll, RunsOn}
use Rattle.sre_model.specs.Roles.{ToBranch, ToRun, ToRepeat, ToLoop, ToRepeatPossessively}
use Rattle.sre_chars.specs.declared.constants.SreOpcode.TheVariants as opcode
use Rattle.sre_turns.proofs.semantics.Moving.{in_role}
use Rattle.sre_turns.proofs.bound.Prices.{role_there}

module _ (ws : List ℕ) (e i : ℕ) (ks : List ℕ) where
  -- a repeat with a greatest count
  ends_counted : (word ws (i + 3) ≡ unlimited → ⊥)
      → (1 + ends_beside ws e i) * end_price ws i
      ≤ (1 + other_ends e (word ws (i + 2)) (word ws (i + 3))) * end_price ws i
  ends_counted counted =
      let few : ends_beside ws e i ≤ other_ends e (word ws (i + 2)) (word ws (i + 3)) = grind (arith, nat_tests) in
      mul-le-mul_right (end_price ws i) (omega (arith, few))

  by_bit : (f : Role) → ((kind : RunKind) → f ≡ ToRun kind → word ws (i + 3) ≡ unlimited → ⊥)
      → toll_by ws e i ks f + scan_by ws e i f ≤ bit_by ws e i ks f
  by_bit (ToRun GreedyRun) h = omega (arith, ends_counted (h GreedyRun refl))
  by_bit (ToRun LazyRun) h = omega (arith, ends_counted (h LazyRun refl))
  by_bit f h = omega arith

  -- an instruction at which the machine is, and is no repeat without a greatest count
  pub toll_few : {s : Subject} {p n : ℕ} {fs : List Frame} {m : Marks} {os : List Way} (o : SreOpcode) → Opcode ws i o
      → (RunsOn ws i → ⊥) → Runs ws s (spot_at (Instruction i) fs p m) os n
      → toll ws e o (Instruction i) ks + scan_toll ws e (Instruction i) ≤ bit_toll ws e (Instruction i) ks
  toll_few o w counted x =
      subst (λ f. toll_by ws e i ks (role o) + scan_by ws e i f ≤ bit_by ws e i ks f) (sym (role_there ws i o w))
      (by_bit (role o) greatest)
    where
      greatest : (kind : RunKind) → role o ≡ ToRun kind → word ws (i + 3) ≡ unlimited → ⊥
      greatest kind is u =
          let h = (in_role o (ToRun kind) is w x).1 in
          counted (record {
            code = run_code o kind is w;
            greatest =
                subst (λ v. Word ws (i + 3) v) (sym (word_of ws (i + 3) h.high h.operands.highest) ∙ u)
                h.operands.highest;
            test = record { end = h.end; test = h.test; stands = h.operands.stands };
          })
        where
          run_code : (o : SreOpcode) (kind : RunKind) → role o ≡ ToRun kind → Opcode ws i o
              → Opcode ws i opcode.REPEAT_ONE
              ⊎ (Opcode ws i opcode.MIN_REPEAT_ONE ⊎ Opcode ws i opcode.POSSESSIVE_REPEAT_ONE)
          run_code opcode.REPEAT_ONE kind is w = inl w
          run_code opcode.MIN_REPEAT_ONE kind is w = inr (inl w)
          run_code opcode.POSSESSIVE_REPEAT_ONE kind is w = inr (inr w)
          run_code o kind is w = absurd (cc)

  -- nor is that of a repeat that is split
  pub split_few : split_toll ws (Instruction i) + scan_toll ws e (Instruction i) ≤ bit_toll ws e (Instruction i) ks
  split_few = go (role_at ws i)
    where
      one_end : (n : ℕ) → end_price ws i ≤ (1 + n) * end_price ws i
      one_end n = omega (arith, add-mul 1 n (end_price ws i), one-mul (end_price ws i))

      go : (f : Role) → split_by ws i f + scan_by ws e i f ≤ bit_by ws e i ks f
      go (ToRun GreedyRun) = omega (arith, one_end (other_ends e (word ws (i + 2)) (word ws (i + 3))))
      go (ToRun LazyRun) = omega (arith, one_end (other_ends e (word ws (i + 2)) (word ws (i + 3))))
      go (ToRun PossessiveRun) = omega arith
      go f = omega arith

-- where there is no more than one way to go on
pub no_toll : (ws : List ℕ) (e : ℕ) (o : SreOpcode) (pt : Point) (ks : List ℕ) → has_toll o pt ≡ false
    → toll ws e o pt ks ≡ 0
no_toll ws e o (Instruction i) ks none = go (role o) none
  where
    go : (f : Role) → forking f ≡ false → toll_by ws e i ks f ≡ 0
    go ToBranch h = absurd (cc)
    go (ToRun kind) h = absurd (cc)
    go ToRepeat h = absurd (cc)
    go (ToLoop o) h = absurd (cc)
    go ToRepeatPossessively h = absurd (cc)
    go f h = refl
no_toll ws e o Again ks none = absurd (cc)
no_toll ws e o pt ks none = refl

-- nor is there a scan
pub no_scan : (ws : List ℕ) (e : ℕ) (o : SreOpcode) (pt : Point) → CodeAt ws pt o → has_toll o pt ≡ false
    → scan_toll ws e pt ≡ 0
no_scan ws e o (Instruction i) w none = ap (scan_by ws e i) (role_there ws i o w) ∙ go (role o) none
  where
    go : (f : Role) → forking f ≡ false → scan_by ws e i f ≡ 0
    go (ToRun kind) h = absurd (cc)
    go f h = refl
no_scan ws e o pt w none = refl
