use Rattle.sre_engine.proofs.Terms.{ℕ, ◌≡◌, ◌<◌, false, inl, inr, subst, sym, arith, cases_lt, contains, NotPassed}
use Rattle.sre_engine.proofs.Terms.{char_at, run_of}
use Rattle.sre_engine.proofs.FirstSets.{set_lacks}
use Rattle.sre_engine.proofs.engine.next_start.first_in_set.Goals as goal

pub returns-then-character-ge128 : goal.returns-then-character-ge128
returns-then-character-ge128 g c = record {
  stands = c.first_taken.ensures.stands;
  from = omega (arith, c.character.invariant.from, c.first_taken.ensures.from);
  inside = c.first_taken.ensures.inside;
  each = λ q from to.
      elim (cases_lt q c.character.cursor.position) [
        | (inl before) ↦ c.character.invariant.each q from before
        | (inr later) ↦ record { each = λ j t x. c.first_taken.ensures.passed j q t x later to }
      ];
}

pub character-preserved : goal.character-preserved
character-preserved g c =
    let r = run_of c.args.req.now in
    let at = c.character.cursor.position in
    let read = c.read-character.ensures in
    record {
      stands = subst (λ (n : ℕ). r.stands c.read-character.result.1 n) (sym read.position) read.stands;
      from = omega (arith, c.character.invariant.from, read.position);
      inside = omega (arith, read.position, c.character-test.true, c.position.ensures, c.end.ensures.value);
      each = λ q from to.
          elim (cases_lt q at) [
            | (inl before) ↦ c.character.invariant.each q from before
            | (inr later) ↦
                let same : at ≡ q = omega (arith, later, to, read.position) in
                let low : char_at r.subject at < 128 = omega (arith, read.character, c.if-character-ge128.false) in
                let lacks : contains c.args.characters (char_at r.subject at) ≡ false =
                cc (read.character, c.contains.ensures, c.if-contains.false) in
                subst (λ (x : ℕ). NotPassed r.words r.subject c.args.place x) same
                (set_lacks r.words c.args.place c.args.characters c.requires.test.taken r.subject at low lacks)
          ];
    }
