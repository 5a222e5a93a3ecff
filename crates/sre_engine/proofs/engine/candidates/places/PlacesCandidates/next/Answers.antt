use Rattle.sre_engine.proofs.Terms.{◌≡◌, ◌+◌, ◌-◌, ◌*◌, refl, subst, arith, length, Reads, behind_items, items_of}
use Rattle.sre_engine.proofs.Terms.{code_of, asked_of, run_of, whole_items, Stands, NoMatch}
use Rattle.sre_engine.proofs.CountLaws.{may_place}
use Rattle.sre_engine.proofs.PrefixWays.{reads_behind, decided_behind, far_end}
use Rattle.sre_engine.proofs.Steps.{complete}
use Rattle.sre_engine.proofs.engine.candidates.places.PlacesCandidates.next.Goals as goal

pub returns-clause-some : goal.returns-clause-some
returns-clause-some g c =
    let r = c.args.req.now in
    let a = asked_of r in
    let prefix = c.args.self.now.prefix.now in
    let vs = prefix.words.now in
    let is = c.requires.looks.is in
    let some = prefix.confirmed.some in
    let here = c.find_allowed.ensures.here in
    let there = c.find_allowed.ensures.found c.if-not-find_allowed.false in
    let at : c.find_allowed.new.spot.cursor.position - c.find_allowed.new.spot.matched ≡ c.prefix_start.result =
    omega (arith, there.0, c.prefix_start.ensures) in
    let stands : Stands a.text vs a.end c.prefix_start.result =
    subst (λ p. Stands a.text vs a.end p) at (complete a.text vs a.start a.end _ _ _ here there.0) in
    let behind : c.behind_literals.result.position ≡ c.prefix_start.result + prefix.literals =
    omega (arith, c.behind_literals.ensures.position, c.prefix_start.ensures) in
    record {
      stands = c.behind_literals.ensures.stands;
      behind = behind;
      inside = omega (arith, behind, stands.within, is.few);
      few = is.small;
      none = subst (NoMatch a (code_of r) _) at there.1;
      may = may_place a (code_of r) _ vs _ _ is c.requires.looks.more stands;
      reads = λ t w.
          let ws = items_of (code_of r) in
          let zero : 0 + 2 * prefix.literals ≡ 2 * prefix.literals = omega arith in
          subst (λ i. Reads ws i (length ws - 1) (behind_items prefix.literals t)) zero
          (reads_behind ws prefix.literals t vs 0 (length ws - 1) (is.spelled t (whole_items r.pattern_codes t w))
          is.few
          w.0);
      decides = λ t whole end m decided.
          decided_behind a _ _ _ _ is some _ stands (run_of r) refl t whole _ behind end m decided;
      far = λ t whole m e.
          let far = far_end a (code_of r) vs _ _ is some c.prefix_start.result stands t whole m e in
          omega (arith, here.cost, here.front.from, there.0, at, far);
    }
