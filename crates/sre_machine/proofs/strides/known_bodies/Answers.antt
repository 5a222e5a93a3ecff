use Rattle.sre_machine.proofs.Terms.{arith, contains, run_of, alternatives_there, alternatives_run, positive}
use Rattle.sre_turns.proofs.semantics.Strides.{tells_first, tells_next, tells_last}
use Rattle.sre_machine.proofs.ByPlace.{left_over}
use Rattle.sre_machine.proofs.strides.known_bodies.Goals as goal

pub alternative-init : goal.alternative-init
alternative-init g c = record {
  stands = c.requires;
  told = tells_first (run_of c.args.req.now) c.args.start c.args.place (contains c.complement-none.result)
      (contains c.new-only.result) c.new-only.ensures;
}

pub word-length-requires : goal.word-length-requires
word-length-requires g c =
    alternatives_there (run_of c.args.req.now) _ c.args.cursor c.alternative.invariant.stands

pub returns-then-length-eq0 : goal.returns-then-length-eq0
returns-then-length-eq0 g c =
    tells_last (run_of c.args.req.now) c.args.start c.alternative.at c.args.place c.word-length.result
    (contains c.alternative.none) (contains c.alternative.only) c.word-length.ensures.word c.if-length-eq0.true
    c.alternative.invariant.told

pub known_test-requires : goal.known_test-requires
known_test-requires g c =
    (alternatives_run (run_of c.args.req.now) c.alternative.at c.word-length.result c.args.cursor
    c.word-length.ensures.word (positive _ c.if-length-eq0.false) c.alternative.invariant.stands).0

pub alternative-smaller : goal.alternative-smaller
alternative-smaller g c =
    omega (
      arith,
      positive _ c.if-length-eq0.false,
      alternatives_there (run_of c.args.req.now) _ c.args.cursor c.alternative.invariant.stands,
    )

pub alternative-preserved : goal.alternative-preserved
alternative-preserved g c =
    let r = run_of c.args.req.now in
    let more = positive _ c.if-length-eq0.false in
    let test = c.in-Some.test in
    record {
      stands = (alternatives_run r c.alternative.at c.word-length.result c.args.cursor c.word-length.ensures.word more
          c.alternative.invariant.stands).1;
      told = tells_next r c.args.start c.alternative.at c.args.place c.word-length.result
          (contains c.alternative.none) (contains c.alternative.only) c.word-length.ensures.word more
          (contains test.taken) (contains c.difference-none.result) (contains c.with_test-only.result) test.behind
          c.in-Some.ensures c.alternative.invariant.told
          (λ ch y. left_over (contains c.alternative.none ch) (contains test.taken ch) _
          (c.difference-none.ensures ch) y)
          c.with_test-only.ensures;
    }
