use Rattle.sre_machine.proofs.Terms.{inl, arith, contains}
use Rattle.sre_machine.proofs.ByPlace.{left_over, left_or_common}
use Rattle.sre_machine.proofs.strides.with_test.Goals as goal

pub returns-then-test-place : goal.returns-then-test-place
returns-then-test-place c = λ ch y.
    inl (left_over (contains c.args.only ch) (contains c.args.test.taken ch) _ (c.difference-others.ensures ch) y)

pub returns : goal.returns
returns c = λ ch y.
    left_or_common (omega (arith, c.if-test-place.false)) (contains c.args.only ch) (contains c.args.none ch)
    (contains c.args.test.taken ch) _ _ _ _
    (c.union.ensures ch) (c.difference-others.ensures ch) (c.difference-2.ensures ch) (c.difference.ensures ch) y
