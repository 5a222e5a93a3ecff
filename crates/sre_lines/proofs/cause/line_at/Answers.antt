-- The lines before the one at hand are passed over.
use Rattle.sre_lines.proofs.Terms.{◌≡◌, ◌≤◌, arith, subst, IsLineAt}
use Rattle.sre_lines.proofs.FileLines.{next_reached, no_more, line_reached, last_reached}
use Rattle.sre_lines.proofs.cause.line_at.Goals as goal

pub unreachable-requires : goal.unreachable-requires
unreachable-requires c =
    let (line, at) = c.requires in
    omega (arith, c.loop-test.true, no_more c.loop.invariant line c.args.number c.in_default.ensures.none at)

pub loop-preserved : goal.loop-preserved
loop-preserved c = next_reached c.loop.invariant _ _ c.in-Some.ensures.parts c.in-Some.ensures.first

pub returns-in-Some-split_once : goal.returns-in-Some-split_once
returns-in-Some-split_once c =
    let some : 1 ≤ c.args.number = omega (arith, c.requires.1.counted) in
    let same : c.loop.counter ≡ c.args.number = omega (arith, c.loop-test.false, c.loop.auto.counter-end some) in
    subst (λ n. IsLineAt c.args.file.now n c.in-Some-split_once.line.now) same
    (line_reached c.loop.invariant _ _ c.in-Some-split_once.ensures.parts c.in-Some-split_once.ensures.first)

pub returns-in-None : goal.returns-in-None
returns-in-None c =
    let some : 1 ≤ c.args.number = omega (arith, c.requires.1.counted) in
    let same : c.loop.counter ≡ c.args.number = omega (arith, c.loop-test.false, c.loop.auto.counter-end some) in
    subst (λ n. IsLineAt c.args.file.now n c.loop.left.now) same
    (last_reached c.loop.invariant c.in-None.ensures.none)
