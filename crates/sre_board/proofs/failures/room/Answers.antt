use Rattle.sre_board.proofs.Terms.{◌≡◌, ℕ, ◌+◌, ◌-◌, ◌*◌, ap, arith}
use Rattle.sre_board.proofs.failures.room.Goals as goal

pub returns-then-length-min-clause-enough : goal.returns-then-length-min-clause-enough
returns-then-length-min-clause-enough c = λ some order most fits part.
    let p : ℕ = c.args.end - c.args.first + 1 in
    let same : c.args.slots * 2 * p ≡ c.args.slots * 2 * (c.args.end + 1 - c.args.first) =
    ap (λ n. c.args.slots * 2 * n) (omega arith) in
    let s = c.saturating_mul.ensures in
    absurd (omega (arith, c.in_part-length.ensures.whole (λ many. omega (arith, s, same, part many))))

pub returns-clause-enough : goal.returns-clause-enough
returns-clause-enough c = λ some order most fits part.
    let p : ℕ = c.args.end - c.args.first + 1 in
    let same : c.args.slots * 2 * p ≡ c.args.slots * 2 * (c.args.end + 1 - c.args.first) =
    ap (λ n. c.args.slots * 2 * n) (omega arith) in
    let s = c.saturating_mul.ensures in
    let whole = c.in_part-length.ensures.whole (λ many. omega (arith, s, same, part many)) in
    (omega arith, omega (arith, whole, s, same))
