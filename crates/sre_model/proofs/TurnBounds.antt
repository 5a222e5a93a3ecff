-- How steps add up.
use Rattle.sre_model.proofs.Terms.{ℕ, ◌+◌, ◌*◌, ◌≤◌, arith, mul-le-mul_right}

-- another turn
pub turn_spent : (given left after turned each : ℕ) → given ≤ left + turned * each → left ≤ after + each
    → given ≤ after + (turned + 1) * each
turn_spent given left after turned each h l = omega (arith, h, l)

-- the last turn, of no more than so many and one
pub last_spent : (given left after turned limit each : ℕ) → given ≤ left + turned * each → left ≤ after + each
    → turned ≤ limit → given ≤ after + (limit + 1) * each
last_spent given left after turned limit each h l w =
    let within : turned + 1 ≤ limit + 1 = omega (arith, w) in
    omega (arith, turn_spent given left after turned each h l, mul-le-mul_right each within)
