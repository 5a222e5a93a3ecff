-- Two fields are one too many.
use Rattle.sre_lines.proofs.Terms.{arith, refl, ap}
use Rattle.std.specs.Prelude.{length}
use Rattle.sre_lines.specs.declared.line.Verb.TheVariants.{Check}
use Rattle.sre_lines.proofs.Cuts.{first_part_at, only_part_at, some_part}
use Rattle.sre_lines.proofs.cause.check_cause.Goals as goal

pub returns-in-Some : goal.returns-in-Some
returns-in-Some c =
    let parts = first_part_at 32 _ _ _ c.in-Some.ensures.parts c.in-Some.ensures.first in
    (Check, refl, omega (arith, ap length parts, some_part 32 c.in-Some._others.now))

pub returns : goal.returns
returns c =
    let one = only_part_at 32 _ c.in_default.ensures.none in
    ((Check, refl, ap length one), _, _, one, c.in-Some-words_fault.ensures.fault)
