-- What is requested follows the program's name.
use Rattle.sre_lines.proofs.Terms.{inl}
use Rattle.sre_lines.proofs.program.call_of.Goals as goal

pub returns-in-Some : goal.returns-in-Some
returns-in-Some c = rw c.in-Ok.is (inl (c.in-Some._program, _, c.in-Some.ensures.items, c.asked.ensures))
