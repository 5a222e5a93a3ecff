use Rattle.sre_machine.proofs.Terms.{◌-◌, Instruction, Longer, SkipsBoth, Run, run_of}
use Rattle.sre_machine.proofs.character_repeats.first_longer.Given as goal

abbrev pub invariant-count : goal.invariant-count
invariant-count g l = record {
  both : (let r : Run = run_of l.req in let first = Longer l.place l.least in
      SkipsBoth r first l.fn.start (Instruction l.tail) (Longer l.place l.count) l.cursor);
}

abbrev pub decreases-count : goal.decreases-count
decreases-count g l = (run_of l.req).subject.end - l.cursor.position
