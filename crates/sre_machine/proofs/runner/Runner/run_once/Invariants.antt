use Rattle.sre_machine.proofs.Terms.{no_marks, outcomes, behind_items, run_of, tree_of, cost, ending}
use Rattle.sre_machine.proofs.runner.Runner.run_once.Given as goal

abbrev pub ghosts-turns_from-L-Ledger : goal.ghosts-turns_from-L-Ledger
ghosts-turns_from-L-Ledger g a = record { name = a.blank.name; parts = a.blank.parts }

abbrev pub ghosts-turns_from-K-Plan : goal.ghosts-turns_from-K-Plan
ghosts-turns_from-K-Plan g a =
    let r = run_of a.req.now in
    let t = behind_items a.literals (tree_of r.words) in
    record { all = outcomes r t a.start.position; limit = cost r.subject t ending a.start.position no_marks }
