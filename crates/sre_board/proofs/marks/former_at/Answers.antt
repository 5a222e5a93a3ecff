use Rattle.sre_board.proofs.Terms.{arith}
use Rattle.sre_board.proofs.Undo.{back_inside}
use Rattle.sre_board.proofs.marks.former_at.Goals as goal

pub returns-in-None : goal.returns-in-None
returns-in-None c = λ value. back_inside _ _ value _ (omega arith) (cc)

pub returns-in-Some : goal.returns-in-Some
returns-in-Some c = λ value. back_inside _ _ value _ (omega arith) (cc)
