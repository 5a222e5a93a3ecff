use Rattle.sre_code.proofs.Terms.{Border}
use Rattle.sre_code.proofs.Borders.{Most}
use Rattle.sre_code.proofs.code.borders.next_border.Given as goal

abbrev pub invariant-border : goal.invariant-border
invariant-border l = record { border : Border l.prefix l.n l.border; most : Most l.prefix l.n l.border }

abbrev pub decreases-border : goal.decreases-border
decreases-border l = l.border
