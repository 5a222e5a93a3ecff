-- The line of the fault's number is the one that is no case.
use Rattle.sre_lines.proofs.Terms.{subst, IsNoCase}
use Rattle.sre_lines.proofs.FileLines.{one_line}
use Rattle.sre_lines.proofs.program.fault_end.Goals as goal

pub line_at-requires : goal.line_at-requires
line_at-requires c = let at = c.requires _ c.in-Explained-NotACase.is-1 in (at.line, at.at)

pub cause_of-requires : goal.cause_of-requires
cause_of-requires c =
    let at = c.requires _ c.in-Explained-NotACase.is-1 in
    subst IsNoCase (one_line _ _ _ _ at.at c.line_at.ensures) at.is
