use Rattle.sre_c.proofs.Codes.{known_code, known_confirmed, known_numbers}
use Rattle.sre_c.proofs.check.code.Goals as goal

pub from_checked-requires-clause-checked : goal.from_checked-requires-clause-checked
from_checked-requires-clause-checked c =
    rw (c.requires.table, c.hints_told.ensures) (known_confirmed (c.args.given.now.known c.if-given.true))

pub from_checked-requires-clause-scanned : goal.from_checked-requires-clause-scanned
from_checked-requires-clause-scanned c = λ t whole. (known_numbers (c.args.given.now.known c.if-given.true) t whole).0

pub from_checked-requires-clause-asked : goal.from_checked-requires-clause-asked
from_checked-requires-clause-asked c = λ t whole. (known_numbers (c.args.given.now.known c.if-given.true) t whole).1

pub from_checked-requires-clause-counted : goal.from_checked-requires-clause-counted
from_checked-requires-clause-counted c = λ t whole. (known_numbers (c.args.given.now.known c.if-given.true) t whole).2

pub returns-then-given-clause-tree : goal.returns-then-given-clause-tree
returns-then-given-clause-tree c = known_code (c.args.given.now.known c.if-given.true)
