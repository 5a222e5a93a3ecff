use Rattle.sre_chars.proofs.Seeks.{none_between, first_between}
use Rattle.sre_chars.proofs.bytes.RefSliceU8StrDrive.seek.Goals as goal

pub returns-in-Some-clause-sought : goal.returns-in-Some-clause-sought
returns-in-Some-clause-sought c =
    let found = rw c.position-from.ensures at c.in-Some.ensures in
    rw (c.new.ensures.position, c.position-from.ensures)
    (first_between c.args.self.now.now c.args.character c.args.cursor.now.position c.args.end c.in-Some.passed
    c.requires.within found.0 found.1 found.2)

pub returns-in-None-clause-sought : goal.returns-in-None-clause-sought
returns-in-None-clause-sought c =
    let none = rw c.position-from.ensures at c.in-None.ensures in (
      c.new-in-None.ensures.position,
      none_between c.args.self.now.now c.args.character c.args.cursor.now.position c.args.end c.requires.within none,
    )
