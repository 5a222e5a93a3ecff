use Rattle.sre_chars.proofs.Terms.{◌-◌, ◌≤◌, NoneIs}
use Rattle.sre_chars.proofs.string.StrDrive.seek.Given as goal

-- no character that was passed is the one
abbrev pub invariant-character : goal.invariant-character
invariant-character g l =
    g.Self.StrDrive.stands l.self l.cursor l.cursor.position
    × (l.fn.cursor.position ≤ l.cursor.position)
    × (l.cursor.position ≤ l.end)
    × NoneIs (g.Self.StrDrive.text l.self) l.character l.fn.cursor.position l.cursor.position

abbrev pub decreases-character : goal.decreases-character
decreases-character g l = l.end - l.cursor.position
