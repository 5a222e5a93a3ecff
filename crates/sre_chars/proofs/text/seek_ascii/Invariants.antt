use Rattle.sre_chars.proofs.Terms.{◌-◌, ◌≤◌, chars, StandsInText, NoneIs}
use Rattle.sre_chars.proofs.text.seek_ascii.Given as goal

-- no character that was passed is the one
abbrev pub invariant-round : goal.invariant-round
invariant-round l =
    StandsInText l.s l.cursor l.cursor.position
    × (l.initial.cursor.position ≤ l.cursor.position)
    × (l.cursor.position ≤ l.end)
    × NoneIs (chars l.s) l.character l.initial.cursor.position l.cursor.position

abbrev pub decreases-round : goal.decreases-round
decreases-round l = l.end - l.cursor.position
