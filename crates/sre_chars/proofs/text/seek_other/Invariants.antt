use Rattle.sre_chars.proofs.Terms.{◌-◌, ◌≤◌, chars, StandsInText, NoneIs}
use Rattle.sre_chars.proofs.text.seek_other.Given as goal

-- no character that was passed is the one
abbrev pub invariant-character : goal.invariant-character
invariant-character l =
    StandsInText l.s l.cursor l.cursor.position
    × (l.initial.cursor.position ≤ l.cursor.position)
    × (l.cursor.position ≤ l.end)
    × NoneIs (chars l.s) l.character l.initial.cursor.position l.cursor.position

abbrev pub decreases-character : goal.decreases-character
decreases-character l = l.end - l.cursor.position
