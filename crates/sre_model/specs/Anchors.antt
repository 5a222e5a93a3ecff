-- Trees that begin at the text's start alone.
-- Public clauses rest on it.
use Rattle.std.specs.Prelude.{Bool, true, false}
use Rattle.sre_chars.specs.declared.constants.SreAtCode.{SreAtCode}
use Rattle.sre_chars.specs.declared.constants.SreAtCode.TheVariants.{BEGINNING, BEGINNING_STRING}
use Rattle.sre_model.specs.Tree.{Tree, Then, At}

-- whether a position code holds at position 0 alone
abbrev pub is_at_front : SreAtCode → Bool
is_at_front BEGINNING = true
is_at_front BEGINNING_STRING = true
is_at_front _ = false

-- whether the first item is such a position code
abbrev pub is_anchored : Tree → Bool
is_anchored (Then (At a) rest) = is_at_front a
is_anchored _ = false
