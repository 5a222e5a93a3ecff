-- What a run over bytecode is about.
-- For the machine and what it rests on. What sre_engine makes public rests on it by `Starts::beyond` alone.
use Rattle.std.specs.Prelude.{ℕ, Bool, List}
use Rattle.sre_chars.specs.declared.string.StringCursor.{StringCursor}
use Rattle.sre_model.specs.Subject.{Subject}
use Rattle.sre_model.specs.Ways.{Way}

-- what a run is about: the words, the subject, which cursors stand at which position, and which outcomes are accepted
pub record Run : Type 1 where
  pub words : List ℕ
  pub subject : Subject
  pub stands : StringCursor → ℕ → Type 0
  pub accepts : Way → Bool
