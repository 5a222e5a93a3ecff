-- Errors in bytecode: their numbers and positions.
-- Public clauses rest on it.
use Rattle.std.specs.Prelude.{ℕ}
use Rattle.sre_code.specs.declared.code.error.CodeError.{CodeError}
use Rattle.sre_code.specs.declared.code.error.CodeError.TheVariants.{Memory, Truncated, UnknownOpcode, UnknownAt}
use Rattle.sre_code.specs.declared.code.error.CodeError.TheVariants.{UnknownCategory, BadSkip, BadCounts, BadItem}
use Rattle.sre_code.specs.declared.code.error.CodeError.TheVariants.{BadSet, BadInfo, TrailingWords}

-- the number of a refusal
abbrev pub refusal_number : CodeError → ℕ
refusal_number Memory = 1
refusal_number (Truncated place) = 2
refusal_number (UnknownOpcode place) = 3
refusal_number (UnknownAt place) = 4
refusal_number (UnknownCategory place) = 5
refusal_number (BadSkip place) = 6
refusal_number (BadCounts place) = 7
refusal_number (BadItem place) = 8
refusal_number (BadSet place) = 9
refusal_number (BadInfo place) = 10
refusal_number (TrailingWords place) = 11

-- the place of the word at which a fault was seen; 0 where memory was refused
abbrev pub place_of : CodeError → ℕ
place_of Memory = 0
place_of (Truncated place) = place
place_of (UnknownOpcode place) = place
place_of (UnknownAt place) = place
place_of (UnknownCategory place) = place
place_of (BadSkip place) = place
place_of (BadCounts place) = place
place_of (BadItem place) = place
place_of (BadSet place) = place
place_of (BadInfo place) = place
place_of (TrailingWords place) = place
