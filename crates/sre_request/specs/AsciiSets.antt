-- Which ASCII characters a set or a test takes.
-- Definitions for the request's contracts; what sre_engine makes public does not rest on it.
use Rattle.std.specs.Prelude.{ℕ, ◌≡◌, ◌<◌, Bool, true, false, List}
use Rattle.sre_request.specs.Terms.{contains, Table, SreOpcode, SetItem, Test, is_member, holds, SetStands, HasSet}
use Rattle.sre_request.specs.Terms.{TestStands}
use Rattle.sre_code.specs.declared.ascii_set.AsciiSet.{AsciiSet}
use Rattle.sre_chars.specs.declared.constants.SreOpcode.TheVariants as opcode

-- a set that stands at i takes the ASCII characters of members, and no other ASCII ones
pub record IsAsciiPart (ws : List ℕ) (table : Table) (i : ℕ) (members : AsciiSet) : Type 0 where
  pub stands : HasSet ws i
  pub agrees : (j : ℕ) (set : List SetItem) → SetStands ws i j set → (c : ℕ) → c < 128
      → contains members c ≡ is_member table set c

-- the test at i takes the ASCII characters of members, and no other ASCII ones
abbrev pub TakesAscii : List ℕ → ℕ → AsciiSet → Type 0
TakesAscii ws i members =
    (table : Table) (j : ℕ) (t : Test) → TestStands ws i j t → (c : ℕ) → c < 128
    → contains members c ≡ holds table t c

-- whether the ASCII characters that a test takes are told at once: not by the locale's rules, nor of a set that folds
-- case, and of a set as its items tell
abbrev pub is_told : SreOpcode → Bool
is_told opcode.ANY = true
is_told opcode.LITERAL = true
is_told opcode.LITERAL_IGNORE = true
is_told opcode.LITERAL_UNI_IGNORE = true
is_told opcode.NOT_LITERAL = true
is_told opcode.CATEGORY = true
is_told o = false
