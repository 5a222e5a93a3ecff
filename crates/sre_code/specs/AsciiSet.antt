-- Which characters a set of ASCII characters has.
-- Definitions for the machine's contracts; what sre_engine makes public does not rest on it.
use Rattle.std.specs.Prelude.{ℕ, ◌-◌, Bool, nat_eq, nat_lt, ◌&&◌, if◌then◌else◌}
use Rattle.sre_code.specs.Terms.{bit_at}
use Rattle.sre_code.specs.declared.ascii_set.AsciiSet.{AsciiSet}

-- whether a set has c: the 64 characters from 0 on are the bits of one half, those from 64 on of the other
unfoldable pub contains : AsciiSet → ℕ → Bool
contains s c = if nat_lt c 64 then nat_eq (bit_at s.low c) 1 else nat_lt c 128 && nat_eq (bit_at s.high (c - 64)) 1
