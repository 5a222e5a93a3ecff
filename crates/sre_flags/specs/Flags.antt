-- The flag types: what number a set is, and the constants by name and bit.
use Rattle.std.specs.Prelude.{ℕ, List, [], ◌∷◌, codes}
use Rattle.bitflags.specs.Sets.{Row}
use Rattle.sre_flags.specs.declared.SreFlag.{SreFlag}
use Rattle.sre_flags.specs.declared.SreInfo.{SreInfo}

-- the number of a set of pattern flags
abbrev pub flag_number : SreFlag → ℕ
flag_number flag = flag.bits

-- the number of a set of claims
abbrev pub info_number : SreInfo → ℕ
info_number info = info.bits

-- how a pattern is to be compiled
abbrev pub pattern_flags : List Row
pattern_flags =
    (codes "TEMPLATE", 1) ∷ (codes "IGNORECASE", 2) ∷ (codes "LOCALE", 4) ∷ (codes "MULTILINE", 8)
    ∷ (codes "DOTALL", 16) ∷ (codes "UNICODE", 32) ∷ (codes "VERBOSE", 64) ∷ (codes "DEBUG", 128)
    ∷ (codes "ASCII", 256) ∷ []

-- what the information block of a compiled pattern claims
abbrev pub block_flags : List Row
block_flags = (codes "PREFIX", 1) ∷ (codes "LITERAL", 2) ∷ (codes "CHARSET", 4) ∷ []
