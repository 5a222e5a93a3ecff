-- What a write leaves that fails.
use Rattle.std.specs.Prelude.{ℕ, ◌≡◌, ◌++◌, Option, List}
use Rattle.sre_lines.specs.Terms.{Appends}

-- what a writer holds has grown by a part of the bytes, perhaps by none or by all
abbrev pub AppendsPart : Option (List ℕ) → Option (List ℕ) → List ℕ → Type 0
AppendsPart old new bytes = (part rest : List ℕ) × (part ++ rest ≡ bytes) × Appends old new part
