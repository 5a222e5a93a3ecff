-- What an owned code shows.
-- Public clauses rest on it.
use Rattle.std.specs.Prelude.{ℕ, List}
use Rattle.sre_code.specs.Terms.{Table}
use Rattle.sre_code.specs.declared.owned.OwnedCode.{OwnedCode}

-- the words
abbrev pub words_kept : OwnedCode → List ℕ
words_kept code = code.words.items

-- the table
abbrev pub uni_kept : OwnedCode → Table
uni_kept code = code.uni
