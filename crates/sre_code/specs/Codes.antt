-- What a code shows.
-- Public clauses rest on it.
use Rattle.std.specs.Prelude.{ℕ, List}
use Rattle.sre_code.specs.Terms.{Table, behind_block}
use Rattle.sre_code.specs.declared.code.Hints.{Hints}
use Rattle.sre_code.specs.declared.code.Code.{Code}

-- the words
abbrev pub words_of : Code → List ℕ
words_of code = code.words.now

-- the table
abbrev pub uni_of : Code → Table
uni_of code = code.uni.now

-- the words behind the block, where there is one
unfoldable pub items_of : Code → List ℕ
items_of code = behind_block (words_of code)

abbrev pub hints_of : Code → Hints
hints_of code = code.hints
