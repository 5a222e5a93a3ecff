use Rattle.sre_request.proofs.Terms.{rules, ℕ, ◌+◌, ◌-◌, ◌≡◌, ◌<◌, List, Option, None, Some, IfSome, arith, contains}
use Rattle.sre_request.proofs.Terms.{Table, is_member, holds, SetStands}
use Rattle.sre_model.specs.Grammar.{Opcode, test_opcode, TestOperands}
use Rattle.sre_code.specs.declared.ascii_set.AsciiSet.{AsciiSet}
use Rattle.sre_model.specs.Tree.{SetItem, Test, In, Plain}
use Rattle.sre_model.proofs.Opcodes.{same_opcode}
use Rattle.sre_request.specs.AsciiSets.{TakesAscii}
use Rattle.sre_chars.specs.declared.constants.SreOpcode.TheVariants as opcode
use Rattle.sre_request.proofs.ascii.ascii_taken.Goals as goal

-- the ASCII characters of a set
set_taken : (ws : List ℕ) (i : ℕ) (members : Option AsciiSet) → Opcode ws i opcode.IN
    → ((table : Table) (j : ℕ) (set : List SetItem) → SetStands ws (i + 2) j set
    → IfSome members (λ taken. (c : ℕ) → c < 128 → contains taken c ≡ is_member table set c))
    → IfSome members (λ taken. TakesAscii ws i taken)
set_taken ws i None w is = tt
set_taken ws i (Some taken) w is = λ table j t s.
    go table j t (same_opcode ws i opcode.IN (test_opcode t) w s.code) s.operands
  where
    go : (table : Table) (j : ℕ) (t : Test) → opcode.IN ≡ test_opcode t → TestOperands ws i j t → (c : ℕ) → c < 128
        → contains taken c ≡ holds table t c
    go table j (In Plain set) e h c l = is table (j - 1) set (record { items = h.1; ends = h.2 }) c l
    go table j t e h c l = absurd (grind arith)

pub returns-in-IN-clause-taken : goal.returns-in-IN-clause-taken
returns-in-IN-clause-taken c =
    let code : Opcode c.args.words.now c.args.place opcode.IN = search rules in
    set_taken c.args.words.now c.args.place _ code c.ascii_members.ensures
