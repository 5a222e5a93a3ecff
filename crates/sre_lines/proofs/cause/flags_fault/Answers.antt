-- The letter `-` alone is no fault.
use Rattle.sre_lines.proofs.Terms.{rules, sym, false, ◌≢◌, flags_text}
use Rattle.sre_chars.specs.declared.constants.EmptyRule.TheVariants.{Never}
use Rattle.sre_lines.specs.declared.line.Flags.{Flags}
use Rattle.sre_lines.proofs.cause.flags_fault.Goals as goal

pub returns-else-are_flags-clause-fault : goal.returns-else-are_flags-clause-fault
returns-else-are_flags-clause-fault c =
    let refused : (flags : Flags) → flags_text flags ≢ c.args.field.now = search rules in (
      λ is. refused (record { match_all = false; must_advance = false; empty_rule = Never }) (sym is),
      search rules,
    )
