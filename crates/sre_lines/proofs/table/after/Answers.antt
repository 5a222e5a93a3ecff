-- What `strip_prefix` takes off is the front.
use Rattle.sre_lines.proofs.Terms.{Decides-eqb}
use Rattle.std.proofs.lemmas.Slice.Eq.{strip_prefix_is}
use Rattle.sre_lines.proofs.TableFiles.{front_off, no_front}
use Rattle.sre_lines.proofs.table.after.Goals as goal

pub returns-clause-rest : goal.returns-clause-rest
returns-clause-rest c =
    front_off _ _ c.strip_prefix.result
    (strip_prefix_is Decides-eqb _ _ c.strip_prefix.result c.strip_prefix.ensures.cases)

pub returns-clause-none : goal.returns-clause-none
returns-clause-none c =
    no_front _ _ c.strip_prefix.result
    (strip_prefix_is Decides-eqb _ _ c.strip_prefix.result c.strip_prefix.ensures.cases)
