use Rattle.sre_engine.proofs.Steps.{onward_skips}
use Rattle.sre_engine.proofs.engine.prefix.go_on.Goals as goal

pub returns-clause-passed : goal.returns-clause-passed
returns-clause-passed g c =
    onward_skips _ _ _ _ _ _ _ c.requires.here c.args.prefix.now.overlaps.now c.args.prefix.now.confirmed c.requires.all
