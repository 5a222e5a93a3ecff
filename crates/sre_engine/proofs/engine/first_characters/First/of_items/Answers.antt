use Rattle.sre_engine.proofs.Terms.{whole_stands, leads_tree}
use Rattle.sre_engine.proofs.Starting.{bars_if}
use Rattle.sre_engine.proofs.Leading.{wants_first}
use Rattle.sre_engine.proofs.engine.first_characters.First.of_items.Goals as goal

pub follow-reached-requires : goal.follow-reached-requires
follow-reached-requires c = record {
  tree = c.requires.0;
  stands = whole_stands c.args.words.now c.requires.0 c.requires.1;
}

pub wanted_at-requires : goal.wanted_at-requires
wanted_at-requires c =
    leads_tree c.args.words.now 0 _ _ c.follow-reached.ensures.leads (record {
      tree = c.requires.0;
      stands = whole_stands c.args.words.now c.requires.0 c.requires.1;
    })

pub returns-clause-bars : goal.returns-clause-bars
returns-clause-bars c =
    bars_if c.args.words.now _ _ c.follow-reached.ensures.leads c.follow-reached.ensures.at c.wanted_at.ensures.bars

pub returns-clause-first : goal.returns-clause-first
returns-clause-first c =
    let reached = c.follow-reached.ensures in
    wants_first c.args.words.now _ _ reached.test reached.code reached.past c.wanted_at.ensures.wants
