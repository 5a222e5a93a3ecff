use Rattle.sre_finder.proofs.Terms.{words_of, uni_of, rules}
use Rattle.sre_finder.proofs.span_finder.SpanFinder.on_demand.Goals as goal

pub into_finder-requires : goal.into_finder-requires
into_finder-requires c = c.new.ensures.suits (words_of c.args.code) (uni_of c.args.code)

pub returns-clause-encoding : goal.returns-clause-encoding
returns-clause-encoding c = search rules
