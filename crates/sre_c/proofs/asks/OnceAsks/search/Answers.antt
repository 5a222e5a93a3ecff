use Rattle.sre_c.proofs.asks.OnceAsks.search.Goals as goal

pub search-requires-2 : goal.search-requires-2
search-requires-2 g c = record { suits = c.new-kept.ensures.suits _ _ }
