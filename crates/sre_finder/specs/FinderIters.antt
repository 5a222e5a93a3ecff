-- What an iteration with a finder shows.
use Rattle.sre_finder.specs.Terms.{Ghosts}
use Rattle.sre_engine.specs.declared.engine.search_iter.SearchIter.{SearchIter}
use Rattle.sre_finder.specs.declared.finder_iter.FinderIter.{FinderIter}

-- its walk, which asks the finder
abbrev pub walk_of : {S A : Type 0} {text : Ghosts S} → FinderIter S A text → SearchIter S A text
walk_of it = it.walk
