use Rattle.sre_engine.specs.Requests.{code_of, asked_of}
use Rattle.sre_recipes.proofs.Passing.{found_forward}
use Rattle.sre_recipes.proofs.pattern.Pattern.search_from.Goals as goal

pub returns-clause-forward : goal.returns-clause-forward
returns-clause-forward g c =
    let asked = c.set_start.new.self in
    found_forward (asked_of asked) (code_of asked) c.search.result c.search.new.state c.search.ensures.answer
