use Rattle.sre_code.proofs.Terms.{length}
use Rattle.sre_code.specs.Codes.{words_of, items_of}
use Rattle.sre_code.proofs.CodeBounds.{enough_some, enough_none, behind_told}
use Rattle.sre_code.proofs.code.Code.step_bound.Goals as goal

pub returns-clause-enough : goal.returns-clause-enough
unfolding items_of
returns-clause-enough c =
    let ws = words_of c.args.self.now in
    let n = c.args.characters in
    let r = c.step_bound.result in
    enough_some (length (items_of c.args.self.now)) n ws r
    (behind_told ws c.items.result.now n c.longest_lookbehind.result r c.items.ensures.same c.step_bound.ensures
    c.longest_lookbehind.ensures)

pub returns-clause-none : goal.returns-clause-none
unfolding items_of
returns-clause-none c =
    let ws = words_of c.args.self.now in
    let n = c.args.characters in
    let r = c.step_bound.result in
    enough_none (length (items_of c.args.self.now)) n ws r
    (behind_told ws c.items.result.now n c.longest_lookbehind.result r c.items.ensures.same c.step_bound.ensures
    c.longest_lookbehind.ensures)
