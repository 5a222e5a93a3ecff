use Rattle.sre_finder.proofs.Terms.{∥∥₁_elim, string_of, rules}
use Rattle.sre_engine.specs.Iterators.{request_of}
use Rattle.sre_finder.proofs.Covered.{end_once}
use Rattle.sre_finder.proofs.finder_iter.FinderIterIterator.next.Goals as goal

pub next_by-requires : goal.next_by-requires
next_by-requires g c =
    let it = c.args.self.now in
    let string = string_of (request_of it.walk) in
    let stands = g.S.StrDrive.stands string in
    let once = end_once stands (g.met.S.StrDrive.stands_once string) it.finder.end in
    record { suits = (it.own, ∥∥₁_elim it.known once (λ end. end)) }

pub returns-clause-steps : goal.returns-clause-steps
returns-clause-steps g c = search rules
