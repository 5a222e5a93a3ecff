use Rattle.sre_automata.proofs.Terms.{subst, refl, Accepts, Nfa, IsLeast}
use Rattle.sre_automata.proofs.Leftmost.{are_bytes, none_left, none_below}
use Rattle.regex_dfa.specs.declared.reverse.Start.TheVariants as start
use Rattle.sre_automata.proofs.Automata.next_from.Goals as goal

pub returns-in-NoMatch-clause-told : goal.returns-in-NoMatch-clause-told
returns-in-NoMatch-clause-told c = λ re paths.
    none_left c.args.self.now re c.args.hay.now paths (are_bytes c.args.hay.now c.type_inv.hay) c.args.start
    c.requires c.in-NoMatch.ensures.end

pub returns-in-At-least_start-clause-told : goal.returns-in-At-least_start-clause-told
returns-in-At-least_start-clause-told c = λ re paths.
    let hay = c.args.hay.now in
    let end = c.in-At.end in
    let from = c.in-At-least_start.from in
    let least =
    subst (λ (n : Nfa). IsLeast (Accepts n hay end end n.start) c.args.start end (start.At from)) c.in-At.ensures.same
    c.in-At-least_start.ensures.least in
    none_below c.args.self.now re hay paths (are_bytes hay c.type_inv.hay) c.args.start c.requires end from
    (c.in-At.ensures.end.1 refl) c.in-At.ensures.end.3 least
