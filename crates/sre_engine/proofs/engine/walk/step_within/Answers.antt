use Rattle.sre_engine.proofs.Terms.{◌≡◌, refl, ap, ◌∙◌, Asked, words_of, hints_of, code_of, asked_of, GoesOn, code_tree}
use Rattle.sre_engine.proofs.CountLaws.{stands_next, steps_on, falls_on}
use Rattle.sre_engine.proofs.engine.walk.step_within.Goals as goal
use Rattle.sre_engine.proofs.engine.walk.step_within.Goals.{After-set_start}
use Rattle.sre_engine.proofs.engine.walk.step_within.Given.{Over}

goes_on : (g : Over) (c : After-set_start g)
    → GoesOn {S = g.row.S.Denot} {text = g.S.StrDrive} c.args.req.now c.search_admitted.new.state c.set_start.new.self
goes_on g c =
    let asked = c.args.req.now in
    let yes = c.if-not-branch.false in
    let span = c.in_ok-search_admitted.ensures.answers.span yes in
    let first = c.set_must_advance.ensures in
    let last = c.set_start.ensures in
    let end : c.position-end.result ≡ c.search_admitted.new.state.cursor.position =
    c.position-end.ensures ∙ ap (λ x. x.position) c.cursor.ensures in
    record {
      from = span.0;
      span = span.1;
      stands = c.in_ok-search_admitted.ensures.answers.cursor yes;
      asked =
          last.asked
          ∙ ap (λ (a : Asked). record a { start = c.position-end.result }) first.asked
          ∙ rw (end, c.start.ensures) refl;
      string = last.string ∙ first.string;
      pattern_codes = last.pattern_codes ∙ first.pattern_codes;
    }

pub returns-clause-stepped : goal.returns-clause-stepped
returns-clause-stepped g c =
    let asked = c.args.req.now in
    let tree = code_tree (words_of (code_of asked)) (hints_of (code_of asked)) (code_of asked).checked in
    let told = c.in_ok-search_admitted.ensures.answers in
    let b = c.in_ok-search_admitted.field-0 in
    let s = c.search_admitted.new.state in
    let next = (goes_on g c).asked in
    let yes = c.if-not-branch.false in
    record {
      ok = λ t whole. steps_on (asked_of asked) t b s (told.answer t whole) yes _ next;
      yes = λ _. goes_on g c;
      falls = λ _. falls_on (asked_of asked) tree.0 b s (told.answer tree.0 tree.1) yes _ next;
      no = λ never. absurd (cc never);
      err = tt;
      counts = told.counts;
      up_to_match = λ _. told.up_to_match yes;
    }

pub returns-clause-here : goal.returns-clause-here
returns-clause-here g c =
    rw c.cursor.ensures (stands_next c.args.req.now c.search_admitted.new.state c.set_start.new.self (goes_on g c))
