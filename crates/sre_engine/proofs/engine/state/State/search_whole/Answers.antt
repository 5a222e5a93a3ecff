use Rattle.sre_engine.proofs.Terms.{◌≡◌, ◌≤◌, ◌+◌, ◌-◌, ◌||◌, ℕ, true, false, not, nat_eq, Some, None, length, refl}
use Rattle.sre_engine.proofs.Terms.{sym, ap, ◌∙◌, subst, arith, rules, StringCursor, no_marks, at_start, code_of}
use Rattle.sre_engine.proofs.Terms.{asked_of, stands_in, Stands, BoardValue}
use Rattle.sre_engine.proofs.LeadingStarts.{NoneBefore, found_first, none_joined, none_here}
use Rattle.sre_engine.proofs.Looking.{answered_no}
use Rattle.sre_engine.proofs.Steps.{complete}
use Rattle.sre_engine.proofs.CountLaws.{ran_none, counts_ran, has_prefix}
use Rattle.sre_engine.proofs.PrefixWays.{none_in_window, none_unplaced, whole_at}
use Rattle.sre_engine.proofs.engine.state.State.search_whole.Goals as goal

pub returns-clause-answers : goal.returns-clause-answers
returns-clause-answers g c =
    let asked = c.args.req.now in
    let a = asked_of asked in
    let is = c.requires.is in
    let some = c.args.prefix.now.confirmed.some in
    let inv = c.place.invariant in
    let here = c.find.ensures.here in
    answered_no asked _ 0
    (λ t whole. none_in_window a t (none_unplaced a _ _ _ _ is some t whole _ _ (inv.none t whole)
    (c.find.ensures.none c.place-test.false)))
    (ap (λ b. b.marks) inv.fresh) (ran_none a (code_of asked) _ 0 inv.idle) (omega arith)
    (record {
      few = omega (arith, here.cost, here.front.within, here.front.from);
      none = λ plain. absurd (has_prefix (code_of asked) _ _ _ is plain);
    })

pub returns-then-may_end-clause-answers : goal.returns-then-may_end-clause-answers
returns-then-may_end-clause-answers g c =
    let asked = c.args.req.now in
    let a = asked_of asked in
    let vs = c.args.prefix.now.words.now in
    let is = c.requires.is in
    let some = c.args.prefix.now.confirmed.some in
    let inv = c.place.invariant in
    let here = c.find.ensures.here in
    let there = c.find.ensures.found c.place-test.true in
    let at : c.find.new.spot.cursor.position - c.find.new.spot.matched ≡ c.prefix_start.result =
    omega (arith, there.0, c.prefix_start.ensures) in
    let stands : Stands a.text vs a.end c.prefix_start.result =
    subst (λ p. Stands a.text vs a.end p) at (complete a.text vs a.start a.end _ _ _ here there.0) in
    let from : a.start ≤ c.prefix_start.result = omega (arith, at, here.front.from, there.0) in
    let ends : c.find.new.spot.cursor.position ≡ c.prefix_start.result + length vs =
    omega (arith, c.prefix_start.ensures, there.0, here.front.from) in
    let taken : (not a.match_all || nat_eq c.find.new.spot.cursor.position a.end) ≡ true =
    sym c.may_end.ensures ∙ c.if-may_end.true in
    let marks : c.place.self-inside.runner.board.marks ≡ no_marks = ap (λ (b : BoardValue). b.marks) inv.fresh in
    let ran = ran_none a (code_of asked) _ 0 inv.idle in
    record {
      answer = λ t whole.
          let before : NoneBefore a t c.prefix_start.result =
          subst (NoneBefore a t) at (none_unplaced a _ _ _ _ is some t whole _ _ (inv.none t whole) there.1) in
          let match = whole_at a _ _ _ _ is some _ stands c.requires.all t whole _ ends from in
          let found_ : at_start a t c.prefix_start.result
          ≡ Some (record {
            start = c.prefix_start.result;
            end = c.find.new.spot.cursor.position;
            marks = c.place.self-inside.runner.board.marks;
          }) =
          match ∙ rw (taken, marks) refl in
          sym (found_first a t _ _ before found_ from (omega (arith, stands.within)) refl);
      cursor = λ _. c.find.ensures.stands;
      span = λ _. (
        from,
        record { starts = refl; forward = omega (arith, ends); inside = omega (arith, ends, stands.within) },
      );
      no = λ never. absurd (cc never);
      err = tt;
      counts = counts_ran a (code_of asked) _ 0 _ _ ran (omega arith)
          (omega (arith, here.cost, here.front.within, here.front.from))
          (λ plain. absurd (has_prefix (code_of asked) _ _ _ is plain));
      up_to_match = λ _. counts_ran a (code_of asked) _ 0 _ _ ran (omega arith)
          (omega (arith, here.cost, here.front.within, here.front.from))
          (λ plain. absurd (has_prefix (code_of asked) _ _ _ is plain));
    }

pub place-preserved : goal.place-preserved
place-preserved g c =
    let asked = c.args.req.now in
    let a = asked_of asked in
    let vs = c.args.prefix.now.words.now in
    let is = c.requires.is in
    let some = c.args.prefix.now.confirmed.some in
    let inv = c.place.invariant in
    let here = c.find.ensures.here in
    let there = c.find.ensures.found c.place-test.true in
    let on = c.go_on-spot.ensures in
    let s : ℕ = c.find.new.spot.cursor.position - c.find.new.spot.matched in
    record {
      stands =
          subst (λ (x : StringCursor). stands_in asked x x.position) (sym on.at) c.find.ensures.stands;
      here = on.here;
      fresh = search rules;
      idle = inv.idle;
      calm = inv.calm;
      none = λ t whole.
          let stands = complete _ _ _ _ _ _ _ here there.0 in
          let before = none_unplaced a _ _ _ _ is some t whole _ _ (inv.none t whole) there.1 in
          let ends : c.find.new.spot.cursor.position ≡ s + length vs = omega (arith, there.0, here.front.from) in
          let match = whole_at a _ _ _ _ is some _ stands c.requires.all t whole _ ends
          (omega (arith, here.front.from)) in
          let left : (not a.match_all || nat_eq c.find.new.spot.cursor.position a.end) ≡ false =
          sym c.may_end.ensures ∙ c.if-may_end.false in
          let none : at_start a t s ≡ None = match ∙ rw left refl in
          none_unplaced a _ _ _ _ is some t whole _ _ (none_joined a t _ _ _ before (none_here a t _ none)) on.passed;
    }
