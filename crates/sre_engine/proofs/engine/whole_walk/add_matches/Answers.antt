use Rattle.sre_engine.proofs.Terms.{[], ◌∷◌, cond, ◌≡◌, ◌+◌, ◌-◌, ◌∙◌, arith, ap, subst, sym, vec_len, Whole, walk}
use Rattle.sre_engine.proofs.Terms.{words_of, start_of, end_of, code_of, asked_of, match_of, match_shown, StepsCount}
use Rattle.sre_engine.proofs.CountLaws.{counts_more, inside_on, match_on, asked_on, list_on}
use Rattle.sre_engine.proofs.engine.whole_walk.add_matches.Goals as goal
use Rattle.sre_engine.proofs.engine.whole_walk.add_matches.Goals.{After-counted_step}
use Rattle.sre_engine.proofs.engine.whole_walk.add_matches.Given.{Over}

-- the counts up to a step without a match
inside : (g : Over) (c : After-counted_step g) → StepsCount (asked_of c.args.req) (code_of c.args.req)
    (end_of c.args.req + 1) (end_of c.args.req) (vec_len c.step.all - vec_len c.args.all.now)
    c.counted_step.new.tally.started c.counted_step.new.tally.compared
inside g c =
    let inv = c.step.invariant in
    let step = c.counted_step.ensures in
    inside_on c.args.req c.step.req _ _ _ _ _ c.counted_step.new.state inv.code inv.asked inv.from inv.inside
    inv.counted step.started step.compared step.stepped.counts

pub returns-in_err-counted_step-clause-counts : goal.returns-in_err-counted_step-clause-counts
returns-in_err-counted_step-clause-counts g c =
    counts_more _ _ _ _ _ _ _ _ (omega (arith, c.step.invariant.few))
    (inside g (goal.at.returns-in_err-counted_step-clause-counts g c).After-counted_step)

pub returns-in_err-found-clause-counts : goal.returns-in_err-found-clause-counts
returns-in_err-found-clause-counts g c =
    counts_more _ _ _ _ _ _ _ _ (omega (arith, c.step.invariant.few))
    (inside g (goal.at.returns-in_err-found-clause-counts g c).After-counted_step)

pub returns-in_err-push-clause-counts : goal.returns-in_err-push-clause-counts
returns-in_err-push-clause-counts g c =
    counts_more _ _ _ _ _ _ _ _ (omega (arith, c.step.invariant.few))
    (inside g (goal.at.returns-in_err-push-clause-counts g c).After-counted_step)

pub returns-clause-counts : goal.returns-clause-counts
returns-clause-counts g c =
    counts_more _ _ _ _ _ _ _ _ (omega (arith, c.step.invariant.few))
    (inside g (goal.at.returns-clause-counts g c).After-counted_step)

pub returns-clause-by_matches : goal.returns-clause-by_matches
returns-clause-by_matches g c = inside g (goal.at.returns-clause-by_matches g c).After-counted_step

pub step-preserved : goal.step-preserved
step-preserved g c =
    let inv = c.step.invariant in
    let step = c.in_ok-counted_step.ensures in
    let goes = step.stepped.yes c.if-branch.true in
    let at : start_of c.counted_step.new.req ≡ c.counted_step.new.state.cursor.position =
    ap (λ a. a.start) goes.asked in
    let long : vec_len c.push.new.list ≡ vec_len c.step.all + 1 = c.in_ok-push.ensures.len in
    let same : vec_len c.push.new.list - vec_len c.args.all.now ≡ vec_len c.step.all - vec_len c.args.all.now + 1 =
    omega (arith, long, inv.longer) in
    let counted = match_on c.args.req c.step.req _ _ _ _ _ c.counted_step.new.state inv.code inv.asked inv.from
    inv.inside inv.counted step.started step.compared c.counted_step.new.req goes
    (step.stepped.up_to_match c.if-branch.true) in
    record {
      here = step.here;
      code = goes.pattern_codes ∙ inv.code;
      string = goes.string ∙ inv.string;
      suits = step.suits;
      sets = c.note_step.ensures;
      left = λ t whole.
          let own : Whole (words_of (code_of c.step.req)) t =
          subst (λ k. Whole (words_of k) t) (sym inv.code) whole in
          list_on match_of _ _ _ _ _ _ _ c.in_ok-push.ensures.items c.in_ok-found.ensures
          (step.stepped.ok t own
          ∙ ap (λ b. cond b (match_shown c.counted_step.new.state ∷ walk (asked_of c.counted_step.new.req) t) [])
          c.if-branch.true) (inv.left t whole);
      asked = asked_on c.args.req c.step.req _ _ _ _ _ c.counted_step.new.state inv.code inv.asked inv.from inv.inside
          inv.counted step.started step.compared c.counted_step.new.req goes;
      from = omega (arith, inv.from, at, goes.from, goes.span.forward);
      inside = omega (arith, at, goes.span.inside, ap (λ a. a.end) inv.asked);
      longer = omega (arith, inv.longer, long);
      few = omega (arith, inv.few, same, step.stepped.falls c.if-branch.true);
      counted = subst (λ n. StepsCount (asked_of c.args.req) (code_of c.args.req) (start_of c.counted_step.new.req)
          (start_of c.counted_step.new.req) n c.counted_step.new.tally.started c.counted_step.new.tally.compared)
          (sym same) counted;
    }
