use Rattle.sre_finder.proofs.Terms.{◌∙◌, sym, subst, ap₂, arith, string_of, start_of, asked_of, EndStands, rules}
use Rattle.sre_finder.proofs.span_finder.SpanFinder.walk.Goals as goal

pub invariant_of-result : goal.invariant_of-result
invariant_of-result g c =
    let asked = c.args.req in
    let cursor = c.create_cursor-cursor.result in
    let stands = g.S.StrDrive.stands (string_of asked) in
    let here = rw (c.string.ensures, c.start.ensures.value) at c.create_cursor-cursor.ensures in
    let at = (g.met.S.StrDrive.stands_at (string_of asked) cursor (start_of asked) here).0 in
    record {
      own = c.begin_walk.ensures.code ∙ c.requires;
      known = ∣ subst (EndStands stands) (sym c.begin_walk.ensures.end) tt ∣₁;
      here = ∣ here ∣₁;
      last = ∣ subst (stands cursor) (sym at) here ∣₁;
      first_sets = c.new-sets.ensures.known _;
      inside = omega (arith, at, c.start.ensures.value, c.start.ensures.in_window);
      shown = λ yes. absurd (cc);
      ends = λ yes. absurd (cc);
    }

-- the first match is asked for from the range's start on
pub returns-clause-last : goal.returns-clause-last
returns-clause-last g c =
    let asked = c.args.req in
    let cursor = c.create_cursor-cursor.result in
    let here = rw (c.string.ensures, c.start.ensures.value) at c.create_cursor-cursor.ensures in
    let at = (g.met.S.StrDrive.stands_at (string_of asked) cursor (start_of asked) here).0 in
    ap₂ (λ p b. record (asked_of asked) { start = p; must_advance = b }) at c.must_advance-advances.ensures

pub returns-clause-open : goal.returns-clause-open
returns-clause-open g c = search rules
