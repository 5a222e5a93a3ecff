use Rattle.sre_finder.proofs.Terms.{◌≡◌, ◌≤◌, false, ap, sym, subst, ◌∙◌, arith, rules, meaning, Tree, Whole, words_of}
use Rattle.sre_finder.proofs.Terms.{items_of, items_whole, string_of, start_of, code_of, asked_of, IsBetween, SeenAs}
use Rattle.sre_finder.proofs.Terms.{Exactly, whole_of, FindsFirst}
use Rattle.sre_model.proofs.TreeOf.{tree_of}
use Rattle.sre_finder.proofs.Spans.{first_reached, span_reached, span_between, nothing_found, exact_same}
use Rattle.sre_finder.proofs.span_finder.SpanFinder.known.Goals.{in-Nothing, in-Between, in-Unknown}
use Rattle.sre_finder.proofs.span_finder.SpanFinder.known.Goals as goal

pub cursor_up_to-start-requires-clause-ordered : goal.cursor_up_to-start-requires-clause-ordered
cursor_up_to-start-requires-clause-ordered g c =
    let asked = c.args.req.now in
    let here = (g.met.S.StrDrive.stands_at (string_of asked) c.args.from (start_of asked) c.requires.stands).0 in
    omega (arith, here, asked.in_window.0.0, c.end_in-end.ensures.end)

pub cursor_up_to-start-requires-clause-behind : goal.cursor_up_to-start-requires-clause-behind
cursor_up_to-start-requires-clause-behind g c =
    omega (arith, (c.in-Between.ensures.finds).after, c.place_of-place.ensures)

pub cursor_up_to-start-requires-clause-within : goal.cursor_up_to-start-requires-clause-within
cursor_up_to-start-requires-clause-within g c =
    let is = c.in-Between.ensures.finds in
    omega (arith, is.forward, is.inside, c.in-Some.ensures.whole)

pub cursor_up_to-requires-clause-behind : goal.cursor_up_to-requires-clause-behind
cursor_up_to-requires-clause-behind g c =
    let asked = c.args.req.now in
    let a = asked_of asked in
    let text = c.string-text.result in
    let hay = c.in-Some.hay.now in
    let place = g.S.Haystack.place text in
    let encoding = c.self.inside.spans.encoding in
    let pattern = meaning c.in-Some-exact.exact in
    let own : Exactly encoding c.self.inside.code pattern = rw c.in-Some-exact.is at c.self.invariant.1 in
    let seen = subst (λ n. SeenAs encoding a.text place n hay) c.end_in-end.ensures.end
    (subst (λ l. SeenAs encoding l place c.end_in-end.result.position hay)
    (ap g.S.StrDrive.text c.string-text.ensures) c.in-Some.ensures) in
    let here = (g.met.S.StrDrive.stands_at (string_of asked) c.args.from (start_of asked) c.requires.stands).0 in
    let code : c.self.inside.code ≡ code_of asked = search rules in
    let all : a.match_all ≡ false = search rules in
    let start : c.place_of-place.result ≡ place a.start = c.place_of-place.ensures ∙ ap place here in
    let is = subst (λ n. IsBetween hay pattern n c.in-Between.first c.in-Between.last) start
    (c.in-Between.ensures.finds) in
    let tree = tree_of (items_of (code_of asked)) in
    let x = exact_same encoding c.self.inside.code (code_of asked) pattern own code tree
    (whole_of asked.pattern_codes) in
    let there = first_reached encoding a pattern place hay own.reads all asked.in_window.0.0 seen tree x
    c.in-Between.first c.in-Between.last is c.args.from.position c.cursor_up_to-start.result.position
    c.end_in-end.result.position here c.end_in-end.ensures.end c.cursor_up_to-start.ensures.there in
    omega (arith, there, is.forward)

pub cursor_up_to-requires-clause-within : goal.cursor_up_to-requires-clause-within
cursor_up_to-requires-clause-within g c =
    let is = c.in-Between.ensures.finds in
    omega (arith, is.inside, c.in-Some.ensures.whole)

pub returns-clause-knows : goal.returns-clause-knows
returns-clause-knows g c =
    let asked = c.args.req.now in
    let a = asked_of asked in
    let text = c.string-text.result in
    let hay = c.in-Some.hay.now in
    let place = g.S.Haystack.place text in
    let encoding = c.self.inside.spans.encoding in
    let pattern = meaning c.in-Some-exact.exact in
    let own : Exactly encoding c.self.inside.code pattern = rw c.in-Some-exact.is at c.self.invariant.1 in
    let seen = subst (λ n. SeenAs encoding a.text place n hay) c.end_in-end.ensures.end
    (subst (λ l. SeenAs encoding l place c.end_in-end.result.position hay)
    (ap g.S.StrDrive.text c.string-text.ensures) c.in-Some.ensures) in
    let here = (g.met.S.StrDrive.stands_at (string_of asked) c.args.from (start_of asked) c.requires.stands).0 in
    let code : c.self.inside.code ≡ code_of asked = search rules in
    let all : a.match_all ≡ false = search rules in
    let start : c.place_of-place.result ≡ place a.start = c.place_of-place.ensures ∙ ap place here in
    let told = subst (λ n. FindsFirst hay pattern n c.first_match.result) start
    (c.first_match.ensures.finds) in
    let window : a.start ≤ a.end = asked.in_window.0.0 in
    let tries = λ (t : Tree) (whole : Whole (words_of (code_of asked)) t).
    exact_same encoding c.self.inside.code (code_of asked) pattern own code t
    (items_whole asked.pattern_codes t whole) in
    elim c.match-first_match.branch [
      | in-Nothing w ↦
          rw w.result-is
          (record {
            none = λ t whole.
                nothing_found encoding a pattern place hay own.reads all window seen t (tries t whole)
                (rw w.in-Nothing.is at told);
          })
      | in-Between w ↦
          let is : IsBetween hay pattern (place a.start) w.in-Between.first w.in-Between.last =
          rw w.in-Between.is at told in
          let tree = tree_of (items_of (code_of asked)) in
          let x = exact_same encoding c.self.inside.code (code_of asked) pattern own code tree
          (whole_of asked.pattern_codes) in
          let first = w.cursor_up_to-start.result in
          let last = w.cursor_up_to.result in
          let starts = w.cursor_up_to-start.ensures in
          let stops = w.cursor_up_to.ensures in
          let there =
          span_reached encoding a pattern place hay own.reads all window seen tree x w.in-Between.first
          w.in-Between.last is c.args.from.position first.position last.position c.end_in-end.result.position here
          c.end_in-end.ensures.end starts.inside starts.there stops.inside stops.there in
          rw w.result-is
          (record {
            begins = subst (λ x. g.S.StrDrive.stands x first first.position) c.string-text.ensures starts.stands;
            ends = subst (λ x. g.S.StrDrive.stands x last last.position) c.string-text.ensures stops.stands;
            from = there.from;
            forward = stops.after;
            inside = there.inside;
            finds = record {
              some = λ t whole.
                  span_between encoding a pattern place hay own.reads all window seen t (tries t whole)
                  is.match is.found first.position last.position there.starts there.inside
                  (there.begins ∙ sym is.begins) (there.ends ∙ sym is.ends);
            };
          })
      | in-Unknown w ↦ rw w.result-is tt
    ]
