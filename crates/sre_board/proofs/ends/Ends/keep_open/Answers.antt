use Rattle.sre_board.proofs.Terms.{◌≡◌, Some, slice_get, slice_index_or, [], ap, ◌∙◌, arith, rules, choice, Trying}
use Rattle.std.proofs.lemmas.Grind.{elements}
use Rattle.sre_board.proofs.OpenSpots.{gone_else, gone_tried, more_tried, kept_tried, gone_to_end, gone_to_region}
use Rattle.sre_board.proofs.OpenSpots.{passed_over}
use Rattle.sre_board.proofs.ends.Ends.keep_open.Goals.{in-Some-tried_of+in_ok-keep_spot, in_default-tried_of}
use Rattle.sre_board.proofs.ends.Ends.keep_open.Goals as goal

pub returns-in_err-keep_spot : goal.returns-in_err-keep_spot
returns-in_err-keep_spot g c =
    let k = c.args.failures.now in
    let ws = c.args.words.now in
    let cs = c.args.board.now.choices in
    let gone = c.choice.invariant.gone in
    let s = c.in-Some.saved in
    let fs = slice_index_or c.in-Some.chains.now s.frame [] in
    let w = rw c.in-Some.is at c.saved.ensures.waits in
    let m = w.1.0 in
    let pt = c.in-Some-tried_of.tried in
    let u = c.keep_spot.new.self in
    let e : slice_get cs c.choice.depth ≡ Some (Trying pt fs s.cursor m) =
    w.1.1 ∙ ap (λ x. Some x) (c.in-Some-tried_of.ensures fs s.cursor m) in
    record {
      more =
          more_tried k ws c.args.end c.choice.self cs c.choice.depth gone pt fs s.cursor m e c.args.self.now u
          c.choice.invariant.more (c.keep_spot.ensures.more m);
      kept =
          kept_tried k ws c.args.end c.choice.self cs c.choice.depth gone pt fs s.cursor m e c.args.self.now u
          c.choice.invariant.kept (c.keep_spot.ensures.kept m);
      held = search rules;
    }

pub returns-in-Inside-clause-held : goal.returns-in-Inside-clause-held
returns-in-Inside-clause-held g c =
    let cs = c.args.board.now.choices in
    let s = c.in-Some.saved in
    let fs = slice_index_or c.in-Some.chains.now s.frame [] in
    let w = rw c.in-Some.is at c.saved.ensures.waits in
    gone_to_region c.args.failures.now c.args.words.now c.args.end c.choice.self cs c.choice.depth
    c.choice.invariant.gone c.in-Inside.field-0 fs s.cursor w.1.0
    (w.1.1 ∙ ap (λ pt. Some (choice pt fs s.cursor w.1.0)) c.in-Inside.is)

pub choice-preserved : goal.choice-preserved
choice-preserved g c =
    let k = c.args.failures.now in
    let ws = c.args.words.now in
    let d = c.args.end in
    let cs = c.args.board.now.choices in
    let old = c.args.self.now in
    let t = c.choice.self in
    let gone = c.choice.invariant.gone in
    let s = c.in-Some.saved in
    let fs = slice_index_or c.in-Some.chains.now s.frame [] in
    let w = rw c.in-Some.is at c.saved.ensures.waits in
    let m = w.1.0 in
    elim c.match-tried_of.branch [
      | in-Some-tried_of+in_ok-keep_spot x ↦
          let pt = x.in-Some-tried_of.tried in
          let u = x.keep_spot.new.self in
          let e : slice_get cs c.choice.depth ≡ Some (Trying pt fs s.cursor m) =
          w.1.1 ∙ ap (λ y. Some y) (x.in-Some-tried_of.ensures fs s.cursor m) in
          record {
            gone = rw x.self-is (gone_tried k ws d t cs c.choice.depth gone pt fs s.cursor m e u
                (x.keep_spot.ensures.kept m) (x.in_ok-keep_spot.ensures.held m));
            more = rw x.self-is (more_tried k ws d t cs c.choice.depth gone pt fs s.cursor m e old u
                c.choice.invariant.more (x.keep_spot.ensures.more m));
            kept = rw x.self-is (kept_tried k ws d t cs c.choice.depth gone pt fs s.cursor m e old u
                c.choice.invariant.kept (x.keep_spot.ensures.kept m));
          }
      | in_default-tried_of x ↦
          record {
            gone = rw x.self-is (gone_else k ws d t cs c.choice.depth gone (choice s.point fs s.cursor m) w.1.1
                (passed_over s.point fs s.cursor m _ c.in_default-point.not-Inside x.in_default-tried_of.ensures));
            more = rw x.self-is c.choice.invariant.more;
            kept = rw x.self-is c.choice.invariant.kept;
          }
    ]

pub returns-clause-held : goal.returns-clause-held
returns-clause-held g c =
    gone_to_end c.args.failures.now c.args.words.now c.args.end c.choice.self c.args.board.now.choices c.choice.depth
    c.choice.invariant.gone c.in_default.ensures.waits

pub choice-smaller : goal.choice-smaller
choice-smaller g c = grind (arith, elements)
