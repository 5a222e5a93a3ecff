use Rattle.sre_machine.proofs.Terms.{◌≡◌, ◌+◌, Some, ap, sym, ◌∙◌, subst, arith, Word, unlimited, HasRun, next_frame}
use Rattle.sre_machine.proofs.Terms.{Strides, MayRepeat, Frame, Alternatives, run_of, branch_run, body_reached}
use Rattle.sre_turns.proofs.semantics.Strides.{strides_none, strides_on, strides_ends, repeats_on}
use Rattle.sre_machine.proofs.strides.stride.Goals as goal

pub body-init : goal.body-init
body-init g c = record {
  on = strides_none (run_of c.args.req.now) c.args.place c.args.start c.args.first c.requires.ends.at.stands;
  more = c.requires.more;
  told = c.known_before-told.ensures;
  behind = omega arith;
  inside = omega arith;
}

pub known_before-told-requires : goal.known_before-told-requires
known_before-told-requires g c =
    let r = run_of c.args.req.now in
    subst (λ q. HasRun r (Alternatives q) c.args.start) (sym c.requires.alternatives)
    (branch_run r (c.args.first.repeat + 4) c.args.start c.requires.branch
    (body_reached r c.args.place c.args.start c.args.first c.requires.opcode c.requires.more c.requires.ends).0)

pub next_body-requires-clause-ends : goal.next_body-requires-clause-ends
next_body-requires-clause-ends g c =
    strides_ends (run_of c.args.req.now) c.args.place c.args.start c.body.cursor c.args.first c.body.frame
    c.body.invariant.on c.requires.ends

pub body-preserved : goal.body-preserved
body-preserved g c =
    let r = run_of c.args.req.now in
    let here = c.body.cursor in
    let same = c.body.invariant.on.same in
    let high : Word r.words (c.body.frame.repeat + 3) unlimited =
    subst (λ i. Word r.words (i + 3) unlimited) (sym same) c.requires.unlimited in
    let next : c.next_frame-frame.result ≡ next_frame c.body.frame (Some here.position) =
    c.next_frame-frame.ensures ∙ ap (λ p. next_frame c.body.frame (Some p)) c.position-in-body-2.ensures in
    record {
      on = subst (λ (f : Frame). Strides r c.args.place c.args.first c.args.start f c.in-Some.after) (sym next)
          (strides_on r c.args.place c.args.start here c.in-Some.after c.args.first c.body.frame
          (next_frame c.body.frame (Some here.position)) c.body.invariant.on c.in-Some.ensures.strides);
      more = subst (λ (f : Frame). MayRepeat r.words f c.in-Some.after.position) (sym next)
          (repeats_on r.words c.body.frame here.position c.in-Some.after.position high
          c.body.invariant.more c.in-Some.ensures.moves);
      told = c.body.invariant.told;
      behind = omega (arith, c.body.invariant.behind, c.in-Some.ensures.moves);
      inside = c.body.invariant.inside;
    }
