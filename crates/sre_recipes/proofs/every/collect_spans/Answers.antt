use Rattle.sre_recipes.proofs.Terms.{sym, ap, ◌∙◌, arith, string_of, end_of}
use Rattle.sre_finder.specs.SpanIters.{request_of}
use Rattle.sre_recipes.proofs.Passing.{stays_on}
use Rattle.sre_recipes.proofs.every.collect_spans.Goals as goal

pub next_found-requires : goal.next_found-requires
next_found-requires g c = rw c.walk.invariant.stays.string c.walk.invariant.at

pub add-requires : goal.add-requires
add-requires g c =
    let finds = rw (c.in-Some.is, c.requires.captures) at c.in_ok-span.ensures.gives in
    let same = c.string-text.ensures ∙ ap string_of c.req.ensures in
    record {
      waits = rw same (c.walk.invariant.waits _ finds.from);
      found = rw (same ∙ sym c.walk.invariant.stays.string, c.state.ensures) finds.found;
    }

pub walk-preserved : goal.walk-preserved
walk-preserved g c =
    let finds = rw (c.in-Some.is, c.requires.captures) at c.in_ok-span.ensures.gives in
    let stays = c.walk.invariant.stays in
    let same = c.string-text.ensures ∙ ap string_of c.req.ensures in
    let waits = rw same at c.in_ok-add.ensures.waits in
    let gathers = rw (same, c.state.ensures) at c.in_ok-add.ensures.gathers in
    record {
      stays = stays_on _ _ _ _ _ _ _ _ finds stays;
      at = record { there = rw (← stays.string) finds.found.to; at = sym finds.starts };
      inside = omega (arith, finds.starts, finds.inside, stays.end);
      waits = λ p behind. waits p (omega (arith, behind, finds.starts));
      gathered = λ t tree end then.
          let first = finds.first t (rw stays.own tree) in
          c.walk.invariant.gathered t tree end (rw first.2 (gathers first.0 first.1 _ _ end then));
    }

pub finish-requires : goal.finish-requires
finish-requires g c =
    let asked = request_of c.args.walk.now in
    rw (c.string-text.ensures ∙ ap string_of c.req.ensures, c.end-stop.ensures.value ∙ ap end_of c.req-2.ensures)
    (record { waits = c.walk.invariant.waits _ c.walk.invariant.inside; inside = asked.in_window.0.1 })
