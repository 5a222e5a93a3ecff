use Rattle.sre_recipes.proofs.Terms.{refl, sym, ◌∙◌, arith}
use Rattle.std.proofs.Math.Bool.{not-not}
use Rattle.sre_recipes.proofs.Following.{follow_on, follow_end}
use Rattle.sre_recipes.proofs.Steps.{kept_first, kept_on, next_start, is_found, is_shown}
use Rattle.sre_recipes.proofs.Telling.{all_taken, tells}
use Rattle.sre_recipes.proofs.collects.collect.Goals as goal

pub add-requires : goal.add-requires
add-requires g c =
    let told = rw c.in-Some.is at c.in_ok-span.ensures.gives in
    record {
      waits = rw c.string-text.ensures
          (c.walk.invariant.waits _ (omega (arith, told.0.request.from, told.1.begins)));
      found = rw (c.string-text.ensures ∙ sym c.walk.invariant.kept.string, c.state.ensures)
          (is_found _ _ _ _ _ told.1);
    }

pub walk-preserved : goal.walk-preserved
walk-preserved g c =
    let told = rw c.in-Some.is at c.in_ok-span.ensures.gives in
    let waits = rw c.string-text.ensures at c.in_ok-add.ensures.waits in
    let gathers = rw (c.string-text.ensures, c.state.ensures) at c.in_ok-add.ensures.gathers in
    record {
      kept = kept_on _ _ _ _ _ told.0 c.walk.invariant.kept;
      waits = λ p behind. waits p (omega (arith, behind, next_start told.0, told.1.ends));
      going = told.2.going;
      begun = told.0.after;
      gathered = λ end rest last then.
          let all = follow_on _ _ _ _ end told.0 told.2 rest in
          c.walk.invariant.gathered end all.0 last
          (rw all.1 (gathers _ (is_shown _ _ _ _ _ told.1) _ rest.taken last then));
    }

pub finish-requires : goal.finish-requires
finish-requires g c =
    rw (c.string-text.ensures, c.end.ensures.value) (record {
      waits = c.walk.invariant.waits _ c.walk.invariant.kept.inside;
      inside = c.args.req.now.in_window.0.1;
    })

pub returns : goal.returns
returns g c =
    let stops = rw c.in_default.is at c.in_ok-span.ensures.gives in
    let ends = rw (c.string-text.ensures, c.end.ensures.value) at c.in_ok-finish.ensures in
    let all = follow_end _ _ _ stops c.walk.invariant.begun in
    let gathered = c.walk.invariant.gathered _ all.0 c.finish.new.self (rw all.1 ends.gathers) in
    let tells = tells gathered.0 in
    record {
      ok = λ t tree complete. rw (all_taken gathered.0 t tree complete) at gathered.1;
      waits = ends.waits;
      used = tells.used;
      steps = tells.left;
      lasts = tells.lasts;
      unlimited = tells.unlimited;
      exceeded = sym (not-not _);
      followed = gathered.0;
      refused = λ _. tt;
    }

pub walk-init : goal.walk-init
walk-init g c =
    let same = c.new-walk.ensures.req ∙ c.copied.ensures in
    record {
      kept = kept_first c.new-walk.result _ same;
      waits = rw same c.requires;
      going = refl;
      begun = c.new-walk.ensures.open;
      gathered = rw same (λ after rest last then. (rest, then));
    }
