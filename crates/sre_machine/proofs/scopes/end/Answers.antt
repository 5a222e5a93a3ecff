use Rattle.sre_machine.proofs.Terms.{[], ◌∷◌, true, false, sym, ap, subst, run_of, Closes, region_closes}
use Rattle.sre_machine.proofs.scopes.end.Goals as goal

pub returns : goal.returns
returns g c =
    let r = run_of c.args.req.now in
    let inside = ap (λ cs. elim cs [ [] ↦ false | (d ∷ rest) ↦ true ]) c.in_ok-region.ensures.region in (
      inside,
      subst (λ n. Closes r c.args.cursor c.args.board.now n c.cut.new.self) (sym c.after_outcome.ensures)
          (region_closes r c.args.cursor c.in_ok-region.entered c.args.board.now c.cut.new.self c.in_ok-region.region
          c.in_ok-region.ensures),
    )
