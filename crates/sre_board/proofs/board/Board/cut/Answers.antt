use Rattle.sre_board.proofs.Terms.{refl, sym, ◌∙◌}
use Rattle.sre_board.proofs.InnermostRegion.{no_region, never_none, cut_fits, cut_invariant, cut_held}
use Rattle.sre_board.proofs.board.Board.cut.Goals as goal

pub returns-then-self-eq0 : goal.returns-then-self-eq0
returns-then-self-eq0 g c = (
  no_region _ c.self.inside.trail c.self.inside.chains c.self.inside.frame c.self.inside.choices.items c.self.view_is
      (sym c.self.invariant.2 ∙ c.if-self-eq0.true),
  refl,
)

pub invariant_of-self : goal.invariant_of-self
invariant_of-self g c =
    absurd (never_none c.self.inside.choices.items c.self.inside.regions c.self.invariant.2 c.if-self-eq0.false
    c.in_err-region.ensures)

pub returns-in_err-region : goal.returns-in_err-region
returns-in_err-region g c =
    absurd (never_none c.self.inside.choices.items c.self.inside.regions c.self.invariant.2 c.if-self-eq0.false
    c.in_err-region.ensures)

pub cut-requires : goal.cut-requires
cut-requires g c =
    (cut_fits c.self.inside.choices.items c.innermost.new.choices.items c.in_ok-region.saved _ _
    c.in_ok-region.ensures.1 c.self.invariant.1).0

pub invariant_of-self-2 : goal.invariant_of-self-2
invariant_of-self-2 g c =
    cut_invariant c.self.inside.choices.items c.innermost.new.choices.items c.in_ok-region.saved c.in_ok-region.region
    c.self.inside.chains c.cut.new.self _ c.self.inside.regions c.in_ok-region.ensures.0 c.in_ok-region.ensures.1
    c.self.invariant.1 c.cut.ensures c.self.invariant.2

pub returns : goal.returns
returns g c =
    cut_held _ c.self.inside.trail c.self.inside.chains c.cut.new.self c.self.inside.frame c.self.inside.choices.items
    c.innermost.new.choices.items c.in_ok-region.saved c.in_ok-region.region c.self.view_is c.self.invariant.1
    c.in_ok-region.ensures.0 c.in_ok-region.ensures.1 c.cut.ensures
