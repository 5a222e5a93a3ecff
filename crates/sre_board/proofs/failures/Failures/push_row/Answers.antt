use Rattle.sre_board.proofs.Terms.{◌≡◌, ◌∙◌, ◌++◌, ◌∷◌, [], ap, subst, cond, is_ok, Some, slice_get, Kept}
use Rattle.sre_board.proofs.Rows.{numbered_set, numbered_row}
use Rattle.sre_board.proofs.KeptStill.{pushed}
use Rattle.sre_board.proofs.failures.Failures.push_row.Goals as goal

pub invariant_of-self : goal.invariant_of-self
invariant_of-self g c = (
  c.self.invariant.0,
  numbered_set c.args.self.now c.self.inside.rows.items c.self.inside.shapes.items c.self.inside.bits.items
      c.self.inside.numbers.items c.set_number.new.numbers.items c.args.row.place c.self.view_is c.self.invariant.1
      c.requires.none c.set_number.ensures.others,
)

pub invariant_of-self-2 : goal.invariant_of-self-2
invariant_of-self-2 g c = (
  (pushed c.args.self.now c.self.inside.rows.items c.self.inside.shapes.items c.self.inside.bits.items c.args.row _ _ _
      c.self.view_is c.self.invariant.0 c.requires.room c.append.ensures.rows c.append.ensures.bits c.requires.base
      c.requires.end c.requires.none).laid,
  numbered_row c.args.self.now c.self.inside.rows.items c.append.new.rows.items c.self.inside.shapes.items
      c.self.inside.bits.items c.self.inside.numbers.items c.set_number.new.numbers.items c.args.row _ c.self.view_is
      c.self.invariant.1 c.requires.none c.set_number.ensures.others
      (subst (λ n. slice_get c.set_number.new.numbers.items c.args.row.place ≡ Some n)
      (c.len-number.ensures ∙ c.self.inside.rows.ok.0) c.in_ok-set_number.ensures.set)
      c.append.ensures.rows,
)

pub returns : goal.returns
returns g c =
    let p = pushed c.args.self.now c.self.inside.rows.items c.self.inside.shapes.items c.self.inside.bits.items
    c.args.row _ _ _ c.self.view_is c.self.invariant.0 c.requires.room c.append.ensures.rows c.append.ensures.bits
    c.requires.base c.requires.end c.requires.none in
    let rows = c.append.ensures.rows
    ∙ ap (λ (k : Kept). cond (is_ok c.append.result) (k.rows ++ c.args.row ∷ []) k.rows) c.self.view_is in
    record {
      grows = p.grows;
      laid = p.laid;
      size = p.size;
      rows = rows;
      shapes = ap (λ (k : Kept). k.shapes) c.self.view_is;
    }
