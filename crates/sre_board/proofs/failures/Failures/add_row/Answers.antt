use Rattle.sre_board.proofs.Terms.{◌≡◌, ◌++◌, length, ◌∙◌, ap, sym, refl, slice_get, arith, Kept, kept_of, Row}
use Rattle.sre_board.proofs.Terms.{length-append}
use Rattle.sre_board.proofs.Rows.{no_row, new_row, made_for, there_if_ok, roomy_added}
use Rattle.sre_board.proofs.KeptStill.{grown, grows_after}
use Rattle.sre_board.proofs.failures.Failures.add_row.Goals as goal

pub returns-in_err-slots-clause-grows : goal.returns-in_err-slots-clause-grows
returns-in_err-slots-clause-grows g c =
    grown c.args.self.now c.self.inside.rows.items c.self.inside.shapes.items c.self.inside.bits.items
    c.add_shape.new.shapes.items c.self.view_is c.self.invariant.0 c.add_shape.ensures.more

pub push_row-requires-clause-none : goal.push_row-requires-clause-none
push_row-requires-clause-none g c = λ n r e.
    c.requires.none n r (ap (λ (y : Kept). slice_get y.rows n) (sym c.self.view_is) ∙ e)

pub returns-in_err-slots-clause-rows : goal.returns-in_err-slots-clause-rows
returns-in_err-slots-clause-rows g c =
    no_row c.args.words.now c.args.first c.args.end c.args.point _ c.args.self.now
    (kept_of c.self.inside.rows.items c.add_shape.new.shapes.items c.self.inside.bits.items) c.add_shape.ensures.more.0
    (ap (λ (y : Kept). y.rows) c.self.view_is)
    (c.add_shape.ensures.more.1
    ∙ ap (λ (y : Kept). y.shapes ++ c.add_shape.ensures.more.0) c.self.view_is)

pub returns : goal.returns
returns g c =
    let mid : Kept = kept_of c.self.inside.rows.items c.add_shape.new.shapes.items c.self.inside.bits.items in
    let row : Row = record {
      place = c.args.place;
      first = c.args.first;
      positions = c.room-positions.result.0;
      shape = c.len-shape.result;
      end = c.len.result;
      base = c.len-base.result;
      length = c.room-positions.result.1;
      again = c.is_again.result;
    } in
    let rows = ap (λ (y : Kept). y.rows) c.self.view_is in
    let shape : c.len-shape.result ≡ length c.self.inside.shapes.items =
    omega (arith, c.len-shape.ensures, c.self.inside.shapes.ok.0) in
    let end : c.len.result ≡ length c.add_shape.new.shapes.items =
    omega (arith, c.len.ensures, c.add_shape.new.shapes.ok.0) in
    let base : c.len-base.result ≡ length c.args.self.now.bits =
    omega (arith, c.len-base.ensures, c.self.inside.bits.ok.0, ap (λ (y : Kept). length y.bits) c.self.view_is) in
    let made = rw c.loops-innermost.ensures.frames at c.in_ok-slots.ensures in
    record {
      grows =
          grows_after c.args.self.now mid c.push_row.new.self
          (grown c.args.self.now c.self.inside.rows.items c.self.inside.shapes.items c.self.inside.bits.items
          c.add_shape.new.shapes.items c.self.view_is c.self.invariant.0 c.add_shape.ensures.more)
          c.push_row.ensures.grows;
      laid = c.push_row.ensures.laid;
      roomy = λ n has h.
          let number = made.slots has.words (omega (arith, has.few)) in
          roomy_added c.args.words.now c.in_ok-slots.slots n c.room-positions.result.1 c.args.first c.args.end
          c.args.self.now mid c.push_row.new.self rows (ap (λ (y : Kept). y.bits) c.self.view_is)
          c.push_row.ensures.size c.room-positions.ensures.few (omega (arith, number, has.most))
          (omega (arith, c.len-number.ensures, c.self.inside.rows.ok.0)) h;
      rows =
          new_row c.args.words.now c.args.first c.args.end c.args.point _ c.args.self.now mid c.push_row.new.self row
          c.add_shape.ensures.more.0 _ rows
          (c.add_shape.ensures.more.1 ∙ ap (λ (y : Kept). y.shapes ++ c.add_shape.ensures.more.0) c.self.view_is)
          c.push_row.ensures.rows c.push_row.ensures.shapes c.requires.place c.is_again.ensures
          (made_for c.args.words.now c.args.first c.args.end c.args.place _ c.args.self.now mid row c.in_ok-slots.slots
          c.len-base.result (length c.self.inside.shapes.items) refl end shape made.shape made.slots base
          c.room-positions.ensures.enough);
      there = there_if_ok c.push_row.result _ mid c.push_row.new.self _ c.args.place c.push_row.ensures.rows refl;
    }

pub invariant_of-self : goal.invariant_of-self
invariant_of-self g c = grind (arith, length-append)

pub returns-in_err-slots-clause-laid : goal.returns-in_err-slots-clause-laid
returns-in_err-slots-clause-laid g c = grind (arith, length-append)

pub invariant_of-self-2 : goal.invariant_of-self-2
invariant_of-self-2 g c = grind (arith, length-append)
