use Rattle.sre_board.proofs.Terms.{◌≡◌, ◌∙◌, ap, sym, refl, arith, get_or, slice_get, slice_get_within, slice_get_read}
use Rattle.sre_board.proofs.Terms.{get_or_from_slice_get, Kept, Row}
use Rattle.sre_board.proofs.Rows.{no_row_at}
use Rattle.sre_board.proofs.failures.Failures.row.Goals as goal

pub returns-then-place-len-clause-found : goal.returns-then-place-len-clause-found
returns-then-place-len-clause-found g c =
    let ns = c.self.inside.numbers.items in
    no_row_at c.args.self.now c.self.inside.rows.items c.self.inside.shapes.items c.self.inside.bits.items ns
    c.args.place c.self.view_is c.self.invariant.1
    (λ n r e f p. absurd (omega (arith, slice_get_within ns c.args.place n e)))

pub returns-then-number-len-clause-found : goal.returns-then-number-len-clause-found
returns-then-number-len-clause-found g c =
    let rs = c.self.inside.rows.items in
    let ns = c.self.inside.numbers.items in
    let m = c.index.result.now in
    no_row_at c.args.self.now rs c.self.inside.shapes.items c.self.inside.bits.items ns c.args.place c.self.view_is
    c.self.invariant.1
    (λ n r e f p. absurd (omega (arith, slice_get_within rs n r f, get_or_from_slice_get ns c.args.place n m e)))

pub returns-then-row-place-clause-found : goal.returns-then-row-place-clause-found
returns-then-row-place-clause-found g c =
    let rs = c.self.inside.rows.items in
    let ns = c.self.inside.numbers.items in
    let m = c.index.result.now in
    let row = c.index-row.result.now in
    no_row_at c.args.self.now rs c.self.inside.shapes.items c.self.inside.bits.items ns c.args.place c.self.view_is
    c.self.invariant.1
    (λ n r e f p.
    let same : m ≡ n = omega (arith, get_or_from_slice_get ns c.args.place n m e) in
    let is : row ≡ r = c.index-row.ensures ∙ ap (λ i. get_or rs i row) same ∙ get_or_from_slice_get rs n r row f in
    c.if-row-place.true (ap (λ (x : Row). x.place) is ∙ p))

pub returns-clause-found : goal.returns-clause-found
returns-clause-found g c = (
  c.if-row-place.false,
  c.index.result.now,
  ap (λ (y : Kept). slice_get y.rows c.index.result.now) (sym c.self.view_is)
      ∙ slice_get_read c.self.inside.rows.items _ c.index.result.now c.index-row.result.now refl (omega arith)
      c.index-row.ensures,
)
