use Rattle.sre_board.proofs.Terms.{◌≡◌, ◌<◌, ◌-◌, Some, length, reverse, slice_get, slice_index_or, subst, arith}
use Rattle.sre_board.proofs.Terms.{no_marks, BoardValue, choice_of, states}
use Rattle.sre_board.proofs.OpenSpots.{newest_at, chosen_at, fits_at}
use Rattle.sre_board.proofs.board.Board.saved.Goals as goal

pub returns-clause-waits : goal.returns-clause-waits
returns-clause-waits g c =
    let b = c.self.inside in
    let items = b.choices.items in
    let s = c.index.result.now in
    let long : c.len-2.result ≡ length items = omega (arith, c.len-2.ensures, b.choices.ok.0) in
    let within : c.args.depth < length items =
    omega (arith, c.if-depth-len.false, c.len.ensures, b.choices.ok.0) in
    let at : s ≡ slice_index_or items (length items - 1 - c.args.depth) s =
    subst (λ n. s ≡ slice_index_or items (n - 1 - c.args.depth) s) long c.index.ensures in
    let f = choice_of b.chains (states b.trail) in (
      fits_at (reverse items) (length b.chains) _ c.args.depth s c.self.invariant.1
          (newest_at items c.args.depth s within at),
      (
        slice_index_or (states b.trail) s.changes no_marks,
        subst (λ (v : BoardValue). slice_get v.choices c.args.depth ≡ Some (f s)) c.self.view_is
            (chosen_at items c.args.depth s within at f),
      ),
    )
