use Rattle.sre_chars.proofs.Terms.{◌≡◌, arith, sym, ◌∙◌, ◌-◌, ap, subst, IsCharBoundary, begun}
use Rattle.sre_chars.proofs.Beginnings.{place_at, place_in}
use Rattle.sre_chars.proofs.text.RefStrStrDrive.back_skip.Goals as goal

pub pass_blocks_back-behind_long-requires-clause-in_bounds
    : goal.pass_blocks_back-behind_long-requires-clause-in_bounds
pass_blocks_back-behind_long-requires-clause-in_bounds c =
    let bytes = c.as_bytes-bytes.ensures in
    (place_in _ _ _ _ bytes.value bytes.utf8 (c.offset.ensures ∙ c.requires.at.1) c.requires.at.2).in_bounds

pub pass_blocks_back-behind_short-requires-clause-in_bounds
    : goal.pass_blocks_back-behind_short-requires-clause-in_bounds
pass_blocks_back-behind_short-requires-clause-in_bounds c =
    let bytes = c.as_bytes-bytes.ensures in
    let from = place_in _ _ _ _ bytes.value bytes.utf8 (c.offset.ensures ∙ c.requires.at.1) c.requires.at.2 in
    omega (arith, from.in_bounds, c.pass_blocks_back-behind_long.ensures.in_bounds)

pub pass_bytes_back-start-requires : goal.pass_bytes_back-start-requires
pass_bytes_back-start-requires c =
    let bytes = c.as_bytes-bytes.ensures in
    let from = place_in _ _ _ _ bytes.value bytes.utf8 (c.offset.ensures ∙ c.requires.at.1) c.requires.at.2 in
    let long = c.pass_blocks_back-behind_long.ensures in
    let short = c.pass_blocks_back-behind_short.ensures in
    record {
      in_bounds = omega (arith, from.in_bounds, long.in_bounds, short.in_bounds);
      within = omega (arith, from.begun_before, long.passed, short.passed);
      at = λ none.
          let there = short.some_left none in
          let same = ap (begun c.as_bytes-bytes.result.now) there in
          let left : c.pass_blocks_back-behind_long.result.1 ≡ 0 = omega (arith, none, same, short.passed) in
          subst (IsCharBoundary c.as_bytes-bytes.result.now) (sym (there ∙ long.some_left left)) from.boundary;
    }

pub returns : goal.returns
returns c =
    let bytes = c.as_bytes-bytes.ensures in
    let from = place_in _ _ _ _ bytes.value bytes.utf8 (c.offset.ensures ∙ c.requires.at.1) c.requires.at.2 in
    let start = c.pass_bytes_back-start.ensures in
    let to = place_at _ _ _ (c.args.cursor.now.position - c.args.n) bytes.value bytes.utf8 start.at
    (omega (arith, from.begun_before))
    in
    (omega arith, c.new.ensures.offset ∙ to.0, to.1)
