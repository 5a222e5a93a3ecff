use Rattle.sre_chars.proofs.Terms.{◌≡◌, ◌+◌, ◌-◌, refl, sym, ap, ◌∙◌, arith, length, drop, subst, length-take-le, chars}
use Rattle.sre_chars.proofs.Terms.{NoneIs, begun}
use Rattle.sre_chars.proofs.TextPlaces.{offset_boundary}
use Rattle.sre_chars.proofs.Seeks.{first_begins, none_begins, none_on, room_ahead}
use Rattle.sre_chars.proofs.text.seek_ascii.Goals as goal

pub range_from-requires : goal.range_from-requires
range_from-requires c = λ _. rw (c.offset-offset.ensures, c.round.invariant.0.1) (offset_boundary _ _ c.utf8.s)

pub slice_bounds-first_byte-end : goal.slice_bounds-first_byte-end
slice_bounds-first_byte-end c =
    let room = room_ahead c.args.s.now c.round.cursor.position (c.args.end - c.position-in-round.result) c.utf8.s
    (omega (arith, c.position-in-round.ensures, c.position.ensures, c.round-test.true, c.requires.within)) in
    let rest = ap length c.as_bytes-rest.ensures.value in
    sym (length-take-le _ _ (omega (arith, room, c.range_from.ensures.len, rest)))

pub returns-in-Some : goal.returns-in-Some
returns-in-Some c =
    let at = c.offset-offset.ensures ∙ c.round.invariant.0.1 in
    let cut = c.as_bytes-rest.ensures.value ∙ c.range_from.ensures.value ∙ ap (λ n. drop n c.args.s.now) at in
    let found = c.in-Some.ensures in
    let first = first_begins _ _ c.args.character c.round.cursor.position c.args.end
    (c.args.end - c.position-in-round.result) c.in-Some.passed c.beginnings.result c.utf8.s c.requires.ascii
    (omega (arith, c.position.ensures, c.round-test.true)) c.requires.within cut
    (omega (arith, c.position-in-round.ensures)) found.0 found.1 found.2 c.beginnings.ensures in
    let to : c.new.result.position ≡ c.round.cursor.position + c.beginnings.result + 1 =
    omega (arith, c.new.ensures.position, c.position-in-Some.ensures) in
    let back : c.round.cursor.position + c.beginnings.result + 1 - 1 ≡ c.round.cursor.position + c.beginnings.result =
    omega arith in
    record {
      after = rw to (
        refl,
        omega (arith, c.new.ensures.offset, at, first.2),
        omega (arith, first.0, c.requires.within),
      );
      sought = rw (to, back) (
        omega (arith, c.round.invariant.1),
        omega (arith, first.0),
        first.1,
        none_on _ _ _ _ _ c.round.invariant.3 first.3,
      );
    }

pub behind_begun-requires-clause-within : goal.behind_begun-requires-clause-within
behind_begun-requires-clause-within c =
    let room = room_ahead c.args.s.now c.round.cursor.position (c.args.end - c.position-in-round.result) c.utf8.s
    (omega (arith, c.position-in-round.ensures, c.position.ensures, c.round-test.true, c.requires.within)) in
    omega (arith, c.round.invariant.0.1, room)

pub round-smaller : goal.round-smaller
round-smaller c =
    let at = c.offset-offset.ensures ∙ c.round.invariant.0.1 in
    let cut = c.as_bytes-rest.ensures.value ∙ c.range_from.ensures.value ∙ ap (λ n. drop n c.args.s.now) at in
    let none = none_begins _ _ c.args.character c.round.cursor.position c.args.end
    (c.args.end - c.position-in-round.result) c.utf8.s c.requires.ascii
    (omega (arith, c.position.ensures, c.round-test.true)) c.requires.within cut
    (omega (arith, c.position-in-round.ensures)) c.in-None.ensures in
    let to = c.behind_begun.ensures.begun
    ∙ ap (λ o. begun c.args.s.now (o + (c.args.end - c.position-in-round.result))) c.round.invariant.0.1 in
    omega (arith, to, none.0, none.1)

pub round-preserved : goal.round-preserved
round-preserved c =
    let at = c.offset-offset.ensures ∙ c.round.invariant.0.1 in
    let cut = c.as_bytes-rest.ensures.value ∙ c.range_from.ensures.value ∙ ap (λ n. drop n c.args.s.now) at in
    let none = none_begins _ _ c.args.character c.round.cursor.position c.args.end
    (c.args.end - c.position-in-round.result) c.utf8.s c.requires.ascii
    (omega (arith, c.position.ensures, c.round-test.true)) c.requires.within cut
    (omega (arith, c.position-in-round.ensures)) c.in-None.ensures in
    let to = c.behind_begun.ensures.begun
    ∙ ap (λ o. begun c.args.s.now (o + (c.args.end - c.position-in-round.result))) c.round.invariant.0.1 in (
      c.behind_begun.ensures.at,
      omega (arith, c.round.invariant.1, to, none.0),
      omega (arith, to, none.1),
      subst (NoneIs (chars c.args.s.now) c.args.character c.args.cursor.now.position) (sym to)
          (none_on _ _ _ _ _ c.round.invariant.3 none.2),
    )
