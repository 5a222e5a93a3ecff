use Rattle.sre_finder.proofs.Terms.{◌≤◌, refl, sym, ap, subst, ◌∙◌, arith, offset_of, IsCharBoundary}
use Rattle.sre_chars.proofs.TextPlaces.{offset_boundary}
use Rattle.sre_finder.proofs.Places.{alike, offset_order, offset_less, offset_inside}
use Rattle.sre_finder.proofs.haystack.text_cursor.Goals as goal

pub cursor_at-requires-clause-within : goal.cursor_at-requires-clause-within
cursor_at-requires-clause-within c =
    let inside = offset_inside c.args.text.now c.args.end.position c.utf8.text c.requires.end.2 in
    omega (arith, inside, c.requires.within, c.requires.end.1)

pub returns-in-Some-clause-after : goal.returns-in-Some-clause-after
returns-in-Some-clause-after c =
    let there = c.in-Some.ensures in
    offset_order c.args.text.now c.args.from.position c.in-Some.there.position c.utf8.text c.requires.from.2
    there.stands.2 (omega (arith, there.stands.1, there.offset, c.requires.from.1, c.requires.behind))

pub returns-in-Some-clause-inside : goal.returns-in-Some-clause-inside
returns-in-Some-clause-inside c =
    let there = c.in-Some.ensures in
    offset_order c.args.text.now c.in-Some.there.position c.args.end.position c.utf8.text there.stands.2
    c.requires.end.2 (omega (arith, there.stands.1, there.offset, c.requires.end.1, c.requires.within))

pub returns-in-Some-clause-passed : goal.returns-in-Some-clause-passed
returns-in-Some-clause-passed c = λ q from less.
    let there = c.in-Some.ensures in
    let below = offset_less c.args.text.now q c.in-Some.there.position c.utf8.text less there.stands.2 in
    omega (arith, below, there.stands.1, there.offset)

pub returns-in-Some-clause-there : goal.returns-in-Some-clause-there
returns-in-Some-clause-there c = λ q from inside at.
    omega (arith, c.in-Some.ensures.stands.1, c.in-Some.ensures.offset)

pub returns-in-None-clause-there : goal.returns-in-None-clause-there
returns-in-None-clause-there c = λ q from inside at.
    absurd (c.in-None.ensures.none refl
    (subst (IsCharBoundary c.args.text.now) at (offset_boundary c.args.text.now q c.utf8.text)))

-- where each character is a byte
pub returns-then-offset-position-clause-stands : goal.returns-then-offset-position-clause-stands
returns-then-offset-position-clause-stands c =
    let same = sym c.requires.end.1 ∙ sym c.offset.ensures ∙ c.if-offset-position.true ∙ c.position.ensures in
    let inside : c.args.offset ≤ c.args.end.position = omega (arith, c.requires.within, c.requires.end.1, same) in
    let here = alike c.args.text.now c.args.end.position c.args.offset c.utf8.text c.requires.end.2 same inside in (
      refl,
      c.new.ensures.offset ∙ sym here ∙ ap (offset_of c.args.text.now) (sym c.new.ensures.position),
      omega (arith, c.new.ensures.position, inside, c.requires.end.2),
    )

pub returns-then-offset-position-clause-after : goal.returns-then-offset-position-clause-after
returns-then-offset-position-clause-after c =
    let same = sym c.requires.end.1 ∙ sym c.offset.ensures ∙ c.if-offset-position.true ∙ c.position.ensures in
    let from =
    alike c.args.text.now c.args.end.position c.args.from.position c.utf8.text c.requires.end.2 same c.requires.ordered
    in
    omega (arith, c.new.ensures.position, from, c.requires.from.1, c.requires.behind)

pub returns-then-offset-position-clause-inside : goal.returns-then-offset-position-clause-inside
returns-then-offset-position-clause-inside c =
    let same = sym c.requires.end.1 ∙ sym c.offset.ensures ∙ c.if-offset-position.true ∙ c.position.ensures in
    omega (arith, c.new.ensures.position, c.requires.within, c.requires.end.1, same)

pub returns-then-offset-position-clause-passed : goal.returns-then-offset-position-clause-passed
returns-then-offset-position-clause-passed c = λ q from less.
    let same = sym c.requires.end.1 ∙ sym c.offset.ensures ∙ c.if-offset-position.true ∙ c.position.ensures in
    let inside : q ≤ c.args.end.position =
    omega (arith, less, c.new.ensures.position, c.requires.within, c.requires.end.1, same) in
    omega (
      arith,
      less,
      c.new.ensures.position,
      alike c.args.text.now c.args.end.position q c.utf8.text c.requires.end.2 same inside,
    )

pub returns-then-offset-position-clause-there : goal.returns-then-offset-position-clause-there
returns-then-offset-position-clause-there c = λ q from inside at.
    let same = sym c.requires.end.1 ∙ sym c.offset.ensures ∙ c.if-offset-position.true ∙ c.position.ensures in
    let within : c.args.offset ≤ c.args.end.position = omega (arith, c.requires.within, c.requires.end.1, same) in
    ap (offset_of c.args.text.now) c.new.ensures.position
    ∙ alike c.args.text.now c.args.end.position c.args.offset c.utf8.text c.requires.end.2 same within
