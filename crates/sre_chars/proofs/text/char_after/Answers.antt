use Rattle.std.proofs.Common.{◌∙◌, sym, ap, arith, drop, length, get_or}
use Rattle.sre_chars.proofs.AsciiSteps.{ascii_after, byte_after}
use Rattle.sre_chars.proofs.TextPlaces.{length-chars_le, offset_boundary, past_char, some_after}
use Rattle.sre_chars.proofs.text.char_after.Goals as goal

pub bounds-as_bytes-offset : goal.bounds-as_bytes-offset
bounds-as_bytes-offset c =
    rw c.as_bytes.ensures.value (omega (arith, byte_after _ _ c.utf8.s c.requires.before_end))

pub overflow_add-result : goal.overflow_add-result
overflow_add-result c =
    record { fits = omega (arith, byte_after _ _ c.utf8.s c.requires.before_end) }

pub returns-then-byte-lt128 : goal.returns-then-byte-lt128
returns-then-byte-lt128 c =
    let at = c.offset-offset.ensures ∙ c.requires.at.1 in
    let byte =
    c.from.ensures
    ∙ ap (λ bs. get_or bs c.offset-offset.result 0) c.as_bytes.ensures.value
    ∙ ap (λ o. get_or c.args.s.now o 0) at
    in
    let step = ascii_after _ _ _ c.utf8.s c.requires.before_end byte (rw c.from.ensures c.if-byte-lt128.true) in
    record {
      value = step.0;
      offset = omega (arith, at, step.1);
      in_bounds = omega (arith, length-chars_le c.args.s.now c.utf8.s);
    }

pub range_from-requires : goal.range_from-requires
range_from-requires c = λ _. rw (c.offset-offset.ensures, c.requires.at.1) (offset_boundary _ _ c.utf8.s)

pub unreachable-requires : goal.unreachable-requires
unreachable-requires c =
    let at = c.offset-offset.ensures ∙ c.requires.at.1 in
    let left = c.chars-rest.ensures.rest ∙ c.range_from.ensures.value ∙ ap (λ n. drop n c.args.s.now) at in
    omega (arith, some_after _ _ c.utf8.s c.requires.before_end, ap length left, c.in-None.ensures.steps.0)

pub returns : goal.returns
returns c =
    let at = c.offset-offset.ensures ∙ c.requires.at.1 in
    let left = c.chars-rest.ensures.rest ∙ c.range_from.ensures.value ∙ ap (λ n. drop n c.args.s.now) at in
    let past = past_char _ _ c.in-Some.c _ c.utf8.s c.requires.before_end (sym left ∙ c.in-Some.ensures.steps.0) in
    record {
      value = past.0;
      offset = rw c.as_str.ensures past.1;
      in_bounds = omega (arith, length-chars_le c.args.s.now c.utf8.s);
    }
