use Rattle.sre_chars.proofs.Terms.{◌≡◌, ◌-◌, ◌++◌, arith, sym, ap, ◌∙◌, take, length, get_or, encodes, encode}
use Rattle.sre_chars.proofs.AsciiSteps.{ascii_before, byte_before}
use Rattle.sre_chars.proofs.TextPlaces.{offset_boundary, before_char, some_before}
use Rattle.sre_chars.proofs.text.char_before.Goals as goal

pub overflow_sub-byte : goal.overflow_sub-byte
overflow_sub-byte c =
    omega (arith, (byte_before _ _ c.utf8.s c.requires.after_start c.requires.at.2).0)

pub bounds-as_bytes-offset : goal.bounds-as_bytes-offset
bounds-as_bytes-offset c =
    let within = byte_before _ _ c.utf8.s c.requires.after_start c.requires.at.2 in
    rw c.as_bytes.ensures.value (omega (arith, within.0, within.1))

pub overflow_sub-result : goal.overflow_sub-result
overflow_sub-result c =
    omega (arith, (byte_before _ _ c.utf8.s c.requires.after_start c.requires.at.2).0)

pub returns-then-byte-lt128 : goal.returns-then-byte-lt128
returns-then-byte-lt128 c =
    let at = c.offset-offset.ensures ∙ c.requires.at.1 in
    let byte =
    c.from.ensures
    ∙ ap (λ bs. get_or bs (c.offset-offset.result - 1) 0) c.as_bytes.ensures.value
    ∙ ap (λ o. get_or c.args.s.now (o - 1) 0) at
    in
    let step = ascii_before _ _ _ c.utf8.s c.requires.after_start c.requires.at.2 byte
    (rw c.from.ensures c.if-byte-lt128.true)
    in
    record {
      value = step.0;
      offset = omega (arith, at, step.1);
    }

pub split_at-requires : goal.split_at-requires
split_at-requires c = rw (c.offset-offset.ensures, c.requires.at.1) (offset_boundary _ _ c.utf8.s)

pub unreachable-requires : goal.unreachable-requires
unreachable-requires c =
    let at = c.offset-offset.ensures ∙ c.requires.at.1 in
    let front = c.chars-front.ensures.rest ∙ c.split_at.ensures.front ∙ ap (λ n. take n c.args.s.now) at in
    let some = some_before _ _ c.utf8.s c.requires.after_start c.requires.at.2 in
    omega (arith, some, ap length front, c.in-None.ensures.steps.0)

pub returns : goal.returns
returns c =
    let at = c.offset-offset.ensures ∙ c.requires.at.1 in
    let front = c.chars-front.ensures.rest ∙ c.split_at.ensures.front ∙ ap (λ n. take n c.args.s.now) at in
    let left : encodes c.as_str.utf8.0 ≡ c.next_back.new.self.rest.now = c.as_str.utf8.1.1 ∙ c.as_str.ensures in
    let taken = before_char _ _ c.in-Some.c c.as_str.utf8.0 c.utf8.s c.requires.after_start c.requires.at.2
    (sym front ∙ c.in-Some.ensures.steps ∙ ap (λ t. t ++ encode c.in-Some.c) (sym left))
    in
    record {
      value = taken.0;
      offset = ap length (sym c.as_str.utf8.1.1) ∙ taken.1;
    }
