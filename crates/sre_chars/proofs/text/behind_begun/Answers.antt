use Rattle.sre_chars.proofs.Terms.{◌≡◌, ◌+◌, ◌-◌, refl, sym, ap, ◌∙◌, arith, begun, offset_of}
use Rattle.sre_chars.proofs.Beginnings.{begin_behind, place_at}
use Rattle.sre_chars.proofs.text.behind_begun.Goals as goal

pub overflow_add-position : goal.overflow_add-position
overflow_add-position c =
    let begin = begin_behind _ _ _ _ c.args.n _ c.as_bytes-bytes.ensures.value c.as_bytes-bytes.ensures.utf8
    (c.offset-from.ensures ∙ c.requires.at.1) c.requires.at.2 c.requires.some (omega arith) c.beginnings.ensures in
    omega (arith, c.position.ensures, begin.within, begin.few, c.as_bytes-bytes.ensures.len)

pub overflow_sub-position : goal.overflow_sub-position
overflow_sub-position c =
    let begin = begin_behind _ _ _ _ c.args.n _ c.as_bytes-bytes.ensures.value c.as_bytes-bytes.ensures.utf8
    (c.offset-from.ensures ∙ c.requires.at.1) c.requires.at.2 c.requires.some (omega arith) c.beginnings.ensures in
    omega (arith, begin.some)

pub pass_bytes_back-requires-clause-within : goal.pass_bytes_back-requires-clause-within
pass_bytes_back-requires-clause-within c =
    let begin = begin_behind _ _ _ _ c.args.n _ c.as_bytes-bytes.ensures.value c.as_bytes-bytes.ensures.utf8
    (c.offset-from.ensures ∙ c.requires.at.1) c.requires.at.2 c.requires.some (omega arith) c.beginnings.ensures in
    omega (arith, begin.some, begin.begun_is)

pub char_after-offset-requires-clause-at : goal.char_after-offset-requires-clause-at
char_after-offset-requires-clause-at c =
    let bytes = c.as_bytes-bytes.ensures in
    let begin = begin_behind _ _ _ _ c.args.n _ bytes.value bytes.utf8 (c.offset-from.ensures ∙ c.requires.at.1)
    c.requires.at.2 c.requires.some (omega arith) c.beginnings.ensures in
    let last = place_at _ _ _ (c.args.cursor.now.position + c.beginnings.result - 1) bytes.value bytes.utf8
    c.pass_bytes_back.ensures.at (omega (arith, c.pass_bytes_back.ensures.passed, begin.begun_is, begin.some)) in
    let same : c.new-last.result.position ≡ c.args.cursor.now.position + c.beginnings.result - 1 =
    omega (arith, c.new-last.ensures.position, c.position.ensures) in
    rw same (refl, c.new-last.ensures.offset ∙ last.0, last.1)

pub char_after-offset-requires-clause-before_end : goal.char_after-offset-requires-clause-before_end
char_after-offset-requires-clause-before_end c =
    let begin = begin_behind _ _ _ _ c.args.n _ c.as_bytes-bytes.ensures.value c.as_bytes-bytes.ensures.utf8
    (c.offset-from.ensures ∙ c.requires.at.1) c.requires.at.2 c.requires.some (omega arith) c.beginnings.ensures in
    omega (arith, c.new-last.ensures.position, c.position.ensures, begin.within, begin.some)

pub returns : goal.returns
returns c =
    let begin = begin_behind _ _ _ _ c.args.n _ c.as_bytes-bytes.ensures.value c.as_bytes-bytes.ensures.utf8
    (c.offset-from.ensures ∙ c.requires.at.1) c.requires.at.2 c.requires.some (omega arith) c.beginnings.ensures in
    let next : c.new-last.result.position + 1 ≡ c.new.result.position =
    omega (arith, c.new-last.ensures.position, c.position.ensures, c.new.ensures.position, begin.some) in
    record {
      at = (
        refl,
        c.new.ensures.offset ∙ c.char_after-offset.ensures.offset ∙ ap (offset_of c.args.s.now) next,
        omega (arith, c.new.ensures.position, c.position.ensures, begin.within),
      );
      begun = c.new.ensures.position ∙ ap (λ p. p + c.beginnings.result) c.position.ensures ∙ sym begin.begun_there
          ∙ ap (λ o. begun c.args.s.now (o + c.args.n)) (sym c.requires.at.1);
    }
