use Rattle.sre_chars.proofs.Terms.{◌-◌, ◌∙◌, arith, ap, subst, get_or, IsUtf8}
use Rattle.sre_chars.proofs.AsciiSteps.{byte_before, later_before}
use Rattle.sre_chars.proofs.Beginnings.{place_at, place_in}
use Rattle.sre_chars.proofs.text.RefStrStrDrive.back_over.Goals as goal

pub overflow_sub-byte : goal.overflow_sub-byte
overflow_sub-byte c =
    let bytes = c.as_bytes-bytes.ensures in
    let u = subst IsUtf8 bytes.value bytes.utf8 in
    omega (arith, (byte_before _ _ u c.requires.after_start c.requires.at.2).0)

pub bounds-bytes-offset : goal.bounds-bytes-offset
bounds-bytes-offset c =
    let bytes = c.as_bytes-bytes.ensures in
    let u = subst IsUtf8 bytes.value bytes.utf8 in
    let within = byte_before _ _ u c.requires.after_start c.requires.at.2 in
    rw bytes.value (omega (arith, within.0, within.1))

pub pass_bytes_back-start-requires-clause-within : goal.pass_bytes_back-start-requires-clause-within
pass_bytes_back-start-requires-clause-within c =
    let bytes = c.as_bytes-bytes.ensures in
    let at = c.offset-offset.ensures ∙ c.requires.at.1 in
    let from = place_in _ _ _ _ bytes.value bytes.utf8 at c.requires.at.2 in
    omega (arith, from.begun_before, c.requires.after_start)

pub returns-then-character-lt128-clause-other : goal.returns-then-character-lt128-clause-other
returns-then-character-lt128-clause-other c = λ no same.
    let bytes = c.as_bytes-bytes.ensures in
    let at = c.offset-offset.ensures ∙ c.requires.at.1 in
    let u = subst IsUtf8 bytes.value bytes.utf8 in
    let byte =
    ap (λ bs. get_or bs (c.offset-offset.result - 1) 0) bytes.value
    ∙ ap (λ o. get_or c.args.self.now.now (o - 1) 0) at
    in
    let past = later_before _ _ _ u c.requires.after_start c.requires.at.2 byte (omega arith) in
    omega (arith, past, same)

pub returns-then-character-lt128-clause-after : goal.returns-then-character-lt128-clause-after
returns-then-character-lt128-clause-after c =
    let bytes = c.as_bytes-bytes.ensures in
    let at = c.offset-offset.ensures ∙ c.requires.at.1 in
    let from = place_in _ _ _ _ bytes.value bytes.utf8 at c.requires.at.2 in
    let start = c.pass_bytes_back-start.ensures in
    let to = place_at _ _ _ (c.args.cursor.now.position - 1) bytes.value bytes.utf8 start.at
    (omega (arith, from.begun_before, start.passed, c.requires.after_start))
    in
    (omega arith, c.new.ensures.offset ∙ to.0, to.1)
