use Rattle.sre_finder.proofs.Terms.{◌≤◌, ◌∙◌, sym, ap, take, length, arith, length-take-le}
use Rattle.sre_finder.proofs.Places.{utf8_seen, offset_inside}
use Rattle.sre_finder.proofs.haystack.text_up_to.Goals as goal

pub slice_bounds-result-end : goal.slice_bounds-result-end
slice_bounds-result-end c =
    let inside = offset_inside c.args.text.now c.args.end.position c.utf8.text c.requires.2 in
    let within : c.offset.result ≤ length c.as_bytes.result.now =
    omega (arith, inside, c.offset.ensures, c.requires.1, ap length c.as_bytes.ensures.value) in
    sym (length-take-le c.offset.result c.as_bytes.result.now within)

pub returns : goal.returns
returns c =
    utf8_seen c.args.text.now _ c.args.end.position c.utf8.text c.requires.2
    (ap (λ n. take n c.as_bytes.result.now) (c.offset.ensures ∙ c.requires.1)
    ∙ ap (take _) c.as_bytes.ensures.value)
