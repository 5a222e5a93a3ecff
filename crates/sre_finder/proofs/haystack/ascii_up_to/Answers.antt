use Rattle.sre_finder.proofs.Terms.{◌∙◌, sym}
use Rattle.sre_finder.proofs.Places.{ascii_seen}
use Rattle.sre_finder.proofs.haystack.ascii_up_to.Goals as goal

pub returns-then-offset-position : goal.returns-then-offset-position
returns-then-offset-position c =
    let same = sym c.requires.1 ∙ sym c.offset.ensures ∙ c.if-offset-position.true ∙ c.position.ensures in
    ascii_seen _ c.text_up_to.result.now _ c.args.end.position c.text_up_to.ensures same
