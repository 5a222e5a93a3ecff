use Rattle.sre_finder.proofs.Terms.{◌∙◌, meaning}
use Rattle.sre_finder.proofs.Spans.{exactly, reads_one}
use Rattle.sre_finder.proofs.span_finder.exact_of.Goals as goal

pub returns : goal.returns
returns c =
    exactly c.args.encoding c.args.code c.make.new.self c.in-Ok-Some.hir (c.make.ensures ∙ c.in_ok-exact.ensures)
    (reads_one (meaning c.in-Ok-Some.hir) c.min_len.result c.min_len.ensures.bound c.if-min_len-eq0.false)
    (c.in-Ok-Some.ensures c.in-Ok-Some.hir c.in-Ok-Some.field-0-is)
