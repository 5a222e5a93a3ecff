use Rattle.sre_finder.proofs.Terms.{◌≡◌, ◌∙◌, ap, rules, words_of, uni_of}
use Rattle.sre_finder.proofs.Covered.{covering_moved, exactly_moved}
use Rattle.sre_finder.proofs.span_finder.SpanFinder.into_kept.Goals as goal

pub returns-clause-suits : goal.returns-clause-suits
returns-clause-suits c =
    let f = c.self.inside in
    let own : c.args.self.code ≡ f.code = search rules in
    record {
      starts = λ code words uni.
          covering_moved f.starts.encoding f.code code f.starts.seeker (words ∙ ap words_of own) (uni ∙ ap uni_of own)
          c.self.invariant.0.0;
      whole = λ code words uni.
          covering_moved f.starts.encoding f.code code f.starts.whole (words ∙ ap words_of own) (uni ∙ ap uni_of own)
          c.self.invariant.0.1;
      exact = λ code words uni.
          exactly_moved f.spans.encoding f.code code f.spans.exact (words ∙ ap words_of own) (uni ∙ ap uni_of own)
          c.self.invariant.1;
      serves = tt;
    }
