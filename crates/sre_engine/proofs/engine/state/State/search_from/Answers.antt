use Rattle.sre_engine.proofs.Terms.{◌≡◌, true, false, refl, sym, ◌∙◌, rules, items_whole, code_of}
use Rattle.sre_engine.proofs.CountLaws.{not_literal, on_error}
use Rattle.sre_engine.proofs.PrefixWays.{anchored_never}
use Rattle.sre_engine.proofs.Doubled.{unanchored}
use Rattle.sre_engine.proofs.engine.state.State.search_from.Goals as goal

pub returns-in-Some-clause-anchored : goal.returns-in-Some-clause-anchored
returns-in-Some-clause-anchored g c = λ t whole e.
    absurd (anchored_never _ t c.in-Some.prefix.words.now (c.in-Some.ensures.some.spelled t whole)
    c.in-Some.prefix.confirmed.some e)

pub returns-then-is_doubled-clause-anchored : goal.returns-then-is_doubled-clause-anchored
returns-then-is_doubled-clause-anchored g c = λ t whole is.
    let doubled = c.is_doubled.ensures c.if-is_doubled.true in
    absurd (unanchored _ t doubled.begins (items_whole (code_of c.args.req.now) t whole) is)

pub returns-then-is_doubled-clause-literal : goal.returns-then-is_doubled-clause-literal
returns-then-is_doubled-clause-literal g c =
    on_error _ (not_literal (code_of c.args.req.now) (c.in_default.ensures.none refl))

pub search_along-requires-then-is_anchored-clause-looks : goal.search_along-requires-then-is_anchored-clause-looks
search_along-requires-then-is_anchored-clause-looks g c = record {
  plain = record { prefix = search rules; first_set = search rules; none = refl };
  stands = search rules;
  anchored = λ t whole.
      sym (c.is_anchored.ensures t (items_whole c.args.req.now.pattern_codes t whole)) ∙ c.if-is_anchored.true;
}

pub returns-clause-anchored : goal.returns-clause-anchored
returns-clause-anchored g c = λ t whole is.
    let said = c.is_anchored.ensures t (items_whole c.args.req.now.pattern_codes t whole) in
    let never : true ≡ false = sym is ∙ sym said ∙ c.if-is_anchored.false in absurd (cc never)

pub returns-then-hints-clause-literal : goal.returns-then-hints-clause-literal
returns-then-hints-clause-literal g c =
    on_error _ (not_literal (code_of c.args.req.now) (c.in_default.ensures.none refl))

pub returns-then-is_anchored-clause-literal : goal.returns-then-is_anchored-clause-literal
returns-then-is_anchored-clause-literal g c =
    on_error _ (not_literal (code_of c.args.req.now) (c.in_default.ensures.none refl))

pub returns-clause-literal : goal.returns-clause-literal
returns-clause-literal g c = on_error _ (not_literal (code_of c.args.req.now) (c.in_default.ensures.none refl))
