use Rattle.sre_request.proofs.Terms.{◌+◌, sym, ◌∙◌, ap, arith, Table, items_of, Code, one_item_takes, set_stands}
use Rattle.sre_chars.specs.Numbers.{category_number}
use Rattle.sre_chars.specs.Categories.{category as in_category}
use Rattle.sre_model.proofs.Opcodes.{word_known}
use Rattle.sre_model.proofs.Members.{range_says, category_there, category_says, charset_room, charset_says}
use Rattle.sre_request.proofs.runs.run_in_set.Goals as goal

pub run_while-requires-clause-taker : goal.run_while-requires-clause-taker
run_while-requires-clause-taker g c = λ j x taken t s h.
    let same = c.items-words.ensures.same ∙ ap items_of c.pattern_codes.ensures in
    let range = word_known _ (c.args.place + 2) _ 22 c.word-first.ensures.word (sym c.if-first.true) in
    let says = range_says _ c.args.req.now.pattern_codes.uni.now _ x _ _ _ range c.operand-low.ensures.word
    c.operand-high.ensures.word h in
    one_item_takes _ _ _ c.args.place j x _ _ _ t same c.requires.code c.operand-skip.ensures.word (omega arith) says s

pub run_while-requires-then-first-3-clause-fits : goal.run_while-requires-then-first-3-clause-fits
run_while-requires-then-first-3-clause-fits g c =
    let same = c.items-words.ensures.same ∙ ap items_of c.pattern_codes.ensures in
    let charset = word_known _ (c.args.place + 2) _ 9 c.word-first.ensures.word (sym c.if-first-3.true) in
    omega (arith, charset_room _ _ charset (set_stands _ _ c.args.place same c.requires.code c.requires.test))

pub run_while-requires-then-first-3-clause-taker : goal.run_while-requires-then-first-3-clause-taker
run_while-requires-then-first-3-clause-taker g c = λ j x taken t s h.
    let same = c.items-words.ensures.same ∙ ap items_of c.pattern_codes.ensures in
    let charset = word_known _ (c.args.place + 2) _ 9 c.word-first.ensures.word (sym c.if-first-3.true) in
    let says = charset_says _ c.args.req.now.pattern_codes.uni.now _ x _ charset
    (h c.args.req.now.pattern_codes.uni.now) in
    one_item_takes _ _ _ c.args.place j x _ _ _ t same c.requires.code c.operand-skip.ensures.word (omega arith) says s

pub category_code-code-requires : goal.category_code-code-requires
category_code-code-requires g c =
    let same = c.items-words.ensures.same ∙ ap items_of c.pattern_codes.ensures in
    let category = word_known _ (c.args.place + 2) _ 8 c.word-first.ensures.word (sym c.if-first-2.true) in
    (category_there _ _ category (set_stands _ _ c.args.place same c.requires.code c.requires.test)).0

pub run_while-requires-then-first-2-clause-taker : goal.run_while-requires-then-first-2-clause-taker
run_while-requires-then-first-2-clause-taker g c = λ j x taken t s h.
    let same = c.items-words.ensures.same ∙ ap items_of c.pattern_codes.ensures in
    let category = word_known _ (c.args.place + 2) _ 8 c.word-first.ensures.word (sym c.if-first-2.true) in
    let table = c.uni-uni.ensures ∙ ap (λ (y : Code). y.uni.now) c.pattern_codes-then-first-2.ensures in
    let says = category_says _ c.args.req.now.pattern_codes.uni.now _ x _ _ category c.category_code-code.ensures
    (h ∙ ap (λ (y : Table). in_category y (category_number c.category_code-code.result) x) table) in
    one_item_takes _ _ _ c.args.place j x _ _ _ t same c.requires.code c.operand-skip.ensures.word (omega arith) says s
