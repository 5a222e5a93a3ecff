use Rattle.sre_engine.proofs.Terms.{ℕ, ◌≡◌, ◌-◌, ◌<◌, false, length, Option, Some, None, refl, sym, ◌∙◌, subst, arith}
use Rattle.sre_engine.proofs.Terms.{rules, Tree, Opcode, Whole, WholeItems, words_of, Code, run_of, tree_of, RunAhead}
use Rattle.sre_engine.proofs.Terms.{whole_of, whole_items, whole_ahead, ahead_within, run_operands, run_stands}
use Rattle.sre_engine.proofs.Terms.{test_ahead, test_further, behind_test, mark_ahead}
use Rattle.std.specs.Option.{is_some}
use Rattle.sre_chars.specs.declared.constants.SreOpcode.TheVariants as opcode
use Rattle.sre_engine.proofs.engine.leading_run.leading_run.Goals as goal
use Rattle.sre_engine.proofs.engine.leading_run.leading_run.Goals.{Else-not-is_test}
use Rattle.sre_engine.proofs.engine.leading_run.leading_run.Given.{Over}

pub item-init : goal.item-init
item-init g c =
    let words = (run_of c.args.req.now).words in
    record {
      within = ahead_within _ _ _ _ (whole_ahead words (tree_of words) (whole_of c.args.req.now.pattern_codes));
      ahead = whole_ahead words;
    }

pub item-preserved-in-MARK : goal.item-preserved-in-MARK
item-preserved-in-MARK g c =
    let words = (run_of c.args.req.now).words in
    let code = c.args.req.now.pattern_codes in
    let here : Opcode words c.item.place opcode.MARK =
    subst (Opcode words c.item.place) c.in-MARK.is c.in_ok-opcode.ensures.opcode in
    let none : c.refers.result ≡ false = search rules in
    let apart = λ (t : Tree) (whole : WholeItems words t).
    sym (c.refers.ensures t
    (subst (λ (x : Code). Whole (words_of x) t) (sym c.pattern_codes.ensures) (whole_items code t whole))) ∙ none in
    let behind = λ (t : Tree) (whole : WholeItems words t).
    mark_ahead words t c.item.place c.item.first (apart t whole) (c.item.invariant.ahead t whole) here in
    record {
      within = ahead_within _ _ _ _ (behind (tree_of words) (whole_of code));
      ahead = behind;
    }

pub operand-requires : goal.operand-requires
operand-requires g c =
    let words = (run_of c.args.req.now).words in
    run_operands _ _ _ _ _
    (c.item.invariant.ahead (tree_of words) (whole_of c.args.req.now.pattern_codes)) c.in-REPEAT_ONE.is
    c.in_ok-opcode.ensures.opcode

pub returns-in-REPEAT_ONE : goal.returns-in-REPEAT_ONE
returns-in-REPEAT_ONE g c = λ t whole.
    run_stands _ _ _ _ _ (c.item.invariant.ahead t whole) c.in-REPEAT_ONE.is c.in_ok-opcode.ensures.opcode
    (search rules)

-- no test stands in front
no_front : (first : Option ℕ) → false ≡ is_some first → first ≡ None
no_front None e = refl
no_front (Some x) e = absurd (cc)

ahead : (g : Over) (c : Else-not-is_test g) (t : Tree) → WholeItems (run_of c.args.req.now).words t
    → RunAhead (run_of c.args.req.now).words t c.item.place None
ahead g c t whole =
    subst (λ (first : Option ℕ). RunAhead (run_of c.args.req.now).words t c.item.place first)
    (no_front c.item.first c.if-is_some.ensures) (c.item.invariant.ahead t whole)

pub test_end-place-requires : goal.test_end-place-requires
test_end-place-requires g c =
    let words = (run_of c.args.req.now).words in
    record {
      code = c.in_ok-opcode.ensures.opcode;
      stands =
          test_ahead _ _ _ _ (ahead g c (tree_of words) (whole_of c.args.req.now.pattern_codes))
          (sym c.is_test.ensures ∙ c.if-not-is_test.false) c.in_ok-opcode.ensures.opcode;
    }

pub item-smaller : goal.item-smaller
item-smaller g c =
    let words = (run_of c.args.req.now).words in
    let further =
    test_further _ _ _ _ (ahead g c.before (tree_of words) (whole_of c.args.req.now.pattern_codes))
    (sym c.is_test.ensures ∙ c.if-not-is_test.false) c.in_ok-opcode.ensures.opcode _ c.test_end-place.ensures in
    let within : c.item.place < length words = c.item.invariant.within in
    let smaller : length words - c.test_end-place.result < length words - c.item.place = omega arith in
    smaller

pub item-preserved : goal.item-preserved
item-preserved g c =
    let words = (run_of c.args.req.now).words in
    let behind = λ (t : Tree) (whole : WholeItems words t).
    behind_test _ _ _ _ (ahead g c.before t whole) (sym c.is_test.ensures ∙ c.if-not-is_test.false)
    c.in_ok-opcode.ensures.opcode _ c.test_end-place.ensures in
    record {
      within = ahead_within _ _ _ _ (behind (tree_of words) (whole_of c.args.req.now.pattern_codes));
      ahead = behind;
    }
