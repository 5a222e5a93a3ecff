use Rattle.sre_engine.proofs.Terms.{◌≡◌, ◌⊎◌, ◌+◌, ℕ, List, inl, inr, refl, ap, subst, Option, None, Some, IfSome}
use Rattle.sre_engine.proofs.Terms.{rules, arith, SreOpcode, SreAtCode, at_number, Tree, Subject, Word, Opcode, NoWay}
use Rattle.sre_engine.proofs.Terms.{TreeStands, Leads, role, HasRole, role_here, leads_tree, IsElsewhere, mark_leads}
use Rattle.sre_engine.proofs.Terms.{look_operand, look_leads, at_operand, at_leads, at_bars_there, body_operand}
use Rattle.sre_engine.proofs.Terms.{body_leads}
use Rattle.sre_model.specs.Roles.{ToCheckPosition, ToMark, ToRepeat, ToRepeatPossessively, ToGroupAtomically}
use Rattle.sre_model.proofs.FirstCharacters.{atomic_leads}
use Rattle.sre_chars.specs.declared.constants.SreOpcode.TheVariants as opcode
use Rattle.sre_engine.proofs.Leading.{test_past, code_past, code_read, loop_role, followed, follow_stuck}
use Rattle.sre_engine.proofs.Leading.{followed_start}
use Rattle.sre_engine.proofs.engine.first_characters.follow.Goals as goal

pub item-init : goal.item-init
item-init c = followed_start c.args.words.now c.args.start c.requires

pub item-preserved-in-MARK : goal.item-preserved-in-MARK
item-preserved-in-MARK c =
    let ws = c.args.words.now in
    let x = c.item.invariant in
    let code : Opcode ws c.item.reached.place opcode.MARK = search rules in
    followed ws _ _ _ _ x c.requires _ 0 _
    (λ u stands. mark_leads ws u _ stands (role_here _ _ opcode.MARK ToMark code refl)) (omega arith) (omega arith) _
    x.at (test_past ws _ _ _ opcode.MARK code x.test refl) (code_past ws _ _ _ _ x.code code)

pub item-preserved-in-ATOMIC_GROUP : goal.item-preserved-in-ATOMIC_GROUP
item-preserved-in-ATOMIC_GROUP c =
    let ws = c.args.words.now in
    let code : Opcode ws c.item.reached.place opcode.ATOMIC_GROUP = search rules in
    follow_stuck ws _ _ _ _ c.item.invariant c.requires _ 0 _
    (λ u stands.
    atomic_leads ws u _ stands (role_here _ _ opcode.ATOMIC_GROUP ToGroupAtomically code refl)) (omega arith)
    (omega arith) opcode.ATOMIC_GROUP code refl refl

pub operand-far-requires : goal.operand-far-requires
operand-far-requires c =
    let ws = c.args.words.now in
    let code : Opcode ws c.item.reached.place opcode.ASSERT = search rules in
    let here = leads_tree ws _ _ _ c.item.invariant.leads c.requires in
    look_operand ws here.tree _ here.stands code

pub item-preserved-in-ASSERT : goal.item-preserved-in-ASSERT
item-preserved-in-ASSERT c =
    let ws = c.args.words.now in
    let code : Opcode ws c.item.reached.place opcode.ASSERT = search rules in
    follow_stuck ws _ _ _ _ c.item.invariant c.requires _ _ _
    (λ u stands. look_leads ws u _ stands _ code c.operand-far.ensures.word) (search rules) (omega arith)
    opcode.ASSERT code refl refl

pub first_position-reached-requires : goal.first_position-reached-requires
first_position-reached-requires c =
    let ws = c.args.words.now in
    let code : Opcode ws c.item.reached.place opcode.AT = search rules in
    let here = leads_tree ws _ _ _ c.item.invariant.leads c.requires in
    at_operand ws here.tree _ here.stands (role_here _ _ opcode.AT ToCheckPosition code refl)

-- what the position code that is kept rules out
position_bars : (ws : List ℕ) (start i far : ℕ) (before code : Option SreAtCode)
    (l : (t : Tree) → TreeStands ws start t → Leads ws t i far) → HasRole ws i ToCheckPosition
    → ((t : Tree) → TreeStands ws start t → (s : Subject) (p : ℕ) → IsElsewhere s before p → NoWay s t p)
    → (code ≡ before) ⊎ ((far ≡ 0) × IfSome code (λ a. Word ws (i + 1) (at_number a))) → (t : Tree)
    → TreeStands ws start t → (s : Subject) (p : ℕ) → IsElsewhere s code p → NoWay s t p
position_bars ws start i far before code l h at (inl same) t stands s p fails =
    at t stands s p (subst (λ a. IsElsewhere s a p) same fails)
position_bars ws start i far before None l h at (inr own) t stands s p fails = absurd fails
position_bars ws start i far before (Some a) l h at (inr own) t stands s p fails =
    at_bars_there ws start i far l a own.0 h own.1 t stands s p fails

pub item-preserved-in-AT : goal.item-preserved-in-AT
item-preserved-in-AT c =
    let ws = c.args.words.now in
    let code : Opcode ws c.item.reached.place opcode.AT = search rules in
    let here = role_here _ _ opcode.AT ToCheckPosition code refl in
    followed ws _ _ _ _ c.item.invariant c.requires _ 0 _ (λ u stands. at_leads ws u _ stands here) (omega arith)
    (omega arith) _
    (position_bars ws _ _ _ c.item.reached.at _ c.item.invariant.leads here c.item.invariant.at
    c.first_position-reached.ensures.bars)
    (test_past ws _ _ _ opcode.AT code c.item.invariant.test refl)
    (code_read ws _ _ _ _ c.item.invariant.code _ _ code c.first_position-reached.ensures.kept
    c.first_position-reached.ensures.own)

loop_here : (ws : List ℕ) (i : ℕ) (o : SreOpcode) → Opcode ws i o
    → (o ≡ opcode.REPEAT) ⊎ (o ≡ opcode.POSSESSIVE_REPEAT) → HasRole ws i ToRepeat ⊎ HasRole ws i ToRepeatPossessively
loop_here ws i o w (inl e) = inl (role_here ws i o ToRepeat w (ap role e))
loop_here ws i o w (inr e) = inr (role_here ws i o ToRepeatPossessively w (ap role e))

pub operand-requires : goal.operand-requires
operand-requires c =
    let ws = c.args.words.now in
    let code : Opcode ws c.item.reached.place c.in-Ok.opcode = search rules in
    let here = leads_tree ws _ _ _ c.item.invariant.leads c.requires in
    body_operand ws here.tree _ here.stands (loop_here _ _ _ code c.in-REPEAT.is)

pub item-preserved : goal.item-preserved
item-preserved c =
    let ws = c.args.words.now in
    let code : Opcode ws c.item.reached.place c.in-Ok.opcode = search rules in
    let loop = loop_role _ c.in-REPEAT.is in
    follow_stuck ws _ _ _ _ c.item.invariant c.requires _ 0 _
    (λ u stands. body_leads ws u _ stands _ (loop_here _ _ _ code c.in-REPEAT.is) c.operand.ensures.word (omega arith))
    (omega arith) (omega arith) c.in-Ok.opcode code loop.0 loop.1
