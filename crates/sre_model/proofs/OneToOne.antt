-- The code words of a tree are a code of that tree, and no others without an INFO block are.
use Rattle.sre_model.proofs.Terms.{ℕ, ◌+◌, ◌-◌, ◌≡◌, ◌<◌, false, List, [], ◌∷◌, length, subst, ap, arith, ◌++◌, ◌∙◌}
use Rattle.sre_model.proofs.Terms.{length-append, opcode_number, Tree, has_block, WholeItems, Whole, AreWords}
use Rattle.sre_model.proofs.Terms.{LawfulTree, tree_words, code_words, append-nil, drop_all}
use Rattle.sre_chars.specs.declared.constants.SreOpcode.TheVariants as opcode
use Rattle.sre_model.proofs.Opcodes.{opcode_within}
use Rattle.sre_model.proofs.CutOff.{none_behind}
use Rattle.sre_model.proofs.StandingWords.{head, stands_whole, stands_moved, stands_front, stands_behind}
use Rattle.sre_model.proofs.WrittenWords.{lay_tree, read_tree, spell_then, spell_last}

-- the words of a tree that has some are read as it
pub code_whole : (t : Tree) → LawfulTree t → WholeItems (code_words t) t
code_whole t h =
    let ws : List ℕ = code_words t in
    let n : ℕ = length (tree_words t) in
    let long : length ws ≡ n + 1 = omega (arith, length-append (tree_words t) (opcode_number opcode.SUCCESS ∷ [])) in
    let front = stands_front (tree_words t) (opcode_number opcode.SUCCESS ∷ []) (stands_whole ws) in
    let behind = stands_behind (tree_words t) (stands_whole ws) in
    let end : 0 + n ≡ length ws - 1 = omega (arith, long) in
    (lay_tree t ws 0 (length ws - 1) front (omega (arith, long)) h, head (stands_moved (length ws - 1) end behind))

-- words that are read as a tree are its words
pub items_are : (ws : List ℕ) (t : Tree) → AreWords ws → WholeItems ws t → ws ≡ code_words t
items_are ws t h w =
    let room : length ws - 1 < length ws = opcode_within ws (length ws - 1) opcode.SUCCESS w.1 in
    let s = read_tree t ws 0 (length ws - 1) h w.0 (omega (arith, room)) in
    let all = spell_then s (spell_last w.1 (omega (arith, room))) in
    all.same ∙ ap (λ l. code_words t ++ l) (drop_all (length ws) ws (omega arith)) ∙ append-nil (code_words t)

pub whole_are : (ws : List ℕ) (t : Tree) → AreWords ws → has_block ws ≡ false → Whole ws t → ws ≡ code_words t
whole_are ws t h e w = items_are ws t h (subst (λ (xs : List ℕ). WholeItems xs t) (none_behind ws e).1 w.1)
