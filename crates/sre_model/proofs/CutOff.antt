-- An INFO block that is cut off: the rest has none, and is a code of the same tree.
use Rattle.sre_model.proofs.Terms.{◌≡◌, ℕ, ◌-◌, Bool, true, false, List, length, ◌<◌, refl, sym, subst, arith}
use Rattle.sre_model.proofs.Terms.{nat_tests, Tree, Empty, Then, word, Opcode, Reads, WholeItems, has_block}
use Rattle.sre_model.proofs.Terms.{behind_block, fits_block, Whole}
use Rattle.sre_chars.specs.declared.constants.SreOpcode.TheVariants as opcode
use Rattle.sre_model.proofs.Opcodes.{word_of, word_at, opcode_within, no_item}

-- items begin with no block
no_block_at : (ws : List ℕ) (j : ℕ) (t : Tree) → Reads ws 0 j t → Opcode ws j opcode.SUCCESS
    → Opcode ws 0 opcode.INFO → ⊥
no_block_at ws j Empty r ends info =
    let last : word ws 0 ≡ 1 = word_of ws 0 1 (subst (λ k. Opcode ws k opcode.SUCCESS) (sym r) ends) in
    let first : word ws 0 ≡ 14 = word_of ws 0 14 info in
    omega (arith, last, first)
no_block_at ws j (Then x t) r ends info =
    no_item ws 0 r.0 x opcode.INFO info refl r.1

pub no_block : (ws : List ℕ) (t : Tree) → WholeItems ws t → has_block ws ≡ false
no_block ws t w = by_test (has_block ws) refl
  where
    by_test : (b : Bool) → has_block ws ≡ b → b ≡ false
    by_test false e = refl
    by_test true e =
        let first : word ws 0 ≡ 14 = grind (arith, nat_tests) in
        let there : 0 < length ws = omega (arith, opcode_within ws (length ws - 1) opcode.SUCCESS w.1) in
        absurd (no_block_at ws (length ws - 1) t w.0 w.1 (word_at ws 0 14 there first))

-- words without a block are as they are behind it
pub none_behind : (ws : List ℕ) → has_block ws ≡ false → (fits_block ws ≡ true) × (behind_block ws ≡ ws)
none_behind ws e = (rw e refl, rw e refl)

-- items are a code
pub whole_items : (ws : List ℕ) (t : Tree) → WholeItems ws t → Whole ws t
whole_items ws t w =
    let n = none_behind ws (no_block ws t w) in
    (n.0, subst (λ (xs : List ℕ). WholeItems xs t) (sym n.1) w)

-- a code with its block cut off is one of the same tree
pub cut_off : (ws : List ℕ) (t : Tree) → Whole ws t → Whole (behind_block ws) t
cut_off ws t w = whole_items (behind_block ws) t w.1
