-- What a writer returns are the code words of a part, after the block that was requested.
use Rattle.sre_emit.proofs.Terms.{ℕ, ◌≡◌, ◌≤◌, Bool, List, [], ◌++◌, reverse, None, Some, sym, ◌∙◌, ap, subst}
use Rattle.sre_emit.proofs.Terms.{reverse-reverse, Part, Memory, TooDeep, BadPart, tree_of, HasTree, Wrote}
use Rattle.sre_model.proofs.OneToOne.{whole_are}
use Rattle.sre_emit.specs.Emitting.{AreWords, code_words, EmitError, TooLong, depth, Held, front, Emitted, Cause}
use Rattle.sre_emit.proofs.Blocks.{emits}
use Rattle.sre_emit.proofs.Written.{back_words, wrote_more}

-- a writer of no words has written a code's, and then perhaps a block's
module _ {M : Type 0} (p : Part) (with_block : Bool) (a b c : Held) (lawful : HasTree p) (deep : depth p ≤ 1000)
    (none : a.words ≡ []) (well : a.failure ≡ None) (code : Wrote M a b (code_words (tree_of p)))
    (block : Wrote M b c (front with_block (tree_of p))) where
  abbrev all : List ℕ
  all = front with_block (tree_of p) ++ code_words (tree_of p)

  wrote : Wrote M a c all
  wrote = wrote_more code block

  pub code_emitted : (words : List ℕ) → c.failure ≡ None → words ≡ reverse c.words → Emitted p with_block words
  code_emitted words f same =
      let d = wrote.done well f in
      let is : words ≡ all =
      same ∙ ap reverse (d.0 ∙ ap (λ l. l ++ reverse all) none) ∙ reverse-reverse all in
      subst (λ l. Emitted p with_block l) (sym is) (record {
        has_tree = lawful;
        deep = deep;
        emits = emits with_block (tree_of p) lawful.lawful d.1;
      })

  pub code_caused : (e : EmitError) → c.failure ≡ Some e → Cause M p with_block e
  code_caused Memory f = wrote.stops well Memory f
  code_caused TooLong f = record {
    none = λ vs k e v.
        let items : vs ≡ code_words (tree_of p) = whole_are vs (tree_of p) (back_words _ vs k) e v in
        wrote.stops well TooLong f (subst (λ l. AreWords (front with_block (tree_of p) ++ l)) items k);
  }
  code_caused TooDeep f = absurd (wrote.stops well TooDeep f)
  code_caused BadPart f = absurd (wrote.stops well BadPart f)
