-- `empty` owns nothing.
use Rattle.sre_handle.proofs.Terms.{◌≡◌, [], ◌∷◌, refl, Val, SProp, emp, no_more, and_then, returns, enter, alloc_all}
use Rattle.sre_handle.proofs.Terms.{pass_all, free_all, look_at, sets, agg, fact, fact_i, tables, owns, types_at}
use Rattle.sre_handle.proofs.Terms.{null_ptr, nothing, alive, walk_of, proved_at, leaves, None, lit}
use types.Kit.{‵, raw, ◌⊛◌, ◌$◌, ◌∵◌, !, qed, by, keep, split, fjoin, use0}
use Rattle.sre_handle.proofs.Words.{word, word_good, Pointed, made}
use Rattle.sre_handle.proofs.kept_slot.KeptSlot.empty.Statement.{statement}
use Rattle.sre_handle.specs.contracts.kept_slot.KeptSlot.empty as f
use Rattle.sre_handle.proofs.kept_slot.KeptSlot.empty.Code as code

pub empty_spec : {M : Type 1} → statement M
empty_spec 𝓤 𝓛 𝓜 𝓡 wired =
    let H = 𝓛.H in let 𝓣 = tables 𝓤 H 𝓜 𝓡 𝓡.env in let En = f.ended in let c = f.clauses 𝓛 𝓜.mem 𝓡.returns in
    let p = null_ptr in
    proved_at 𝓛 En tt c 𝓜 𝓡 tt f.Key.name code.function (code.unfolded 𝓤 H 𝓜 𝓡 wired) (λ z are.
    let Post : Val → SProp 𝓤 = (walk_of 𝓛 En tt c).post z in
    qed 𝓛 ((raw (alive 𝓛 En.signature z.0.0 z.0.1) ⊛ ‵ (owns (types_at En.signature.params z.0.0) z.0.3 z.0.4)) ∷ raw
    ((c z.0.0 z.0.3).requires z.1) ∷ []) ∵ split ! $ keep ! (0 ∷ []) $
    enter ! 𝓣.C 𝓣.Λ code.function [] Post $ alloc_all ! (λ l. pass_all ! refl tt $
    sets ! (agg ! (and_then ! (lit ! tt) (no_more !))) refl (word_good p) $ nothing ! $
    use0 𝓛 (‵ (Pointed.own_val (p, tt) (word p ∷ []))) (made 𝓛 p) $ fjoin ! $
    use0 𝓛 (raw (fact 𝓤 (None ≡ None))) (fact_i 𝓤 _ (emp 𝓤) refl) $ nothing ! $
    returns ! (look_at ! 0 refl) $ free_all ! refl $ keep ! (3 ∷ 0 ∷ 2 ∷ 1 ∷ []) $
    by ! (leaves 𝓛 En tt c z (word p) (record { at = p; code = None }) tt tt)))
