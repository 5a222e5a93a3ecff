-- `discard` drops a slot that owns nothing.
use Rattle.sre_handle.proofs.Terms.{◌≡◌, List, [], ◌∷◌, ◌++◌, refl, Val, SProp, WpFn, of_opd, returns, enter, alloc_all}
use Rattle.sre_handle.proofs.Terms.{pass_all, free_all, look_at, sets, tables, yes, RattleType, owns, types_at, plain}
use Rattle.sre_handle.proofs.Terms.{nothing, alive, Stays, stay_dropped, walk_of, Goes-dropped, proved_at, leaves}
use Rattle.sre_handle.proofs.Terms.{vunit, unit_lit}
use types.Kit.{‵, raw, ◌⊛◌, ◌$◌, ◌∵◌, !, qed, by, keep, split, fjoin, feq_i, suffices}
use Rattle.sre_handle.proofs.Words.{word, word_good, one_word, same_run}
use Rattle.sre_handle.proofs.kept_slot.KeptSlot.discard.Statement.{statement}
use Rattle.sre_handle.specs.contracts.kept_slot.KeptSlot as slot
use Rattle.sre_handle.specs.contracts.kept_slot.KeptSlot.discard as f
use Rattle.sre_handle.proofs.kept_slot.KeptSlot.discard.Code as code

pub discard_spec : {M : Type 1} → statement M
discard_spec 𝓤 𝓛 𝓜 𝓡 wired =
    let H = 𝓛.H in let 𝓣 = tables 𝓤 H 𝓜 𝓡 𝓡.env in let En = f.ended in let c = f.clauses 𝓛 𝓜.mem 𝓡.returns in
    let Row : RattleType = slot.the_row in
    let hs : Stays En.signature.params En.kept = (stay_dropped (plain (λ _. Row)) yes, tt) in
    proved_at 𝓛 En hs c 𝓜 𝓡 (Goes-dropped 𝓛 0 (plain (λ _. Row)) yes (λ κs x f. refl), tt) f.Key.name code.function
    (code.unfolded 𝓤 H 𝓜 𝓡 wired) (λ z are.
    let p = z.0.3.0.at in let ws = word p ∷ [] in let e : z.0.4.0 ≡ ws = one_word p z.0.4.0 are.0.0 in
    let Post : Val → SProp 𝓤 = (walk_of 𝓛 En hs c).post z in
    qed 𝓛 ((raw (alive 𝓛 En.signature z.0.0 z.0.1) ⊛ ‵ (owns (types_at En.signature.params z.0.0) z.0.3 z.0.4)) ∷ raw
    ((c z.0.0 z.0.3).requires z.1) ∷ []) ∵ split ! $ keep ! (0 ∷ []) $
    suffices ! _ (same_run 𝓤 (λ us. WpFn 𝓤 H 𝓣.C 𝓣.Λ code.function us Post) (λ i. e i ++ [])) $
    enter ! 𝓣.C 𝓣.Λ code.function ws Post $ alloc_all ! (λ l. pass_all ! refl (word_good p, tt) $
    sets ! (of_opd ! (unit_lit !)) refl (tt, tt) $ feq_i ! (List Val) (vunit ∷ []) (vunit ∷ []) refl $ nothing ! $
    nothing ! $ nothing ! $ fjoin ! $
    returns ! (look_at ! 0 refl) $ free_all ! refl $ keep ! (3 ∷ 0 ∷ 2 ∷ 1 ∷ []) $
    by ! (leaves 𝓛 En hs c z vunit tt (tt, tt) (tt, tt))))
