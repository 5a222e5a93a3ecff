-- `of` keeps what the pointer owns.
use Rattle.sre_handle.proofs.Terms.{◌≡◌, [], ◌∷◌, ◌++◌, refl, ty_ptr, tcons, tnil, Val, SProp, emp, WpFn, stop, fld}
use Rattle.sre_handle.proofs.Terms.{of_opd, no_more, and_then, returns, enter, alloc_all, pass_all, free_all, look_at}
use Rattle.sre_handle.proofs.Terms.{get, get_in, sets, agg, sub, whole, fact, fact_i, tables, yes, RattleType, owns}
use Rattle.sre_handle.proofs.Terms.{types_at, plain, nothing, heard, alive, Stays, stay_dropped, walk_of, Goes-dropped}
use Rattle.sre_handle.proofs.Terms.{proved_at, leaves, Some, Suits, heap_box, fex}
use types.Kit.{‵, raw, ◌⊛◌, ◌$◌, ◌∵◌, !, qed, by, move, keep, split, fsplit, fjoin, suffices, use0, fpack}
use Rattle.sre_handle.proofs.Words.{ptr_good, word, word_good, Pointed, made, one_word, same_run}
use Rattle.sre_handle.proofs.kept_slot.KeptSlot.of.Statement.{statement}
use Rattle.sre_finder.specs.contracts.kept.Kept as kept
use Rattle.sre_handle.specs.contracts.raw_box.RawBox as raw_box
use Rattle.sre_handle.specs.contracts.kept_slot.KeptSlot.of as f
use Rattle.sre_handle.proofs.kept_slot.KeptSlot.of.Code as code

pub of_spec : {M : Type 1} → statement M
of_spec 𝓤 𝓛 𝓜 𝓡 wired =
    let H = 𝓛.H in let 𝓣 = tables 𝓤 H 𝓜 𝓡 𝓡.env in let En = f.ended in let c = f.clauses 𝓛 𝓜.mem 𝓡.returns in
    let K : RattleType = kept.the_row in
    let Row : RattleType = raw_box.the_row K in
    let hs : Stays En.signature.params En.kept = (stay_dropped (plain (λ _. Row)) yes, tt) in
    proved_at 𝓛 En hs c 𝓜 𝓡 (Goes-dropped 𝓛 0 (plain (λ _. Row)) yes (λ κs x f. refl), tt) f.Key.name code.function
    (code.unfolded 𝓤 H 𝓜 𝓡 wired) (λ z are.
    let v = z.0.3.0 in let p = v.at in let ws = word p ∷ [] in let e : z.0.4.0 ≡ ws = one_word p z.0.4.0 are.0.0 in
    let g = z.1 in
    let Fits = Suits g.0 g.1 in
    let Post : Val → SProp 𝓤 = (walk_of 𝓛 En hs c).post z in
    qed 𝓛 ((raw (alive 𝓛 En.signature z.0.0 z.0.1) ⊛ ‵ (owns (types_at En.signature.params z.0.0) z.0.3 z.0.4)) ∷ raw
    (fact 𝓤 (Fits v.value)) ∷ []) ∵
    move ! (1 ∷ []) $ heard ! (Fits v.value) (λ fits.
    split ! $ move ! (1 ∷ []) $ fsplit ! $ fsplit ! $ keep ! (1 ∷ 3 ∷ []) $
    fpack ! (Fits v.value) (λ _. heap_box K p v.value) fits $
    fpack ! K.Denot (λ x. fex (Fits x) (λ _. heap_box K p x)) v.value $
    suffices ! _ (same_run 𝓤 (λ us. WpFn 𝓤 H 𝓣.C 𝓣.Λ code.function us Post) (λ i. e i ++ [])) $
    enter ! 𝓣.C 𝓣.Λ code.function ws Post $ alloc_all ! (λ l. pass_all ! refl (word_good p, tt) $
    -- [the box in memory; no tokens]
    sets ! (of_opd ! (get_in ! (fld ! refl (stop !)) (sub ! {τs = tcons ty_ptr tnil} 0 refl (whole !)))) refl
    (ptr_good p) $ sets ! (of_opd ! (get ! refl)) refl (ptr_good p) $
    sets ! (agg ! (and_then ! (get ! refl) (no_more !))) refl (word_good p) $
    use0 𝓛 (‵ (Pointed.own_val (p, tt) ws)) (made 𝓛 p) $ fjoin ! $
    use0 𝓛 (raw (fact 𝓤 (Some g ≡ Some g))) (fact_i 𝓤 _ (emp 𝓤) refl) $ nothing ! $ nothing ! $ fjoin ! $
    returns ! (look_at ! 0 refl) $ free_all ! refl $ keep ! (3 ∷ 0 ∷ 2 ∷ 1 ∷ []) $
    by ! (leaves 𝓛 En hs c z (word p) (record { at = p; code = Some g }) (tt, tt) (tt, tt)))))
