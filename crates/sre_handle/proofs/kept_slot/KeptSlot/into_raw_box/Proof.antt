-- `into_raw_box` hands on what the slot owns.
use Rattle.sre_handle.proofs.Terms.{◌≡◌, T, List, [], ◌∷◌, ◌++◌, refl, sym, subst, ty_ptr, tcons, tnil, Val, SProp, emp}
use Rattle.sre_handle.proofs.Terms.{WpFn, stop, fld, of_opd, no_more, and_then, returns, enter, alloc_all, pass_all}
use Rattle.sre_handle.proofs.Terms.{free_all, look_at, get, get_in, sets, agg, sub, whole, fact, fact_i, tables, yes}
use Rattle.sre_handle.proofs.Terms.{RattleType, owns, types_at, plain, nothing, heard, alive, Stays, stay_dropped}
use Rattle.sre_handle.proofs.Terms.{walk_of, Goes-dropped, proved_at, leaves, None, Some, Suits, ℕ, Option, Table, held}
use Rattle.std.specs.Prelude.{IsSome, IfSome}
use types.Kit.{‵, raw, ◌⊛◌, ◌$◌, ◌∵◌, !, qed, by, move, keep, split, fsplit, fjoin, rewrite, suffices, use0, fpick}
use Rattle.sre_handle.proofs.Words.{ptr_good, word, word_good, Pointed, made, one_word, same_run}
use Rattle.sre_handle.proofs.kept_slot.KeptSlot.into_raw_box.Statement.{statement}
use Rattle.sre_finder.specs.contracts.kept.Kept as kept
use Rattle.sre_handle.specs.contracts.kept_slot.KeptSlot as slot
use Rattle.sre_handle.specs.contracts.kept_slot.KeptSlot.into_raw_box as f
use Rattle.sre_handle.proofs.kept_slot.KeptSlot.into_raw_box.Code as code

some_of : {X : Type 0} (o : Option X) → IsSome o → (x : X) × (o ≡ Some x)
some_of None s = absurd (subst T (sym s) tt)
some_of (Some x) s = (x, refl)

pub into_raw_box_spec : {M : Type 1} → statement M
into_raw_box_spec 𝓤 𝓛 𝓜 𝓡 wired =
    let H = 𝓛.H in let 𝓣 = tables 𝓤 H 𝓜 𝓡 𝓡.env in let En = f.ended in let c = f.clauses 𝓛 𝓜.mem 𝓡.returns in
    let Row : RattleType = slot.the_row in let K : RattleType = kept.the_row in
    let hs : Stays En.signature.params En.kept = (stay_dropped (plain (λ _. Row)) yes, tt) in
    proved_at 𝓛 En hs c 𝓜 𝓡 (Goes-dropped 𝓛 0 (plain (λ _. Row)) yes (λ κs x f. refl), tt) f.Key.name code.function
    (code.unfolded 𝓤 H 𝓜 𝓡 wired) (λ z are.
    let v = z.0.3.0 in let p = v.at in let ws = word p ∷ [] in let e : z.0.4.0 ≡ ws = one_word p z.0.4.0 are.0.0 in
    let Post : Val → SProp 𝓤 = (walk_of 𝓛 En hs c).post z in
    let Says : K.Denot → Type 0 = λ x. IfSome v.code (λ code. Suits code.0 code.1 x) in
    qed 𝓛 ((raw (alive 𝓛 En.signature z.0.0 z.0.1) ⊛ ‵ (owns (types_at En.signature.params z.0.0) z.0.3 z.0.4)) ∷ raw
    (fact 𝓤 (IsSome v.code)) ∷ []) ∵
    move ! (1 ∷ []) $ heard ! (IsSome v.code) (λ is. let g = some_of v.code is in
    split ! $ move ! (1 ∷ []) $ fsplit ! $ fsplit ! $ keep ! (1 ∷ 3 ∷ []) $
    rewrite ! 0 (λ (o : Option (List ℕ × Table)). ‵ (held p o)) g.1 refl $
    fpick ! (λ x. fpick ! (λ fits. let says : Says x = subst (λ o. IfSome o (λ code. Suits code.0 code.1 x))
    (sym g.1) fits in
    suffices ! _ (same_run 𝓤 (λ us. WpFn 𝓤 H 𝓣.C 𝓣.Λ code.function us Post) (λ i. e i ++ [])) $
    enter ! 𝓣.C 𝓣.Λ code.function ws Post $ alloc_all ! (λ l. pass_all ! refl (word_good p, tt) $
    -- [the box in memory; no tokens]
    sets ! (of_opd ! (get_in ! (fld ! refl (stop !)) (sub ! {τs = tcons ty_ptr tnil} 0 refl (whole !)))) refl
    (ptr_good p) $ sets ! (of_opd ! (get ! refl)) refl (ptr_good p) $
    sets ! (agg ! (and_then ! (get ! refl) (no_more !))) refl (word_good p) $
    use0 𝓛 (‵ (Pointed.own_val (p, tt) ws)) (made 𝓛 p) $ fjoin ! $
    use0 𝓛 (raw (fact 𝓤 (Says x))) (fact_i 𝓤 _ (emp 𝓤) says) $ nothing ! $ nothing ! $ fjoin ! $
    returns ! (look_at ! 0 refl) $ free_all ! refl $ keep ! (3 ∷ 0 ∷ 2 ∷ 1 ∷ []) $
    by ! (leaves 𝓛 En hs c z (word p) (record { at = p; value = x }) (tt, tt) (tt, tt)))))))
