-- `into_box` gives `from_raw` what the pointer owns.
use Rattle.sre_handle.proofs.Terms.{◌≡◌, List, [], ◌∷◌, ◌++◌, refl, Dict, a_type, impl, tnil, tcons, dnil, Val, inst_fn}
use Rattle.sre_handle.proofs.Terms.{full_share, SProp, emp, id⊢, ftrue, flft, WpFn, stop, fld, of_opd, no_more}
use Rattle.sre_handle.proofs.Terms.{and_then, returns, enter, alloc_all, pass_all, free_all, look_at, get, get_in, sets}
use Rattle.sre_handle.proofs.Terms.{sub, whole, lft_new, Lfts, fact, fact_i, ◌⊑◌, ⊑_static, tables, yes, no, Is}
use Rattle.sre_handle.proofs.Terms.{RattleType, owns, types_at, plain, ptr_val, nothing, param, arg, layout, param_laws}
use Rattle.sre_handle.proofs.Terms.{arg_laws, glues, Lasts, lasts, triple_of, framed, Stays, stay_dropped, walk_of}
use Rattle.sre_handle.proofs.Terms.{Goes-dropped, Goes-blank, one, proved_at, leaves, ghosts, dict, passed, first}
use Rattle.sre_handle.proofs.Terms.{blocks, exec, lands_last, env, shows, peeks, layouts, calls_at_last}
use Rattle.std.proofs.VecSteps.Shapes.{after}
use types.Kit.{‵, raw, ◌⊛◌, some, later, ◌$◌, ◌∵◌, !, qed, by, move, keep, drop, split, join, group, fsplit, pick}
use types.Kit.{suffices, use0, use1, await, rewrite, feq_i, at_ret, fsplit3, fjoin3}
use mir.Raw.{raw as bare}
use Rattle.sre_handle.proofs.Words.{ptr_good, word, word_good, one_word, same_run}
use Rattle.sre_handle.specs.contracts.raw_box.RawBox.into_box.{ended, clauses}
use Rattle.sre_handle.specs.contracts.raw_box.RawBox.into_box.Key.{name as #self}
use Rattle.sre_handle.proofs.raw_box.RawBox.into_box.Statement.{statement}
use Rattle.std.specs.contracts.alloc.Global as heap
use Rattle.std.proofs.alloc.Global.TheLaws as heap_laws
use Rattle.std.specs.contracts.boxed.Box as box
use Rattle.std.proofs.boxed.Box.TheLaws as box_laws
use Rattle.std.specs.contracts.boxed.Box.from_raw as callee
use Rattle.std.proofs.boxed.Box.from_raw.Met.{met}
use Rattle.sre_handle.proofs.Destruct++none.drop.Code as none
use Rattle.sre_handle.specs.contracts.raw_box.RawBox as raw_box
use Rattle.sre_handle.proofs.raw_box.RawBox.into_box.Code as code

pub into_box_spec : {M : Type 1} → statement M
unfolding none.code
into_box_spec {M} 𝓤 𝓛 𝓜 𝓡 wired T L =
    let H = 𝓛.H in let 𝓣 = tables 𝓤 H 𝓜 𝓡 𝓡.env in let Z : RattleType = heap.the_row in
    let LZ = heap_laws.the_row_laws in
    let B : RattleType = box.the_row (param 0 T) Z ghosts in
    let LB = box_laws.the_row_laws (param 0 T) Z ghosts (param_laws 0 T L) LZ in
    let Row : RattleType = raw_box.the_row (param 0 T) in let En = ended T in let c = clauses T 𝓛 𝓜.mem 𝓡.returns in
    let inst = layouts (a_type ∷ []) (T, tt) in let fn = inst_fn inst code.function in
    let hs : Stays En.signature.params En.kept =
    (stay_dropped (plain (λ _. Row)) no, (stay_dropped (plain (λ _. Z)) yes, tt)) in
    proved_at 𝓛 En hs c 𝓜 𝓡 (
      Goes-blank 𝓛 1 (plain (λ _. Row)) no (λ κs x f. tt),
      (Goes-dropped 𝓛 1 (plain (λ _. Z)) yes (λ κs x f. refl), tt),
    ) (#self inst) fn
    (code.unfolded 𝓤 H 𝓜 𝓡 wired (T, tt)) (λ z are.
    let Y : RattleType = arg (bare (layout Z)) no Z in let LY = arg_laws (bare (layout Z)) no Z LZ refl in
    let dz : Dict = impl ("sre_handle::Destruct++none::drop" ∷ []) (tcons (layout Y) tnil) dnil in
    let known = met 𝓤 𝓛 𝓜 𝓡 (code.calls-std_alloc::boxed::Box::from_raw 𝓡.env wired) T Y L LY ghosts dict dz
    (passed 𝓡.env (code.calls-std_heap::GlobalAllocator::allocate 𝓡.env wired)
    (code.calls-std_heap::GlobalAllocator::deallocate 𝓡.env wired)
    (code.calls-std_heap::GlobalAllocator::grow 𝓡.env wired)
    (code.calls-std_heap::GlobalAllocator::shrink 𝓡.env wired) M 𝓤 𝓛 𝓜 𝓡)
    (glues "sre_handle::Destruct++none::drop" 𝓡.env (code.calls-sre_handle::Destruct++none::drop 𝓡.env wired) Y LY M
    𝓤 𝓛 𝓜 𝓡) in
    let κ = z.0.0.0 in let q = z.0.1.0 in let v = z.0.3.0 in let p = v.at in let a = z.0.3.1.0 in
    let Post : Val → SProp 𝓤 = (walk_of 𝓛 En hs c).post z in
    let e : z.0.4.0 ≡ word p ∷ [] = one_word p z.0.4.0 are.0.0 in
    let h = one (layout Z) z.0.4.1.0 ((LZ.lawful 𝓛).typed a z.0.4.1.0 are.1.0) in let ws = word p ∷ h.0 ∷ [] in
    qed 𝓛 (((‵ (flft κ q) ⊛ ‵ ftrue) ⊛ ‵ (owns (types_at En.signature.params z.0.0) z.0.3 z.0.4)) ∷ raw
    ((c z.0.0 z.0.3).requires z.1) ∷ []) ∵ split ! $ move ! (1 ∷ []) $ fsplit3 ! $ fsplit ! $ drop ! $
    rewrite ! 1 (λ (us : List Val). ‵ (Z.own_val a us)) h.1 refl $
    suffices ! _ (same_run 𝓤 (λ us. WpFn 𝓤 H 𝓣.C 𝓣.Λ fn us Post) (λ i. e i ++ (h.1 i ++ []))) $
    enter ! 𝓣.C 𝓣.Λ fn ws Post $ alloc_all ! (λ l. pass_all ! refl (word_good p, (h.2, tt)) $
    let Ev = env fn.locals l in
    sets ! (of_opd ! (get_in ! (fld ! refl (stop !)) (sub ! 0 refl (whole !)))) refl (ptr_good p) $ first ! $ blocks ! $
    lft_new ! tt (λ α. move ! (4 ∷ []) $ split ! $
    -- [the token of κ; nothing; that of α; the box in memory; the handle; nothing; what is asked]
    let β = α ∷ [] in let In = κ ⊑ T.lives in let Any = β ⊑ Y.lives in
    let k = triple_of 𝓛 (callee.signature T Y ghosts dict dz) (callee.spec T Y ghosts dict dz 𝓛 𝓜.mem 𝓡.returns) in
    let Ends = callee.ended T Y ghosts dict dz in
    let κs' : Lfts 2 = (κ, (β, tt)) in
    let y : k.Ghost = ((κs', (q, (full_share, tt)), tt, (a, (p, tt)), (h.0 ∷ [], (ptr_val p ∷ [], tt))), v.value) in
    move ! (0 ∷ 2 ∷ 1 ∷ []) $ group ! 3 $ feq_i ! (List Val) (ptr_val p ∷ []) (ptr_val p ∷ []) refl $
    move ! (3 ∷ 0 ∷ 4 ∷ []) $ fjoin3 ! $ move ! (1 ∷ 0 ∷ []) $ join ! $
    move ! (2 ∷ []) $ use1 𝓛 (raw (fact 𝓤 In) ⊛ ‵ ftrue) (id⊢ 𝓤 _) $ split ! $
    use0 𝓛 (raw (fact 𝓤 Any)) (fact_i 𝓤 Any (emp 𝓤) (⊑_static β)) $
    move ! (1 ∷ 0 ∷ 4 ∷ []) $ group ! 3 $ move ! (2 ∷ 0 ∷ []) $ join ! $ use1 𝓛 (raw (k.pre y)) (id⊢ 𝓤 _) $
    calls_at_last ! (framed 𝓤 H 𝓜 𝓣) k known y (and_then ! (get ! refl) (and_then ! (get ! refl) (no_more !))) (λ u.
    use1 𝓛 (later (some (λ (r : B.Denot).
    ((‵ (flft κ q) ⊛ ‵ (flft β full_share) ⊛ ‵ ftrue) ⊛ ‵ (B.own_val r (u ∷ []))) ⊛ some
    (λ (ls : Lasts Ends κs' y.0.3). ‵ (lasts Ends κs' y.0.3 ls) ⊛ raw (fact 𝓤 (r.value ≡ v.value)) ⊛ raw
    (fact 𝓤 (r.alloc ≡ a)))))) (id⊢ 𝓤 _) $
    await ! tt $ pick ! (λ r. split ! $ split ! $ split ! $ move ! (3 ∷ []) $ pick ! (λ _. split ! $ drop ! $
    split ! $ move ! (4 ∷ []) $
    peeks ! B (Is B) (shows 𝓛 B) r (u ∷ []) (λ is. let good = ((LB.lawful 𝓛).typed r (u ∷ []) is).0 in
    -- [the box; its value; its handle; the token of κ]
    lands_last ! refl good $ exec ! 𝓣.C 𝓣.Λ Ev (after 2 fn.body) (at_ret Ev Post) $
    sets ! (of_opd ! (get ! refl)) refl good $
    nothing ! $ nothing ! $ nothing ! $ fjoin3 ! $ nothing ! $ move ! (5 ∷ 0 ∷ []) $ join ! $
    returns ! (look_at ! 0 refl) $ free_all ! refl $ keep ! (0 ∷ 1 ∷ 2 ∷ 3 ∷ []) $
    by ! (leaves 𝓛 En hs c z u r (tt, (tt, tt)) (tt, (tt, tt))))))))))
