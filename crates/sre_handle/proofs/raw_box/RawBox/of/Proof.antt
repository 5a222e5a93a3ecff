-- `of` keeps what `into_raw` hands out.
use Rattle.sre_handle.proofs.Terms.{◌≡◌, List, [], ◌∷◌, ◌++◌, refl, Dict, a_type, impl, tnil, tcons, dnil, Val, inst_fn}
use Rattle.sre_handle.proofs.Terms.{full_share, SProp, emp, id⊢, ftrue, flft, WpFn, of_opd, no_more, and_then, returns}
use Rattle.sre_handle.proofs.Terms.{enter, alloc_all, pass_all, free_all, look_at, get, sets, agg, lft_new, fact}
use Rattle.sre_handle.proofs.Terms.{fact_i, ◌⊑◌, ⊑_static, tables, no, RattleType, owns, types_at, plain, Ptr, RawPtr}
use Rattle.sre_handle.proofs.Terms.{nothing, param, arg, layout, param_laws, arg_laws, glues, Lasts, lasts, triple_of}
use Rattle.sre_handle.proofs.Terms.{framed, Stays, stay_dropped, walk_of, Goes-blank, one, proved_at, leaves, ghosts}
use Rattle.sre_handle.proofs.Terms.{dict, passed, heap_box, Lfts, ap, dcons, lands_as, only, bounded, calls_at}
use types.Kit.{‵, raw, ◌⊛◌, some, later, ◌$◌, ◌∵◌, !, qed, by, move, keep, drop, split, join, group, fsplit, fjoin}
use types.Kit.{pick, suffices, use0, use1, await, rewrite, feq_l}
use mir.Raw.{raw as bare}
use Rattle.sre_handle.proofs.Words.{ptr_good, word, word_good, Pointed, made, same_run}
use Rattle.sre_handle.specs.contracts.raw_box.RawBox.of.{ended, clauses}
use Rattle.sre_handle.specs.contracts.raw_box.RawBox.of.Key.{name as #self}
use Rattle.sre_handle.proofs.raw_box.RawBox.of.Statement.{statement}
use Rattle.std.specs.contracts.alloc.Global as heap
use Rattle.std.proofs.alloc.Global.TheLaws as heap_laws
use Rattle.std.specs.contracts.boxed.Box as box
use Rattle.std.proofs.boxed.Box.TheLaws as box_laws
use Rattle.std.specs.contracts.boxed.Box.into_raw as callee
use Rattle.std.proofs.boxed.Box.into_raw.Met.{met}
use Rattle.sre_handle.proofs.raw_box.RawBox.of.Code as code
use Rattle.sre_handle.proofs.Destruct++none.drop.Code as none

pub of_spec : {M : Type 1} → statement M
unfolding none.code
of_spec {M} 𝓤 𝓛 𝓜 𝓡 wired T L dx glue =
    let H = 𝓛.H in let 𝓣 = tables 𝓤 H 𝓜 𝓡 𝓡.env in let Z : RattleType = heap.the_row in
    let LZ = heap_laws.the_row_laws in
    let B : RattleType = box.the_row (param 0 T) Z ghosts in
    let LB = box_laws.the_row_laws (param 0 T) Z ghosts (param_laws 0 T L) LZ in let En = ended T dx in
    let c = clauses T dx 𝓛 𝓜.mem 𝓡.returns in
    let inst = bounded (a_type ∷ []) (T, tt) (dcons dx dnil) in let fn = inst_fn inst code.function in
    let hs : Stays En.signature.params En.kept = (stay_dropped (plain (λ _. B)) no, tt) in
    proved_at 𝓛 En hs c 𝓜 𝓡 (Goes-blank 𝓛 1 (plain (λ _. B)) no (λ κs x f. tt), tt) (#self inst) fn
    (code.unfolded 𝓤 H 𝓜 𝓡 wired (T, tt) dx) (λ z are.
    let Y : RattleType = arg (bare (layout Z)) no Z in let LY = arg_laws (bare (layout Z)) no Z LZ refl in
    let dz : Dict = impl ("sre_handle::Destruct++none::drop" ∷ []) (tcons (layout Y) tnil) dnil in
    let known = met 𝓤 𝓛 𝓜 𝓡 (code.calls-std_alloc::boxed::Box::into_raw 𝓡.env wired) T Y L LY ghosts dict dz dx
    (passed 𝓡.env (code.calls-std_heap::GlobalAllocator::allocate 𝓡.env wired)
    (code.calls-std_heap::GlobalAllocator::deallocate 𝓡.env wired)
    (code.calls-std_heap::GlobalAllocator::grow 𝓡.env wired)
    (code.calls-std_heap::GlobalAllocator::shrink 𝓡.env wired) M 𝓤 𝓛 𝓜 𝓡)
    (glues "sre_handle::Destruct++none::drop" 𝓡.env (code.calls-sre_handle::Destruct++none::drop 𝓡.env wired) Y LY M
    𝓤 𝓛 𝓜 𝓡) glue in
    let κ = z.0.0.0 in let q = z.0.1.0 in let v = z.0.3.0 in
    let Post : Val → SProp 𝓤 = (walk_of 𝓛 En hs c).post z in
    let w = one (layout B) z.0.4.0 ((LB.lawful 𝓛).typed v z.0.4.0 are.0) in let ws = w.0 ∷ [] in
    qed 𝓛 (((‵ (flft κ q) ⊛ ‵ ftrue) ⊛ ‵ (owns (types_at En.signature.params z.0.0) z.0.3 z.0.4)) ∷ raw
    ((c z.0.0 z.0.3).requires z.1) ∷ []) ∵ split ! $ move ! (1 ∷ []) $ fsplit ! $
    rewrite ! 0 (λ (us : List Val). ‵ (B.own_val v us)) w.1 refl $ fjoin ! $
    suffices ! _ (same_run 𝓤 (λ us. WpFn 𝓤 H 𝓣.C 𝓣.Λ fn us Post) (λ i. w.1 i ++ [])) $
    enter ! 𝓣.C 𝓣.Λ fn ws Post $ alloc_all ! (λ l. pass_all ! refl (w.2, tt) $ sets ! (of_opd ! (get ! refl)) refl w.2 $
    lft_new ! tt (λ α. move ! (2 ∷ 0 ∷ 1 ∷ []) $ split ! $
    -- [the token of κ; nothing; that of α; the box; what is asked]
    let β = α ∷ [] in let In = κ ⊑ T.lives in let Any = β ⊑ Y.lives in
    let k = triple_of 𝓛 (callee.signature T Y ghosts dict dz dx)
    (callee.spec T Y ghosts dict dz dx 𝓛 𝓜.mem 𝓡.returns) in let Ends = callee.ended T Y ghosts dict dz dx in
    let κs' : Lfts 2 = (κ, (β, tt)) in let y : k.Ghost = ((κs', (q, (full_share, tt)), tt, (v, tt), (ws, tt)), tt) in
    move ! (0 ∷ 2 ∷ 1 ∷ []) $ group ! 3 $ join ! $ move ! (1 ∷ []) $ use1 𝓛 (raw (fact 𝓤 In) ⊛ ‵ ftrue) (id⊢ 𝓤 _) $
    split ! $
    use0 𝓛 (raw (fact 𝓤 Any)) (fact_i 𝓤 Any (emp 𝓤) (⊑_static β)) $ move ! (1 ∷ 0 ∷ 2 ∷ []) $ group ! 3 $
    move ! (1 ∷ 0 ∷ []) $ join ! $ use1 𝓛 (raw (k.pre y)) (id⊢ 𝓤 _) $
    calls_at ! (framed 𝓤 H 𝓜 𝓣) k known y (and_then ! (get ! refl) (no_more !)) (λ u.
    use1 𝓛 (later (some (λ (p : Ptr).
    ((‵ (flft κ q) ⊛ ‵ (flft β full_share) ⊛ ‵ ftrue) ⊛ ‵ (RawPtr.own_val p (u ∷ []))) ⊛ some
    (λ (ls : Lasts Ends κs' y.0.3). ‵ (lasts Ends κs' y.0.3 ls) ⊛ ‵ (heap_box (param 0 T) p v.value))))) (id⊢ 𝓤 _) $
    await ! tt $ pick ! (λ p. split ! $ split ! $ split ! $ move ! (2 ∷ []) $ feq_l ! (λ is. move ! (2 ∷ []) $
    pick ! (λ _. split ! $ drop ! $
    -- [the box in memory; the token of κ; what is left of α]
    lands_as ! (ap only is) refl (ptr_good p) $
    sets ! (agg ! (and_then ! (get ! refl) (no_more !))) refl (word_good p) $
    use0 𝓛 (‵ (Pointed.own_val (p, tt) (word p ∷ []))) (made 𝓛 p) $ fjoin ! $
    use0 𝓛 (raw (fact 𝓤 (v.value ≡ v.value))) (fact_i 𝓤 _ (emp 𝓤) refl) $
    nothing ! $ nothing ! $ fjoin ! $ nothing ! $ move ! (4 ∷ 0 ∷ []) $ join ! $
    returns ! (look_at ! 0 refl) $ free_all ! refl $ keep ! (0 ∷ 1 ∷ 3 ∷ 2 ∷ []) $
    by ! (leaves 𝓛 En hs c z (word p) (record { at = p; value = v.value }) (tt, tt) (tt, tt)))))))))
