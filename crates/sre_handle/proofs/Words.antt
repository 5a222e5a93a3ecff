-- The machine values of a pointer and of a struct whose one data field is a pointer. Assumes `Logic`.
use Rattle.sre_handle.proofs.Terms.{◌≡◌, refl, subst, T, List, [], ◌∷◌, ◌++◌, ty_ptr, Val, ent, emp, SProp, id⊢, sym}
use Rattle.sre_handle.proofs.Terms.{RattleType, Is, Ptr, RawPtr, null_ptr, ptr_val, ◌&&◌, true, lit<, Ura, vstruct}
use Rattle.sre_handle.proofs.Terms.{vcons, vnil, of_list, has_ty, WT, Logic, sem, block_ptr, makes_shadow, Struct, Good}

pub ptr_good : (p : Ptr) → Good ty_ptr (ptr_val p)
ptr_good (block_ptr b o) = (tt, tt)
ptr_good null_ptr = (tt, record { fits = lit< tt })

abbrev pub word : Ptr → Val
word p = vstruct (vcons (ptr_val p) vnil)

pub word_good : (p : Ptr) → T (has_ty ty_ptr (ptr_val p) && true) × WT (word p)
word_good (block_ptr b o) = (tt, (tt, tt))
word_good null_ptr = (tt, (record { fits = lit< tt }, tt))

-- the field of such a struct. No name is part of what is owned
abbrev pub Pointed : RattleType
Pointed = Struct (record { name = []; args = []; types = []; fields = RawPtr ∷ [] })

pub made : {M : Type 1} {𝓤 : Ura M} (𝓛 : Logic 𝓤) (p : Ptr) → ent 𝓤 (emp 𝓤)
    (sem 𝓛 (Pointed.own_val (p, tt) (word p ∷ [])))
made 𝓛 p = makes_shadow 𝓛 (Pointed.own_val (p, tt) (word p ∷ [])) (λ vss. (tt, (tt, tt)))
    ((ptr_val p ∷ [], tt), (refl, (refl, tt)))

pub one_word : (p : Ptr) (vs : List Val) → Is Pointed (p, tt) vs → vs ≡ word p ∷ []
one_word p vs is = subst (λ (us : List Val). vs ≡ vstruct (of_list (us ++ [])) ∷ []) is.1.1.0 is.1.0

-- a run on arguments is one on those that they are
pub same_run : {M : Type 1} (𝓤 : Ura M) (Run : List Val → SProp 𝓤) {us ws : List Val} → us ≡ ws
    → ent 𝓤 (Run ws) (Run us)
same_run 𝓤 Run {ws = ws} e = subst (λ us. ent 𝓤 (Run ws) (Run us)) (sym e) (id⊢ 𝓤 (Run ws))
