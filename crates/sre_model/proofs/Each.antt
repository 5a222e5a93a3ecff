-- Facts that hold of each element of a list.
use Rattle.sre_model.proofs.Terms.{◌≡◌, Bool, true, false, cond, List, [], ◌∷◌, ◌++◌, map, refl, ap, ◌∙◌, flat_map}
use Rattle.sre_model.proofs.Terms.{filter, AllByRecursion, first, flat_map-append}

-- of a list after another
pub each-append : {X : Type 0} (P : X → Type 0) (xs ys : List X) → AllByRecursion P xs → AllByRecursion P ys
    → AllByRecursion P (xs ++ ys)
each-append P [] ys h k = k
each-append P (x ∷ xs) ys h k = (h.0, each-append P xs ys h.1 k)

-- of what each element gives
pub each-flat_map : {X Y : Type 0} (P : X → Type 0) (Q : Y → Type 0) (f : X → List Y)
    → ((x : X) → P x → AllByRecursion Q (f x)) → (xs : List X) → AllByRecursion P xs → AllByRecursion Q (flat_map f xs)
each-flat_map P Q f g [] h = tt
each-flat_map P Q f g (x ∷ xs) h = each-append Q (f x) (flat_map f xs) (g x h.0) (each-flat_map P Q f g xs h.1)

-- a fact that follows from another one
pub each-weaken : {X : Type 0} (P Q : X → Type 0) → ((x : X) → P x → Q x) → (xs : List X) → AllByRecursion P xs
    → AllByRecursion Q xs
each-weaken P Q g [] h = tt
each-weaken P Q g (x ∷ xs) h = (g x h.0, each-weaken P Q g xs h.1)

-- of the images
pub each-map : {X Y : Type 0} (P : X → Type 0) (Q : Y → Type 0) (f : X → Y) → ((x : X) → P x → Q (f x)) → (xs : List X)
    → AllByRecursion P xs → AllByRecursion Q (map f xs)
each-map P Q f g [] h = tt
each-map P Q f g (x ∷ xs) h = (g x h.0, each-map P Q f g xs h.1)

-- of the first alone
pub each-first : {X : Type 0} (P : X → Type 0) (xs : List X) → AllByRecursion P xs → AllByRecursion P (first xs)
each-first P [] h = tt
each-first P (x ∷ xs) h = (h.0, tt)

-- of the list that a test picks
pub each-cond : {X : Type 0} (P : X → Type 0) (b : Bool) (xs ys : List X) → (b ≡ true → AllByRecursion P xs)
    → (b ≡ false → AllByRecursion P ys) → AllByRecursion P (cond b xs ys)
each-cond P true xs ys f g = f refl
each-cond P false xs ys f g = g refl

-- two facts at once
pub each-both : {X : Type 0} (P Q : X → Type 0) (xs : List X) → AllByRecursion P xs → AllByRecursion Q xs
    → AllByRecursion (λ x. P x × Q x) xs
each-both P Q [] h k = tt
each-both P Q (x ∷ xs) h k = ((h.0, k.0), each-both P Q xs h.1 k.1)

-- a filter whose test each element passes leaves all
pub filter-each : {X : Type 0} (t : X → Bool) (xs : List X) → AllByRecursion (λ x. t x ≡ true) xs → filter t xs ≡ xs
filter-each t [] h = refl
filter-each t (x ∷ xs) h = rw h.0 (ap (λ l. x ∷ l) (filter-each t xs h.1))

-- what a filter leaves passes its test
pub each-filter : {X : Type 0} (t : X → Bool) (xs : List X) → AllByRecursion (λ x. t x ≡ true) (filter t xs)
each-filter t [] = tt
each-filter t (x ∷ xs) =
    let ih = each-filter t xs in
    each-cond (λ y. t y ≡ true) (t x) (x ∷ filter t xs) (filter t xs) (λ e. (e, ih)) (λ _. ih)

-- what each element of what each element gives gives
pub flat_map-flat_map : {X Y Z : Type 0} (g : Y → List Z) (f : X → List Y) (xs : List X)
    → flat_map g (flat_map f xs) ≡ flat_map (λ x. flat_map g (f x)) xs
flat_map-flat_map g f [] = refl
flat_map-flat_map g f (x ∷ xs) =
    flat_map-append g (f x) (flat_map f xs) ∙ ap (λ l. flat_map g (f x) ++ l) (flat_map-flat_map g f xs)

-- two functions that agree on each element
pub flat_map_each : {X Y : Type 0} (P : X → Type 0) (f g : X → List Y) → ((x : X) → P x → f x ≡ g x) → (xs : List X)
    → AllByRecursion P xs → flat_map f xs ≡ flat_map g xs
flat_map_each P f g e [] h = refl
flat_map_each P f g e (x ∷ xs) h = rw (e x h.0) (ap (λ l. g x ++ l) (flat_map_each P f g e xs h.1))
