-- A tree without back-references and conditionals: where its match paths stop does not depend on prior captures.
use Rattle.sre_model.proofs.Terms.{◌≡◌, ℕ, false, List, [], ◌∷◌, refl, sym, ◌∙◌, true≢false, Tree, refers, Marks}
use Rattle.sre_model.proofs.Terms.{Subject, Way, ways}
use Rattle.sre_model.proofs.Along.{Alike, none, pair}
use Rattle.sre_model.proofs.Bounds.{tree_goes}

-- as many ways on both sides, each with the other's stop
abbrev pub SameStops : List Way → List Way → Type 0
SameStops [] [] = Unit {0}
SameStops [] (y ∷ ys) = ⊥
SameStops (x ∷ xs) [] = ⊥
SameStops (x ∷ xs) (y ∷ ys) = (x.stop ≡ y.stop) × SameStops xs ys

-- any two captures
abbrev Any : Marks → Marks → Type 0
Any m n = Unit {0}

stops : {R : ℕ → Type 0} {xs ys : List Way} → Alike Any R xs ys → SameStops xs ys
stops none = tt
stops (pair r e a) = (refl, stops a)

-- the ways of a tree without references stop at the same positions whatever the captures
pub ways-apart : (s : Subject) (t : Tree) → refers t ≡ false → (p : ℕ) (m n : Marks)
    → SameStops (ways s t p m) (ways s t p n)
ways-apart s t r p m n =
    stops (tree_goes s Any (λ n q k l e. tt) t (λ e. absurd (true≢false (sym e ∙ r))) p m n tt)
