-- Concatenation and alternation of patterns.
use Rattle.sre_patterns.proofs.Terms.{◌≡◌, ℕ, List, [], ◌∷◌, ◌++◌, map, refl, sym, ap, ◌∙◌, subst, map-append, Re}
use Rattle.sre_patterns.proofs.Terms.{empty, cat, alt, byte_in, literal, meaning, Matches, IsWider, cat_onto, alt_onto}
use Rattle.regex_hir.specs.Meaning.{cat_all, alt_all}
use Rattle.regex_hir.specs.declared.hir.Hir.{Hir}
use Rattle.sre_patterns.proofs.OverUtf8.{literals-joined}

pub wider-same : (a b : Re) → a ≡ b → IsWider a b
wider-same a b e hay i j m = subst (λ x. Matches hay x i j) e m

pub cat-wider : (all : List Re) (a b : Re) → IsWider a b → IsWider (cat_onto all a) (cat_onto all b)
cat-wider [] a b w hay i j m = w hay i j m
cat-wider (x ∷ xs) a b w hay i j m = (m.0, m.1, cat-wider xs a b w hay m.0 j m.2)

pub cat-last : (all : List Re) (a b : Re) → cat_onto (all ++ a ∷ []) b ≡ cat_onto all (cat a b)
cat-last [] a b = refl
cat-last (x ∷ xs) a b = ap (λ z. cat x z) (cat-last xs a b)

pub cat-all : (all : List Re) → cat_onto all empty ≡ cat_all all
cat-all [] = refl
cat-all (x ∷ xs) = ap (λ z. cat x z) (cat-all xs)

pub empty-first : (b : Re) → IsWider (cat empty b) b
empty-first b hay i j m = subst (λ l. Matches hay b l j) m.1 m.2

pub alt-last : (all : List Re) (a b : Re) → alt_onto (all ++ a ∷ []) b ≡ alt_onto all (alt a b)
alt-last [] a b = refl
alt-last (x ∷ xs) a b = ap (λ z. alt x z) (alt-last xs a b)

pub alt-all : (all : List Re) → alt_onto all (byte_in []) ≡ alt_all all
alt-all [] = refl
alt-all (x ∷ xs) = ap (λ z. alt x z) (alt-all xs)

-- a literal behind a literal
pub literals-join : (before bytes : List ℕ) (b : Re)
    → IsWider (cat (literal before) (cat (literal bytes) b)) (cat (literal (before ++ bytes)) b)
literals-join before bytes b hay i j m =
    (m.2.0, literals-joined before bytes hay i m.2.0 (m.0, m.1, m.2.1), m.2.2)

-- what a sequence means that has one more pattern
pub pushed : (before after : List Hir) (hir : Hir) → after ≡ before ++ hir ∷ [] → (b : Re)
    → cat_onto (map meaning before) (cat (meaning hir) b) ≡ cat_onto (map meaning after) b
pushed before after hir same b =
    sym (ap (λ hirs. cat_onto (map meaning hirs) b) same
    ∙ ap (λ all. cat_onto all b) (map-append meaning before (hir ∷ []))
    ∙ cat-last (map meaning before) (meaning hir) b)
