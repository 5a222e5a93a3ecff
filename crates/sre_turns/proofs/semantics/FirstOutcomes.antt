-- The first outcome that passes a test: outcomes that come again after others change nothing of it, whatever the test
-- is, as long as it depends on where they stop. So what waits twice may be left out where it comes later.
use Rattle.sre_turns.proofs.Terms.{◌≡◌, Bool, true, false, List, [], ◌∷◌, ◌++◌, refl, sym, ap, ◌∙◌, ℕ, Way, first}
use Rattle.sre_turns.proofs.Terms.{SameStops, Region, NotAhead, Spot, closing_move, SameFruit, is_inside, Waits}
use Rattle.sre_turns.proofs.Terms.{outermost, otherwise, kept, tried, Choice, Else, Keep, Trying, Run, filter}
use Rattle.sre_turns.proofs.Terms.{filter-append}

-- a test that looks at where an outcome stops
abbrev pub ByStop : (Way → Bool) → Type 0
ByStop test = (v w : Way) → v.stop ≡ w.stop → test v ≡ test w

-- under each such test the first of some outcomes is that of others
abbrev pub SameFirsts : List Way → List Way → Type 0
SameFirsts xs ys = (test : Way → Bool) → ByStop test → first (filter test xs) ≡ first (filter test ys)

-- where the first of some is the first of none, there are none
pub first_none : (xs ys : List Way) → first xs ≡ first ys → ys ≡ [] → xs ≡ []
first_none [] ys h e = refl
first_none (x ∷ xs) ys h e = let none : x ∷ [] ≡ [] = rw e at h in absurd (cc)

pub first_append : (xs ys zs : List Way) → first xs ≡ first ys → first (xs ++ zs) ≡ first (ys ++ zs)
first_append [] [] zs h = refl
first_append (x ∷ xs) (y ∷ ys) zs h = h
first_append xs ys zs h = absurd (cc)

-- and so it is of those that count
fruit_append : (r : Run) (inside : Bool) (xs ys zs : List Way) → SameFruit r inside xs ys
    → SameFruit r inside (xs ++ zs) (ys ++ zs)
fruit_append r true xs ys zs h = first_append xs ys zs h
fruit_append r false xs ys zs h =
    ap (λ ws. first ws) (filter-append r.accepts xs zs)
    ∙ first_append (filter r.accepts xs) (filter r.accepts ys) (filter r.accepts zs) h
    ∙ sym (ap (λ ws. first ws) (filter-append r.accepts ys zs))

all_pass : (xs : List Way) → filter (λ (w : Way). true) xs ≡ xs
all_pass [] = refl
all_pass (x ∷ xs) = ap (λ ws. x ∷ ws) (all_pass xs)

-- so they begin with the same
pub firsts_begin : (xs ys : List Way) → SameFirsts xs ys → first xs ≡ first ys
firsts_begin xs ys h =
    sym (ap (λ ws. first ws) (all_pass xs)) ∙ h (λ w. true) (λ v w e. refl) ∙ ap (λ ws. first ws) (all_pass ys)

-- and a region closes alike
pub closes_same : (g : Region) (x : Spot) (xs ys : List Way) → first xs ≡ first ys
    → closing_move g x xs ≡ closing_move g x ys
closes_same g x [] [] h = refl
closes_same g x (v ∷ xs) (w ∷ ys) h = go g (cc)
  where
    go : (g : Region) → v ≡ w → closing_move g x (v ∷ xs) ≡ closing_move g x (w ∷ ys)
    go (NotAhead t) e = refl
    go g e = rw e refl
closes_same g x xs ys h = absurd (cc)

-- of outcomes with the same stops none passes where none does of the others
pub none_passes : (test : Way → Bool) → ByStop test → (xs ys : List Way) → SameStops xs ys → filter test xs ≡ []
    → filter test ys ≡ []
none_passes test told [] [] h e = refl
none_passes test told [] (y ∷ ys) h e = absurd h
none_passes test told (x ∷ xs) [] h e = refl
none_passes test told (x ∷ xs) (y ∷ ys) h e =
    by_test (test x) refl (λ left. none_passes test told xs ys h.1 left)
  where
    by_test : (b : Bool) → test x ≡ b → (filter test xs ≡ [] → filter test ys ≡ []) → filter test (y ∷ ys) ≡ []
    by_test true k later = let found : x ∷ filter test xs ≡ [] = rw k at e in absurd (cc)
    by_test false k later = rw (sym (told x y h.0) ∙ k) (later (rw k at e))

-- outcomes that come again behind those with the same stops are never the first
pub firsts_again : (xs ys : List Way) → SameStops xs ys → SameFirsts (xs ++ ys) xs
firsts_again xs ys h = λ test told.
    ap (λ ws. first ws) (filter-append test xs ys) ∙ go test (filter test xs) refl (none_passes test told xs ys h)
  where
    go : (test : Way → Bool) (passing : List Way) → filter test xs ≡ passing
        → (filter test xs ≡ [] → filter test ys ≡ [])
        → first (filter test xs ++ filter test ys) ≡ first (filter test xs)
    go test [] e none = rw (e, none e) refl
    go test (w ∷ ws) e none = rw e refl

-- what waits for outcomes waits for others whose first that counts is the same
pub fruit_waits : (r : Run) (cs : List Choice) (xs ys : List Way) {all : List Way} {u k : ℕ}
    → SameFruit r (is_inside cs) xs ys → Waits r cs u xs all k → Waits r cs u ys all k
fruit_waits r [] xs ys h (outermost begins) = outermost (begins ∙ h)
fruit_waits r (Else pt fs c m ∷ cs) xs ys h (otherwise {os = os} there placed d wt) =
    otherwise there placed d (fruit_waits r cs (xs ++ os) (ys ++ os) (fruit_append r (is_inside cs) xs ys os h) wt)
fruit_waits r (Keep g fs c m ∷ cs) xs ys h (kept {pt = pt} there placed d wt) =
    kept {pt = pt} there placed (rw (closes_same g _ xs ys h) at d) wt
fruit_waits r (Trying pt fs c m ∷ cs) xs ys h (tried there placed d most same wt) =
    tried there placed d most (same ∙ h) (fruit_waits r cs xs ys h wt)
