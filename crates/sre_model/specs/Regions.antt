-- Atomic scopes: atomic groups, lookarounds and possessive loops, whose bodies are matched apart; and whether a body
-- may be matched in more than one way.
-- Of the specification: what sre_engine makes public rests on it.
use Rattle.std.specs.Prelude.{Bool, true, false, ◌||◌}
use Rattle.sre_model.specs.Tree.{Tree, Item, Branch, Run, Loop, PossessiveLoop, Atomic, Look}
use Rattle.sre_model.specs.Folding.{Folding, of_tree}

-- branches, runs and loops: there a machine may have more than one way to go on
abbrev pub by_forks : Folding Bool
by_forks = record { nothing = false; both = ◌||◌; item = fork_here }
  where
    fork_here : Item → Bool → Bool
    fork_here (Branch ts) inside = true
    fork_here (Run kind low high t) inside = true
    fork_here (Loop o low high body) inside = true
    fork_here (PossessiveLoop low high body) inside = true
    fork_here x inside = inside

-- whether one stands anywhere in a tree
abbrev pub forks : Tree → Bool
forks = of_tree by_forks

-- possessive loops, and atomic groups and looks whose body forks
abbrev pub by_forked_regions : Folding Bool
by_forked_regions = record { nothing = false; both = ◌||◌; item = forked_here }
  where
    forked_here : Item → Bool → Bool
    forked_here (PossessiveLoop low high body) inside = true
    forked_here (Atomic body) inside = forks body || inside
    forked_here (Look sign back body) inside = forks body || inside
    forked_here x inside = inside

-- whether one stands anywhere in a tree
abbrev pub has_forked_region : Tree → Bool
has_forked_region = of_tree by_forked_regions
