-- Loops by the count of bodies that are done.
-- For laws of the semantics; what sre_engine makes public does not rest on it.
use Rattle.std.specs.Prelude.{ℕ, ◌+◌, ◌-◌, max, List, [], ◌∷◌, Option}
use Rattle.std.specs.List.{flat_map}
use Rattle.sre_model.specs.Tree.{Order}
use Rattle.sre_model.specs.Marks.{Marks}
use Rattle.sre_model.specs.Subject.{Subject}
use Rattle.sre_model.specs.Ways.{Way, Body, first, here, within, least, more}

-- what follows each way of a body, in order
abbrev pub followed : Subject → Body → Body → Body
followed s body rest p m = flat_map (λ w. rest w.stop w.marks) (within s p (body p m))

-- the first way of a body alone
abbrev pub first_of_body : Subject → Body → Body
first_of_body s body p m = first (within s p (body p m))

-- what follows the first of some ways, or this position alone where there is none
abbrev pub or_here : Body → ℕ → Marks → List Way → List Way
or_here rest p m [] = here p m
or_here rest p m (w ∷ ws) = rest w.stop w.marks

-- a loop after so many bodies, where the last one beyond the least count was tried at that position
abbrev pub loop_from : Subject → Order → ℕ → ℕ → Body → ℕ → Option ℕ → Body
loop_from s o low high body count last =
    least s body (λ p m. more s o high body (s.end + 1 - p) (max low count) last p m) (low - count)
