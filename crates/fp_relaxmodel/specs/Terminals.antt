-- Where a walk goes.
use Rattle.std.specs.Prelude.{ℕ, List, [], ◌∷◌}
use Rattle.fp_model.specs.declared.parts.Leg.{Leg}
use Rattle.fp_model.specs.Problem.{Problem, arc_at}
use Rattle.fp_model.specs.Routes.{arcs_of, ends_of}

-- the terminals on a walk: the one that its first class leaves, and those that its classes enter
abbrev pub terminals_on : Problem → List Leg → List ℕ
terminals_on p [] = []
terminals_on p (c ∷ walk) = (arc_at p c.arc).from ∷ ends_of p (arcs_of (c ∷ walk))
