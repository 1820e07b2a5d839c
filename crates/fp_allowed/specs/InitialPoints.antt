-- The points that an instance and its windows begin with, among others.
use Rattle.std.specs.Prelude.{ℕ, ◌<◌, ◌≡◌, true, List, length}
use Rattle.fp_model.specs.Problem.{Problem}
use Rattle.fp_timenodes.specs.declared.places.Place.{Place}
use Rattle.fp_base_lists.specs.Membership.{list_has}
use Rattle.fp_flatnet.specs.Initial.{initial_points}

-- each initial point of each terminal is one of the points: 0, the releases at their origins, the
-- due times at their destinations, and the anchors
abbrev pub HasInitialPoints : Problem → List Place → (ℕ → List ℕ) → Type 0
HasInitialPoints p anchors points =
    (terminal at : ℕ) → terminal < length p.terminals → list_has (initial_points p anchors terminal) at ≡ true → list_has (points terminal) at ≡ true
