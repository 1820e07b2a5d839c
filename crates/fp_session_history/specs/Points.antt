-- Points that begin with the initial ones of an instance and its windows.
use Rattle.std.specs.Prelude.{ℕ, ◌+◌, ◌*◌, ◌<◌, ◌≤◌, ◌≡◌, List, [], ◌∷◌, ◌++◌, length}
use Rattle.fp_model.specs.declared.limits.TheConstants.{MOST_SHIPMENTS}
use Rattle.fp_model.specs.Problem.{Problem}
use Rattle.fp_timenodes.specs.declared.places.Place.{Place}
use Rattle.fp_timenodes.specs.Floor.{HaveSamePoints}
use Rattle.fp_timenodes.specs.Points.{TimePoints, times_at}
use Rattle.fp_flatnet.specs.declared.window_tables.TheConstants.{MOST_ANCHORS}
use Rattle.fp_flatnet.specs.Initial.{initial_points}

-- points begin with the initial ones: few, and at each terminal of the instance these
pub record BeginWith (p : Problem) (anchors : List Place) (v : TimePoints) : Type 0 where
  pub terminals : v.terminals ≡ length p.terminals
  pub few : length v.first ≤ MOST_ANCHORS + 2 * MOST_SHIPMENTS
  pub first : (terminal : ℕ) → terminal < length p.terminals → HaveSamePoints (times_at v.first terminal ++ 0 ∷ []) (initial_points p anchors terminal)
