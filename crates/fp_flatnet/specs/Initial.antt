-- The time points that an instance and its windows begin with.
use Rattle.std.specs.Prelude.{ℕ, ◌≡◌, ◌<◌, List, ◌∷◌, ◌++◌, length, map, filter, ◌==◌}
use Rattle.fp_model.specs.declared.parts.Shipment.{Shipment}
use Rattle.fp_model.specs.Problem.{Problem}
use Rattle.fp_timenodes.specs.declared.places.Place.{Place}
use Rattle.fp_timenodes.specs.Floor.{HaveSamePoints}
use Rattle.fp_timenodes.specs.Points.{TimePoints, points_at, times_at}

-- the releases of the shipments whose origin is a terminal
abbrev pub releases_at : Problem → ℕ → List ℕ
releases_at p terminal = map (λ (s : Shipment). s.release) (filter (λ (s : Shipment). s.from == terminal) p.shipments)

-- the due times of the shipments whose destination is a terminal
abbrev pub dues_at : Problem → ℕ → List ℕ
dues_at p terminal = map (λ (s : Shipment). s.due) (filter (λ (s : Shipment). s.to == terminal) p.shipments)

-- the place and the time at which a shipment is released
abbrev pub release_place : Shipment → Place
release_place s = record { terminal = s.from; at = s.release }

-- the place and the time at which a shipment is due
abbrev pub due_place : Shipment → Place
due_place s = record { terminal = s.to; at = s.due }

-- the initial points of a terminal: 0, each release at its origin, each due time at its
-- destination, and each anchor
abbrev pub initial_points : Problem → List Place → ℕ → List ℕ
initial_points p anchors terminal = 0 ∷ (releases_at p terminal ++ dues_at p terminal ++ times_at anchors terminal)

-- the points as of the round 0 are, at each terminal of the instance, the initial ones
pub record BeginAt (p : Problem) (anchors : List Place) (points : TimePoints) : Type 0 where
  pub terminals : points.terminals ≡ length p.terminals
  pub same : (terminal : ℕ) → terminal < length p.terminals → HaveSamePoints (points_at points terminal 0) (initial_points p anchors terminal)
