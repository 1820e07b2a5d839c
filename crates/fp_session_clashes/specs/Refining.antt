-- The places at which a round adds points.
use Rattle.std.specs.Prelude.{ℕ, ◌<◌, ◌≤◌, ◌≡◌, List, length, false}
use Rattle.fp_base_lists.specs.Membership.{list_has}
use Rattle.fp_model.specs.Problem.{Problem}
use Rattle.fp_timenodes.specs.declared.places.Place.{Place}
use Rattle.fp_timenodes.specs.Points.{TimePoints, points_at, with_added}
use Rattle.fp_longestarcs.specs.Whole.{IsNetworkOf}
use Rattle.fp_session_history.specs.Notes.{points_added}
use Rattle.fp_session_clashes.specs.declared.refining.RefinedNetwork.{RefinedNetwork}

-- a place can be added: it is at a terminal, and in time, and no point is there
pub record CanAdd (p : Problem) (v : TimePoints) (round : ℕ) (place : Place) : Type 0 where
  pub terminal : place.terminal < length p.terminals
  pub time : place.at ≤ Rattle.fp_timenodes.specs.declared.places.TheConstants.LATEST
  pub new : list_has (points_at v place.terminal round) place.at ≡ false

-- the points with places that a round adds, and the network with them
pub record IsRefined (p : Problem) (v : TimePoints) (round : ℕ) (places : List Place) (r : RefinedNetwork) : Type 0 where
  pub points : r.points ≡ with_added v (points_added round places)
  pub network : IsNetworkOf p r.points round r.network
