-- By the trucks of which arcs a leaf may be split.
use Rattle.std.specs.Prelude.{ℕ, ◌+◌, ◌≤◌, List, All, length}
use Rattle.fp_timenodes.specs.declared.places.TheConstants.{LATEST}
use Rattle.fp_tree.specs.declared.sides.Split.{Split}
use Rattle.fp_tree.specs.declared.sides.Split.TheVariants.{ByTrucks}
use Rattle.fp_prices.specs.Rounds.{LeafModel}
use Rattle.fp_session_history.specs.Divisions.{DividesTrucks}
use Rattle.fp_session_branching.specs.declared.truck_splits.RankedTrucks.{RankedTrucks}
use Rattle.fp_session_branching.specs.declared.truck_splits.TruckCandidate.{TruckCandidate}

-- the split by the trucks of a candidate's arc over its whole time
abbrev pub split_by : TruckCandidate → Split
split_by c = ByTrucks c.arc 0 (LATEST + 1) c.trucks

-- it divides the numbers of trucks that the arc has left at the leaf: each side leaves fewer of them
abbrev pub DividesBy : LeafModel → TruckCandidate → Type 0
DividesBy l c = DividesTrucks l.setting.problem l.sides (record { split = split_by c; tail = 0 })

-- the candidate alone
abbrev pub trucks_in : RankedTrucks → TruckCandidate
trucks_in r = r.candidate

-- some candidates, of which each divides, and at most so many
pub record AreBestTrucks (l : LeafModel) (most : ℕ) (ranked : List RankedTrucks) : Type 0 where
  pub each : All (λ (r : RankedTrucks). DividesBy l r.candidate) ranked
  pub few : length ranked ≤ most
