-- What the leaves of one round share, and what a leaf is over it, as contracts see them.
use Rattle.std.specs.Prelude.{◌≡◌, List, Bool, length, map, ℕ}
use Rattle.fp_model.specs.Problem.{IsValid, Problem}
use Rattle.fp_longestarcs.specs.Networks.{TimedNetwork}
use Rattle.fp_tree.specs.declared.sides.Side.{Side}
use Rattle.fp_allowed.specs.Settings.{IsSetting, Setting}
use Rattle.fp_prices.specs.declared.graphs.point_graphs.PointGraph.{PointGraph}
use Rattle.fp_prices.specs.Forced.{AreRowsUnder}
use Rattle.fp_prices.specs.PointGraphs.{IsPointGraph}
use Rattle.fp_prices.specs.Rates.{rate_of}

-- an instance and a network of it
pub record RoundModel : Type 0 where
  pub problem : Problem
  pub network : TimedNetwork

-- the graph is that of the network's points, and the rates are those of the instance's arcs
pub record IsRoundNetwork (r : RoundModel) (graph : PointGraph) (rates : List ℕ) : Type 0 where
  pub valid : IsValid r.problem
  pub of_points : IsPointGraph r.problem r.network graph
  pub of_arcs : rates ≡ map (rate_of r.problem.scale) r.problem.arcs

-- an instance, its windows and a network of it, and the sides of a leaf
pub record LeafModel : Type 0 where
  pub setting : Setting
  pub sides : List Side

-- the rows are those of all shipments under the sides
pub record IsLeafOver (l : LeafModel) (rows : List (List Bool)) : Type 0 where
  pub setting : IsSetting l.setting
  pub long : length rows ≡ length l.setting.problem.shipments
  pub under : AreRowsUnder l.setting l.sides rows
