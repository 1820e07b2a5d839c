-- By which ways of shipments a leaf may be split.
use Rattle.std.specs.Prelude.{◌<◌, length}
use Rattle.fp_flatnet.specs.Tables.{windows_in}
use Rattle.fp_tree.specs.declared.sides.Split.TheVariants.{ByWay}
use Rattle.fp_allowed.specs.Allowed.{tails_of}
use Rattle.fp_allowed.specs.Departures.{DividesDepartures, IsSplitAt}
use Rattle.fp_prices.specs.Rounds.{LeafModel}
use Rattle.fp_session_branching.specs.declared.way_splits.WayCandidate.{WayCandidate}

-- the shipment exists, and the split by its way by the arc divides the departures that it has left at the arc's tail
pub record IsWayCandidate (l : LeafModel) (c : WayCandidate) : Type 0 where
  pub exists : c.shipment < length l.setting.problem.shipments
  pub at : IsSplitAt l.setting.problem c.shipment (tails_of l.setting.problem c.arc) (ByWay c.shipment c.arc)
  pub divides : DividesDepartures l.setting.problem (windows_in l.setting.windows) l.sides c.shipment (tails_of l.setting.problem c.arc) (ByWay c.shipment c.arc)
