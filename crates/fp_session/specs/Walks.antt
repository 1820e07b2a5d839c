-- Walks under the sides of a leaf that cost less than the incumbent.
use Rattle.std.specs.Prelude.{◌<◌, List, All}
use Rattle.fp_base_lists.specs.Distinct.{AreDistinct}
use Rattle.fp_model.specs.declared.parts.Leg.{Leg}
use Rattle.fp_model.specs.Costs.{cost}
use Rattle.fp_relaxmodel.specs.Terminals.{terminals_on}
use Rattle.fp_tree.specs.declared.sides.Side.{Side}
use Rattle.fp_session_history.specs.Solutions.{AreWalksUnder}
use Rattle.fp_session.specs.declared.searches.Search.{Search}
use Rattle.fp_session.specs.Moves.{points_now}

-- for each shipment a walk under the sides of a leaf over the points as of the last round, on none of which a terminal stands
-- twice, and that together cost less than the incumbent
pub record AreCheaperWalks (s : Search) (sides : List Side) (walks : List (List Leg)) : Type 0 where
  pub under : AreWalksUnder s.instance s.windows (points_now s) sides walks
  pub apart : All (λ walk. AreDistinct (terminals_on s.instance walk)) walks
  pub cheaper : cost s.instance walks < s.cost
