-- The networks of a search have few points.
use Rattle.std.proofs.Common.{ℕ, ◌+◌, ◌≤◌, length, arith}
use Rattle.fp_timenodes.specs.declared.places.TheConstants.{MOST_POINTS}
use Rattle.fp_longestarcs.specs.Networks.{point_count}
use Rattle.fp_longestarcs.proofs.PointCounts.{count-made}
use Rattle.fp_certificate_rules.specs.Points.{ArePointsOf}
use Rattle.fp_duals_leaves.specs.Prices.{PriceLists}
use Rattle.fp_session_history.specs.Notes.{added_of, last_round}
use Rattle.fp_session_history.proofs.HistoryPoints.{ArePointsOf-history}
use Rattle.fp_session.specs.declared.searches.Search.{Search}
use Rattle.fp_session.specs.Searches.{IsSearch, history}

module _ (s : Search) (prices : PriceLists) (is : IsSearch s prices) where
  -- its points are those of its instance, with those that its rounds added
  pub points-of : ArePointsOf s.instance s.windows.anchors (added_of s.trace.items) s.points
  points-of = ArePointsOf-history (history s prices) s.started s.cost is.belongs is.trace (omega (arith, is.rounds, is.budget.rounds)) s.points is.points is.added

  -- the network as of the last round
  pub few-points : point_count s.network ≤ MOST_POINTS
  few-points =
      omega (
        arith,
        count-made s.points (last_round (history s prices)) s.network is.network.whole.valid (λ t h. is.network.points t (omega (arith, h, is.network.whole.arcs.terminals))),
        is.network.whole.arcs.terminals,
        points-of.terminals,
        points-of.few,
      )

  -- and one that has at most all points
  pub few-of : (n : ℕ) → n ≤ s.points.terminals + length s.points.first + length s.points.added → n ≤ MOST_POINTS
  few-of n least = omega (arith, least, points-of.few)
