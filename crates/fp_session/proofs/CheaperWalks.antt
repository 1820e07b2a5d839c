-- Walks that are allowed at a leaf of a search, over the points as of the last round, and what is known of them where they are
-- routes and cost less than the incumbent.
use Rattle.std.proofs.Common.{◌≡◌, ◌<◌, List, subst}
use Rattle.std.specs.Prelude.{All}
use Rattle.fp_base_lists.specs.Distinct.{AreDistinct}
use Rattle.fp_base_lists.proofs.Numbered.{AllZipFrom-weaker}
use Rattle.fp_model.specs.declared.parts.Leg.{Leg}
use Rattle.fp_model.specs.declared.parts.Shipment.{Shipment}
use Rattle.fp_model.specs.Costs.{cost}
use Rattle.fp_flatnet.specs.Tables.{windows_in}
use Rattle.fp_longestarcs.specs.Networks.{points_in}
use Rattle.fp_tree.specs.declared.sides.Side.{Side}
use Rattle.fp_allowed.specs.Allowed.{is_allowed}
use Rattle.fp_allowed.specs.Settings.{Setting}
use Rattle.fp_allowed.specs.Walks.{IsTimedWalk}
use Rattle.fp_allowed.proofs.SamePoints.{allowed_walk_same}
use Rattle.fp_relaxmodel.specs.Terminals.{terminals_on}
use Rattle.fp_prices.specs.Rounds.{LeafModel}
use Rattle.fp_duals_walks.specs.AllowedWalks.{AreAllowedWalks}
use Rattle.fp_session_history.specs.Solutions.{AreWalksUnder}
use Rattle.fp_session.specs.declared.kept.Kept.{Kept}
use Rattle.fp_session.specs.declared.searches.Search.{Search}
use Rattle.fp_session.specs.Moves.{points_now}
use Rattle.fp_duals_leaves.specs.Prices.{PriceLists}
use Rattle.fp_session.specs.Outcomes.{IsFound}
use Rattle.fp_session.specs.Searches.{IsSearch, history, setting_of}
use Rattle.fp_session.specs.Walks.{AreCheaperWalks}
use Rattle.fp_session.proofs.NextRounds.{agree-now}

-- allowed timed walks at a leaf are walks under its sides
pub allowed-under : (s : Search) (prices : PriceLists) (leaf : LeafModel) (sides : List Side) (walks : List (List Leg)) → IsSearch s prices → leaf.setting ≡ setting_of s → leaf.sides ≡ sides →
    AreAllowedWalks leaf walks → AreWalksUnder s.instance s.windows (points_now s) sides walks
allowed-under s prices leaf sides walks is setting are allowed =
    AllZipFrom-weaker (λ k (t : Shipment) walk. IsTimedWalk s.instance (points_in s.network) (is_allowed s.instance (windows_in s.windows) (points_in s.network) sides k) t walk)
    (λ k (t : Shipment) walk. IsTimedWalk s.instance (points_now s) (is_allowed s.instance (windows_in s.windows) (points_now s) sides k) t walk)
    (λ k t walk timed. allowed_walk_same s.instance is.belongs.valid (points_in s.network) (points_now s) (agree-now s prices is) (windows_in s.windows) sides k t walk timed) 0 s.instance.shipments walks own
  where
    own : AreAllowedWalks (record { setting = setting_of s; sides = sides }) walks
    own = subst (λ (l : List Side). AreAllowedWalks (record { setting = setting_of s; sides = l }) walks) are
        (subst (λ (x : Setting). AreAllowedWalks (record { setting = x; sides = leaf.sides }) walks) setting allowed)

-- such walks are cheaper where no terminal stands twice on one and they cost less than the incumbent
pub under-cheaper : (s : Search) (sides : List Side) (walks : List (List Leg)) → AreWalksUnder s.instance s.windows (points_now s) sides walks →
    All (λ walk. AreDistinct (terminals_on s.instance walk)) walks × (cost s.instance walks < s.cost) → AreCheaperWalks s sides walks
under-cheaper s sides walks under told = record { under = under; apart = told.0; cheaper = told.1 }

-- what was found of a leaf is so with other walks under its sides
pub found-other : (s : Search) (prices : PriceLists) (sides : List Side) (kept : Kept) (before walks : List (List Leg)) → IsFound (history s prices) sides kept before →
    AreWalksUnder s.instance s.windows (points_now s) sides walks → IsFound (history s prices) sides kept walks
found-other s prices sides kept before walks found under =
    record { kept = found.kept; some = found.some; starts = found.starts; walks = under; reached = found.reached }
