-- What a search knows before its first step.
use Rattle.std.proofs.Common.{◌≡◌, ℕ, List, [], subst}
use Rattle.fp_model.specs.declared.parts.Leg.{Leg}
use Rattle.fp_model.specs.Problem.{IsValid, Problem}
use Rattle.fp_flatnet.specs.Tables.{WindowTable}
use Rattle.fp_longestarcs.specs.Networks.{TimedNetwork, points_in}
use Rattle.fp_allowed.specs.SamePoints.{AgreeOnPoints}
use Rattle.fp_allowed.specs.Settings.{Setting}
use Rattle.fp_prices.specs.declared.leaf_prices.LeafPrice.{LeafPrice}
use Rattle.fp_duals_leaves.specs.declared.pricing.Improvement.{Improvement}
use Rattle.fp_duals_leaves.specs.declared.pricing.Improvement.TheVariants as improved
use Rattle.fp_duals_leaves.specs.Prices.{ArePrices, PriceLists, no_prices}
use Rattle.fp_session_history.specs.Notes.{points_of}
use Rattle.fp_session.specs.Nodes.{IsKept}
use Rattle.fp_session.specs.Outcomes.{empty_kept, priced_kept}
use Rattle.fp_session.specs.Starts.{start_of}
use Rattle.fp_session.proofs.ImprovedLeaves.{kept-empty, kept-priced}
use Rattle.fp_session.proofs.Improvements.{ImprovedIn}

module _ (p : Problem) (table : WindowTable) (net : TimedNetwork) (valid : IsValid p) (same : AgreeOnPoints p (points_in net) (points_of (start_of p table no_prices) 0)) (after : PriceLists) (r : Improvement)
    (x : Setting) (setting : x ≡ record { problem = p; windows = table; network = net }) (here : ImprovedIn x [] after 0 r) where
  own : ImprovedIn (record { problem = p; windows = table; network = net }) [] after 0 r
  own = subst (λ (y : Setting). ImprovedIn y [] after 0 r) setting here

  -- what is kept of the root, where it is empty
  pub root-empty : (price : LeafPrice) → r ≡ improved.Empty price → IsKept (start_of p table after) [] (empty_kept price).payload (empty_kept price).value
  root-empty price was =
      kept-empty (start_of p table after) net [] valid same price 0 0
      (subst (λ (q : Improvement). ImprovedIn (record { problem = p; windows = table; network = net }) [] after 0 q) was own)

  -- and where it has a price
  pub root-priced : ArePrices p table after → (price : LeafPrice) (value : ℕ) (walks : Rattle.std.specs.declared.vec.Vec.Vec (List Leg) Rattle.std.specs.declared.alloc.Global.Global) → r ≡ improved.Priced price value walks →
      IsKept (start_of p table after) [] (priced_kept price value).payload (priced_kept price value).value
  root-priced are price value walks was =
      kept-priced (start_of p table after) net [] valid same price value walks.items
      (subst (λ (q : Improvement). ImprovedIn (record { problem = p; windows = table; network = net }) [] after 0 q) was own) are 0
