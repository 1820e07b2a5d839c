-- What comes of improving the price of a leaf, by tables and by spans.
use Rattle.std.specs.Prelude.{ℕ, ◌*◌, ◌<◌, ◌≤◌, ◌≡◌, ◌⊎◌, List, [], MatchOption, Option}
use Rattle.fp_base_lists.specs.Numbered.{AllZipFrom}
use Rattle.fp_model.specs.declared.parts.Leg.{Leg}
use Rattle.fp_model.specs.Costs.{cost}
use Rattle.fp_model.specs.Problem.{Problem}
use Rattle.fp_flatnet.specs.declared.window_tables.Window.{Window}
use Rattle.fp_tree.specs.declared.sides.Side.{Side}
use Rattle.fp_allowed.specs.Allowed.{is_allowed}
use Rattle.fp_allowed.specs.Walks.{IsTimedWalk}
use Rattle.fp_prices.specs.declared.leaf_prices.Kind.{Kind}
use Rattle.fp_prices.specs.declared.leaf_prices.Kind.TheVariants.{Even, Linear}
use Rattle.fp_prices.specs.Leaves.{IsFirstWithout}
use Rattle.fp_prices.specs.Tables.{HasKind}
use Rattle.fp_prices.specs.declared.leaf_prices.LeafPrice.{LeafPrice}
use Rattle.fp_prices.specs.declared.values.bounds.LeafBound.{LeafBound}
use Rattle.fp_prices_gifts.specs.GiftKinds.{IsPricedValue, gifts_beside}
use Rattle.fp_prices_gifts.specs.GiftLeaves.{IsGiftBound}
use Rattle.fp_prices_spans.specs.SpanKinds.{spans_beside}
use Rattle.fp_prices_spans.specs.SpanLeaves.{IsSpanLeafEmpty}
use Rattle.fp_duals.specs.declared.improvements.Improved.{Improved}
use Rattle.fp_duals.specs.declared.improvements.Improved.TheVariants as tables
use Rattle.fp_duals.specs.Improvements.{IsReachedChain}
use Rattle.fp_duals.specs.Starts.{EachMode}
use Rattle.fp_duals_leaves.specs.declared.pricing.Improvement.{Improvement}
use Rattle.fp_duals_leaves.specs.declared.pricing.Improvement.TheVariants.{Empty, Priced}
use Rattle.fp_duals_leaves.specs.declared.pricing.Worth.{Worth}
use Rattle.fp_duals_leaves.specs.Prices.{PriceLists}

module _ (p : Problem) (windows : ℕ → ℕ → Option Window) (points : ℕ → List ℕ) (sides : List Side) (x : PriceLists) (round : ℕ) where
  -- what the leaf is worth by a price as of the round
  pub record IsWorthBy (w : Worth) : Type 0 where
    pub of_round : w.price.round ≡ round
    pub kind : HasKind x.tables w.price.kind
    pub is : IsPricedValue p windows points sides x.tables x.spans x.gifts w.price.kind w.price.forced w.value

  -- the bound of the leaf by a price, with the spans and the gifts beside its table, if the leaf is priced by these
  abbrev pub IsPricedBound : LeafPrice → Option LeafBound → Type 0
  IsPricedBound price found = IsGiftBound p windows points sides x.tables (spans_beside x.spans price.kind) (gifts_beside x.gifts price.kind) price.kind price.forced found

  -- the same price, or one by which the leaf is worth more
  abbrev pub IsNoLess : Worth → Worth → Type 0
  IsNoLess first w = (w ≡ first) ⊎ (IsWorthBy w × (first.value < w.value))

  -- the price that was found for a leaf: the leaf is worth at least what it is by linear and by even prices, and where the forced chain
  -- of each shipment reaches its destination at least what they cost; with an allowed walk of each shipment
  pub record IsPriceFound (w : Worth) (chosen : List (List Leg)) : Type 0 where
    pub worth : IsWorthBy w
    pub linear : EachMode p windows points sides [] Linear (λ other. other ≤ w.value)
    pub even : EachMode p windows points sides [] Even (λ other. other ≤ w.value)
    pub walks : AllZipFrom (λ k. IsTimedWalk p points (is_allowed p windows points sides k)) 0 p.shipments chosen
    pub reached : (chains : List (List Leg)) → AllZipFrom (λ k. IsReachedChain p (is_allowed p windows points sides k)) 0 p.shipments chains → p.scale * cost p chains ≤ w.value

  -- what comes of improving the price of a leaf by tables: that it is empty, by its first shipment without an allowed timed walk, or its
  -- price
  abbrev pub IsImprovedByTables : Improved → Type 0
  IsImprovedByTables (tables.Empty shipment) = IsFirstWithout p windows points sides shipment
  IsImprovedByTables (tables.Priced price value walks) = IsPriceFound (record { price = price; value = value }) walks.items

  -- the leaf is empty by the heads and the ways that walks go by under a price as of the round
  pub record IsEmptyFound (price : LeafPrice) : Type 0 where
    pub of_round : price.round ≡ round
    pub kind : HasKind x.tables price.kind
    pub is : IsSpanLeafEmpty p windows points sides (spans_beside x.spans price.kind)

  -- the same price or one by which the leaf is worth more, or nothing where the leaf is empty by a kind of prices that the leaf inherits
  abbrev pub IsNoLessOr : Kind → Worth → Option Worth → Type 0
  IsNoLessOr inherited first found = MatchOption found (IsSpanLeafEmpty p windows points sides (spans_beside x.spans inherited)) (IsNoLess first)

  -- what comes of improving the price of a leaf: that it is empty, or its price
  abbrev pub IsImprovedBy : Improvement → Type 0
  IsImprovedBy (Empty price) = IsEmptyFound price
  IsImprovedBy (Priced price value walks) = IsPriceFound (record { price = price; value = value }) walks.items
