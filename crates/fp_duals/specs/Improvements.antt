-- What comes of improving the price of a leaf.
use Rattle.std.specs.Prelude.{ℕ, ◌*◌, ◌<◌, ◌≤◌, ◌≡◌, ◌⊎◌, List, [], ◌∷◌, ◌++◌, length, Bool, Option}
use Rattle.fp_base_lists.specs.Numbered.{AllZipFrom}
use Rattle.fp_model.specs.declared.parts.Leg.{Leg}
use Rattle.fp_model.specs.declared.parts.Shipment.{Shipment}
use Rattle.fp_model.specs.Costs.{cost}
use Rattle.fp_model.specs.Problem.{Problem}
use Rattle.fp_flatnet.specs.declared.window_tables.Window.{Window}
use Rattle.fp_tree.specs.declared.sides.Side.{Side}
use Rattle.fp_allowed.specs.declared.chain_ends.ChainEnd.TheVariants.{Reached}
use Rattle.fp_allowed.specs.Allowed.{IsForcedChain, is_allowed}
use Rattle.fp_allowed.specs.Chains.{EndsAs}
use Rattle.fp_prices.specs.declared.values.bounds.LeafBound.TheVariants.{Value}
use Rattle.fp_prices.specs.declared.leaf_prices.Kind.{Kind}
use Rattle.fp_prices.specs.declared.leaf_prices.Kind.TheVariants.{Table}
use Rattle.fp_prices.specs.declared.leaf_prices.LeafPrice.{LeafPrice}
use Rattle.fp_prices.specs.Leaves.{IsFirstWithout, IsLeafValue, IsSmallBound}
use Rattle.fp_prices.specs.LeastWalks.{AreLeastWalks}
use Rattle.fp_prices.specs.Shares.{ClassShare}
use Rattle.fp_prices.specs.Tables.{HasKind}
use Rattle.fp_duals.specs.declared.improvements.Improved.{Improved}
use Rattle.fp_duals.specs.declared.improvements.Improved.TheVariants.{Empty, Priced}
use Rattle.fp_duals.specs.Starts.{EachStart, IsStartKind}

-- the forced chain of a shipment, which reaches its destination
pub record IsReachedChain (p : Problem) (allowed : Leg → Bool) (s : Shipment) (legs : List Leg) : Type 0 where
  pub chain : IsForcedChain p allowed s legs
  pub reached : EndsAs p allowed s legs Reached

-- one table more, by which a leaf has a value above those by all six starting prices
pub record AddsTable (p : Problem) (windows : ℕ → ℕ → Option Window) (points : ℕ → List ℕ) (sides : List Side) (before after : List (List ClassShare)) (inherited kind : Kind) (value : ℕ) : Type 0 where
  pub table : List ClassShare
  pub last : after ≡ before ++ (table ∷ [])
  pub some : 1 ≤ length table
  pub named : kind ≡ Table (length after)
  pub above : EachStart p windows points sides before inherited (λ other. other < value)

-- the price that a leaf has after an improvement, with the tables before it and after it
pub record IsPriced (p : Problem) (windows : ℕ → ℕ → Option Window) (points : ℕ → List ℕ) (sides : List Side) (before after : List (List ClassShare)) (inherited : Kind) (round : ℕ)
    (price : LeafPrice) (value : ℕ) (walks : List (List Leg)) : Type 0 where
  pub of_round : price.round ≡ round
  pub kind : HasKind after price.kind
  pub is_value : IsLeafValue p windows points sides after price.kind price.forced value
  pub small : IsSmallBound p (Value value)
  -- the value is at least those by all six starting prices
  pub best : EachStart p windows points sides before inherited (λ other. other ≤ value)
  pub least : AreLeastWalks p windows points sides after price.kind price.forced walks
  -- where the forced chain of each shipment reaches its destination, the value is what they cost
  pub reached : (chains : List (List Leg)) → AllZipFrom (λ k. IsReachedChain p (is_allowed p windows points sides k)) 0 p.shipments chains → value ≡ p.scale * cost p chains
  pub added : ((after ≡ before) × IsStartKind inherited price.kind) ⊎ AddsTable p windows points sides before after inherited price.kind value

-- what comes of improving a leaf: that it is empty, by its first shipment without an allowed timed walk, and the tables are the same, or its price
abbrev pub IsImproved : Problem → (ℕ → ℕ → Option Window) → (ℕ → List ℕ) → List Side → (before after : List (List ClassShare)) → (inherited : Kind) → (round : ℕ) → Improved → Type 0
IsImproved p windows points sides before after inherited round (Empty shipment) = IsFirstWithout p windows points sides shipment × (after ≡ before)
IsImproved p windows points sides before after inherited round (Priced price value walks) = IsPriced p windows points sides before after inherited round price value walks.items
