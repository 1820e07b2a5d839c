-- What is found at a leaf, as contracts see the leaf.
use Rattle.std.specs.Prelude.{List, Bool}
use Rattle.fp_model.specs.declared.parts.Leg.{Leg}
use Rattle.fp_flatnet.specs.Tables.{windows_in}
use Rattle.fp_longestarcs.specs.Networks.{points_in}
use Rattle.fp_prices.specs.declared.leaf_prices.Kind.{Kind}
use Rattle.fp_prices.specs.LeastWalks.{AreLeastWalks, HasPreferred}
use Rattle.fp_prices.specs.declared.values.bounds.LeafBound.{LeafBound}
use Rattle.fp_prices.specs.Leaves.{BoundsPlans, IsBoundOf, IsLeafEmpty}
use Rattle.fp_prices.specs.Rounds.{LeafModel}
use Rattle.fp_prices.specs.Shares.{ClassShare}

-- the bound of the leaf by prices of a kind
abbrev pub IsLeafBound : LeafModel → List (List ClassShare) → Kind → (forced : Bool) → LeafBound → Type 0
IsLeafBound l tables kind forced bound = IsBoundOf l.setting.problem (windows_in l.setting.windows) (points_in l.setting.network) l.sides tables kind forced bound

-- no plan of the leaf costs less than a bound, and where it is empty there is none
abbrev pub BoundsLeafPlans : LeafModel → LeafBound → Type 0
BoundsLeafPlans l bound = BoundsPlans l.setting.problem (windows_in l.setting.windows) l.sides bound

-- some shipment has no allowed timed walk at the leaf
abbrev pub IsEmptyLeaf : LeafModel → Type 0
IsEmptyLeaf l = IsLeafEmpty l.setting.problem (windows_in l.setting.windows) (points_in l.setting.network) l.sides

-- the walks are those of least cost of all shipments at the leaf under prices of a kind
abbrev pub AreLeafWalks : LeafModel → List (List ClassShare) → Kind → (forced : Bool) → (walks : List (List Leg)) → Type 0
AreLeafWalks l tables kind forced walks = AreLeastWalks l.setting.problem (windows_in l.setting.windows) (points_in l.setting.network) l.sides tables kind forced walks

-- and each walk that is preferred and is one of these is the one found
abbrev pub HasLeafPreferred : LeafModel → List (List ClassShare) → Kind → (forced : Bool) → (preferred walks : List (List Leg)) → Type 0
HasLeafPreferred l tables kind forced preferred walks =
    HasPreferred l.setting.problem (windows_in l.setting.windows) (points_in l.setting.network) l.sides tables kind forced preferred walks
