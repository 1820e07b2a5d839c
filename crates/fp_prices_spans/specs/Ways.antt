-- The arcs by which the walks of a leaf go, and the least cost of a walk that goes by them.
-- Walks over classes are those of the relaxation of Boland, Hewitt, Marshall and Savelsbergh, "The Continuous-Time Service Network
-- Design Problem", Operations Research 65, 2017. That they go by arcs is this project's own.
use Rattle.std.specs.Prelude.{ℕ, ◌*◌, ◌^◌, ◌<◌, ◌≤◌, ◌≡◌, Bool, nat_lt, ◌&&◌, List, [], ◌∷◌, length, take, Option, MatchOption, if◌then◌else◌}
use Rattle.std.specs.List.{AllByRecursion}
use Rattle.fp_base_lists.specs.Elements.{AnyByRecursion}
use Rattle.fp_model.specs.declared.parts.Leg.{Leg}
use Rattle.fp_model.specs.declared.parts.Shipment.{Shipment}
use Rattle.fp_model.specs.Numbered.{shipment_at}
use Rattle.fp_model.specs.Problem.{Problem, weight_at}
use Rattle.fp_tree.specs.declared.sides.Side.{Side}
use Rattle.fp_tree.specs.Sides.{ways_of}
use Rattle.fp_allowed.specs.Walks.{IsWalkBy}
use Rattle.fp_prices.specs.Leaves.{walk_cost}
use Rattle.fp_prices_spans.specs.declared.ways.TheConstants.{MOST_WAYS}
use Rattle.fp_prices_spans.specs.Spans.{ClassSpan}

-- over sixteen times as many nodes no sum of prices passes its limit either
abbrev pub ways_fit : Problem → Bool
ways_fit p = nat_lt (16 * p.scale) (2 ^ 32) && nat_lt (weight_at (16 * p.scale) p.arcs p.shipments) (2 ^ 127)

-- the arcs that count of those that sides ask the shipment with the number k to go by: the first ones, and none where sums don't fit
abbrev pub ways_under : Problem → List Side → ℕ → List ℕ
ways_under p sides k = if ways_fit p then take MOST_WAYS (ways_of k sides) else []

-- the arcs by which its walks go at a leaf: those that count where spans price the leaf, and else none
abbrev pub leaf_ways : Problem → List Side → List ClassSpan → ℕ → List ℕ
leaf_ways p sides [] k = []
leaf_ways p sides (span ∷ spans) k = ways_under p sides k

-- a walk goes by each of some arcs
abbrev pub GoesBy : List ℕ → List Leg → Type 0
GoesBy ways walk = AllByRecursion (λ arc. AnyByRecursion (λ (c : Leg). c.arc ≡ arc) walk) ways

-- an allowed walk of a shipment by heads that goes by each of some arcs
pub record IsWalkVia (p : Problem) (heads : Leg → ℕ) (ways : List ℕ) (allowed : Leg → Bool) (s : Shipment) (walk : List Leg) : Type 0 where
  pub by_heads : IsWalkBy p heads allowed s walk
  pub goes_by : GoesBy ways walk

-- the least cost of such a walk
pub record IsLeastCostVia (p : Problem) (heads : Leg → ℕ) (ways : List ℕ) (allowed : Leg → Bool) (s : Shipment) (price : Leg → ℕ) (n : ℕ) : Type 0 where
  pub walk : List Leg
  pub is : IsWalkVia p heads ways allowed s walk
  pub cost : walk_cost p price s.size walk ≡ n
  pub least : (other : List Leg) → IsWalkVia p heads ways allowed s other → n ≤ walk_cost p price s.size other

-- a shipment has no such walk
abbrev pub HasNoWalkVia : Problem → (Leg → ℕ) → List ℕ → (Leg → Bool) → Shipment → Type 0
HasNoWalkVia p heads ways allowed s = (walk : List Leg) → IsWalkVia p heads ways allowed s walk → ⊥

-- the least cost of such a walk, or that the shipment has none
abbrev pub IsLeastVia : Problem → (Leg → ℕ) → List ℕ → (Leg → Bool) → Shipment → (Leg → ℕ) → Option ℕ → Type 0
IsLeastVia p heads ways allowed s price o = MatchOption o (HasNoWalkVia p heads ways allowed s) (IsLeastCostVia p heads ways allowed s price)

-- by heads and arcs for each shipment, some shipment has no such walk
pub record IsEmptyVia (p : Problem) (heads : ℕ → Leg → ℕ) (ways : ℕ → List ℕ) (allowed : ℕ → Leg → Bool) : Type 0 where
  pub shipment : ℕ
  pub exists : shipment < length p.shipments
  pub none : HasNoWalkVia p (heads shipment) (ways shipment) (allowed shipment) (shipment_at p shipment)

-- and the one with the number k is the first that has none
pub record IsFirstWithoutVia (p : Problem) (heads : ℕ → Leg → ℕ) (ways : ℕ → List ℕ) (allowed : ℕ → Leg → Bool) (k : ℕ) : Type 0 where
  pub exists : k < length p.shipments
  pub none : HasNoWalkVia p (heads k) (ways k) (allowed k) (shipment_at p k)
  pub before : (j : ℕ) → j < k → HasNoWalkVia p (heads j) (ways j) (allowed j) (shipment_at p j) → ⊥
