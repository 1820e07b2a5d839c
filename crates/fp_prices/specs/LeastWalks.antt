-- Walks of least cost, and the timed nodes that they meet. A timed node is a terminal and a point of it.
-- Timed nodes and arcs: Boland, Hewitt, Marshall and Savelsbergh, "The Continuous-Time Service Network Design Problem",
-- Operations Research 65, 2017.
use Rattle.std.specs.Prelude.{ℕ, ◌≡◌, ◌<◌, ◌≤◌, List, [], ◌∷◌, length, slice_get, Bool, ◌&&◌, nat_eq, nat_lt, Option, Some, MatchOption, if◌then◌else◌}
use Rattle.fp_base_lists.specs.Distinct.{AreDistinct}
use Rattle.fp_base_lists.specs.Numbered.{AllZipFrom}
use Rattle.fp_model.specs.declared.parts.Leg.{Leg}
use Rattle.fp_model.specs.declared.parts.Shipment.{Shipment}
use Rattle.fp_model.specs.Numbered.{shipment_at}
use Rattle.fp_model.specs.Problem.{Problem, arc_at}
use Rattle.fp_flatnet.specs.declared.window_tables.Window.{Window}
use Rattle.fp_longestarcs.specs.Classes.{head_of}
use Rattle.fp_longestarcs.specs.Networks.{TimedNetwork, class_count}
use Rattle.fp_tree.specs.declared.sides.Side.{Side}
use Rattle.fp_allowed.specs.Allowed.{is_allowed}
use Rattle.fp_allowed.specs.Listing.{class_at}
use Rattle.fp_allowed.specs.Walks.{IsTimedWalk}
use Rattle.fp_prices.specs.declared.leaf_prices.Kind.{Kind}
use Rattle.fp_prices.specs.Leaves.{IsChain, leaf_price, walk_cost}
use Rattle.fp_prices.specs.Shares.{ClassShare}

-- the classes of a walk in the graph of a network's points: those of its edges that aren't holding edges
abbrev pub classes_on : TimedNetwork → List ℕ → List Leg
classes_on net [] = []
classes_on net (e ∷ edges) = if nat_lt e (class_count net) then class_at net e ∷ classes_on net edges else classes_on net edges

-- the timed node that a class leaves
abbrev pub node_left : Problem → Leg → ℕ × ℕ
node_left p c = ((arc_at p c.arc).from, c.depart)

-- the timed node that a class enters
abbrev pub node_entered : Problem → (ℕ → List ℕ) → Leg → ℕ × ℕ
node_entered p points c = ((arc_at p c.arc).to, head_of p points c)

-- whether two timed nodes are the same
abbrev pub same_node : ℕ × ℕ → ℕ × ℕ → Bool
same_node m n = nat_eq m.0 n.0 && nat_eq m.1 n.1

-- the timed nodes that a walk meets from one where it stands: that one, the one that each class leaves, if it waited for it, and the one that each enters
abbrev pub nodes_met : Problem → (ℕ → List ℕ) → ℕ × ℕ → List Leg → List (ℕ × ℕ)
nodes_met p points here [] = here ∷ []
nodes_met p points here (c ∷ walk) =
    if same_node here (node_left p c) then here ∷ nodes_met p points (node_entered p points c) walk
    else here ∷ (node_left p c ∷ nodes_met p points (node_entered p points c) walk)

-- a walk of a shipment, which stands at its origin from 0 on, repeats no timed node
abbrev pub RepeatsNoNode : Problem → (ℕ → List ℕ) → Shipment → List Leg → Type 0
RepeatsNoNode p points s walk = AreDistinct (nodes_met p points (s.from, 0) walk)

-- an allowed timed walk of least cost of a shipment that repeats no timed node
pub record IsLeastWalk (p : Problem) (points : ℕ → List ℕ) (allowed : Leg → Bool) (s : Shipment) (price : Leg → ℕ) (walk : List Leg) : Type 0 where
  pub timed : IsTimedWalk p points allowed s walk
  pub least : (other : List Leg) → IsTimedWalk p points allowed s other → walk_cost p price s.size walk ≤ walk_cost p price s.size other
  pub apart : RepeatsNoNode p points s walk

-- an allowed timed walk at a cost that repeats no timed node
pub record IsWalkOfCost (p : Problem) (points : ℕ → List ℕ) (allowed : Leg → Bool) (s : Shipment) (price : Leg → ℕ) (walk : List Leg) (cost : ℕ) : Type 0 where
  pub timed : IsTimedWalk p points allowed s walk
  pub costs_so : walk_cost p price s.size walk ≡ cost
  pub apart : RepeatsNoNode p points s walk

-- a walk of least cost, or that the shipment has no allowed timed walk
abbrev pub IsLeastWalkOver : Problem → (ℕ → List ℕ) → (Leg → Bool) → Shipment → (Leg → ℕ) → Option (List Leg) → Type 0
IsLeastWalkOver p points allowed s price o =
    MatchOption o ((walk : List Leg) → IsTimedWalk p points allowed s walk → ⊥) (IsLeastWalk p points allowed s price)

-- for each shipment a walk of least cost under the prices of a leaf
pub record AreLeastWalks (p : Problem) (windows : ℕ → ℕ → Option Window) (points : ℕ → List ℕ) (sides : List Side) (tables : List (List ClassShare)) (kind : Kind) (forced : Bool) (walks : List (List Leg)) : Type 0 where
  pub chains : List (List Leg)
  pub are_chains : AllZipFrom (λ k. IsChain p (is_allowed p windows points sides k) forced) 0 p.shipments chains
  pub are_least : AllZipFrom
      (λ k (s : Shipment) walk. IsLeastWalk p points (is_allowed p windows points sides k) s (leaf_price p tables (is_allowed p windows points sides) kind chains k s.size) walk)
      0 p.shipments walks

-- each shipment has the walk that is preferred for it, where that is such a walk under the prices of the leaf, whose chains are unique
abbrev pub HasPreferred : Problem → (ℕ → ℕ → Option Window) → (ℕ → List ℕ) → List Side → List (List ClassShare) → Kind → (forced : Bool) → (preferred walks : List (List Leg)) → Type 0
HasPreferred p windows points sides tables kind forced preferred walks =
    (chains : List (List Leg)) → AllZipFrom (λ k. IsChain p (is_allowed p windows points sides k) forced) 0 p.shipments chains →
    (k : ℕ) (walk : List Leg) → k < length p.shipments → slice_get preferred k ≡ Some walk →
    IsLeastWalk p points (is_allowed p windows points sides k) (shipment_at p k)
    (leaf_price p tables (is_allowed p windows points sides) kind chains k (shipment_at p k).size) walk →
    slice_get walks k ≡ Some walk
