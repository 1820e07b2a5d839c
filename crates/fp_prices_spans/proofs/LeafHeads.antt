-- A leaf's heads are points that aren't before the heads of the classes, and the classes of its plans are walks by them.
use Rattle.std.proofs.Common.{◌≡◌, ℕ, ◌<◌, Bool, List, [], ◌∷◌, length, map, refl, arith}
use Rattle.std.specs.Prelude.{Option}
use Rattle.fp_base_lists.specs.Numbered.{AllZipFrom}
use Rattle.fp_model.specs.declared.parts.Leg.{Leg}
use Rattle.fp_model.specs.declared.parts.Shipment.{Shipment}
use Rattle.fp_model.specs.Numbered.{route_at, shipment_at}
use Rattle.fp_model.specs.Problem.{IsValid, Problem}
use Rattle.fp_flatnet.specs.declared.window_tables.Window.{Window}
use Rattle.fp_longestarcs.specs.Classes.{class_of, head_of}
use Rattle.fp_longestarcs.specs.Networks.{TimedNetwork, points_in}
use Rattle.fp_longestarcs.specs.Whole.{IsWholeNetwork}
use Rattle.fp_tree.specs.declared.sides.Side.{Side}
use Rattle.fp_allowed.specs.Allowed.{is_allowed}
use Rattle.fp_allowed.specs.Heads.{heads_within}
use Rattle.fp_allowed.specs.SamePoints.{AgreeOnPoints}
use Rattle.fp_allowed.specs.Walks.{IsTimedWalk, IsWalkBy}
use Rattle.fp_allowed.proofs.Heads.{walk-timed}
use Rattle.fp_allowed.proofs.PlanClasses.{plan_timed, plan_walks, route_timed, route_walk}
use Rattle.fp_allowed.proofs.SamePoints.{allowed_walk_same, shipment_walk_same}
use Rattle.fp_prices.specs.Leaves.{IsPlanOfLeaf}
use Rattle.fp_prices.specs.Points.{AreHeads}
use Rattle.fp_prices.proofs.PointEdges.{are-heads, are-heads_within}
use Rattle.fp_prices_spans.specs.SpanLeaves.{leaf_heads}
use Rattle.fp_prices_spans.specs.Spans.{ClassSpan}

-- without spans they are the heads of the classes
pub heads-without : (p : Problem) (windows : ℕ → ℕ → Option Window) (points : ℕ → List ℕ) (spans : List ClassSpan) (k : ℕ) → length spans ≡ 0 → leaf_heads p windows points spans k ≡ head_of p points
heads-without p windows points [] k none = refl
heads-without p windows points (span ∷ spans) k none = absurd (omega (arith, none))

-- and with some they are those for the shipment
pub heads-with : (p : Problem) (windows : ℕ → ℕ → Option Window) (points : ℕ → List ℕ) (spans : List ClassSpan) (k : ℕ) → 0 < length spans →
    leaf_heads p windows points spans k ≡ heads_within p windows points k
heads-with p windows points [] k some = absurd (omega (arith, some))
heads-with p windows points (span ∷ spans) k some = refl

-- over a whole network they are points of the terminals that the classes enter
pub are-leaf_heads : (p : Problem) (net : TimedNetwork) (windows : ℕ → ℕ → Option Window) (spans : List ClassSpan) (k : ℕ) → IsValid p → IsWholeNetwork p net →
    AreHeads p net (leaf_heads p windows (points_in net) spans k)
are-leaf_heads p net windows [] k valid whole = are-heads p net valid whole
are-leaf_heads p net windows (span ∷ spans) k valid whole = are-heads_within p net windows k valid whole

-- so a walk by a leaf's heads is a timed walk
pub leaf_walk-timed : (p : Problem) (windows : ℕ → ℕ → Option Window) (points : ℕ → List ℕ) (spans : List ClassSpan) (k : ℕ) (allowed : Leg → Bool) (s : Shipment) (walk : List Leg) →
    IsWalkBy p (leaf_heads p windows points spans k) allowed s walk → IsTimedWalk p points allowed s walk
leaf_walk-timed p windows points [] k allowed s walk goes = goes
leaf_walk-timed p windows points (span ∷ spans) k allowed s walk goes = walk-timed p windows points k allowed s walk goes

-- over other lists of the same points it is a walk by the heads there
pub leaf_walk-same : (p : Problem) (valid : IsValid p) (points others : ℕ → List ℕ) (same : AgreeOnPoints p points others) (windows : ℕ → ℕ → Option Window) (sides : List Side) (spans : List ClassSpan)
    (k : ℕ) (s : Shipment) (walk : List Leg) → IsWalkBy p (leaf_heads p windows points spans k) (is_allowed p windows points sides k) s walk →
    IsWalkBy p (leaf_heads p windows others spans k) (is_allowed p windows others sides k) s walk
leaf_walk-same p valid points others same windows sides [] k s walk goes = allowed_walk_same p valid points others same windows sides k s walk goes
leaf_walk-same p valid points others same windows sides (span ∷ spans) k s walk goes = shipment_walk_same p valid points others same windows sides k s walk goes

-- the classes of a plan of the leaf are an allowed walk of each shipment by the leaf's heads
pub leaf_plan-walks : (p : Problem) (windows : ℕ → ℕ → Option Window) (points : ℕ → List ℕ) (sides : List Side) (spans : List ClassSpan) (d : ℕ) (plan : List (List Leg)) → IsPlanOfLeaf p windows sides d plan →
    AllZipFrom (λ k (s : Shipment) r. IsWalkBy p (leaf_heads p windows points spans k) (is_allowed p windows points sides k) s r) 0 p.shipments (map (map (class_of p points d)) plan)
leaf_plan-walks p windows points sides [] d plan of_leaf = plan_timed p windows points sides d plan of_leaf.denominator of_leaf.plan of_leaf.within of_leaf.obeys
leaf_plan-walks p windows points sides (span ∷ spans) d plan of_leaf = plan_walks p windows points sides d plan of_leaf.denominator of_leaf.plan of_leaf.within of_leaf.obeys

-- and those of a route are one of its shipment
pub leaf_route-walk : (p : Problem) (windows : ℕ → ℕ → Option Window) (points : ℕ → List ℕ) (sides : List Side) (spans : List ClassSpan) (d k : ℕ) (plan : List (List Leg)) → k < length p.shipments →
    IsPlanOfLeaf p windows sides d plan →
    IsWalkBy p (leaf_heads p windows points spans k) (is_allowed p windows points sides k) (shipment_at p k) (map (class_of p points d) (route_at plan k))
leaf_route-walk p windows points sides [] d k plan exists of_leaf =
    route_timed p windows points sides d k plan of_leaf.denominator exists of_leaf.plan of_leaf.within of_leaf.obeys
leaf_route-walk p windows points sides (span ∷ spans) d k plan exists of_leaf =
    route_walk p windows points sides d k plan of_leaf.denominator exists of_leaf.plan of_leaf.within of_leaf.obeys
