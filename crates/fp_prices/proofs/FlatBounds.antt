-- The flat bound is at most the value of each leaf by linear prices, whatever its sides and points.
use Rattle.std.proofs.Common.{◌≡◌, ℕ, ◌+◌, ◌*◌, ◌≤◌, Bool, false, List, [], ◌∷◌, refl, sym, ap, ◌∙◌, subst, arith}
use Rattle.std.specs.Prelude.{Option, sum_by, if◌then◌else◌}
use Rattle.std.proofs.lemmas.List.Sums.{sum_by-cons}
use Rattle.fp_base_lists.specs.Numbered.{AllZipFrom}
use Rattle.fp_model.specs.declared.parts.Leg.{Leg}
use Rattle.fp_model.specs.declared.parts.Shipment.{Shipment}
use Rattle.fp_model.specs.Costs.{all_legs, has_leg}
use Rattle.fp_model.specs.Problem.{Problem, arc_at}
use Rattle.fp_model.specs.Routes.{arcs_of}
use Rattle.fp_flatnet.specs.declared.window_tables.Window.{Window}
use Rattle.fp_tree.specs.declared.sides.Side.{Side}
use Rattle.fp_allowed.specs.Allowed.{is_allowed}
use Rattle.fp_prices.specs.declared.leaf_prices.Kind.TheVariants.{Linear}
use Rattle.fp_prices.specs.FlatBounds.{IsFlatBound, IsLeastArcsPrice, arc_price, arcs_price}
use Rattle.fp_prices.specs.Leaves.{IsLeafValue, IsLeastCost, walk_cost}
use Rattle.fp_prices.specs.Prices.{linear_price}
use Rattle.fp_prices.specs.Shares.{ClassShare}
use Rattle.fp_prices.proofs.PlainChains.{all_legs-plain}

-- by linear prices a walk costs what its arcs cost
walk_cost-linear : (p : Problem) (size : ℕ) (walk : List Leg) → walk_cost p (λ c. linear_price p.scale (arc_at p c.arc) size) size walk ≡ arcs_price p size (arcs_of walk)
walk_cost-linear p size [] = refl
walk_cost-linear p size (c ∷ walk) =
    sum_by-cons (λ (l : Leg). linear_price p.scale (arc_at p l.arc) size + p.scale * (arc_at p l.arc).freight * size) c walk ∙
    ap (λ (n : ℕ). arc_price p size c.arc + n) (walk_cost-linear p size walk) ∙ sym (sum_by-cons (arc_price p size) c.arc (arcs_of walk))

-- the least prices of arcs are at most the least costs by linear prices
prices-le : (p : Problem) (points : ℕ → List ℕ) (allowed : ℕ → Leg → Bool) (i : ℕ) (shipments : List Shipment) (prices costs : List ℕ) → AllZipFrom (λ (k : ℕ) (s : Shipment) n. IsLeastArcsPrice p s n) i shipments prices →
    AllZipFrom (λ k (s : Shipment) n. IsLeastCost p points (allowed k) s (λ c. linear_price p.scale (arc_at p c.arc) s.size) n) i shipments costs → sum_by (λ (n : ℕ). n) prices ≤ sum_by (λ (n : ℕ). n) costs
prices-le p points allowed i [] [] [] flat least = omega arith
prices-le p points allowed i [] [] (n ∷ costs) flat least = absurd least
prices-le p points allowed i [] (m ∷ prices) costs flat least = absurd flat
prices-le p points allowed i (s ∷ shipments) [] costs flat least = absurd flat
prices-le p points allowed i (s ∷ shipments) (m ∷ prices) [] flat least = absurd least
prices-le p points allowed i (s ∷ shipments) (m ∷ prices) (n ∷ costs) flat least =
    let own : m ≤ arcs_price p s.size (arcs_of least.0.walk) = flat.0.least (arcs_of least.0.walk) least.0.timed.leads in
    let rest : sum_by (λ (k : ℕ). k) prices ≤ sum_by (λ (k : ℕ). k) costs = prices-le p points allowed (i + 1) shipments prices costs flat.1 least.1 in
    omega (arith, own, walk_cost-linear p s.size least.0.walk, least.0.cost, rest, sum_by-cons (λ (k : ℕ). k) m prices, sum_by-cons (λ (k : ℕ). k) n costs)

-- the flat bound is at most the value of each plain leaf by linear prices, whatever its windows, points, sides and tables
pub flat-le : (p : Problem) (windows : ℕ → ℕ → Option Window) (points : ℕ → List ℕ) (sides : List Side) (tables : List (List ClassShare)) (flat value : ℕ) → IsFlatBound p flat →
    IsLeafValue p windows points sides tables Linear false value → flat ≤ value
flat-le p windows points sides tables flat value is leaf =
    let allowed : ℕ → Leg → Bool = is_allowed p windows points sides in
    let none : all_legs leaf.chains ≡ [] = all_legs-plain p allowed 0 p.shipments leaf.chains leaf.are_chains in
    let Priced : List Leg → Type 0 = λ legs.
    AllZipFrom (λ k (s : Shipment) n. IsLeastCost p points (allowed k) s (λ c. if has_leg c legs then 0 else linear_price p.scale (arc_at p c.arc) s.size) n) 0 p.shipments leaf.costs in
    let least : Priced [] = subst Priced none leaf.are_least in
    omega (arith, is.is, leaf.value_is, prices-le p points allowed 0 p.shipments is.prices leaf.costs is.least least)
