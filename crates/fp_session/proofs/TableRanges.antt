-- Tables of prices of a run are in range and countable.
use Rattle.std.proofs.Common.{ℕ, ◌*◌, ◌≤◌, List, [], ◌∷◌, length, get_or, arith}
use Rattle.std.specs.Prelude.{All, sum_by}
use Rattle.std.specs.List.{AllByRecursion}
use Rattle.std.proofs.Math.Nat.{mul-le-mul_left}
use Rattle.std.proofs.lemmas.List.Elements.{All-from_recursion, All-get_or}
use Rattle.std.proofs.lemmas.List.Sums.{sum_by-cons}
use Rattle.fp_base_lists.proofs.Elements.{AllByRecursion-weaker}
use Rattle.fp_model.specs.declared.limits.TheConstants.{GREATEST_AMOUNT, GREATEST_SCALE}
use Rattle.fp_model.specs.Problem.{IsArc, IsValid, Problem, arc_at, no_arc}
use Rattle.fp_prices.specs.declared.tables.Weight.{Weight}
use Rattle.fp_prices.specs.Prices.{KeepsRule}
use Rattle.fp_prices.specs.Shares.{ClassShare}
use Rattle.fp_prices.specs.Tables.{AreCountable}
use Rattle.fp_certificate_lines.specs.Ranges.{IsShareInRange}
use Rattle.fp_duals.specs.PriceLines.{AreWithinLimits, line_count, line_total}
use Rattle.fp_duals.specs.PriceTables.{ArePriceTables, IsShareOf}
use Rattle.fp_duals.proofs.PriceLines.{shares-le-lines, tables-le-lines}

-- each term is at most the sum
terms-le : {X : Type 0} (f : X → ℕ) (xs : List X) → AllByRecursion (λ x. f x ≤ sum_by f xs) xs
terms-le f [] = tt
terms-le f (x ∷ xs) = (
  omega (arith, sum_by-cons f x xs),
  AllByRecursion-weaker (λ y. f y ≤ sum_by f xs) (λ y. f y ≤ sum_by f (x ∷ xs)) (λ y le. omega (arith, le, sum_by-cons f x xs)) xs (terms-le f xs),
)

-- a share that keeps the price rule is in range
share-in_range : (p : Problem) (share : ClassShare) → IsValid p → KeepsRule p.scale (arc_at p share.arc) share → IsShareOf p share → share.point ≤ Rattle.fp_model.specs.declared.limits.TheConstants.LATEST → IsShareInRange p share
share-in_range p share valid keeps of_instance point =
    let arc : IsArc (length p.terminals) (arc_at p share.arc) = All-get_or (IsArc (length p.terminals)) p.arcs share.arc no_arc of_instance.arc valid.parts.arcs in
    let cap : ℕ = (arc_at p share.arc).capacity in
    let some : 1 ≤ cap = arc.within.capacity.0 in
    let times : share.v * 1 ≤ share.v * cap = mul-le-mul_left share.v some in
    let cost : (arc_at p share.arc).truck ≤ GREATEST_AMOUNT = arc.within.truck in
    let scale : p.scale ≤ GREATEST_SCALE = valid.scale.1 in
    let one : p.scale * (arc_at p share.arc).truck ≤ p.scale * GREATEST_AMOUNT = mul-le-mul_left p.scale cost in
    let most : p.scale * (arc_at p share.arc).truck ≤ GREATEST_SCALE * GREATEST_AMOUNT = omega (arith, one, scale) in
    record {
      arc = of_instance.arc;
      point = point;
      price = omega (arith, keeps, times, most);
      weights = λ i d lt.
          let le : (get_or share.weights i d).w ≤ sum_by (λ (w : Weight). w.w) share.weights =
          All-from_recursion (λ (w : Weight). w.w ≤ sum_by (λ (x : Weight). x.w) share.weights) share.weights (terms-le (λ (w : Weight). w.w) share.weights) i d lt in
          record { shipment = of_instance.weights i d lt; small = omega (arith, keeps, le, most) };
    }

-- so are tables of a run
pub tables-in_range : (p : Problem) (tables : List (List ClassShare)) → IsValid p → ArePriceTables p tables → AreWithinLimits tables → All (All (IsShareInRange p)) tables
tables-in_range p tables valid are within = λ i d lt j e less.
    let table : List ClassShare = get_or tables i d in
    share-in_range p (get_or table j e) valid
    (All-from_recursion (λ (share : ClassShare). KeepsRule p.scale (arc_at p share.arc) share) table
    (All-from_recursion (λ (t : List ClassShare). AllByRecursion (λ (share : ClassShare). KeepsRule p.scale (arc_at p share.arc) share) t) tables are.in_order.rule i d lt) j e less)
    (are.of_instance i d lt j e less) (within.each i d lt j e less)

-- the tables of a run are countable
pub tables-countable : (p : Problem) (tables : List (List ClassShare)) → ArePriceTables p tables → AreWithinLimits tables → AreCountable p tables
tables-countable p tables are within = record {
  few_tables = omega (arith, tables-le-lines tables, within.lines);
  few_shares = λ i d lt.
      let le : line_count (get_or tables i d) ≤ line_total tables = All-from_recursion (λ (t : List ClassShare). line_count t ≤ line_total tables) tables (terms-le line_count tables) i d lt in
      omega (arith, le, shares-le-lines (get_or tables i d), within.lines);
  arcs = λ i d lt j e less. (are.of_instance i d lt j e less).arc;
}
