-- The value of a leaf, shipment by shipment.
use Rattle.std.proofs.Common.{◌≡◌, ℕ, ◌+◌, ◌*◌, ◌^◌, ◌<◌, ◌≤◌, Bool, List, [], ◌∷◌, ◌++◌, length, get_or, take, sym, subst, arith}
use Rattle.std.specs.Prelude.{Option, Some, None, sum_by}
use Rattle.std.proofs.Math.Nat.{mul-le-mul_left}
use Rattle.std.proofs.lemmas.List.{get_or-take, length-take, take_all, take_more}
use Rattle.std.proofs.lemmas.List.Sums.{sum_by-append, sum_by-cons, sum_by_more_le}
use Rattle.fp_model.specs.declared.parts.Leg.{Leg}
use Rattle.fp_model.specs.declared.parts.Shipment.{Shipment}
use Rattle.fp_model.specs.Numbered.{no_shipment, shipment_at}
use Rattle.fp_base_lists.specs.Numbered.{AllZipFrom}
use Rattle.fp_model.specs.Problem.{IsValid, Problem, alone_cost, alone_total}
use Rattle.fp_base_lists.proofs.Numbered.{AllZipFrom-get_or, AllZipFrom-push}
use Rattle.fp_longestarcs.specs.Networks.{points_in}
use Rattle.fp_allowed.specs.Walks.{IsTimedWalk}
use Rattle.fp_prices.specs.declared.values.bounds.LeafBound.TheVariants.{Empty, Value}
use Rattle.fp_prices.specs.declared.classes.class_prices.ClassPricing.{ClassPricing}
use Rattle.fp_prices.specs.declared.leaf_prices.Kind.{Kind}
use Rattle.fp_prices.specs.ClassCosts.{AllowsClasses, IsLeastOver}
use Rattle.fp_prices.specs.Found.{IsFoundOver, IsPricedLeaf, IsPricedRow, IsSmallCost, leaf_prices}
use Rattle.fp_prices.specs.Leaves.{IsLeastCost, leaf_price}
use Rattle.fp_prices.specs.Pricings.{IsPricing, RowAllows}
use Rattle.fp_prices.specs.Rows.{AreRowsOf}
use Rattle.fp_prices.specs.Shares.{ClassShare}
use Rattle.fp_prices.proofs.SmallBounds.{AreSmallCosts, costs-small}

-- what a leaf's prices are taken for: a kind, tables, chains, and which classes are allowed for whom
pub record IsLeafOf (pricing : ClassPricing) (rows : List (List Bool)) (tables : List (List ClassShare)) (allowed : ℕ → Leg → Bool) (kind : Kind) (chains : List (List Leg)) : Type 0 where
  pub is : IsPricing tables allowed kind chains pricing
  pub rows_of : AreRowsOf pricing.network.now allowed rows
  pub classes : (k : ℕ) → AllowsClasses pricing.network.now (allowed k)

-- the value is the bases and the least costs of the shipments so far
pub record AreLeastSoFar (pricing : ClassPricing) (rows : List (List Bool)) (bases i value : ℕ) : Type 0 where
  pub costs : List ℕ
  pub least : (tables : List (List ClassShare)) (allowed : ℕ → Leg → Bool) (kind : Kind) (chains : List (List Leg)) → IsLeafOf pricing rows tables allowed kind chains →
      AllZipFrom (λ k (s : Shipment) n. IsLeastCost pricing.instance.now (points_in pricing.network.now) (allowed k) s (leaf_price pricing.instance.now tables allowed kind chains k s.size) n) 0
      (take i pricing.instance.now.shipments) costs
  pub small : AreSmallCosts pricing.instance.now 0 (take i pricing.instance.now.shipments) costs
  pub is : value ≡ bases + sum_by (λ (n : ℕ). n) costs

pub least_none : (pricing : ClassPricing) (rows : List (List Bool)) (bases : ℕ) → AreLeastSoFar pricing rows bases 0 bases
least_none pricing rows bases = record { costs = []; least = λ tables allowed kind chains leaf. tt; small = tt; is = omega arith }

-- a shipment's row tells what is allowed for it
pub row-allows : (pricing : ClassPricing) (rows : List (List Bool)) (allowed : ℕ → Leg → Bool) (k : ℕ) (row : List Bool) → k < length rows → row ≡ get_or rows k [] → AreRowsOf pricing.network.now allowed rows →
    RowAllows pricing.network.now (allowed k) row
row-allows pricing rows allowed k row inside is are = λ c class. subst (λ (r : List Bool). RowAllows pricing.network.now (allowed k) r) (sym is) (λ e there. are.exact k e inside there) c class

pub row-priced : (pricing : ClassPricing) (rows : List (List Bool)) (k : ℕ) (row : List Bool) → k < length rows → row ≡ get_or rows k [] → IsPricedLeaf pricing rows → IsPricedRow pricing k row
row-priced pricing rows k row inside is priced = record {
  tables = priced.tables;
  allowed = priced.allowed;
  kind = priced.kind;
  chains = priced.chains;
  is = priced.is;
  allows = row-allows pricing rows priced.allowed k row inside is priced.rows_of;
  classes = priced.classes k;
}

-- one more shipment that has a cost
pub least_more : (pricing : ClassPricing) (rows : List (List Bool)) (bases i value cost : ℕ) (row : List Bool) (o : Option ℕ) → o ≡ Some cost → i < length pricing.instance.now.shipments → i < length rows → row ≡ get_or rows i [] →
    AreLeastSoFar pricing rows bases i value → IsSmallCost pricing.instance.now i o →
    ((tables : List (List ClassShare)) (allowed : ℕ → Leg → Bool) (kind : Kind) (chains : List (List Leg)) → IsPricing tables allowed kind chains pricing → RowAllows pricing.network.now (allowed i) row →
    AllowsClasses pricing.network.now (allowed i) → IsLeastOver pricing.instance.now (points_in pricing.network.now) (allowed i) (shipment_at pricing.instance.now i) (leaf_prices pricing.instance.now tables allowed kind chains i) o) →
    AreLeastSoFar pricing rows bases (i + 1) (value + cost)
least_more pricing rows bases i value cost row o found exists inside is so_far small least =
    let p : Problem = pricing.instance.now in
    let more : take (i + 1) p.shipments ≡ take i p.shipments ++ (shipment_at p i ∷ []) = take_more p.shipments i no_shipment exists in
    let number : 0 + length (take i p.shipments) ≡ i = omega (arith, length-take i p.shipments, exists) in
    let one : sum_by (λ (n : ℕ). n) (cost ∷ []) ≡ cost = omega (arith, sum_by-cons (λ (n : ℕ). n) cost []) in
    record {
      costs = so_far.costs ++ (cost ∷ []);
      least = λ tables allowed kind chains leaf.
          let Q : ℕ → Shipment → ℕ → Type 0 = λ k s n. IsLeastCost p (points_in pricing.network.now) (allowed k) s (leaf_price p tables allowed kind chains k s.size) n in
          subst (λ (l : List Shipment). AllZipFrom Q 0 l (so_far.costs ++ (cost ∷ []))) (sym more)
          (AllZipFrom-push Q 0 (take i p.shipments) so_far.costs (shipment_at p i) cost (so_far.least tables allowed kind chains leaf)
          (subst (λ (k : ℕ). Q k (shipment_at p i) cost) (sym number)
          (subst (λ (x : Option ℕ). IsLeastOver p (points_in pricing.network.now) (allowed i) (shipment_at p i) (leaf_prices p tables allowed kind chains i) x) found
          (least tables allowed kind chains leaf.is (row-allows pricing rows allowed i row inside is leaf.rows_of) (leaf.classes i)))));
      small =
          let Q : ℕ → Shipment → ℕ → Type 0 = λ k s n. n ≤ 65536 * (p.scale * sum_by (alone_cost s.size) p.arcs) in
          subst (λ (l : List Shipment). AllZipFrom Q 0 l (so_far.costs ++ (cost ∷ []))) (sym more) (AllZipFrom-push Q 0 (take i p.shipments) so_far.costs (shipment_at p i) cost so_far.small (subst (IsSmallCost p i) found small));
      is = omega (arith, so_far.is, one, sum_by-append (λ (n : ℕ). n) so_far.costs (cost ∷ []));
    }

-- one more cost fits
pub more-fits : (pricing : ClassPricing) (rows : List (List Bool)) (bases i value cost : ℕ) (o : Option ℕ) → o ≡ Some cost → IsValid pricing.instance.now → i < length pricing.instance.now.shipments → AreLeastSoFar pricing rows bases i value →
    IsSmallCost pricing.instance.now i o → bases ≤ pricing.instance.now.scale * alone_total pricing.instance.now.arcs pricing.instance.now.shipments → value + cost < 2 ^ 128
more-fits pricing rows bases i value cost o found valid exists so_far small few =
    let p : Problem = pricing.instance.now in
    let own : Shipment → ℕ = λ s. sum_by (alone_cost s.size) p.arcs in
    let costs : sum_by (λ (n : ℕ). n) so_far.costs ≤ p.scale * 65536 * alone_total p.arcs (take i p.shipments) = costs-small p 0 (take i p.shipments) so_far.costs so_far.small in
    let part : sum_by own (take i p.shipments) + own (shipment_at p i) ≤ sum_by own p.shipments = sum_by_more_le own p.shipments i no_shipment exists in
    let scaled : p.scale * 65536 * (sum_by own (take i p.shipments) + own (shipment_at p i)) ≤ p.scale * 65536 * sum_by own p.shipments = mul-le-mul_left (p.scale * 65536) part in
    let whole : p.scale * 65536 * (sum_by own (take i p.shipments) + own (shipment_at p i)) ≡ p.scale * 65536 * sum_by own (take i p.shipments) + 65536 * (p.scale * own (shipment_at p i)) = omega arith in
    let own_cost : cost ≤ 65536 * (p.scale * own (shipment_at p i)) = subst (IsSmallCost p i) found small in
    omega (arith, so_far.is, costs, scaled, whole, own_cost, few, valid.fits)

-- the first shipment that has no cost
pub first_without : (pricing : ClassPricing) (rows : List (List Bool)) (bases i value : ℕ) (row : List Bool) (o : Option ℕ) → o ≡ None → i < length pricing.instance.now.shipments → i < length rows → row ≡ get_or rows i [] →
    AreLeastSoFar pricing rows bases i value →
    ((tables : List (List ClassShare)) (allowed : ℕ → Leg → Bool) (kind : Kind) (chains : List (List Leg)) → IsPricing tables allowed kind chains pricing → RowAllows pricing.network.now (allowed i) row →
    AllowsClasses pricing.network.now (allowed i) → IsLeastOver pricing.instance.now (points_in pricing.network.now) (allowed i) (shipment_at pricing.instance.now i) (leaf_prices pricing.instance.now tables allowed kind chains i) o) →
    (tables : List (List ClassShare)) (allowed : ℕ → Leg → Bool) (kind : Kind) (chains : List (List Leg)) → IsLeafOf pricing rows tables allowed kind chains →
    IsFoundOver pricing.instance.now (points_in pricing.network.now) allowed (leaf_price pricing.instance.now tables allowed kind chains) bases (Empty i)
first_without pricing rows bases i value row o found exists inside is so_far none tables allowed kind chains leaf =
    let p : Problem = pricing.instance.now in
    record {
      exists = exists;
      none = subst (λ (x : Option ℕ). IsLeastOver p (points_in pricing.network.now) (allowed i) (shipment_at p i) (leaf_prices p tables allowed kind chains i) x) found
          (none tables allowed kind chains leaf.is (row-allows pricing rows allowed i row inside is leaf.rows_of) (leaf.classes i));
      before = λ j h no_walk.
          let Q : ℕ → Shipment → ℕ → Type 0 = λ k s n. IsLeastCost p (points_in pricing.network.now) (allowed k) s (leaf_price p tables allowed kind chains k s.size) n in
          let at = AllZipFrom-get_or Q (take i p.shipments) so_far.costs no_shipment 0 0 j (so_far.least tables allowed kind chains leaf) (omega (arith, h, length-take i p.shipments, exists)) in
          let same : get_or (take i p.shipments) j no_shipment ≡ shipment_at p j = get_or-take i p.shipments j no_shipment h in
          let number : 0 + j ≡ j = omega arith in
          no_walk at.walk
          (subst (λ (k : ℕ). IsTimedWalk p (points_in pricing.network.now) (allowed k) (shipment_at p j) at.walk) number
          (subst (λ (s : Shipment). IsTimedWalk p (points_in pricing.network.now) (allowed (0 + j)) s at.walk) same at.timed));
    }

-- all shipments have a cost
pub least_all : (pricing : ClassPricing) (rows : List (List Bool)) (bases i value : ℕ) → length pricing.instance.now.shipments ≤ i → AreLeastSoFar pricing rows bases i value →
    (tables : List (List ClassShare)) (allowed : ℕ → Leg → Bool) (kind : Kind) (chains : List (List Leg)) → IsLeafOf pricing rows tables allowed kind chains →
    IsFoundOver pricing.instance.now (points_in pricing.network.now) allowed (leaf_price pricing.instance.now tables allowed kind chains) bases (Value value)
least_all pricing rows bases i value all so_far tables allowed kind chains leaf =
    let p : Problem = pricing.instance.now in
    let whole : take i p.shipments ≡ p.shipments = take_all i p.shipments all in
    record {
      costs = so_far.costs;
      least = subst (λ (l : List Shipment). AllZipFrom (λ k (s : Shipment) n. IsLeastCost p (points_in pricing.network.now) (allowed k) s (leaf_price p tables allowed kind chains k s.size) n) 0 l so_far.costs) whole
          (so_far.least tables allowed kind chains leaf);
      small = subst (λ (l : List Shipment). AreSmallCosts p 0 l so_far.costs) whole so_far.small;
      is = so_far.is;
    }
