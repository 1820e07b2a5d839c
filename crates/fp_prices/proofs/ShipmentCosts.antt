-- What a shipment costs at a leaf, and that it is small.
use Rattle.std.proofs.Common.{◌≡◌, ℕ, zero, suc, ◌*◌, ◌^◌, ◌<◌, ◌≤◌, Bool, true, List, [], ◌∷◌, ◌++◌, length, get_or, ⊎_elim, refl, sym, ap, ◌∙◌, subst, arith, le_trans}
use Rattle.std.specs.Prelude.{All, IfOk, IfSome, Option, Some, None, Result, Ok, Err, sum_by}
use Rattle.std.specs.declared.alloc.AllocError.{AllocError}
use Rattle.std.proofs.Math.Nat.{mul-le-mul_left}
use Rattle.std.proofs.lemmas.Bool.{cases_lt}
use Rattle.std.proofs.lemmas.List.{length-append}
use Rattle.fp_labels.specs.Labels.{IsSmallFor}
use Rattle.fp_model.specs.declared.parts.Leg.{Leg}
use Rattle.fp_model.specs.Numbered.{shipment_at}
use Rattle.fp_model.specs.Problem.{IsValid, Problem, alone_cost, alone_total, arc_at}
use Rattle.fp_timenodes.specs.declared.places.TheConstants.{MOST_POINTS}
use Rattle.fp_longestarcs.specs.Networks.{TimedNetwork, class_count, points_in}
use Rattle.fp_tree.specs.declared.sides.Side.{Side}
use Rattle.fp_allowed.specs.Bits.{IsRowUnder, bit_of}
use Rattle.fp_allowed.specs.Listing.{class_at}
use Rattle.fp_allowed.specs.Settings.{Setting}
use Rattle.fp_prices.specs.declared.classes.class_prices.ClassPricing.{ClassPricing}
use Rattle.fp_prices.specs.declared.leaf_prices.Kind.{Kind}
use Rattle.fp_prices.specs.ClassCosts.{AllowsClasses, HoldsClassCosts, IsFree, IsLeastOver}
use Rattle.fp_prices.specs.Forced.{AreRowsUnder}
use Rattle.fp_prices.specs.Found.{IsPricedRow, IsSmallCost, leaf_prices}
use Rattle.fp_prices.specs.Pricings.{IsPricedClass, IsPricing, RowAllows}
use Rattle.fp_prices.specs.Shares.{ClassShare}
use Rattle.fp_prices.specs.declared.graphs.point_graphs.PointGraph.{PointGraph}
use Rattle.fp_prices.specs.PointGraphs.{IsPointGraph}
use Rattle.fp_prices.proofs.CostBounds.{all-at-most, all-small}
use Rattle.fp_prices.proofs.NumberedClasses.{number-class}
use Rattle.fp_prices.proofs.PricedClasses.{class-exists}
use Rattle.fp_prices.proofs.SetBits.{set-within}
use Rattle.fp_prices.proofs.SmallPrices.{arc-alone, leaf_price-small, priced-alone, shipment-alone}

-- one more row
pub rows_under-push : (s : Setting) (sides : List Side) (rows : List (List Bool)) (i : ℕ) (row : List Bool) → length rows ≡ i → AreRowsUnder s sides rows → IsRowUnder s sides i row → AreRowsUnder s sides (rows ++ (row ∷ []))
rows_under-push s sides rows i row long under is k h =
    ⊎_elim
    (λ (early : k < length rows). subst (IsRowUnder s sides k) (sym (front rows k early)) (under k early))
    (λ (last : length rows ≤ k).
    let at : k ≡ i = omega (arith, h, length-append rows (row ∷ []), long, last) in
    subst (λ (n : ℕ). IsRowUnder s sides n (get_or (rows ++ (row ∷ [])) n [])) (sym at) (subst (IsRowUnder s sides i) (sym (ap (λ (n : ℕ). get_or (rows ++ (row ∷ [])) n []) (sym long) ∙ end rows)) is))
    (cases_lt k (length rows))
  where
    front : (xs : List (List Bool)) (n : ℕ) → n < length xs → get_or (xs ++ (row ∷ [])) n [] ≡ get_or xs n []
    front [] n h = absurd (omega arith)
    front (x ∷ xs) zero h = refl
    front (x ∷ xs) (suc n) h = front xs n (omega arith)

    end : (xs : List (List Bool)) → get_or (xs ++ (row ∷ [])) (length xs) [] ≡ row
    end [] = refl
    end (x ∷ xs) = end xs

-- the classes whose bits are set are priced
pub classes-priced : (pricing : ClassPricing) (k : ℕ) (row : List Bool) → IsPricedRow pricing k row → length row ≡ class_count pricing.network.now → (class : ℕ) → bit_of row class ≡ true → IsPricedClass pricing k class
classes-priced pricing k row priced long class set =
    let net : TimedNetwork = pricing.network.now in
    let at = number-class net class priced.is.whole.valid (omega (arith, set-within row class set, long)) in
    record {
      tables = priced.tables;
      allowed = priced.allowed;
      kind = priced.kind;
      chains = priced.chains;
      is = priced.is;
      allows = sym (priced.allows (class_at net class) at.0) ∙ ap (bit_of row) at.1 ∙ set;
    }

-- the most that a class costs the shipment with the number k
abbrev pub most_of : Problem → ℕ → ℕ
most_of p k = p.scale * sum_by (alone_cost (shipment_at p k).size) p.arcs

-- what holds of the value if there is one
if_some-weaker : (o : Option ℕ) (P Q : ℕ → Type 0) → ((n : ℕ) → P n → Q n) → IfSome o P → IfSome o Q
if_some-weaker None P Q on h = tt
if_some-weaker (Some n) P Q on h = on n h

-- all costs are at most that
pub costs-le_alone : (pricing : ClassPricing) (k : ℕ) (row : List Bool) (graph : PointGraph) (costs : List (Option ℕ)) → IsPointGraph pricing.instance.now pricing.network.now graph → (priced : IsPricedRow pricing k row) →
    k < length pricing.instance.now.shipments → length costs ≡ graph.edges →
    HoldsClassCosts pricing.instance.now pricing.network.now (priced.allowed k) (leaf_prices pricing.instance.now priced.tables priced.allowed priced.kind priced.chains k) (shipment_at pricing.instance.now k).size costs →
    IsFree (class_count pricing.network.now) costs → All (λ (o : Option ℕ). IfSome o (λ n. n ≤ most_of pricing.instance.now k)) costs
costs-le_alone pricing k row graph costs of priced exists long holds free =
    let p : Problem = pricing.instance.now in
    let net : TimedNetwork = pricing.network.now in
    let price : Leg → ℕ = leaf_prices p priced.tables priced.allowed priced.kind priced.chains k in
    all-at-most p net (priced.allowed k) price (shipment_at p k).size costs (most_of p k)
    (record { valid = priced.is.valid; whole = priced.is.whole; count = long ∙ of.count; free = free; classes = priced.classes; holds = holds })
    (λ c allows.
    let arc_exists : c.arc < length p.arcs = class-exists p net c priced.is.whole (priced.classes c allows) in
    le_trans
    (priced-alone p (arc_at p c.arc) (price c) (shipment_at p k).size
    (leaf_price-small p priced.tables priced.allowed priced.kind priced.chains c k priced.is.valid priced.is.keep exists arc_exists allows))
    (mul-le-mul_left p.scale (arc-alone p (shipment_at p k).size c.arc arc_exists)))

-- so many times that fit
most-fits : (p : Problem) (k : ℕ) → IsValid p → k < length p.shipments → 65536 * most_of p k < 2 ^ 127
most-fits p k valid exists =
    let own : p.scale * sum_by (alone_cost (shipment_at p k).size) p.arcs ≤ p.scale * alone_total p.arcs p.shipments = mul-le-mul_left p.scale (shipment-alone p k exists) in
    omega (arith, own, valid.fits)

-- and all costs leave room for a walk over all nodes
pub costs-fit : (p : Problem) (k nodes : ℕ) (costs : List (Option ℕ)) → IsValid p → k < length p.shipments → nodes ≤ MOST_POINTS → All (λ (o : Option ℕ). IfSome o (λ n. n ≤ most_of p k)) costs → All (IsSmallFor nodes) costs
costs-fit p k nodes costs valid exists few small =
    let most : most_of p k * nodes ≤ most_of p k * MOST_POINTS = mul-le-mul_left (most_of p k) few in
    all-small costs nodes (most_of p k) small (omega (arith, most, most-fits p k valid exists))

-- a least cost is small
pub small_ok : (p : Problem) (k nodes : ℕ) (costs : List (Option ℕ)) (r : Result (Option ℕ) AllocError) → nodes ≤ MOST_POINTS → All (λ (o : Option ℕ). IfSome o (λ n. n ≤ most_of p k)) costs →
    IfOk r (λ cost. (most : ℕ) → All (λ (o : Option ℕ). IfSome o (λ n. n ≤ most)) costs → IfSome cost (λ n. n ≤ nodes * most)) → IfOk r (IsSmallCost p k)
small_ok p k nodes costs (Err e) few small told = tt
small_ok p k nodes costs (Ok cost) few small told =
    if_some-weaker cost (λ n. n ≤ nodes * most_of p k) (λ n. n ≤ 65536 * most_of p k) (λ n le.
    let second : most_of p k * nodes ≤ most_of p k * 65536 = mul-le-mul_left (most_of p k) (let e : nodes ≤ 65536 = omega arith in e) in
    omega (arith, le, second)) (told (most_of p k) small)

-- and the least over the allowed walks
pub exact_ok : (pricing : ClassPricing) (k : ℕ) (row : List Bool) (costs : List (Option ℕ)) (r : Result (Option ℕ) AllocError) →
    ((tables : List (List ClassShare)) (allowed : ℕ → Leg → Bool) (kind : Kind) (chains : List (List Leg)) → IsPricing tables allowed kind chains pricing → RowAllows pricing.network.now (allowed k) row →
    HoldsClassCosts pricing.instance.now pricing.network.now (allowed k) (leaf_prices pricing.instance.now tables allowed kind chains k) (shipment_at pricing.instance.now k).size costs) →
    IfOk r (λ cost. (allowed : Leg → Bool) (price : Leg → ℕ) → AllowsClasses pricing.network.now allowed → HoldsClassCosts pricing.instance.now pricing.network.now allowed price (shipment_at pricing.instance.now k).size costs →
    IsLeastOver pricing.instance.now (points_in pricing.network.now) allowed (shipment_at pricing.instance.now k) price cost) →
    IfOk r (λ cost. (tables : List (List ClassShare)) (allowed : ℕ → Leg → Bool) (kind : Kind) (chains : List (List Leg)) → IsPricing tables allowed kind chains pricing → RowAllows pricing.network.now (allowed k) row →
    AllowsClasses pricing.network.now (allowed k) → IsLeastOver pricing.instance.now (points_in pricing.network.now) (allowed k) (shipment_at pricing.instance.now k) (leaf_prices pricing.instance.now tables allowed kind chains k) cost)
exact_ok pricing k row costs (Err e) holds told = tt
exact_ok pricing k row costs (Ok cost) holds told = λ tables allowed kind chains is allows classes.
    told (allowed k) (leaf_prices pricing.instance.now tables allowed kind chains k) classes (holds tables allowed kind chains is allows)
