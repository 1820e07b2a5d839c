-- The walks of least cost of a leaf, shipment by shipment.
use Rattle.std.proofs.Common.{◌≡◌, ℕ, ◌+◌, ◌<◌, ◌≤◌, Bool, List, [], ◌∷◌, ◌++◌, length, get_or, take, sym, subst, arith}
use Rattle.std.specs.Prelude.{IfOk, Option, Some, None, Result, Ok, Err}
use Rattle.std.specs.declared.alloc.AllocError.{AllocError}
use Rattle.std.proofs.lemmas.List.{length-take, take_all, take_more}
use Rattle.fp_model.specs.declared.parts.Leg.{Leg}
use Rattle.fp_model.specs.declared.parts.Shipment.{Shipment}
use Rattle.fp_model.specs.Numbered.{no_shipment, shipment_at}
use Rattle.fp_model.specs.Problem.{Problem}
use Rattle.fp_longestarcs.specs.Networks.{points_in}
use Rattle.fp_prices.specs.declared.classes.class_prices.ClassPricing.{ClassPricing}
use Rattle.fp_prices.specs.declared.leaf_prices.Kind.{Kind}
use Rattle.fp_prices.specs.ClassCosts.{AllowsClasses, HoldsClassCosts}
use Rattle.fp_prices.specs.Found.{leaf_prices}
use Rattle.fp_prices.specs.FoundWalks.{AreLeastOver, AreWalksAtLeaf, IsEmptyAtLeaf, IsWalkAtLeaf}
use Rattle.fp_prices.specs.LeastWalks.{IsLeastWalk, IsLeastWalkOver}
use Rattle.fp_prices.specs.Leaves.{leaf_price}
use Rattle.fp_prices.specs.Pricings.{HoldsLeafCosts}
use Rattle.fp_prices.specs.Shares.{ClassShare}
use Rattle.fp_base_lists.proofs.Numbered.{AllZipFrom-push}
use Rattle.fp_prices.proofs.LeastSoFar.{IsLeafOf, row-allows}

-- a walk that is least under all costs that are held is one at each leaf
pub walk_ok : (pricing : ClassPricing) (k : ℕ) (row : List Bool) (costs : List (Option ℕ)) (r : Result (Option (List Leg)) AllocError) → HoldsLeafCosts pricing k row costs →
    IfOk r (λ walk. (allowed : Leg → Bool) (price : Leg → ℕ) → AllowsClasses pricing.network.now allowed → HoldsClassCosts pricing.instance.now pricing.network.now allowed price (shipment_at pricing.instance.now k).size costs →
    IsLeastWalkOver pricing.instance.now (points_in pricing.network.now) allowed (shipment_at pricing.instance.now k) price walk) →
    IfOk r (IsWalkAtLeaf pricing k row)
walk_ok pricing k row costs (Err e) holds told = tt
walk_ok pricing k row costs (Ok walk) holds told = λ tables allowed kind chains is allows classes.
    told (allowed k) (leaf_prices pricing.instance.now tables allowed kind chains k) classes (holds tables allowed kind chains is allows)

-- the walks are those of the shipments so far
abbrev pub AreWalksSoFar : ClassPricing → List (List Bool) → ℕ → List (List Leg) → Type 0
AreWalksSoFar pricing rows i walks =
    (tables : List (List ClassShare)) (allowed : ℕ → Leg → Bool) (kind : Kind) (chains : List (List Leg)) → IsLeafOf pricing rows tables allowed kind chains →
    AreLeastOver pricing.instance.now (points_in pricing.network.now) allowed (leaf_price pricing.instance.now tables allowed kind chains) 0 (take i pricing.instance.now.shipments) walks

pub walks_none : (pricing : ClassPricing) (rows : List (List Bool)) → AreWalksSoFar pricing rows 0 []
walks_none pricing rows = λ tables allowed kind chains leaf. tt

-- one more shipment that has a walk
pub walks_more : (pricing : ClassPricing) (rows : List (List Bool)) (i : ℕ) (walks : List (List Leg)) (walk : List Leg) (row : List Bool) (o : Option (List Leg)) → o ≡ Some walk → i < length pricing.instance.now.shipments → i < length rows →
    row ≡ get_or rows i [] → AreWalksSoFar pricing rows i walks → IsWalkAtLeaf pricing i row o → AreWalksSoFar pricing rows (i + 1) (walks ++ (walk ∷ []))
walks_more pricing rows i walks walk row o found exists inside is so_far least = λ tables allowed kind chains leaf.
    let p : Problem = pricing.instance.now in
    let price : ℕ → ℕ → Leg → ℕ = leaf_price p tables allowed kind chains in
    let Q : ℕ → Shipment → List Leg → Type 0 = λ k s w. IsLeastWalk p (points_in pricing.network.now) (allowed k) s (price k s.size) w in
    let number : 0 + length (take i p.shipments) ≡ i = omega (arith, length-take i p.shipments, exists) in
    subst (λ (l : List Shipment). AreLeastOver p (points_in pricing.network.now) allowed price 0 l (walks ++ (walk ∷ []))) (sym (take_more p.shipments i no_shipment exists))
    (AllZipFrom-push Q 0 (take i p.shipments) walks (shipment_at p i) walk (so_far tables allowed kind chains leaf)
    (subst (λ (k : ℕ). Q k (shipment_at p i) walk) (sym number)
    (subst (λ (x : Option (List Leg)). IsLeastWalkOver p (points_in pricing.network.now) (allowed i) (shipment_at p i) (leaf_prices p tables allowed kind chains i) x) found
    (least tables allowed kind chains leaf.is (row-allows pricing rows allowed i row inside is leaf.rows_of) (leaf.classes i)))))

-- a shipment that has none
pub walks_end : (pricing : ClassPricing) (rows : List (List Bool)) (i : ℕ) (row : List Bool) (o : Option (List Leg)) → o ≡ None → i < length pricing.instance.now.shipments → i < length rows → row ≡ get_or rows i [] →
    IsWalkAtLeaf pricing i row o → IsEmptyAtLeaf pricing rows
walks_end pricing rows i row o found exists inside is none = λ tables allowed kind chains priced are classes.
    let p : Problem = pricing.instance.now in
    record {
      shipment = i;
      exists = exists;
      none = subst (λ (x : Option (List Leg)). IsLeastWalkOver p (points_in pricing.network.now) (allowed i) (shipment_at p i) (leaf_prices p tables allowed kind chains i) x) found
          (none tables allowed kind chains priced (row-allows pricing rows allowed i row inside is are) (classes i));
    }

-- all shipments have one
pub walks_all : (pricing : ClassPricing) (rows : List (List Bool)) (i : ℕ) (walks : List (List Leg)) → length pricing.instance.now.shipments ≤ i → AreWalksSoFar pricing rows i walks → AreWalksAtLeaf pricing rows walks
walks_all pricing rows i walks all so_far = λ tables allowed kind chains priced are classes.
    let p : Problem = pricing.instance.now in
    subst (λ (l : List Shipment). AreLeastOver p (points_in pricing.network.now) allowed (leaf_price p tables allowed kind chains) 0 l walks) (take_all i p.shipments all)
    (so_far tables allowed kind chains (record { is = priced; rows_of = are; classes = classes }))
