-- A walk that is preferred, and is one of least cost, is the one that is found.
use Rattle.std.proofs.Common.{◌≡◌, ℕ, ◌+◌, ◌<◌, ◌≤◌, Bool, List, [], ◌∷◌, ◌++◌, length, get_or, ⊎_elim, ap, sym, ◌∙◌, subst, refl, arith}
use Rattle.std.specs.Prelude.{IfOk, Option, Some, Result, Ok, Err, slice_get, unwrap_or}
use Rattle.std.specs.declared.alloc.AllocError.{AllocError}
use Rattle.std.proofs.Math.ListN.{get_or-append}
use Rattle.std.proofs.lemmas.Bool.{cases_lt}
use Rattle.std.proofs.lemmas.List.{get_or_push, length-append}
use Rattle.std.proofs.lemmas.Option.{get_or_from_slice_get, slice_get-get_or}
use Rattle.fp_model.specs.declared.parts.Leg.{Leg}
use Rattle.fp_model.specs.declared.parts.Shipment.{Shipment}
use Rattle.fp_model.specs.Numbered.{shipment_at}
use Rattle.fp_model.specs.Problem.{Problem}
use Rattle.fp_longestarcs.specs.Networks.{points_in}
use Rattle.fp_prices.specs.declared.classes.class_prices.ClassPricing.{ClassPricing}
use Rattle.fp_prices.specs.declared.leaf_prices.Kind.{Kind}
use Rattle.fp_prices.specs.ClassCosts.{AllowsClasses, HoldsClassCosts}
use Rattle.fp_prices.specs.Found.{leaf_prices}
use Rattle.fp_prices.specs.FoundWalks.{HasPreferredAtLeaf, PrefersAtLeaf}
use Rattle.fp_prices.specs.LeastWalks.{IsLeastWalk, IsWalkOfCost}
use Rattle.fp_prices.specs.Leaves.{IsLeastCost, walk_cost}
use Rattle.fp_prices.specs.Pricings.{HoldsLeafCosts}
use Rattle.fp_prices.specs.Shares.{ClassShare}
use Rattle.fp_prices.proofs.LeastSoFar.{IsLeafOf, row-allows}

-- a walk at the least cost is one of least cost
pub least-of_cost : (p : Problem) (points : ℕ → List ℕ) (allowed : Leg → Bool) (s : Shipment) (price : Leg → ℕ) (walk : List Leg) (n : ℕ) → IsLeastCost p points allowed s price n →
    IsWalkOfCost p points allowed s price walk n → IsLeastWalk p points allowed s price walk
least-of_cost p points allowed s price walk n least is = record {
  timed = is.timed;
  least = λ other timed. subst (λ (m : ℕ). m ≤ walk_cost p price s.size other) (sym is.costs_so) (least.least other timed);
  apart = is.apart;
}

-- and one of least cost is at the least cost
pub cost_of-least : (p : Problem) (points : ℕ → List ℕ) (allowed : Leg → Bool) (s : Shipment) (price : Leg → ℕ) (walk : List Leg) (n : ℕ) → IsLeastCost p points allowed s price n →
    IsLeastWalk p points allowed s price walk → IsWalkOfCost p points allowed s price walk n
cost_of-least p points allowed s price walk n least is = record {
  timed = is.timed;
  costs_so = omega (arith, is.least least.walk least.timed, least.cost, least.least walk is.timed);
  apart = is.apart;
}

-- a preference that holds under all costs that are held holds at each leaf
pub prefer_ok : (pricing : ClassPricing) (k : ℕ) (row : List Bool) (costs : List (Option ℕ)) (preferred : List Leg) (r : Result (Option (List Leg)) AllocError) → HoldsLeafCosts pricing k row costs →
    IfOk r (λ walk. (allowed : Leg → Bool) (price : Leg → ℕ) → AllowsClasses pricing.network.now allowed → HoldsClassCosts pricing.instance.now pricing.network.now allowed price (shipment_at pricing.instance.now k).size costs →
    IsLeastWalk pricing.instance.now (points_in pricing.network.now) allowed (shipment_at pricing.instance.now k) price preferred → walk ≡ Some preferred) →
    IfOk r (PrefersAtLeaf pricing k row preferred)
prefer_ok pricing k row costs preferred (Err e) holds told = tt
prefer_ok pricing k row costs preferred (Ok walk) holds told = λ tables allowed kind chains is allows classes.
    told (allowed k) (leaf_prices pricing.instance.now tables allowed kind chains k) classes (holds tables allowed kind chains is allows)

-- the walks of the shipments so far, with the preferred ones that are of least cost
pub record ArePreferredSoFar (pricing : ClassPricing) (rows : List (List Bool)) (preferred : List (List Leg)) (i : ℕ) (walks : List (List Leg)) : Type 0 where
  pub count : length walks ≡ i
  pub kept : (tables : List (List ClassShare)) (allowed : ℕ → Leg → Bool) (kind : Kind) (chains : List (List Leg)) → IsLeafOf pricing rows tables allowed kind chains →
      (k : ℕ) (walk : List Leg) → k < i → slice_get preferred k ≡ Some walk →
      IsLeastWalk pricing.instance.now (points_in pricing.network.now) (allowed k) (shipment_at pricing.instance.now k) (leaf_prices pricing.instance.now tables allowed kind chains k) walk →
      slice_get walks k ≡ Some walk

pub preferred_none : (pricing : ClassPricing) (rows : List (List Bool)) (preferred : List (List Leg)) → ArePreferredSoFar pricing rows preferred 0 []
preferred_none pricing rows preferred = record { count = refl; kept = λ tables allowed kind chains leaf k walk before. absurd (omega (arith, before)) }

-- one more shipment
pub preferred_more : (pricing : ClassPricing) (rows : List (List Bool)) (preferred : List (List Leg)) (i : ℕ) (walks : List (List Leg)) (wanted walk : List Leg) (row : List Bool) (o : Option (List Leg)) → o ≡ Some walk → i < length rows →
    row ≡ get_or rows i [] → wanted ≡ get_or preferred i [] → ArePreferredSoFar pricing rows preferred i walks → PrefersAtLeaf pricing i row wanted o → ArePreferredSoFar pricing rows preferred (i + 1) (walks ++ (walk ∷ []))
preferred_more pricing rows preferred i walks wanted walk row o found inside is wanted_is so_far prefers = record {
  count = length-append walks (walk ∷ []) ∙ (let e : length walks + 1 ≡ i + 1 = omega (arith, so_far.count) in e);
  kept = λ tables allowed kind chains leaf k own before asked least.
      let long : length (walks ++ (walk ∷ [])) ≡ length walks + 1 = length-append walks (walk ∷ []) in
      let read = slice_get-get_or (walks ++ (walk ∷ [])) k [] (omega (arith, long, so_far.count, before)) in
      ⊎_elim
      (λ (earlier : k < i).
      let old = so_far.kept tables allowed kind chains leaf k own earlier asked least in
      read ∙ ap {B = Option (List Leg)} Some (get_or-append walks (walk ∷ []) [] k (omega (arith, so_far.count, earlier)) ∙ get_or_from_slice_get walks k own [] old))
      (λ (late : i ≤ k).
      let here : k ≡ i = omega (arith, late, before) in
      let same : wanted ≡ own = wanted_is ∙ get_or_from_slice_get preferred i own [] (subst (λ (n : ℕ). slice_get preferred n ≡ Some own) here asked) in
      let here_least = subst (λ (n : ℕ). IsLeastWalk pricing.instance.now (points_in pricing.network.now) (allowed n) (shipment_at pricing.instance.now n) (leaf_prices pricing.instance.now tables allowed kind chains n) own) here least in
      let wanted_least = subst (λ (w : List Leg). IsLeastWalk pricing.instance.now (points_in pricing.network.now) (allowed i) (shipment_at pricing.instance.now i) (leaf_prices pricing.instance.now tables allowed kind chains i) w) (sym same) here_least in
      let taken = prefers tables allowed kind chains leaf.is (row-allows pricing rows allowed i row inside is leaf.rows_of) (leaf.classes i) wanted_least in
      let equal : walk ≡ own = ap (λ (w : Option (List Leg)). unwrap_or w []) (sym found ∙ taken ∙ ap {B = Option (List Leg)} Some same) in
      read ∙ ap {B = Option (List Leg)} Some (get_or_push walks walk [] k (omega (arith, so_far.count, here)) ∙ equal))
      (cases_lt k i);
}

-- all shipments
pub preferred_all : (pricing : ClassPricing) (rows : List (List Bool)) (preferred : List (List Leg)) (i : ℕ) (walks : List (List Leg)) → length pricing.instance.now.shipments ≤ i → ArePreferredSoFar pricing rows preferred i walks →
    HasPreferredAtLeaf pricing rows preferred walks
preferred_all pricing rows preferred i walks all so_far = λ tables allowed kind chains is rows_of classes k walk exists.
    so_far.kept tables allowed kind chains (record { is = is; rows_of = rows_of; classes = classes }) k walk (omega (arith, exists, all))
