-- What the last shipment costs extra, in an instance with a shipment of another as the last one.
use Rattle.std.proofs.Common.{◌≡◌, ℕ, ◌<◌, ◌≤◌, List, length, sym, ap, ◌∙◌, subst}
use Rattle.fp_model.specs.declared.parts.Shipment.{Shipment}
use Rattle.fp_model.specs.Costs.{cost}
use Rattle.fp_model.specs.Plans.{NoPlanCheaper}
use Rattle.fp_model.specs.Problem.{Problem}
use Rattle.fp_replan.specs.Quotes.{IsCostOfPlan, IsLeastCost, without_last}
use Rattle.fp_replan_quotes.specs.LastShipments.{PlansCorrespond, to_last, with_last}
use Rattle.fp_replan_quotes.specs.NamedQuotes.{PricesAsLast, without}
use Rattle.fp_replan_quotes.proofs.LastLists.{front-to_last}
use Rattle.fp_replan_quotes.proofs.LastPlans.{PlansCorrespond-last}

-- the two have the same least cost
module _ (p : Problem) (k : ℕ) (q : Problem) (same : PlansCorrespond p k q) where
  attained-there : (c : ℕ) → IsCostOfPlan p c → IsCostOfPlan q c
  attained-there c is = (is.0, to_last k is.1, is.2, same.there is.0 is.1 is.3, same.cost is.0 is.1 is.3 ∙ is.4)

  attained-back : (c : ℕ) → IsCostOfPlan q c → IsCostOfPlan p c
  attained-back c is =
      let other = same.back is.0 is.1 is.3 in
      (is.0, other.0, is.2, other.1, sym (same.cost is.0 other.0 other.1) ∙ ap (cost q) (sym other.2) ∙ is.4)

  cheaper-there : (c : ℕ) → NoPlanCheaper p c → NoPlanCheaper q c
  cheaper-there c none d routes some plan =
      let other = same.back d routes plan in
      subst (λ (n : ℕ). c ≤ n) (sym (same.cost d other.0 other.1) ∙ ap (cost q) (sym other.2)) (none d other.0 some other.1)

  cheaper-back : (c : ℕ) → NoPlanCheaper q c → NoPlanCheaper p c
  cheaper-back c none d routes some plan =
      subst (λ (n : ℕ). c ≤ n) (same.cost d routes plan) (none d (to_last k routes) some (same.there d routes plan))

  least-there : (c : ℕ) → IsLeastCost p c → IsLeastCost q c
  least-there c is = record { attained = attained-there c is.attained; least = cheaper-there c is.least }

  least-back : (c : ℕ) → IsLeastCost q c → IsLeastCost p c
  least-back c is = record { attained = attained-back c is.attained; least = cheaper-back c is.least }

pub without-last : (p : Problem) (k : ℕ) → k < length p.shipments → without_last (with_last p k) ≡ without p k
without-last p k lt = ap (λ (ss : List Shipment). record p { shipments = ss }) (front-to_last k p.shipments lt)

pub PricesAsLast-last : (p : Problem) (k : ℕ) → k < length p.shipments → PricesAsLast p k (with_last p k)
PricesAsLast-last p k lt = record {
  earlier = without-last p k lt;
  extra = λ extra. (
    (λ is. record {
      before = is.before;
      after = is.after;
      without_it = subst (λ (x : Problem). IsLeastCost x is.before) (without-last p k lt) is.without;
      with_it = least-back p k (with_last p k) (PlansCorrespond-last p k) is.after is.with_it;
      more = is.more;
    }),
    (λ is. record {
      before = is.before;
      after = is.after;
      without = subst (λ (x : Problem). IsLeastCost x is.before) (sym (without-last p k lt)) is.without_it;
      with_it = least-there p k (with_last p k) (PlansCorrespond-last p k) is.after is.with_it;
      more = is.more;
    }),
  );
}
