-- What one shipment adds to the cost, whichever it is: to the least cost, and between two plans in hand.
use Rattle.std.specs.Prelude.{ℕ, ◌+◌, ◌-◌, ◌≡◌, ◌↔◌, List, length, min, take}
use Rattle.fp_model.specs.declared.parts.Leg.{Leg}
use Rattle.fp_model.specs.Costs.{cost}
use Rattle.fp_model.specs.Problem.{Problem}
use Rattle.fp_replan.specs.Quotes.{IsExtraCost, IsLeastCost, without_last}
use Rattle.fp_replan_quotes.specs.LastShipments.{removed}

-- the same instance but for the shipment with a number
abbrev pub without : Problem → ℕ → Problem
without p k = record p { shipments = removed k p.shipments }

-- the extra cost of the shipment with a number: the least cost with it is so much above the least cost
-- without it
pub record IsExtraCostOf (p : Problem) (k extra : ℕ) : Type 0 where
  pub before : ℕ
  pub after : ℕ
  pub without_it : IsLeastCost (without p k) before
  pub with_it : IsLeastCost p after
  pub more : before + extra ≡ after

-- the instance q without its last shipment is p without the shipment of a number, and what that one
-- costs extra in p is what the last one costs extra in q
pub record PricesAsLast (p : Problem) (k : ℕ) (q : Problem) : Type 0 where
  pub earlier : without_last q ≡ without p k
  pub extra : (extra : ℕ) → (IsExtraCost q extra ↔ IsExtraCostOf p k extra)

-- a plan without the route of the last shipment
abbrev pub front : Problem → List (List Leg) → List (List Leg)
front p routes = take (length p.shipments - 1) routes

-- What the cheaper of two plans without the last shipment costs: one in hand, and another plan without
-- that shipment's route.
abbrev pub cost_without : Problem → (before after : List (List Leg)) → ℕ
cost_without p before after = min (cost (without_last p) before) (cost (without_last p) (front p after))

-- between two plans in hand, without the last shipment and with it, the shipment adds so much: the
-- second costs so much more than the cheaper plan without the shipment
abbrev pub IsAdded : Problem → (before after : List (List Leg)) → ℕ → Type 0
IsAdded p before after more = cost_without p before after + more ≡ cost p after
