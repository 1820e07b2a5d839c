-- What is known of a leg of a relaxed plan.
use Rattle.std.proofs.Common.{◌≡◌, ℕ, ◌+◌, ◌<◌, true, List, [], length, subst, arith}
use Rattle.std.specs.Prelude.{All, Option}
use Rattle.std.proofs.lemmas.List.Elements.{All-from_get_or}
use Rattle.fp_base_lists.proofs.Elements.{AllByRecursion-get_or}
use Rattle.fp_base_lists.proofs.Numbered.{AllZipFrom-get_or}
use Rattle.fp_model.specs.declared.parts.Leg.{Leg}
use Rattle.fp_model.specs.declared.parts.Member.{Member}
use Rattle.fp_model.specs.Members.{IsMemberOf, member_leg}
use Rattle.fp_model.specs.Numbered.{leg_at, no_leg, no_shipment, route_at, shipment_at}
use Rattle.fp_model.specs.Problem.{Problem}
use Rattle.fp_flatnet.specs.declared.window_tables.Window.{Window}
use Rattle.fp_flatnet.specs.Belonging.{BelongsTo}
use Rattle.fp_flatnet.specs.Tables.{WindowTable, windows_in}
use Rattle.fp_flatnet.proofs.WindowTimes.{BelongsTo-FitsInstance}
use Rattle.fp_longestarcs.specs.Networks.{IsClass, TimedNetwork, points_in}
use Rattle.fp_longestarcs.specs.Whole.{IsWholeNetwork}
use Rattle.fp_allowed.specs.Allowed.{is_allowed}
use Rattle.fp_allowed.specs.Settings.{Setting}
use Rattle.fp_allowed.proofs.RowClasses.{allowed_in-IsClass}
use Rattle.fp_relaxmodel.specs.Relaxed.{IsRelaxedPlan, IsRelaxedWalk}
use Rattle.fp_relaxmodel.proofs.PlansCoarsen.{HasRoutes-relaxed}
use Rattle.fp_relaxmodel.proofs.RouteCosts.{HasRoutes-long}

module _ (p : Problem) (windows : ℕ → ℕ → Option Window) (points : ℕ → List ℕ) (walks : List (List Leg)) (relaxed : IsRelaxedPlan p windows points walks) where
  -- its shipment is one of the instance
  pub walk-shipment : (k : ℕ) → k < length walks → k < length p.shipments
  walk-shipment k lt = omega (arith, lt, HasRoutes-long p walks (HasRoutes-relaxed p windows points walks relaxed))

  -- the walk of its shipment is a relaxed one
  pub walk-relaxed : (k : ℕ) → k < length walks → IsRelaxedWalk p windows points k (shipment_at p k) (route_at walks k)
  walk-relaxed k lt =
      let same : 0 + k ≡ k = omega arith in
      subst (λ (n : ℕ). IsRelaxedWalk p windows points n (shipment_at p k) (route_at walks k)) same
      (AllZipFrom-get_or (λ n s walk. IsRelaxedWalk p windows points n s walk) p.shipments walks no_shipment [] 0 k relaxed (walk-shipment k lt))

  -- its class is allowed
  pub leg-allowed : (m : Member) → IsMemberOf walks m → is_allowed p windows points [] m.shipment (member_leg walks m) ≡ true
  leg-allowed m is =
      AllByRecursion-get_or (λ (c : Leg). is_allowed p windows points [] m.shipment c ≡ true) (route_at walks m.shipment) m.leg no_leg
      (walk-relaxed m.shipment is.shipment).timed.allowed_all is.leg

-- each leg's class is one of the network
pub classes-relaxed : (p : Problem) (table : WindowTable) (net : TimedNetwork) (walks : List (List Leg)) → BelongsTo p table → IsWholeNetwork p net →
    IsRelaxedPlan p (windows_in table) (points_in net) walks → All (All (IsClass net)) walks
classes-relaxed p table net walks belongs whole relaxed =
    All-from_get_or (All (IsClass net)) walks [] (λ k lt.
    All-from_get_or (IsClass net) (route_at walks k) no_leg (λ i less.
    let s : Setting = record { problem = p; windows = table; network = net } in
    allowed_in-IsClass s [] k (leg_at (route_at walks k) i) (record { belongs = BelongsTo-FitsInstance p table belongs; whole = whole })
    (leg-allowed p (windows_in table) (points_in net) walks relaxed (record { shipment = k; leg = i }) (record { shipment = lt; leg = less }))))
