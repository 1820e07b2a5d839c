use Rattle.std.proofs.Common.{◌≡◌, ◌<◌, arith, ap, refl, sym, subst, ◌∙◌, List, [], length}
use Rattle.std.proofs.lemmas.Bool.{false≢true}
use Rattle.std.proofs.lemmas.Slice.Zip.{AllZip-long}
use Rattle.fp_base_lists.specs.Vectors.{lists_of}
use Rattle.fp_base_lists.proofs.Numbered.{AllFrom-get_or_zero}
use Rattle.fp_model.specs.declared.parts.Leg.{Leg}
use Rattle.fp_model.specs.Numbered.{route_at}
use Rattle.fp_model.specs.Routes.{Carries}
use Rattle.fp_model.proofs.Bounds.{length-lists_of}
use Rattle.fp_model.proofs.FirstFaults.{route_at_lists_of}
use Rattle.fp_flatnet.specs.Tables.{windows_in}
use Rattle.fp_flatnet.specs.Windows.{LiesWithin}
use Rattle.fp_repair_search.proofs.LegsWithin.{PlanLiesWithin-from_routes}
use Rattle.fp_repair_search.proofs.acceptance.lies_within.Goals as goal

pub overflow_cast-shipment : goal.overflow_cast-shipment
overflow_cast-shipment c =
    let routes = c.deref-route-items.result.now in
    let seen : lists_of routes ≡ c.args.plan.now = ap lists_of c.deref-route-items.ensures.value ∙ c.plan.view_is in
    let p = c.args.instance.now in
    omega (arith, length-lists_of routes, ap length seen, AllZip-long (Carries p 1) p.shipments c.args.plan.now c.requires.plan, c.requires.belongs.valid.parts.few_shipments, c.loop-shipment-test.true)

pub returns-then-not-route_lies_within : goal.returns-then-not-route_lies_within
returns-then-not-route_lies_within c =
    let routes = c.deref-route-items.result.now in
    let seen : lists_of routes ≡ c.args.plan.now = ap lists_of c.deref-route-items.ensures.value ∙ c.plan.view_is in
    let k = c.loop-shipment.shipment in
    let windows = windows_in c.args.windows.now in
    let own : route_at c.args.plan.now k ≡ c.deref.result.now =
    ap (λ (r : List (List Leg)). route_at r k) (sym seen)
    ∙ route_at_lists_of routes k c.route-item.result c.loop-shipment-test.true
    ∙ ap (λ r. r.items) (sym c.route-item.is)
    ∙ sym c.deref.ensures.value in
    let exists : k < length c.args.plan.now = omega (arith, length-lists_of routes, ap length seen, c.loop-shipment-test.true) in (
      λ h. absurd (false≢true h),
      λ all. sym c.if-not-route_lies_within.true ∙ c.route_lies_within.ensures.1
          (subst (λ r. LiesWithin windows 1 k r) own (AllFrom-get_or_zero (LiesWithin windows 1) c.args.plan.now [] k all exists)),
    )

pub returns : goal.returns
returns c =
    let routes = c.deref-route-items.result.now in
    let seen : lists_of routes ≡ c.args.plan.now = ap lists_of c.deref-route-items.ensures.value ∙ c.plan.view_is in (
      λ _. PlanLiesWithin-from_routes (windows_in c.args.windows.now) c.args.plan.now
          (λ k lt. c.loop-shipment.invariant k (omega (arith, lt, length-lists_of routes, ap length seen, c.loop-shipment-test.false))),
      λ _. refl,
    )
