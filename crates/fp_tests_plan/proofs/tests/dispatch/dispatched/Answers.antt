use Rattle.std.proofs.Common.{◌∙◌, ℕ, List, [], ◌∷◌, ap, sym, subst}
use Rattle.std.specs.List.{AllZip}
use Rattle.fp_base_lists.specs.Vectors.{lists_of}
use Rattle.fp_model.specs.declared.parts.Leg.{Leg}
use Rattle.fp_model.specs.declared.parts.Member.{Member}
use Rattle.fp_model.specs.declared.parts.Shipment.{Shipment}
use Rattle.fp_model.specs.Members.{AreGroupsOf, arc_lists}
use Rattle.fp_model.specs.Problem.{Problem}
use Rattle.fp_model.specs.Routes.{IsRoute, arcs_of}
use Rattle.fp_relaxmodel.specs.Relaxed.{HasRoutes}
use Rattle.fp_relaxmodel.proofs.GroupsOfRoutes.{AreGroupsOf-walks}
use Rattle.fp_relaxmodel.proofs.PlansCoarsen.{HasRoutes-relaxed}
use Rattle.fp_relaxmodel.proofs.RouteLengths.{HasRoutes-few_legs, HasRoutes-few_walks}
use Rattle.fp_tests_plan.proofs.tests.dispatch.dispatched.Goals as goal

-- the arcs of walks that are routes
arcs-routes : (p : Problem) (ss : List Shipment) (walks : List (List Leg)) → AllZip (λ s walk. IsRoute p s (arcs_of walk)) ss walks → AllZip (IsRoute p) ss (arc_lists walks)
arcs-routes p [] [] routes = tt
arcs-routes p [] (w ∷ walks) routes = absurd routes
arcs-routes p (s ∷ ss) [] routes = absurd routes
arcs-routes p (s ∷ ss) (w ∷ walks) routes = (routes.0, arcs-routes p ss walks routes.1)

pub groups-requires-clause-few_walks : goal.groups-requires-clause-few_walks
groups-requires-clause-few_walks c =
    HasRoutes-few_walks c.args.instance.now _ c.terminals.ensures.valid (HasRoutes-relaxed c.args.instance.now _ _ _ c.in_ok-relaxed.ensures.relaxed)

pub groups-requires-clause-few_legs : goal.groups-requires-clause-few_legs
groups-requires-clause-few_legs c =
    HasRoutes-few_legs c.args.instance.now _ c.terminals.ensures.valid (HasRoutes-relaxed c.args.instance.now _ _ _ c.in_ok-relaxed.ensures.relaxed)

pub earliest-requires-clause-routes : goal.earliest-requires-clause-routes
earliest-requires-clause-routes c =
    let have : HasRoutes c.args.instance.now c.in_ok-relaxed.relaxed = HasRoutes-relaxed c.args.instance.now _ _ _ c.in_ok-relaxed.ensures.relaxed in
    subst (AllZip (IsRoute c.args.instance.now) c.args.instance.now.shipments) (sym (ap lists_of c.deref.ensures.value ∙ c.in_ok-routes.ensures))
    (arcs-routes c.args.instance.now c.args.instance.now.shipments c.in_ok-relaxed.relaxed have)

pub earliest-requires-clause-groups : goal.earliest-requires-clause-groups
earliest-requires-clause-groups c =
    let are : AreGroupsOf (arc_lists c.in_ok-relaxed.relaxed) (lists_of c.in_ok-groups.groups.items) = AreGroupsOf-walks c.in_ok-relaxed.relaxed _ c.in_ok-groups.ensures.groups in
    subst (λ (groups : List (List Member)). AreGroupsOf (lists_of c.deref.result.now) groups) (sym (ap lists_of c.deref-2.ensures.value))
    (subst (λ (routes : List (List ℕ)). AreGroupsOf routes (lists_of c.in_ok-groups.groups.items)) (sym (ap lists_of c.deref.ensures.value ∙ c.in_ok-routes.ensures)) are)
