use Rattle.std.proofs.Common.{◌≡◌, ◌∙◌, List, ap, rules, subst}
use Rattle.fp_model.specs.declared.parts.Leg.{Leg}
use Rattle.fp_relaxmodel.specs.Grouping.{Met, after, groups_so_far}
use Rattle.fp_relaxmodel.specs.Groups.{AreGroups}
use Rattle.fp_base_lists.specs.Vectors.{lists_of}
use Rattle.fp_model.specs.Members.{named_on}
use Rattle.fp_longestarcs.specs.Stops.{legs_of}
use Rattle.fp_relaxmodel.proofs.GroupsByWalk.{made-groups, one-walk}
use Rattle.fp_relaxmodel.proofs.UniqueGroups.{groups-unique}
use Rattle.fp_relaxmodel.proofs.grouping.groups.Goals as goal

pub loop-shipment-preserved : goal.loop-shipment-preserved
loop-shipment-preserved c =
    let now : List Met = groups_so_far c.loop-shipment.grouping.classes.keys c.loop-shipment.grouping.groups.items in
    let next : List Met = groups_so_far c.add_walk.new.self.classes.keys c.add_walk.new.self.groups.items in
    let walk_is : legs_of c.deref.result.now ≡ c.walk-item.result = ap legs_of c.deref.ensures.value ∙ c.walk.view_is in
    let made : next ≡ after (named_on c.loop-shipment.shipment 0 c.walk-item.result) now =
    subst (λ (walk : List Leg). next ≡ after (named_on c.loop-shipment.shipment 0 walk) now) walk_is c.in_ok-add_walk.ensures.groups in
    record {
      matched = c.in_ok-add_walk.ensures.matched;
      rest = one-walk c.args.relaxed.now c.loop-shipment.shipment c.walk-item.result now next _ (search rules) (search rules) made c.loop-shipment.invariant.rest;
    }

pub returns-clause-groups : goal.returns-clause-groups
returns-clause-groups c =
    made-groups c.args.relaxed.now c.loop-shipment.shipment c.loop-shipment.grouping.classes.keys c.loop-shipment.grouping.groups.items (search rules) c.loop-shipment.invariant.matched c.loop-shipment.invariant.rest

pub returns-clause-only : goal.returns-clause-only
returns-clause-only c others are =
    let made : AreGroups c.args.relaxed.now (lists_of c.loop-shipment.grouping.groups.items) =
    made-groups c.args.relaxed.now c.loop-shipment.shipment c.loop-shipment.grouping.classes.keys c.loop-shipment.grouping.groups.items (search rules) c.loop-shipment.invariant.matched c.loop-shipment.invariant.rest in
    groups-unique c.args.relaxed.now _ others made are
