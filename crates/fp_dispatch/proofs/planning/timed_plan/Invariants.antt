use Rattle.std.proofs.Common.{◌≡◌, ◌<◌, length, take}
use Rattle.fp_base_lists.specs.Vectors.{lists_of}
use Rattle.fp_model.specs.declared.parts.Member.{Member}
use Rattle.fp_model.specs.Members.{IsMemberOf, arc_lists}
use Rattle.fp_dispatch.specs.Rising.{value_at}
use Rattle.fp_dispatch.specs.Times.{departure}
use Rattle.fp_dispatch.proofs.planning.timed_plan.Given as goal

-- the routes so far
abbrev pub invariant-loop-shipment : goal.invariant-loop-shipment
invariant-loop-shipment l = record {
  long : length l.plan.items ≡ l.shipment;
  arcs : arc_lists (lists_of l.plan.items) ≡ take l.shipment (lists_of l.routes);
  times : (m : Member) → IsMemberOf (lists_of l.routes) m → m.shipment < l.shipment → departure (lists_of l.plan.items) m ≡ value_at l.width l.values m;
}
