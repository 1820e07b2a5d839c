use Rattle.std.proofs.Common.{◌<◌}
use Rattle.std.specs.Prelude.{All, Contains}
use Rattle.fp_base_lists.specs.Vectors.{lists_of}
use Rattle.fp_model.specs.declared.parts.Member.{Member}
use Rattle.fp_model.specs.Members.{IsMemberOf}
use Rattle.fp_dispatch.proofs.gathering.all_legs.Given as goal

-- the legs of the routes so far
abbrev pub invariant-loop-shipment : goal.invariant-loop-shipment
invariant-loop-shipment l = record {
  members : All (IsMemberOf (lists_of l.routes)) l.legs.items;
  every : (m : Member) → IsMemberOf (lists_of l.routes) m → m.shipment < l.shipment → Contains l.legs.items m;
}
