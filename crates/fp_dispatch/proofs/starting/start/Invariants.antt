use Rattle.std.proofs.Common.{◌≡◌, ◌*◌, ◌<◌, length}
use Rattle.std.specs.Prelude.{IsSomeAnd}
use Rattle.fp_base_lists.specs.Vectors.{lists_of}
use Rattle.fp_model.specs.declared.parts.Member.{Member}
use Rattle.fp_model.specs.Members.{IsMemberOf}
use Rattle.fp_flatnet.specs.Tables.{windows_in}
use Rattle.fp_dispatch.specs.Rising.{value_at}
use Rattle.fp_dispatch.specs.Times.{window_of}
use Rattle.fp_dispatch.proofs.starting.start.Given as goal

-- the legs of the routes so far have windows, whose beginnings stand in the table
abbrev pub invariant-loop-shipment : goal.invariant-loop-shipment
invariant-loop-shipment l = record {
  long : length l.values ≡ length l.routes * l.width;
  starts : (m : Member) → IsMemberOf (lists_of l.routes) m → m.shipment < l.shipment →
      IsSomeAnd (window_of (windows_in l.windows) (lists_of l.routes) m) (λ w. value_at l.width l.values m ≡ w.lo);
}
