use Rattle.std.proofs.Common.{◌≡◌, ◌<◌, ℕ, length}
use Rattle.fp_base_lists.specs.Vectors.{lists_of}
use Rattle.fp_model.specs.Numbered.{route_at, shipment_at}
use Rattle.fp_flatnet.specs.Directs.{IsDirect}
use Rattle.fp_flatnet.proofs.direct_routes.direct.Given as goal

abbrev pub invariant-loop-shipment : goal.invariant-loop-shipment
invariant-loop-shipment l =
    (length (lists_of l.routes.items) ≡ l.shipment-index)
    × ((k : ℕ) → k < l.shipment-index → IsDirect l.instance (shipment_at l.instance k) (route_at (lists_of l.routes.items) k))
