use Rattle.std.proofs.Common.{◌≡◌, ◌+◌, List, length, ap, ◌∙◌, arith}
use Rattle.fp_model.specs.declared.parts.Shipment.{Shipment}
use Rattle.fp_base_lists.specs.Vectors.{lists_of}
use Rattle.fp_model.proofs.Bounds.{length-lists_of}
use Rattle.fp_timetable.specs.Lines.{route_of}
use Rattle.fp_checker.proofs.RoutesOfLines.{routes-same}
use Rattle.fp_checker.proofs.rules.plans.legs_by_shipment.Goals as goal

pub returns : goal.returns
returns c =
    let count : length c.shipments.result.now ≡ length c.args.instance.now.shipments = ap (λ (ss : List Shipment). length ss) c.shipments.ensures.same in
    routes-same (lists_of c.in_ok-routes.routes.items) c.args.legs.now 0 c.args.instance.now.shipments
    (length-lists_of c.in_ok-routes.routes.items ∙ c.in_ok-routes.ensures.long ∙ count)
    (λ k lt. c.in_ok-routes.ensures.each k (omega (arith, lt, count)) ∙ ap (route_of c.args.legs.now) (let on : k ≡ 0 + k = omega arith in on))
