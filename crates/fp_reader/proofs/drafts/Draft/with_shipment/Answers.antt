use Rattle.std.proofs.Common.{ap, subst, sym, length}
use Rattle.fp_model.specs.Problem.{Problem, IsShipment}
use Rattle.fp_reader.proofs.Indexes.{index-shipment}
use Rattle.fp_reader.proofs.drafts.Draft.with_shipment.Goals as goal

pub invariant_of-result : goal.invariant_of-result
invariant_of-result c =
    let s = c.args.shipment in
    let shipments = ap (λ (p : Problem). p.shipments) c.self.view_is in
    rw (c.in_ok-push.ensures.items, c.in_ok-add_shipment.ensures.ok, ← c.requires.name)
    (index-shipment _ c.self.inside.index s c.self.invariant
    (subst (λ (p : Problem). IsShipment (length p.terminals) s) (sym c.self.view_is) c.requires.shipment)
    (rw (shipments, c.requires.name) c.requires.fresh) (rw shipments c.requires.room))
