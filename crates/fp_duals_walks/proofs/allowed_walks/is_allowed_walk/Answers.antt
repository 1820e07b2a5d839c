use Rattle.std.proofs.Common.{◌≡◌, List, rules, subst}
use Rattle.std.specs.Prelude.{◌↔◌, IsTrue}
use Rattle.fp_model.specs.declared.parts.Leg.{Leg}
use Rattle.fp_model.specs.Numbered.{shipment_at}
use Rattle.fp_longestarcs.specs.Stops.{legs_of}
use Rattle.fp_duals_walks.specs.AllowedWalks.{IsAllowedWalk}
use Rattle.fp_duals_walks.proofs.AllowedWalks.{row-decides}
use Rattle.fp_duals_walks.proofs.allowed_walks.is_allowed_walk.Goals as goal

pub returns : goal.returns
returns c =
    let leaf = c.args.leaf.now in
    let is : legs_of c.deref.result.now ≡ c.args.walk.now = search rules in
    subst (λ (w : List Leg). IsTrue c.is_row_walk.result ↔ IsAllowedWalk leaf c.args.shipment (shipment_at leaf.setting.problem c.args.shipment) w) is
    (row-decides leaf c.args.shipment c.round-round.result.now c.instance-instance.result.now c.network-network.result.now c.row-row.result.now (legs_of c.deref.result.now) c.is_row_walk.result
    c.round-round.ensures.problem c.round-round.ensures.network c.instance-instance.ensures.same c.network-network.ensures.same
    c.windows-windows.ensures.belongs c.network-network.ensures.whole c.row-row.ensures c.is_row_walk.ensures)
