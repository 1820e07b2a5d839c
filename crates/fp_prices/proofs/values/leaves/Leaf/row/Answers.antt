use Rattle.std.proofs.Common.{◌<◌, [], length, sym, subst, arith, ap}
use Rattle.std.specs.Prelude.{Bool, List}
use Rattle.std.proofs.lemmas.List.{get_or_read}
use Rattle.fp_allowed.specs.Bits.{IsRowUnder}
use Rattle.fp_prices.specs.Rounds.{LeafModel}
use Rattle.fp_prices.proofs.values.leaves.Leaf.row.Goals as goal

pub returns : goal.returns
returns c =
    let rows : List (List Bool) = c.self.inside.rows.items in
    let inside : c.args.shipment < length rows = omega (arith, c.requires, c.self.invariant.long, ap (λ (l : LeafModel). length l.setting.problem.shipments) c.self.view_is) in
    subst (λ (l : LeafModel). IsRowUnder l.setting l.sides c.args.shipment c.index.result.now) c.self.view_is
    (subst (IsRowUnder _ c.self.inside.sides.now c.args.shipment) (sym (get_or_read rows c.args.shipment c.index.result.now inside c.index.ensures [])) (c.self.invariant.under c.args.shipment inside))
