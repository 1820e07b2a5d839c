use Rattle.std.proofs.Common.{ap, sym}
use Rattle.fp_model.specs.declared.parts.Arc.{Arc}
use Rattle.fp_flatnet.specs.Tables.{windows_in}
use Rattle.fp_allowed.proofs.ArcRows.{fills_all, window-told}
use Rattle.fp_allowed.proofs.allowed_rows.fill_arc.Goals as goal

pub returns-in-Some : goal.returns-in-Some
returns-in-Some c = λ others own free.
    fills_all c.args.instance.now (windows_in c.args.windows.now) c.args.network.now c.args.shipment c.args.arc others c.args.sides.now c.requires.arc own free
    c.arc-tail.result.from (record { lo = c.in-Some.lo; hi = c.in-Some.hi }) c.args.row.now c.fill_parts.new.row (ap (λ (a : Arc). a.from) c.arc-tail.ensures.same)
    (window-told (windows_in c.args.windows.now c.args.shipment c.args.arc) c.in-Some.lo c.in-Some.hi (sym c.in-Some.ensures)) c.fill_parts.ensures
