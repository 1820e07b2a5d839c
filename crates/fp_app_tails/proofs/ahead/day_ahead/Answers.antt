use Rattle.fp_app_tails.proofs.DayWindows.{day-exists, day-windows}
use Rattle.fp_app_tails.proofs.ahead.day_ahead.Goals as goal

pub returns-in-Open : goal.returns-in-Open
returns-in-Open c =
    let p = c.args.instance.now in
    let day = c.args.present.now in
    let is = rw c.in-Open.is at c.in_ok-rest.ensures in
    let table = c.in_ok-windows-in-Open.windows in
    let ens = c.in_ok-windows-in-Open.ensures in
    let told = ens.underway p day c.arcs-known.ensures.valid is.0 is.1 in (
      is.0,
      day-windows p day c.in-Open.rest table is.1 ens.belongs ens.windows ens.anchors told.0 told.1,
      day-exists p day c.in-Open.rest table is.1 c.in-Open.start is.3 (ens.start p day c.in-Open.start is.1 is.3) told.0,
    )
