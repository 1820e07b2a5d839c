use Rattle.std.proofs.Common.{refl, sym, subst}
use Rattle.fp_model.specs.Plans.{IsPlan}
use Rattle.fp_model.specs.Problem.{Problem}
use Rattle.fp_app_tails.specs.Windows.{AreDayWindows}
use Rattle.fp_app_tails.proofs.DayWindows.{day-windows}
use Rattle.fp_certificate_lines.proofs.Named.{in-range-named}
use Rattle.fp_app.specs.Wanted.{going_on}
use Rattle.fp_app.proofs.TailNotes.{day-took}
use Rattle.fp_app.proofs.commands.days.search_day.Goals as goal

pub search_from-requires-clause-plan : goal.search_from-requires-clause-plan
search_from-requires-clause-plan g c =
    let is = rw c.in-Open.is at c.in_ok-rest.ensures in
    subst (λ (q : Problem). IsPlan q 1 c.in-Open.start) (sym is.1.instance) is.3.plan

pub search_from-requires-clause-within : goal.search_from-requires-clause-within
search_from-requires-clause-within g c =
    let is = rw c.in-Open.is at c.in_ok-rest.ensures in
    c.in_ok-windows-in-Open.ensures.start c.args.instance c.args.present c.in-Open.start is.1 is.3

pub returns-in_ok-solved-in-Open-clause-shown : goal.returns-in_ok-solved-in-Open-clause-shown
returns-in_ok-solved-in-Open-clause-shown g c =
    let p = c.args.instance in
    let day = c.args.present in
    let is = rw c.in-Open.is at c.in_ok-rest.ensures in
    let ens = c.in_ok-windows-in-Open.ensures in
    let told = ens.underway p day c.arcs-known.ensures.valid is.0 is.1 in
    let windows : AreDayWindows p day c.in-Open.rest.instance c.in_ok-windows-in-Open.windows =
    day-windows p day c.in-Open.rest c.in_ok-windows-in-Open.windows is.1 ens.belongs ens.windows ens.anchors told.0 told.1 in
    let searched = rw c.in_ok-solved-in-Open.was at (c.search_from.ensures.searched (going_on p day) windows is.3) in
    (refl, is.0, is.1, searched)

pub returns-in_ok-solved-in-Open-clause-printable : goal.returns-in_ok-solved-in-Open-clause-printable
returns-in_ok-solved-in-Open-clause-printable g c = in-range-named c.in-Open.rest.instance c.in_ok-solved-in-Open.solved.certificate c.in_ok-solved-in-Open.ensures.checkable.0

pub returns-in_ok-solved-in-Open-clause-noted : goal.returns-in_ok-solved-in-Open-clause-noted
returns-in_ok-solved-in-Open-clause-noted g c =
    let p = c.args.instance in
    let day = c.args.present in
    let is = rw c.in-Open.is at c.in_ok-rest.ensures in
    let ens = c.in_ok-windows-in-Open.ensures in
    let told = ens.underway p day c.arcs-known.ensures.valid is.0 is.1 in
    let windows : AreDayWindows p day c.in-Open.rest.instance c.in_ok-windows-in-Open.windows =
    day-windows p day c.in-Open.rest c.in_ok-windows-in-Open.windows is.1 ens.belongs ens.windows ens.anchors told.0 told.1 in
    day-took c.args.options.notes p day c.in-Open.rest c.in_ok-windows-in-Open.windows (g.N.Sink.taken c.args.notes.now) (g.N.Sink.taken c.search_from.new.notes) is.1 windows c.search_from.ensures.noted

pub returns-in_err-solved-in-Open-clause-noted : goal.returns-in_err-solved-in-Open-clause-noted
returns-in_err-solved-in-Open-clause-noted g c =
    let p = c.args.instance in
    let day = c.args.present in
    let is = rw c.in-Open.is at c.in_ok-rest.ensures in
    let ens = c.in_ok-windows-in-Open.ensures in
    let told = ens.underway p day c.arcs-known.ensures.valid is.0 is.1 in
    let windows : AreDayWindows p day c.in-Open.rest.instance c.in_ok-windows-in-Open.windows =
    day-windows p day c.in-Open.rest c.in_ok-windows-in-Open.windows is.1 ens.belongs ens.windows ens.anchors told.0 told.1 in
    day-took c.args.options.notes p day c.in-Open.rest c.in_ok-windows-in-Open.windows (g.N.Sink.taken c.args.notes.now) (g.N.Sink.taken c.search_from.new.notes) is.1 windows c.search_from.ensures.noted
