use Rattle.std.proofs.Common.{◌≡◌, ◌∙◌, ap}
use Rattle.fp_records.specs.Fields.{records_of}
use Rattle.fp_app_tails.specs.declared.inputs.TailInput.TheVariants as given
use Rattle.fp_app_tails.specs.Inputs.{IsTailInput}
use Rattle.fp_app.proofs.TailNotes.{day-noted, kept-noted}
use Rattle.fp_app.proofs.commands.replans.replan_shown.Goals as goal

pub returns-in_err-shown-in-Kept-clause-noted : goal.returns-in_err-shown-in-Kept-clause-noted
returns-in_err-shown-in-Kept-clause-noted g c =
    let same : c.deref-2.result.now ≡ records_of c.args.bytes.items = c.deref-2.ensures.value ∙ c.in_ok-lines.ensures.all ∙ ap records_of c.deref.ensures.value in
    let read : IsTailInput c.deref-2.result.now (given.Kept c.in-Kept.instance c.in-Kept.kept) = rw c.in-Kept.is at c.in_ok-instance.ensures.given in
    kept-noted c.args.options.notes c.args.bytes.items c.deref-2.result.now same c.in-Kept.instance (g.N.Sink.taken c.args.notes.now) (g.N.Sink.taken c.search_keeping.new.notes) c.in-Kept.kept.items read.0 read.1 c.search_keeping.ensures.noted

pub returns-in-Kept-clause-noted : goal.returns-in-Kept-clause-noted
returns-in-Kept-clause-noted g c =
    let same : c.deref-2.result.now ≡ records_of c.args.bytes.items = c.deref-2.ensures.value ∙ c.in_ok-lines.ensures.all ∙ ap records_of c.deref.ensures.value in
    let read : IsTailInput c.deref-2.result.now (given.Kept c.in-Kept.instance c.in-Kept.kept) = rw c.in-Kept.is at c.in_ok-instance.ensures.given in
    kept-noted c.args.options.notes c.args.bytes.items c.deref-2.result.now same c.in-Kept.instance (g.N.Sink.taken c.args.notes.now) (g.N.Sink.taken c.search_keeping.new.notes) c.in-Kept.kept.items read.0 read.1 c.search_keeping.ensures.noted

pub returns-in_err-shown-in-Day-clause-noted : goal.returns-in_err-shown-in-Day-clause-noted
returns-in_err-shown-in-Day-clause-noted g c =
    let same : c.deref-2.result.now ≡ records_of c.args.bytes.items = c.deref-2.ensures.value ∙ c.in_ok-lines.ensures.all ∙ ap records_of c.deref.ensures.value in
    let read : IsTailInput c.deref-2.result.now (given.Day c.in-Day.instance c.in-Day.present) = rw c.in-Day.is at c.in_ok-instance.ensures.given in
    day-noted c.args.options.notes c.args.bytes.items c.deref-2.result.now same c.in-Day.instance (g.N.Sink.taken c.args.notes.now) (g.N.Sink.taken c.search_day.new.notes) c.in-Day.present read.0 read.1 c.search_day.ensures.noted

pub returns-in-Day-clause-noted : goal.returns-in-Day-clause-noted
returns-in-Day-clause-noted g c =
    let same : c.deref-2.result.now ≡ records_of c.args.bytes.items = c.deref-2.ensures.value ∙ c.in_ok-lines.ensures.all ∙ ap records_of c.deref.ensures.value in
    let read : IsTailInput c.deref-2.result.now (given.Day c.in-Day.instance c.in-Day.present) = rw c.in-Day.is at c.in_ok-instance.ensures.given in
    day-noted c.args.options.notes c.args.bytes.items c.deref-2.result.now same c.in-Day.instance (g.N.Sink.taken c.args.notes.now) (g.N.Sink.taken c.search_day.new.notes) c.in-Day.present read.0 read.1 c.search_day.ensures.noted
