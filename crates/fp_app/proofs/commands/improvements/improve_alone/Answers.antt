use Rattle.fp_app.specs.Checks.{AreWindowsOf}
use Rattle.fp_app.specs.Wanted.{every}
use Rattle.fp_app.proofs.TailAnswers.{certified-noted}
use Rattle.fp_app.proofs.commands.improvements.improve_alone.Goals as goal

pub returns-in_ok-shown-in-Both-clause-shown : goal.returns-in_ok-shown-in-Both-clause-shown
returns-in_ok-shown-in-Both-clause-shown g c = λ input same.
    let read = (rw c.in-Both.is at c.in_ok-instance.ensures.given) input same in
    let windows : AreWindowsOf c.in-Both.instance c.in_ok-windows-in-Both.windows =
    record { exact = c.in_ok-windows-in-Both.ensures.windows; unanchored = c.in_ok-windows-in-Both.ensures.anchors; belongs = c.in_ok-windows-in-Both.ensures.belongs } in
    rw read (rw c.in_ok-shown-in-Both.was at (c.search_told.ensures.shown every windows))

pub returns-in_ok-shown-in-Both-clause-noted : goal.returns-in_ok-shown-in-Both-clause-noted
returns-in_ok-shown-in-Both-clause-noted g c = λ input same.
    let read = (rw c.in-Both.is at c.in_ok-instance.ensures.given) input same in
    let windows : AreWindowsOf c.in-Both.instance c.in_ok-windows-in-Both.windows =
    record { exact = c.in_ok-windows-in-Both.ensures.windows; unanchored = c.in_ok-windows-in-Both.ensures.anchors; belongs = c.in_ok-windows-in-Both.ensures.belongs } in
    certified-noted c.args.options.notes c.args.scale input c.in-Both.instance c.in-Both.certificate c.in_ok-windows-in-Both.windows (g.N.Sink.taken c.args.notes.now) (g.N.Sink.taken c.search_told.new.notes) read windows c.search_told.ensures.noted

pub returns-in_err-shown-in-Both-clause-noted : goal.returns-in_err-shown-in-Both-clause-noted
returns-in_err-shown-in-Both-clause-noted g c = λ input same.
    let read = (rw c.in-Both.is at c.in_ok-instance.ensures.given) input same in
    let windows : AreWindowsOf c.in-Both.instance c.in_ok-windows-in-Both.windows =
    record { exact = c.in_ok-windows-in-Both.ensures.windows; unanchored = c.in_ok-windows-in-Both.ensures.anchors; belongs = c.in_ok-windows-in-Both.ensures.belongs } in
    certified-noted c.args.options.notes c.args.scale input c.in-Both.instance c.in-Both.certificate c.in_ok-windows-in-Both.windows (g.N.Sink.taken c.args.notes.now) (g.N.Sink.taken c.search_told.new.notes) read windows c.search_told.ensures.noted
