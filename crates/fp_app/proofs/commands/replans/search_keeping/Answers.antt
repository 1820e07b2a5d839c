use Rattle.std.proofs.Common.{List, subst}
use Rattle.fp_replan.specs.declared.kept.Kept.{Kept}
use Rattle.fp_app.specs.Notes.{IsNotedFor, MayNote}
use Rattle.fp_app.specs.Wanted.{keeping}
use Rattle.fp_certificate_lines.proofs.Named.{in-range-named}
use Rattle.fp_app.proofs.commands.replans.search_keeping.Goals as goal

pub returns-in_ok-solved-in-Plan-clause-printable : goal.returns-in_ok-solved-in-Plan-clause-printable
returns-in_ok-solved-in-Plan-clause-printable g c = in-range-named c.args.instance c.in_ok-solved-in-Plan.solved.certificate c.in_ok-solved-in-Plan.ensures.checkable.0

pub returns-in_ok-solved-in-Plan-clause-noted : goal.returns-in_ok-solved-in-Plan-clause-noted
returns-in_ok-solved-in-Plan-clause-noted g c =
    subst (λ (legs : List Kept). MayNote c.args.options.notes (IsNotedFor c.args.instance (keeping legs) (g.N.Sink.taken c.args.notes.now) (g.N.Sink.taken c.solve_keeping.new.notes)) (g.N.Sink.taken c.args.notes.now) (g.N.Sink.taken c.solve_keeping.new.notes))
    c.deref-in-Plan.ensures.value c.solve_keeping.ensures.noted
