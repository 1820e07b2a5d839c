use Rattle.std.proofs.Common.{refl, rules}
use Rattle.fp_certificate_lines.proofs.Named.{in-range-named}
use Rattle.fp_app.specs.Plans.{IsToldPlan}
use Rattle.fp_app.specs.Wanted.{from_plan}
use Rattle.fp_app.proofs.BegunSearches.{first-from, no-dearer, windows-from}
use Rattle.fp_ends.specs.Deadlines.{has_shown}
use Rattle.fp_app.specs.Searches.{within}
use Rattle.fp_app.proofs.commands.improvements.search_told.Goals as goal

pub returns-in-Ok-clause-shown : goal.returns-in-Ok-clause-shown
returns-in-Ok-clause-shown g c = λ wanted windows.
    let p = c.args.instance in
    let plan = c.in-Ok.plan in
    let told : IsToldPlan p wanted c.args.certificate.now plan = rw c.in-Ok.is at (c.plan_within.ensures.told wanted windows) in
    let searched = rw c.in_ok-solved-in-Ok.was at (c.search_from.ensures.searched (from_plan wanted plan) (windows-from p wanted plan c.args.windows windows) (first-from p wanted plan)) in (
      refl,
      record {
        plan = plan;
        told = told;
        searched = searched;
        no_dearer =
            no-dearer p wanted plan (within c.args.options.budget (has_shown c.args.options.seconds (g.C.Clock.moment c.search_from.new.clock) (g.C.Clock.faults c.args.clock.now) (g.C.Clock.faults c.search_from.new.clock)) c.args.options.spans)
            c.in_ok-solved-in-Ok.solved searched;
      },
    )

pub returns-in-Ok-clause-printable : goal.returns-in-Ok-clause-printable
returns-in-Ok-clause-printable g c = in-range-named c.args.instance c.in_ok-solved-in-Ok.solved.certificate c.in_ok-solved-in-Ok.ensures.checkable.0

pub returns-in-Err-Part-clause-shown : goal.returns-in-Err-Part-clause-shown
returns-in-Err-Part-clause-shown g c = λ wanted windows. c.in-Err-Part.ensures.part wanted _ windows (search rules)
