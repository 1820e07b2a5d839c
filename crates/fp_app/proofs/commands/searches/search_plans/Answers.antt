use Rattle.fp_certificate_lines.proofs.Named.{in-range-named}
use Rattle.fp_app.proofs.commands.searches.search_plans.Goals as goal

pub returns-in_ok-solved-in-All-clause-printable : goal.returns-in_ok-solved-in-All-clause-printable
returns-in_ok-solved-in-All-clause-printable g c = in-range-named c.args.instance c.in_ok-solved-in-All.solved.certificate c.in_ok-solved-in-All.ensures.checkable.0
