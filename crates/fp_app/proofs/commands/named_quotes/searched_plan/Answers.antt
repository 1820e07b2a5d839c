use Rattle.std.proofs.Common.{◌∙◌, Err, ap, sym, subst}
use Rattle.fp_session_history.specs.Solutions.{Solution}
use Rattle.fp_app.specs.Plans.{TellsTimetable}
use Rattle.fp_app.specs.Wanted.{every}
use Rattle.fp_app.proofs.commands.named_quotes.searched_plan.Goals as goal

-- it tells its plan
pub unreachable-requires : goal.unreachable-requires
unreachable-requires c =
    let tells = subst (λ (s : Solution). TellsTimetable c.args.instance.now every s.certificate) (sym c.solved.view_is) c.requires.tells in
    (c.told_plan.ensures.part c.in-Err-Part.field-0-0 (c.in-Err-Part.is ∙ ap Err c.in-Err-Part.field-0-is)).untold tells
