use Rattle.std.proofs.Common.{ap, ◌∙◌}
use Rattle.fp_yard.specs.Enabled.{next_kind}
use Rattle.fp_yard.proofs.AllowedEvents.{none-allowed}
use Rattle.fp_yard.proofs.allowed_events.next_event.Goals as goal

pub returns-in-Some-clause-event : goal.returns-in-Some-clause-event
returns-in-Some-clause-event c =
    none-allowed c.args.yard.now.schedule c.args.yard.now.history c.args.line c.kind_after.result c.in-Some.field-0 c.in-Some.ensures.sound c.in-Some.ensures.legal
    (c.kind_after.ensures ∙ ap next_kind c.stage.ensures) c.in-Some.ensures.fault
