use Rattle.std.proofs.Common.{List, sym, subst, ◌+◌}
use Rattle.fp_yard.specs.declared.events.Event.{Event}
use Rattle.fp_yard.specs.Enabled.{AreEnabledBelow}
use Rattle.fp_yard.proofs.AllowedEvents.{enabled-push, enabled-skip}
use Rattle.fp_yard.proofs.allowed_events.push_next.Goals as goal

pub returns : goal.returns
returns c =
    let s = c.args.yard.now.schedule in
    let h = c.args.yard.now.history in
    subst (λ (events : List Event). AreEnabledBelow s h (c.args.line + 1) events) (sym c.in_ok-push.ensures.items)
    (enabled-push s h c.args.line c.args.events.now.items c.in-Some.event c.in-Some.ensures.legal c.in-Some.ensures.event c.requires.before)

pub returns-in_default : goal.returns-in_default
returns-in_default c = enabled-skip c.args.yard.now.schedule c.args.yard.now.history c.args.line c.args.events.now.items c.in_default.ensures.event c.requires.before
