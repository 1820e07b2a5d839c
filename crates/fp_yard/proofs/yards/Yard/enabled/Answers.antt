use Rattle.std.proofs.Common.{arith, sym, subst, List}
use Rattle.fp_yard.specs.declared.events.Event.{Event}
use Rattle.fp_yard.specs.Enabled.{AreEnabledBelow}
use Rattle.fp_yard.proofs.AllowedEvents.{enabled-all, enabled-few, enabled-none}
use Rattle.fp_yard.proofs.yards.Yard.enabled.Goals as goal

pub loop-line-init : goal.loop-line-init
loop-line-init c =
    subst (λ (events : List Event). AreEnabledBelow c.args.self.now.schedule c.args.self.now.history 0 events) (sym c.new-events.ensures.items)
    (enabled-none c.args.self.now.schedule c.args.self.now.history)

pub returns-clause-events : goal.returns-clause-events
returns-clause-events c =
    enabled-all c.args.self.now.schedule c.args.self.now.history c.loop-line.line c.loop-line.events.items (omega (arith, c.lines-line-end.ensures.count, c.loop-line-test.false)) c.loop-line.invariant

pub returns-clause-few : goal.returns-clause-few
returns-clause-few c =
    omega (arith, enabled-few c.args.self.now.schedule c.args.self.now.history c.loop-line.line c.loop-line.events.items c.loop-line.invariant, c.lines-line-end.type_inv, c.loop-line.auto)
