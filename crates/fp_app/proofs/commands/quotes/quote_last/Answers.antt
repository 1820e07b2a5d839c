-- Both searches tell of the whole time, of which half is enough.
use Rattle.std.proofs.Common.{refl}
use Rattle.fp_replan.specs.Quotes.{without_last}
use Rattle.fp_app.specs.Searches.{within}
use Rattle.fp_app.specs.Wanted.{every}
use Rattle.fp_app.proofs.QuoteClaims.{searched-can_be_quoted, searched-quoted}
use Rattle.fp_app.proofs.TwoSearches.{first-over, over, second-over}
use Rattle.fp_app.proofs.commands.quotes.quote_last.Goals as goal

pub returns-in_ok-after-in-All-clause-shown : goal.returns-in_ok-after-in-All-clause-shown
returns-in_ok-after-in-All-clause-shown g c =
    let one =
    first-over c.args.options (g.C.Clock.moment c.solve_without_last.new.clock) (g.C.Clock.moment c.solve.new.clock) (g.C.Clock.faults c.args.clock.now) (g.C.Clock.faults c.solve_without_last.new.clock) (g.C.Clock.faults c.solve.new.clock) c.first_half.result c.first_half.ensures c.solve.ensures.later.moment c.solve.ensures.later.faults
    (without_last c.args.instance) every c.in_ok-before-in-All.before c.in_ok-before-in-All.ensures.searched in
    let two =
    second-over c.args.options (g.C.Clock.moment c.solve_without_last.new.clock) (g.C.Clock.moment c.solve.new.clock) (g.C.Clock.faults c.args.clock.now) (g.C.Clock.faults c.solve_without_last.new.clock) (g.C.Clock.faults c.solve.new.clock) c.solve_without_last.ensures.later.faults c.args.instance every c.in_ok-after-in-All.after
    c.in_ok-after-in-All.ensures.searched in
    (refl, searched-quoted c.args.instance (within c.args.options.budget (over c.args.options (g.C.Clock.moment c.solve_without_last.new.clock) (g.C.Clock.moment c.solve.new.clock) (g.C.Clock.faults c.args.clock.now) (g.C.Clock.faults c.solve_without_last.new.clock) (g.C.Clock.faults c.solve.new.clock)) c.args.options.spans) c.in_ok-before-in-All.before c.in_ok-after-in-All.after one two)

pub returns-in_ok-after-in-All-clause-printable : goal.returns-in_ok-after-in-All-clause-printable
returns-in_ok-after-in-All-clause-printable g c =
    let one =
    first-over c.args.options (g.C.Clock.moment c.solve_without_last.new.clock) (g.C.Clock.moment c.solve.new.clock) (g.C.Clock.faults c.args.clock.now) (g.C.Clock.faults c.solve_without_last.new.clock) (g.C.Clock.faults c.solve.new.clock) c.first_half.result c.first_half.ensures c.solve.ensures.later.moment c.solve.ensures.later.faults
    (without_last c.args.instance) every c.in_ok-before-in-All.before c.in_ok-before-in-All.ensures.searched in
    let two =
    second-over c.args.options (g.C.Clock.moment c.solve_without_last.new.clock) (g.C.Clock.moment c.solve.new.clock) (g.C.Clock.faults c.args.clock.now) (g.C.Clock.faults c.solve_without_last.new.clock) (g.C.Clock.faults c.solve.new.clock) c.solve_without_last.ensures.later.faults c.args.instance every c.in_ok-after-in-All.after
    c.in_ok-after-in-All.ensures.searched in
    searched-can_be_quoted c.args.instance (within c.args.options.budget (over c.args.options (g.C.Clock.moment c.solve_without_last.new.clock) (g.C.Clock.moment c.solve.new.clock) (g.C.Clock.faults c.args.clock.now) (g.C.Clock.faults c.solve_without_last.new.clock) (g.C.Clock.faults c.solve.new.clock)) c.args.options.spans) c.in_ok-before-in-All.before c.in_ok-after-in-All.after c.requires.shipment one two
