use Rattle.fp_app_tails.specs.Windows.{AreKeptWindowsOf}
use Rattle.fp_app.specs.Wanted.{keeping}
use Rattle.fp_app.proofs.commands.replans.solve_keeping.Goals as goal

pub returns-clause-searched : goal.returns-clause-searched
returns-clause-searched g c =
    let windows : AreKeptWindowsOf c.args.instance.now c.args.kept.now c.in_ok-windows.windows =
    record { exact = c.in_ok-windows.ensures.windows; anchored = c.in_ok-windows.ensures.anchors; belongs = c.in_ok-windows.ensures.belongs; tell = c.in_ok-windows.ensures.tell } in
    c.search_from.ensures.searched (keeping c.args.kept.now) windows c.requires.first
