use Rattle.fp_app.specs.Checks.{AreWindowsOf}
use Rattle.fp_app.specs.Wanted.{every}
use Rattle.fp_app.proofs.commands.searches.solve.Goals as goal

pub returns-clause-searched : goal.returns-clause-searched
returns-clause-searched g c =
    let windows : AreWindowsOf c.args.instance.now c.in_ok-windows.windows =
    record { exact = c.in_ok-windows.ensures.windows; unanchored = c.in_ok-windows.ensures.anchors; belongs = c.in_ok-windows.ensures.belongs } in
    c.search_from.ensures.searched every windows c.in_ok-start.ensures.exact
