use Rattle.std.proofs.Common.{◌<◌, arith}
use Rattle.fp_allowed.proofs.Sweeps.{betters_tail-at, betters_tail-nowhere}
use Rattle.fp_allowed.proofs.windows_under.better_tail.Goals as goal

pub returns-in-Some : goal.returns-in-Some
returns-in-Some c =
    let fits : c.in-Some.leaves < 4294967296 = omega arith in
    betters_tail-at c.args.asked.now c.args.arc c.requires.arc c.arc-ends.result c.args.latest.now c.raise.new.values c.in-Some.leaves c.raise.result c.requires.asked c.requires.long c.arc-ends.ensures.same fits c.in-Some.ensures
    c.raise.ensures

pub returns-in-None : goal.returns-in-None
returns-in-None c = betters_tail-nowhere c.args.asked.now c.args.arc c.requires.arc c.arc-ends.result c.args.latest.now c.arc-ends.ensures.same c.in-None.ensures
