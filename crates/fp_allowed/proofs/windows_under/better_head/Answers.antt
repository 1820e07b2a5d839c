use Rattle.std.proofs.Common.{◌≡◌, ◌+◌, ◌<◌, arith}
use Rattle.fp_model.specs.Routes.{step}
use Rattle.fp_allowed.proofs.Sweeps.{betters_head-at, betters_head-nowhere}
use Rattle.fp_allowed.proofs.windows_under.better_head.Goals as goal

pub returns-in-Some : goal.returns-in-Some
returns-in-Some c =
    let sum : c.in-Some.leaves + c.step.result ≡ c.in-Some.leaves + step c.args.asked.now.instance.now c.args.arc = omega (arith, c.step.ensures.same) in
    let fits : c.in-Some.leaves + c.step.result < 4294967296 = omega (arith, c.in-Some.ensures.in_time, c.step.ensures.short) in
    betters_head-at c.args.asked.now c.args.arc c.requires.arc c.arc-ends.result (c.in-Some.leaves + c.step.result) c.args.earliest.now c.lower.new.values c.in-Some.leaves c.lower.result c.requires.asked c.requires.long
    c.arc-ends.ensures.same sum fits c.in-Some.ensures.first c.lower.ensures

pub returns-in-None : goal.returns-in-None
returns-in-None c = betters_head-nowhere c.args.asked.now c.args.arc c.requires.arc c.arc-ends.result c.args.earliest.now c.arc-ends.ensures.same c.in-None.ensures.first
