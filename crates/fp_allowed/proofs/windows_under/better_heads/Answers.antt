use Rattle.std.proofs.Common.{◌≡◌, length, ap, arith}
use Rattle.std.specs.Prelude.{List}
use Rattle.fp_model.specs.declared.parts.Arc.{Arc}
use Rattle.fp_allowed.specs.Sweeps.{AreReady, IsStableFrom, left_below}
use Rattle.fp_allowed.proofs.Sweeps.{betters_all, betters_more, betters_none}
use Rattle.fp_allowed.proofs.windows_under.better_heads.Goals as goal

pub loop-arc-init : goal.loop-arc-init
loop-arc-init c = betters_none (AreReady c.args.asked.now) left_below (IsStableFrom c.args.asked.now) c.args.earliest.now

pub loop-arc-preserved : goal.loop-arc-preserved
loop-arc-preserved c =
    betters_more (AreReady c.args.asked.now) left_below (IsStableFrom c.args.asked.now) c.loop-arc.arc c.args.earliest.now c.loop-arc.earliest c.better_head-changed.new.earliest c.loop-arc.changed c.better_head-changed.result c.loop-arc.invariant
    c.better_head-changed.ensures

pub returns : goal.returns
returns c =
    let all : c.loop-arc.arc ≡ length c.args.asked.now.instance.now.arcs = omega (arith, c.loop-arc-test.false, c.loop-arc.auto.arc-end, ap (λ (l : List Arc). length l) c.arcs.ensures.same) in
    betters_all (AreReady c.args.asked.now) left_below (IsStableFrom c.args.asked.now) c.loop-arc.arc (length c.args.asked.now.instance.now.arcs) c.args.earliest.now c.loop-arc.earliest c.loop-arc.changed all c.loop-arc.invariant
