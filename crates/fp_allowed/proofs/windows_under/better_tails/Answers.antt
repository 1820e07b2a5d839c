use Rattle.std.proofs.Common.{◌≡◌, length, ap, arith}
use Rattle.std.specs.Prelude.{List}
use Rattle.fp_model.specs.declared.parts.Arc.{Arc}
use Rattle.fp_allowed.specs.Sweeps.{AreOnward, IsStableTo, left_above}
use Rattle.fp_allowed.proofs.Sweeps.{betters_all, betters_more, betters_none}
use Rattle.fp_allowed.proofs.windows_under.better_tails.Goals as goal

pub loop-arc-init : goal.loop-arc-init
loop-arc-init c = betters_none (AreOnward c.args.asked.now) left_above (IsStableTo c.args.asked.now) c.args.latest.now

pub loop-arc-preserved : goal.loop-arc-preserved
loop-arc-preserved c =
    betters_more (AreOnward c.args.asked.now) left_above (IsStableTo c.args.asked.now) c.loop-arc.arc c.args.latest.now c.loop-arc.latest c.better_tail-changed.new.latest c.loop-arc.changed c.better_tail-changed.result c.loop-arc.invariant
    c.better_tail-changed.ensures

pub returns : goal.returns
returns c =
    let all : c.loop-arc.arc ≡ length c.args.asked.now.instance.now.arcs = omega (arith, c.loop-arc-test.false, c.loop-arc.auto.arc-end, ap (λ (l : List Arc). length l) c.arcs.ensures.same) in
    betters_all (AreOnward c.args.asked.now) left_above (IsStableTo c.args.asked.now) c.loop-arc.arc (length c.args.asked.now.instance.now.arcs) c.args.latest.now c.loop-arc.latest c.loop-arc.changed all c.loop-arc.invariant
