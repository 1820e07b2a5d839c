use Rattle.std.proofs.Common.{◌≡◌, List, length, ap, arith}
use Rattle.fp_model.specs.declared.parts.Arc.{Arc}
use Rattle.fp_allowed.proofs.Passages.{row_all, row_more}
use Rattle.fp_allowed.proofs.windows_under.windows_between.Goals as goal

pub loop-arc-preserved : goal.loop-arc-preserved
loop-arc-preserved c =
    row_more c.args.asked.now c.args.earliest.now c.args.latest.now c.loop-arc.arc c.loop-arc.row.items c.push.new.self.items c.window_between.result c.loop-arc.invariant c.window_between.ensures c.in_ok-push.ensures.items

pub returns : goal.returns
returns c =
    let all : c.loop-arc.arc ≡ length c.args.asked.now.instance.now.arcs = omega (arith, c.loop-arc-test.false, c.loop-arc.auto.arc-end, ap (λ (l : List Arc). length l) c.arcs.ensures.same) in
    row_all c.args.asked.now c.args.earliest.now c.args.latest.now c.loop-arc.arc (length c.args.asked.now.instance.now.arcs) c.loop-arc.row.items all c.loop-arc.invariant
