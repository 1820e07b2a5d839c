use Rattle.std.proofs.Common.{◌<◌, length, subst, arith}
use Rattle.std.specs.Prelude.{All}
use Rattle.std.proofs.lemmas.List.{take_all}
use Rattle.std.proofs.lemmas.List.Elements.{All-more}
use Rattle.fp_flatnet.specs.Tables.{windows_in}
use Rattle.fp_prices_spans.specs.MomentRuns.{first_points}
use Rattle.fp_prices_spans.specs.Spans.{ClassSpan}
use Rattle.fp_prices_spans.specs.SpanCharges.{ChargePays}
use Rattle.fp_prices_spans.proofs.rules.charge_rule.check_charges.Goals as goal

pub loop-number-preserved : goal.loop-number-preserved
loop-number-preserved c =
    let Paid : ClassSpan → Type 0 = ChargePays c.args.instance.now (windows_in c.args.windows.now) (first_points c.args.points.now) in
    let here : c.loop-number.number < length c.args.spans.now = omega arith in
    All-more Paid c.args.spans.now c.loop-number.number c.index-spans-number.result here c.loop-number.invariant
    (subst Paid c.index-spans-number.is (c.in_ok-pays.ensures.0 c.if-not-branch.false))

pub returns : goal.returns
returns c =
    subst (All (ChargePays c.args.instance.now (windows_in c.args.windows.now) (first_points c.args.points.now))) (take_all c.loop-number.number c.args.spans.now (omega arith)) c.loop-number.invariant
