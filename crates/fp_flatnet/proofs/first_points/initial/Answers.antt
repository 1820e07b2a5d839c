use Rattle.std.proofs.Common.{◌≡◌, ◌≤◌, ◌∙◌, ap, length}
use Rattle.std.proofs.lemmas.Result.{IfOk-weaker}
use Rattle.fp_timenodes.specs.Points.{TimePoints}
use Rattle.fp_flatnet.specs.Initial.{BeginAt}
use Rattle.fp_flatnet.proofs.FirstPlaces.{first_places, ArePlaces-first_places, BeginAt-places, length-places}
use Rattle.fp_flatnet.proofs.first_points.initial.Goals as goal

pub new-requires : goal.new-requires
new-requires c =
    let made : c.deref.result.now ≡ first_places c.args.instance.now c.args.windows.now.anchors = cc (c.deref.ensures.value, c.in_ok-places.ensures, c.shipments.ensures.same, c.anchors.ensures) in
    ArePlaces-first_places c.args.instance.now c.args.windows.now c.deref.result.now c.terminals.result.now c.requires made c.terminals.ensures.same

pub returns-clause-begins : goal.returns-clause-begins
returns-clause-begins c =
    let made : c.deref.result.now ≡ first_places c.args.instance.now c.args.windows.now.anchors = cc (c.deref.ensures.value, c.in_ok-places.ensures, c.shipments.ensures.same, c.anchors.ensures) in
    IfOk-weaker c.new.result _ (BeginAt c.args.instance.now c.args.windows.now.anchors)
    (λ (points : TimePoints) is. BeginAt-places c.args.instance.now c.args.windows.now.anchors c.deref.result.now c.terminals.result.now points made c.terminals.ensures.same is)
    c.new.ensures

pub returns-clause-few : goal.returns-clause-few
returns-clause-few c =
    let made : c.deref.result.now ≡ first_places c.args.instance.now c.args.windows.now.anchors = cc (c.deref.ensures.value, c.in_ok-places.ensures, c.shipments.ensures.same, c.anchors.ensures) in
    IfOk-weaker c.new.result _ (λ (points : TimePoints). length points.first ≤ 31000)
    (λ (points : TimePoints) is.
    length-places c.args.instance.now c.args.windows.now points.first c.requires (ap (λ (v : TimePoints). v.first) is ∙ made))
    c.new.ensures
