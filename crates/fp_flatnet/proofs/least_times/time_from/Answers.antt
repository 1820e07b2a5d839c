use Rattle.fp_labels.specs.Labels.{cost_to}
use Rattle.fp_flatnet.proofs.ArcTimes.{label-fits, label-time}
use Rattle.fp_flatnet.proofs.ArcWalks.{IsStepDistance, forward-distance}
use Rattle.fp_flatnet.proofs.least_times.time_from.Goals as goal

pub without_hold-requires : goal.without_hold-requires
without_hold-requires c =
    let p = c.args.instance.now in
    let here = c.args.here in
    let there = c.args.there in
    let label = cost_to c.args.labels.now there in
    let steps : IsStepDistance p here there label = forward-distance p here there label (c.requires.labels.exact there c.requires.there) in
    label-fits p here there c.hold.result c.to.result label c.hold.ensures.valid c.if-here-there.false steps c.to.ensures.label c.hold.ensures.same

pub returns : goal.returns
returns c =
    let p = c.args.instance.now in
    let here = c.args.here in
    let there = c.args.there in
    let label = cost_to c.args.labels.now there in
    let steps : IsStepDistance p here there label = forward-distance p here there label (c.requires.labels.exact there c.requires.there) in
    label-time p here there c.hold.result c.to.result label c.without_hold.result c.hold.ensures.valid c.if-here-there.false steps c.to.ensures.label c.hold.ensures.same c.without_hold.ensures
