use Rattle.std.proofs.Common.{◌≡◌, ◌∙◌, ◌<◌, ◌-◌, ◌+◌, List, length, ap, sym, subst, rules}
use Rattle.fp_model.specs.Numbered.{route_at}
use Rattle.fp_longestarcs.specs.Networks.{points_in}
use Rattle.fp_longestarcs.specs.Stops.{legs_of}
use Rattle.fp_shortarcs.specs.declared.shorts.Short.{Short}
use Rattle.fp_shortarcs.specs.Listing.{AreTooShortBefore}
use Rattle.fp_shortarcs.proofs.WrittenWalks.{class-read, missed-push, missed-skip, walk-end, walk-read}
use Rattle.fp_shortarcs.proofs.listing.add_walk.Goals as goal
use Rattle.fp_shortarcs.proofs.listing.add_walk.Goals.{in-Some+in_ok-push, in_default}

pub missed-requires-clause-class : goal.missed-requires-clause-class
missed-requires-clause-class c =
    let walk : legs_of c.behind-relaxed.inside.stops.items ≡ route_at c.args.relaxed.now c.args.shipment = walk-read c.args.relaxed.now c.args.shipment c.behind-relaxed.inside.stops.items c.index.result.now (search rules) (search rules) c.requires.exists in
    class-read c.args.relaxed.now c.args.shipment c.loop-leg.leg c.behind-relaxed.inside.stops.items c.index-in-loop-leg.result.now c.requires.exists walk (search rules) c.index-in-loop-leg.ensures c.args.network.now c.requires.classes

pub loop-leg-preserved : goal.loop-leg-preserved
loop-leg-preserved c =
    let walk : legs_of c.behind-relaxed.inside.stops.items ≡ route_at c.args.relaxed.now c.args.shipment = walk-read c.args.relaxed.now c.args.shipment c.behind-relaxed.inside.stops.items c.index.result.now (search rules) (search rules) c.requires.exists in
    let lt : c.loop-leg.leg < length c.behind-relaxed.inside.stops.items - 1 = search rules in
    elim c.match-missed.branch [
      | in-Some+in_ok-push w ↦
          missed-push c.args.relaxed.now c.args.shipment c.loop-leg.leg c.behind-relaxed.inside.stops.items c.index-in-loop-leg.result.now c.requires.exists walk lt c.index-in-loop-leg.ensures
          c.args.instance.now (points_in c.args.network.now) c.loop-leg.found.items c.match-missed.found.items w.in-Some.place c.loop-leg.invariant
          w.in-Some.ensures (ap (λ v. v.items) w.found-is ∙ w.in_ok-push.ensures.items)
      | in_default w ↦
          let same : c.match-missed.found.items ≡ c.loop-leg.found.items = ap (λ v. v.items) w.found-is in
          subst (λ (ss : List Short). AreTooShortBefore c.args.instance.now (points_in c.args.network.now) c.args.relaxed.now (record { shipment = c.args.shipment; leg = c.loop-leg.leg + 1 }) ss) (sym same)
          (missed-skip c.args.relaxed.now c.args.shipment c.loop-leg.leg c.behind-relaxed.inside.stops.items c.index-in-loop-leg.result.now c.requires.exists walk lt c.index-in-loop-leg.ensures
          c.args.instance.now (points_in c.args.network.now) c.loop-leg.found.items c.loop-leg.invariant w.in_default.ensures)
    ]

pub returns : goal.returns
returns c =
    let walk : legs_of c.behind-relaxed.inside.stops.items ≡ route_at c.args.relaxed.now c.args.shipment = walk-read c.args.relaxed.now c.args.shipment c.behind-relaxed.inside.stops.items c.index.result.now (search rules) (search rules) c.requires.exists in
    walk-end c.args.instance.now (points_in c.args.network.now) c.args.relaxed.now c.args.shipment c.loop-leg.leg c.behind-relaxed.inside.stops.items c.loop-leg.found.items walk (search rules) c.loop-leg.invariant
