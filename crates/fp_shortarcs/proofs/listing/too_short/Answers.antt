use Rattle.std.proofs.Common.{◌≤◌, ◌<◌, ◌-◌, ◌^◌, List, length, subst, rules}
use Rattle.fp_flatnet.specs.Tables.{windows_in}
use Rattle.fp_longestarcs.specs.Networks.{points_in}
use Rattle.fp_relaxmodel.specs.Relaxed.{HasRoutes}
use Rattle.fp_relaxmodel.proofs.PlansCoarsen.{HasRoutes-relaxed}
use Rattle.fp_relaxmodel.proofs.RouteLengths.{HasRoutes-few_legs, HasRoutes-few_walks}
use Rattle.fp_shortarcs.specs.declared.shorts.Short.{Short}
use Rattle.fp_shortarcs.specs.TooShort.{AreTooShort}
use Rattle.fp_shortarcs.proofs.ListedSoFar.{AreTooShort-before}
use Rattle.fp_shortarcs.proofs.NewPlaces.{CanBePoint-IsShort}
use Rattle.fp_shortarcs.proofs.RelaxedClasses.{classes-relaxed}
use Rattle.fp_shortarcs.proofs.TimesOfClasses.{HaveTimes-none_listed}
use Rattle.fp_shortarcs.proofs.UniqueShorts.{shorts-unique}
use Rattle.fp_shortarcs.proofs.listing.too_short.Goals as goal

pub overflow_cast-shipment : goal.overflow_cast-shipment
overflow_cast-shipment c =
    let routes : HasRoutes c.args.instance.now c.args.relaxed.now = HasRoutes-relaxed c.args.instance.now (windows_in c.args.windows.now) (points_in c.args.network.now) c.args.relaxed.now c.requires.relaxed in
    let few : length c.args.relaxed.now < 2 ^ 32 - 1 = HasRoutes-few_walks c.args.instance.now c.args.relaxed.now c.requires.belongs.valid routes in
    search rules

pub add_walk-requires-clause-classes : goal.add_walk-requires-clause-classes
add_walk-requires-clause-classes c =
    classes-relaxed c.args.instance.now c.args.windows.now c.args.network.now c.args.relaxed.now c.requires.belongs c.requires.whole c.requires.relaxed

pub add_walk-requires-clause-few_legs : goal.add_walk-requires-clause-few_legs
add_walk-requires-clause-few_legs c =
    HasRoutes-few_legs c.args.instance.now c.args.relaxed.now c.requires.belongs.valid
    (HasRoutes-relaxed c.args.instance.now (windows_in c.args.windows.now) (points_in c.args.network.now) c.args.relaxed.now c.requires.relaxed)

pub returns-clause-only : goal.returns-clause-only
returns-clause-only c others are =
    let last : length c.args.relaxed.now ≤ c.loop-shipment.shipment = search rules in
    shorts-unique c.args.instance.now (points_in c.args.network.now) c.args.relaxed.now c.loop-shipment.found.items others
    (AreTooShort-before c.args.instance.now (points_in c.args.network.now) c.args.relaxed.now c.loop-shipment.shipment c.loop-shipment.found.items c.loop-shipment.invariant last) are

pub returns-clause-places : goal.returns-clause-places
returns-clause-places c =
    CanBePoint-IsShort c.args.instance.now c.args.windows.now (points_in c.args.network.now) c.args.relaxed.now c.requires.belongs c.requires.relaxed
    c.loop-shipment.found.items c.loop-shipment.invariant.each

pub returns-clause-clash : goal.returns-clause-clash
returns-clause-clash c groups are none empty =
    let last : length c.args.relaxed.now ≤ c.loop-shipment.shipment = search rules in
    let short : AreTooShort c.args.instance.now (points_in c.args.network.now) c.args.relaxed.now c.loop-shipment.found.items =
    AreTooShort-before c.args.instance.now (points_in c.args.network.now) c.args.relaxed.now c.loop-shipment.shipment c.loop-shipment.found.items c.loop-shipment.invariant last in
    none
    (HaveTimes-none_listed c.args.instance.now c.args.windows.now (points_in c.args.network.now) c.args.relaxed.now c.requires.belongs c.requires.initial c.requires.relaxed groups are
    (subst (λ (shorts : List Short). AreTooShort c.args.instance.now (points_in c.args.network.now) c.args.relaxed.now shorts) empty short))
