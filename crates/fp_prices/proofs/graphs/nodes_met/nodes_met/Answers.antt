use Rattle.std.proofs.Common.{ℕ, ◌<◌, List, length, get_or, subst, arith}
use Rattle.std.specs.Prelude.{All}
use Rattle.std.proofs.lemmas.List.{get_or-map, length-map}
use Rattle.std.proofs.lemmas.List.Elements.{All-get_or}
use Rattle.fp_longestarcs.specs.declared.stops.Stop.{Stop}
use Rattle.fp_longestarcs.specs.Networks.{IsClass, TimedNetwork}
use Rattle.fp_longestarcs.specs.Stops.{leg_of, legs_of}
use Rattle.fp_prices.proofs.PricedClasses.{class-exists}
use Rattle.fp_prices.proofs.graphs.nodes_met.nodes_met.Goals as goal

-- each of the classes of a walk is one of the network
class-at : (net : TimedNetwork) (walk : List Stop) (i : ℕ) → All (IsClass net) (legs_of walk) → i < length walk → IsClass net (leg_of (get_or walk i (record { arc = 0; point = 0 })))
class-at net walk i all lt =
    let none : Stop = record { arc = 0; point = 0 } in
    subst (IsClass net) (get_or-map leg_of walk i none (leg_of none) lt) (All-get_or (IsClass net) (legs_of walk) i (leg_of none) (omega (arith, lt, length-map walk leg_of)) all)

pub arc-arc-requires : goal.arc-arc-requires
arc-arc-requires c =
    let net = c.args.network.now in
    let i : ℕ = c.loop-class.class-index in
    class-exists c.args.instance.now net (leg_of (get_or c.args.walk.now i (record { arc = 0; point = 0 }))) c.requires.whole (class-at net c.args.walk.now i c.requires.classes c.loop-class-test.true)

pub head-requires : goal.head-requires
head-requires c = class-at c.args.network.now c.args.walk.now c.loop-class.class-index c.requires.classes c.loop-class-test.true
