-- The numbers of classes are below their count.
use Rattle.std.proofs.Common.{arith}
use Rattle.fp_model.specs.declared.parts.Leg.{Leg}
use Rattle.fp_longestarcs.proofs.ClassNumbers.{few-classes, number-within}
use Rattle.fp_longestarcs.proofs.networks.Network.class.Goals as goal

pub returns-clause-below : goal.returns-clause-below
returns-clause-below c =
    let leg : Leg = record { arc = c.args.arc; depart = c.args.point } in
    omega (arith, c.offset.ensures, c.place.ensures.place, number-within c.args.self.now leg c.place.ensures.valid c.requires)

pub overflow_add-result : goal.overflow_add-result
overflow_add-result c =
    let leg : Leg = record { arc = c.args.arc; depart = c.args.point } in
    omega (arith, c.offset.ensures, c.place.ensures.place, number-within c.args.self.now leg c.place.ensures.valid c.requires, few-classes c.args.self.now c.place.ensures.valid)

pub overflow_cast-result : goal.overflow_cast-result
overflow_cast-result c =
    let leg : Leg = record { arc = c.args.arc; depart = c.args.point } in
    omega (arith, c.offset.ensures, c.place.ensures.place, number-within c.args.self.now leg c.place.ensures.valid c.requires, few-classes c.args.self.now c.place.ensures.valid)
