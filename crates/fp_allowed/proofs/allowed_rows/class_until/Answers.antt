use Rattle.std.proofs.Common.{arith}
use Rattle.fp_longestarcs.proofs.ClassNumbers.{few-classes}
use Rattle.fp_allowed.proofs.ClassRanges.{is_class-until}
use Rattle.fp_allowed.proofs.allowed_rows.class_until.Goals as goal

pub floor-requires : goal.floor-requires
floor-requires c = rw c.requires.tail (c.requires.valid.tails c.args.arc 0 c.requires.arc)

pub class-requires : goal.class-requires
class-requires c = is_class-until _ _ _ _ _ c.requires.valid c.requires.arc c.requires.tail c.floor.ensures

pub returns-clause-below : goal.returns-clause-below
returns-clause-below c = omega (arith, c.class.ensures.below, few-classes c.args.network.now c.requires.valid)
