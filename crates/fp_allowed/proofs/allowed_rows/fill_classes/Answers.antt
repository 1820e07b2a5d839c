use Rattle.fp_allowed.proofs.ClassRanges.{fills_between, range_within}
use Rattle.fp_allowed.proofs.allowed_rows.fill_classes.Goals as goal

pub fill_range-requires-clause-order : goal.fill_range-requires-clause-order
fill_range-requires-clause-order c =
    (range_within _ _ _ _ _ _ c.requires.valid c.requires.arc c.requires.tail c.requires.some c.class_until-first.ensures.number c.class_until-last.ensures.number).0

pub fill_range-requires-clause-within : goal.fill_range-requires-clause-within
fill_range-requires-clause-within c =
    rw c.requires.long
    (range_within _ _ _ _ _ _ c.requires.valid c.requires.arc c.requires.tail c.requires.some c.class_until-first.ensures.number c.class_until-last.ensures.number).1

pub returns : goal.returns
returns c =
    fills_between _ _ _ _ _ _ _ _ c.requires.valid c.requires.arc c.requires.tail c.requires.some c.requires.long c.class_until-first.ensures.number c.class_until-last.ensures.number
    c.fill_range.ensures.bits
