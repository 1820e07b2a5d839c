use Rattle.fp_allowed.proofs.ArcExits.{none_by, one_by, several_by}
use Rattle.fp_allowed.proofs.exits.leaving_by.Goals as goal

pub returns-in-None : goal.returns-in-None
returns-in-None c =
    none_by c.args.network.now c.args.row.now c.args.arc c.class_range-start.result.0 c.class_range-start.result.1 c.requires.valid c.requires.arc c.class_range-start.ensures.range
    c.in-None.ensures

pub returns-in-None-first_set : goal.returns-in-None-first_set
returns-in-None-first_set c =
    one_by c.args.network.now c.args.row.now c.args.arc c.class_range-start.result.0 c.class_range-start.result.1 c.requires.valid c.requires.arc c.class_range-start.ensures.range
    c.in-Some.class c.in-Some.ensures c.in-None-first_set.ensures

pub returns-in-Some-first_set : goal.returns-in-Some-first_set
returns-in-Some-first_set c =
    several_by c.args.network.now c.args.row.now c.args.arc c.class_range-start.result.0 c.class_range-start.result.1 c.requires.valid c.requires.arc c.class_range-start.ensures.range
    c.in-Some.class c.in-Some-first_set.field-0 c.in-Some.ensures c.in-Some-first_set.ensures
