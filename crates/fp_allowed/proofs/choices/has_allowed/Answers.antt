use Rattle.fp_allowed.proofs.ArcPicks.{has_allowed_is}
use Rattle.fp_allowed.proofs.choices.has_allowed.Goals as goal

pub returns : goal.returns
returns c =
    rw c.is_some.ensures
    (has_allowed_is c.args.network.now c.args.row.now c.args.arc c.class_range-start.result.0 c.class_range-start.result.1 c.first_set.result c.requires.valid c.requires.arc c.class_range-start.ensures.range
    c.first_set.ensures)
