-- The slice that was searched is the timeline.
use Rattle.std.proofs.Common.{◌≡◌, ◌∙◌}
use Rattle.std.proofs.lemmas.List.{take_rest}
use Rattle.fp_timenodes.proofs.StampSearch.{found-after}
use Rattle.fp_timenodes.proofs.timelines.Timeline.next.Goals as goal

pub returns : goal.returns
returns c =
    let searched : c.as_slice-stamps.result.now ≡ c.args.self.now = cc in
    let found = found-after c.as_slice-stamps.result.now c.args.at c.args.round c.count_until-end.result c.count_until-end.ensures in
    let rest = take_rest c.as_slice-stamps.result.now c.count_until-end.result in
    rw (← searched) (rw rest at c.first_by.ensures ∙ found)
