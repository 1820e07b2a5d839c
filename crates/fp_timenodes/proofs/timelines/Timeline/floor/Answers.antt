-- The slice that was searched is the timeline.
use Rattle.std.proofs.Common.{◌≡◌, ap, ◌∙◌}
use Rattle.std.specs.Prelude.{ℕ, Option, unwrap_or}
use Rattle.fp_timenodes.proofs.StampSearch.{found-until}
use Rattle.fp_timenodes.proofs.timelines.Timeline.floor.Goals as goal

pub returns : goal.returns
returns c =
    let searched : c.as_slice-stamps.result.now ≡ c.args.self.now = cc in
    let found = found-until c.as_slice-stamps.result.now c.args.at c.args.round c.count_until-end.result c.count_until-end.ensures in
    rw (← searched) (c.unwrap_or.ensures ∙ (ap (λ (o : Option ℕ). unwrap_or o 0) c.last_by.ensures ∙ found))
