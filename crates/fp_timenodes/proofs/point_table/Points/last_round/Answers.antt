-- Rounds do not fall, so the last added point has the greatest.
use Rattle.std.proofs.Common.{◌≡◌, ◌<◌, ◌∙◌, List, ap, length}
use Rattle.fp_timenodes.specs.declared.places.AddedPoint.{AddedPoint}
use Rattle.fp_timenodes.specs.Points.{TimePoints, greatest_round}
use Rattle.fp_timenodes.proofs.Rounds.{greatest_round_last}
use Rattle.fp_timenodes.proofs.point_table.Points.last_round.Goals as goal

pub returns-in-Some : goal.returns-in-Some
returns-in-Some c =
    let added : List AddedPoint = c.self.inside.added.items in
    let item = c.in-Some.ensures.item in
    let same : c.deref.result.now ≡ added = c.deref.ensures.value in
    let some : 0 < length added = rw same at item.3.0 in
    let read = rw same at item.1 in
    let last = greatest_round_last added c.in-Some.point.now c.self.invariant.valid.rounds some read in
    last ∙ ap (λ (v : TimePoints). greatest_round v.added) c.self.view_is
