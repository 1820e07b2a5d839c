-- The timeline of the place's terminal includes it.
use Rattle.std.proofs.Common.{◌≡◌, ◌<◌, [], List, get_or, sym, ◌∙◌, subst, length, arith}
use Rattle.std.proofs.lemmas.List.{get_or_default}
use Rattle.fp_timenodes.specs.declared.places.Place.{Place}
use Rattle.fp_timenodes.specs.declared.timelines.Stamp.{Stamp}
use Rattle.fp_timenodes.specs.Stamps.{IncludesPoint}
use Rattle.fp_timenodes.proofs.StartPoints.{StartAt-one_more}
use Rattle.fp_timenodes.proofs.point_table.timelines_of.Goals as goal

pub loop-place-preserved : goal.loop-place-preserved
loop-place-preserved c =
    let none : Place = record { terminal = 0; at = 0 } in
    let places : List Place = c.args.places.now in
    let timelines : List (List Stamp) = c.loop-place.timelines.items in
    let here : c.loop-place.place-index < length places = omega arith in
    let place : Place = get_or places c.loop-place.place-index none in
    let within : place.terminal < c.args.terminals = c.requires c.loop-place.place-index none here in
    let room : place.terminal < length timelines = omega (arith, c.loop-place.invariant.count) in
    let read : get_or timelines place.terminal [] ≡ c.index_mut-timeline.result.now = get_or_default timelines place.terminal [] c.index_mut-timeline.result.now room ∙ sym c.index_mut-timeline.ensures.value in
    let includes = subst (λ (l : List Stamp). IncludesPoint l c.include.new.self place.at 0) (sym read) c.in_ok-include.ensures.points in
    StartAt-one_more c.args.terminals places c.loop-place.place-index none timelines c.include.new.self here within c.loop-place.invariant includes c.in_ok-include.ensures.rounds
