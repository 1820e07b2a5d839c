-- The timeline of the terminal and the list of added points both have the new point.
use Rattle.std.proofs.Common.{◌≡◌, ◌≤◌, [], List, get_or, length, ap, sym, ◌∙◌, subst}
use Rattle.std.proofs.lemmas.List.{get_or_default}
use Rattle.fp_timenodes.specs.declared.places.AddedPoint.{AddedPoint}
use Rattle.fp_timenodes.specs.declared.timelines.Stamp.{Stamp}
use Rattle.fp_timenodes.specs.Points.{TimePoints, IsAddedPoint, greatest_round}
use Rattle.fp_timenodes.specs.Stamps.{IncludesPoint}
use Rattle.fp_timenodes.proofs.NewPoint.{Show-one_added}
use Rattle.fp_timenodes.proofs.point_table.Points.add.Goals as goal

pub invariant_of-self-2 : goal.invariant_of-self-2
invariant_of-self-2 c =
    let i = c.self.inside in
    let p : AddedPoint = record { terminal = c.args.terminal; at = c.args.at; round = c.args.round } in
    let timelines : List (List Stamp) = i.timelines.items in
    let count : length timelines ≡ c.args.self.now.terminals = ap (λ (v : TimePoints). v.terminals) c.self.view_is in
    let added : i.added.items ≡ c.args.self.now.added = ap (λ (v : TimePoints). v.added) c.self.view_is in
    let valid : IsAddedPoint (length timelines) p = rw count c.requires.place in
    let order : greatest_round i.added.items ≤ c.args.round = rw added c.requires.order in
    let read : get_or timelines c.args.terminal [] ≡ c.index_mut-timeline.result.now = get_or_default timelines c.args.terminal [] c.index_mut-timeline.result.now valid.0 ∙ sym c.index_mut-timeline.ensures.value in
    let includes = subst (λ (l : List Stamp). IncludesPoint l c.insert.new.self c.args.at c.args.round) (sym read) c.in_ok-insert.ensures.points in
    rw (c.in_ok-push.ensures.items, c.in_ok-reserve.ensures.items) (Show-one_added i.first.items i.added.items timelines p c.insert.new.self c.self.invariant valid order includes c.in_ok-insert.ensures.rounds)
