-- Sorting changes no place.
use Rattle.std.proofs.Common.{◌≡◌, ◌<◌, IsPermutation, sym}
use Rattle.std.proofs.lemmas.List.Elements.{All-weaker}
use Rattle.std.proofs.lemmas.List.Sorted.{All-permutation}
use Rattle.fp_timenodes.specs.declared.places.Place.{Place}
use Rattle.fp_timenodes.specs.Points.{IsPlace}
use Rattle.fp_timenodes.proofs.StartPoints.{Show-start}
use Rattle.fp_timenodes.proofs.point_table.Points.new.Goals as goal

pub timelines_of-requires : goal.timelines_of-requires
timelines_of-requires c =
    let copied : c.in_ok-ascending.ascending.items ≡ c.args.first.now = c.in_ok-ascending.ensures.items_if_clones_equal (λ x y e. e) in
    let same : IsPermutation c.args.first.now c.deref.result.now = rw (c.deref.ensures.value, sym copied) c.sort_unstable_by_key.ensures.permutation in
    All-permutation (λ (p : Place). p.terminal < c.args.terminals) c.args.first.now c.deref.result.now same
    (All-weaker (IsPlace c.args.terminals) (λ (p : Place). p.terminal < c.args.terminals) (λ p h. h.0) c.args.first.now c.requires)

pub invariant_of-result : goal.invariant_of-result
invariant_of-result c =
    let copied : c.in_ok-ascending.ascending.items ≡ c.args.first.now = c.in_ok-ascending.ensures.items_if_clones_equal (λ x y e. e) in
    let kept : c.in_ok-to_vec.field-0.items ≡ c.args.first.now = c.in_ok-to_vec.ensures.items_if_clones_equal (λ x y e. e) in
    let same : IsPermutation c.args.first.now c.deref.result.now = rw (c.deref.ensures.value, sym copied) c.sort_unstable_by_key.ensures.permutation in
    rw (kept, c.new.ensures.items) (Show-start c.args.first.now c.deref.result.now c.args.terminals c.in_ok-timelines_of.field-0.items same c.requires c.in_ok-timelines_of.ensures)
