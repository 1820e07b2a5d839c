-- The copies are equal, so they stand for the same points.
use Rattle.std.proofs.Common.{◌≡◌, ◌≤◌, length, ap, ◌∙◌, arith}
use Rattle.std.proofs.lemmas.List.{take_all}
use Rattle.fp_timenodes.proofs.point_table.Points.copy.Goals as goal

pub invariant_of-result : goal.invariant_of-result
invariant_of-result c =
    let p = c.self.inside in
    let first : c.in_ok-to_vec.field-0.items ≡ p.first.items = c.in_ok-to_vec.ensures.items_if_clones_equal (λ x y e. e) ∙ c.as_slice.ensures.value in
    let added : c.in_ok-to_vec-2.field-0.items ≡ p.added.items = c.in_ok-to_vec-2.ensures.items_if_clones_equal (λ x y e. e) ∙ c.as_slice-2.ensures.value in
    let whole : length p.timelines.items ≤ c.loop-timeline.timeline-index = omega (arith, ap length c.deref-timeline-items.ensures.value) in
    let timelines : c.loop-timeline.timelines.items ≡ p.timelines.items = c.loop-timeline.invariant ∙ take_all c.loop-timeline.timeline-index p.timelines.items whole in
    rw (first, added, timelines) c.self.invariant
