use Rattle.std.proofs.Common.{◌≡◌, map}
use Rattle.std.specs.List.{range_with_len}
use Rattle.fp_allowed.specs.Listing.{class_at}
use Rattle.fp_prices.specs.Points.{class_edge}
use Rattle.fp_prices.proofs.graphs.point_graphs.edges_of_classes.Given as goal

abbrev pub invariant-loop-class : goal.invariant-loop-class
invariant-loop-class l = l.edges.items ≡ map (λ n. class_edge l.instance l.network (class_at l.network n)) (range_with_len 0 l.class)
