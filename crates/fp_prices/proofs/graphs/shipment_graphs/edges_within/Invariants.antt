use Rattle.std.proofs.Common.{◌≡◌, map}
use Rattle.std.specs.List.{range_with_len}
use Rattle.fp_flatnet.specs.Tables.{windows_in}
use Rattle.fp_longestarcs.specs.Networks.{points_in}
use Rattle.fp_allowed.specs.Heads.{heads_within}
use Rattle.fp_allowed.specs.Listing.{class_at}
use Rattle.fp_prices.specs.Points.{class_edge_by}
use Rattle.fp_prices.proofs.graphs.shipment_graphs.edges_within.Given as goal

abbrev pub invariant-loop-class : goal.invariant-loop-class
invariant-loop-class l =
    l.edges.items ≡
    map (λ n. class_edge_by l.instance l.network (heads_within l.instance (windows_in l.allowed.windows) (points_in l.network) l.shipment) (class_at l.network n)) (range_with_len 0 l.class)
