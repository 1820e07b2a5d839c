-- One more class has its edge.
use Rattle.std.proofs.Common.{ℕ, List, [], ◌∷◌, ◌++◌, map, sym, ap, ◌∙◌, arith}
use Rattle.std.specs.List.{range_with_len}
use Rattle.std.proofs.lemmas.List.FromFn.{map-range_with_len_more}
use Rattle.fp_labels.specs.declared.graphs.Edge.{Edge}
use Rattle.fp_model.specs.declared.parts.Leg.{Leg}
use Rattle.fp_model.specs.Problem.{Problem}
use Rattle.fp_flatnet.specs.Tables.{windows_in}
use Rattle.fp_longestarcs.specs.Networks.{TimedNetwork, points_in}
use Rattle.fp_allowed.specs.Heads.{heads_within}
use Rattle.fp_allowed.specs.Listing.{class_at}
use Rattle.fp_prices.specs.Points.{class_edge_by}
use Rattle.fp_prices.proofs.graphs.shipment_graphs.edges_within.Goals as goal

pub loop-class-preserved : goal.loop-class-preserved
loop-class-preserved c =
    let p : Problem = c.args.instance.now in
    let net : TimedNetwork = c.args.network.now in
    let heads : Leg → ℕ = heads_within p (windows_in c.args.allowed.now.windows) (points_in net) c.args.shipment in
    let n : ℕ = c.loop-class.class in
    let f : ℕ → Edge = λ m. class_edge_by p net heads (class_at net m) in
    c.in_ok-push.ensures.items ∙
    ap (λ (l : List Edge). l ++ (c.edge_within.result ∷ [])) c.loop-class.invariant ∙
    ap (λ (e : Edge). map f (range_with_len 0 n) ++ (e ∷ [])) c.edge_within.ensures ∙
    sym (map-range_with_len_more f 0 n n (omega arith))
