-- The edge of a class adds its class, and a holding edge adds none.
use Rattle.std.proofs.Common.{◌≡◌, ℕ, ◌+◌, ◌<◌, ◌≤◌, List, [], ◌∷◌, ◌++◌, length, get_or, take, sym, ap, ◌∙◌, arith}
use Rattle.std.proofs.lemmas.List.{append-nil, map-append, take_more}
use Rattle.fp_model.specs.declared.parts.Leg.{Leg}
use Rattle.fp_longestarcs.specs.declared.stops.Stop.{Stop}
use Rattle.fp_longestarcs.specs.Networks.{class_count}
use Rattle.fp_longestarcs.specs.Stops.{leg_of, legs_of}
use Rattle.fp_prices.specs.LeastWalks.{classes_on}
use Rattle.fp_prices.proofs.WalkEdges.{classes_on-append, classes_on-class, classes_on-holding}
use Rattle.fp_prices.proofs.graphs.class_walks.class_walk.Goals as goal
use Rattle.fp_prices.proofs.graphs.class_walks.class_walk.Goals.{then-edge-count+in_ok-push, else-edge-count}

pub loop-edge-preserved : goal.loop-edge-preserved
loop-edge-preserved c =
    let net = c.args.network.now in
    let edges : List ℕ = c.args.edges.now in
    let i : ℕ = c.loop-edge.edge-index in
    let e : ℕ = get_or edges i 0 in
    let inside : i < length edges = omega arith in
    let more : classes_on net (take (i + 1) edges) ≡ classes_on net (take i edges) ++ classes_on net (e ∷ []) =
    ap (classes_on net) (take_more edges i 0 inside) ∙ classes_on-append net (take i edges) (e ∷ []) in
    elim c.if-edge-count.branch [
      | then-edge-count+in_ok-push w ↦
          let stop : Stop = record { arc = w.of_class-arc.result.0; point = w.of_class-arc.result.1 } in
          let leg : Leg = leg_of stop in
          let one : classes_on net (e ∷ []) ≡ leg ∷ [] = classes_on-class net leg e [] c.classes-count.ensures.valid w.of_class-arc.ensures.is w.of_class-arc.ensures.number in
          rw w.stops-is (ap legs_of w.in_ok-push.ensures.items ∙ map-append leg_of _ (stop ∷ []) ∙ ap (λ (l : List Leg). l ++ (leg ∷ [])) c.loop-edge.invariant ∙ ap (λ (l : List Leg). classes_on net (take i edges) ++ l) (sym one) ∙ sym more)
      | else-edge-count w ↦
          let late : class_count net ≤ e = omega (arith, w.if-edge-count.false, c.classes-count.ensures.count) in
          rw w.stops-is (c.loop-edge.invariant ∙ sym (more ∙ ap (λ (l : List Leg). classes_on net (take i edges) ++ l) (classes_on-holding net e [] late) ∙ append-nil (classes_on net (take i edges))))
    ]
