use Rattle.std.proofs.Common.{◌≡◌, ◌≤◌, List, length, map, sym, ap, ◌∙◌, subst}
use Rattle.std.specs.Prelude.{All}
use Rattle.std.proofs.lemmas.List.{take_all}
use Rattle.fp_session_branching.specs.declared.truck_splits.RankedTrucks.{RankedTrucks}
use Rattle.fp_session_branching.specs.declared.truck_splits.TruckCandidate.{TruckCandidate}
use Rattle.fp_session_branching.specs.Trucks.{AreBestTrucks, DividesBy, trucks_in}
use Rattle.fp_session_branching.proofs.BestTrucks.{best_trucks-each, best_trucks-few}
use Rattle.fp_session_branching.proofs.truck_splits.truck_candidates.Goals as goal

pub returns-clause-each : goal.returns-clause-each
returns-clause-each c =
    let ranked : List RankedTrucks = c.deref-one-items.result.now in
    let best = subst (AreBestTrucks c.args.leaf.now c.args.most) (sym c.deref-one-items.ensures.value) c.in_ok-ranked.ensures in
    let list_is : c.loop-one.list.items ≡ map trucks_in ranked = c.loop-one.invariant ∙ ap (λ (rs : List RankedTrucks). map trucks_in rs) (take_all c.loop-one.one-index ranked c.loop-one-test.false) in
    subst (λ (list : List TruckCandidate). All (DividesBy c.args.leaf.now) list) (sym list_is) (best_trucks-each c.args.leaf.now c.args.most ranked best)

pub returns-clause-few : goal.returns-clause-few
returns-clause-few c =
    let ranked : List RankedTrucks = c.deref-one-items.result.now in
    let best = subst (AreBestTrucks c.args.leaf.now c.args.most) (sym c.deref-one-items.ensures.value) c.in_ok-ranked.ensures in
    let list_is : c.loop-one.list.items ≡ map trucks_in ranked = c.loop-one.invariant ∙ ap (λ (rs : List RankedTrucks). map trucks_in rs) (take_all c.loop-one.one-index ranked c.loop-one-test.false) in
    subst (λ (list : List TruckCandidate). length list ≤ c.args.most) (sym list_is) (best_trucks-few c.args.leaf.now c.args.most ranked best)
