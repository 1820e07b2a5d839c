-- Each split by trucks that is listed is a branching.
use Rattle.std.proofs.Common.{List, sym, subst, arith}
use Rattle.std.specs.Prelude.{All}
use Rattle.std.proofs.lemmas.List.Elements.{All-push}
use Rattle.fp_allowed.specs.Settings.{Setting}
use Rattle.fp_session_branching.specs.declared.truck_splits.TruckCandidate.{TruckCandidate}
use Rattle.fp_session_branching.specs.Trucks.{DividesBy}
use Rattle.fp_session.specs.declared.branchings.Branching.{Branching}
use Rattle.fp_session.specs.Choices.{IsBranching}
use Rattle.fp_session.specs.Searches.{history}
use Rattle.fp_session.proofs.Divisions.{IsBranching-trucks}
use Rattle.fp_session.proofs.branchings.truck_branchings.Goals as goal

pub loop-place-preserved : goal.loop-place-preserved
loop-place-preserved c =
    let t : TruckCandidate = c.index.result.now in
    let P : Branching → Type 0 = IsBranching (history c.args.search.now c.args.prices.now) c.args.leaf.now.sides in
    let divides : DividesBy c.args.leaf.now t = subst (DividesBy c.args.leaf.now) (sym c.index.ensures) (c.in_ok-by_arcs.ensures.each c.loop-place.place t (omega (arith, c.loop-place-test.true))) in
    subst (λ (bs : List Branching). All P bs) (sym c.in_ok-push.ensures.items)
    (All-push P c.loop-place.list.items c.by_trucks.result c.loop-place.invariant
    (subst P (sym c.by_trucks.ensures.is)
    (IsBranching-trucks c.args.search.now c.args.prices.now c.args.leaf.now.sides t.arc t.trucks c.requires.spans
    (subst (λ (x : Setting). DividesBy (record { setting = x; sides = c.args.leaf.now.sides }) t) c.requires.setting divides) c.by_trucks.ensures.count)))
