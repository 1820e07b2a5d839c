use Rattle.std.proofs.Common.{◌≡◌, ℕ, Bool, ◌&&◌, List, ap, ◌∙◌, subst, arith}
use Rattle.std.specs.Prelude.{All, Err, IfOk, Ok, Result, nat_eq}
use Rattle.std.specs.declared.alloc.AllocError.{AllocError}
use Rattle.fp_model.specs.declared.parts.Arc.{Arc}
use Rattle.fp_model.specs.Problem.{Problem}
use Rattle.fp_longestarcs.specs.Networks.{IsClass, TimedNetwork, class_number, points_in}
use Rattle.fp_longestarcs.specs.Whole.{IsWholeNetwork}
use Rattle.fp_model.specs.Problem.{arc_at}
use Rattle.fp_tree.specs.declared.sides.Side.{Side}
use Rattle.fp_tree.specs.declared.sides.Side.TheVariants.{Outside}
use Rattle.fp_tree.specs.Sides.{Exit}
use Rattle.fp_allowed.specs.Allowed.{exit_of, meets, meets_all}
use Rattle.fp_prices_bars.specs.BarRuns.{BarAlso, EndsClass, IsRun}
use Rattle.fp_prices_bars.proofs.ClassEnds.{run-bars}
use Rattle.fp_prices_bars.proofs.bar_runs.add_class.Goals as goal

-- one run more bars the departures of its class as well
run-also : {X : Type 0} (p : Problem) (net : TimedNetwork) (whole : IsWholeNetwork p net) (shipment arc point end n : ℕ) (old new : List Side) → IsClass net (record { arc = arc; depart = point }) →
    EndsClass (points_in net (arc_at p arc).from) point end → class_number net (record { arc = arc; depart = point }) ≡ n → All (IsRun p) old → (r : Result X AllocError) →
    IfOk r (λ _. (q : Problem) → All (IsRun q) old → (k : ℕ) (e : Exit) → meets_all k new e ≡ (meets_all k old e && meets k e (Outside shipment arc point end))) →
    IfOk r (λ _. BarAlso p net shipment (λ i. nat_eq i n) old new)
run-also p net whole shipment arc point end n old new is ends number runs (Err e) told = tt
run-also p net whole shipment arc point end n old new is ends number runs (Ok x) told = λ k l exists small.
    told p runs k (exit_of p l) ∙ ap (λ (b : Bool). meets_all k old (exit_of p l) && b) (run-bars p net whole arc point end is ends l exists (omega (arith, small)) k shipment n number)

pub returns-clause-also : goal.returns-clause-also
returns-clause-also c =
    let p : Problem = c.args.instance.now in
    let net : TimedNetwork = c.args.network.now in
    let ends : EndsClass (points_in net (arc_at p c.of_class-arc.result.0).from) c.of_class-arc.result.1 c.end_of-until.result =
    subst (λ (a : Arc). EndsClass (points_in net a.from) c.of_class-arc.result.1 c.end_of-until.result) c.arc.ensures.same c.end_of-until.ensures in
    run-also p net c.requires.whole c.args.shipment c.of_class-arc.result.0 c.of_class-arc.result.1 c.end_of-until.result c.args.class c.args.bars.now.items c.add_run.new.bars.items c.of_class-arc.ensures.is ends
    c.of_class-arc.ensures.number c.requires.runs c.add_run.result c.add_run.ensures.told
