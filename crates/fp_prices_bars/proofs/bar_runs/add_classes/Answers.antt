use Rattle.std.proofs.Common.{ℕ, ◌+◌, Bool, ◌&&◌, List, sym, ◌∙◌, subst, arith}
use Rattle.std.specs.Prelude.{All, nat_lt}
use Rattle.std.specs.Global.{Vec}
use Rattle.fp_model.specs.Problem.{Problem}
use Rattle.fp_longestarcs.specs.Networks.{TimedNetwork}
use Rattle.fp_tree.specs.declared.sides.Side.{Side}
use Rattle.fp_prices_bars.specs.BarRuns.{BarAlso, IsRun}
use Rattle.fp_prices_bars.specs.BarTests.{is_barred_by}
use Rattle.fp_prices_bars.proofs.BarredClasses.{bars-all, bars-more, bars-same}
use Rattle.fp_prices_bars.proofs.bar_runs.add_classes.Goals as goal
use Rattle.fp_prices_bars.proofs.bar_runs.add_classes.Goals.{then-is_class_barred+in_ok-add_class, else-is_class_barred}

pub loop-class-preserved : goal.loop-class-preserved
loop-class-preserved c =
    let p : Problem = c.args.instance.now in
    let net : TimedNetwork = c.args.network.now in
    let k : ℕ = c.args.shipment in
    let i : ℕ = c.loop-class.class in
    let f : ℕ → Bool = is_barred_by c.args.test.now c.args.row.now c.args.through.now in
    let Also : List Side → Type 0 = BarAlso p net k (λ n. nat_lt n (i + 1) && f n) c.args.bars.now.items in
    record {
      runs = elim c.if-is_class_barred.branch as (λ _. All (IsRun p) c.if-is_class_barred.bars.items) [
        | then-is_class_barred+in_ok-add_class w ↦ subst (λ (v : Vec Side). All (IsRun p) v.items) (sym w.bars-is) w.in_ok-add_class.ensures.runs
        | else-is_class_barred w ↦ subst (λ (v : Vec Side). All (IsRun p) v.items) (sym w.bars-is) c.loop-class.invariant.runs
      ];
      also = elim c.if-is_class_barred.branch as (λ _. Also c.if-is_class_barred.bars.items) [
        | then-is_class_barred+in_ok-add_class w ↦
            subst (λ (v : Vec Side). Also v.items) (sym w.bars-is)
            (bars-more p net k f c.args.bars.now.items i c.loop-class.bars.items w.add_class.new.bars.items (sym c.is_class_barred.ensures ∙ w.if-is_class_barred.true) c.loop-class.invariant.also w.in_ok-add_class.ensures.also)
        | else-is_class_barred w ↦
            subst (λ (v : Vec Side). Also v.items) (sym w.bars-is)
            (bars-same p net k f c.args.bars.now.items i c.loop-class.bars.items (sym c.is_class_barred.ensures ∙ w.if-is_class_barred.false) c.loop-class.invariant.also)
      ];
    }

pub returns-clause-also : goal.returns-clause-also
returns-clause-also c =
    bars-all c.args.instance.now c.args.network.now c.args.shipment (is_barred_by c.args.test.now c.args.row.now c.args.through.now) c.args.bars.now.items c.loop-class.class c.loop-class.bars.items c.requires.whole
    (omega (arith, c.loop-class-test.false, c.loop-class.auto.class-end, c.classes-class-end.ensures.count)) c.loop-class.invariant.also
