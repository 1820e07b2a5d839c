use Rattle.std.proofs.Common.{◌≡◌, ◌∙◌, ◌<◌, ap, arith, false, get_or, length, length-set, refl, replicate, true}
use Rattle.fp_model.specs.declared.limits.TheConstants.{MOST_TERMINALS}
use Rattle.fp_model.specs.declared.parts.Arc.{Arc}
use Rattle.fp_model.specs.Problem.{arc_at}
use Rattle.fp_longestarcs.specs.declared.stops.Stop.{Stop}
use Rattle.fp_relaxmodel.proofs.MetTerminals.{arc-within, decides-next, entered_by, new-first}
use Rattle.fp_relaxmodel.proofs.WrittenStops.{arc-exists}
use Rattle.fp_relaxmodel.proofs.terminals.are_apart.Goals as goal

pub loop-stop-init : goal.loop-stop-init
loop-stop-init c = record {
  long = length-set (replicate MOST_TERMINALS false) c.args.tail true;
  decides = new-first MOST_TERMINALS c.args.tail (entered_by c.args.instance.now c.args.stops.now) (omega (arith, c.requires.tail, c.terminals-known.ensures.valid.parts.few_terminals)) refl;
}

pub arc-entered-requires : goal.arc-entered-requires
arc-entered-requires c =
    arc-exists c.args.instance.now c.args.stops.now c.loop-stop.stop-index _ c.requires.arcs c.loop-stop-test.true

pub loop-stop-preserved : goal.loop-stop-preserved
loop-stop-preserved c =
    let stop : Stop = get_or c.args.stops.now c.loop-stop.stop-index (record { arc = 0; point = 0 }) in
    let exists : stop.arc < length c.args.instance.now.arcs = arc-exists c.args.instance.now c.args.stops.now c.loop-stop.stop-index _ c.requires.arcs c.loop-stop-test.true in
    let is : c.arc-entered.result.to ≡ (arc_at c.args.instance.now stop.arc).to = ap (λ (a : Arc). a.to) c.arc-entered.ensures.same in
    let within : c.arc-entered.result.to < length c.loop-stop.met =
    omega (arith, is, (arc-within c.args.instance.now stop.arc c.arc-entered.ensures.valid exists).1, c.loop-stop.invariant.long) in
    record {
      long = length-set _ _ _ ∙ c.loop-stop.invariant.long;
      decides = decides-next _ c.args.instance.now c.loop-stop.met c.args.stops.now c.loop-stop.stop-index _ c.arc-entered.result.to c.loop-stop-test.true
          is within c.if-met-entered.false c.loop-stop.invariant.decides;
    }
