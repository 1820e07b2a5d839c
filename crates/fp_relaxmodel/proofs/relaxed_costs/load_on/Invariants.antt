use Rattle.std.proofs.Common.{◌≡◌, ◌≤◌, ◌+◌, ◌*◌, ◌^◌, drop}
use Rattle.fp_model.specs.Costs.{load}
use Rattle.fp_longestarcs.specs.Stops.{leg_of}
use Rattle.fp_relaxmodel.proofs.relaxed_costs.load_on.Given as goal

-- the total and what is left are the load, and the total is small
abbrev pub invariant-loop-at : goal.invariant-loop-at
invariant-loop-at l = record {
  rest : l.total + load (drop l.at l.shipments) (drop l.at l.walks) (leg_of l.stop) ≡ load l.shipments l.walks (leg_of l.stop);
  small : l.total ≤ l.at * 2 ^ 64;
}
