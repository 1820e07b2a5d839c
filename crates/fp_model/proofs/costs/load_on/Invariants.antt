use Rattle.std.proofs.Common.{◌≡◌, ◌≤◌, ◌+◌, ◌*◌, ◌^◌, drop}
use Rattle.fp_model.specs.Costs.{load}
use Rattle.fp_base_lists.specs.Vectors.{lists_of}
use Rattle.fp_model.proofs.costs.load_on.Given as goal

-- the total and what is left are the load, and the total is small
abbrev pub invariant-loop-at : goal.invariant-loop-at
invariant-loop-at l = record {
  rest : l.total + load (drop l.at l.shipments) (lists_of (drop l.at l.routes)) l.leg ≡ load l.shipments (lists_of l.routes) l.leg;
  small : l.total ≤ l.at * 2 ^ 64;
}
