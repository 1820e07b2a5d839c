use Rattle.std.proofs.Common.{◌<◌, ℕ}
use Rattle.fp_replan.specs.Starts.{BeginsPast}
use Rattle.fp_replan.proofs.onward.first_onward.Given as goal

abbrev pub invariant-loop-number : goal.invariant-loop-number
invariant-loop-number l = (a : ℕ) → a < l.number → BeginsPast l.instance l.gone l.here l.shipment.to a → ⊥
