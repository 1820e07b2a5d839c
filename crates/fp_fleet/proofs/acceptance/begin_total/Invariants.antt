use Rattle.std.proofs.Common.{◌≡◌, take}
use Rattle.std.specs.Prelude.{sum_by}
use Rattle.fp_fleet.specs.declared.fleets.Begin.{Begin}
use Rattle.fp_fleet.proofs.acceptance.begin_total.Given as goal

-- the trucks of the begins so far
abbrev pub invariant-loop-begin : goal.invariant-loop-begin
invariant-loop-begin l = l.total ≡ sum_by (λ (b : Begin). b.count) (take l.begin-index l.begins)
