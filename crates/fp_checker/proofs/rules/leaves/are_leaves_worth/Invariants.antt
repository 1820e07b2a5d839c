use Rattle.std.proofs.Common.{drop}
use Rattle.fp_prices.specs.RoundBounds.{AreRoundBounds}
use Rattle.fp_certificate_rules.specs.Accepted.{claim_of}
use Rattle.fp_certificate_rules.specs.Leaves.{AreLeavesWorth}
use Rattle.fp_checker.specs.LeafWays.{IsKept}
use Rattle.fp_checker.proofs.LeavesPassed.{IsLeft}
use Rattle.fp_checker.proofs.rules.leaves.are_leaves_worth.Given as goal

-- all leaves are worth the claim exactly where those that are left are, and what is kept holds
abbrev pub invariant-loop-node : goal.invariant-loop-node
invariant-loop-node l = record {
  left : IsLeft l.case l.way (drop l.node-index l.case.told.tree) (AreLeavesWorth l.case.problem l.case.windows l.case.told (claim_of l.case.told.answer));
  way : IsKept l.way.way;
  kept : AreRoundBounds l.case.problem l.points l.case.told.tables l.bounds;
}
