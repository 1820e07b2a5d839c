-- A relaxed plan whose repair isn't cheaper than the incumbent calls for more points.
use Rattle.std.proofs.Common.{ℕ, ◌<◌, ◌≤◌, Bool, List, [], arith}
use Rattle.std.specs.Prelude.{IsTrue, ◌↔◌}
use Rattle.fp_model.specs.declared.parts.Leg.{Leg}
use Rattle.fp_model.specs.declared.parts.Member.{Member}
use Rattle.fp_model.specs.Costs.{cost}
use Rattle.fp_model.specs.Members.{arc_lists}
use Rattle.fp_model.specs.Problem.{Problem}
use Rattle.fp_flatnet.specs.Tables.{WindowTable, windows_in}
use Rattle.fp_relaxmodel.specs.Groups.{AreGroups}
use Rattle.fp_relaxmodel.specs.Relaxed.{IsRelaxedPlan}
use Rattle.fp_dispatch.specs.Answers.{IsEarliest}
use Rattle.fp_dispatch.specs.Times.{HaveTimes}
use Rattle.fp_repair.specs.KeptGroups.{AreKeptGroups}
use Rattle.fp_session_history.specs.Clashes.{ClashesBelow}

pub ClashesBelow-repaired : (p : Problem) (table : WindowTable) (points : ℕ → List ℕ) (incumbent : ℕ) (relaxed plan : List (List Leg)) (timed : Bool) → IsRelaxedPlan p (windows_in table) points relaxed → cost p relaxed < incumbent →
    ((groups : List (List Member)) → AreGroups relaxed groups → (IsTrue timed ↔ HaveTimes p (windows_in table) (arc_lists relaxed) groups)) → (IsTrue timed → cost p plan ≤ cost p relaxed) →
    ((legs : List (List Leg)) → IsEarliest p (windows_in table) (arc_lists relaxed) [] legs → cost p plan ≤ cost p legs) →
    ((groups kept : List (List Member)) (legs : List (List Leg)) → AreGroups relaxed groups → AreKeptGroups p (windows_in table) (arc_lists relaxed) groups kept →
    IsEarliest p (windows_in table) (arc_lists relaxed) kept legs → cost p plan ≤ cost p legs) → incumbent ≤ cost p plan → ClashesBelow p table points incumbent relaxed
ClashesBelow-repaired p table points incumbent relaxed plan timed is cheaper decides together apart kept dear = record {
  is = is;
  cheaper = cheaper;
  clash = λ groups are has. absurd (omega (arith, together ((decides groups are).1 has), cheaper, dear));
  apart = λ legs earliest. omega (arith, apart legs earliest, dear);
  kept = λ groups some legs are are_kept earliest. omega (arith, kept groups some legs are are_kept earliest, dear);
}
