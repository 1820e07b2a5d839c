use Rattle.std.proofs.Common.{◌≡◌, drop}
use Rattle.fp_base_lists.specs.Membership.{list_has}
use Rattle.fp_model.specs.Routes.{arcs_of}
use Rattle.fp_replan.proofs.kept_windows.go_by.Given as goal

abbrev pub invariant-loop-leg : goal.invariant-loop-leg
invariant-loop-leg l = list_has (arcs_of (drop l.leg-index l.legs)) l.number ≡ list_has (arcs_of l.legs) l.number
