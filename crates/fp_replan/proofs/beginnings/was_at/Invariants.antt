use Rattle.std.proofs.Common.{◌≡◌, drop}
use Rattle.fp_base_lists.specs.Membership.{list_has}
use Rattle.fp_model.specs.Routes.{arcs_of, ends_of}
use Rattle.fp_replan.specs.KeptLegs.{places_seen}
use Rattle.fp_replan.proofs.beginnings.was_at.Given as goal

abbrev pub invariant-loop-leg : goal.invariant-loop-leg
invariant-loop-leg l =
    list_has (ends_of l.instance (arcs_of (drop l.leg-index l.legs))) l.terminal ≡ list_has (places_seen l.instance l.origin l.legs) l.terminal
