use Rattle.std.proofs.Common.{◌≡◌, ◌<◌}
use Rattle.fp_flatnet.specs.Tables.{windows_in}
use Rattle.fp_allowed.specs.Allowed.{tails_of}
use Rattle.fp_allowed.specs.Bits.{row_allows}
use Rattle.fp_allowed.specs.Choices.{Picks, last_moment}
use Rattle.fp_allowed.proofs.choices.picked_arc.Given as goal

abbrev pub invariant-loop-arc : goal.invariant-loop-arc
invariant-loop-arc l = Picks (last_moment (windows_in l.leaving.windows.now) l.leaving.shipment) (row_allows l.leaving.network.now l.leaving.row.now) (λ c. (c.arc < l.arc) × (tails_of l.leaving.instance.now c.arc ≡ l.leaving.terminal)) l.found
