use Rattle.std.proofs.Common.{arith, refl}
use Rattle.fp_model.specs.Numbered.{no_leg}
use Rattle.fp_flatnet.specs.Tables.{windows_in}
use Rattle.fp_base_lists.proofs.Elements.{AllByRecursion-from_get_or}
use Rattle.fp_repair_search.proofs.LegsWithin.{LegLiesWithin}
use Rattle.fp_repair_search.proofs.acceptance.route_lies_within.Goals as goal

pub returns : goal.returns
returns c =
    let within = LegLiesWithin (windows_in c.args.windows.now) c.args.shipment in (
      λ _. AllByRecursion-from_get_or within c.args.route.now no_leg (λ i lt. c.loop-leg.invariant i (omega (arith, lt, c.loop-leg-test.false))),
      λ _. refl,
    )
