use Rattle.std.proofs.Common.{◌≡◌, length, sym, subst}
use Rattle.std.specs.Prelude.{IfSome}
use Rattle.fp_flatnet.specs.Tables.{windows_in}
use Rattle.fp_longestarcs.specs.Networks.{class_count}
use Rattle.fp_allowed.specs.Allowed.{tails_of}
use Rattle.fp_allowed.specs.Bits.{IsRowUnder}
use Rattle.fp_allowed.specs.Departures.{DividesDepartures, IsSplitAt}
use Rattle.fp_allowed.specs.Settings.{Setting}
use Rattle.fp_prices.proofs.values.leaves.Leaf.way.Goals as goal

pub way-requires-clause-row : goal.way-requires-clause-row
way-requires-clause-row c = subst (λ (s : Setting). length c.row.result.now ≡ class_count s.network) (sym c.allowed.ensures) c.row.ensures.long

pub returns-clause-at : goal.returns-clause-at
returns-clause-at c = subst (λ (s : Setting). IfSome c.way.result (IsSplitAt s.problem c.args.shipment (tails_of s.problem c.args.arc))) c.allowed.ensures c.way.ensures.at

pub returns-clause-divides : goal.returns-clause-divides
returns-clause-divides c =
    let sides = c.args.self.now.sides in
    subst (λ (s : Setting). IfSome c.way.result (DividesDepartures s.problem (windows_in s.windows) sides c.args.shipment (tails_of s.problem c.args.arc))) c.allowed.ensures
    (c.way.ensures.divides sides (subst (λ (s : Setting). IsRowUnder s sides c.args.shipment c.row.result.now) (sym c.allowed.ensures) c.row.ensures))
