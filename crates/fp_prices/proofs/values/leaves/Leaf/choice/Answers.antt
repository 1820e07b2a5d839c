use Rattle.std.proofs.Common.{◌≡◌, length, sym, subst}
use Rattle.std.specs.Prelude.{IfSome, IsNone, IsSome}
use Rattle.fp_flatnet.specs.Tables.{windows_in}
use Rattle.fp_longestarcs.specs.Networks.{class_count}
use Rattle.fp_allowed.specs.Allowed.{tails_of}
use Rattle.fp_allowed.specs.Bits.{IsRowUnder, allowed_in}
use Rattle.fp_allowed.specs.Chains.{SeveralLeave}
use Rattle.fp_allowed.specs.Choices.{IsTaken, OneAtMost}
use Rattle.fp_allowed.specs.Departures.{DividesDepartures, IsSplitAt}
use Rattle.fp_allowed.specs.Settings.{Setting}
use Rattle.fp_prices.proofs.values.leaves.Leaf.choice.Goals as goal

pub choice-requires-clause-row : goal.choice-requires-clause-row
choice-requires-clause-row c = subst (λ (s : Setting). length c.row.result.now ≡ class_count s.network) (sym c.allowed.ensures) c.row.ensures.long

pub returns-clause-none : goal.returns-clause-none
returns-clause-none c =
    let sides = c.args.self.now.sides in
    subst (λ (s : Setting). IsNone c.choice.result → OneAtMost (allowed_in s sides c.args.shipment) (λ c'. tails_of s.problem c'.arc ≡ c.args.terminal)) c.allowed.ensures
    (c.choice.ensures.none sides (subst (λ (s : Setting). IsRowUnder s sides c.args.shipment c.row.result.now) (sym c.allowed.ensures) c.row.ensures))

pub returns-clause-several : goal.returns-clause-several
returns-clause-several c =
    let sides = c.args.self.now.sides in
    subst (λ (s : Setting). IsSome c.choice.result → SeveralLeave s.problem (allowed_in s sides c.args.shipment) c.args.terminal) c.allowed.ensures
    (c.choice.ensures.several sides (subst (λ (s : Setting). IsRowUnder s sides c.args.shipment c.row.result.now) (sym c.allowed.ensures) c.row.ensures))

pub returns-clause-at : goal.returns-clause-at
returns-clause-at c = subst (λ (s : Setting). IfSome c.choice.result (IsSplitAt s.problem c.args.shipment c.args.terminal)) c.allowed.ensures c.choice.ensures.at

pub returns-clause-divides : goal.returns-clause-divides
returns-clause-divides c =
    let sides = c.args.self.now.sides in
    subst (λ (s : Setting). IfSome c.choice.result (DividesDepartures s.problem (windows_in s.windows) sides c.args.shipment c.args.terminal)) c.allowed.ensures
    (c.choice.ensures.divides sides (subst (λ (s : Setting). IsRowUnder s sides c.args.shipment c.row.result.now) (sym c.allowed.ensures) c.row.ensures))

pub returns-clause-taken : goal.returns-clause-taken
returns-clause-taken c =
    let sides = c.args.self.now.sides in
    subst (λ (s : Setting). IfSome c.choice.result (IsTaken s.problem (windows_in s.windows) s.network (allowed_in s sides c.args.shipment) c.args.shipment c.args.terminal)) c.allowed.ensures
    (c.choice.ensures.taken sides (subst (λ (s : Setting). IsRowUnder s sides c.args.shipment c.row.result.now) (sym c.allowed.ensures) c.row.ensures))
