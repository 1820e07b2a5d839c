use Rattle.std.proofs.Common.{ℕ}
use Rattle.std.proofs.lemmas.Bool.{false≢true, leb-true, le-leb}
use Rattle.std.proofs.lemmas.Option.{MatchOption-at_none, MatchOption-at_some}
use Rattle.fp_prices_knapsack.specs.Charges.{IsLeastCharge, NoChargePays}
use Rattle.fp_prices_knapsack.proofs.LeastCharges.{Pays_mono}
use Rattle.fp_prices_knapsack.proofs.charges.Knapsack.pays.Goals as goal

pub returns-in-None-clause-pays : goal.returns-in-None-clause-pays
returns-in-None-clause-pays c =
    let none : NoChargePays c.args.items.now c.args.capacity c.args.money =
    MatchOption-at_none (NoChargePays c.args.items.now c.args.capacity c.args.money) (λ (least : ℕ). IsLeastCharge c.args.items.now c.args.capacity c.args.money least) c.in-None.is c.in_ok-least_charge.ensures.least in
    (λ is. absurd (false≢true is), λ pays. absurd (none c.args.charge pays))

pub returns-in-Some-clause-pays : goal.returns-in-Some-clause-pays
returns-in-Some-clause-pays c =
    let least : IsLeastCharge c.args.items.now c.args.capacity c.args.money c.in-Some.least =
    MatchOption-at_some (NoChargePays c.args.items.now c.args.capacity c.args.money) (λ (least : ℕ). IsLeastCharge c.args.items.now c.args.capacity c.args.money least) c.in-Some.least c.in-Some.is c.in_ok-least_charge.ensures.least in (
      λ is. Pays_mono c.args.items.now c.args.capacity c.args.money c.in-Some.least c.args.charge (leb-true c.in-Some.least c.args.charge is) least.pays,
      λ pays. le-leb c.in-Some.least c.args.charge (least.least c.args.charge pays),
    )
