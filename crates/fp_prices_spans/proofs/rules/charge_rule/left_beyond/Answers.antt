use Rattle.std.proofs.Common.{◌≡◌, ℕ, ◌-◌, ◌≤◌, List, Option, Some, None, subst, arith}
use Rattle.std.specs.Prelude.{MatchOption}
use Rattle.std.specs.Option.{SomeIff}
use Rattle.fp_prices_knapsack.specs.declared.items.Item.{Item}
use Rattle.fp_prices_knapsack.specs.Charges.{IsLeastCharge, NoChargePays}
use Rattle.fp_prices_spans.proofs.ChargeParts.{IsRest}
use Rattle.fp_prices_spans.proofs.rules.charge_rule.left_beyond.Goals as goal

-- what is left beyond the least charge, where it isn't more
beyond : (items : List Item) (capacity money charge part : ℕ) (rest : Option ℕ) → IsLeastCharge items capacity money part → SomeIff rest (part ≤ charge) (charge - part) → IsRest items capacity money charge rest
beyond items capacity money charge part None least is = λ other pays. omega (arith, least.least other pays, is)
beyond items capacity money charge part (Some n) least is =
    let same : part ≡ charge - n = omega (arith, is.0, is.1) in
    (subst (IsLeastCharge items capacity money) same least, omega (arith, is.1))

pub returns-in-Some : goal.returns-in-Some
returns-in-Some c =
    let least : IsLeastCharge c.args.items.now c.args.capacity c.args.money c.in-Some.part =
    subst (λ (o : Option ℕ). MatchOption o (NoChargePays c.args.items.now c.args.capacity c.args.money) (λ part. IsLeastCharge c.args.items.now c.args.capacity c.args.money part)) c.in-Some.is c.in_ok-part.ensures.least in
    beyond c.args.items.now c.args.capacity c.args.money c.args.charge c.in-Some.part c.checked_sub.result least c.checked_sub.ensures

pub returns-in-None : goal.returns-in-None
returns-in-None c other pays =
    absurd (subst (λ (o : Option ℕ). MatchOption o (NoChargePays c.args.items.now c.args.capacity c.args.money) (λ part. IsLeastCharge c.args.items.now c.args.capacity c.args.money part)) c.in-None.is c.in_ok-part.ensures.least other pays)
