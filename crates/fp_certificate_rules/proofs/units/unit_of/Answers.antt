use Rattle.std.proofs.Common.{◌≡◌, subst, arith}
use Rattle.std.specs.Prelude.{◌≢◌}
use Rattle.fp_certificate_rules.proofs.GreatestUnits.{HasUnits, greatest-none, greatest-some, range-some}
use Rattle.fp_certificate_rules.proofs.units.unit_of.Goals as goal

pub returns-in-0-clause-greatest : goal.returns-in-0-clause-greatest
returns-in-0-clause-greatest c =
    let none : c.costs_divisor.result ≡ 0 = omega arith in
    greatest-none c.args.instance.now (subst (HasUnits c.args.instance.now) none c.costs_divisor.ensures.units)

pub returns-in_default-clause-greatest : goal.returns-in_default-clause-greatest
returns-in_default-clause-greatest c =
    let some : c.costs_divisor.result ≢ 0 = omega arith in
    greatest-some c.args.instance.now c.costs_divisor.result c.costs_divisor.ensures.units some

pub returns-in_default-clause-unit : goal.returns-in_default-clause-unit
returns-in_default-clause-unit c =
    let some : c.costs_divisor.result ≢ 0 = omega arith in
    (greatest-some c.args.instance.now c.costs_divisor.result c.costs_divisor.ensures.units some).is

pub returns-in_default-clause-range : goal.returns-in_default-clause-range
returns-in_default-clause-range c =
    let some : c.costs_divisor.result ≢ 0 = omega arith in
    range-some c.args.instance.now c.costs_divisor.result c.costs_divisor.ensures.valid c.costs_divisor.ensures.units some
