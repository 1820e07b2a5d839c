use Rattle.std.proofs.Common.{◌≡◌, arith}
use Rattle.std.proofs.lemmas.Nat.Gcd.{IsGcd-from_mod, IsGcd-from_zero}
use Rattle.fp_prices_knapsack.proofs.common_divisors.greatest_common_divisor.Goals as goal

pub loop-second-preserved : goal.loop-second-preserved
loop-second-preserved c = λ g gcd. c.loop-second.invariant g (IsGcd-from_mod c.loop-second.first c.loop-second.second g gcd)

pub returns : goal.returns
returns c =
    let none : c.loop-second.second ≡ 0 = omega (arith, c.loop-second-test.false) in
    c.loop-second.invariant c.loop-second.first (IsGcd-from_zero c.loop-second.first c.loop-second.second none)
