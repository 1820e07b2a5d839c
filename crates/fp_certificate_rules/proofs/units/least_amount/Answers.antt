use Rattle.std.proofs.Common.{ℕ, ◌≤◌, subst, arith}
use Rattle.std.specs.Prelude.{IfSome, Option}
use Rattle.fp_certificate_rules.proofs.Multiples.{multiple-least}
use Rattle.fp_certificate_rules.proofs.units.least_amount.Goals as goal

pub returns-in-Some : goal.returns-in-Some
returns-in-Some c =
    let unit : ℕ = c.in-Some.unit in
    let some : 1 ≤ unit = subst (λ (o : Option ℕ). IfSome o (λ u. 1 ≤ u)) c.in-Some.is c.requires in
    λ amount. rw c.in-Some.is (multiple-least c.args.claim unit amount (omega (arith, some)) (omega (arith, c.if-claim-gt0.true)))
