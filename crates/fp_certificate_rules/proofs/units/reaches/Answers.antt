use Rattle.std.proofs.Common.{ℕ, ◌≤◌, subst, arith}
use Rattle.std.specs.Prelude.{IfSome, Option}
use Rattle.std.proofs.lemmas.Bool.{le-leb, leb-true}
use Rattle.fp_certificate_rules.proofs.Multiples.{multiple-reaches}
use Rattle.fp_certificate_rules.proofs.units.reaches.Goals as goal

pub returns-in-Some : goal.returns-in-Some
returns-in-Some c =
    let unit : ℕ = c.in-Some.unit in
    let some : 1 ≤ unit = subst (λ (o : Option ℕ). IfSome o (λ u. 1 ≤ u)) c.in-Some.is c.requires in
    let both = multiple-reaches c.args.claim c.args.amount unit (omega (arith, some)) in
    rw (c.in-Some.is, c.div_ceil.ensures, c.div_ceil-in-Some.ensures) (λ h. both.0 (leb-true _ _ h), λ le. le-leb _ _ (both.1 le))
