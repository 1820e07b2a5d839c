use Rattle.std.proofs.Common.{◌≡◌, ℕ, ◌≤◌, sym, ap, ◌∙◌, subst}
use Rattle.std.specs.Int.{div_ceil}
use Rattle.std.specs.Prelude.{Option, Some, ◌↔◌, IsTrue}
use Rattle.fp_prices.specs.declared.values.bounds.LeafBound.{LeafBound}
use Rattle.fp_certificate_lines.specs.Statements.{Statement}
use Rattle.fp_certificate_rules.specs.Accepted.{claim_of}
use Rattle.fp_certificate_rules.specs.Units.{rounded_up}
use Rattle.fp_checker.specs.Bounds.{IsBoundWorth}
use Rattle.fp_checker.specs.Cases.{Tested}
use Rattle.fp_checker.proofs.rules.leaves.is_worth.Goals as goal

pub returns-in-Value : goal.returns-in-Value
returns-in-Value c =
    let scale = c.case.inside.instance.now.scale in
    let told : Statement = c.case.inside.certificate.now in
    let value : ℕ = c.in-Value.value in
    let claim : c.claim_of-claim.result ≡ claim_of told.answer = c.claim_of-claim.ensures ∙ ap (λ (s : Statement). claim_of s.answer) c.certificate.view_is in
    let unit : c.certificate.inside.unit ≡ told.unit = ap (λ (s : Statement). s.unit) c.certificate.view_is in
    let money : c.div_ceil-money.result ≡ div_ceil value scale = c.div_ceil-money.ensures ∙ ap (div_ceil value) (c.from.ensures ∙ c.scale.ensures.same) in
    subst (λ (t : Tested). IsTrue c.reaches.result ↔ IsBoundWorth t.told.unit t.problem.scale (claim_of t.told.answer) (Some c.args.bound)) c.case.view_is
    (subst (λ (b : LeafBound). IsTrue c.reaches.result ↔ IsBoundWorth told.unit scale (claim_of told.answer) (Some b)) (sym c.in-Value.is)
    (subst (λ (n : ℕ). IsTrue c.reaches.result ↔ (n ≤ rounded_up told.unit (div_ceil value scale))) claim
    (subst (λ (u : Option ℕ). IsTrue c.reaches.result ↔ (c.claim_of-claim.result ≤ rounded_up u (div_ceil value scale))) unit
    (subst (λ (m : ℕ). IsTrue c.reaches.result ↔ (c.claim_of-claim.result ≤ rounded_up c.certificate.inside.unit m)) money c.reaches.ensures))))
