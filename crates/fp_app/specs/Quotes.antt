-- What `quote` shows: what the last shipment of an instance adds to the cost.
use Rattle.std.specs.Prelude.{ℕ, ◌-◌, ◌≡◌}
use Rattle.fp_model.specs.Problem.{Problem}
use Rattle.fp_certificate_lines.specs.declared.certificates.Answer.{Answer}
use Rattle.fp_certificate_lines.specs.declared.certificates.Answer.TheVariants.{Optimal, Unfinished}
use Rattle.fp_certificate_lines.specs.declared.certificates.Spent.{Spent}
use Rattle.fp_certificate_rules.specs.Accepted.{claim_of}
use Rattle.fp_certificate_rules.specs.Plans.{stated_cost}
use Rattle.fp_session_history.specs.Solutions.{Solution}
use Rattle.fp_replan.specs.declared.ranges.Bracket.{Bracket}
use Rattle.fp_replan.specs.Quotes.{IsBetween, IsExtraCost, without_last}
use Rattle.fp_app.specs.Searches.{Allowance, IsBoundBelow, IsSearched}
use Rattle.fp_app.specs.Wanted.{every}

-- the least and the greatest that the last shipment can add, by the answers of the searches without
-- it and with it
abbrev pub extra_of : Answer → Answer → Bracket
extra_of before after = record { low = claim_of after - stated_cost before; high = stated_cost after - claim_of before }

-- two searches without the last shipment and with it, each with the whole budget and both with the option
-- of spans or both without it. The extra cost of
-- the shipment lies between their two figures, and where both answers are optimal it is both of them.
pub record IsQuoted (p : Problem) (allowed : Allowance) (before after : Solution) : Type 0 where
  pub without : IsSearched (without_last p) every allowed before
  pub with_it : IsSearched p every allowed after
  pub between : (extra : ℕ) → IsExtraCost p extra → IsBetween (extra_of before.certificate.answer after.certificate.answer) extra
  pub exact : (least most : ℕ) → before.certificate.answer ≡ Optimal least → after.certificate.answer ≡ Optimal most →
      IsExtraCost p (most - least) × (extra_of before.certificate.answer after.certificate.answer ≡ record { low = most - least; high = most - least })

-- a search is unfinished, and has its cause
pub record IsUnfinished (p : Problem) (allowed : Allowance) (s : Solution) : Type 0 where
  pub cost : ℕ
  pub bound : ℕ
  pub spent : Spent
  pub answer : s.certificate.answer ≡ Unfinished cost bound spent
  pub bounds : IsBoundBelow p every allowed cost bound spent
