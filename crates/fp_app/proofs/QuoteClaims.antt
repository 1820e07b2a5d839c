-- What two searches tell of the extra cost of the last shipment.
use Rattle.std.proofs.Common.{◌≡◌, ◌∙◌, ℕ, ◌-◌, ◌≤◌, length, sym, ap, subst, arith}
use Rattle.fp_model.specs.Plans.{NoPlanCheaper}
use Rattle.fp_model.specs.Problem.{Problem}
use Rattle.fp_certificate_lines.specs.declared.certificates.Answer.{Answer}
use Rattle.fp_certificate_lines.specs.declared.certificates.Answer.TheVariants.{Optimal}
use Rattle.fp_certificate_rules.specs.Accepted.{claim_of}
use Rattle.fp_certificate_rules.specs.Plans.{routes_of, stated_cost}
use Rattle.fp_session_history.specs.Solutions.{Solution}
use Rattle.fp_replan.specs.Quotes.{AreFigures, IsBetween, IsCostOfPlan, IsExtraCost, IsLeastCost, without_last}
use Rattle.fp_replan.proofs.PlansWithout.{low-le}
use Rattle.fp_app.specs.Quotes.{IsQuoted, extra_of}
use Rattle.fp_app.specs.Searches.{Allowance, IsSearched}
use Rattle.fp_app.specs.Shown.{CanBeQuoted, IsBracketed}
use Rattle.fp_app.specs.Wanted.{every}
use Rattle.fp_app.proofs.SearchEnds.{SearchEnd, optimal, search-end, unfinished}

-- what a search shows is the cost of a plan
cost-of_plan : (p : Problem) (allowed : Allowance) (s : Solution) → IsSearched p every allowed s → IsCostOfPlan p (stated_cost s.certificate.answer)
cost-of_plan p allowed s told = let some : 1 ≤ 1 = omega arith in (1, routes_of p s.certificate, some, told.timetable.plan.plan, sym told.timetable.cost)

-- and no plan costs less than it claims
claim-least : (p : Problem) (allowed : Allowance) (a : Answer) → SearchEnd p every allowed a → NoPlanCheaper p (claim_of a)
claim-least p allowed a (optimal cost same plans) = subst (NoPlanCheaper p) (sym (ap claim_of same)) plans
claim-least p allowed a (unfinished cost bound spent same bounds) = subst (NoPlanCheaper p) (sym (ap claim_of same)) bounds.plans

pub figures : (p : Problem) (allowed : Allowance) (s : Solution) → IsSearched p every allowed s → AreFigures p (claim_of s.certificate.answer) (stated_cost s.certificate.answer)
figures p allowed s told = record { low_is = claim-least p allowed s.certificate.answer (search-end p every allowed s.certificate.answer told.says); cost_is = cost-of_plan p allowed s told }

-- the least cost lies between the figures
least-above : (p : Problem) (low c n : ℕ) → AreFigures p low c → IsLeastCost p n → low ≤ n
least-above p low c n is least = omega (arith, is.low_is least.attained.0 least.attained.1 least.attained.2 least.attained.3, least.attained.4)

least-below : (p : Problem) (low c n : ℕ) → AreFigures p low c → IsLeastCost p n → n ≤ c
least-below p low c n is least = omega (arith, least.least is.cost_is.0 is.cost_is.1 is.cost_is.2 is.cost_is.3, is.cost_is.4)

-- and so does what the last shipment adds
module _ (p : Problem) (b a : Answer) (before : AreFigures (without_last p) (claim_of b) (stated_cost b)) (after : AreFigures p (claim_of a) (stated_cost a)) where
  pub extra-between : (extra : ℕ) → IsExtraCost p extra → IsBetween (extra_of b a) extra
  extra-between extra is =
      let low_b : claim_of b ≤ is.before = least-above (without_last p) (claim_of b) (stated_cost b) is.before before is.without in
      let high_b : is.before ≤ stated_cost b = least-below (without_last p) (claim_of b) (stated_cost b) is.before before is.without in
      let low_a : claim_of a ≤ is.after = least-above p (claim_of a) (stated_cost a) is.after after is.with_it in
      let high_a : is.after ≤ stated_cost a = least-below p (claim_of a) (stated_cost a) is.after after is.with_it in
      (omega (arith, low_b, high_b, low_a, high_a, is.more), omega (arith, low_b, high_b, low_a, high_a, is.more))

exact-extra : (p : Problem) (least most : ℕ) → AreFigures (without_last p) least least → AreFigures p most most → IsExtraCost p (most - least)
exact-extra p least most before after = record {
  before = least;
  after = most;
  without = record { attained = before.cost_is; least = before.low_is };
  with_it = record { attained = after.cost_is; least = after.low_is };
  more = let le : least ≤ most = low-le p least most before.low_is after.cost_is in omega (arith, le);
}

-- both answers optimal
pub exact-both : (p : Problem) (b a : Answer) (least most : ℕ) → AreFigures (without_last p) (claim_of b) (stated_cost b) → AreFigures p (claim_of a) (stated_cost a) → b ≡ Optimal least → a ≡ Optimal most →
    IsExtraCost p (most - least) × (extra_of b a ≡ record { low = most - least; high = most - least })
exact-both p b a least most before after first second = (
  exact-extra p least most
      (subst (λ (x : Answer). AreFigures (without_last p) (claim_of x) (stated_cost x)) first before)
      (subst (λ (x : Answer). AreFigures p (claim_of x) (stated_cost x)) second after),
  ap (λ (x : Answer). extra_of x a) first ∙ ap (λ (x : Answer). extra_of (Optimal least) x) second,
)

pub searched-quoted : (p : Problem) (allowed : Allowance) (before after : Solution) → IsSearched (without_last p) every allowed before → IsSearched p every allowed after → IsQuoted p allowed before after
searched-quoted p allowed before after first second =
    let one = figures (without_last p) allowed before first in
    let two = figures p allowed after second in
    record {
      without = first;
      with_it = second;
      between = extra-between p before.certificate.answer after.certificate.answer one two;
      exact = λ least most is_least is_most. exact-both p before.certificate.answer after.certificate.answer least most one two is_least is_most;
    }

pub bracketed : (p : Problem) (allowed : Allowance) (a : Answer) → SearchEnd p every allowed a → IsBracketed a
bracketed p allowed a (optimal cost same plans) = subst IsBracketed (sym same) tt
bracketed p allowed a (unfinished cost bound spent same bounds) = subst IsBracketed (sym same) tt

-- so the two can be printed
pub searched-can_be_quoted : (p : Problem) (allowed : Allowance) (before after : Solution) → 1 ≤ length p.shipments → IsSearched (without_last p) every allowed before → IsSearched p every allowed after →
    CanBeQuoted p before.certificate.answer after.certificate.answer
searched-can_be_quoted p allowed before after some first second = record {
  shipment = some;
  without = bracketed (without_last p) allowed before.certificate.answer (search-end (without_last p) every allowed before.certificate.answer first.says);
  with_it = bracketed p allowed after.certificate.answer (search-end p every allowed after.certificate.answer second.says);
  ascends = low-le p (claim_of before.certificate.answer) (stated_cost after.certificate.answer) (figures (without_last p) allowed before first).low_is (figures p allowed after second).cost_is;
}
