-- What two searches tell of a shipment by its name, of which the second began with the first one's plan.
use Rattle.std.proofs.Common.{◌≡◌, ◌∙◌, ℕ, ◌-◌, ◌<◌, ◌≤◌, List, length, sym, ap, subst, arith}
use Rattle.std.specs.Prelude.{Some}
use Rattle.fp_model.specs.declared.parts.Leg.{Leg}
use Rattle.fp_model.specs.Costs.{cost}
use Rattle.fp_model.specs.Plans.{NoPlanCheaper}
use Rattle.fp_model.specs.Problem.{Problem}
use Rattle.fp_flatnet.specs.Directs.{IsDirectPlan}
use Rattle.fp_certificate_lines.specs.declared.certificates.Answer.{Answer}
use Rattle.fp_certificate_lines.specs.declared.certificates.Answer.TheVariants.{Optimal, Unfinished}
use Rattle.fp_certificate_rules.specs.Accepted.{claim_of}
use Rattle.fp_certificate_rules.specs.Plans.{routes_of, stated_cost}
use Rattle.fp_checker.specs.Rejections.{TellsPlan}
use Rattle.fp_session_history.specs.Solutions.{Solution}
use Rattle.fp_replan.specs.Quotes.{AreFigures, IsCostOfPlan, without_last}
use Rattle.fp_replan.proofs.PlansWithout.{low-le}
use Rattle.fp_replan_quotes.specs.LastShipments.{with_last}
use Rattle.fp_replan_quotes.specs.NamedQuotes.{IsAdded}
use Rattle.fp_replan_quotes.specs.Starts.{start_of}
use Rattle.fp_replan_quotes.proofs.LastLists.{StandsLast-to_last}
use Rattle.fp_replan_quotes.proofs.LastPlans.{PlansCorrespond-last}
use Rattle.fp_replan_quotes.proofs.LastQuotes.{PricesAsLast-last}
use Rattle.fp_records_fields.specs.NamedParts.{shipment_named}
use Rattle.fp_app.specs.declared.shown.Shown.{Shown}
use Rattle.fp_app.specs.declared.shown.Shown.TheVariants as shown
use Rattle.fp_app.specs.NamedInputs.{ShowsLastQuote}
use Rattle.fp_app.specs.NamedQuotes.{IsLastQuote, IsNamedQuote, ShowsNamedQuote}
use Rattle.fp_app.specs.Plans.{TellsTimetable}
use Rattle.fp_app.specs.Searches.{Allowance, IsSearched, SaysOfPlans}
use Rattle.fp_app.specs.Shown.{CanBeQuoted, IsBracketed}
use Rattle.fp_app.specs.Wanted.{every, every_from}
use Rattle.fp_app.proofs.QuoteClaims.{bracketed, exact-both, extra-between, figures}
use Rattle.fp_app.proofs.SearchEnds.{SearchEnd, optimal, search-end, unfinished}

-- a search from a plan in hand: no plan costs less than it claims, and what it shows is the cost of one
module _ (p : Problem) (plan : List (List Leg)) (allowed : Allowance) where
  claim-from : (a : Answer) → SearchEnd p (every_from plan) allowed a → NoPlanCheaper p (claim_of a)
  claim-from a (optimal cost same plans) = subst (NoPlanCheaper p) (sym (ap claim_of same)) plans
  claim-from a (unfinished cost bound spent same bounds) = subst (NoPlanCheaper p) (sym (ap claim_of same)) bounds.plans

  bracketed-from : (a : Answer) → SearchEnd p (every_from plan) allowed a → IsBracketed a
  bracketed-from a (optimal cost same plans) = subst IsBracketed (sym same) tt
  bracketed-from a (unfinished cost bound spent same bounds) = subst IsBracketed (sym same) tt

  cost-from : (s : Solution) → IsSearched p (every_from plan) allowed s → IsCostOfPlan p (stated_cost s.certificate.answer)
  cost-from s told = let some : 1 ≤ 1 = omega arith in (1, routes_of p s.certificate, some, told.timetable.plan.plan, sym told.timetable.cost)

  pub figures-from : (s : Solution) → IsSearched p (every_from plan) allowed s → AreFigures p (claim_of s.certificate.answer) (stated_cost s.certificate.answer)
  figures-from s told = record { low_is = claim-from s.certificate.answer (search-end p (every_from plan) allowed s.certificate.answer told.says); cost_is = cost-from s told }

  -- it tells its plan
  says-tells : (a : Answer) → SaysOfPlans p (every_from plan) allowed a → TellsPlan a
  says-tells (Optimal cost) says = tt
  says-tells (Unfinished cost bound spent) says = tt
  says-tells _ says = absurd says

  pub tells-from : (s : Solution) → IsSearched p (every_from plan) allowed s → TellsTimetable p every s.certificate
  tells-from s told = record { table = told.table; windows = told.windows; answer = says-tells s.certificate.answer told.says; timetable = told.timetable }

says-tells_every : (p : Problem) (allowed : Allowance) (a : Answer) → SaysOfPlans p every allowed a → TellsPlan a
says-tells_every p allowed (Optimal cost) says = tt
says-tells_every p allowed (Unfinished cost bound spent) says = tt
says-tells_every p allowed _ says = absurd says

pub tells-every : (p : Problem) (allowed : Allowance) (s : Solution) → IsSearched p every allowed s → TellsTimetable p every s.certificate
tells-every p allowed s told = record { table = told.table; windows = told.windows; answer = says-tells_every p allowed s.certificate.answer told.says; timetable = told.timetable }

-- the quote of the last shipment
module _ (q : Problem) (allowed : Allowance) (before after : Solution) (direct : List (List Leg)) (first : IsSearched (without_last q) every allowed before)
    (second : IsSearched q (every_from (start_of q (routes_of (without_last q) before.certificate) direct)) allowed after) where
  abbrev start : List (List Leg)
  start = start_of q (routes_of (without_last q) before.certificate) direct

  pub last-quoted : (more : ℕ) → IsDirectPlan q direct → cost q start ≤ cost q direct → IsAdded q (routes_of (without_last q) before.certificate) (routes_of q after.certificate) more →
      ((low : ℕ) → NoPlanCheaper q low → low - cost (without_last q) (routes_of (without_last q) before.certificate) ≤ more) →
      ((low : ℕ) → NoPlanCheaper (without_last q) low → more ≤ cost q (routes_of q after.certificate) - low) → IsLastQuote q allowed before after more
  last-quoted more is_direct cheaper added least most =
      let one = figures (without_last q) allowed before first in
      let two = figures-from q start allowed after second in
      let begun : cost q second.first ≡ cost q start = ap (cost q) second.begins in
      let low : claim_of after.certificate.answer - stated_cost before.certificate.answer ≤ more =
      subst (λ (n : ℕ). claim_of after.certificate.answer - n ≤ more) (sym first.timetable.cost) (least (claim_of after.certificate.answer) two.low_is) in
      let high : more ≤ stated_cost after.certificate.answer - claim_of before.certificate.answer =
      subst (λ (n : ℕ). more ≤ n - claim_of before.certificate.answer) (sym second.timetable.cost) (most (claim_of before.certificate.answer) one.low_is) in
      record {
        without = first;
        direct = direct;
        is_direct = is_direct;
        with_it = second;
        no_dearer = omega (arith, second.earned.cheaper, begun, cheaper);
        added = added;
        within = (low, high);
      }

  pub last-can_be_quoted : 1 ≤ length q.shipments → CanBeQuoted q before.certificate.answer after.certificate.answer
  last-can_be_quoted some = record {
    shipment = some;
    without = bracketed (without_last q) allowed before.certificate.answer (search-end (without_last q) every allowed before.certificate.answer first.says);
    with_it = bracketed-from q start allowed after.certificate.answer (search-end q (every_from start) allowed after.certificate.answer second.says);
    ascends = low-le q (claim_of before.certificate.answer) (stated_cost after.certificate.answer) (figures (without_last q) allowed before first).low_is (figures-from q start allowed after second).cost_is;
  }

-- is that of the shipment which is the last one there
pub named-quoted : (p : Problem) (k : ℕ) (allowed : Allowance) (before after : Solution) (more : ℕ) → k < length p.shipments → IsLastQuote (with_last p k) allowed before after more → IsNamedQuote p k allowed before after more
named-quoted p k allowed before after more lt quote =
    let q : Problem = with_last p k in
    let b : Answer = before.certificate.answer in
    let a : Answer = after.certificate.answer in
    let prices = PricesAsLast-last p k lt in
    let start : List (List Leg) = start_of q (routes_of (without_last q) before.certificate) quote.direct in
    let one : AreFigures (without_last q) (claim_of b) (stated_cost b) = figures (without_last q) allowed before quote.without in
    let two : AreFigures q (claim_of a) (stated_cost a) = figures-from q start allowed after quote.with_it in
    record {
      stands = StandsLast-to_last k p.shipments lt;
      plans = PlansCorrespond-last p k;
      prices = prices;
      quote = quote;
      between = λ extra is. extra-between q b a one two extra ((prices.extra extra).1 is);
      exact = λ least most is_least is_most.
          let both = exact-both q b a least most one two is_least is_most in
          ((prices.extra (most - least)).0 both.0, both.1);
    }

-- so what is shown of the one is what is shown of the shipment of the name
pub shows-named : (p : Problem) (k : ℕ) (q : Problem) (name : List ℕ) (allowed : Allowance) (s : Shown) → k < length p.shipments → q ≡ with_last p k → shipment_named p name ≡ Some k → ShowsLastQuote allowed q s →
    ShowsNamedQuote allowed name p s
shows-named p k q name allowed (shown.NamedQuote instance before after more) lt is named told =
    (k, named, told.0 ∙ is, named-quoted p k allowed before after more lt (subst (λ (x : Problem). IsLastQuote x allowed before after more) is told.1))
shows-named p k q name allowed _ lt is named told = absurd told
