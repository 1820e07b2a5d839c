-- What `quote` shows of a shipment by its name.
use Rattle.std.specs.Prelude.{ℕ, ◌-◌, ◌≤◌, ◌≡◌, List, Some}
use Rattle.fp_model.specs.declared.parts.Leg.{Leg}
use Rattle.fp_model.specs.Costs.{cost}
use Rattle.fp_model.specs.Plans.{PlanExists}
use Rattle.fp_model.specs.Problem.{Problem}
use Rattle.fp_records_fields.specs.NamedParts.{shipment_named}
use Rattle.fp_flatnet.specs.Directs.{IsDirectPlan}
use Rattle.fp_flatnet.specs.Verdicts.{IsBlocked}
use Rattle.fp_certificate_lines.specs.declared.certificates.Answer.TheVariants.{Optimal}
use Rattle.fp_certificate_rules.specs.Plans.{routes_of, stated_cost}
use Rattle.fp_session_history.specs.Solutions.{Solution}
use Rattle.fp_replan.specs.Quotes.{IsBetween, without_last}
use Rattle.fp_replan_quotes.specs.LastShipments.{PlansCorrespond, StandsLast, with_last}
use Rattle.fp_replan_quotes.specs.NamedQuotes.{IsAdded, IsExtraCostOf, PricesAsLast}
use Rattle.fp_replan_quotes.specs.Starts.{start_of}
use Rattle.fp_app.specs.declared.shown.Shown.{Shown}
use Rattle.fp_app.specs.declared.shown.Shown.TheVariants as shown
use Rattle.fp_app.specs.Quotes.{extra_of}
use Rattle.fp_app.specs.Searches.{Allowance, IsSearched}
use Rattle.fp_app.specs.Wanted.{every, every_from}

-- Two searches of an instance, without its last shipment and with it, each with the whole budget and both with
-- the option of spans or both without it. The second began with the first one's plan with the shipment put
-- in, as the direct plan has it go, or with the direct plan where that is cheaper, so it costs at most what
-- the direct plan costs. Between the two plans in hand the shipment adds so much.
pub record IsLastQuote (q : Problem) (allowed : Allowance) (before after : Solution) (more : ℕ) : Type 0 where
  pub without : IsSearched (without_last q) every allowed before
  pub direct : List (List Leg)
  pub is_direct : IsDirectPlan q direct
  pub with_it : IsSearched q (every_from (start_of q (routes_of (without_last q) before.certificate) direct)) allowed after
  pub no_dearer : stated_cost after.certificate.answer ≤ cost q direct
  pub added : IsAdded q (routes_of (without_last q) before.certificate) (routes_of q after.certificate) more
  pub within : IsBetween (extra_of before.certificate.answer after.certificate.answer) more

-- These of an instance with the shipment of a number as the last one: the others are in their order, plans of
-- the one are plans of the other with their routes in that order, at the same cost, and what the last
-- shipment costs extra is what the one of the number does. That lies between the two figures, and where both
-- answers are optimal it is both of them.
pub record IsNamedQuote (p : Problem) (k : ℕ) (allowed : Allowance) (before after : Solution) (more : ℕ) : Type 0 where
  pub stands : StandsLast k p.shipments (with_last p k).shipments
  pub plans : PlansCorrespond p k (with_last p k)
  pub prices : PricesAsLast p k (with_last p k)
  pub quote : IsLastQuote (with_last p k) allowed before after more
  pub between : (extra : ℕ) → IsExtraCostOf p k extra → IsBetween (extra_of before.certificate.answer after.certificate.answer) extra
  pub exact : (least most : ℕ) → before.certificate.answer ≡ Optimal least → after.certificate.answer ≡ Optimal most →
      IsExtraCostOf p k (most - least) × (extra_of before.certificate.answer after.certificate.answer ≡ record { low = most - least; high = most - least })

-- `quote NAME`: where a plan exists, what searches without the shipment of the name and with it show, and
-- otherwise the first shipment that can't be carried in time, with its fastest time.
abbrev pub ShowsNamedQuote : Allowance → List ℕ → Problem → Shown → Type 0
ShowsNamedQuote allowed name p (shown.NamedQuote instance before after more) =
    (k : ℕ) × (shipment_named p name ≡ Some k) × (instance ≡ with_last p k) × IsNamedQuote p k allowed before after more
ShowsNamedQuote allowed name p (shown.Infeasible instance shipment time) = (instance ≡ p) × IsBlocked p shipment time × (PlanExists p → ⊥)
ShowsNamedQuote allowed name p _ = ⊥
