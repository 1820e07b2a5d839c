-- When each status of `quote NAME` comes, by the name and the whole input.
use Rattle.std.specs.Prelude.{ℕ, ◌-◌, ◌≡◌, ◌⊎◌, List, Some, Ok}
use Rattle.fp_model.specs.Plans.{PlanExists}
use Rattle.fp_model.specs.Problem.{Problem}
use Rattle.fp_records_fields.specs.NamedParts.{shipment_named}
use Rattle.fp_certificate_lines.specs.declared.certificates.Answer.TheVariants as answer
use Rattle.fp_certificate_lines.specs.declared.certificates.Spent.{Spent}
use Rattle.fp_session_history.specs.Solutions.{Solution}
use Rattle.fp_replan.specs.Quotes.{without_last}
use Rattle.fp_replan_quotes.specs.LastShipments.{with_last}
use Rattle.fp_replan_quotes.specs.NamedQuotes.{IsExtraCostOf}
use Rattle.fp_app.specs.declared.shown.Shown.{Shown}
use Rattle.fp_app.specs.declared.shown.Shown.TheVariants as shown
use Rattle.fp_app.specs.declared.shown.Status.{Status}
use Rattle.fp_app.specs.declared.shown.Status.TheVariants as status
use Rattle.fp_app.specs.Inputs.{named_in}
use Rattle.fp_app.specs.NamedQuotes.{IsNamedQuote}
use Rattle.fp_app.specs.Quotes.{IsUnfinished}
use Rattle.fp_app.specs.Searches.{Allowance, IsEnough}
use Rattle.fp_app.specs.Wanted.{every}

-- The input gives an instance with a shipment of the name, of which a plan exists, and what is shown is what
-- that shipment adds to the cost, by a search without it and one with it, which has it as the last one.
pub record ShowsNamed (allowed : Allowance) (name input : List ℕ) (result : Shown) : Type 0 where
  pub instance : Problem
  pub number : ℕ
  pub before : Solution
  pub after : Solution
  pub more : ℕ
  pub read : named_in name input ≡ Ok instance
  pub named : shipment_named instance name ≡ Some number
  pub shows : result ≡ shown.NamedQuote (with_last instance number) before after more
  pub quoted : IsNamedQuote instance number allowed before after more

-- Both searches are optimal, and what the shipment adds is exact.
pub record ShowsNamedExact (allowed : Allowance) (name input : List ℕ) (result : Shown) : Type 0 where
  pub extra : ShowsNamed allowed name input result
  pub least : ℕ
  pub most : ℕ
  pub without : extra.before.certificate.answer ≡ answer.Optimal least
  pub with_it : extra.after.certificate.answer ≡ answer.Optimal most
  pub exact : IsExtraCostOf extra.instance extra.number (most - least)

-- One of the two searches is unfinished.
pub record ShowsNamedOpen (allowed : Allowance) (name input : List ℕ) (result : Shown) : Type 0 where
  pub extra : ShowsNamed allowed name input result
  pub one_unfinished : IsUnfinished (without_last (with_last extra.instance extra.number)) allowed extra.before ⊎ IsUnfinished (with_last extra.instance extra.number) allowed extra.after

-- the status of `quote` of a named shipment: done or unfinished where a plan exists, and infeasible where
-- none does. Where the rounds and the branches are enough without the shipment and with it, it isn't
-- unfinished.
abbrev pub NamedStatus : List ℕ → Problem → Allowance → Status → Type 0
NamedStatus name p allowed result =
    ((result ≡ status.Done) × PlanExists p)
    ⊎ (((result ≡ status.Unfinished) × PlanExists p × ((k : ℕ) × (spent : Spent) × (shipment_named p name ≡ Some k) × ((IsEnough (without_last (with_last p k)) every allowed spent × IsEnough (with_last p k) every allowed spent) → ⊥)))
    ⊎ ((result ≡ status.Infeasible) × (PlanExists p → ⊥)))
