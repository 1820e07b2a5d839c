-- All that is shown of a search that has ended.
use Rattle.std.specs.Prelude.{ℕ, ◌-◌, ◌^◌, ◌<◌, ◌≤◌, ◌≡◌, List, ◌++◌, length, All, IfSome}
use Rattle.fp_model.specs.Problem.{Problem}
use Rattle.fp_flatnet.specs.Tables.{WindowTable}
use Rattle.fp_prices.specs.Tables.{AreCountable}
use Rattle.fp_prices_spans.specs.Spans.{ClassSpan}
use Rattle.fp_certificate_lines.specs.Ranges.{IsInRange}
use Rattle.fp_certificate_rules.specs.Accepted.{IsAccepted}
use Rattle.fp_certificate_rules.specs.Plans.{stated_cost}
use Rattle.fp_duals_leaves.specs.PriceLines.{AreFewLines}
use Rattle.fp_session_history.specs.declared.budgets.Budget.{Budget}
use Rattle.fp_session_history.specs.declared.endings.Left.{Left}
use Rattle.fp_session_history.specs.Notes.{Refinement}
use Rattle.fp_session_history.specs.Solutions.{IsEarnedSolution, Solution}
use Rattle.fp_session.specs.Certificates.{named_scale}
use Rattle.fp_session.specs.Searches.{InHand}
use Rattle.fp_session.specs.TreeLines.{notes_of}

-- its certificate is accepted, and in range and countable, so that it can be written and read again;
-- its price lines are few; and what it shows is earned
pub record IsSolved (p : Problem) (table : WindowTable) (budget : Budget) (started : ℕ) (x : Solution) : Type 0 where
  pub accepted : IsAccepted p table x.certificate
  pub range : IsInRange p x.certificate
  pub countable : AreCountable p x.certificate.tables
  pub few : All (λ (spans : List ClassSpan). length spans < 2 ^ 32 - 1) x.certificate.spans
  pub lines : AreFewLines x.certificate.tables x.certificate.spans x.certificate.gifts
  pub scale : x.certificate.scale ≡ named_scale p.scale
  pub earned : IsEarnedSolution p table budget started x

-- what is shown of a search that had ended: what it had in hand
pub record ShowsInHand (s : InHand) (kept : Left) (x : Solution) : Type 0 where
  pub cost : stated_cost x.certificate.answer ≡ s.cost
  pub trace : x.trace ≡ s.trace
  pub splits : x.splits ≡ notes_of s.tree
  pub left : x.left ≡ kept

-- what is shown of a search that goes on from what it had in hand: its plan costs no more, and its
-- notes on rounds begin with those that there were
pub record GoesOnFrom (s : InHand) (x : Solution) : Type 0 where
  pub cost : stated_cost x.certificate.answer ≤ s.cost
  pub more : List Refinement
  pub trace : x.trace ≡ s.trace ++ more
  pub ended : IfSome s.left (λ left. ShowsInHand s left x)
