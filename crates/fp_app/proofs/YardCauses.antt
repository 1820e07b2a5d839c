-- What `yard` shows with each status.
use Rattle.std.proofs.Common.{◌≡◌, ℕ, List, refl, ap, inl, inr}
use Rattle.std.specs.Prelude.{Some, MatchBool}
use Rattle.fp_model.specs.Problem.{Problem}
use Rattle.fp_certificate_lines.specs.Statements.{Statement}
use Rattle.fp_app_tails.specs.declared.answers.Scale.TheVariants as asked
use Rattle.fp_app_words.specs.declared.orders.Order.TheVariants as order
use Rattle.fp_app.specs.declared.shown.Shown.{Shown}
use Rattle.fp_app.specs.declared.shown.Shown.TheVariants as shown
use Rattle.fp_app.specs.declared.shown.Status.{Status}
use Rattle.fp_app.specs.declared.shown.Status.TheVariants as status
use Rattle.fp_app.specs.Causes.{GivesPlan, ShowsFault, ShowsNo, ToldStatus}
use Rattle.fp_app.specs.Inputs.{has_tail_in}
use Rattle.fp_app.specs.Plans.{ShowsUntold}
use Rattle.fp_app.specs.Runs.{ShowsYardOf}
use Rattle.fp_app.specs.Shown.{status_of}
use Rattle.fp_app.specs.TailAnswers.{GivesOfTail, IsUntold, RejectsTail}
use Rattle.fp_app.specs.Wanted.{Wanted, every}
use Rattle.fp_app.specs.Yards.{IsShownRun, ShowsYard}
use Rattle.fp_app.proofs.PlanCauses.{plan-gives, plan-no_other, plan-refused, plan-rejects}

module _ (seed : ℕ) where
  -- a refusal is of the first fault of the input
  pub yard-fault : (input : List ℕ) (ordinal code : ℕ) → ShowsYardOf seed input (shown.BadInput ordinal code) → ShowsFault (Some (order.Yard seed)) input (shown.BadInput ordinal code)
  yard-fault input ordinal code told = plan-refused (order.Yard seed) input refl (λ p wanted c. ShowsYard seed p wanted c (shown.BadInput ordinal code)) ordinal code (λ p wanted c none. none) told

  -- the plan and the log that are shown
  run-of : (s : Shown) → status_of s ≡ status.Done → (p : Problem) (wanted : Wanted) (c : Statement) → ShowsYard seed p wanted c s → IsShownRun seed p wanted c s
  run-of (shown.Yard q plan log) done p wanted c told = record { plan = plan; log = log; shows = ap (λ (x : Problem). shown.Yard x plan log) told.0; told = told.1; drawn = told.2 }
  run-of (shown.RejectedPart number) done p wanted c told = let g = done in cc
  run-of _ done p wanted c told = absurd told

  pub yard-done : (input : List ℕ) (s : Shown) → ShowsYardOf seed input s → status_of s ≡ status.Done →
      MatchBool (has_tail_in input) (GivesOfTail asked.Usual input (λ p wanted c. IsShownRun seed p wanted c s)) (GivesPlan input (λ p wanted c. IsShownRun seed p wanted c s))
  yard-done input s told done =
      plan-gives input s (λ p wanted c. ShowsYard seed p wanted c s) status.Done (λ p wanted c. IsShownRun seed p wanted c s) (λ e. cc e) (λ e. cc e) (run-of s done) told done

  -- a rejection is of a certificate that tells no plan
  untold-of : (number : ℕ) (p : Problem) (wanted : Wanted) (c : Statement) → ShowsYard seed p wanted c (shown.RejectedPart number) → IsUntold p wanted c (shown.RejectedPart number)
  untold-of number p wanted c told = record { number = number; shows = refl; untold = told }

  pub yard-rejection : (input : List ℕ) (number : ℕ) → ShowsYardOf seed input (shown.RejectedPart number) →
      MatchBool (has_tail_in input) (RejectsTail asked.Usual input (shown.RejectedPart number)) (ShowsNo (λ p c part. ShowsUntold p every c part) input (shown.RejectedPart number))
  yard-rejection input number told = plan-rejects input (shown.RejectedPart number) (λ p wanted c. ShowsYard seed p wanted c (shown.RejectedPart number)) (untold-of number) told refl

  -- `yard` is done, rejects, or refuses its input, and has no other status
  shown-no_other : (t : Status) → (status.Done ≡ t → ⊥) → (status.Rejected ≡ t → ⊥) → (s : Shown) → status_of s ≡ t → (p : Problem) (wanted : Wanted) (c : Statement) → ShowsYard seed p wanted c s → ⊥
  shown-no_other t not_done not_rejected (shown.Yard q plan log) same p wanted c told = not_done same
  shown-no_other t not_done not_rejected (shown.RejectedPart number) same p wanted c told = not_rejected same
  shown-no_other t not_done not_rejected _ same p wanted c told = told

  pub yard-no_other : (t : Status) → (status.Done ≡ t → ⊥) → (status.Rejected ≡ t → ⊥) → (status.BadInput ≡ t → ⊥) → (input : List ℕ) (s : Shown) → ShowsYardOf seed input s → status_of s ≡ t → ⊥
  yard-no_other t not_done not_rejected not_refused input s told same =
      plan-no_other input s (λ p wanted c. ShowsYard seed p wanted c s) t not_rejected not_refused (shown-no_other t not_done not_rejected s same) told same

  pub yard-status : (s : Shown) (p : Problem) (wanted : Wanted) (c : Statement) → ShowsYard seed p wanted c s → ToldStatus p wanted c (status_of s)
  yard-status (shown.Yard q plan log) p wanted c told = inl (refl, told.1.tells)
  yard-status (shown.RejectedPart number) p wanted c told = inr (refl, told.untold)
  yard-status _ p wanted c told = absurd told
