-- What `fleet` shows with each status.
use Rattle.std.proofs.Common.{◌≡◌, ℕ, Bool, List, refl, sym, ap, subst, inl, inr}
use Rattle.std.specs.Prelude.{Some, MatchBool}
use Rattle.fp_model.specs.Problem.{Problem}
use Rattle.fp_certificate_lines.specs.Statements.{Statement}
use Rattle.fp_app_tails.specs.declared.answers.Scale.TheVariants as asked
use Rattle.fp_app_words.specs.declared.orders.Order.TheVariants as order
use Rattle.fp_app.specs.declared.shown.Shown.{Shown}
use Rattle.fp_app.specs.declared.shown.Shown.TheVariants as shown
use Rattle.fp_app.specs.declared.shown.Status.{Status}
use Rattle.fp_app.specs.declared.shown.Status.TheVariants as status
use Rattle.fp_app.specs.Causes.{GivesPlan, ShowsFault, ShowsNo, ToldStatus}
use Rattle.fp_app.specs.Fleets.{IsShownRoster, IsShownFleet, ShowsFleet}
use Rattle.fp_app.specs.Inputs.{has_tail_in}
use Rattle.fp_app.specs.Plans.{ShowsUntold}
use Rattle.fp_app.specs.Runs.{ShowsFleetOf}
use Rattle.fp_app.specs.Shown.{status_of}
use Rattle.fp_app.specs.TailAnswers.{GivesOfTail, IsUntold, RejectsTail}
use Rattle.fp_app.specs.Wanted.{Wanted, every}
use Rattle.fp_app.proofs.PlanCauses.{plan-gives, plan-no_other, plan-refused, plan-rejects}

module _ (trucks : Bool) where
  -- a refusal is of the first fault of the input
  pub fleet-fault : (input : List ℕ) (ordinal code : ℕ) → ShowsFleetOf trucks input (shown.BadInput ordinal code) → ShowsFault (Some (order.Fleet trucks)) input (shown.BadInput ordinal code)
  fleet-fault input ordinal code told = plan-refused (order.Fleet trucks) input refl (λ p wanted c. ShowsFleet trucks p wanted c (shown.BadInput ordinal code)) ordinal code (λ p wanted c none. none) told

  -- the plan and the trucks that are shown
  roster-of : (s : Shown) → status_of s ≡ status.Done → (p : Problem) (wanted : Wanted) (c : Statement) → ShowsFleet trucks p wanted c s → IsShownRoster trucks p wanted c s
  roster-of (shown.Fleet q plan fleet) done p wanted c told = record {
    plan = plan;
    fleet = fleet;
    shows =
        subst (λ (t : Bool). IsShownFleet t p c.trucks plan fleet (shown.Fleet q plan fleet)) (sym told.0)
        (ap (λ (x : Problem). shown.Fleet x plan fleet) told.1);
    told = told.2;
    smallest = told.3;
  }
  roster-of (shown.Trucks q plan fleet days) done p wanted c told = record {
    plan = plan;
    fleet = fleet;
    shows =
        subst (λ (t : Bool). IsShownFleet t p c.trucks plan fleet (shown.Trucks q plan fleet days)) (sym told.0)
        (days, ap (λ (x : Problem). shown.Trucks x plan fleet days) told.1, told.4);
    told = told.2;
    smallest = told.3;
  }
  roster-of (shown.RejectedPart number) done p wanted c told = let g = done in cc
  roster-of _ done p wanted c told = absurd told

  pub fleet-done : (input : List ℕ) (s : Shown) → ShowsFleetOf trucks input s → status_of s ≡ status.Done →
      MatchBool (has_tail_in input) (GivesOfTail asked.Usual input (λ p wanted c. IsShownRoster trucks p wanted c s)) (GivesPlan input (λ p wanted c. IsShownRoster trucks p wanted c s))
  fleet-done input s told done =
      plan-gives input s (λ p wanted c. ShowsFleet trucks p wanted c s) status.Done (λ p wanted c. IsShownRoster trucks p wanted c s) (λ e. cc e) (λ e. cc e) (roster-of s done) told done

  -- a rejection is of a certificate that tells no plan
  untold-of : (number : ℕ) (p : Problem) (wanted : Wanted) (c : Statement) → ShowsFleet trucks p wanted c (shown.RejectedPart number) → IsUntold p wanted c (shown.RejectedPart number)
  untold-of number p wanted c told = record { number = number; shows = refl; untold = told }

  pub fleet-rejection : (input : List ℕ) (number : ℕ) → ShowsFleetOf trucks input (shown.RejectedPart number) →
      MatchBool (has_tail_in input) (RejectsTail asked.Usual input (shown.RejectedPart number)) (ShowsNo (λ p c part. ShowsUntold p every c part) input (shown.RejectedPart number))
  fleet-rejection input number told = plan-rejects input (shown.RejectedPart number) (λ p wanted c. ShowsFleet trucks p wanted c (shown.RejectedPart number)) (untold-of number) told refl

  -- `fleet` is done, rejects, or refuses its input, and has no other status
  shown-no_other : (t : Status) → (status.Done ≡ t → ⊥) → (status.Rejected ≡ t → ⊥) → (s : Shown) → status_of s ≡ t → (p : Problem) (wanted : Wanted) (c : Statement) → ShowsFleet trucks p wanted c s → ⊥
  shown-no_other t not_done not_rejected (shown.Fleet q plan fleet) same p wanted c told = not_done same
  shown-no_other t not_done not_rejected (shown.Trucks q plan fleet days) same p wanted c told = not_done same
  shown-no_other t not_done not_rejected (shown.RejectedPart number) same p wanted c told = not_rejected same
  shown-no_other t not_done not_rejected _ same p wanted c told = told

  pub fleet-no_other : (t : Status) → (status.Done ≡ t → ⊥) → (status.Rejected ≡ t → ⊥) → (status.BadInput ≡ t → ⊥) → (input : List ℕ) (s : Shown) → ShowsFleetOf trucks input s → status_of s ≡ t → ⊥
  fleet-no_other t not_done not_rejected not_refused input s told same =
      plan-no_other input s (λ p wanted c. ShowsFleet trucks p wanted c s) t not_rejected not_refused (shown-no_other t not_done not_rejected s same) told same

  pub fleet-status : (s : Shown) (p : Problem) (wanted : Wanted) (c : Statement) → ShowsFleet trucks p wanted c s → ToldStatus p wanted c (status_of s)
  fleet-status (shown.Fleet q plan fleet) p wanted c told = inl (refl, told.2.tells)
  fleet-status (shown.Trucks q plan fleet days) p wanted c told = inl (refl, told.2.tells)
  fleet-status (shown.RejectedPart number) p wanted c told = inr (refl, told.untold)
  fleet-status _ p wanted c told = absurd told
