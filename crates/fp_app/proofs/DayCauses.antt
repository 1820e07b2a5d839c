-- What `replan` shows of a day that is under way, by its status.
use Rattle.std.proofs.Common.{◌≡◌, ◌∙◌, ℕ, List, refl, sym, ap, subst, inr}
use Rattle.std.specs.Prelude.{Ok}
use Rattle.fp_model.specs.Problem.{Problem}
use Rattle.fp_certificate_lines.specs.declared.certificates.Answer.{Answer}
use Rattle.fp_certificate_lines.specs.declared.certificates.Answer.TheVariants as answer
use Rattle.fp_certificate_lines.specs.declared.certificates.Spent.{Spent}
use Rattle.fp_session_history.specs.Solutions.{Solution}
use Rattle.fp_replan_present.specs.declared.rests.Rest.{Rest}
use Rattle.fp_replan_present.specs.Days.{Day}
use Rattle.fp_replan_present.specs.Rests.{IsOpen, IsRest, left_problem}
use Rattle.fp_app_tails.specs.Tails.{DayInstance, day_in}
use Rattle.fp_app.specs.declared.shown.Shown.{Shown}
use Rattle.fp_app.specs.declared.shown.Shown.TheVariants as shown
use Rattle.fp_app.specs.declared.shown.Status.{Status}
use Rattle.fp_app.specs.declared.shown.Status.TheVariants as status
use Rattle.fp_app.specs.Causes.{SearchStatus}
use Rattle.fp_app.specs.DayCauses.{ShowsDayOptimal, ShowsDayStuck, ShowsDayUnfinished, ShowsUnderway}
use Rattle.fp_app.specs.Inputs.{OfDay}
use Rattle.fp_app.specs.Runs.{ShowsDay}
use Rattle.fp_app.specs.Searches.{Allowance, IsBoundBelow, IsSearched}
use Rattle.fp_app.specs.Shown.{search_status, status_of}
use Rattle.fp_app.specs.Wanted.{NoneWantedCheaper, Wanted, going_on}
use Rattle.fp_app.proofs.ReadCauses.{MatchResult_shows}
use Rattle.fp_app.proofs.ReplanCauses.{end-status}
use Rattle.fp_app.proofs.SearchEnds.{SearchEnd, optimal, search-end, search-no_other, unfinished}

-- how a search of what is left has ended, whatever it looked for
record EndsOptimal (p : Problem) (wanted : Wanted) (a : Answer) : Type 0 where
  pub cost : ℕ
  pub is : a ≡ answer.Optimal cost
  pub plans : NoneWantedCheaper p wanted cost

record EndsUnfinished (p : Problem) (wanted : Wanted) (allowed : Allowance) (a : Answer) : Type 0 where
  pub cost : ℕ
  pub bound : ℕ
  pub spent : Spent
  pub is : a ≡ answer.Unfinished cost bound spent
  pub bounds : IsBoundBelow p wanted allowed cost bound spent

end-optimal : (p : Problem) (wanted : Wanted) (allowed : Allowance) (a : Answer) → SearchEnd p wanted allowed a → search_status a ≡ status.Done → EndsOptimal p wanted a
end-optimal p wanted allowed a (optimal cost same plans) done = record { cost = cost; is = same; plans = plans }
end-optimal p wanted allowed a (unfinished cost bound spent same bounds) done = let e : status.Unfinished ≡ status.Done = sym (ap search_status same) ∙ done in cc e

end-unfinished : (p : Problem) (wanted : Wanted) (allowed : Allowance) (a : Answer) → SearchEnd p wanted allowed a → search_status a ≡ status.Unfinished → EndsUnfinished p wanted allowed a
end-unfinished p wanted allowed a (optimal cost same plans) ends = let e : status.Done ≡ status.Unfinished = sym (ap search_status same) ∙ ends in cc e
end-unfinished p wanted allowed a (unfinished cost bound spent same bounds) ends = record { cost = cost; bound = bound; spent = spent; is = same; bounds = bounds }

shown-optimal : (allowed : Allowance) (input : List ℕ) (s : Shown) (told : ShowsUnderway allowed input s) → EndsOptimal told.rest.instance (going_on told.instance told.day) told.solved.certificate.answer →
    ShowsDayOptimal allowed input s
shown-optimal allowed input s told ends = record { solution = told; cost = ends.cost; answer = ends.is; plans = ends.plans }

shown-unfinished : (allowed : Allowance) (input : List ℕ) (s : Shown) (told : ShowsUnderway allowed input s) → EndsUnfinished told.rest.instance (going_on told.instance told.day) allowed told.solved.certificate.answer →
    ShowsDayUnfinished allowed input s
shown-unfinished allowed input s told ends = record { solution = told; cost = ends.cost; bound = ends.bound; spent = ends.spent; answer = ends.is; bounds = ends.bounds }

module _ (allowed : Allowance) (input : List ℕ) (x : DayInstance) (read : day_in input ≡ Ok x) where
  -- what is shown is of what is left, or stuck
  each-shown : (s : Shown) → ShowsDay allowed x s → (X : Type 0) →
      ((p : Problem) (day : Day) (rest : Rest) (y : Solution) → s ≡ shown.Underway p day rest y → x ≡ record { instance = p; day = day } → IsOpen p day → IsRest p day rest → IsSearched rest.instance (going_on p day) allowed y → X) →
      ((p : Problem) (shipment : ℕ) → s ≡ shown.Stuck p shipment → X) → X
  each-shown (shown.Underway p day rest y) told X going stuck = going p day rest y refl told.0 told.1 told.2 told.3
  each-shown (shown.Stuck p shipment) told X going stuck = stuck p shipment refl
  each-shown _ told X going stuck = absurd told

  module _ (s : Shown) (p : Problem) (day : Day) (rest : Rest) (y : Solution) (shows : s ≡ shown.Underway p day rest y) (same : x ≡ record { instance = p; day = day }) (goes : IsOpen p day) (left : IsRest p day rest)
      (searched : IsSearched rest.instance (going_on p day) allowed y) where
    underway : ShowsUnderway allowed input s
    underway = record { instance = p; day = day; rest = rest; solved = y; read = read ∙ ap Ok same; shows = shows; goes_on = goes; left = left; searched = searched }

    ended : SearchEnd rest.instance (going_on p day) allowed y.certificate.answer
    ended = search-end rest.instance (going_on p day) allowed y.certificate.answer searched.says

    underway-done : status_of s ≡ status.Done → ShowsDayOptimal allowed input s
    unfolding underway
    underway-done done = shown-optimal allowed input s underway (end-optimal rest.instance (going_on p day) allowed y.certificate.answer ended (ap status_of (sym shows) ∙ done))

    underway-open : status_of s ≡ status.Unfinished → ShowsDayUnfinished allowed input s
    unfolding underway
    underway-open ends = shown-unfinished allowed input s underway (end-unfinished rest.instance (going_on p day) allowed y.certificate.answer ended (ap status_of (sym shows) ∙ ends))

  stuck-not : (s : Shown) (p : Problem) (shipment : ℕ) (t : Status) → (status.Infeasible ≡ t → ⊥) → s ≡ shown.Stuck p shipment → status_of s ≡ t → ⊥
  stuck-not s p shipment t other shows same = other (ap status_of (sym shows) ∙ same)

  -- by no clauses: what they give would be compared field by field
  going-done : (s : Shown) → ShowsDay allowed x s → status_of s ≡ status.Done → ShowsDayOptimal allowed input s
  going-done s told done =
      each-shown s told (ShowsDayOptimal allowed input s) (λ p day rest y shows same goes left searched. underway-done s p day rest y shows same goes left searched done)
      (λ p shipment shows. absurd (stuck-not s p shipment status.Done (λ e. cc e) shows done))

  going-open : (s : Shown) → ShowsDay allowed x s → status_of s ≡ status.Unfinished → ShowsDayUnfinished allowed input s
  going-open s told ends =
      each-shown s told (ShowsDayUnfinished allowed input s) (λ p day rest y shows same goes left searched. underway-open s p day rest y shows same goes left searched ends)
      (λ p shipment shows. absurd (stuck-not s p shipment status.Unfinished (λ e. cc e) shows ends))

  going-stuck : (s : Shown) → ShowsDay allowed x s → status_of s ≡ status.Infeasible → ShowsDayStuck input s
  going-stuck (shown.Underway p day rest y) told none = absurd (search-no_other y.certificate.answer status.Infeasible (λ e. cc e) (λ e. cc e) none)
  going-stuck (shown.Stuck p shipment) told none = record {
    instance = x.instance;
    day = x.day;
    shipment = shipment;
    read = read;
    shows = ap (λ (q : Problem). shown.Stuck q shipment) told.0;
    stuck = told.1;
    none = told.2;
  }
  going-stuck _ told none = absurd told

pub day-done : (allowed : Allowance) (input : List ℕ) (s : Shown) → OfDay input s (λ x. ShowsDay allowed x s) → status_of s ≡ status.Done → ShowsDayOptimal allowed input s
day-done allowed input s told done =
    MatchResult_shows status.Done (day_in input) (day_in input) (λ (x : DayInstance). ShowsDay allowed x s) s (ShowsDayOptimal allowed input s) (λ e. cc e) refl done told
    (λ x is shows. going-done allowed input x is s shows done)

pub day-open : (allowed : Allowance) (input : List ℕ) (s : Shown) → OfDay input s (λ x. ShowsDay allowed x s) → status_of s ≡ status.Unfinished → ShowsDayUnfinished allowed input s
day-open allowed input s told ends =
    MatchResult_shows status.Unfinished (day_in input) (day_in input) (λ (x : DayInstance). ShowsDay allowed x s) s (ShowsDayUnfinished allowed input s) (λ e. cc e) refl ends told
    (λ x is shows. going-open allowed input x is s shows ends)

pub day-stuck : (allowed : Allowance) (input : List ℕ) (s : Shown) → OfDay input s (λ x. ShowsDay allowed x s) → status_of s ≡ status.Infeasible → ShowsDayStuck input s
day-stuck allowed input s told none =
    MatchResult_shows status.Infeasible (day_in input) (day_in input) (λ (x : DayInstance). ShowsDay allowed x s) s (ShowsDayStuck input s) (λ e. cc e) refl none told
    (λ x is shows. going-stuck allowed input x is s shows none)

pub day-status : (allowed : Allowance) (x : DayInstance) (s : Shown) → ShowsDay allowed x s → SearchStatus (left_problem x.instance x.day) (going_on x.instance x.day) allowed (status_of s)
day-status allowed x (shown.Underway p day rest y) told =
    subst (λ (z : DayInstance). SearchStatus (left_problem z.instance z.day) (going_on z.instance z.day) allowed (search_status y.certificate.answer)) (sym told.0)
    (subst (λ (q : Problem). SearchStatus q (going_on p day) allowed (search_status y.certificate.answer)) told.2.instance
    (end-status rest.instance (going_on p day) allowed y told.3 (search-end rest.instance (going_on p day) allowed y.certificate.answer told.3.says)))
day-status allowed x (shown.Stuck p shipment) told = inr (inr (refl, told.2))
day-status allowed x _ told = absurd told
