-- What `replan` shows, by its status, whether its records tell a day or kept legs alone.
use Rattle.std.proofs.Common.{◌≡◌, ℕ, Bool, true, false, List, refl, ap}
use Rattle.std.specs.Prelude.{MatchBool, MatchResult, Ok, Err, Option, Some, Result}
use Rattle.fp_records_fields.specs.Faults.{Fault}
use Rattle.fp_session_history.specs.declared.budgets.Budget.{Budget}
use Rattle.fp_app_words.specs.declared.orders.Order.TheVariants.{Replan}
use Rattle.fp_app_tails.specs.Tails.{DayInstance, KeptInstance, day_in, kept_in, tells_day_in}
use Rattle.fp_replan_present.specs.Rests.{left_problem}
use Rattle.fp_app.specs.declared.shown.Shown.{Shown}
use Rattle.fp_app.specs.declared.shown.Shown.TheVariants as shown
use Rattle.fp_app.specs.declared.shown.Status.TheVariants as status
use Rattle.fp_app.specs.Causes.{SearchStatus, ShowsFault, ShowsKeptOptimal, ShowsKeptUnfinished, ShowsStuck}
use Rattle.fp_app.specs.DayCauses.{ShowsDayOptimal, ShowsDayStuck, ShowsDayUnfinished}
use Rattle.fp_app.specs.Inputs.{OfDay, OfKept, fault_of}
use Rattle.fp_app.specs.Runs.{ShowsDay, ShowsReplan, ShowsTail}
use Rattle.fp_app.specs.Searches.{Allowance}
use Rattle.fp_app.specs.Shown.{status_of}
use Rattle.fp_app.specs.Wanted.{going_on, keeping}
use Rattle.fp_app.proofs.DayCauses.{day-done, day-open, day-status, day-stuck}
use Rattle.fp_app.proofs.ReplanCauses.{replan-done, replan-open, replan-status, replan-stuck}

-- each of two gives its own
pub each-of : (b : Bool) (X Y V W : Type 0) → (X → V) → (Y → W) → MatchBool b X Y → MatchBool b V W
each-of true X Y V W first second x = first x
each-of false X Y V W first second y = second y

-- both give the same
pub both-give : (b : Bool) (X Y V : Type 0) → (b ≡ true → X → V) → (b ≡ false → Y → V) → MatchBool b X Y → V
both-give true X Y V first second x = first refl x
both-give false X Y V first second y = second refl y

-- what was read gives one thing, and its fault another
pub read-gives : {A : Type 0} (r : Result A Fault) (P Q : A → Type 0) (s : Shown) → ((x : A) → P x → Q x) →
    MatchResult r P (λ (f : Fault). s ≡ shown.BadInput f.ordinal f.code) → MatchResult r Q (λ (f : Fault). status_of s ≡ status.BadInput)
read-gives (Ok x) P Q s each told = each x told
read-gives (Err f) P Q s each same = ap status_of same

-- and neither
read-neither : {A : Type 0} (r : Result A Fault) (P : A → Type 0) (s : Shown) → ((x : A) → P x → ⊥) → ((f : Fault) → s ≡ shown.BadInput f.ordinal f.code → ⊥) →
    MatchResult r P (λ (f : Fault). s ≡ shown.BadInput f.ordinal f.code) → ⊥
read-neither (Ok x) P s none fault told = none x told
read-neither (Err f) P s none fault same = fault f same

-- only the fault
pub read-fault : {A : Type 0} (r : Result A Fault) (P : A → Type 0) (s : Shown) → ((x : A) → P x → ⊥) →
    MatchResult r P (λ (f : Fault). s ≡ shown.BadInput f.ordinal f.code) → (f : Fault) × (fault_of r ≡ Some f) × (s ≡ shown.BadInput f.ordinal f.code)
read-fault (Ok x) P s none told = absurd (none x told)
read-fault (Err f) P s none same = (f, refl, same)

module _ (allowed : Allowance) (input : List ℕ) where
  module _ (s : Shown) where
    abbrev DayTold : Type 0
    DayTold = OfDay input s (λ (x : DayInstance). ShowsDay allowed x s)

    abbrev KeptTold : Type 0
    KeptTold = OfKept input s (λ (x : KeptInstance). ShowsReplan allowed x s)

    pub tail-done : ShowsTail allowed input s → status_of s ≡ status.Done → MatchBool (tells_day_in input) (ShowsDayOptimal allowed input s) (ShowsKeptOptimal allowed input s)
    tail-done told done =
        each-of (tells_day_in input) DayTold KeptTold (ShowsDayOptimal allowed input s) (ShowsKeptOptimal allowed input s) (λ of. day-done allowed input s of done) (λ of. replan-done allowed input s of done) told

    pub tail-open : ShowsTail allowed input s → status_of s ≡ status.Unfinished → MatchBool (tells_day_in input) (ShowsDayUnfinished allowed input s) (ShowsKeptUnfinished allowed input s)
    tail-open told ends =
        each-of (tells_day_in input) DayTold KeptTold (ShowsDayUnfinished allowed input s) (ShowsKeptUnfinished allowed input s) (λ of. day-open allowed input s of ends) (λ of. replan-open allowed input s of ends) told

    pub tail-stuck : ShowsTail allowed input s → status_of s ≡ status.Infeasible → MatchBool (tells_day_in input) (ShowsDayStuck input s) (ShowsStuck input s)
    tail-stuck told none =
        each-of (tells_day_in input) DayTold KeptTold (ShowsDayStuck input s) (ShowsStuck input s) (λ of. day-stuck allowed input s of none) (λ of. replan-stuck allowed input s of none) told

    abbrev DayStatus : Type 0
    DayStatus = MatchResult (day_in input) (λ (x : DayInstance). SearchStatus (left_problem x.instance x.day) (going_on x.instance x.day) allowed (status_of s)) (λ (f : Fault). status_of s ≡ status.BadInput)

    abbrev KeptStatus : Type 0
    KeptStatus = MatchResult (kept_in input) (λ (x : KeptInstance). SearchStatus x.instance (keeping x.kept) allowed (status_of s)) (λ (f : Fault). status_of s ≡ status.BadInput)

    pub tail-status : ShowsTail allowed input s → MatchBool (tells_day_in input) DayStatus KeptStatus
    tail-status told =
        each-of (tells_day_in input) DayTold KeptTold DayStatus KeptStatus
        (read-gives (day_in input) (λ (x : DayInstance). ShowsDay allowed x s) (λ (x : DayInstance). SearchStatus (left_problem x.instance x.day) (going_on x.instance x.day) allowed (status_of s)) s (λ (x : DayInstance). day-status allowed x s))
        (read-gives (kept_in input) (λ (x : KeptInstance). ShowsReplan allowed x s) (λ (x : KeptInstance). SearchStatus x.instance (keeping x.kept) allowed (status_of s)) s (λ (x : KeptInstance). replan-status allowed x s)) told

    -- what neither a day nor kept legs show isn't shown
    pub tail-neither : ((x : DayInstance) → ShowsDay allowed x s → ⊥) → ((x : KeptInstance) → ShowsReplan allowed x s → ⊥) → ((f : Fault) → s ≡ shown.BadInput f.ordinal f.code → ⊥) → ShowsTail allowed input s → ⊥
    tail-neither day kept fault told =
        both-give (tells_day_in input) DayTold KeptTold ⊥ (λ is of. read-neither (day_in input) (λ (x : DayInstance). ShowsDay allowed x s) s day fault of)
        (λ is of. read-neither (kept_in input) (λ (x : KeptInstance). ShowsReplan allowed x s) s kept fault of) told

-- a refusal by the first fault of the input
pub tail-fault : (budget : Budget) (allowed : Allowance) (spans : Bool) (seconds : Option ℕ) (notes : Bool) (input : List ℕ) (ordinal code : ℕ) → ShowsTail allowed input (shown.BadInput ordinal code) →
    ShowsFault (Some (Replan budget spans seconds notes)) input (shown.BadInput ordinal code)
tail-fault budget allowed spans seconds notes input ordinal code told =
    both-give (tells_day_in input) (DayTold allowed input (shown.BadInput ordinal code)) (KeptTold allowed input (shown.BadInput ordinal code)) (ShowsFault (Some (Replan budget spans seconds notes)) input (shown.BadInput ordinal code))
    (λ is of. let x = read-fault (day_in input) (λ (x : DayInstance). ShowsDay allowed x (shown.BadInput ordinal code)) (shown.BadInput ordinal code) (λ x none. none) of in
    record { fault = x.0; first = rw is x.1; shows = x.2 })
    (λ is of. let x = read-fault (kept_in input) (λ (x : KeptInstance). ShowsReplan allowed x (shown.BadInput ordinal code)) (shown.BadInput ordinal code) (λ x none. none) of in
    record { fault = x.0; first = rw is x.1; shows = x.2 }) told
