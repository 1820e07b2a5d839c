-- What one run answers to the text of another.
use Rattle.std.specs.Prelude.{ℕ, ◌≡◌, ◌⊎◌, true, false, List, ◌++◌, Ok, Option}
use Rattle.fp_model.specs.declared.parts.Leg.{Leg}
use Rattle.fp_model.specs.Problem.{Problem}
use Rattle.fp_records.specs.Fields.{records_of}
use Rattle.fp_session_history.specs.Solutions.{Solution}
use Rattle.fp_app_tails.specs.Ahead.{ahead_problem}
use Rattle.fp_app_tails.specs.Answers.{at_scale, fits}
use Rattle.fp_app_tails.specs.Duties.{Duty, go_on, keep}
use Rattle.fp_app_tails.specs.Tails.{day_in, has_tail, kept_in, tells_day_in}
use Rattle.fp_app_words.specs.declared.orders.Order.TheVariants.{Check}
use Rattle.fp_app.specs.declared.shown.Status.{Status}
use Rattle.fp_app.specs.declared.shown.Status.TheVariants.{Done}
use Rattle.fp_app.specs.Causes.{InputStatus}
use Rattle.fp_app.specs.Inputs.{instance_at}
use Rattle.fp_app.specs.Searches.{Allowance, IsSearched}
use Rattle.fp_app.specs.Texts.{certificate_text}
use Rattle.fp_app.specs.Wanted.{LooksForAll, Wanted, from_plan, wanted_by}

-- `check` accepts what `plan` and `improve` print: where a search among all plans, whichever it began
-- with, shows a solution of the instance of an input, and the records of a longer input are those of
-- the first and after them those of the text of the solution's certificate, the status of `check` for
-- the longer input is that of an accepted one
abbrev pub CheckAcceptsPlans : Type 0
CheckAcceptsPlans =
    (allowed : Allowance) (wanted : Wanted) (scale : ℕ) (input longer : List ℕ) (p : Problem) (s : Solution) → LooksForAll wanted → instance_at scale input ≡ Ok p → IsSearched p wanted allowed s →
    records_of longer ≡ records_of input ++ records_of (certificate_text p s.certificate) → (result : Status) → InputStatus false Check longer result → result ≡ Done

-- the records of an input tell kept legs of an instance, at least one, or a day of it that is under way
abbrev pub IsTold : List ℕ → Problem → Duty → Type 0
IsTold input p (keep kept) = (has_tail (records_of input) ≡ true) × (tells_day_in input ≡ false) × (kept_in input ≡ Ok (record { instance = p; kept = kept }))
IsTold input p (go_on day) = (tells_day_in input ≡ true) × (day_in input ≡ Ok (record { instance = p; day = day }))

-- a search looks for the plans that what is told asks for, whichever it began with
abbrev pub LooksForTold : Problem → Duty → Wanted → Type 0
LooksForTold p duty wanted = (wanted ≡ wanted_by p duty) ⊎ ((plan : List (List Leg)) × (wanted ≡ from_plan (wanted_by p duty) plan))

-- `check` accepts what `replan` prints after the records that were handed to it, and what `improve` prints of an answer
-- that follows them: where a search of what is to be planned, at the instance's own scale or at another that fits
-- it, among the plans that keep the legs of an input or go on with its day, shows a solution, and the records of
-- a longer input are those of the first and after them those of the text of the solution's certificate, the status
-- of `check` for the longer input is that of an accepted one
abbrev pub CheckAcceptsReplans : Type 0
CheckAcceptsReplans =
    (allowed : Allowance) (wanted : Wanted) (scale : Option ℕ) (input longer : List ℕ) (p : Problem) (duty : Duty) (s : Solution) → IsTold input p duty → fits scale p ≡ true → LooksForTold (at_scale scale p) duty wanted →
    IsSearched (ahead_problem (at_scale scale p) duty) wanted allowed s → records_of longer ≡ records_of input ++ records_of (certificate_text (ahead_problem (at_scale scale p) duty) s.certificate) →
    (result : Status) → InputStatus false Check longer result → result ≡ Done
