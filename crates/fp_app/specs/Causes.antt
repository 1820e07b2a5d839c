-- When each status comes, by the words and the whole input.
use Rattle.std.specs.Prelude.{◌≡◌, ◌⊎◌, ◌-◌, ℕ, Bool, false, List, [], length, nat_lt, MatchBool, MatchResult, Option, Some, None, Ok, Result}
use Rattle.std.specs.declared.alloc.Global.{Global}
use Rattle.std.specs.declared.vec.Vec.{Vec}
use Rattle.fp_model.specs.declared.parts.Leg.{Leg}
use Rattle.fp_model.specs.Plans.{IsPlan, NoPlanCheaper, PlanExists}
use Rattle.fp_model.specs.Problem.{Problem}
use Rattle.fp_records_fields.specs.Faults.{Fault}
use Rattle.fp_reader.specs.Generator.{generated}
use Rattle.fp_flatnet.specs.Directs.{IsDirectPlan}
use Rattle.fp_flatnet.specs.Verdicts.{IsBlocked}
use Rattle.fp_certificate_lines.specs.declared.certificates.Answer.TheVariants as answer
use Rattle.fp_certificate_lines.specs.declared.certificates.Spent.{Spent}
use Rattle.fp_certificate_lines.specs.Statements.{Statement}
use Rattle.fp_session_history.specs.Solutions.{Solution}
use Rattle.fp_prices.specs.declared.leaf_prices.LeafPrice.{LeafPrice}
use Rattle.fp_prices.specs.Shares.{ClassShare}
use Rattle.fp_prices_spans.specs.Spans.{ClassSpan}
use Rattle.fp_app.specs.declared.shown.AnswerKind.{AnswerKind}
use Rattle.fp_app_words.specs.declared.orders.Order.{Order}
use Rattle.fp_app_words.specs.declared.orders.Order.TheVariants as order
use Rattle.fp_app.specs.declared.shown.Shown.{Shown}
use Rattle.fp_app.specs.declared.shown.Shown.TheVariants as shown
use Rattle.fp_app.specs.declared.shown.Status.{Status}
use Rattle.fp_app.specs.declared.shown.Status.TheVariants as status
use Rattle.fp_app.specs.Bounds.{IsRootBound}
use Rattle.fp_app.specs.Checks.{IsAcceptedFor, ShowsAccepted, ShowsRejected}
use Rattle.fp_app.specs.TailAnswers.{EndsOfTail, GivesOfTail, RejectsTail}
use Rattle.fp_app.specs.TailChecks.{SaidStatus, ShowsSaidNo, ShowsSaidYes}
use Rattle.fp_app.specs.DayCauses.{ShowsDayOptimal, ShowsDayStuck, ShowsDayUnfinished}
use Rattle.fp_app.specs.Fleets.{IsShownRoster}
use Rattle.fp_app.specs.Yards.{IsShownRun}
use Rattle.fp_app.specs.Plans.{ShowsUntold, TellsTimetable}
use Rattle.fp_app.specs.Improvements.{IsOpenImprovement, IsOptimalImprovement}
use Rattle.fp_app.specs.Inputs.{CertifiedInstance, certificate_in, certified_at, fault_in, given_to, has_tail_in, instance_at, instance_in, leading_instance_in, limit_of, named_in, reads_source, quoted_in}
use Rattle.fp_replan_present.specs.Rests.{left_problem}
use Rattle.fp_app_tails.specs.declared.answers.Scale.TheVariants as asked
use Rattle.fp_app_tails.specs.Verdicts.{NoKeptPlanCheaper, scaled}
use Rattle.fp_app_tails.specs.Tails.{DayInstance, KeptInstance, day_in, kept_in, tells_day_in}
use Rattle.fp_app.specs.NamedCauses.{NamedStatus, ShowsNamedExact, ShowsNamedOpen}
use Rattle.fp_app.specs.Quotes.{IsQuoted, IsUnfinished}
use Rattle.fp_app.specs.Wanted.{Wanted, WantedExists, every, going_on, keeping}
use Rattle.fp_replan.specs.declared.kept.Kept.{Kept}
use Rattle.fp_replan.specs.KeptWindows.{CanBeKept}
use Rattle.fp_replan.specs.Quotes.{IsExtraCost, without_last}
use Rattle.fp_replan.specs.Starts.{IsStuck}
use Rattle.fp_app.specs.Searches.{Allowance, IsBoundBelow, IsEnough, IsSearched, trial_allowance, within}

-- The input gives an instance, and what is shown is its direct plan.
pub record ShowsPlan (input : List ℕ) (result : Shown) : Type 0 where
  pub instance : Problem
  pub routes : List (List Leg)
  pub read : instance_in input ≡ Ok instance
  pub shows : result ≡ shown.Direct instance routes
  pub plan : IsPlan instance 1 routes
  pub direct : IsDirectPlan instance routes

-- The input gives an instance, of which a plan exists, and what is shown is a number under which no
-- plan costs. Without the option no spans are used.
pub record ShowsNumber (option : Bool) (input : List ℕ) (result : Shown) : Type 0 where
  pub instance : Problem
  pub price : LeafPrice
  pub tables : Vec (List ClassShare) Global
  pub spans : Vec ClassSpan Global
  pub value : ℕ
  pub read : instance_in input ≡ Ok instance
  pub shows : result ≡ shown.Bound instance price tables spans value
  pub exists : PlanExists instance
  pub bound : IsRootBound instance price tables.items spans.items value
  pub without : option ≡ false → spans.items ≡ []

-- There is an instance, of which a plan exists, and what is shown is what a search with a budget, and
-- with the option of spans or without it, shows of it.
pub record ShowsSolution (allowed : Allowance) (given : Result Problem Fault) (show : Problem → Solution → Shown) (result : Shown) : Type 0 where
  pub instance : Problem
  pub solved : Solution
  pub read : given ≡ Ok instance
  pub shows : result ≡ show instance solved
  pub searched : IsSearched instance every allowed solved

-- What is shown is optimal: no plan is cheaper, over any denominator.
pub record ShowsOptimal (allowed : Allowance) (given : Result Problem Fault) (show : Problem → Solution → Shown) (result : Shown) : Type 0 where
  pub solution : ShowsSolution allowed given show result
  pub cost : ℕ
  pub answer : solution.solved.certificate.answer ≡ answer.Optimal cost
  pub plans : NoPlanCheaper solution.instance cost

-- What is shown is unfinished: no plan costs less than its bound, over any denominator, and it tells
-- what was spent.
pub record ShowsUnfinished (allowed : Allowance) (given : Result Problem Fault) (show : Problem → Solution → Shown) (result : Shown) : Type 0 where
  pub solution : ShowsSolution allowed given show result
  pub cost : ℕ
  pub bound : ℕ
  pub spent : Spent
  pub answer : solution.solved.certificate.answer ≡ answer.Unfinished cost bound spent
  pub bounds : IsBoundBelow solution.instance every allowed cost bound spent

-- The input gives an instance at a scale and a certificate, of which something holds among all plans.
pub record GivesCertified (scale : ℕ) (input : List ℕ) (P : Problem → Wanted → Statement → Type 0) : Type 0 where
  pub instance : Problem
  pub certificate : Statement
  pub read : certified_at scale input ≡ Ok (record { instance = instance; certificate = certificate })
  pub holds : P instance every certificate

-- The input gives an instance and legs that are kept, which some plan keeps, and what is shown is what
-- such a search shows among the plans that keep them.
pub record ShowsKept (allowed : Allowance) (input : List ℕ) (result : Shown) : Type 0 where
  pub instance : Problem
  pub kept : Vec Kept Global
  pub solved : Solution
  pub read : kept_in input ≡ Ok (record { instance = instance; kept = kept.items })
  pub shows : result ≡ shown.Replanned instance kept solved
  pub searched : IsSearched instance (keeping kept.items) allowed solved

-- What is shown is optimal: no plan that keeps the legs is cheaper, over any denominator.
pub record ShowsKeptOptimal (allowed : Allowance) (input : List ℕ) (result : Shown) : Type 0 where
  pub solution : ShowsKept allowed input result
  pub cost : ℕ
  pub answer : solution.solved.certificate.answer ≡ answer.Optimal cost
  pub plans : NoKeptPlanCheaper solution.instance solution.kept.items cost

-- What is shown is unfinished: no plan that keeps the legs costs less than its bound, over any
-- denominator, and it tells what was spent.
pub record ShowsKeptUnfinished (allowed : Allowance) (input : List ℕ) (result : Shown) : Type 0 where
  pub solution : ShowsKept allowed input result
  pub cost : ℕ
  pub bound : ℕ
  pub spent : Spent
  pub answer : solution.solved.certificate.answer ≡ answer.Unfinished cost bound spent
  pub bounds : IsBoundBelow solution.instance (keeping solution.kept.items) allowed cost bound spent

-- The input gives an instance and legs that no plan keeps, over any denominator, and what is shown is
-- the first shipment that no legs carry that begin with its kept legs.
pub record ShowsStuck (input : List ℕ) (result : Shown) : Type 0 where
  pub instance : Problem
  pub kept : List Kept
  pub shipment : ℕ
  pub read : kept_in input ≡ Ok (record { instance = instance; kept = kept })
  pub shows : result ≡ shown.Stuck instance shipment
  pub stuck : IsStuck instance kept shipment
  pub none : CanBeKept instance kept → ⊥

-- The input gives an instance with a shipment, of which a plan exists, and what is shown is what its
-- last shipment adds to the cost, by such a search without it and one with it.
pub record ShowsExtra (allowed : Allowance) (input : List ℕ) (result : Shown) : Type 0 where
  pub instance : Problem
  pub before : Solution
  pub after : Solution
  pub read : quoted_in input ≡ Ok instance
  pub shows : result ≡ shown.Quoted instance before after
  pub quoted : IsQuoted instance allowed before after

-- Both searches are optimal, and what the shipment adds is exact.
pub record ShowsExactExtra (allowed : Allowance) (input : List ℕ) (result : Shown) : Type 0 where
  pub extra : ShowsExtra allowed input result
  pub least : ℕ
  pub most : ℕ
  pub without : extra.before.certificate.answer ≡ answer.Optimal least
  pub with_it : extra.after.certificate.answer ≡ answer.Optimal most
  pub exact : IsExtraCost extra.instance (most - least)

-- One of the two searches is unfinished.
pub record ShowsOpenExtra (allowed : Allowance) (input : List ℕ) (result : Shown) : Type 0 where
  pub extra : ShowsExtra allowed input result
  pub one_unfinished : IsUnfinished (without_last extra.instance) allowed extra.before ⊎ IsUnfinished extra.instance allowed extra.after

-- The input gives an instance of which no plan exists over any denominator, and what is shown is
-- the first shipment that can't be carried in time, with its fastest time.
pub record ShowsNone (order : Order) (input : List ℕ) (result : Shown) : Type 0 where
  pub instance : Problem
  pub shipment : ℕ
  pub time : Option ℕ
  pub read : given_to order input ≡ Ok instance
  pub shows : result ≡ shown.Infeasible instance shipment time
  pub blocked : IsBlocked instance shipment time
  pub none : PlanExists instance → ⊥

-- The input gives an instance and a certificate, which is accepted for the instance at the
-- certificate's scale. So what the certificate claims of all plans, over every denominator, is
-- true.
pub record ShowsYes (input : List ℕ) (result : Shown) : Type 0 where
  pub instance : Problem
  pub certificate : Statement
  pub kind : AnswerKind
  pub read : leading_instance_in input ≡ Ok instance
  pub certified : certificate_in instance input ≡ Ok certificate
  pub shows : result ≡ shown.Accepted kind
  pub accepted : ShowsAccepted (scaled instance certificate) certificate kind

-- The input gives an instance and a certificate, which is rejected, and what is shown is the first
-- part that fails.
pub record ShowsNo (Rejects : Problem → Statement → ℕ → Type 0) (input : List ℕ) (result : Shown) : Type 0 where
  pub instance : Problem
  pub certificate : Statement
  pub number : ℕ
  pub read : leading_instance_in input ≡ Ok instance
  pub certified : certificate_in instance input ≡ Ok certificate
  pub shows : result ≡ shown.RejectedPart number
  pub rejected : Rejects instance certificate number

-- The input gives an instance and a certificate, of which something holds among all plans.
pub record GivesPlan (input : List ℕ) (P : Problem → Wanted → Statement → Type 0) : Type 0 where
  pub instance : Problem
  pub certificate : Statement
  pub read : leading_instance_in input ≡ Ok instance
  pub certified : certificate_in instance input ≡ Ok certificate
  pub holds : P instance every certificate

-- The records of the input have a fault for the order, and what is shown is the first.
pub record ShowsFault (wanted : Option Order) (input : List ℕ) (result : Shown) : Type 0 where
  pub fault : Fault
  pub first : fault_in wanted input ≡ Some fault
  pub shows : result ≡ shown.BadInput fault.ordinal fault.code

-- what is shown where an order is done: a direct plan, that a certificate is accepted, a number
-- under which no plan costs, a plan than which none is cheaper, or a plan that is run, or its fewest trucks
abbrev pub ShowsDone : (over : Bool) → Option Order → List ℕ → Shown → Type 0
ShowsDone over None input result = ⊥
ShowsDone over (Some order.Direct) input result = ShowsPlan input result
ShowsDone over (Some order.Check) input result = MatchBool (has_tail_in input) (ShowsSaidYes input result) (ShowsYes input result)
ShowsDone over (Some (order.Bound option seconds)) input result = ShowsNumber option input result
ShowsDone over (Some (order.Plan budget scale spans seconds notes)) input result = ShowsOptimal (within budget over spans) (instance_at scale input) shown.Planned result
ShowsDone over (Some (order.Improve budget n spans seconds notes)) input result =
    MatchBool (has_tail_in input) (GivesOfTail (asked.Of n) input (λ p wanted c. IsOptimalImprovement (within budget over spans) p wanted c result)) (GivesCertified n input (λ p wanted c. IsOptimalImprovement (within budget over spans) p wanted c result))
ShowsDone over (Some (order.Trial seed terminals shipments)) input result = ShowsOptimal trial_allowance (Ok (generated seed terminals shipments)) (shown.Trial seed None) result
ShowsDone over (Some (order.Yard seed)) input result =
    MatchBool (has_tail_in input) (GivesOfTail asked.Usual input (λ p wanted c. IsShownRun seed p wanted c result)) (GivesPlan input (λ p wanted c. IsShownRun seed p wanted c result))
ShowsDone over (Some (order.Fleet trucks)) input result =
    MatchBool (has_tail_in input) (GivesOfTail asked.Usual input (λ p wanted c. IsShownRoster trucks p wanted c result)) (GivesPlan input (λ p wanted c. IsShownRoster trucks p wanted c result))
ShowsDone over (Some (order.Replan budget spans seconds notes)) input result =
    MatchBool (tells_day_in input) (ShowsDayOptimal (within budget over spans) input result) (ShowsKeptOptimal (within budget over spans) input result)
ShowsDone over (Some (order.Quote budget spans seconds notes None)) input result = ShowsExactExtra (within budget over spans) input result
ShowsDone over (Some (order.Quote budget spans seconds notes (Some name))) input result = ShowsNamedExact (within budget over spans) name input result

-- what is shown where an order is unfinished
abbrev pub ShowsOpen : (over : Bool) → Option Order → List ℕ → Shown → Type 0
ShowsOpen over (Some (order.Plan budget scale spans seconds notes)) input result = ShowsUnfinished (within budget over spans) (instance_at scale input) shown.Planned result
ShowsOpen over (Some (order.Improve budget n spans seconds notes)) input result =
    MatchBool (has_tail_in input) (GivesOfTail (asked.Of n) input (λ p wanted c. IsOpenImprovement (within budget over spans) p wanted c result)) (GivesCertified n input (λ p wanted c. IsOpenImprovement (within budget over spans) p wanted c result))
ShowsOpen over (Some (order.Trial seed terminals shipments)) input result = ShowsUnfinished trial_allowance (Ok (generated seed terminals shipments)) (shown.Trial seed None) result
ShowsOpen over (Some (order.Replan budget spans seconds notes)) input result =
    MatchBool (tells_day_in input) (ShowsDayUnfinished (within budget over spans) input result) (ShowsKeptUnfinished (within budget over spans) input result)
ShowsOpen over (Some (order.Quote budget spans seconds notes None)) input result = ShowsOpenExtra (within budget over spans) input result
ShowsOpen over (Some (order.Quote budget spans seconds notes (Some name))) input result = ShowsNamedOpen (within budget over spans) name input result
ShowsOpen over _ input result = ⊥

-- what is shown where no plan exists, or none that keeps the legs
abbrev pub ShowsInfeasible : Option Order → List ℕ → Shown → Type 0
ShowsInfeasible None input result = ⊥
ShowsInfeasible (Some (order.Improve budget scale spans seconds notes)) input result = ⊥
ShowsInfeasible (Some (order.Replan budget spans seconds notes)) input result = MatchBool (tells_day_in input) (ShowsDayStuck input result) (ShowsStuck input result)
ShowsInfeasible (Some order) input result = ShowsNone order input result

-- what is shown where an answer is rejected: for `check` it isn't accepted for the instance at the
-- certificate's scale, and for `yard`, `fleet` and `improve` it tells no plan, for `improve` of the
-- instance at the scale of the words
abbrev pub ShowsRejection : Option Order → List ℕ → Shown → Type 0
ShowsRejection (Some order.Check) input result = MatchBool (has_tail_in input) (ShowsSaidNo input result) (ShowsNo (λ p c number. ShowsRejected (scaled p c) c number) input result)
ShowsRejection (Some (order.Yard seed)) input result = MatchBool (has_tail_in input) (RejectsTail asked.Usual input result) (ShowsNo (λ p c number. ShowsUntold p every c number) input result)
ShowsRejection (Some (order.Fleet trucks)) input result = MatchBool (has_tail_in input) (RejectsTail asked.Usual input result) (ShowsNo (λ p c number. ShowsUntold p every c number) input result)
ShowsRejection (Some (order.Improve budget n spans seconds notes)) input result =
    MatchBool (has_tail_in input) (RejectsTail (asked.Of n) input result) (ShowsNo (λ p c number. ShowsUntold (record p { scale = n }) every c number) input result)
ShowsRejection _ input result = ⊥

-- the status of an order that asks for plans of an instance: done where a plan exists, and
-- infeasible where none does
abbrev pub PlanStatus : Problem → Status → Type 0
PlanStatus p result = ((result ≡ status.Done) × PlanExists p) ⊎ ((result ≡ status.Infeasible) × (PlanExists p → ⊥))

-- the status of `plan` and `replan` with a budget: done or unfinished where a wanted plan exists, and
-- infeasible where none does. Where both the rounds and the branches are enough, it isn't unfinished.
abbrev pub SearchStatus : Problem → Wanted → Allowance → Status → Type 0
SearchStatus p wanted allowed result =
    ((result ≡ status.Done) × WantedExists p wanted)
    ⊎ (((result ≡ status.Unfinished) × WantedExists p wanted × ((spent : Spent) × (IsEnough p wanted allowed spent → ⊥)))
    ⊎ ((result ≡ status.Infeasible) × (WantedExists p wanted → ⊥)))

-- the status of `quote` with a budget: done or unfinished where a plan exists, and infeasible where
-- none does. Where the rounds and the branches are enough without the last shipment and with it, it
-- isn't unfinished.
abbrev pub QuoteStatus : Problem → Allowance → Status → Type 0
QuoteStatus p allowed result =
    ((result ≡ status.Done) × PlanExists p)
    ⊎ (((result ≡ status.Unfinished) × PlanExists p × ((spent : Spent) × ((IsEnough (without_last p) every allowed spent × IsEnough p every allowed spent) → ⊥)))
    ⊎ ((result ≡ status.Infeasible) × (PlanExists p → ⊥)))

-- the status of `trial`: done, or unfinished, and that only where the rounds or the branches aren't
-- enough. Each drawn instance has a plan.
abbrev pub TrialStatus : Problem → Status → Type 0
TrialStatus p result = (result ≡ status.Done) ⊎ ((result ≡ status.Unfinished) × ((spent : Spent) × (IsEnough p every trial_allowance spent → ⊥)))

-- the status of `check` for an instance and a certificate: done where it is accepted, and rejected
-- where it isn't
abbrev pub CheckStatus : Problem → Statement → Status → Type 0
CheckStatus p c result = ((result ≡ status.Done) × IsAcceptedFor p c) ⊎ ((result ≡ status.Rejected) × (IsAcceptedFor p c → ⊥))

-- the status of an order about the plan that a certificate tells, under the windows of the wanted plans: done
-- where it tells one, and rejected where it tells none
abbrev pub ToldStatus : Problem → Wanted → Statement → Status → Type 0
ToldStatus p wanted c result = ((result ≡ status.Done) × TellsTimetable p wanted c) ⊎ ((result ≡ status.Rejected) × (TellsTimetable p wanted c → ⊥))

-- the status of `improve` with a budget for an instance and a certificate: done or unfinished where it
-- tells a plan, and rejected where it tells none. Where both the rounds and the branches are enough, it
-- isn't unfinished.
abbrev pub ImproveStatus : Allowance → Problem → Wanted → Statement → Status → Type 0
ImproveStatus allowed p wanted c result =
    ((result ≡ status.Done) × TellsTimetable p wanted c)
    ⊎ (((result ≡ status.Unfinished) × TellsTimetable p wanted c × ((spent : Spent) × (IsEnough p wanted allowed spent → ⊥)))
    ⊎ ((result ≡ status.Rejected) × (TellsTimetable p wanted c → ⊥)))

-- the one status of an order for an input within its limit
abbrev pub InputStatus : (over : Bool) → Order → List ℕ → Status → Type 0
InputStatus over order.Direct input result = MatchResult (instance_in input) (λ p. PlanStatus p result) (λ f. result ≡ status.BadInput)
InputStatus over order.Check input result =
    MatchBool (has_tail_in input) (SaidStatus input result)
    (MatchResult (leading_instance_in input)
    (λ p. MatchResult (certificate_in p input) (λ c. CheckStatus (scaled p c) c result) (λ f. result ≡ status.BadInput))
    (λ f. result ≡ status.BadInput))
InputStatus over (order.Bound option seconds) input result = MatchResult (instance_in input) (λ p. PlanStatus p result) (λ f. result ≡ status.BadInput)
InputStatus over (order.Plan budget scale spans seconds notes) input result = MatchResult (instance_at scale input) (λ p. SearchStatus p every (within budget over spans) result) (λ f. result ≡ status.BadInput)
InputStatus over (order.Improve budget n spans seconds notes) input result =
    MatchBool (has_tail_in input) (EndsOfTail (asked.Of n) input result (λ p wanted c. ImproveStatus (within budget over spans) p wanted c result))
    (MatchResult (certified_at n input) (λ (x : CertifiedInstance). ImproveStatus (within budget over spans) x.instance every x.certificate result) (λ f. result ≡ status.BadInput))
InputStatus over (order.Trial seed terminals shipments) input result = ⊥
InputStatus over (order.Yard seed) input result =
    MatchBool (has_tail_in input) (EndsOfTail asked.Usual input result (λ p wanted c. ToldStatus p wanted c result))
    (MatchResult (leading_instance_in input)
    (λ p. MatchResult (certificate_in p input) (λ c. ToldStatus p every c result) (λ f. result ≡ status.BadInput))
    (λ f. result ≡ status.BadInput))
InputStatus over (order.Fleet trucks) input result =
    MatchBool (has_tail_in input) (EndsOfTail asked.Usual input result (λ p wanted c. ToldStatus p wanted c result))
    (MatchResult (leading_instance_in input)
    (λ p. MatchResult (certificate_in p input) (λ c. ToldStatus p every c result) (λ f. result ≡ status.BadInput))
    (λ f. result ≡ status.BadInput))
InputStatus over (order.Replan budget spans seconds notes) input result =
    MatchBool (tells_day_in input)
    (MatchResult (day_in input) (λ (x : DayInstance). SearchStatus (left_problem x.instance x.day) (going_on x.instance x.day) (within budget over spans) result) (λ f. result ≡ status.BadInput))
    (MatchResult (kept_in input) (λ (x : KeptInstance). SearchStatus x.instance (keeping x.kept) (within budget over spans) result) (λ f. result ≡ status.BadInput))
InputStatus over (order.Quote budget spans seconds notes None) input result = MatchResult (quoted_in input) (λ p. QuoteStatus p (within budget over spans) result) (λ f. result ≡ status.BadInput)
InputStatus over (order.Quote budget spans seconds notes (Some name)) input result = MatchResult (named_in name input) (λ p. NamedStatus name p (within budget over spans) result) (λ f. result ≡ status.BadInput)

-- the one status of an order that reads no input
abbrev pub AloneStatus : Order → Status → Type 0
AloneStatus (order.Trial seed terminals shipments) result = TrialStatus (generated seed terminals shipments) result
AloneStatus _ result = ⊥

-- the one status that a run with memory and without a fault of its source and its sink has
abbrev pub StatusOf : (over : Bool) → Option Order → List ℕ → Status → Type 0
StatusOf over None input result = result ≡ status.BadWords
StatusOf over (Some order) input result =
    MatchBool (reads_source order)
    (MatchBool (nat_lt (limit_of (Some order)) (length input)) (result ≡ status.TooLong) (InputStatus over order input result))
    (AloneStatus order result)
