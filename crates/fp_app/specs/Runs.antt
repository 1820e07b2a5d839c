-- What a run answers, and what it does to its source and its sink.
use Rattle.std.specs.Prelude.{◌≡◌, ℕ, ◌+◌, ◌≤◌, Bool, false, List, [], length, nat_lt, MatchBool, None, Some, IsSomeAnd, ⊤}
use Rattle.std.specs.declared.alloc.Global.{Global}
use Rattle.std.specs.declared.vec.Vec.{Vec}
use Rattle.std.specs.Io.KnownBytes.{Appends, Consumes, IsAtEnd}
use Rattle.std.specs.declared.option.Option.{Option}
use Rattle.fp_ends.specs.Moves.{AppendsFront, TellsInput}
use Rattle.fp_model.specs.Plans.{IsPlan, PlanExists}
use Rattle.fp_model.specs.Problem.{Problem}
use Rattle.fp_flatnet.specs.Directs.{IsDirectPlan}
use Rattle.fp_flatnet.specs.Verdicts.{IsBlocked}
use Rattle.fp_reader.specs.Generator.{generated}
use Rattle.fp_replan.specs.KeptWindows.{CanBeKept}
use Rattle.fp_replan.specs.Starts.{IsStuck}
use Rattle.fp_replan_present.specs.Plans.{IsStuckUnderway, UnderwayExists}
use Rattle.fp_replan_present.specs.Rests.{IsOpen, IsRest}
use Rattle.fp_app_tails.specs.declared.answers.Scale.TheVariants as asked
use Rattle.fp_app_tails.specs.Tails.{DayInstance, KeptInstance, tells_day_in}
use Rattle.fp_app_words.specs.declared.orders.Order.{Order}
use Rattle.fp_app_words.specs.declared.orders.Order.TheVariants as order
use Rattle.fp_app.specs.declared.shown.Shown.{Shown}
use Rattle.fp_app.specs.declared.shown.Shown.TheVariants as shown
use Rattle.fp_app.specs.declared.shown.Status.{Status}
use Rattle.fp_app.specs.declared.shown.Status.TheVariants as status
use Rattle.fp_app.specs.Bounds.{IsRootBound}
use Rattle.fp_app.specs.Checks.{IsCheckOutcome}
use Rattle.fp_app.specs.TailAnswers.{ShowsOfTail}
use Rattle.fp_app.specs.TailChecks.{ShowsAnswer}
use Rattle.fp_app.specs.Fleets.{ShowsFleet}
use Rattle.fp_app.specs.Improvements.{ShowsImprove}
use Rattle.fp_app.specs.Inputs.{OfCertificate, OfCertified, OfDay, OfInstance, OfScaled, has_tail_in, limit_of, reads_source, OfKept, OfNamed, OfQuoted}
use Rattle.fp_app.specs.NamedQuotes.{ShowsNamedQuote}
use Rattle.fp_app.specs.Quotes.{IsQuoted}
use Rattle.fp_app.specs.Yards.{ShowsYard}
use Rattle.fp_app.specs.Searches.{Allowance, IsSearched, trial_allowance, within}
use Rattle.fp_app.specs.Shown.{status_of}
use Rattle.fp_app.specs.Texts.{IsText}
use Rattle.fp_app.specs.Wanted.{every, going_on, keeping}

-- Each command: what it shows for an instance.

-- `direct`: the direct plan where a plan exists, and otherwise the first shipment that can't be
-- carried in time, with its fastest time.
abbrev pub ShowsDirect : Problem → Shown → Type 0
ShowsDirect p (shown.Direct instance plan) = (instance ≡ p) × IsPlan p 1 plan × IsDirectPlan p plan
ShowsDirect p (shown.Infeasible instance shipment time) = (instance ≡ p) × IsBlocked p shipment time × (PlanExists p → ⊥)
ShowsDirect p _ = ⊥

-- `bound`: where a plan exists, a number under which none costs, and otherwise the first shipment
-- that can't be carried in time, with its fastest time. Without the option no spans are used.
abbrev pub ShowsBound : Bool → Problem → Shown → Type 0
ShowsBound option p (shown.Bound instance price tables spans value) =
    (instance ≡ p) × PlanExists p × IsRootBound p price tables.items spans.items value × (option ≡ false → spans.items ≡ [])
ShowsBound option p (shown.Infeasible instance shipment time) = (instance ≡ p) × IsBlocked p shipment time × (PlanExists p → ⊥)
ShowsBound option p _ = ⊥

-- `plan`: where a plan exists, what a search with the budget shows, with the option of spans or without
-- it, and otherwise the first shipment that can't be carried in time, with its fastest time.
abbrev pub ShowsSearch : Allowance → Problem → Shown → Type 0
ShowsSearch allowed p (shown.Planned instance solved) = (instance ≡ p) × IsSearched p every allowed solved
ShowsSearch allowed p (shown.Infeasible instance shipment time) = (instance ≡ p) × IsBlocked p shipment time × (PlanExists p → ⊥)
ShowsSearch allowed p _ = ⊥

-- `trial`: what a search of the drawn instance shows, with a small budget and without spans, and that
-- its certificate is accepted by the check that `check` makes.
abbrev pub ShowsTrial : (seed terminals shipments : ℕ) → Shown → Type 0
ShowsTrial seed terminals shipments (shown.Trial shown_seed None instance solved) =
    (shown_seed ≡ seed) × (instance ≡ generated seed terminals shipments) × IsSearched (generated seed terminals shipments) every trial_allowance solved
    × IsCheckOutcome (generated seed terminals shipments) solved.certificate None
ShowsTrial seed terminals shipments _ = ⊥

-- `replan`: where a plan keeps the legs, what a search with the budget among those plans shows, with the
-- option of spans or without it, and otherwise the first shipment that no legs carry that begin with its
-- kept legs.
abbrev pub ShowsReplan : Allowance → KeptInstance → Shown → Type 0
ShowsReplan allowed x (shown.Replanned instance kept solved) =
    (x ≡ record { instance = instance; kept = kept.items }) × IsSearched instance (keeping kept.items) allowed solved
ShowsReplan allowed x (shown.Stuck instance shipment) = (instance ≡ x.instance) × IsStuck x.instance x.kept shipment × (CanBeKept x.instance x.kept → ⊥)
ShowsReplan allowed x _ = ⊥

-- `replan` of a day that is under way: where a plan goes on with it, what is left of it, and what a search
-- with the budget shows of that, with the option of spans or without it; and otherwise the first shipment
-- that no legs under way carry.
abbrev pub ShowsDay : Allowance → DayInstance → Shown → Type 0
ShowsDay allowed x (shown.Underway instance day rest solved) =
    (x ≡ record { instance = instance; day = day }) × IsOpen instance day × IsRest instance day rest × IsSearched rest.instance (going_on instance day) allowed solved
ShowsDay allowed x (shown.Stuck instance shipment) = (instance ≡ x.instance) × IsStuckUnderway x.instance x.day shipment × (UnderwayExists x.instance x.day → ⊥)
ShowsDay allowed x _ = ⊥

-- the one or the other, by whether the records after the instance tell a day
abbrev pub ShowsTail : Allowance → List ℕ → Shown → Type 0
ShowsTail allowed input result =
    MatchBool (tells_day_in input) (OfDay input result (λ x. ShowsDay allowed x result)) (OfKept input result (λ x. ShowsReplan allowed x result))

-- `quote`: where a plan exists, what searches without the last shipment and with it show, both with the
-- option of spans or both without it, and otherwise the first shipment that can't be carried in time,
-- with its fastest time.
abbrev pub ShowsQuote : Allowance → Problem → Shown → Type 0
ShowsQuote allowed p (shown.Quoted instance before after) = (instance ≡ p) × IsQuoted p allowed before after
ShowsQuote allowed p (shown.Infeasible instance shipment time) = (instance ≡ p) × IsBlocked p shipment time × (PlanExists p → ⊥)
ShowsQuote allowed p _ = ⊥

-- `yard`, `fleet` and `improve`: of the plan that a certificate tells of an instance alone, or that an answer tells after
-- kept legs or a day that is under way.
abbrev pub ShowsYardOf : ℕ → List ℕ → Shown → Type 0
ShowsYardOf seed input result =
    MatchBool (has_tail_in input) (ShowsOfTail asked.Usual input result (λ p wanted c. ShowsYard seed p wanted c result)) (OfCertificate input result (λ p c. ShowsYard seed p every c result))

abbrev pub ShowsFleetOf : (trucks : Bool) → List ℕ → Shown → Type 0
ShowsFleetOf trucks input result =
    MatchBool (has_tail_in input) (ShowsOfTail asked.Usual input result (λ p wanted c. ShowsFleet trucks p wanted c result)) (OfCertificate input result (λ p c. ShowsFleet trucks p every c result))

abbrev pub ShowsImproveOf : Allowance → ℕ → List ℕ → Shown → Type 0
ShowsImproveOf allowed n input result =
    MatchBool (has_tail_in input) (ShowsOfTail (asked.Of n) input result (λ p wanted c. ShowsImprove allowed p wanted c result))
    (OfCertified n input result (λ x. ShowsImprove allowed x.instance every x.certificate result))

-- The whole input was read and P holds of it, or more than the limit came.
abbrev pub OfInput : ℕ → Option (List ℕ) → Option (List ℕ) → Shown → (List ℕ → Type 0) → Type 0
OfInput limit old new result P =
    (input : List ℕ) × TellsInput old input
    × MatchBool (nat_lt limit (length input)) (result ≡ shown.TooLong) (IsAtEnd new × P input)

-- The whole input was read, or `None` where more than the limit came.
abbrev pub Takes : ℕ → Option (List ℕ) → Option (List ℕ) → Option (Vec ℕ Global) → Type 0
Takes limit old new result =
    (input : List ℕ) × TellsInput old input
    × MatchBool (nat_lt limit (length input)) (result ≡ None) (IsAtEnd new × IsSomeAnd result (λ bytes. bytes.items ≡ input))

-- No more bytes were taken than the limit.
abbrev pub TakesWithin : ℕ → Option (List ℕ) → Option (List ℕ) → Type 0
TakesWithin limit old new = (taken : List ℕ) × Consumes old new taken × (length taken ≤ limit)

-- One byte more than the limit was taken.
abbrev pub TakesOneMore : ℕ → Option (List ℕ) → Option (List ℕ) → Type 0
TakesOneMore limit old new = (taken : List ℕ) × Consumes old new taken × (length taken ≡ limit + 1)

-- What an order shows for the whole input, where its time is known to be over or not. One line for each command.
abbrev pub ShowsInput : (over : Bool) → Order → List ℕ → Shown → Type 0
ShowsInput over order.Direct input result = OfInstance input result (λ p. ShowsDirect p result)
ShowsInput over order.Check input result = ShowsAnswer input result
ShowsInput over (order.Bound option seconds) input result = OfInstance input result (λ p. ShowsBound option p result)
ShowsInput over (order.Plan budget scale spans seconds notes) input result = OfScaled scale input result (λ p. ShowsSearch (within budget over spans) p result)
ShowsInput over (order.Improve budget n spans seconds notes) input result = ShowsImproveOf (within budget over spans) n input result
ShowsInput over (order.Trial seed terminals shipments) input result = ⊥
ShowsInput over (order.Yard seed) input result = ShowsYardOf seed input result
ShowsInput over (order.Fleet trucks) input result = ShowsFleetOf trucks input result
ShowsInput over (order.Replan budget spans seconds notes) input result = ShowsTail (within budget over spans) input result
ShowsInput over (order.Quote budget spans seconds notes None) input result = OfQuoted input result (λ p. ShowsQuote (within budget over spans) p result)
ShowsInput over (order.Quote budget spans seconds notes (Some name)) input result = OfNamed name input result (λ p. ShowsNamedQuote (within budget over spans) name p result)

-- What an order shows that reads no input.
abbrev pub ShowsAlone : Order → Shown → Type 0
ShowsAlone (order.Trial seed terminals shipments) result = ShowsTrial seed terminals shipments result
ShowsAlone _ result = ⊥

-- what an order shows, where its time is known to be over or not, by what the source had left and has left now
abbrev pub Answers : (over : Bool) → Option Order → Option (List ℕ) → Option (List ℕ) → Shown → Type 0
Answers over None old new result = result ≡ shown.BadWords
Answers over (Some order) old new result =
    MatchBool (reads_source order) (OfInput (limit_of (Some order)) old new result (λ input. ShowsInput over order input result)) (ShowsAlone order result)

-- Words of no form leave the source alone, and so does an order that reads no input.
abbrev pub Leaves : {S : Type 0} → Option Order → S → S → Type 0
Leaves None old new = new ≡ old
Leaves (Some order) old new = MatchBool (reads_source order) ⊤ (new ≡ old)

-- How far a run came: before its text, through a part of it, or through all.
pub data Reach : Type 0 where
  before : Reach
  cut : Reach
  whole : Reach

-- how far a run of a status came
abbrev pub reach_of : Status → Reach
reach_of status.ReadFault = before
reach_of status.NoMemory = before
reach_of status.WriteFault = cut
reach_of _ = whole

-- What is shown is an answer, and the status is its own.
abbrev pub Settles : Reach → Status → Shown → Type 0 → Type 0
Settles before status result P = result ≡ shown.Nothing
Settles cut status result P = P
Settles whole status result P = (status ≡ status_of result) × P

-- The sink took nothing, a front of the text, or the text.
abbrev pub Writes : {K : Type 0} → (K → Option (List ℕ)) → Reach → K → K → Shown → Type 0
Writes taken before old new result = new ≡ old
Writes taken cut old new result = (text : List ℕ) × IsText result text × AppendsFront (taken old) (taken new) text
Writes taken whole old new result = (text : List ℕ) × IsText result text × Appends (taken old) (taken new) text
