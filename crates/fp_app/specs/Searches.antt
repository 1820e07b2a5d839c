-- What a search shows of an instance of which there is a plan that it looks for.
-- The problem and its network: Boland, Hewitt, Marshall and Savelsbergh, "The Continuous-Time
-- Service Network Design Problem", Operations Research 65, 2017.
use Rattle.std.specs.Prelude.{ℕ, ◌+◌, ◌*◌, ◌^◌, ◌<◌, ◌≤◌, ◌≡◌, Bool, true, false, List, [], All, IsSomeAnd, length, None}
use Rattle.fp_model.specs.declared.parts.Leg.{Leg}
use Rattle.fp_model.specs.Costs.{cost}
use Rattle.fp_model.specs.Problem.{Problem, horizon}
use Rattle.fp_timenodes.specs.declared.places.AddedPoint.{AddedPoint}
use Rattle.fp_flatnet.specs.Tables.{WindowTable, windows_in}
use Rattle.fp_records.specs.Text.{lines_of}
use Rattle.fp_allowed.specs.Slack.{slack}
use Rattle.fp_prices.specs.FlatBounds.{IsFlatBound}
use Rattle.fp_certificate_lines.specs.declared.certificates.Answer.{Answer}
use Rattle.fp_certificate_lines.specs.declared.certificates.Answer.TheVariants.{Optimal, Unfinished}
use Rattle.fp_certificate_lines.specs.declared.certificates.Spent.{Spent}
use Rattle.fp_certificate_lines.specs.declared.certificates.Spent.TheVariants.{Branches, Rounds, Time}
use Rattle.fp_certificate_lines.specs.Rows.{rows_of}
use Rattle.fp_certificate_lines.specs.Statements.{Statement}
use Rattle.fp_certificate_rules.specs.Accepted.{IsAccepted}
use Rattle.fp_certificate_rules.specs.Plans.{HasTimetable, routes_of}
use Rattle.fp_certificate_rules.specs.Units.{IsGreatestUnit}
use Rattle.fp_certificate.specs.Readable.{ReadsBack}
use Rattle.fp_session_history.specs.declared.budgets.Budget.{Budget}
use Rattle.fp_session_history.specs.Divisions.{truck_slack}
use Rattle.fp_session_history.specs.Solutions.{IsEarnedSolution, Solution}
use Rattle.fp_session.specs.Certificates.{IsPricedBy, named_scale}
use Rattle.fp_app.specs.Bounds.{whole_units}
use Rattle.fp_app.specs.declared.limits.TheConstants.{CHECK_LIMIT, INSTANCE_LIMIT}
use Rattle.fp_app.specs.Wanted.{AreWindowsFor, IsFirstPlan, IsWanted, NoneWantedCheaper, Wanted}

-- what a search may spend: its budget, and whether its time is known to be over; and whether it seeks spans
pub record Allowance : Type 0 where
  pub budget : Budget
  pub over : Bool
  pub spans : Bool

abbrev pub within : Budget → (over spans : Bool) → Allowance
within budget over spans = record { budget = budget; over = over; spans = spans }

-- how often the leaves of a search can be divided: the slack and, where spans are sought, the slack of trucks
-- besides, which counts on each arc the trucks of the shipments that each go there alone
abbrev pub branch_slack : Problem → WindowTable → (spans : Bool) → ℕ
branch_slack p table false = slack p (windows_in table) []
branch_slack p table true = slack p (windows_in table) [] + truck_slack p []

-- what a search of the instance can't use up: as many rounds as the terminals times one more than the
-- latest due time, as many branches as 2 to the power of how often leaves can be divided, or a time that is
-- not known to be over
abbrev pub IsEnough : Problem → Wanted → Allowance → Spent → Type 0
IsEnough p wanted allowed Rounds = length p.terminals * (horizon p.shipments + 1) ≤ allowed.budget.rounds
IsEnough p wanted allowed Branches = (table : WindowTable) × AreWindowsFor p wanted table × (2 ^ branch_slack p table allowed.spans ≤ allowed.budget.branches)
IsEnough p wanted allowed Time = allowed.over ≡ false

-- what a trial may spend: 40 rounds and 100 branches, in any time; it seeks no spans
abbrev pub trial_allowance : Allowance
trial_allowance = within (record { rounds = 40; branches = 100 }) false false

-- A number under which no wanted plan costs, over any denominator. It is below the cost of the plan that is
-- shown, and at least the flat bound in whole units; what was spent was not enough.
pub record IsBoundBelow (p : Problem) (wanted : Wanted) (allowed : Allowance) (cost bound : ℕ) (spent : Spent) : Type 0 where
  pub plans : NoneWantedCheaper p wanted bound
  pub below : bound < cost
  pub flat : (flat : ℕ) → IsFlatBound p flat → whole_units p flat ≤ bound
  pub scarce : IsEnough p wanted allowed spent → ⊥

-- what the answer of a search says of the wanted plans, over every denominator: none is cheaper, or none
-- costs less than a bound
abbrev pub SaysOfPlans : Problem → Wanted → Allowance → Answer → Type 0
SaysOfPlans p wanted allowed (Optimal cost) = NoneWantedCheaper p wanted cost
SaysOfPlans p wanted allowed (Unfinished cost bound spent) = IsBoundBelow p wanted allowed cost bound spent
SaysOfPlans p wanted allowed _ = ⊥

-- each added point is at a terminal, after 0 and by the latest due time; so there are at most as many
-- as the terminals times that time
pub record AreInTime (p : Problem) (points : List AddedPoint) : Type 0 where
  pub each : All (λ (q : AddedPoint). (q.terminal < length p.terminals) × (1 ≤ q.at) × (q.at ≤ horizon p.shipments)) points
  pub few : length points ≤ length p.terminals * horizon p.shipments

-- how the certificate of a search is priced: with the option of spans it names the greatest unit, and
-- without it, it names no unit, has no spans and no gifts, and values each leaf under all its sides
abbrev pub IsPricedAs : Problem → (spans : Bool) → Statement → Type 0
IsPricedAs p true c = IsSomeAnd c.unit (IsGreatestUnit p)
IsPricedAs p false c = IsPricedBy None c

-- the text of a certificate is so short that it is within the limit of `check`, also after an instance of as
-- many bytes as one may have, and a byte that ends the instance's last line
abbrev pub IsShortText : Problem → Statement → Type 0
IsShortText p c = INSTANCE_LIMIT + 1 + length (lines_of (rows_of p c)) ≤ CHECK_LIMIT

-- What a search shows of an instance. Its legs are a wanted plan in whole units, its cost is that
-- plan's, and its trucks are that plan's departures. Its certificate is accepted under the windows of
-- the wanted plans, its text is short, and the records of that text give it back; it is priced as the option
-- of spans says.
-- The search began with the first plan, and has earned what it shows; its points are in time. What its
-- answer says of the wanted plans is true.
pub record IsSearched (p : Problem) (wanted : Wanted) (allowed : Allowance) (s : Solution) : Type 0 where
  pub table : WindowTable
  pub windows : AreWindowsFor p wanted table
  pub timetable : HasTimetable p (windows_in table) s.certificate
  pub is_wanted : IsWanted wanted (routes_of p s.certificate)
  pub accepted : IsAccepted p table s.certificate
  pub back : ReadsBack p s.certificate
  pub short : IsShortText p s.certificate
  pub scale : s.certificate.scale ≡ named_scale p.scale
  pub priced : IsPricedAs p allowed.spans s.certificate
  pub first : List (List Leg)
  pub begins : IsFirstPlan p wanted first
  pub earned : IsEarnedSolution p table allowed.budget (cost p first) s
  pub points : AreInTime p s.certificate.points
  pub says : SaysOfPlans p wanted allowed s.certificate.answer
