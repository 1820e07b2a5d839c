-- What a search says of all plans, from what it has earned.
use Rattle.std.proofs.Common.{◌≡◌, ◌∙◌, ℕ, ◌+◌, ◌≤◌, ◌^◌, Bool, true, false, List, [], ◌∷◌, length, refl, sym, ap, subst, inl, inr, arith}
use Rattle.std.specs.Prelude.{◌⊎◌, IfSome, IsSomeAnd, MatchBool, None, Option, Some}
use Rattle.std.specs.Int.{div_ceil}
use Rattle.std.specs.List.{AllByRecursion}
use Rattle.std.proofs.lemmas.Option.{IfSome_then}
use Rattle.fp_base_lists.specs.Elements.{AnyByRecursion}
use Rattle.fp_base_lists.proofs.Ceilings.{div_ceil_mono}
use Rattle.fp_model.specs.declared.parts.Leg.{Leg}
use Rattle.fp_model.specs.Costs.{cost}
use Rattle.fp_model.specs.Plans.{IsPlan}
use Rattle.fp_model.specs.Problem.{IsValid, Problem, horizon}
use Rattle.fp_timenodes.specs.declared.places.AddedPoint.{AddedPoint}
use Rattle.fp_timenodes.proofs.PointLimit.{length_distinct_new}
use Rattle.fp_flatnet.specs.Belonging.{BelongsTo}
use Rattle.fp_flatnet.proofs.PlansInWindows.{CoverPlans-from_windows}
use Rattle.fp_flatnet.specs.Tables.{WindowTable, windows_in}
use Rattle.fp_tree.specs.declared.sides.Side.{Side}
use Rattle.fp_tree.specs.Trees.{Leaf}
use Rattle.fp_prices.specs.declared.leaf_prices.LeafPrice.{LeafPrice}
use Rattle.fp_prices.specs.FlatBounds.{IsFlatBound}
use Rattle.fp_prices_gifts.specs.GiftKinds.{IsPricedValue, gifts_beside}
use Rattle.fp_prices_gifts.specs.GiftLeaves.{IsGiftLeafValue}
use Rattle.fp_prices_gifts.proofs.OneGiftValue.{gift_leaves-have-one-value}
use Rattle.fp_prices_spans.specs.SpanKinds.{spans_beside}
use Rattle.fp_certificate_lines.specs.declared.certificates.Answer.{Answer}
use Rattle.fp_certificate_lines.specs.declared.certificates.Answer.TheVariants.{Optimal, Unfinished}
use Rattle.fp_certificate_lines.specs.declared.certificates.Node.{Node}
use Rattle.fp_certificate_lines.specs.declared.certificates.Node.TheVariants as node
use Rattle.fp_certificate_lines.specs.declared.certificates.Spent.TheVariants.{Branches, Rounds, Time}
use Rattle.fp_certificate_lines.specs.Lengths.{TextsAreShort}
use Rattle.fp_certificate_lines.specs.Ranges.{IsInRange}
use Rattle.fp_certificate_lines.specs.Statements.{Statement}
use Rattle.fp_certificate_rules.specs.Accepted.{Applies, Part}
use Rattle.fp_certificate_rules.specs.Claims.{ClaimsWithin, NoPlanWithinCheaper}
use Rattle.fp_certificate_rules.specs.LineCounts.{HasFewLines}
use Rattle.fp_certificate_rules.specs.Plans.{HasPlan, routes_of, stated_cost}
use Rattle.fp_certificate_rules.specs.Units.{IsGreatestUnit}
use Rattle.fp_certificate_rules.proofs.Claims.{AcceptedClaims_hold}
use Rattle.fp_certificate_rules.proofs.LineCounts.{AcceptedAreFew_hold, few-bytes}
use Rattle.fp_certificate_rules.proofs.Multiples.{rounded_up-more}
use Rattle.fp_duals_leaves.proofs.WrittenLines.{PriceLinesAreWritten_hold}
use Rattle.fp_certificate.specs.Readable.{Allows, WrittenReadsBack}
use Rattle.fp_certificate_lines.specs.declared.certificates.Valuation.{Valuation}
use Rattle.fp_certificate_lines.specs.Valuations.{first_sides, sides_valued}
use Rattle.fp_session_history.specs.declared.budgets.Budget.{Budget}
use Rattle.fp_session_history.specs.declared.endings.Left.{Left}
use Rattle.fp_session_history.specs.declared.endings.Left.TheVariants.{Nothing, Several, Timing, Unsettled}
use Rattle.fp_session_history.specs.Divisions.{division_slack}
use Rattle.fp_session_history.specs.Notes.{History, added_of, points_of}
use Rattle.fp_session_history.specs.PrintedLeaves.{IsEmptyAt, IsPrintedLeaf, IsWorth, OfLeaf}
use Rattle.fp_session_history.specs.Solutions.{HasCause, IsEarnedSolution, IsTimely, Solution, branches_shown, history_of, leaves_shown}
use Rattle.fp_session_history.specs.Splits.{IsEarnedAt, IsValueAt}
use Rattle.fp_session_history.proofs.AddedPoints.{AreAddedPoints-IsEarnedTrace, points-in_time}
use Rattle.fp_session_history.proofs.Enough.{EnoughBranches_hold, EnoughRounds_hold}
use Rattle.fp_session.specs.Certificates.{IsPricedBy}
use Rattle.fp_session.specs.Sessions.{SessionModel}
use Rattle.fp_session.specs.Solved.{IsSolved}
use Rattle.fp_session.specs.Starts.{IsSessionOf}
use Rattle.fp_replan.specs.declared.kept.Kept.{Kept}
use Rattle.fp_replan.specs.KeptLegs.{Keeps}
use Rattle.fp_replan_present.specs.Days.{Day}
use Rattle.fp_replan_present.specs.Plans.{NoneUnderwayCheaper, sunk_cost}
use Rattle.fp_replan_present.specs.Rests.{joined, left_problem}
use Rattle.fp_replan_present.proofs.RestPlans.{costs-joined}
use Rattle.fp_app_tails.specs.Verdicts.{NoKeptPlanCheaper}
use Rattle.fp_app_tails.specs.Windows.{AreDayWindows, AreKeptWindowsOf}
use Rattle.fp_app.specs.Searches.{Allowance, AreInTime, IsPricedAs, IsSearched, IsShortText, SaysOfPlans, branch_slack}
use Rattle.fp_app.specs.Wanted.{AreWindowsFor, GoesOnWith, IsFirstPlan, IsWanted, NoneWantedCheaper, Wanted, WantedExists, every, every_from, going_on, going_on_from, keeping, keeping_from}
use Rattle.fp_app.proofs.OneKeptTable.{AreDayWindows-unique, AreKeptWindowsOf-unique}
use Rattle.fp_app.proofs.OneTable.{AreWindowsOf_unique}
use Rattle.fp_app.proofs.PlainValues.{flat-le_leaf}

-- a printed leaf with a value is worth the flat bound
flat-price : (h : History) (sides : List Side) (v : Valuation) (flat value : ℕ) → IsFlatBound h.problem flat → IsEmptyAt h sides v ⊎ IsEarnedAt h sides v → IsValueAt h sides v value → flat ≤ value
flat-price h sides v flat value least (inl empty) is =
    let price : LeafPrice = v.price in
    let whole : IsPricedValue h.problem (windows_in h.windows) (points_of h price.round) sides h.tables h.spans h.gifts price.kind price.forced value =
    subst (λ (o : Option ℕ). IsPricedValue h.problem (windows_in h.windows) (points_of h price.round) (first_sides o sides) h.tables h.spans h.gifts price.kind price.forced value) empty.whole is in
    absurd (gift_leaves-have-one-value.some h.problem (windows_in h.windows) (points_of h price.round) sides h.tables (spans_beside h.spans price.kind) (gifts_beside h.gifts price.kind) price.kind price.forced value whole empty.empty)
flat-price h sides v flat value least (inr earned) is =
    let price : LeafPrice = v.price in
    let under : List Side = sides_valued v sides in
    let own : IsGiftLeafValue h.problem (windows_in h.windows) (points_of h price.round) under h.tables (spans_beside h.spans price.kind) (gifts_beside h.gifts price.kind) price.kind price.forced earned.value = earned.is in
    let same : earned.value ≡ value =
    gift_leaves-have-one-value.one h.problem (windows_in h.windows) (points_of h price.round) under h.tables (spans_beside h.spans price.kind) (gifts_beside h.gifts price.kind) price.kind price.forced earned.value value own is in
    let worth : flat ≤ earned.value =
    flat-le_leaf h.problem (windows_in h.windows) (points_of h price.round) under h.tables (spans_beside h.spans price.kind) price.kind price.forced flat own.before earned.value least own.by_spans earned.linear_under in
    omega (arith, worth, same)

flat-node : (h : History) (n : Node) (sides : List Side) (flat bound : ℕ) → IfSome h.unit (λ u. 1 ≤ u) → IsFlatBound h.problem flat → IsPrintedLeaf h (record { node = n; sides = sides }) →
    OfLeaf (λ v under. IsWorth h under v bound) (record { node = n; sides = sides }) → div_ceil flat h.problem.scale ≤ bound
flat-node h (node.Branch split) sides flat bound some least printed worth = absurd worth
flat-node h (node.Narrow narrowing) sides flat bound some least printed worth = absurd worth
flat-node h (node.Leaf v) sides flat bound some least printed worth =
    let whole : div_ceil flat h.problem.scale ≤ div_ceil worth.value h.problem.scale = div_ceil_mono flat worth.value h.problem.scale (flat-price h sides v flat worth.value least printed worth.is) in
    omega (arith, whole, rounded_up-more h.unit (div_ceil worth.value h.problem.scale) some, worth.rounded)

-- so the worth of a printed leaf is at least the flat bound in whole units
flat-leaves : (h : History) (leaves : List (Leaf Node)) (flat bound : ℕ) → IfSome h.unit (λ u. 1 ≤ u) → IsFlatBound h.problem flat → AllByRecursion (IsPrintedLeaf h) leaves →
    AnyByRecursion (OfLeaf (λ v sides. IsWorth h sides v bound)) leaves → div_ceil flat h.problem.scale ≤ bound
flat-leaves h [] flat bound some least all any = absurd any
flat-leaves h (l ∷ leaves) flat bound some least all (inl here) = flat-node h l.node l.sides flat bound some least all.0 here
flat-leaves h (l ∷ leaves) flat bound some least all (inr later) = flat-leaves h leaves flat bound some least all.1 later

-- the windows of the wanted plans belong to the instance
pub windows-belong : (p : Problem) (wanted : Wanted) (table : WindowTable) → AreWindowsFor p wanted table → BelongsTo p table
windows-belong p every table windows = windows.belongs
windows-belong p (every_from plan) table windows = windows.belongs
windows-belong p (keeping kept) table windows = windows.belongs
windows-belong p (keeping_from kept plan) table windows = windows.belongs
windows-belong q (going_on p day) table windows = windows.belongs
windows-belong q (going_on_from p day plan) table windows = windows.belongs

-- there is one table of them
pub windows-one : (p : Problem) (wanted : Wanted) (one two : WindowTable) → AreWindowsFor p wanted one → AreWindowsFor p wanted two → one ≡ two
windows-one p every one two first second = AreWindowsOf_unique p one two first second
windows-one p (every_from plan) one two first second = AreWindowsOf_unique p one two first second
windows-one p (keeping kept) one two first second = AreKeptWindowsOf-unique p kept one two first second
windows-one p (keeping_from kept plan) one two first second = AreKeptWindowsOf-unique p kept one two first second
windows-one q (going_on p day) one two first second = AreDayWindows-unique p day q one two first second
windows-one q (going_on_from p day plan) one two first second = AreDayWindows-unique p day q one two first second

-- what no plan within them costs less than, none that keeps the legs or goes on with the day does
none-kept_cheaper : (p : Problem) (kept : List Kept) (table : WindowTable) (c : ℕ) → AreKeptWindowsOf p kept table → NoPlanWithinCheaper p (windows_in table) c → NoKeptPlanCheaper p kept c
none-kept_cheaper p kept table c windows within = λ d routes some is keeps. within d routes some is ((windows.tell d routes some is).1 keeps)

none-under_way_cheaper : (q p : Problem) (day : Day) (table : WindowTable) (c : ℕ) → AreDayWindows p day q table → NoPlanWithinCheaper q (windows_in table) c → NoneUnderwayCheaper p day (sunk_cost p day + c)
none-under_way_cheaper q p day table c windows within = (windows.cheaper c).1 (subst (λ (x : Problem). NoPlanWithinCheaper x (windows_in table) c) windows.left within)

-- nor any wanted plan
wanted-cheaper : (p : Problem) (wanted : Wanted) (table : WindowTable) (c : ℕ) → AreWindowsFor p wanted table → NoPlanWithinCheaper p (windows_in table) c → NoneWantedCheaper p wanted c
wanted-cheaper p every table c windows within = λ d routes some is. within d routes some is (CoverPlans-from_windows p (windows_in table) windows.exact d routes some is)
wanted-cheaper p (every_from plan) table c windows within = λ d routes some is. within d routes some is (CoverPlans-from_windows p (windows_in table) windows.exact d routes some is)
wanted-cheaper p (keeping kept) table c windows within = none-kept_cheaper p kept table c windows within
wanted-cheaper p (keeping_from kept plan) table c windows within = none-kept_cheaper p kept table c windows within
wanted-cheaper q (going_on p day) table c windows within = none-under_way_cheaper q p day table c windows within
wanted-cheaper q (going_on_from p day plan) table c windows within = none-under_way_cheaper q p day table c windows within

-- where the certificate names a unit, leaves can be divided by trucks too
unit-division : (p : Problem) (table : WindowTable) (unit : Option ℕ) (P : ℕ → Type 0) → IsSomeAnd unit P → division_slack unit p (windows_in table) [] ≡ branch_slack p table true
unit-division p table None P some = absurd some
unit-division p table (Some unit) P some = refl

-- so leaves can be divided as often as the option of spans tells
priced-division : (p : Problem) (table : WindowTable) (spans : Bool) (c : Statement) → IsPricedAs p spans c → division_slack c.unit p (windows_in table) [] ≡ branch_slack p table spans
priced-division p table true c priced = unit-division p table c.unit (IsGreatestUnit p) priced
priced-division p table false c priced = ap (λ (unit : Option ℕ). division_slack unit p (windows_in table) []) priced.unit

-- what the answer of a search says, by what it left
module _ (p : Problem) (wanted : Wanted) (table : WindowTable) (allowed : Allowance) (started : ℕ) (s : Solution) (windows : AreWindowsFor p wanted table) (range : IsInRange p s.certificate) (priced : IsPricedAs p allowed.spans s.certificate) (earned : IsEarnedSolution p table allowed.budget started s) where
  -- its unit is at least 1
  some-unit : IfSome s.certificate.unit (λ u. 1 ≤ u)
  some-unit = IfSome_then s.certificate.unit range.unit (λ u is. is.least)

  abbrev Caused : Left → Answer → Type 0
  Caused = HasCause (history_of p table s) allowed.budget (leaves_shown p s) (branches_shown p s)

  says-by : (left : Left) (a : Answer) → s.certificate.answer ≡ a → Caused left a → IsTimely allowed.over left → ClaimsWithin p (windows_in table) a → SaysOfPlans p wanted allowed a
  says-by Nothing (Optimal cost) same cause timely claims = wanted-cheaper p wanted table cost windows claims
  says-by (Timing leaf relaxed) (Unfinished cost bound Rounds) same cause timely claims = record {
    plans = wanted-cheaper p wanted table bound windows claims;
    below = cause.2;
    flat = λ flat least. flat-leaves (history_of p table s) (leaves_shown p s) flat bound some-unit least earned.leaves cause.1.some;
    scarce = λ enough. EnoughRounds_hold p table allowed.budget started s (windows-belong p wanted table windows) earned enough cost bound same;
  }
  says-by (Several leaf shipment) (Unfinished cost bound Branches) same cause timely claims = record {
    plans = wanted-cheaper p wanted table bound windows claims;
    below = cause.2;
    flat = λ flat least. flat-leaves (history_of p table s) (leaves_shown p s) flat bound some-unit least earned.leaves cause.1.some;
    scarce = λ enough. EnoughBranches_hold p table allowed.budget started s (windows-belong p wanted table windows).valid earned
        (subst (λ (n : ℕ). 2 ^ n ≤ allowed.budget.branches) (sym (priced-division p table allowed.spans s.certificate priced))
        (subst (λ (t : WindowTable). 2 ^ branch_slack p t allowed.spans ≤ allowed.budget.branches) (windows-one p wanted enough.0 table enough.1 windows) enough.2)) cost bound same;
  }
  says-by (Unsettled leaf) (Unfinished cost bound Time) same cause timely claims = record {
    plans = wanted-cheaper p wanted table bound windows claims;
    below = cause.2;
    flat = λ flat least. flat-leaves (history_of p table s) (leaves_shown p s) flat bound some-unit least earned.leaves cause.1.some;
    scarce = λ enough. let e : true ≡ false = sym timely ∙ enough in cc e;
  }
  says-by _ _ same cause timely claims = absurd cause

-- an answer of a search has a timetable and a tree, and any lines may stand under it
has-timetable : (p : Problem) (wanted : Wanted) (allowed : Allowance) (a : Answer) → SaysOfPlans p wanted allowed a → Applies a Part.Plan × Applies a Part.Cost × Applies a Part.Trucks × Applies a Part.Tree
has-timetable p wanted allowed (Optimal cost) says = (tt, tt, tt, tt)
has-timetable p wanted allowed (Unfinished cost bound spent) says = (tt, tt, tt, tt)
has-timetable p wanted allowed _ says = absurd says

allows : (p : Problem) (wanted : Wanted) (allowed : Allowance) (a : Answer) (c : Statement) → SaysOfPlans p wanted allowed a → Allows a c
allows p wanted allowed (Optimal cost) c says = tt
allows p wanted allowed (Unfinished cost bound spent) c says = tt
allows p wanted allowed _ c says = absurd says

-- the points that a search has added are in time
earned-in_time : (p : Problem) (table : WindowTable) (budget : Budget) (started : ℕ) (s : Solution) → BelongsTo p table → IsEarnedSolution p table budget started s → AreInTime p s.certificate.points
earned-in_time p table budget started s belongs earned =
    let h : History = history_of p table s in
    let ended : ℕ = stated_cost s.certificate.answer in
    let each = points-in_time h started ended belongs earned.trace in
    let few = length_distinct_new (length p.terminals) (horizon p.shipments) (added_of s.trace) (AreAddedPoints-IsEarnedTrace h started ended earned.trace).once each in
    subst (λ (points : List AddedPoint). AreInTime p points) (sym earned.points) (record { each = each; few = few })

-- the plan of the certificate keeps the legs, or goes on with the day
plan-keeps : (p : Problem) (kept : List Kept) (table : WindowTable) (c : Statement) → AreKeptWindowsOf p kept table → HasPlan p (windows_in table) c → Keeps kept 1 (routes_of p c)
plan-keeps p kept table c windows has = let some : 1 ≤ 1 = omega arith in (windows.tell 1 (routes_of p c) some has.plan).0 has.within

plan-goes_on : (q p : Problem) (day : Day) (table : WindowTable) (c : Statement) → AreDayWindows p day q table → HasPlan q (windows_in table) c → GoesOnWith p day (routes_of q c)
plan-goes_on q p day table c windows has =
    let some : 1 ≤ 1 = omega arith in
    let plan : IsPlan (left_problem p day) 1 (routes_of q c) = subst (λ (x : Problem). IsPlan x 1 (routes_of q c)) windows.left has.plan in
    let costs = costs-joined p day 1 (routes_of q c) plan in
    ((windows.tell 1 (joined p day 1 (routes_of q c)) some).1 (record { rests = routes_of q c; same = refl; plan = plan; within = has.within; costs = costs }), costs)

-- the plan of the certificate is wanted
is-wanted : (p : Problem) (wanted : Wanted) (table : WindowTable) (c : Statement) → AreWindowsFor p wanted table → HasPlan p (windows_in table) c → IsWanted wanted (routes_of p c)
is-wanted p every table c windows has = tt
is-wanted p (every_from plan) table c windows has = tt
is-wanted p (keeping kept) table c windows has = plan-keeps p kept table c windows has
is-wanted p (keeping_from kept plan) table c windows has = plan-keeps p kept table c windows has
is-wanted q (going_on p day) table c windows has = plan-goes_on q p day table c windows has
is-wanted q (going_on_from p day plan) table c windows has = plan-goes_on q p day table c windows has

-- the text of the certificate is short: its lines are few, and so are those of its prices
short-text : (p : Problem) (table : WindowTable) (budget : Budget) (started : ℕ) (s : Solution) → IsValid p → TextsAreShort p → IsSolved p table budget started s → Applies s.certificate.answer Part.Tree →
    IsShortText p s.certificate
short-text p table budget started s valid texts solved applies =
    let c : Statement = s.certificate in
    let few : HasFewLines p c = AcceptedAreFew_hold p table c valid solved.range solved.accepted applies in
    omega (arith, texts c solved.range solved.countable, few-bytes p c few (solved.accepted Part.Tree applies), PriceLinesAreWritten_hold p c solved.range.beside solved.range.given, solved.lines)

-- what a search shows that began with the first plan
solved-searched : (p : Problem) (wanted : Wanted) (table : WindowTable) (allowed : Allowance) (first : List (List Leg)) (s : Solution) → AreWindowsFor p wanted table → IsFirstPlan p wanted first → WrittenReadsBack p → TextsAreShort p →
    IsSolved p table allowed.budget (cost p first) s → IsTimely allowed.over s.left → IsPricedAs p allowed.spans s.certificate → IsSearched p wanted allowed s
solved-searched p wanted table allowed first s windows begins back texts solved timely priced =
    let belongs : BelongsTo p table = windows-belong p wanted table windows in
    let claims : ClaimsWithin p (windows_in table) s.certificate.answer = AcceptedClaims_hold.within p table s.certificate belongs.valid solved.range solved.accepted in
    let says : SaysOfPlans p wanted allowed s.certificate.answer = says-by p wanted table allowed (cost p first) s windows solved.range priced solved.earned s.left s.certificate.answer refl solved.earned.cause timely claims in
    let parts = has-timetable p wanted allowed s.certificate.answer says in
    record {
      table = table;
      windows = windows;
      timetable = record { plan = solved.accepted Part.Plan parts.0; cost = solved.accepted Part.Cost parts.1; trucks = solved.accepted Part.Trucks parts.2 };
      is_wanted = is-wanted p wanted table s.certificate windows (solved.accepted Part.Plan parts.0);
      accepted = solved.accepted;
      back = back s.certificate solved.range solved.countable (allows p wanted allowed s.certificate.answer s.certificate says);
      short = short-text p table allowed.budget (cost p first) s belongs.valid texts solved parts.3;
      scale = solved.scale;
      priced = priced;
      first = first;
      begins = begins;
      earned = solved.earned;
      points = earned-in_time p table allowed.budget (cost p first) s belongs solved.earned;
      says = says;
    }

-- a session that has made no step, which has the greatest unit with the option of spans, and none without it
pub record IsChosen (p : Problem) (table : WindowTable) (first : List (List Leg)) (budget : Budget) (spans : Bool) (m : SessionModel) : Type 0 where
  pub of : IsSessionOf p table first budget m
  pub unit : MatchBool spans (IsSomeAnd m.prices.unit (IsGreatestUnit p)) (m.prices.unit ≡ None)

-- so what it shows is priced as the option says
priced-as : (p : Problem) (spans : Bool) (own : Option ℕ) (c : Statement) → MatchBool spans (IsSomeAnd own (IsGreatestUnit p)) (own ≡ None) → IsPricedBy own c → IsPricedAs p spans c
priced-as p true own c some priced = subst (λ (o : Option ℕ). IsSomeAnd o (IsGreatestUnit p)) (sym priced.unit) some
priced-as p false own c none priced = subst (λ (o : Option ℕ). IsPricedBy o c) none priced

-- what a session of the instance shows
pub session-searched : (p q : Problem) (wanted : Wanted) (table : WindowTable) (allowed : Allowance) (first : List (List Leg)) (m : SessionModel) (s : Solution) → AreWindowsFor p wanted table → IsFirstPlan p wanted first →
    WrittenReadsBack p → TextsAreShort p → q ≡ p → IsChosen q table first allowed.budget allowed.spans m → IsSolved m.instance m.windows m.budget m.started s → IsTimely allowed.over s.left → IsPricedBy m.prices.unit s.certificate → IsSearched p wanted allowed s
session-searched p q wanted table allowed first m s windows begins back texts same chosen solved timely priced =
    let of : IsSessionOf q table first allowed.budget m = chosen.of in
    let one : IsSolved p m.windows m.budget m.started s = subst (λ (x : Problem). IsSolved x m.windows m.budget m.started s) (of.instance ∙ same) solved in
    let two : IsSolved p table m.budget m.started s = subst (λ (x : WindowTable). IsSolved p x m.budget m.started s) of.windows one in
    let three : IsSolved p table allowed.budget m.started s = subst (λ (x : Budget). IsSolved p table x m.started s) of.budget two in
    let begun : m.started ≡ cost p first = of.started ∙ ap (λ (x : Problem). cost x first) same in
    solved-searched p wanted table allowed first s windows begins back texts (subst (λ (n : ℕ). IsSolved p table allowed.budget n s) begun three) timely
    (priced-as p allowed.spans m.prices.unit s.certificate
    (subst (λ (x : Problem). MatchBool allowed.spans (IsSomeAnd m.prices.unit (IsGreatestUnit x)) (m.prices.unit ≡ None)) same chosen.unit) priced)

-- a wanted plan exists where a search shows one
pub searched-exists : (p : Problem) (wanted : Wanted) (allowed : Allowance) (s : Solution) → IsSearched p wanted allowed s → WantedExists p wanted
searched-exists p every allowed s told = let some : 1 ≤ 1 = omega arith in (1, _, some, told.timetable.plan.plan)
searched-exists p (every_from plan) allowed s told = let some : 1 ≤ 1 = omega arith in (1, _, some, told.timetable.plan.plan)
searched-exists p (keeping kept) allowed s told = let some : 1 ≤ 1 = omega arith in (1, _, some, told.timetable.plan.plan, told.is_wanted)
searched-exists p (keeping_from kept plan) allowed s told = let some : 1 ≤ 1 = omega arith in (1, _, some, told.timetable.plan.plan, told.is_wanted)
searched-exists q (going_on_from p day plan) allowed s told = let some : 1 ≤ 1 = omega arith in (1, joined p day 1 (routes_of q s.certificate), some, told.is_wanted.0)
searched-exists q (going_on p day) allowed s told = let some : 1 ≤ 1 = omega arith in (1, joined p day 1 (routes_of q s.certificate), some, told.is_wanted.0)
