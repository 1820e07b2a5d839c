-- A plan that costs less than the claim obeys the bars of narrowings on its way.
use Rattle.std.proofs.Common.{ℕ, ◌<◌, ◌≤◌, Bool, true, false, List, [], ◌∷◌, ◌++◌, ⊎_elim, sym, subst, arith}
use Rattle.std.specs.Prelude.{Option}
use Rattle.std.proofs.lemmas.Bool.{cases_lt}
use Rattle.fp_model.specs.declared.parts.Leg.{Leg}
use Rattle.fp_model.specs.Costs.{cost}
use Rattle.fp_model.specs.Plans.{IsPlan}
use Rattle.fp_model.specs.Problem.{IsValid, Problem}
use Rattle.fp_flatnet.specs.declared.window_tables.Window.{Window}
use Rattle.fp_flatnet.specs.Initial.{initial_points}
use Rattle.fp_flatnet.specs.Tables.{WindowTable, windows_in}
use Rattle.fp_flatnet.specs.Windows.{PlanLiesWithin}
use Rattle.fp_tree.specs.declared.sides.Side.{Side}
use Rattle.fp_allowed.specs.Allowed.{PlanObeys}
use Rattle.fp_prices.specs.declared.leaf_prices.Kind.{Kind}
use Rattle.fp_prices.specs.declared.leaf_prices.LeafPrice.{LeafPrice}
use Rattle.fp_prices.specs.Leaves.{IsPlanOfLeaf}
use Rattle.fp_prices.specs.Prices.{AllKeepRule}
use Rattle.fp_prices.specs.Shares.{ClassShare}
use Rattle.fp_prices.proofs.LeafPlans.{IsPlanOfLeaf-within}
use Rattle.fp_prices_gifts.specs.declared.gifts.Gift.{Gift}
use Rattle.fp_prices_gifts.specs.GiftKinds.{gifts_beside}
use Rattle.fp_prices_gifts.proofs.BarredPlans.{cheaper_plans-obey-bars}
use Rattle.fp_prices_spans.specs.MomentRuns.{AreAmong}
use Rattle.fp_prices_spans.specs.SpanKinds.{spans_beside}
use Rattle.fp_prices_spans.specs.Spans.{ClassSpan}
use Rattle.fp_certificate_lines.specs.Moments.{by_moments}
use Rattle.fp_certificate_lines.specs.Statements.{Statement}
use Rattle.fp_certificate_rules.specs.Leaves.{AreBarsAfter, AreBarsBy, AreNarrowingBars, PlacedNarrowing, worth_of}
use Rattle.fp_certificate_rules.specs.Points.{points_as_of}
use Rattle.fp_certificate_rules.specs.Units.{IsLeastAmount, rounded_up}
use Rattle.fp_certificate_rules.proofs.BareTrees.{AreOnWay, IsOnWay}
use Rattle.fp_certificate_rules.proofs.FirstPoints.{initial-among}
use Rattle.fp_certificate_rules.proofs.KeptPrices.{AreKept, AreKeptBeside}
use Rattle.fp_certificate_rules.proofs.PlanSides.{obeys-append, obeys-front}
use Rattle.fp_certificate_rules.proofs.UnitCosts.{rounded_up-cost}

-- the plans of a leaf that cost less than an amount obey its bars, also by moments
bars_by-obeyed : (timed : Bool) (p : Problem) (windows : ℕ → ℕ → Option Window) (first points : ℕ → List ℕ) (sides : List Side) (tables : List (List ClassShare)) (spans : List ClassSpan) (gifts : List Gift) (kind : Kind) (forced : Bool) (money : ℕ) (bars : List Side) → IsValid p →
    AreAmong p first points → AllKeepRule p tables → AreKeptBeside timed p windows first spans gifts → AreBarsBy timed p windows points sides tables spans gifts kind forced money bars → (d : ℕ) (plan : List (List Leg)) →
    IsPlanOfLeaf p windows sides d plan → cost p plan < money → PlanObeys p d bars plan
bars_by-obeyed false p windows first points sides tables spans gifts kind forced money bars valid among rule keep are d plan of_leaf less =
    cheaper_plans-obey-bars.gifts p windows first points sides tables spans gifts kind forced money bars valid among rule keep are d plan of_leaf less
bars_by-obeyed true p windows first points sides tables spans gifts kind forced money bars valid among rule keep are d plan of_leaf less =
    cheaper_plans-obey-bars.moments p windows points sides tables spans gifts kind forced money bars valid rule keep.exist keep.ordered keep.money are d plan of_leaf less

module _ (p : Problem) (table : WindowTable) (c : Statement) (claim d : ℕ) (plan : List (List Leg)) (valid : IsValid p) (keep : AreKept p table c) (some : 1 ≤ d) (is : IsPlan p d plan)
    (within : PlanLiesWithin (windows_in table) d plan) (less : cost p plan < claim) where
  -- a plan that costs less than the claim costs less than each amount that is worth the claim or more, since the unit divides its cost
  cost-below : (more money : ℕ) → claim ≤ more → IsLeastAmount c.unit more money → cost p plan < money
  cost-below more money le least =
      ⊎_elim
      (λ (below : cost p plan < money). below)
      (λ (reached : money ≤ cost p plan).
      let worth : more ≤ rounded_up c.unit (cost p plan) = (least (cost p plan)).0 reached in
      let rounded : rounded_up c.unit (cost p plan) ≤ cost p plan = rounded_up-cost p c.unit (cost p plan) plan keep.range keep.unit (omega arith) in
      absurd (omega (arith, less, le, worth, rounded)))
      (cases_lt (cost p plan) money)

  -- so it obeys the bars of a narrowing at whose node it obeys the sides and the bars before
  narrowing-obeyed : (before : List Side) (n : PlacedNarrowing) (bars : List Side) → PlanObeys p d before plan → PlanObeys p d n.sides plan → AreNarrowingBars p table c claim before n bars → PlanObeys p d bars plan
  narrowing-obeyed before n bars barred obeys are =
      let price : LeafPrice = n.narrowing.price in
      let sides : List Side = before ++ n.sides in
      bars_by-obeyed (by_moments c.moments price.kind) p (windows_in table) (initial_points p table.anchors) (points_as_of p table.anchors c price.round) sides c.tables
      (spans_beside c.spans price.kind) (gifts_beside c.gifts price.kind) price.kind price.forced are.money bars valid (initial-among p table.anchors c.points price.round) keep.tables (keep.spans price.kind) are.are d plan
      (IsPlanOfLeaf-within p (windows_in table) sides d plan some is within (obeys-append p d before n.sides plan barred obeys))
      (cost-below (worth_of claim n.narrowing) are.money (omega arith) are.least)

  -- and those of one after the other
  bars-obeyed : (sides before : List Side) (narrowings : List PlacedNarrowing) (bars : List Side) → PlanObeys p d sides plan → AreOnWay sides narrowings → PlanObeys p d before plan → AreBarsAfter p table c claim before narrowings bars →
      PlanObeys p d bars plan
  bars-obeyed sides before [] bars obeys on barred are = subst (λ (all : List Side). PlanObeys p d all plan) (sym are) barred
  bars-obeyed sides before (n ∷ narrowings) bars obeys on barred are =
      let way : IsOnWay sides n = on.0 in
      let at : PlanObeys p d n.sides plan = obeys-front p d n.sides way.0 plan (subst (λ (all : List Side). PlanObeys p d all plan) (sym way.1) obeys) in
      bars-obeyed sides (before ++ are.0) narrowings bars obeys on.1 (obeys-append p d before are.0 plan barred (narrowing-obeyed before n are.0 barred at are.1)) are.2

  -- so a plan under a leaf's sides obeys the bars of all narrowings on its way
  pub leaf_bars-obeyed : (sides : List Side) (narrowings : List PlacedNarrowing) (bars : List Side) → PlanObeys p d sides plan → AreOnWay sides narrowings → AreBarsAfter p table c claim [] narrowings bars → PlanObeys p d bars plan
  leaf_bars-obeyed sides narrowings bars obeys on are = bars-obeyed sides [] narrowings bars obeys on (obeys-front p d [] sides plan obeys) are
