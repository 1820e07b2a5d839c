-- The initial points are the first ones: they are among a certificate's points as of each round, and they are its points as of the
-- round 0.
use Rattle.std.proofs.Common.{◌≡◌, ◌∙◌, ℕ, ◌<◌, Bool, true, false, ◌&&◌, List, [], ◌∷◌, ◌++◌, length, get_or, refl, sym, ap, subst, arith}
use Rattle.std.specs.Prelude.{All, Option, nat_eq, nat_le}
use Rattle.std.specs.List.{AllByRecursion, AllZip}
use Rattle.std.proofs.lemmas.Bool.{and_right, lt-leb, or_left}
use Rattle.std.proofs.lemmas.List.{append-nil}
use Rattle.std.proofs.lemmas.List.Elements.{All-get_or, recursion_from_All}
use Rattle.fp_base_lists.specs.Membership.{list_has}
use Rattle.fp_base_lists.proofs.Membership.{list_has-append}
use Rattle.fp_model.specs.Problem.{IsArc, IsValid, Problem, arc_at, no_arc}
use Rattle.fp_timenodes.specs.declared.places.AddedPoint.{AddedPoint}
use Rattle.fp_timenodes.specs.declared.places.Place.{Place}
use Rattle.fp_timenodes.specs.Floor.{HaveSamePoints}
use Rattle.fp_timenodes.specs.Points.{TimePoints, added_at}
use Rattle.fp_flatnet.specs.declared.window_tables.Window.{Window}
use Rattle.fp_flatnet.specs.Initial.{initial_points}
use Rattle.fp_allowed.specs.SamePoints.{AgreeOnPoints}
use Rattle.fp_prices_gifts.specs.declared.gifts.Gift.{Gift}
use Rattle.fp_prices_gifts.specs.GiftKinds.{gifts_of_table}
use Rattle.fp_prices_knapsack.specs.Charges.{Pays}
use Rattle.fp_prices_spans.specs.MomentRuns.{AreAmong, end_of, first_points, group_weights, runs_from}
use Rattle.fp_prices_spans.specs.SpanCharges.{ChargePays, items_of}
use Rattle.fp_prices_spans.specs.SpanKinds.{spans_of_table}
use Rattle.fp_prices_spans.specs.SpanLists.{IsSpanOf}
use Rattle.fp_prices_spans.specs.Spans.{ClassSpan}
use Rattle.fp_prices_spans.proofs.SameFirst.{first_from-same}
use Rattle.fp_certificate_lines.specs.Moments.{moments_of_table}
use Rattle.fp_certificate_lines.specs.Ranges.{IsPointInRange, IsSpanInRange}
use Rattle.fp_certificate_rules.specs.Points.{ArePointsOf, points_with_added}
use Rattle.fp_certificate_rules.specs.Prices.{ArePaid, ArePaidBeside, ArePricesBeside}
use Rattle.fp_certificate_rules.proofs.KeptPrices.{beside-of}

-- the initial points are among the points as of each round
pub initial-among : (p : Problem) (anchors : List Place) (added : List AddedPoint) (round : ℕ) → AreAmong p (initial_points p anchors) (points_with_added p anchors added round)
initial-among p anchors added round terminal q lt had =
    list_has-append (initial_points p anchors terminal) (added_at added terminal round) q
    ∙ or_left (list_has (initial_points p anchors terminal) q) (list_has (added_at added terminal round) q) had

-- no point of a certificate is added by the round 0
none-early : (p : Problem) (added : List AddedPoint) (terminal : ℕ) → AllByRecursion (IsPointInRange p) added → added_at added terminal 0 ≡ []
none-early p [] terminal range = refl
none-early p (q ∷ added) terminal range =
    let late : (nat_eq q.terminal terminal && nat_le q.round 0) ≡ false = and_right (nat_eq q.terminal terminal) (nat_le q.round 0) (lt-leb q.round 0 (omega (arith, range.0.round.0))) in
    rw late (none-early p added terminal range.1)

-- so points that are a certificate's are, as of the round 0, the initial ones
pub first-initial : (p : Problem) (anchors : List Place) (added : List AddedPoint) (v : TimePoints) → All (IsPointInRange p) added → ArePointsOf p anchors added v →
    (terminal : ℕ) → terminal < length p.terminals → HaveSamePoints (first_points v terminal) (initial_points p anchors terminal)
first-initial p anchors added v range are terminal lt q =
    are.same terminal 0 lt q
    ∙ ap (λ (later : List ℕ). list_has (initial_points p anchors terminal ++ later) q) (none-early p added terminal (recursion_from_All (IsPointInRange p) added range))
    ∙ ap (λ (qs : List ℕ). list_has qs q) (append-nil (initial_points p anchors terminal))

-- a charge that pays by first points pays by others that are the same at each terminal
pub charge-same : (p : Problem) (windows : ℕ → ℕ → Option Window) (first other : ℕ → List ℕ) (span : ClassSpan) → IsValid p → AgreeOnPoints p first other → IsSpanOf p span → ChargePays p windows first span →
    ChargePays p windows other span
charge-same p windows first other span valid agree exists here =
    let tail : (arc_at p span.arc).from < length p.terminals = (All-get_or (IsArc (length p.terminals)) p.arcs span.arc no_arc exists.arc valid.parts.arcs).from in
    let alike : end_of p first span ≡ end_of p other span = first_from-same (first (arc_at p span.arc).from) (other (arc_at p span.arc).from) span.until (agree (arc_at p span.arc).from tail) in
    record {
      parts = here.parts;
      enough = here.enough;
      pay = subst
          (λ (end : Option ℕ). AllZip (λ run part. Pays (items_of p (group_weights windows span run)) (arc_at p span.arc).capacity span.money part) (runs_from span.point span.groups end) here.parts)
          alike here.pay;
    }

-- so are those of all spans
pays-same : (p : Problem) (windows : ℕ → ℕ → Option Window) (first other : ℕ → List ℕ) (spans : List ClassSpan) → IsValid p → AgreeOnPoints p first other → All (IsSpanOf p) spans → All (ChargePays p windows first) spans →
    All (ChargePays p windows other) spans
pays-same p windows first other spans valid agree exist pay k d lt = charge-same p windows first other (get_or spans k d) valid agree (exist k d lt) (pay k d lt)

-- so are spans and gifts that are paid
beside-same : (p : Problem) (windows : ℕ → ℕ → Option Window) (first other : ℕ → List ℕ) (spans : List ClassSpan) (gifts : List Gift) → IsValid p → AgreeOnPoints p first other → All (IsSpanOf p) spans →
    ArePaidBeside p windows first spans gifts → ArePaidBeside p windows other spans gifts
beside-same p windows first other spans [] valid agree exist are = record { list = are.list; paid = pays-same p windows first other spans valid agree exist are.paid }
beside-same p windows first other spans (gift ∷ gifts) valid agree exist are = record {
  ordered = are.ordered;
  light = are.light;
  given = are.given;
  paid = pays-same p windows first other spans valid agree exist are.paid;
}

-- and those beside a table by moments, whose charges aren't asked to pay there
prices-same : (timed : Bool) (p : Problem) (windows : ℕ → ℕ → Option Window) (first other : ℕ → List ℕ) (spans : List ClassSpan) (gifts : List Gift) → IsValid p → AgreeOnPoints p first other → All (IsSpanOf p) spans →
    ArePricesBeside timed p windows first spans gifts → ArePricesBeside timed p windows other spans gifts
prices-same false p windows first other spans gifts valid agree exist are = beside-same p windows first other spans gifts valid agree exist are
prices-same true p windows first other spans gifts valid agree exist are = are

-- and spans and gifts are paid by them exactly where they are paid by the initial ones
pub first-paid : (p : Problem) (windows : ℕ → ℕ → Option Window) (anchors : List Place) (added : List AddedPoint) (v : TimePoints) (spans : List (List ClassSpan)) (gifts : List (List Gift)) (moments : List Bool) → IsValid p →
    All (IsPointInRange p) added → ArePointsOf p anchors added v → All (All (IsSpanInRange p)) spans → ArePaid p windows (first_points v) spans gifts moments → ArePaid p windows (initial_points p anchors) spans gifts moments
first-paid p windows anchors added v spans gifts moments valid range are exist paid id =
    prices-same (moments_of_table moments id) p windows (first_points v) (initial_points p anchors) (spans_of_table spans id) (gifts_of_table gifts id) valid (first-initial p anchors added v range are) (beside-of p spans exist id) (paid id)

pub initial-paid : (p : Problem) (windows : ℕ → ℕ → Option Window) (anchors : List Place) (added : List AddedPoint) (v : TimePoints) (spans : List (List ClassSpan)) (gifts : List (List Gift)) (moments : List Bool) → IsValid p →
    All (IsPointInRange p) added → ArePointsOf p anchors added v → All (All (IsSpanInRange p)) spans → ArePaid p windows (initial_points p anchors) spans gifts moments → ArePaid p windows (first_points v) spans gifts moments
initial-paid p windows anchors added v spans gifts moments valid range are exist paid id =
    prices-same (moments_of_table moments id) p windows (initial_points p anchors) (first_points v) (spans_of_table spans id) (gifts_of_table gifts id) valid (λ terminal lt q. sym (first-initial p anchors added v range are terminal lt q))
    (beside-of p spans exist id) (paid id)
