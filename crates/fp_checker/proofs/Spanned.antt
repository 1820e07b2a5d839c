-- The spans and the gifts beside the tables of a certificate.
use Rattle.std.proofs.Common.{◌≡◌, ℕ, ◌-◌, ◌<◌, ◌≤◌, Bool, true, false, List, [], ◌∷◌, length, ⊎_elim, sym, subst, arith, rules}
use Rattle.std.specs.declared.alloc.AllocError.{AllocError}
use Rattle.std.specs.Prelude.{◌↔◌, All, IfOk, IsTrue, Option, Result, slice_index_or}
use Rattle.std.proofs.lemmas.Bool.{cases_lt}
use Rattle.std.proofs.lemmas.List.{get_or_past}
use Rattle.std.proofs.lemmas.List.Elements.{All-weaker, recursion_from_All}
use Rattle.std.proofs.lemmas.Result.{IfOk-weaker}
use Rattle.fp_model.specs.Problem.{IsValid, Problem}
use Rattle.fp_timenodes.specs.Points.{TimePoints, points_at}
use Rattle.fp_flatnet.specs.declared.window_tables.Window.{Window}
use Rattle.fp_flatnet.specs.Belonging.{BelongsTo}
use Rattle.fp_flatnet.specs.Initial.{initial_points}
use Rattle.fp_flatnet.specs.Tables.{WindowTable, windows_in}
use Rattle.fp_tree.specs.declared.sides.Side.{Side}
use Rattle.fp_prices.specs.declared.leaf_prices.LeafPrice.{LeafPrice}
use Rattle.fp_prices.specs.declared.values.bounds.LeafBound.{LeafBound}
use Rattle.fp_prices.specs.Shares.{ClassShare}
use Rattle.fp_prices.specs.declared.leaf_prices.Kind.{Kind}
use Rattle.fp_prices.specs.declared.leaf_prices.Kind.TheVariants.{Linear, Even, Table}
use Rattle.fp_prices_gifts.specs.declared.gifts.Gift.{Gift}
use Rattle.fp_prices_gifts.specs.GiftKinds.{gifts_beside, gifts_of_table}
use Rattle.fp_prices_gifts.specs.Gifts.{AreGifts}
use Rattle.fp_prices_spans.specs.SpanKinds.{spans_beside, spans_of_table}
use Rattle.fp_prices_spans.specs.MomentRuns.{first_points}
use Rattle.fp_prices_spans.specs.SpanLists.{AreSpans, IsSpanList, IsSpanOf}
use Rattle.fp_prices_spans.specs.Spans.{ClassSpan}
use Rattle.fp_certificate_lines.specs.Moments.{by_moments, moments_of_table}
use Rattle.fp_certificate_lines.specs.Ranges.{IsGiftInRange, IsInRange}
use Rattle.fp_certificate_lines.specs.Statements.{Statement}
use Rattle.fp_certificate_rules.specs.Points.{ArePointsOf, points_as_of}
use Rattle.fp_certificate_rules.specs.Prices.{AreListedBeside, ArePaid, ArePricesBeside, HasPrices}
use Rattle.fp_certificate_rules.proofs.FirstPoints.{first-paid, initial-paid}
use Rattle.fp_certificate_rules.proofs.KeptPrices.{beside-of}
use Rattle.fp_certificate_rules.proofs.UnitCosts.{at-all}
use Rattle.fp_checker.specs.Bounds.{IsLeafBoundBy}
use Rattle.fp_checker.proofs.GiftFaults.{prices-listed}
use Rattle.fp_checker.proofs.MomentBounds.{leaf_bound-same}

-- gifts in range are of arcs that exist
abbrev pub AreOfArcs : Problem → List Gift → Type 0
AreOfArcs p gifts = All (λ (gift : Gift). gift.arc < length p.arcs) gifts

pub of-arcs : (p : Problem) (gifts : List Gift) → All (IsGiftInRange p) gifts → AreOfArcs p gifts
of-arcs p gifts range = All-weaker (IsGiftInRange p) (λ (gift : Gift). gift.arc < length p.arcs) (λ gift is. is.arc) gifts range

-- spans and gifts that are listed can price leaves
listed-spans : (p : Problem) (spans : List ClassSpan) (gifts : List Gift) → All (IsSpanOf p) spans → AreListedBeside p spans gifts → AreSpans p spans
listed-spans p spans [] of are = record { ordered = are.ordered; exist = of; light = are.light }
listed-spans p spans (gift ∷ gifts) of are = record { ordered = are.ordered; exist = of; light = are.light }

listed-gifts : (p : Problem) (spans : List ClassSpan) (gifts : List Gift) → AreOfArcs p gifts → AreListedBeside p spans gifts → AreGifts p gifts
listed-gifts p spans [] of are = record { exist = of; light = search rules }
listed-gifts p spans (gift ∷ gifts) of are = record { exist = of; light = are.given.light }

module _ (p : Problem) (windows : ℕ → ℕ → Option Window) (first : ℕ → List ℕ) where
  -- none are listed and paid
  none-listed : IsSpanList p []
  none-listed = record { ordered = record { ascend = search rules; weights = search rules; moments = search rules }; light = search rules; money = tt }

  none-paid : (timed : Bool) → ArePricesBeside timed p windows first [] []
  none-paid false = record { list = none-listed; paid = search rules }
  none-paid true = none-listed

  -- so where those at each place are as they have to be, all are
  pub paid-by_places : (spans : List (List ClassSpan)) (gifts : List (List Gift)) (moments : List Bool) → length gifts ≡ length spans →
      ((k : ℕ) → k < length spans → ArePricesBeside (slice_index_or moments k false) p windows first (slice_index_or spans k []) (slice_index_or gifts k [])) → ArePaid p windows first spans gifts moments
  paid-by_places spans gifts moments same each id =
      ⊎_elim (λ (there : id - 1 < length spans). each (id - 1) there)
      (λ (past : length spans ≤ id - 1).
      subst (λ (s : List ClassSpan). ArePricesBeside (moments_of_table moments id) p windows first s (gifts_of_table gifts id)) (sym (get_or_past spans (id - 1) [] past))
      (subst (λ (g : List Gift). ArePricesBeside (moments_of_table moments id) p windows first [] g) (sym (get_or_past gifts (id - 1) [] (omega (arith, past, same)))) (none-paid (moments_of_table moments id))))
      (cases_lt (id - 1) (length spans))

-- no spans and no gifts can price leaves
no-spans : (p : Problem) → AreSpans p []
no-spans p = record { ordered = record { ascend = search rules; weights = search rules; moments = search rules }; exist = search rules; light = search rules }

no-gifts : (p : Problem) → AreGifts p []
no-gifts p = record { exist = search rules; light = search rules }

module _ (p : Problem) (table : WindowTable) (c : Statement) (range : IsInRange p c) (has : HasPrices p table c) where
  -- the spans beside each table of a certificate whose prices hold can
  pub beside-spans : (kind : Kind) → AreSpans p (spans_beside c.spans kind)
  beside-spans Linear = no-spans p
  beside-spans Even = no-spans p
  beside-spans (Table id) =
      listed-spans p (spans_of_table c.spans id) (gifts_of_table c.gifts id) (beside-of p c.spans range.spans id)
      (prices-listed p (windows_in table) (initial_points p table.anchors) (spans_of_table c.spans id) (gifts_of_table c.gifts id) (moments_of_table c.moments id) (has.spans id))

  -- and so can the gifts
  pub beside-gifts : (kind : Kind) → AreGifts p (gifts_beside c.gifts kind)
  beside-gifts Linear = no-gifts p
  beside-gifts Even = no-gifts p
  beside-gifts (Table id) =
      listed-gifts p (spans_of_table c.spans id) (gifts_of_table c.gifts id)
      (of-arcs p (gifts_of_table c.gifts id) (at-all (All (IsGiftInRange p)) c.gifts (id - 1) [] (search rules) range.gifts))
      (prices-listed p (windows_in table) (initial_points p table.anchors) (spans_of_table c.spans id) (gifts_of_table c.gifts id) (moments_of_table c.moments id) (has.spans id))

-- the spans and the gifts of a certificate are found to be paid by the first of its points exactly where they are paid by the initial ones
module _ (p : Problem) (table : WindowTable) (c : Statement) (v : TimePoints) (r : Result Bool AllocError) (belongs : BelongsTo p table) (range : IsInRange p c) (are : ArePointsOf p table.anchors c.points v) where
  pub told-paid : (spans : List (List ClassSpan)) (gifts : List (List Gift)) (moments : List Bool) → spans ≡ c.spans → gifts ≡ c.gifts → moments ≡ c.moments →
      IfOk r (λ paid. IsTrue paid ↔ ArePaid p (windows_in table) (first_points v) spans gifts moments) →
      IfOk r (λ paid. IsTrue paid ↔ ArePaid p (windows_in table) (initial_points p table.anchors) c.spans c.gifts c.moments)
  told-paid spans gifts moments same given timed found =
      IfOk-weaker r _ _
      (λ paid h.
      let told : IsTrue paid ↔ ArePaid p (windows_in table) (first_points v) c.spans c.gifts c.moments =
      subst (λ (ss : List (List ClassSpan)). IsTrue paid ↔ ArePaid p (windows_in table) (first_points v) ss c.gifts c.moments) same
      (subst (λ (gs : List (List Gift)). IsTrue paid ↔ ArePaid p (windows_in table) (first_points v) spans gs c.moments) given
      (subst (λ (ms : List Bool). IsTrue paid ↔ ArePaid p (windows_in table) (first_points v) spans gifts ms) timed h)) in (
        λ yes. first-paid p (windows_in table) table.anchors c.points v c.spans c.gifts c.moments belongs.valid range.points are range.spans (told.0 yes),
        λ all. told.1 (initial-paid p (windows_in table) table.anchors c.points v c.spans c.gifts c.moments belongs.valid range.points are range.spans all),
      ))
      found

module _ (p : Problem) (table : WindowTable) (c : Statement) (v : TimePoints) (sides : List Side) (price : LeafPrice) (found : Option LeafBound) (valid : IsValid p) (range : IsInRange p c) (has : HasPrices p table c) (are : ArePointsOf p table.anchors c.points v) where
  -- a bound over the points that were made is one over the certificate's
  told-bound : IsLeafBoundBy (by_moments c.moments price.kind) p (windows_in table) (λ terminal. points_at v terminal price.round) sides c.tables (spans_beside c.spans price.kind) (gifts_beside c.gifts price.kind) price.kind price.forced found →
      IsLeafBoundBy (by_moments c.moments price.kind) p (windows_in table) (points_as_of p table.anchors c price.round) sides c.tables (spans_beside c.spans price.kind) (gifts_beside c.gifts price.kind) price.kind price.forced found
  told-bound is =
      leaf_bound-same p (windows_in table) sides c.tables price.kind price.forced valid (spans_beside c.spans price.kind) (gifts_beside c.gifts price.kind) (beside-spans p table c range has price.kind).exist
      (recursion_from_All (λ (gift : Gift). gift.arc < length p.arcs) (gifts_beside c.gifts price.kind) (beside-gifts p table c range has price.kind).exist) (by_moments c.moments price.kind) (λ terminal. points_at v terminal price.round)
      (points_as_of p table.anchors c price.round) (λ terminal lt. are.same terminal price.round lt) found is

  -- so is one by the lists that were read
  pub read-bound : (timed : Bool) (tables : List (List ClassShare)) (spans : List ClassSpan) (gifts : List Gift) → timed ≡ by_moments c.moments price.kind → tables ≡ c.tables → spans ≡ spans_beside c.spans price.kind →
      gifts ≡ gifts_beside c.gifts price.kind → IsLeafBoundBy timed p (windows_in table) (λ terminal. points_at v terminal price.round) sides tables spans gifts price.kind price.forced found →
      IsLeafBoundBy (by_moments c.moments price.kind) p (windows_in table) (points_as_of p table.anchors c price.round) sides c.tables (spans_beside c.spans price.kind) (gifts_beside c.gifts price.kind) price.kind price.forced found
  read-bound timed tables spans gifts timed_is tables_are spans_are gifts_are is =
      let points : ℕ → List ℕ = λ terminal. points_at v terminal price.round in
      told-bound
      (subst (λ (gs : List Gift). IsLeafBoundBy (by_moments c.moments price.kind) p (windows_in table) points sides c.tables (spans_beside c.spans price.kind) gs price.kind price.forced found) gifts_are
      (subst (λ (ss : List ClassSpan). IsLeafBoundBy (by_moments c.moments price.kind) p (windows_in table) points sides c.tables ss gifts price.kind price.forced found) spans_are
      (subst (λ (ts : List (List ClassShare)). IsLeafBoundBy (by_moments c.moments price.kind) p (windows_in table) points sides ts spans gifts price.kind price.forced found) tables_are
      (subst (λ (b : Bool). IsLeafBoundBy b p (windows_in table) points sides tables spans gifts price.kind price.forced found) timed_is is))))
