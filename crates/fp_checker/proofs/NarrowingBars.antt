-- Bars by the lists that were read are those of the certificate's narrowing.
use Rattle.std.proofs.Common.{◌≡◌, ℕ, ◌<◌, Bool, List, ◌++◌, length, subst}
use Rattle.std.proofs.lemmas.List.Elements.{recursion_from_All}
use Rattle.fp_model.specs.Problem.{IsValid, Problem}
use Rattle.fp_timenodes.specs.Points.{TimePoints, points_at}
use Rattle.fp_flatnet.specs.Tables.{WindowTable, windows_in}
use Rattle.fp_tree.specs.declared.sides.Side.{Side}
use Rattle.fp_prices.specs.declared.leaf_prices.Kind.{Kind}
use Rattle.fp_prices.specs.Shares.{ClassShare}
use Rattle.fp_prices_gifts.specs.declared.gifts.Gift.{Gift}
use Rattle.fp_prices_gifts.specs.GiftKinds.{gifts_beside}
use Rattle.fp_prices_spans.specs.SpanKinds.{spans_beside}
use Rattle.fp_prices_spans.specs.Spans.{ClassSpan}
use Rattle.fp_certificate_lines.specs.declared.certificates.Narrowing.{Narrowing}
use Rattle.fp_certificate_lines.specs.Moments.{by_moments}
use Rattle.fp_certificate_lines.specs.Ranges.{IsInRange}
use Rattle.fp_certificate_lines.specs.Statements.{Statement}
use Rattle.fp_certificate_rules.specs.Leaves.{AreBarsBy, AreNarrowingBars, worth_of}
use Rattle.fp_certificate_rules.specs.Points.{ArePointsOf, points_as_of}
use Rattle.fp_certificate_rules.specs.Prices.{HasPrices}
use Rattle.fp_certificate_rules.specs.Units.{IsLeastAmount}
use Rattle.fp_checker.specs.LeafWays.{AskAlike}
use Rattle.fp_checker.proofs.NarrowedLeaves.{bars_by-points, bars_by-sides}
use Rattle.fp_checker.proofs.Spanned.{beside-gifts, beside-spans}

module _ (p : Problem) (table : WindowTable) (c : Statement) (v : TimePoints) (sides : List Side) (narrowing : Narrowing) (claim money : ℕ) (valid : IsValid p) (range : IsInRange p c) (has : HasPrices p table c) (are : ArePointsOf p table.anchors c.points v)
    (least : IsLeastAmount c.unit (worth_of claim narrowing) money) (bars : List Side) where
  abbrev kind : Kind
  kind = narrowing.price.kind

  abbrev forced : Bool
  forced = narrowing.price.forced

  -- over the points that were made
  abbrev made : ℕ → List ℕ
  made = λ terminal. points_at v terminal narrowing.price.round

  -- found over the points that were made, they are those over the certificate's, under sides that ask alike
  told-bars : (before own : List Side) → AskAlike sides (before ++ own) →
      AreBarsBy (by_moments c.moments kind) p (windows_in table) made sides c.tables (spans_beside c.spans kind) (gifts_beside c.gifts kind) kind forced money bars →
      AreNarrowingBars p table c claim before (record { narrowing = narrowing; sides = own }) bars
  told-bars before own alike found =
      let spans : List ClassSpan = spans_beside c.spans kind in
      let gifts : List Gift = gifts_beside c.gifts kind in
      let points : ℕ → List ℕ = points_as_of p table.anchors c narrowing.price.round in
      let timed : Bool = by_moments c.moments kind in
      record {
        money = money;
        least = least;
        are = bars_by-sides p (windows_in table) c.tables spans gifts kind forced money points sides (before ++ own) alike timed bars
            (bars_by-points p (windows_in table) c.tables spans gifts kind forced money valid (beside-spans p table c range has kind).exist
            (recursion_from_All (λ (gift : Gift). gift.arc < length p.arcs) gifts (beside-gifts p table c range has kind).exist) made points (λ terminal lt. are.same terminal narrowing.price.round lt) sides timed bars found);
      }

  -- so are those by the lists that were read
  pub read-bars : (timed : Bool) (tables : List (List ClassShare)) (spans : List ClassSpan) (gifts : List Gift) → timed ≡ by_moments c.moments kind → tables ≡ c.tables → spans ≡ spans_beside c.spans kind → gifts ≡ gifts_beside c.gifts kind →
      AreBarsBy timed p (windows_in table) made sides tables spans gifts kind forced money bars → (before own : List Side) → AskAlike sides (before ++ own) →
      AreNarrowingBars p table c claim before (record { narrowing = narrowing; sides = own }) bars
  read-bars timed tables spans gifts timed_is tables_are spans_are gifts_are found before own alike =
      told-bars before own alike
      (subst (λ (gs : List Gift). AreBarsBy (by_moments c.moments kind) p (windows_in table) made sides c.tables (spans_beside c.spans kind) gs kind forced money bars) gifts_are
      (subst (λ (ss : List ClassSpan). AreBarsBy (by_moments c.moments kind) p (windows_in table) made sides c.tables ss gifts kind forced money bars) spans_are
      (subst (λ (ts : List (List ClassShare)). AreBarsBy (by_moments c.moments kind) p (windows_in table) made sides ts spans gifts kind forced money bars) tables_are
      (subst (λ (b : Bool). AreBarsBy b p (windows_in table) made sides tables spans gifts kind forced money bars) timed_is found))))
