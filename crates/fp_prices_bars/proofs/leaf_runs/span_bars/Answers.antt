use Rattle.std.proofs.Common.{sym, subst}
use Rattle.std.specs.Prelude.{MatchOption, Option}
use Rattle.fp_model.specs.Problem.{Problem}
use Rattle.fp_flatnet.specs.Tables.{windows_in}
use Rattle.fp_longestarcs.specs.Networks.{points_in}
use Rattle.fp_prices.specs.LeafPricings.{PricingModel}
use Rattle.fp_prices_spans.specs.SpanBars.{AreBarsOf}
use Rattle.fp_prices_spans.specs.SpanLeaves.{IsSpanLeafEmpty}
use Rattle.fp_prices_bars.specs.declared.leaf_values.LeafValue.{LeafValue}
use Rattle.fp_prices_bars.specs.LeafValues.{IsLeafValueOf}
use Rattle.fp_prices_bars.proofs.Bars.{bars-none}
use Rattle.fp_prices_bars.proofs.ShipmentBars.{IsBarred, empty-unbarred}
use Rattle.fp_prices_bars.proofs.leaf_runs.span_bars.Goals as goal

pub returns : goal.returns
returns c =
    let m : PricingModel = record { leaf = c.args.leaf.now; tables = c.args.tables.now; kind = c.args.kind; forced = c.args.forced } in
    let spans = c.args.spans.now in
    let p : Problem = m.leaf.setting.problem in
    let IsEmpty : PricingModel → Type 0 = λ o. IsSpanLeafEmpty o.leaf.setting.problem (windows_in o.leaf.setting.windows) (points_in o.leaf.setting.network) o.leaf.sides spans in
    let told : MatchOption c.in_ok-value.field-0 (IsEmpty c.in_ok-pricing.pricing) (IsLeafValueOf c.in_ok-pricing.pricing spans) = c.in_ok-value.ensures in
    let empty : IsEmpty m = subst IsEmpty c.in_ok-pricing.ensures.is (subst (λ (o : Option LeafValue). MatchOption o (IsEmpty c.in_ok-pricing.pricing) (IsLeafValueOf c.in_ok-pricing.pricing spans)) c.in-None.is told) in
    subst (AreBarsOf p (points_in m.leaf.setting.network) (IsBarred m spans c.args.limit)) (sym c.new-in-None.ensures.items)
    (bars-none p (points_in m.leaf.setting.network) (IsBarred m spans c.args.limit) (empty-unbarred m spans c.args.limit empty))
